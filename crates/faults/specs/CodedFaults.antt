-- Which fault of the definitions each fault of the code is, with its place or its column, and which of the code each of theirs. Every demand
-- about a refused description rests on this: the number that is printed is `fault_number` of it.
-- Assumes nothing.
use Rattle.std.specs.Prelude.{Option, Some, None}
use Rattle.meaning.specs.Answers.{Fault, form, name, range, amount}
use Rattle.grammar.specs.Faults.{Found, fine, fault}
use Rattle.grammar.specs.Reading.{Flaw}
use Rattle.faults.specs.declared.Fault as F
use Rattle.faults.specs.declared.Fault.TheVariants.{Form, Name, Range, Amount}
use Rattle.faults.specs.declared.FaultAt.{FaultAt}
use Rattle.faults.specs.declared.Flaw as C

abbrev pub fault_of : F.Fault → Fault
fault_of Form = form
fault_of Name = name
fault_of Range = range
fault_of Amount = amount

abbrev pub found_of : Option FaultAt → Found
found_of None = fine
found_of (Some f) = fault (fault_of f.fault) f.from

abbrev pub flaw_of : C.Flaw → Flaw
flaw_of f = record { fault = fault_of f.fault; column = f.column }

abbrev pub fault_for : Fault → F.Fault
fault_for form = Form
fault_for name = Name
fault_for range = Range
fault_for amount = Amount

abbrev pub flaw_for : Flaw → C.Flaw
flaw_for f = record { fault = fault_for f.fault; column = f.column }
