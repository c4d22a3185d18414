-- `termlines::read_terms` meets its contract: the lines are read where there is room for them.
-- Assumes nothing.
use native.Mathlib.Omega.{arith}
use Rattle.sections.proofs.Given.{given-roomy, given-narrow}
use Rattle.termlines.proofs.StoredTerms.{terms-refused}
use Rattle.termlines.proofs.read_terms.Goals as goal

pub returns-then-line-gt-FIRST_LINE : goal.returns-then-line-gt-FIRST_LINE
returns-then-line-gt-FIRST_LINE c = given-narrow (λ room. omega (arith, c.if-line-gt-FIRST_LINE.true, room.0)) (terms-refused c.first_flaw-flaw.ensures)

pub returns-then-count-gt-TERMS : goal.returns-then-count-gt-TERMS
returns-then-count-gt-TERMS c = given-narrow (λ room. omega (arith, c.if-count-gt-TERMS.true, room.1)) (terms-refused c.first_flaw-flaw.ensures)

pub returns-then-table-lt-TABLE_WORDS : goal.returns-then-table-lt-TABLE_WORDS
returns-then-table-lt-TABLE_WORDS c = given-narrow (λ room. omega (arith, c.if-table-lt-TABLE_WORDS.true, room.2))
    (terms-refused c.first_flaw-flaw.ensures)

pub returns-then-lists-count : goal.returns-then-lists-count
returns-then-lists-count c = given-narrow (λ room. omega (arith, c.if-lists-count.true, room.3)) (terms-refused c.first_flaw-flaw.ensures)

pub take_terms-requires : goal.take_terms-requires
take_terms-requires c =
    (c.if-line-gt-FIRST_LINE.false, c.if-count-gt-TERMS.false, c.if-table-lt-TABLE_WORDS.false, omega (arith, c.if-lists-count.false))

pub returns : goal.returns
returns c =
    given-roomy (c.if-line-gt-FIRST_LINE.false, c.if-count-gt-TERMS.false, c.if-table-lt-TABLE_WORDS.false, omega (arith, c.if-lists-count.false))
    c.take_terms.ensures
