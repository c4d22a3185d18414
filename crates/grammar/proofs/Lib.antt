-- The computed cases, then the theorems; each file after those that it cites.
-- computed, part_texts-zero, part_texts-some: labels as they are written, name by name
pub mod Marks
-- cases, column-cases: the listing of README.md and texts for each refusal number and for columns, read
pub mod Texts
-- computed: answers and refusals, printed
pub mod Cases
-- The writing of the listing and of every kind of list, computed and compared byte by byte
pub mod Writings
-- decimal_digit, decimal-last, length-decimal: the last digit and those before it, and how many there are
pub mod Decimal
-- written→some, some→written, none→short, written-or-none-unique: what is printed in an area, or nothing
-- written→printed, printed→written, printed-within, printed-unique: the same for C; some-within: what is answered lies within the area
pub mod Areas
-- written-append, underway-start, -byte, -step, -end, lent-room: one text behind another in an area
pub mod Underway
-- fine-worse, fine-unless, fine-least, fine-below: a line has no fault exactly when none of its parts has one
pub mod Findings
-- items-say: a list has no fault exactly when its entries have none of their own, ascend, and are not too many
pub mod Items
-- T→true, when-past, onward→, literal→, rest→, ..: what a form's answer says of the steps that it is made of
pub mod Onwards
-- writes-placed, writes_as, writes-narrow, writes-pair, writes_items: forms put together are read back from their writings
pub mod Writes
-- writes-number, writes-word, writes-name: numbers, words and names
pub mod Atoms
-- added-legal, entries-legal: a label and its ascending entries give each other back
pub mod Entries
-- writes_label, writes-names, writes-pairs, writes-rules, writes-labels: labels and the lists
pub mod ListForms
-- →overlong, overlong→: too long is over 8,192 bytes
pub mod Lengths
-- line-ended, line_first, line_after, line-narrow: forms that are the whole of a line
pub mod LineForms
-- writes-term, writes-order: term lines and the order's line
pub mod TermLines
-- line→takes, walk→, one-line→, lines→, ends-walk: whole lines, one and so many that are read alike
pub mod Sections
-- legal-words, legal-bodies, legal-terms: what is taken line by line is legal, and what is legal is taken
pub mod LegalLines
-- accepted, written-injective: a text is accepted exactly if it is the writing of a legal description
pub mod Acceptance
-- exact-text-tested, exact-examples, unseen-examples: the test of an exact text is the definition, and texts of examples/
pub mod ExactTexts
-- ManyNames, read-as-before: what a text came to while a description had at most 12 names
pub mod FewNames
