-- The laws of columns, each file after those that it cites.
-- Passed, Halted, Lawful: what a form makes of a text it makes of every text that begins alike, and where it is stuck some text goes on
-- to its end; then-lawful: so does one form after another
pub mod Runs
-- literal-lawful, number-lawful, word-lawful: the forms of which all others are made
pub mod Signs
-- list_lawful: lists
pub mod Lists
-- kinds-lawful: a choice by words, of which none begins with another
pub mod Alternatives
-- unless-lawful: a word that is all that is left of a line, beside a form that reads the word and not the line
pub mod Exceptions
-- like-then, word-then, before-sign: forms that say something, against forms that say nothing
pub mod Likeness
-- words-lawful, pairs-lawful, rules-lawful, labels-lawful: the lists of a line
pub mod Entries
-- line-lawful: every line that can be due
pub mod Lines
-- longest: a line that is due and stuck has gone on as far as any line of its form does; longest-unique: there is one such place
pub mod Farthest
-- number-inside, word-inside, entries-inside, labels-inside: what a line is made of reads no LF
pub mod Inside
-- line-ends: a line of right form holds one LF, at its end
pub mod LineEnds
-- longest-line: so the longest beginning is one of the line, whatever follows it
pub mod FirstLines
-- term-formed, order-formed: a line of right form has no fault of form
pub mod Findings
-- stuck-column: the column of a line that is due and stuck; fair-line, fair-count, fair-lines: the lines of a plan, as they are read
pub mod Reading
-- wrong-text: the line and the column with which a text is refused for its form
pub mod Texts
-- wrong-unique: a text has one such line and one such column
pub mod Plans
-- Told: what is found decides all faults, which lie between two places; told-worse: of two such findings the worse is such a one
pub mod Deciding
-- list-told: so is what is found of a list, if each of its entries lies behind the one before it
pub mod Falling
-- words-told, pairs-told, rules-told, labels-told: the lists of a line, as they are read
pub mod Placing
-- term-leftmost, order-leftmost: the smallest number decides first, then its leftmost place
pub mod Leftmost
