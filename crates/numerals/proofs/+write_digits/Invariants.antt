-- The measure is the number.
-- Assumes nothing.
use Rattle.numerals.proofs.+write_digits.Given as goal

abbrev pub decreases-write_digits : goal.decreases-write_digits
decreases-write_digits l = l.n
