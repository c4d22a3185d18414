-- `arrivals::news_of` meets its contract. Assumes nothing.
use native.Mathlib.Omega.{arith}
use Rattle.arrivals.proofs.news_of.Goals as goal

pub returns-then-e-lt65536 : goal.returns-then-e-lt65536
returns-then-e-lt65536 c = omega arith

pub returns-else-e-lt65536 : goal.returns-else-e-lt65536
returns-else-e-lt65536 c = omega arith
