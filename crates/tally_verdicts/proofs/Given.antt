-- No verdict of a call is one that no call gives: whatever the text and the lengths of the areas, a tally takes the verdict in, or it is
-- full; it never says 18.
-- Assumes nothing.
use mathlib.Core.Path.{◌≡◌, refl}
use mathlib.Core.Bool.{true}
use Prim.Native.Nat.{ℕ}
use borrow.Author.Tests.{le-leb}
use lib.ListN.{length}
use Rattle.meaning.specs.Bytes.{Text}
use Rattle.meaning.specs.Answers.{Refusal, too_long, in_line, large, form, name, range, amount, refused}
use Rattle.meaning.proofs.Limits.{rounds-bound}
use Rattle.meaning.proofs.Listings.{listed-few}
use Rattle.rimecutter.specs.Calls.{Call, refusing, answering, call, verdict_of}
use Rattle.rimecutter.proofs.Texts.{call→origin}
use Rattle.tally.specs.Additions.{among, answer_given, refusal_given, given}
use Rattle.tally_verdicts.specs.Verdicts.{counted}

-- A refusal has one of the numbers that are counted, and neither labels nor rounds.
refusal-given : (r : Refusal) → given (counted (refused r)) ≡ true
unfolding given refusal_given among
refusal-given too_long = refl
refusal-given (in_line form line column) = refl
refusal-given (in_line name line column) = refl
refusal-given (in_line range line column) = refl
refusal-given (in_line amount line column) = refl
refusal-given large = refl

-- An answer is that of a description within the limits: it lists few labels, and its rounds have an end.
module _ (text : Text) (work answer : ℕ) where
  call-given : (c : Call) → call text work answer ≡ c → given (counted (verdict_of c)) ≡ true
  unfolding given answer_given
  call-given (refusing r) e = refusal-given r
  call-given (answering words rounds labels) e =
      let from = call→origin text words rounds labels work answer e in
      let lists = from.lists in
      rw (
        le-leb (length labels) 1024 (listed-few from.given from.order rounds labels lists),
        le-leb 1 rounds lists.counted.at_least,
        le-leb rounds 2049 (rounds-bound from.given rounds lists.within lists.counted),
      ) refl

  pub counted-given : given (counted (verdict_of (call text work answer))) ≡ true
  counted-given = call-given (call text work answer) refl
