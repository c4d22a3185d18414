-- New labels behind the end of the log: by what is written there, and by the room that is left.
-- Assumes nothing.
use Rattle.std.specs.Prelude.{Ok, Err}
use mathlib.Core.Path.{◌≡◌, ap, ◌∙◌}
use mathlib.Core.List.{List}
use Prim.Native.Nat.{ℕ, ◌+◌, ◌-◌, ◌≤◌}
use native.Mathlib.Omega.{arith}
use borrow.Author.Tests.{leb-true, leb-false}
use lib.Dec.{leb}
use lib.ListN.{length, take}
use lib.Seq.{take_all}
use Rattle.parts.specs.Parts.{laid}
use Rattle.sets.proofs.Steps.{built-holds, built-large}
use Rattle.logs.specs.Logs.{less_of, space_for, Logs}
use Rattle.advances.specs.Keeping.{Appended}

module _ (known made : List ℕ) (end : ℕ) (log : List ℕ) {log' : List ℕ} where
  all_there : {count : ℕ} → Logs known made end log log' (Ok count)
      → (length (less_of known made) ≤ space_for known end log) × (count ≡ length (less_of known made))
  all_there {count} x =
      let new = less_of known made in
      let space = space_for known end log in
      let p = built-holds (leb (length new) space) (length (take space new)) count x.answer in
      let h = leb-true (length new) space p.0 in
      (h, p.1 ∙ ap length (take_all space new h))

  pub logged-fits : {count : ℕ} → Logs known made end log log' (Ok count) → count ≤ length log - end
  logged-fits x = let p = all_there x in let q = p.0 in let r = p.1 in omega arith

  pub appended-all : {count : ℕ} → length log' ≡ length log → Logs known made end log log' (Ok count)
      → Appended known made end log log' (Ok (end + count))
  appended-all long x =
      let p = all_there x in
      let all = take_all (space_for known end log) (less_of known made) p.0 in
      record {
        long = long;
        right = λ h. (ap (λ (n : ℕ). end + n) p.1, x.words ∙ ap (λ (s : List ℕ). laid end s log) all, p.0);
      }

  pub appended-large : length log' ≡ length log → Logs known made end log log' (Err (record {})) → Appended known made end log log' (Err (record {}))
  appended-large long x =
      let new = less_of known made in
      let space = space_for known end log in
      record { long = long; right = λ h. leb-false (length new) space (built-large (leb (length new) space) (length (take space new)) x.answer) }
