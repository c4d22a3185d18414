-- The log as it is written: the first of the new labels stand at the place, and the others are to come.
-- Assumes nothing.
use Rattle.std.specs.Prelude.{Result, Ok, Err}
use mathlib.Core.Path.{◌≡◌, refl, sym, ap, ap₂, ◌∙◌, ◌≡⟨◌⟩◌, ◌∎}
use mathlib.Core.Bool.{Bool, true, false, not}
use mathlib.Core.List.{List, ◌∷◌, ◌++◌}
use Prim.Native.Nat.{ℕ, suc, ◌+◌, ◌-◌, ◌≤◌, ◌<◌}
use native.Mathlib.Numerals.{add-one}
use native.Mathlib.Omega.{arith}
use borrow.Author.Tests.{le-leb, lt-leb}
use lib.ListN.{length, get_or, set, take, drop, length-drop, drop_of_length-le}
use lib.Seq.{drop-cons, length-take-le, take_all, paste, paste-suc}
use Rattle.labels.specs.declared.Label.{Label}
use Rattle.labels.specs.Packing.{code, packed}
use Rattle.labels.proofs.Codes.{code_of}
use Rattle.sets.specs.declared.TooLarge.{TooLarge}
use Rattle.parts.specs.Parts.{laid, words_of}
use Rattle.parts.proofs.LaidSets.{laid_nil}
use Rattle.sets.specs.Inserting.{present}
use Rattle.sets.specs.Building.{Grown}
use Rattle.merging.specs.Joining.{cut_to}
use Rattle.logs.specs.Logs.{less_of}

-- A whole list as a part of itself.
pub words-all : (ls : List ℕ) (end : ℕ) → end ≡ length ls → words_of end (record { from = 0; to = end }) ls ≡ ls
words-all ls end e = let h : length ls ≤ end = omega arith in ap (take end) (take_all end ls h) ∙ take_all end ls h

-- The first of a list is known, or it is new.
module _ (known ws : List ℕ) (w : ℕ) where
  pub less-known : present known w ≡ true → less_of known (w ∷ ws) ≡ less_of known ws
  unfolding less_of
  less-known e = rw (e, less_of)

  pub less-new : present known w ≡ false → less_of known (w ∷ ws) ≡ w ∷ less_of known ws
  unfolding less_of
  less-new e = rw (e, less_of)

-- what a test says that was turned round
turned : (t s : Bool) → not t ≡ s → t ≡ not s
turned true s e = ap not e
turned false s e = ap not e

module _ (known made : List ℕ) (at space : ℕ) (ls : List ℕ) where
  abbrev new : List ℕ
  new = less_of known made

  -- So many new labels are written, and so many labels are read.
  pub record Logging (now : List ℕ) (len i : ℕ) : Type 0 where
    pub words : now ≡ laid at (take len new) ls
    pub coming : drop len new ≡ less_of known (drop i made)
    pub count : (len ≤ space) × (len ≤ length new) × (space ≤ length ls - at)

  abbrev pub Logged : List ℕ → Result ℕ TooLarge → Type 0
  Logged now r = Grown (λ s. cut_to space new) at 0 ls now r

  pub logging-start : space ≤ length ls - at → Logging ls 0 0
  logging-start h = record { words = sym (laid_nil at ls); coming = refl; count = omega arith }

  module _ {now : List ℕ} {len i : ℕ} (x : Logging now len i) where
    laid-paste : (n : ℕ) → n ≤ length new → laid at (take n new) ls ≡ paste ls at new n
    unfolding laid
    laid-paste n h = ap (λ (k : ℕ). take at ls ++ take n new ++ drop (at + k) ls) (length-take-le n new h)

    -- all labels are read: those that are new are written
    pub logging-end : length made ≤ i → Logged now (Ok len)
    unfolding less_of
    logging-end h =
        let c = x.count in
        let none = x.coming ∙ ap (less_of known) (drop_of_length-le made {i = i} h) in
        let all : length new ≤ len = omega (arith, length-drop len new, ap length none) in
        let n : len ≡ length new = omega arith in
        record {
          answer = rw (le-leb (length new) space (omega arith), take_all space new (omega arith)) (ap Ok n);
          words = x.words ∙ ap (λ (s : List ℕ). laid at s ls) (take_all len new all ∙ sym (take_all space new (omega arith)));
        }

    module _ (more : i < length made) {label : Label} (read : label ≡ packed (get_or made i 0))
        {seen : Bool} (asked : seen ≡ present known (code label)) where
      read_next : drop i made ≡ code label ∷ drop (i + 1) made
      read_next = rw (add-one i, code_of read) (drop-cons made i 0 more)

      -- a label that is known is passed over
      pub logging-known : not seen ≡ false → Logging now len (i + 1)
      logging-known e = record {
        words = x.words;
        coming = x.coming ∙ ap (less_of known) read_next ∙ less-known known (drop (i + 1) made) (code label) (sym asked ∙ turned seen false e);
        count = x.count;
      }

      module _ (fresh : not seen ≡ true) where
        next : drop len new ≡ code label ∷ less_of known (drop (i + 1) made)
        next = x.coming ∙ ap (less_of known) read_next ∙ less-new known (drop (i + 1) made) (code label) (sym asked ∙ turned seen true fresh)

        within : len < length new
        within = omega (arith, length-drop len new, ap length next)

        first : drop len new ≡ get_or new len 0 ∷ drop (suc len) new
        first = drop-cons new len 0 within

        -- one that is new is written
        pub logging-step : len < space → Logging (set now (at + len) (code label)) (len + 1) (i + 1)
        logging-step h =
            let c = x.count in
            let both = sym first ∙ next in
            record {
              words =
                  set now (at + len) (code label)
                  ≡⟨ ap₂ (λ (m : List ℕ) (v : ℕ). set m (at + len) v) (x.words ∙ laid-paste len c.1) (cc) ⟩
                  set (paste ls at new len) (at + len) (get_or new len 0)
                  ≡⟨ paste-suc ls at new len 0 (omega arith) within ⟩ paste ls at new (suc len)
                  ≡⟨ ap (paste ls at new) (sym (add-one len)) ⟩ paste ls at new (len + 1)
                  ≡⟨ sym (laid-paste (len + 1) (omega (arith, within))) ⟩ laid at (take (len + 1) new) ls ∎;
              coming = rw (add-one len) (cc);
              count = omega (arith, within);
            }

        -- unless there is no room for it
        pub logging-full : space ≤ len → Logged now (Err (record {}))
        logging-full h =
            let c = x.count in
            let n : len ≡ space = omega arith in
            record {
              answer = rw (lt-leb (length new) space (omega (arith, within)));
              words = x.words ∙ ap (λ (k : ℕ). laid at (take k new) ls) n;
            }
