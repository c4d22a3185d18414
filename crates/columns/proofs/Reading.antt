-- Lines as they are read: one that is due and stuck has the column behind its longest beginning.
-- Assumes nothing.
use mathlib.Core.Path.{◌≡◌, refl, sym, ap, subst, ◌∙◌}
use mathlib.Core.Bool.{Bool, true, false}
use mathlib.Core.List.{◌∷◌}
use Prim.Native.Nat.{ℕ, zero, suc, ◌+◌, ◌-◌}
use native.Mathlib.Omega.{arith}
use lib.Dec.{T}
use lib.ListN.{length, length-append}
use Rattle.meaning.specs.Bytes.{Text}
use Rattle.meaning.specs.Answers.{Fault, form}
use Rattle.grammar.specs.Text.{Past, past, stuck, Placed, placed, ended, number}
use Rattle.grammar.specs.Forms.{count_line}
use Rattle.grammar.specs.Faults.{Found, fine, fault}
use Rattle.grammar.specs.Reading.{Taken, taken, faulty, taken_if, taken_unless, formed, take_number, Walk, reached, halted, walk, after_line, one_line}
use Rattle.grammar.specs.Reading.{lines, Whole}
use Rattle.grammar.proofs.Onwards.{When, when-past, onward→, literal→}
use Rattle.columns.specs.Farthest.{Due, count, Said, form_of, in_line, first_line, KeyInLine, Longest}
use Rattle.columns.specs.Plans.{Plan, counted, due, times, expect, Wrong, no_line, out_of_range, later}
use Rattle.columns.proofs.Runs.{stuck-past}
use Rattle.columns.proofs.FirstLines.{longest-line}
use Rattle.columns.proofs.Findings.{Other, Formed}

-- A line that is due and stuck: its column is behind the longest beginning.
pub stuck-column : {B : Type 0} (d : Due) → KeyInLine d → (more : Said d → Text → Taken B) (line : ℕ) (s t : Text) → form_of d s ≡ stuck t
    → (k : ℕ) × Longest (form_of d) (first_line s) k
    × (after_line line s (formed (form_of d s) more) ≡ halted (record { fault = form; column = suc k }) line)
stuck-column d i more line s t e = (length s - length t, longest-line d i s t e, rw e)

stuck-wrong : (d : Due) → KeyInLine d → {fits : Said d → Bool} {after : Said d → Plan} {next : ℕ} (s t : Text) → form_of d s ≡ stuck t
    → Wrong (expect d fits after) next s next (suc (length s - length t))
stuck-wrong d i s t e = no_line (λ a r k. stuck-past (sym e ∙ k)) (longest-line d i s t e)

-- What is made of a line of right form: the text behind it is left, or its fault is not one of form.
abbrev pub Keeps : {B : Type 0} → Text → Taken B → Type 0
Keeps r (taken b q) = q ≡ r
Keeps r (faulty x from) = Other x

pub keeps-if : {B : Type 0} (t : Bool) (x : Fault) (from : ℕ) (b : B) (r : Text) → Other x → Keeps r (taken_if t x from b r)
keeps-if true x from b r h = refl
keeps-if false x from b r h = h

pub keeps-unless : {B : Type 0} (f : Found) (b : B) (r : Text) → Formed f → Keeps r (taken_unless f b r)
keeps-unless fine b r h = refl
keeps-unless (fault x from) b r h = h.other x from refl

-- A walk that goes by a plan: where it halts for a fault of form, or leaves bytes behind the last line, the text is wrong there.
abbrev pub Fair : Plan → ℕ → Text → Walk Whole → Type 0
Fair plan next s (reached a line r) = (b : ℕ) (x : Text) → r ≡ b ∷ x → Wrong plan next s line 1
Fair plan next s (halted f line) = f.fault ≡ form → Wrong plan next s line f.column

fair-behind : (plan rest : Plan) (next : ℕ) (s r : Text) → ((bad column : ℕ) → Wrong rest (suc next) r bad column → Wrong plan next s bad column)
    → (w : Walk Whole) → Fair rest (suc next) r w → Fair plan next s w
fair-behind plan rest next s r k (reached a line q) h = λ b x i. k line 1 (h b x i)
fair-behind plan rest next s r k (halted f line) h = λ i. k line f.column (h i)

-- A line that is due.
module _ {B : Type 0} (d : Due) (key : KeyInLine d) (plan : Plan) (next : ℕ) (go : B → ℕ → Text → Walk Whole)
    (h : (b : B) (r : Text) → Fair plan (suc next) r (go b (suc next) r)) where
  fair-taken : (s r : Text) (a : Said d) → form_of d s ≡ past a r → (t : Taken B) → Keeps r t → Fair (due d plan) next s (walk (after_line next s t) go)
  fair-taken s r a e (taken b q) k =
      fair-behind (due d plan) plan next s q (λ bad column. later (e ∙ ap {B = Past (Said d)} (past a) (sym k)) refl) (go b (suc next) q) (h b q)
  fair-taken s r a e (faulty x from) k = λ i. absurd (k i)

  pub fair-line : (s : Text) (more : Said d → Text → Taken B) → ((a : Said d) (r : Text) → Keeps r (more a r))
      → Fair (due d plan) next s (walk (after_line next s (formed (form_of d s) more)) go)
  fair-line s more k = by (form_of d s) refl
    where
      by : (m : Past (Said d)) → form_of d s ≡ m → Fair (due d plan) next s (walk (after_line next s (formed m more)) go)
      by (past a r) e = fair-taken s r a e (more a r) (k a r)
      by (stuck t) e = λ _. stuck-wrong d key s t e

-- A count: its number begins behind its key.
always : {A : Type 0} (m : Past A) → When m (λ a r. Unit {0})
always m = record { holds = λ a r e. tt }

placed-from : {A : Type 0} (F : Text → Past A) (s : Text) → When (placed F s) (λ n r. n.from ≡ length s)
placed-from F s = onward→ (always (F s)) (λ a r _. when-past refl)

count-from : (key s : Text) → When (count_line key s) (λ n r. length s ≡ length key + n.from)
unfolding count_line
count-from key s =
    onward→ (literal→ key s) (λ _ q e.
    onward→ (placed-from number q) (λ n r i.
    onward→ (always (ended r)) (λ _ p _. when-past (ap length e ∙ length-append key q ∙ ap (λ k. length key + k) (sym i)))))

module _ (key : Text) (is_one_line : T (in_line key)) (within : ℕ → Bool) (plan : ℕ → Plan) (next : ℕ) (go : ℕ → ℕ → Text → Walk Whole)
    (h : (n : ℕ) (r : Text) → Fair (plan n) (suc next) r (go n (suc next) r)) where
  fair-number : (s r : Text) (n : Placed ℕ) → count_line key s ≡ past n r → (t : Bool) → within n.it ≡ t
      → Fair (counted key within plan) next s (walk (after_line next s (taken_if t form n.from n.it r)) go)
  fair-number s r n e true k =
      fair-behind (counted key within plan) (plan n.it) next s r (λ bad column. later e k) (go n.it (suc next) r) (h n.it r)
  fair-number s r n e false k =
      let c : length key ≡ length s - n.from = omega (arith, (count-from key s).holds n r e) in
      λ _. subst (λ c. Wrong (counted key within plan) next s next (suc c)) c (out_of_range e k)

  pub fair-count : (s : Text) → Fair (counted key within plan) next s (walk (one_line (take_number key within form) next s) go)
  unfolding take_number
  fair-count s = by (count_line key s) refl
    where
      by : (m : Past (Placed ℕ)) → count_line key s ≡ m
          → Fair (counted key within plan) next s (walk (after_line next s (formed m (λ n. taken_if (within n.it) form n.from n.it))) go)
      by (past n r) e = fair-number s r n e (within n.it) refl
      by (stuck t) e = λ _. stuck-wrong (count key) is_one_line s t e

-- So many lines that are read alike.
walk-walk : {A B C : Type 0} (w : Walk A) (f : A → ℕ → Text → Walk B) (g : B → ℕ → Text → Walk C)
    → walk (walk w f) g ≡ walk w (λ a line s. walk (f a line s) g)
walk-walk (reached a line s) f g = refl
walk-walk (halted x line) f g = refl

module _ {B : Type 0} (d : Due) (key : KeyInLine d) (plan : Plan) (take : B → Text → Taken B) (more : B → Said d → Text → Taken B)
    (same : (b : B) (s : Text) → take b s ≡ formed (form_of d s) (more b)) (keeps : (b : B) (a : Said d) (r : Text) → Keeps r (more b a r))
    (go : B → ℕ → Text → Walk Whole) (h : (b : B) (next : ℕ) (r : Text) → Fair plan next r (go b next r)) where
  pub fair-lines : (n : ℕ) (b : B) (next : ℕ) (s : Text) → Fair (times n d plan) next s (walk (lines take n b next s) go)
  unfolding lines
  fair-lines zero b next s = h b next s
  fair-lines (suc n) b next s =
      rw (walk-walk (one_line (take b) next s) (lines take n) go, same b s)
      (fair-line d key (times n d plan) next (λ b line s. walk (lines take n b line s) go) (λ b r. fair-lines n b (suc next) r) s (more b) (keeps b))
