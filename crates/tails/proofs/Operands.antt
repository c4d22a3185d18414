-- What follows the word of a kind without a list: its name or its operands, and the end of the line.
-- Assumes nothing.
use mathlib.Core.Path.{◌≡◌, refl, sym, ap, subst, ◌∙◌}
use mathlib.Core.List.{List, [], ◌∷◌}
use mathlib.Core.Bool.{Bool, true, false}
use Prim.Native.Nat.{ℕ, suc, ◌+◌, ◌-◌, ◌%◌, ◌^◌, ◌≤◌, ◌<◌}
use native.Mathlib.Omega.{arith}
use lib.Dec.{eqb}
use lib.ListN.{length, drop, length-drop}
use borrow.Author.Tests.{lt-ltb, le-ltb}
use Rattle.meaning.specs.Bytes.{Text}
use Rattle.meaning.specs.Descriptions as D
use Rattle.meaning.specs.Rounds.{pick}
use Rattle.slots.specs.declared.Term.{Term}
use Rattle.slots.specs.declared.Term.TheVariants.{Delta, Tau, Act, Ref, Sum, Cond, Choice, IfElse, Seq, Merge, LMerge, Sync, Wrap}
use Rattle.table.specs.Terms.{IsPlain, bare_term}
use Rattle.table.specs.Encoded.{term_words, term_for}
use Rattle.slots.specs.Packing.{plain_of}
use Rattle.grammar.specs.Text.{Past, past, stuck, onward, Placed, placed, lf, ended, byte, starts, literal, number, word}
use Rattle.grammar.specs.Forms.{Places, Line, plain, acts, space, alone, of_name, operand, of_last, of_one, of_two}
use Rattle.grammar.specs.Faults.{name_number, name_fault, words_of_fault, term_fault}
use Rattle.labels.specs.Packing.{code}
use Rattle.faults.proofs.Ranks.{worse-fine}
use Rattle.words.specs.Steps.{Reading, Stands}
use Rattle.words.proofs.Rests.{sign-within, literal-other, literal-more}
use Rattle.words.proofs.Steps.{stops, become, back-stuck, back-past}
use Rattle.lists.specs.Entries.{said_of, seen, name_entry}
use Rattle.lists.specs.Tallies.{Said}
use Rattle.lists.specs.declared.Said as C
use Rattle.lists.specs.Lists.{overlaid}
use Rattle.lists.proofs.Parts.{name-low}
use Rattle.tails.specs.Lines.{LineTerm, LineRead, Storeless}
use Rattle.tails.specs.Plains.{PlainRead, made_of, plain_tail}
use Rattle.ranges.specs.declared.Bounds.{Bounds}
use Rattle.std.specs.Prelude.{Ok, Err}
use Rattle.tails.specs.declared.TermLine.{TermLine}

-- The LF that ends the line, or anything else.
pub ended_here : (text : Text) (at : ℕ) → starts lf (drop at text) ≡ true → past tt (drop (at + 1) text) ≡ ended (drop at text)
unfolding literal
ended_here text at f = literal-more lf [] text at f

pub ended-not : (text : Text) (at : ℕ) → starts lf (drop at text) ≡ false → stuck (drop at text) ≡ ended (drop at text)
ended-not text at f = literal-other lf [] (drop at text) f

-- the kinds without a list are plain
pick-plain : (b : Bool) (x y : Term) → IsPlain x → IsPlain y → IsPlain (pick b x y)
pick-plain true x y p q = p
pick-plain false x y p q = q

pub plain-kind : (k t u : ℕ) → IsPlain (plain_of k t u)
plain-kind k t u =
    pick-plain (eqb k 1) _ _ tt (pick-plain (eqb k 2) _ _ tt (pick-plain (eqb k 3) _ _ tt (pick-plain (eqb k 4) _ _ tt
    (pick-plain (eqb k 5) _ _ tt (pick-plain (eqb k 6) _ _ tt (pick-plain (eqb k 7) _ _ tt (pick-plain (eqb k 8) _ _ tt
    (pick-plain (eqb k 9) _ _ tt (pick-plain (eqb k 10) _ _ tt (pick-plain (eqb k 11) _ _ tt tt))))))))))

-- The number after a space, and the same with its place: one byte after the space's.
abbrev pub spaced : Text → Past ℕ
spaced s = onward (byte space s) (λ _ q. number q)

abbrev number_at : (from : ℕ) → ℕ → Text → Past (Placed ℕ)
number_at from n r = past (record { it = n; from = from }) r

spaced-placed : (s : Text) → onward (spaced s) (number_at (length s - 1)) ≡ operand s
unfolding literal
spaced-placed [] = refl
spaced-placed (b ∷ s) = cases (eqb space b) refl
  where
    cases : (t : Bool) → eqb space b ≡ t → onward (spaced (b ∷ s)) (number_at (suc (length s) - 1)) ≡ operand (b ∷ s)
    cases true e = let h : suc (length s) - 1 ≡ length s = omega arith in rw (e, literal, h)
    cases false e = rw (e, literal)

-- a term with nothing after it
abbrev pub alone-with : D.Term → Places → Text → Past Line
alone-with t at q = onward (ended q) (λ _ p. past (plain t at) p)

-- the places of one number, and of the second of two
abbrev pub once_at : ℕ → Places
once_at from = record { first = from; second = from }

abbrev pub second_at : ℕ → ℕ → Places
second_at first from = record { first = first; second = from }

-- The answers on a line, by the operand at a place of it: by the last one or the only one, and by the first of two.
module _ (line : Text) (at : ℕ) where
  pub operand_stuck : {p : ℕ} → Stands line p (stuck (drop p line)) (spaced (drop at line)) → Stands line p (stuck (drop p line)) (operand (drop at line))
  operand_stuck s = become (spaced-placed (drop at line)) (stops (number_at (length (drop at line) - 1)) s)

  pub operand_read : {t from : ℕ} {q : Text} → from ≡ length line - (at + 1) → past t q ≡ spaced (drop at line)
      → past (record { it = t; from = from }) q ≡ operand (drop at line)
  operand_read {t} {from} e s =
      let h : from ≡ length (drop at line) - 1 = omega (arith, length-drop at line) in
      rw h (ap (λ d. onward d (number_at (length (drop at line) - 1))) s ∙ spaced-placed (drop at line))

  module _ (make : ℕ → D.Term) (places : ℕ → Places) where
    abbrev after_last : Placed ℕ → Text → Past Line
    after_last t q = alone-with (make t.it) (places t.from) q

    pub last-stuck : {p : ℕ} → Stands line p (stuck (drop p line)) (spaced (drop at line))
        → Stands line p (stuck (drop p line)) (of_last make places (drop at line))
    unfolding of_last
    last-stuck s = stops after_last (operand_stuck s)

    pub last-read : {t from : ℕ} {q : Text} → from ≡ length line - (at + 1) → past t q ≡ spaced (drop at line)
        → alone-with (make t) (places from) q ≡ of_last make places (drop at line)
    unfolding of_last
    last-read e s = ap (λ d. onward d after_last) (operand_read e s)

  module _ (make : ℕ → ℕ → D.Term) where
    abbrev after_first : Placed ℕ → Text → Past Line
    after_first t q = of_last (make t.it) (second_at t.from) q

    pub two-stuck : {p : ℕ} → Stands line p (stuck (drop p line)) (spaced (drop at line))
        → Stands line p (stuck (drop p line)) (of_two make (drop at line))
    unfolding of_two
    two-stuck s = stops after_first (operand_stuck s)

    pub two-read : {t from : ℕ} {q : Text} → from ≡ length line - (at + 1) → past t q ≡ spaced (drop at line)
        → of_last (make t) (second_at from) q ≡ of_two make (drop at line)
    unfolding of_two
    two-read e s = ap (λ d. onward d after_first) (operand_read e s)

pub line-become : (words : List Text) (bounds : Bounds) (line : Text) {due other : Past Line} (before after : List ℕ) (r : Reading TermLine) → due ≡ other
    → LineRead words bounds line due before after r → LineRead words bounds line other before after r
line-become words bounds line before after r e h = subst (λ d. LineRead words bounds line d before after r) e h

-- A term of numbers alone, as a line: it is the term at any number, and it puts nothing into the store.
plain-bare : (n : ℕ) (x : Term) → IsPlain x → (x ≡ term_for n (bare_term x)) × (term_words (bare_term x) ≡ [])
plain-bare n Delta p = (refl, refl)
plain-bare n Tau p = (refl, refl)
plain-bare n (Act a) p = (refl, refl)
plain-bare n (Ref e) p = (refl, refl)
plain-bare n (Sum t) p = (refl, refl)
plain-bare n (Cond t) p = (refl, refl)
plain-bare n (Choice t u) p = (refl, refl)
plain-bare n (IfElse t u) p = (refl, refl)
plain-bare n (Seq t u) p = (refl, refl)
plain-bare n (Merge t u) p = (refl, refl)
plain-bare n (LMerge t u) p = (refl, refl)
plain-bare n (Sync t u) p = (refl, refl)
plain-bare n (Wrap o t) p = absurd p

over_nothing : (store : List ℕ) → store ≡ overlaid [] store
unfolding overlaid
over_nothing store = refl

-- what is due, in another form
module _ (bounds : Bounds) (line : Text) {due other : Past Line} (r : Reading TermLine) (e : due ≡ other) where
  pub plain-become : PlainRead bounds line due r → PlainRead bounds line other r
  plain-become h = subst (λ d. PlainRead bounds line d r) e h

  pub storeless-become : (words : List Text) → Storeless bounds words line due r → Storeless bounds words line other r
  storeless-become words h = subst (λ d. Storeless bounds words line d r) e h

plain-line : (bounds : Bounds) (words : List Text) (line : Text) (due : Past Line) (r : Reading TermLine) → PlainRead bounds line due r
    → Storeless bounds words line due r
unfolding words_of_fault term_fault
plain-line bounds words line due (Ok t) h store =
    record {
      line = plain (bare_term t.value.term) h.places;
      says = h.says;
      within = h.within;
      term = (plain-bare bounds.term t.value.term h.plainly).0;
      faults = h.faults;
      stored = λ _. rw (plain-bare bounds.term t.value.term h.plainly).1 (over_nothing store);
    }
plain-line bounds words line due (Err p) h store = h

pub plain→storeless : (bounds : Bounds) (line : Text) {due other : Past Line} (r : Reading TermLine) (e : due ≡ other) (words : List Text)
    → PlainRead bounds line due r → Storeless bounds words line other r
plain→storeless bounds line {due} r e words h = storeless-become bounds line r e words (plain-line bounds words line due r h)

-- What follows the word, by the kind's place.
module _ (k : ℕ) (s : Text) where
  pub tail-delta : k < 1 → alone D.delta s ≡ plain_tail k s
  tail-delta a = rw (lt-ltb k 1 a)

  pub tail-tau : 1 ≤ k → k < 2 → alone D.tau s ≡ plain_tail k s
  tail-tau a b = rw (le-ltb k 1 a, lt-ltb k 2 b)

  pub tail-act : 2 ≤ k → k < 3 → of_name s ≡ plain_tail k s
  tail-act a b = rw (le-ltb k 1 (omega arith), le-ltb k 2 a, lt-ltb k 3 b)

  pub tail-one : 3 ≤ k → k < 6 → of_one (made_of k 0) s ≡ plain_tail k s
  tail-one a b = rw (le-ltb k 1 (omega arith), le-ltb k 2 (omega arith), le-ltb k 3 a, lt-ltb k 6 b)

  pub tail-two : 6 ≤ k → of_two (made_of k) s ≡ plain_tail k s
  tail-two a = rw (le-ltb k 1 (omega arith), le-ltb k 2 (omega arith), le-ltb k 3 (omega arith), le-ltb k 6 a)

-- The answers on a line with a name: by the space before it, by the name, and by the end.
abbrev after-name : Placed Text → Text → Past Line
after-name w q = onward (ended q) (λ _ p. past (acts w) p)

abbrev after-space : Unit {0} → Text → Past Line
after-space u r = onward (placed word r) after-name

module _ (words : List Text) (line : Text) where
  abbrev Named : Past Said
  Named = seen (name_entry words) (placed word) (drop 1 line)

  pub act-no-space : starts space line ≡ false → Stands line 0 (stuck line) (of_name line)
  unfolding of_name
  act-no-space f = record { says = ap (λ d. onward d after-space) (literal-other space [] line f); within = omega arith }

  module _ (f : starts space line ≡ true) where
    beyond : {x : Past Line} → x ≡ onward (placed word (drop 1 line)) after-name → x ≡ of_name line
    unfolding of_name literal
    beyond e = e ∙ ap (λ d. onward d after-space) (literal-more space [] line 0 f)

    pub act-no-name : {t : Text} {p : ℕ} → Stands line p (stuck t) Named → Stands line p (stuck t) (of_name line)
    act-no-name s =
        record {
          says = beyond (ap (λ d. onward d after-name) (back-stuck (name_entry words) (placed word (drop 1 line)) s.says));
          within = s.within;
        }

    module _ (e : C.Said) {from next : ℕ} (s : Stands line next (past (said_of from e) (drop next line)) Named) where
      name : (w : Placed Text) × (past w (drop next line) ≡ placed word (drop 1 line)) × (said_of from e ≡ name_entry words w)
      name = back-past (name_entry words) (placed word (drop 1 line)) s.says

      ends : {x : Past (Unit {0})} → x ≡ ended (drop next line) → onward x (λ _ p. past (acts name.0) p) ≡ of_name line
      ends k = beyond (ap (λ d. onward d (λ _ p. past (acts name.0) p)) k ∙ ap (λ d. onward d after-name) name.1)

      pub act-no-end : starts lf (drop next line) ≡ false → Stands line next (stuck (drop next line)) (of_name line)
      act-no-end k = record { says = ends (ended-not line next k); within = s.within }

      -- (a name's number is at most that of the names)
      pub act-line : (bounds : Bounds) (store : List ℕ) {n : ℕ} → length words < 2 ^ 64 → n ≡ code e.first % 2 ^ 64 → starts lf (drop next line) ≡ true
          → LineTerm words bounds line (of_name line) store store (Act n) e.fault (next + 1)
      unfolding words_of_fault term_fault
      act-line bounds store {n} wide h k =
          let low = name-low words name.0.it in
          let number : n ≡ name_number words name.0.it = omega (arith, ap (λ d. d.first) name.2) in
          record {
            line = acts name.0;
            says = ends (ended_here line next k);
            within = omega (arith, sign-within lf line next k);
            term = ap Act number;
            faults = ap (λ d. d.found) name.2 ∙ sym (worse-fine (name_fault words name.0));
            stored = λ _. over_nothing store;
          }
