-- Labels brought to the start of the work area, and 0 behind them.
-- Assumes nothing.
use mathlib.Core.Path.{◌≡◌, refl, sym, ap, ap₂, ◌∙◌, ◌≡⟨◌⟩◌, ◌∎}
use mathlib.Core.Logic.{◌⊎◌, inl, inr}
use mathlib.Core.List.{List, [], ◌∷◌, ◌++◌, append-nil}
use Prim.Native.Nat.{ℕ, zero, suc, ◌+◌, ◌*◌, ◌-◌, ◌≤◌, ◌<◌}
use native.Mathlib.Nat.{zero-add, suc-add}
use native.Mathlib.Omega.{arith}
use native.Mathlib.Decide.{dec_lt}
use lib.ListN.{length, get_or, set, take, drop, replicate, length-drop, drop_of_length-le}
use lib.Seq.{take-nil, take_all, take_at, drop_at, drop-drop, length-slice, length-take-le, get_or-append-add, get_or-drop, get_or-take}
use Rattle.meaning.specs.Labels.{in_words}
use Rattle.meaning.proofs.Alike.{alike}
use Rattle.labels.specs.declared.Label.{Label}
use Rattle.labels.specs.Packing.{packed}
use Rattle.areas.specs.Areas.{zeroed, put}
use Rattle.areas.specs.Rows.{held}
use Rattle.areas.proofs.Held.{length-held, held-take, held-drop, held-append, held-in_words, length-in_words}
use Rattle.areas.proofs.Filling.{FillingLabels, labels-start, labels-step, labels-end}
use Rattle.areas.proofs.Zeroes.{zeroed-front}
use Rattle.parts.specs.declared.Part.{Part}
use Rattle.parts.specs.Parts.{part}
use Rattle.keeping.specs.Settling.{whole, whole_labels, alone, Settled}

part-taken : (ls : List ℕ) (from n : ℕ) → part from (from + n) ls ≡ take n (drop from ls)
part-taken ls zero n = ap (λ (k : ℕ). take k ls) (zero-add n)
part-taken [] (suc from) n = ap (drop (suc from)) (take-nil (suc from + n)) ∙ sym (take-nil n)
part-taken (x ∷ ls) (suc from) n = ap (λ (k : ℕ). drop (suc from) (take k (x ∷ ls))) (suc-add from n) ∙ part-taken ls from n

-- So many labels brought. What is read is further on than what was written.
pub record Bringing (work₀ : List ℕ) (from count : ℕ) (work : List ℕ) (i : ℕ) : Type 0 where
  pub source : from + count ≤ length (held work₀)
  pub fill : FillingLabels (take count (drop from (held work₀))) work₀ work i

so-many : (work : List ℕ) (from count : ℕ) → from + count ≤ length (held work) → length (take count (drop from (held work))) ≡ count
so-many work from count h = length-take-le count (drop from (held work)) (omega (arith, length-drop from (held work)))

module _ {work₀ : List ℕ} {from count : ℕ} where
  pub bringing-start : from + count ≤ length (held work₀) → Bringing work₀ from count work₀ 0
  bringing-start h =
      record { source = h; fill = labels-start (take count (drop from (held work₀))) work₀ (omega (arith, so-many work₀ from count h, length-held work₀)) }

  module _ {work : List ℕ} {i : ℕ} (c : Bringing work₀ from count work i) where
    pub bringing-room : i < count → (from + i < length work) × (2 * i + 1 < length work)
    bringing-room h = omega (arith, c.source, c.fill.same, length-held work₀)

    -- the label that is read next is still there
    there : i < count → get_or (held work) (from + i) 0 ≡ get_or (take count (drop from (held work₀))) i 0
    there h =
        let vs = take count (drop from (held work₀)) in
        let many = so-many work₀ from count c.source in
        let words = take (2 * i) (in_words vs) in
        let long : length words ≡ 2 * i = length-take-le (2 * i) (in_words vs) (omega (arith, length-in_words vs)) in
        let place : length (take i vs) + from ≡ from + i = omega (arith, length-take-le i vs (omega arith)) in
        let labels : held work ≡ take i vs ++ drop i (held work₀) =
        ap held (c.fill.words ∙ ap (λ (n : ℕ). words ++ drop n work₀) long)
        ∙ held-append i words (drop (2 * i) work₀) long
        ∙ ap₂ (λ (x y : List ℕ). x ++ y) (held-take i (in_words vs) ∙ ap (take i) (held-in_words vs)) (held-drop i work₀) in
        get_or (held work) (from + i) 0
        ≡⟨ ap₂ (λ (l : List ℕ) (j : ℕ). get_or l j 0) labels (sym place) ⟩ get_or (take i vs ++ drop i (held work₀)) (length (take i vs) + from) 0
        ≡⟨ get_or-append-add (take i vs) (drop i (held work₀)) from 0 ∙ get_or-drop i (held work₀) from 0 ⟩ get_or (held work₀) (i + from) 0
        ≡⟨ ap (λ (j : ℕ). get_or (held work₀) j 0) (omega arith) ∙ sym (get_or-drop from (held work₀) i 0) ⟩ get_or (drop from (held work₀)) i 0
        ≡⟨ sym (get_or-take count (drop from (held work₀)) i 0 h) ⟩ get_or vs i 0 ∎

    pub bringing-step : i < count → {label : Label} → label ≡ packed (get_or (held work) (from + i) 0)
        → Bringing work₀ from count (set (set work (2 * i) label.lower) (2 * i + 1) label.upper) (i + 1)
    bringing-step h {label} e =
        let many = so-many work₀ from count c.source in
        record {
          source = c.source;
          fill = labels-step (take count (drop from (held work₀))) work₀ work i label c.fill (omega arith) (e ∙ ap packed (there h));
        }

    pub bringing-end : count ≤ i → work ≡ put (in_words (take count (drop from (held work₀)))) work₀
    bringing-end h = labels-end (take count (drop from (held work₀))) work₀ work i c.fill (omega (arith, so-many work₀ from count c.source))

abbrev labels_in : Part → List ℕ → List ℕ
labels_in p work = part p.from p.to (held work)

none : (l : List ℕ) → length l ≡ 0 → l ≡ []
none [] e = refl
none (x ∷ l) e = absurd (omega arith)

-- A part that is not within what is used; one without labels; one that is brought.
pub record Within (p : Part) (work : List ℕ) : Type 0 where
  pub room : whole ≤ length work
  pub end : p.to ≤ whole_labels

pub settled-outside : {p : Part} {work : List ℕ} → (length work < whole) ⊎ (whole_labels < p.to) → Settled p work work 0
settled-outside h =
    record {
      outside = λ x. (refl, refl);
      within = λ room end. absurd (elim h [ inl a ↦ (omega arith) | inr a ↦ (omega arith) ]);
    }

module _ {p : Part} {work : List ℕ} (u : Within p work) where
  settled-within : {work' : List ℕ} {r : ℕ} → r ≡ p.to - p.from → work' ≡ alone (in_words (labels_in p work)) work → Settled p work work' r
  settled-within e w =
      record {
        outside = λ x. absurd (elim x [ inl a ↦ omega (arith, u.room) | inr a ↦ omega (arith, u.end) ]);
        within = λ room end. (e, w);
      }

  size : length (labels_in p work) ≡ p.to - p.from
  size = length-slice p.from p.to (held work) (omega (arith, u.room, u.end, length-held work))

  pub settled-none : {work' : List ℕ} → p.to ≤ p.from → work' ≡ zeroed whole work → Settled p work work' 0
  unfolding in_words
  settled-none h e =
      let empty : labels_in p work ≡ [] = none (labels_in p work) (size ∙ omega arith) in
      settled-within (omega arith) (e ∙ zeroed-front whole work u.room ∙ ap (λ (s : List ℕ). alone (in_words s) work) (sym empty))

  module _ {count : ℕ} {now : List ℕ} (c : count ≡ p.to - p.from) (h : p.from < p.to)
      (b : now ≡ put (in_words (take count (drop p.from (held work)))) work) where
    long : length (in_words (labels_in p work)) ≡ 2 * count
    long = length-in_words (labels_in p work) ∙ ap (λ (n : ℕ). 2 * n) (size ∙ sym c)

    now-root : now ≡ in_words (labels_in p work) ++ drop (2 * count) work
    now-root =
        let end : p.from + count ≡ p.to = omega arith in
        let taken : take count (drop p.from (held work)) ≡ labels_in p work =
        sym (part-taken (held work) p.from count) ∙ ap (λ (z : ℕ). part p.from z (held work)) end in
        b ∙ ap (λ (s : List ℕ). put (in_words s) work) taken ∙ ap (λ (n : ℕ). in_words (labels_in p work) ++ drop n work) long

    cleared : zeroed (whole - 2 * count) (drop (2 * count) work) ≡ replicate (whole - length (in_words (labels_in p work))) 0 ++ drop whole work
    cleared =
        let n = 2 * count in
        let all : n + (whole - n) ≡ whole = omega (arith, u.end) in
        let rest = drop-drop (whole - n) n work ∙ ap (λ (z : ℕ). drop z work) all in
        zeroed (whole - n) (drop n work)
        ≡⟨ zeroed-front (whole - n) (drop n work) (omega (arith, length-drop n work, u.room)) ⟩
        replicate (whole - n) 0 ++ drop (whole - n) (drop n work)
        ≡⟨ ap (λ (l : List ℕ). replicate (whole - n) 0 ++ l) rest ⟩ replicate (whole - n) 0 ++ drop whole work
        ≡⟨ ap (λ (z : ℕ). replicate (whole - z) 0 ++ drop whole work) (sym long) ⟩
        replicate (whole - length (in_words (labels_in p work))) 0 ++ drop whole work ∎

    -- the words behind the set are lent, cleared and come back
    pub settled-set : (k : ℕ) {behind work' : List ℕ}
        → behind ≡ zeroed (whole - 2 * count) (take k (drop (2 * count) now))
        → work' ≡ take (2 * count) now ++ (behind ++ drop k (drop (2 * count) now))
        → length now ≤ 2 * count + k
        → Settled p work work' count
    settled-set k {behind} {work'} z w fits =
        let root = in_words (labels_in p work) in
        let n = 2 * count in
        let front : take n now ≡ root = ap (take n) now-root ∙ take_at root (drop n work) n long in
        let back : drop n now ≡ drop n work = ap (drop n) now-root ∙ drop_at root (drop n work) n long in
        let end : length (drop n now) ≤ k = omega (arith, length-drop n now) in
        let lent : take k (drop n now) ≡ drop n work = take_all k (drop n now) end ∙ back in
        let none : drop k (drop n now) ≡ [] = drop_of_length-le (drop n now) end in
        let after : behind ++ drop k (drop n now) ≡ zeroed (whole - n) (drop n work) =
        ap (λ (l : List ℕ). behind ++ l) none ∙ append-nil behind ∙ z ∙ ap (zeroed (whole - n)) lent in
        let words : work' ≡ alone root work =
        work'
        ≡⟨ w ⟩ take n now ++ (behind ++ drop k (drop n now))
        ≡⟨ ap₂ (λ (a b : List ℕ). a ++ b) front after ⟩ root ++ zeroed (whole - n) (drop n work)
        ≡⟨ ap (λ (l : List ℕ). root ++ l) cleared ⟩ alone root work ∎ in
        settled-within c words

-- What is promised settles the count and every word.
pub settled-unique : {p : Part} {work work₁ work₂ : List ℕ} {r₁ r₂ : ℕ}
    → Settled p work work₁ r₁
    → Settled p work work₂ r₂
    → (r₁ ≡ r₂) × (work₁ ≡ work₂)
settled-unique {p} {work} a b = elim (dec_lt (length work) whole) [
  | yes h ↦ both (a.outside (inl h)) (b.outside (inl h))
  | no h ↦ elim (dec_lt whole_labels p.to) [
    | yes l ↦ both (a.outside (inr l)) (b.outside (inr l))
    | no l ↦ both (a.within (omega arith) (omega arith)) (b.within (omega arith) (omega arith))
  ]
]
  where
    both : {r₁ r₂ r : ℕ} {w₁ w₂ w : List ℕ} → (r₁ ≡ r) × (w₁ ≡ w) → (r₂ ≡ r) × (w₂ ≡ w) → (r₁ ≡ r₂) × (w₁ ≡ w₂)
    both x y = (alike x.0 y.0, alike x.1 y.1)
