-- Sets laid in a list: what is read of them, and what one laid over another leaves; and parts that stand before a place.
-- Assumes nothing.
use mathlib.Core.Path.{◌≡◌, refl, sym, ap, ap₂, ◌∙◌, ◌≡⟨◌⟩◌, ◌∎}
use mathlib.Core.List.{List, [], ◌∷◌, ◌++◌, append_assoc, append-nil}
use Prim.Native.Nat.{ℕ, ◌+◌, ◌-◌, ◌≤◌, ◌<◌, min}
use native.Mathlib.Nat.{le_refl}
use native.Mathlib.Decide.{dec_le}
use native.Mathlib.Omega.{arith}
use lib.ListN.{length, get_or, take, drop, length-append, length-take, length-drop, take-append-drop, get_or-append}
use lib.Seq.{get_or-take, get_or-drop, take_all, take-take, drop-drop, take_at, drop_at, length-take-le}
use Rattle.parts.specs.Parts.{part_before, set_at, laid, reach_of}

-- A set of a given length at a place.
pub length-set_at : (at len : ℕ) (ls : List ℕ) → length (set_at at len ls) ≡ reach_of at len (length ls)
length-set_at at len ls = length-take len (drop at ls) ∙ ap (min len) (length-drop at ls)

pub get_d-set_at : (at len : ℕ) (ls : List ℕ) (i : ℕ) → i < len → get_or (set_at at len ls) i 0 ≡ get_or ls (at + i) 0
get_d-set_at at len ls i h = get_or-take len (drop at ls) i 0 h ∙ get_or-drop at ls i 0

take_min : (n : ℕ) (l : List ℕ) → take (min n (length l)) l ≡ take n l
take_min n l = elim (dec_le n (length l)) [
  | yes h ↦ let e : min n (length l) ≡ n = omega arith in rw e
  | no h ↦
      let e : min n (length l) ≡ length l = omega arith in
      rw e (take_all (length l) l (le_refl (length l)) ∙ sym (take_all n l (omega arith)))
]

pub set_at-reach : (at len : ℕ) (ls : List ℕ) → set_at at (reach_of at len (length ls)) ls ≡ set_at at len ls
set_at-reach at len ls = ap (λ (n : ℕ). take (min len n) (drop at ls)) (sym (length-drop at ls)) ∙ take_min len (drop at ls)

-- A part before a place, by its end in the list.
take-both : (m n : ℕ) (l : List ℕ) → take m (take n l) ≡ take (min m n) l
take-both m n l = elim (dec_le m n) [
  | yes h ↦ let e : min m n ≡ m = omega arith in rw e (take-take m n l h)
  | no h ↦ let e : min m n ≡ n = omega arith in rw e (take_all m (take n l) (rw (length-take n l) (omega arith)))
]

pub part_end : (at from to : ℕ) (ls : List ℕ) → part_before at from to ls ≡ drop from (take (min (min to at) (length ls)) ls)
part_end at from to ls = ap (drop from) (take-both to at ls ∙ sym (take_min (min to at) ls))

-- A set fits at a place.
abbrev pub Fits : ℕ → List ℕ → List ℕ → Type 0
Fits at s ls = length s ≤ length ls - at

pub laid_nil : (at : ℕ) (ls : List ℕ) → laid at [] ls ≡ ls
unfolding laid
laid_nil at ls =
    let e : at + 0 ≡ at = omega arith in rw (append-nil (take at ls), e) (take-append-drop at ls)

no_label : (s : List ℕ) → length s ≤ 0 → s ≡ []
no_label [] h = refl
no_label (x ∷ s) h = absurd (omega arith)

pub length-laid : (at : ℕ) (s ls : List ℕ) → Fits at s ls → length (laid at s ls) ≡ length ls
unfolding laid
length-laid at s ls h =
    simp (length-append, length-take, length-drop) (omega arith)

pub get_d-laid : (at : ℕ) (s ls : List ℕ) (i : ℕ) → i < at → i < length ls → get_or (laid at s ls) i 0 ≡ get_or ls i 0
unfolding laid
get_d-laid at s ls i h k =
    let rest = drop (at + length s) ls in
    let l : i < length (take at ls) = rw (length-take at ls) (omega arith) in
    get_or (take at ls ++ s ++ rest) i 0
    ≡⟨ ap (λ (x : List ℕ). get_or x i 0) (append_assoc (take at ls) s rest) ⟩ get_or (take at ls ++ (s ++ rest)) i 0
    ≡⟨ get_or-append (take at ls) (s ++ rest) 0 i l ⟩ get_or (take at ls) i 0
    ≡⟨ get_or-take at ls i 0 h ⟩ get_or ls i 0 ∎

-- one set laid over another that is no longer
module _ (at : ℕ) (s ls : List ℕ) (fits : Fits at s ls) where
  abbrev rest : List ℕ
  rest = drop (at + length s) ls

  head-length : at ≤ length ls → length (take at ls ++ s) ≡ at + length s
  head-length h = simp (length-append, length-take) (omega arith)

  pub take-laid : take at (laid at s ls) ≡ take at ls
  unfolding laid
  take-laid = elim (dec_le at (length ls)) [
    | yes h ↦ ap (take at) (append_assoc (take at ls) s rest) ∙ take_at (take at ls) (s ++ rest) at (length-take-le at ls h)
    | no h ↦ let e = no_label s (omega arith) in rw e (ap (take at) (laid_nil at ls))
  ]

  drop-laid : (more : ℕ) → drop (at + length s + more) (laid at s ls) ≡ drop (at + length s + more) ls
  unfolding laid
  drop-laid more = elim (dec_le at (length ls)) [
    | yes h ↦
        drop (at + length s + more) (laid at s ls)
        ≡⟨ sym (drop-drop more (at + length s) (laid at s ls)) ⟩ drop more (drop (at + length s) (laid at s ls))
        ≡⟨ ap (drop more) (drop_at (take at ls ++ s) rest (at + length s) (head-length h)) ⟩ drop more rest
        ≡⟨ drop-drop more (at + length s) ls ⟩ drop (at + length s + more) ls ∎
    | no h ↦ let e = no_label s (omega arith) in rw e (ap (drop (at + 0 + more)) (laid_nil at ls))
  ]

  pub set_at-laid : set_at at (length s) (laid at s ls) ≡ s
  unfolding laid
  set_at-laid = elim (dec_le at (length ls)) [
    | yes h ↦
        set_at at (length s) (laid at s ls)
        ≡⟨ ap (set_at at (length s)) (append_assoc (take at ls) s rest) ⟩ set_at at (length s) (take at ls ++ (s ++ rest))
        ≡⟨ ap (take (length s)) (drop_at (take at ls) (s ++ rest) at (length-take-le at ls h)) ⟩ take (length s) (s ++ rest)
        ≡⟨ take_at s rest (length s) refl ⟩ s ∎
    | no h ↦ let e = no_label s (omega arith) in rw e
  ]

  pub laid-laid : (t : List ℕ) → length s ≤ length t → laid at t (laid at s ls) ≡ laid at t ls
  unfolding laid
  laid-laid t h =
      let e : at + length t ≡ at + length s + (length t - length s) = omega arith in
      ap₂ (λ (x y : List ℕ). x ++ t ++ y) take-laid (rw e (drop-laid (length t - length s)))

pub laid-self : (at len : ℕ) (ls : List ℕ) → laid at (set_at at len ls) ls ≡ ls
unfolding laid
laid-self at len ls =
    let k = reach_of at len (length ls) in
    let e : at + length (set_at at len ls) ≡ at + k = ap (λ (n : ℕ). at + n) (length-set_at at len ls) in
    rw (
      e,
      append_assoc (take at ls) (set_at at len ls) (drop (at + k) ls),
      ← set_at-reach at len ls,
      ← drop-drop k at ls,
      take-append-drop k (drop at ls),
    )
    (take-append-drop at ls)
