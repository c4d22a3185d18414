-- One set moved, and one set that grows where it stands: what the steps promise.
-- Assumes nothing.
use mathlib.Core.Path.{◌≡◌, refl, sym, ap, ap₂, subst, ◌∙◌}
use mathlib.Core.Logic.{◌⊎◌, inl, inr, ⊎_elim}
use mathlib.Core.Bool.{Bool, true, false}
use mathlib.Core.List.{List}
use Prim.Native.Nat.{ℕ, suc, ◌+◌, ◌-◌, ◌≤◌, ◌<◌}
use native.Mathlib.Numerals.{add-one}
use native.Mathlib.Decide.{dec_lt, ℕ_discrete}
use native.Mathlib.Omega.{arith}
use lib.ListN.{length}
use Rattle.meaning.specs.Sets.{Rising}
use Rattle.parts.specs.declared.Part.{Part}
use Rattle.parts.specs.Parts.{set_at, laid}
use Rattle.parts.proofs.LaidSets.{length-laid, length-set_at}
use Rattle.merging.specs.Joining.{joined}
use Rattle.extents.specs.Extents.{part_at, with_part, words_in}
use Rattle.extents.proofs.Rows.{part-set, part-other, length-with_part, words-cut}
use Rattle.layout.specs.Weaving.{Apart, Woven}
use Rattle.layout.specs.Layout.{Standing, joined_at, Grows}
use Rattle.layout.specs.Laying.{Tells, Movable, Moved, Roomy, RoomMade, WovenInto}
use Rattle.layout.proofs.Carries.{words-beside, words-laid}
use Rattle.layout.proofs.Stands.{standing-order, standing-begins, standing-next, standing-length, length-joined, joined-here, joined-other}

-- An answer that is settled.
pub denies : {P : Type 0} → (P → ⊥) → Tells false P
denies n = record { yes = λ e. absurd (let z : ◌≡◌ {A = ℕ} 0 1 = cc in omega arith); no = λ e. n }

pub affirms : {P : Type 0} {r : Bool} → r ≡ true → P → Tells r P
affirms t p = record { yes = λ e. p; no = λ e. absurd (let z : ◌≡◌ {A = ℕ} 0 1 = cc in omega arith) }

-- A set that can be moved is one whose labels can be copied.
pub copied : {start end at limit words : ℕ} {set : Part} → Movable start end at set limit → limit ≡ words → start ≤ at → end ≤ words
    → let count = set.to - set.from in
    ((set.from + count ≤ at) ⊎ (at + count ≤ set.from)) × (set.from + count ≤ words) × (at + count ≤ words)
copied m l s e =
    let u = m.upright in
    let t = m.there in
    let f = m.fits in
    (⊎_elim (λ o. inl (omega arith)) (λ o. inr (omega arith)) m.outside, omega arith, omega arith)

-- A set that cannot be moved stays, and one that can is moved.
module _ {t start end at : ℕ} {row work : List ℕ} {set : Part} (read : set ≡ part_at row t) where
  pub unmoved : {limit : ℕ} {r : Bool} → limit ≡ length work → Tells r (Movable start end at set limit) → r ≡ false → start ≤ end
      → Moved t start end at row work row work end
  unmoved l m e h = record {
    long_row = refl;
    long_work = refl;
    within = omega arith;
    right = λ k. absurd (m.no e (rw (read, l) k));
  }

  pub moved-set : {limit : ℕ} {row' work' : List ℕ} → Movable start end at set limit → start ≤ at → end ≤ length work
      → let count = set.to - set.from in work' ≡ laid at (set_at set.from count work) work
      → row' ≡ with_part row t (record { from = at; to = at + count }) → Moved t start end at row work row' work' (at + count)
  moved-set m s l w r = let count = set.to - set.from in record {
    long_row = ap length r ∙ length-with_part row t (record { from = at; to = at + count });
    long_work = ap length w ∙ length-laid at (set_at set.from count work) work (omega (arith, m.fits, length-set_at set.from count work));
    within = omega (arith, m.fits);
    right = λ k. (
      w ∙ ap (λ (s : List ℕ). laid at s work)
          (words-cut set.from set.to set work refl refl ∙ ap (λ (p : Part). words_in p work) read),
      r,
      ap (λ (p : Part). at + (p.to - p.from)) read,
    );
  }

-- New labels that find no room are not woven in.
pub unwoven : {n : ℕ} {news row work : List ℕ} {set : Part} → set ≡ part_at row n
    → (set.from ≤ set.to → set.to + length news ≤ length work → ⊥) → WovenInto n news row work row work
unwoven read h = record { long_row = refl; long_work = refl; right = λ u f. absurd (h (rw read u) (rw read f)) }

pub woven-set : {n : ℕ} {news row work row' work' : List ℕ} {set : Part} → set ≡ part_at row n → Woven set.from set.to news work work'
    → {k : ℕ} → k ≡ length news → row' ≡ with_part row n (record { from = set.from; to = set.to + k }) → WovenInto n news row work row' work'
woven-set {n} {news} {row} {work} {row'} {work'} {set} read w {k} c r = record {
  long_row = ap length r ∙ length-with_part row n (record { from = set.from; to = set.to + k });
  long_work = w.long;
  right = λ u f. subst (λ (p : Part). Woven p.from p.to news work work' × (row' ≡ with_part row n (record { from = p.from; to = p.to + length news })))
      read (w, r ∙ ap (λ (m : ℕ). with_part row n (record { from = set.from; to = set.to + m })) c);
}

-- There may be room already.
pub roomy : {terms n total more : ℕ} {row work : List ℕ} → more ≤ (part_at row (n + 1)).from - (part_at row n).to
    → RoomMade terms n total more row work row work
roomy {n = n} {row = row} h = record {
  long_row = refl;
  long_work = refl;
  right = λ sets x l e k. let a = x.apart n l in let r = rw (add-one n) at h in record { stands = x; room = omega arith };
}

-- the same of what is equal
pub made_as : {terms n total more more' : ℕ} {row work row₁ work₁ row₂ work₂ : List ℕ} → RoomMade terms n total more row work row₁ work₁
    → more ≡ more' → work₂ ≡ work₁ → row₂ ≡ row₁ → RoomMade terms n total more' row work row₂ work₂
made_as m e f g = rw (f, g, ← e) m

-- New labels in a set that has room behind it: the sets stand as they stood, with the new labels in that one.
module _ {terms n : ℕ} {news : List ℕ} {sets : ℕ → List ℕ} {row work row' work' : List ℕ} (x : Roomy terms n (length news) sets row work)
    (h : n < terms) (w : WovenInto n news row work row' work') where
  abbrev old : Part
  old = part_at row n

  abbrev new : Part
  new = record { from = old.from; to = old.to + length news }

  woven : Woven old.from old.to news work work' × (row' ≡ with_part row n new)
  woven = w.right (x.stands.upright n h) (let r = x.room in let l = standing-next x.stands (suc n) h in omega arith)

  part-new : part_at row' n ≡ new
  part-new =
      let l = x.stands.long in
      ap (λ (r : List ℕ). part_at r n) woven.1 ∙ part-set row n new (omega arith)

  part-old : (t : ℕ) → (t ≡ n → ⊥) → part_at row' t ≡ part_at row t
  part-old t o = ap (λ (r : List ℕ). part_at r t) woven.1 ∙ part-other row n t new o

  same_from : (t : ℕ) → (part_at row' t).from ≡ (part_at row t).from
  same_from t = elim (ℕ_discrete t n) [
    | yes e ↦ rw e (ap (λ (p : Part). p.from) part-new)
    | no o ↦ ap (λ (p : Part). p.from) (part-old t o)
  ]

  within-room : (t : ℕ) → t < terms → ((part_at row t).to ≤ (part_at row' t).to) × ((part_at row' t).to ≤ (part_at row (suc t)).from)
  within-room t l = elim (ℕ_discrete t n) [
    | yes e ↦ let p = ap (λ (p : Part). p.to) part-new in let r = x.room in rw e (omega arith)
    | no o ↦ let p = ap (λ (p : Part). p.to) (part-old t o) in let a = x.stands.apart t l in omega arith
  ]

  module _ (r : Rising (sets n)) (q : Rising news) (a : Apart (sets n) news) where
    abbrev all : List ℕ
    all = joined (sets n) news

    length-all : old.from + length all ≡ old.to + length news
    length-all =
        let l = standing-length x.stands n h in
        let u = x.stands.upright n h in
        let j = length-joined (sets n) news q a in
        omega arith

    words-new : work' ≡ laid old.from all work
    words-new = let e = x.stands.here n h in rw (← e) (woven.0.right (rw e r) q (rw e a))

    fits_all : old.from + length all ≤ length work
    fits_all = let m = x.room in let l = standing-next x.stands (suc n) h in omega (arith, length-all)

    here-new : (t : ℕ) → t < terms → words_in (part_at row' t) work' ≡ joined_at n news sets t
    here-new t l = elim (ℕ_discrete t n) [
      | yes e ↦
          rw e (ap₂ (λ (p : Part) (ls : List ℕ). words_in p ls) part-new words-new
          ∙ words-laid old.from all work fits_all (old.to + length news) (sym length-all) ∙ sym (joined-here n news sets))
      | no o ↦
          let beside : ((part_at row t).to ≤ old.from) ⊎ (old.from + length all ≤ (part_at row t).from) = elim (dec_lt t n) [
            | yes b ↦ inl (standing-order x.stands t n b (omega arith))
            | no b ↦ inr (let s = standing-begins x.stands (suc n) t (omega arith) (omega arith) in let m = x.room in omega (arith, length-all))
          ] in
          ap₂ (λ (p : Part) (ls : List ℕ). words_in p ls) (part-old t o) words-new
          ∙ words-beside old.from all work fits_all (part_at row t) beside ∙ x.stands.here t l ∙ sym (joined-other n news sets t o)
    ]

    pub woven-stands : Standing terms (joined_at n news sets) row' work'
    woven-stands = record {
      long = let l = x.stands.long in omega (arith, w.long_row);
      here = here-new;
      upright = λ t l. let u = x.stands.upright t l in let s = same_from t in let m = within-room t l in omega arith;
      apart = λ t l. let s = same_from (suc t) in let m = within-room t l in omega arith;
      half =
          let s = same_from terms in
          let z = same_from 0 in
          let e = w.long_work in
          ⊎_elim (λ b. inl (omega arith)) (λ b. inr (let b0 = b.0 in let b1 = b.1 in let b2 = b.2 in omega arith)) x.stands.half;
    }

pub grown : {terms n total : ℕ} {news row work row₁ work₁ row' work' : List ℕ} → RoomMade terms n total (length news) row work row₁ work₁
    → WovenInto n news row₁ work₁ row' work' → Grows terms n total news row work row' work'
grown m w = record {
  long_row = w.long_row ∙ m.long_row;
  long_work = w.long_work ∙ m.long_work;
  right = λ sets x h r q a e k. woven-stands (m.right sets x h e k) h w r q a;
}
