-- Words put at the start of an area one after the other, and labels, two words each.
-- Assumes nothing.
use mathlib.Core.Path.{◌≡◌, refl, sym, ap, ◌∙◌}
use mathlib.Core.List.{List, [], ◌∷◌, ◌++◌}
use Prim.Native.Nat.{ℕ, zero, suc, ◌+◌, ◌*◌, ◌/◌, ◌%◌, ◌^◌, ◌≤◌, ◌<◌}
use native.Mathlib.Nat.{min-eq_left}
use native.Mathlib.Numerals.{add-one}
use native.Mathlib.Omega.{arith}
use lib.ListN.{length, get_or, take, drop, set, length-append, length-take, length-set}
use lib.Seq.{drop-cons, set-append_seam, append_snoc, take-suc, take_all}
use Rattle.meaning.specs.Labels.{in_words}
use Rattle.labels.specs.declared.Label.{Label}
use Rattle.labels.specs.Packing.{packed}
use Rattle.areas.specs.Areas.{put}
use Rattle.areas.proofs.Held.{length-in_words}

length-snoc : (xs : List ℕ) (w : ℕ) → length (xs ++ (w ∷ [])) ≡ suc (length xs)
length-snoc xs w = length-append xs (w ∷ []) ∙ omega arith

-- one word more
pub put_step : (xs l : List ℕ) (w n : ℕ) → n ≡ length xs → n < length l → set (put xs l) n w ≡ put (xs ++ (w ∷ [])) l
put_step xs l w n e h =
    rw (e, length-snoc xs w)
    (ap (λ (t : List ℕ). set (xs ++ t) (length xs) w) (drop-cons l (length xs) 0 (omega arith))
    ∙ set-append_seam xs (get_or l (length xs) 0) (drop (suc (length xs)) l) w
    ∙ sym (append_snoc xs w (drop (suc (length xs)) l)))

-- A list of n words that is put at the start of an area word by word: how far it has come.
pub record Filling (vs : List ℕ) (n : ℕ) (area₀ area : List ℕ) (i : ℕ) : Type 0 where
  pub count : length vs ≡ n
  pub within : i ≤ n
  pub fits : n ≤ length area₀
  pub words : area ≡ put (take i vs) area₀
  pub same : length area ≡ length area₀

pub filling-start : (vs : List ℕ) (n : ℕ) (area : List ℕ) → length vs ≡ n → n ≤ length area → Filling vs n area area 0
filling-start vs n area e h = record { count = e; within = omega arith; fits = h; words = refl; same = refl }

pub filling_step : (vs : List ℕ) (n : ℕ) (area₀ area : List ℕ) (i v : ℕ) → Filling vs n area₀ area i → i < n → v ≡ get_or vs i 0
    → Filling vs n area₀ (set area i v) (i + 1)
filling_step vs n area₀ area i v f h e =
    let k : i ≡ length (take i vs) = sym (length-take i vs ∙ min-eq_left (omega (arith, f.count))) in
    let one_more : take i vs ++ (v ∷ []) ≡ take (i + 1) vs =
    ap (λ (x : ℕ). take i vs ++ (x ∷ [])) e ∙ sym (take-suc vs i 0 (omega (arith, f.count))) ∙ ap (λ (m : ℕ). take m vs) (sym (add-one i)) in
    record {
      count = f.count;
      within = omega arith;
      fits = f.fits;
      words = ap (λ (a : List ℕ). set a i v) f.words
          ∙ put_step (take i vs) area₀ v i k (omega (arith, f.fits))
          ∙ ap (λ (xs : List ℕ). put xs area₀) one_more;
      same = length-set area i v ∙ f.same;
    }

pub filling-end : (vs : List ℕ) (n : ℕ) (area₀ area : List ℕ) (i : ℕ) → Filling vs n area₀ area i → n ≤ i → area ≡ put vs area₀
filling-end vs n area₀ area i f h = f.words ∙ ap (λ (xs : List ℕ). put xs area₀) (take_all i vs (omega (arith, f.count)))

-- two words more
pub filling-two : (vs : List ℕ) (n : ℕ) (area₀ area : List ℕ) (i v w : ℕ) → Filling vs n area₀ area (2 * i) → 2 * i + 1 < n
    → v ≡ get_or vs (2 * i) 0
    → w ≡ get_or vs (2 * i + 1) 0
    → Filling vs n area₀ (set (set area (2 * i) v) (2 * i + 1) w) (2 * (i + 1))
filling-two vs n area₀ area i v w f h e d =
    let next : 2 * i + 1 + 1 ≡ 2 * (i + 1) = omega arith in
    let one = filling_step vs n area₀ area (2 * i) v f (omega arith) e in
    rw next at (filling_step vs n area₀ (set area (2 * i) v) (2 * i + 1) w one h d)

-- Labels, two words each.
two-more : (n : ℕ) → 2 * suc n ≡ suc (suc (2 * n))
two-more n = omega arith

lower-in_words : (ns : List ℕ) (n : ℕ) → get_or (in_words ns) (2 * n) 0 ≡ get_or ns n 0 % 2 ^ 60
unfolding in_words
lower-in_words [] n = refl
lower-in_words (x ∷ ns) zero = refl
lower-in_words (x ∷ ns) (suc n) = rw (two-more n) (lower-in_words ns n)

upper-in_words : (ns : List ℕ) (n : ℕ) → get_or (in_words ns) (2 * n + 1) 0 ≡ get_or ns n 0 / 2 ^ 60
unfolding in_words
upper-in_words [] n = refl
upper-in_words (x ∷ ns) zero = refl
upper-in_words (x ∷ ns) (suc n) = rw (add-one (2 * suc n), two-more n) (rw (add-one (2 * n)) at (upper-in_words ns n))

abbrev pub FillingLabels : (vs area₀ area : List ℕ) → ℕ → Type 0
FillingLabels vs area₀ area n = Filling (in_words vs) (2 * length vs) area₀ area (2 * n)

pub labels-start : (vs area : List ℕ) → 2 * length vs ≤ length area → FillingLabels vs area area 0
labels-start vs area h = filling-start (in_words vs) (2 * length vs) area (length-in_words vs) h

pub labels-step : (vs area₀ area : List ℕ) (n : ℕ) (label : Label) → FillingLabels vs area₀ area n → n < length vs → label ≡ packed (get_or vs n 0)
    → FillingLabels vs area₀ (set (set area (2 * n) label.lower) (2 * n + 1) label.upper) (n + 1)
unfolding packed
labels-step vs area₀ area n label f h e =
    filling-two (in_words vs) (2 * length vs) area₀ area n label.lower label.upper f (omega arith)
    (ap (λ (l : Label). l.lower) e ∙ sym (lower-in_words vs n))
    (ap (λ (l : Label). l.upper) e ∙ sym (upper-in_words vs n))

pub labels-end : (vs area₀ area : List ℕ) (n : ℕ) → FillingLabels vs area₀ area n → length vs ≤ n → area ≡ put (in_words vs) area₀
labels-end vs area₀ area n f h = filling-end (in_words vs) (2 * length vs) area₀ area (2 * n) f (omega arith)
