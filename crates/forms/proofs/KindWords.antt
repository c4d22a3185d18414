-- The words of the kinds: no kind's word begins with another's, so that where one stands what follows it decides.
-- Assumes nothing.
use mathlib.Core.Path.{◌≡◌, refl, ap, ◌∙◌}
use mathlib.Core.Bool.{Bool, true, false, ◌&&◌, ◌||◌, not}
use mathlib.Core.List.{List, [], ◌∷◌, ◌++◌}
use Prim.Native.Nat.{ℕ, zero, suc, ◌≤◌, ◌<◌}
use native.Mathlib.Nat.{not-suc-le-zero}
use native.Mathlib.Omega.{arith}
use lib.Dec.{T, eqb}
use lib.ListN.{length, get_or, length-append}
use borrow.Author.Tests.{eqb-true, eqb-false, le-ltb}
use Rattle.meaning.specs.Bytes.{Text}
use Rattle.meaning.proofs.Tests.{and_left, and_right}
use Rattle.table.specs.Decoded.{name_of}
use Rattle.grammar.specs.Text.{Past, past, stuck, literal}
use Rattle.grammar.specs.Forms.{Line, Kind, kinds, farther, of_kind}
use Rattle.grammar.proofs.Onwards.{literal←}
use Rattle.words.proofs.Steps.{text_in}
use Rattle.tails.specs.Tails.{tail_of}
use Rattle.forms.specs.Kinds.{no_kind, kind_word, rest_of}

-- Two words that differ at a place where both go on: where the second stands the first is stuck before the second's end.
clash : Text → Text → Bool
clash [] w = false
clash (b ∷ v) [] = false
clash (b ∷ v) (c ∷ w) = not (eqb b c) || clash v w

clash-stuck : (v w t : Text) → T (clash v w) → (r : Text) × (stuck r ≡ literal v (w ++ t)) × (length t ≤ length r)
unfolding clash literal
clash-stuck [] w t h = absurd h
clash-stuck (b ∷ v) [] t h = absurd h
clash-stuck (b ∷ v) (c ∷ w) t h = cases (eqb b c) refl h (clash-stuck v w t)
  where
    cases : (e : Bool) → eqb b c ≡ e → T (not e || clash v w) → (T (clash v w) → (r : Text) × (stuck r ≡ literal v (w ++ t)) × (length t ≤ length r))
        → (r : Text) × (stuck r ≡ literal (b ∷ v) (c ∷ (w ++ t))) × (length t ≤ length r)
    cases true e k more = let m = more k in (m.0, rw (e, literal) m.1, m.2)
    cases false e k more = (c ∷ (w ++ t), rw (e, literal), omega (arith, length-append w t))

-- The word of the n-th kind differs so from those before it.
apart : List Kind → ℕ → Bool
apart [] n = false
apart (k ∷ ks) zero = true
apart (k ∷ ks) (suc n) = clash k.word (get_or ks n no_kind).word && apart ks n

farther-stays : (r : Text) (m : Past Line) → length (text_in m) ≤ length r → farther r m ≡ m
farther-stays r (past l q) h = refl
farther-stays r (stuck t) h = rw (le-ltb (length r) (length t) h)

decided : (ks : List Kind) (n : ℕ) (t : Text) → T (apart ks n) → length (text_in ((get_or ks n no_kind).rest t)) ≤ length t
    → of_kind ks ((get_or ks n no_kind).word ++ t) ≡ (get_or ks n no_kind).rest t
unfolding apart of_kind
decided [] n t h w = absurd h
decided (k ∷ ks) zero t h w = rw (literal← k.word t, of_kind)
decided (k ∷ ks) (suc n) t h w =
    let other = get_or ks n no_kind in
    let c = clash-stuck k.word other.word t (and_left (clash k.word other.word) (apart ks n) h) in
    rw (← c.1, of_kind)
    (ap (farther c.0) (decided ks n t (and_right (clash k.word other.word) (apart ks n) h) w)
    ∙ farther-stays c.0 (other.rest t) (omega (arith, c.2)))

-- What holds at each number below another.
unfoldable Below : (ℕ → Type 0) → ℕ → Type 0
Below P zero = Unit {0}
Below P (suc n) = P n × Below P n

below : (P : ℕ → Type 0) (n k : ℕ) → k < n → Below P n → P k
unfolding Below
below P zero k h b = absurd (not-suc-le-zero h)
below P (suc n) k h b = cases (eqb k n) refl (λ j. below P n k j b.1)
  where
    cases : (t : Bool) → eqb k n ≡ t → (k < n → P k) → P k
    cases true e f = rw (eqb-true k n e) b.0
    cases false e f = let d = eqb-false k n e in f (omega arith)

-- The kinds by their places: the word in the code's table, what follows it, and that it differs from the words before it.
abbrev pub packed_kinds : List ℕ
packed_kinds =
    418565088612 ∷ 7692660 ∷ 7627617 ∷ 6710642 ∷ 7173491 ∷ 1684959075 ∷ 111477645076579 ∷ 111546414229097 ∷ 7431539 ∷ 435527247213 ∷ 111494975286636
    ∷ 1668184435 ∷ 461229747298 ∷ 1701079400 ∷ 111520460465522 ∷ 1835888483 ∷ 512970484833 ∷ []

abbrev AtKind : ℕ → Type 0
AtKind k = (name_of 8 (get_or packed_kinds k 0) ≡ kind_word k) × ((s : Text) → tail_of k s ≡ rest_of k s) × T (apart kinds k)

same : {w : Text} {f : Text → Past Line} {B : Type 0} → B → ((w ≡ w) × ((s : Text) → f s ≡ f s) × Unit {0}) × B
same b = ((refl, λ s. refl, tt), b)

at-kinds : Below AtKind 17
unfolding Below kinds name_of apart clash
at-kinds = same (same (same (same (same (same (same (same (same (same (same (same (same (same (same (same (same tt))))))))))))))))

pub kind-word : (k : ℕ) → k < 17 → name_of 8 (get_or packed_kinds k 0) ≡ kind_word k
kind-word k h = (below AtKind 17 k h at-kinds).0

pub kind-rest : (k : ℕ) → k < 17 → (s : Text) → tail_of k s ≡ rest_of k s
kind-rest k h = (below AtKind 17 k h at-kinds).1

-- Where a kind's word stands, what follows it is what the line says, and where it is stuck the line is.
pub kind-decides : (k : ℕ) → k < 17 → (t : Text) → length (text_in (rest_of k t)) ≤ length t → of_kind kinds (kind_word k ++ t) ≡ rest_of k t
kind-decides k h t w = decided kinds k t (below AtKind 17 k h at-kinds).2 w
