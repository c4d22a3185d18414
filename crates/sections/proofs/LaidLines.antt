-- Lines that are read alike, each with a word that is laid behind those of the lines before it.
-- Assumes nothing.
use mathlib.Core.Path.{◌≡◌, refl, sym, ap, ◌∙◌}
use mathlib.Core.List.{List, [], ◌∷◌, ◌++◌}
use Prim.Native.Nat.{ℕ, suc, ◌+◌, ◌≤◌, ◌<◌}
use native.Mathlib.Omega.{arith}
use lib.ListN.{length, drop, set, length-append, length-set}
use lib.Seq.{drop-set-lt}
use Rattle.meaning.specs.Bytes.{Text}
use Rattle.words.proofs.Steps.{rest_at}
use Rattle.grammar.specs.Reading.{Taken, reached, one_line, lines}
use Rattle.keyed.proofs.Sequences.{Onto, lines_start, lines_step, lines_end}
use Rattle.sections.specs.Laying.{laid_at}
use Rattle.sections.specs.Sections.{Section, Within}
use Rattle.sections.proofs.Laid.{length-laid, laid_none, laid_more, drop-laid}

laid-within : (n at : ℕ) (ws area : List ℕ) → at + length ws ≤ n → Within n area (laid_at at ws area)
laid-within n at ws area h = record { long = length-laid at ws area; behind = drop-laid n at ws area h }

pub set-within : (n at w : ℕ) (area : List ℕ) → at < n → Within n area (set area at w)
set-within n at w area h = record { long = length-set area at w; behind = drop-set-lt n area at w h }

pub within_same : (n : ℕ) (area : List ℕ) → Within n area area
within_same n area = record { long = refl; behind = refl }

-- Two changes, one after the other.
pub within_both : {n : ℕ} {before mid after : List ℕ} → Within n before mid → Within n mid after → Within n before after
within_both p q = record { long = q.long ∙ p.long; behind = q.behind ∙ p.behind }

-- So many lines, whose entries have a word each; the words are laid from a place on.
pub record SoFar {A : Type 0} (words : List A → List ℕ) (do-take : List A → Text → Taken (List A)) (place : ℕ) (text : Text) (line all : ℕ)
    (before table : List ℕ) (from i : ℕ) (read : List A) : Type 0 where
  pub counted : length read ≡ i
  pub laid : table ≡ laid_at place (words read) before
  pub onto : Onto do-take (lines do-take all [] line text) text line all i read from

pub so-far-start : {A : Type 0} (words : List A → List ℕ) (do-take : List A → Text → Taken (List A)) (place : ℕ) (text : Text) (line all : ℕ)
    (table : List ℕ) → words [] ≡ [] → SoFar words do-take place text line all table table 0 0 []
so-far-start words do-take place text line all table e =
    record { counted = refl; laid = sym (ap (λ ws. laid_at place ws table) e ∙ laid_none place table); onto = lines_start do-take text line all [] }

module _ {A : Type 0} {words : List A → List ℕ} {do-take : List A → Text → Taken (List A)} {place : ℕ} {text : Text} {line all : ℕ}
    {before table : List ℕ} {from i : ℕ} {read : List A} (s : SoFar words do-take place text line all before table from i read)
    (even : (xs : List A) → length (words xs) ≡ length xs) where
  pub so-far-within : (n : ℕ) → place + all ≤ n → Within n before table
  so-far-within n h =
      let k = even read in
      rw s.laid (laid-within n place (words read) before (omega (arith, s.counted, s.onto.upto)))

  pub so-far-long : length table ≡ length before
  so-far-long = ap length s.laid ∙ length-laid place (words read) before

  pub so-far-step : {took : ℕ} (x : A) (w : ℕ) → words (read ++ (x ∷ [])) ≡ words read ++ (w ∷ []) → i < all
      → reached (read ++ (x ∷ [])) (suc (line + i)) (drop took (rest_at text from)) ≡ one_line (do-take read) (line + i) (rest_at text from)
      → took ≤ length (rest_at text from)
      → SoFar words do-take place text line all before (set table (place + i) w) (from + took) (i + 1) (read ++ (x ∷ []))
  so-far-step x w e h q k =
      let n : length (words read) ≡ i = even read ∙ s.counted in
      record {
        counted = length-append read (x ∷ []) ∙ omega (arith, s.counted);
        laid = rw (e, laid_more place (words read) w before, n, ← s.laid);
        onto = lines_step s.onto h q k;
      }

  pub so-far-end : {Left : List A → Type 0} → all ≤ i → Left read → Section text (lines do-take all [] line text) (λ _. line + all) Left from
  so-far-end h l = record { read = read; says = lines_end s.onto h; within = s.onto.within; left = l }

  pub all-counted : all ≤ i → length read ≡ all
  all-counted h = omega (arith, s.counted, s.onto.upto)
