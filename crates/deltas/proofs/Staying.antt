-- Sets in which nothing is new stay, and a round in which nothing is new in any body is stable.
-- Assumes nothing.
use mathlib.Core.Path.{◌≡◌, refl, sym, ap, subst, ◌∙◌}
use mathlib.Core.Logic.{inl, inr}
use mathlib.Core.List.{List, [], ◌∷◌}
use Prim.Native.Nat.{ℕ, suc, ◌<◌}
use native.Mathlib.Omega.{arith}
use lib.ListN.{length, length-map}
use lib.Seq.{ext_get_or}
use Rattle.meaning.specs.Labels.{Label}
use Rattle.meaning.specs.Sets.{◌∈◌, at}
use Rattle.meaning.specs.Descriptions.{Description, equations, body_at}
use Rattle.meaning.specs.Rounds.{round_sets, equation_sets}
use Rattle.meaning.proofs.Members.{ascending-unique}
use Rattle.meaning.proofs.Growth.{round-grows, round-ascends, round-length, at_body}
use Rattle.meaning.proofs.Stability.{Stable}
use Rattle.deltas.specs.Deltas.{arrived}
use Rattle.deltas.proofs.News.{in-arrived, arrived-or-before}

no-members : (s : List Label) → ((a : Label) → a ∈ s → ⊥) → s ≡ []
no-members [] h = refl
no-members (a ∷ s) h = absurd (h a (inl refl))

module _ (d : Description) (k t : ℕ) where
  pub none-arrived : arrived d (suc k) t ≡ [] → at (round_sets d (suc k)) t ≡ at (round_sets d k) t
  none-arrived e =
      ascending-unique (at (round_sets d (suc k)) t) (at (round_sets d k) t) (round-ascends d (suc k) t) (round-ascends d k t)
      (λ a m. elim (arrived-or-before d k t a m) [ inl l ↦ absurd (subst (λ (s : List Label). a ∈ s) e l) | inr l ↦ l ]) (round-grows d k t)

  pub stays-none : at (round_sets d (suc k)) t ≡ at (round_sets d k) t → arrived d (suc k) t ≡ []
  stays-none e =
      no-members (arrived d (suc k) t)
      (λ a m. let x = (in-arrived d k t a).0 m in x.1 (subst (λ (s : List Label). a ∈ s) e x.0))

module _ (d : Description) (k : ℕ) where
  body-set : (j e : ℕ) → at (equation_sets d j) e ≡ at (round_sets d j) (body_at d e)
  body-set j e = at_body d (round_sets d j) (round-length d j) e

  pub quiet-stable : ((e : ℕ) → e < equations d → arrived d (suc k) (body_at d e) ≡ []) → Stable d k
  quiet-stable h =
      let long : (j : ℕ) → length (equation_sets d j) ≡ equations d = λ j. length-map d.bodies (at (round_sets d j)) in
      ext_get_or [] (equation_sets d (suc k)) (equation_sets d k) (long (suc k) ∙ sym (long k))
      (λ e l. body-set (suc k) e ∙ none-arrived d k (body_at d e) (h e (omega (arith, long (suc k)))) ∙ sym (body-set k e))

  pub stable-quiet : Stable d k → (e : ℕ) → arrived d (suc k) (body_at d e) ≡ []
  stable-quiet s e =
      stays-none d k (body_at d e) (sym (body-set (suc k) e) ∙ ap (λ (eqs : List (List Label)). at eqs e) s ∙ body-set k e)
