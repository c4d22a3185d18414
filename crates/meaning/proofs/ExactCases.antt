-- Two descriptions of the exact kinds: what is listed for them is just what their runs show. So the close of a stripe beside a done
-- that was not waited for is on a run.
-- Assumes nothing.
use mathlib.Core.Path.{refl, sym, subst}
use mathlib.Core.Logic.{inl, inr, ◌↔◌}
use mathlib.Core.List.{[], ◌∷◌}
use Rattle.meaning.specs.Labels.{Label}
use Rattle.meaning.specs.Sets.{◌∈◌}
use Rattle.meaning.specs.Runs.{OnRun}
use Rattle.meaning.specs.Answers.{Allows}
use Rattle.meaning.specs.Exact.{OfExactKinds, are_exact_terms}
use Rattle.meaning.proofs.Members.{in-append}
use Rattle.meaning.proofs.Alphabets.{Case, reports, fifteen_of_sixteen, two_dies, exact_cases}
use Rattle.meaning.proofs.Examples.{lists, exact-holds}
use Rattle.meaning.proofs.ExactKinds.{exact-tested}
use Rattle.meaning.proofs.Exact.{exact-list}

pub of-exact-kinds : (c : Case) → c ∈ exact_cases → OfExactKinds c.given
unfolding are_exact_terms
of-exact-kinds c (inl e) = subst (λ (x : Case). OfExactKinds x.given) (sym e) ((exact-tested fifteen_of_sixteen.given).0 tt)
of-exact-kinds c (inr (inl e)) = subst (λ (x : Case). OfExactKinds x.given) (sym e) ((exact-tested two_dies.given).0 tt)
of-exact-kinds c (inr (inr m)) = absurd m

pub exact-cases : (c : Case) → c ∈ exact_cases → (a : Label) → (a ∈ c.labels) ↔ (OnRun c.given a × Allows c.order a)
exact-cases c m =
    let h = exact-holds c m in
    exact-list c.given c.order c.rounds c.labels h.legal (of-exact-kinds c m) (lists h)

pub close-beside-done : OnRun fifteen_of_sixteen.given (1 ∷ 1 ∷ [])
close-beside-done =
    ((exact-cases fifteen_of_sixteen (inl refl) (1 ∷ 1 ∷ [])).0
    ((in-append (1 ∷ 1 ∷ []) (reports 16) ((0 ∷ 1 ∷ []) ∷ (1 ∷ 1 ∷ []) ∷ [])).1 (inr (inr (inl refl))))).0
