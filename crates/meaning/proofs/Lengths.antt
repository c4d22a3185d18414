-- Every label of a round has a count for each name.
-- Assumes nothing.
use mathlib.Core.Path.{◌≡◌, sym, ap, subst, ◌∙◌}
use mathlib.Core.Logic.{◌⊎◌, inl, inr}
use mathlib.Core.Bool.{Bool, true, false}
use mathlib.Core.List.{List}
use Prim.Native.Nat.{ℕ, zero, suc}
use lib.ListN.{length, length-replicate}
use Rattle.meaning.specs.Labels.{Label}
use Rattle.meaning.specs.Sets.{◌∈◌, at}
use Rattle.meaning.specs.Descriptions.{Term, act, tau, delta, ref, sum, cond, choice, ifelse, seq, merge, lmerge}
use Rattle.meaning.specs.Descriptions.{sync, wrap, Description, names, term_at, body_at, term_count}
use Rattle.meaning.specs.Rounds.{sync_shape, are_multi_actions, shape, made, body_sets, next, round_sets}
use Rattle.meaning.proofs.Bags.{length-plus, length-several}
use Rattle.meaning.proofs.Members.{Sum, in-ascending}
use Rattle.meaning.proofs.Shapes.{Family, Made, In, in-made→}
use Rattle.meaning.proofs.Carried.{carried}
use Rattle.meaning.proofs.Growth.{round-length, at_body}
use Rattle.meaning.proofs.Operators.{length-image}

abbrev pub Full : ℕ → List Label → Type 0
Full n s = (a : Label) → a ∈ s → length a ≡ n

full-sum : (n : ℕ) (P Q : Label → Type 0) → ((a : Label) → P a → length a ≡ n) → ((a : Label) → Q a → length a ≡ n)
    → (a : Label) → Sum P Q a → length a ≡ n
full-sum n P Q p q a x = ap length x.adds ∙ length-plus n x.left x.right (p x.left x.in_left) (q x.right x.in_right)

full-both : (n : ℕ) (P Q : Label → Type 0) → ((a : Label) → P a → length a ≡ n) → ((a : Label) → Q a → length a ≡ n)
    → (a : Label) → (P a ⊎ Q a) ⊎ Sum P Q a → length a ≡ n
full-both n P Q p q a (inl (inl k)) = p a k
full-both n P Q p q a (inl (inr k)) = q a k
full-both n P Q p q a (inr k) = full-sum n P Q p q a k

-- a sync, in either of its shapes
full-sync : (n : ℕ) (P Q : Family) → ((t : ℕ) (a : Label) → Q t a → length a ≡ n) → (t u : ℕ) (b : Bool) (a : Label)
    → Made P Q (sync_shape b t u) a → length a ≡ n
full-sync n P Q q t u true a m = full-sum n (Q t) (Q u) (q t) (q u) a m
full-sync n P Q q t u false a m = full-both n (Q t) (Q u) (q t) (q u) a m

full-made : (d : Description) (P Q : Family) → ((e : ℕ) (a : Label) → P e a → length a ≡ names d) → ((t : ℕ) (a : Label) → Q t a → length a ≡ names d)
    → (t : Term) (a : Label) → Made P Q (shape d t) a → length a ≡ names d
full-made d P Q p q (act n) a m = elim m [ inl e ↦ ap length e ∙ length-several (names d) n 1 | inr k ↦ absurd k ]
full-made d P Q p q tau a m = elim m [ inl e ↦ ap length e ∙ length-replicate (names d) 0 | inr k ↦ absurd k ]
full-made d P Q p q delta a m = absurd m
full-made d P Q p q (ref e) a m = p e a m
full-made d P Q p q (sum t) a m = q t a m
full-made d P Q p q (cond t) a m = q t a m
full-made d P Q p q (choice t u) a m = elim m [ inl k ↦ q t a k | inr k ↦ q u a k ]
full-made d P Q p q (ifelse t u) a m = elim m [ inl k ↦ q t a k | inr k ↦ q u a k ]
full-made d P Q p q (seq t u) a m = elim m [ inl k ↦ q t a k | inr k ↦ q u a k ]
full-made d P Q p q (merge t u) a m = full-both (names d) (Q t) (Q u) (q t) (q u) a m
full-made d P Q p q (lmerge t u) a m = full-both (names d) (Q t) (Q u) (q t) (q u) a m
full-made d P Q p q (sync t u) a m = full-sync (names d) P Q q t u (are_multi_actions d t u) a m
full-made d P Q p q (wrap o t) a m = length-image (names d) o m.source a (q t m.source m.there) m.gives

pub round-full : (d : Description) (k t : ℕ) → Full (names d) (at (round_sets d k) t)
unfolding round_sets next
round-full d zero t = λ a m. absurd m
round-full d (suc k) t =
    let eqs = body_sets d (round_sets d k) in
    let eqs-full : (e : ℕ) → Full (names d) (at eqs e) =
    λ e. subst (λ (s : List Label). Full (names d) s) (sym (at_body d (round_sets d k) (round-length d k) e)) (round-full d k (body_at d e)) in
    carried (λ s s'. Full (names d) s) (λ a m. absurd m) d d eqs eqs
    (λ n sets sets' h a m.
    full-made d (In eqs) (In sets) eqs-full h (term_at d n) a
    (in-made→ eqs sets (shape d (term_at d n)) a ((in-ascending (made eqs sets (shape d (term_at d n))) a).0 m)))
    (term_count d) t
