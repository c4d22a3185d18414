-- Widening: sets grow term by term and round by round, and so demand 3 holds of two legal descriptions.
-- Assumes nothing.
use mathlib.Core.Path.{◌≡◌, refl, ap, subst}
use mathlib.Core.Logic.{inl, inr}
use mathlib.Core.Bool.{Bool, true, false}
use mathlib.Core.List.{List, [], ◌∷◌}
use Prim.Native.Nat.{ℕ, zero, suc}
use lib.Dec.{T}
use lib.ListN.{length, get_or}
use Rattle.meaning.specs.Labels.{Label, clear}
use Rattle.meaning.specs.Sets.{◌∈◌, keep}
use Rattle.meaning.specs.Descriptions.{Term, delta}
use Rattle.meaning.specs.Descriptions.{Order, Description, names}
use Rattle.meaning.specs.Legal.{Legal}
use Rattle.meaning.specs.Rounds.{allowed, of_actions, actions_only, is_multi_action, are_multi_actions, both, joint}
use Rattle.meaning.specs.Rounds.{sync_shape, shape, InSet}
use Rattle.meaning.specs.Runs.{OnRun}
use Rattle.meaning.specs.Limits.{PassesLimit}
use Rattle.meaning.specs.Answers.{Allows, Outcome, too_large, listed, Answers, answer}
use Rattle.meaning.specs.Widening.{WiderTerm, same, gained, lost, opened, WiderTerms, Widens}
use Rattle.meaning.proofs.Members.{in-keep}
use Rattle.meaning.proofs.Tests.{and_left, and_right, and_both}
use Rattle.meaning.proofs.SyncOrOther.{SyncOrOther, is-sync, other, sync-or-other, built-other}
use Rattle.meaning.proofs.Shapes.{Grown, alike, filled, widened, fuller, shape-other}
use Rattle.meaning.proofs.Growth.{Wide, rounds-widen}
use Rattle.meaning.proofs.Filters.{allowed→, →allowed, clear→zero, zero→clear}
use Rattle.meaning.proofs.Answers.{answer-right}
use Rattle.meaning.proofs.Listings.{set-held}
use Rattle.meaning.proofs.Soundness.{on_run→in_set}

-- A filter that lets more through gives more: said once, for allow lists that gain and block lists that lose.
keep-grows : (p q : Label → Bool) → ((a : Label) → T (p a) → T (q a)) → (a b : Label) → b ∈ keep p a → b ∈ keep q a
keep-grows p q h a b m = let x = (in-keep p a b).0 m in (in-keep q a b).1 (x.0, h a x.1)

-- A line that stays has a shape that gives no less, where no sync becomes one of multi-actions.
module _ (d d' : Description) (e : names d ≡ names d') (fewer : (t : ℕ) → T (is_multi_action d' t) → T (is_multi_action d t)) where
  sync-grown : (t u : ℕ) (b b' : Bool) → (T b' → T b) → Grown (sync_shape b t u) (sync_shape b' t u)
  sync-grown t u true true h = alike (joint t u)
  sync-grown t u true false h = widened t u
  sync-grown t u false true h = absurd (h tt)
  sync-grown t u false false h = alike (both t u)

  same-grown : {x : Term} → SyncOrOther x → Grown (shape d x) (shape d' x)
  same-grown (is-sync t u) =
      sync-grown t u (are_multi_actions d t u) (are_multi_actions d' t u)
      (λ h. and_both (is_multi_action d t) (is_multi_action d u) (fewer t (and_left (is_multi_action d' t) (is_multi_action d' u) h))
      (fewer u (and_right (is_multi_action d' t) (is_multi_action d' u) h)))
  same-grown (other x o) = subst (Grown (shape d x)) (shape-other d d' e x o) (alike (shape d x))

  wider-grown : {t t' : Term} → WiderTerm t t' → Grown (shape d t) (shape d' t')
  wider-grown (same t) = same-grown (sync-or-other t)
  wider-grown (gained {ls = ls} {more = more} t h) =
      fuller (keep (allowed ls)) (keep (allowed more)) t
      (keep-grows (allowed ls) (allowed more) (λ a x. →allowed more a (elim (allowed→ ls a x) [ inl m ↦ inl (h a m) | inr z ↦ inr z ])))
  wider-grown (lost {ns = ns} {fewer = few} t h) =
      fuller (keep (clear ns)) (keep (clear few)) t
      (keep-grows (clear ns) (clear few) (λ a x. zero→clear few a (λ n m. clear→zero ns a x n (h n m))))
  wider-grown (opened t) = filled (shape d' t)

wider-at : (ts us : List Term) → WiderTerms ts us → (n : ℕ) → WiderTerm (get_or ts n delta) (get_or us n delta)
wider-at [] [] h n = same delta
wider-at [] (u ∷ us) h n = elim h [ ]
wider-at (t ∷ ts) [] h n = elim h [ ]
wider-at (t ∷ ts) (u ∷ us) h zero = h.0
wider-at (t ∷ ts) (u ∷ us) h (suc n) = wider-at ts us h.1 n

wider-length : (ts us : List Term) → WiderTerms ts us → length ts ≡ length us
wider-length [] [] h = refl
wider-length [] (u ∷ us) h = elim h [ ]
wider-length (t ∷ ts) [] h = elim h [ ]
wider-length (t ∷ ts) (u ∷ us) h = ap suc (wider-length ts us h.1)

-- A delta that becomes another line makes fewer multi-actions, and never more.
module _ (d d' : Description) (h : WiderTerms d.terms d'.terms) where
  line-fewer : (q q' : ℕ → Bool) → ((t : ℕ) → T (q' t) → T (q t)) → {x x' : Term} → WiderTerm x x' → T (of_actions q' x') → T (of_actions q x)
  line-fewer q q' f (opened x) t = tt
  line-fewer q q' f (gained u k) t = t
  line-fewer q q' f (lost u k) t = t
  line-fewer q q' f (same x) t = stays (sync-or-other x) t
    where
      stays : {y : Term} → SyncOrOther y → T (of_actions q' y) → T (of_actions q y)
      stays (is-sync u v) t = and_both (q u) (q v) (f u (and_left (q' u) (q' v) t)) (f v (and_right (q' u) (q' v) t))
      stays (other y o) t = subst T (built-other q' q y o) t

  fewer-multi : (deep t : ℕ) → T (actions_only deep d' t) → T (actions_only deep d t)
  unfolding actions_only
  fewer-multi zero t x = x
  fewer-multi (suc deep) t x = line-fewer (actions_only deep d) (actions_only deep d') (fewer-multi deep) (wider-at d.terms d'.terms h t) x

pub widens-wide : (d : Description) (o : Order) (d' : Description) (o' : Order) → Widens d o d' o' → Wide d d'
widens-wide d o d' o' w =
    record {
      terms = λ n.
          wider-grown d d' (ap length w.words) (λ t. fewer-multi d d' w.terms (suc t) t) (wider-at d.terms d'.terms w.terms n);
      count = wider-length d.terms d'.terms w.terms;
      bodies = w.bodies;
    }

module _ (d : Description) (o : Order) (d' : Description) (o' : Order) (w : Widens d o d' o') where
  pub sets-widen : (t : ℕ) (a : Label) → InSet d t a → InSet d' t a
  sets-widen t a x = record { round = x.round; there = rounds-widen d d' (widens-wide d o d' o' w) x.round t a x.there }

  pub passes-widen : PassesLimit d → PassesLimit d'
  passes-widen x = record { part = x.part; in_sets = λ t a m. sets-widen t a (x.in_sets t a m); once = x.once; too_much = x.too_much }

-- Demand 3. If the second description is answered, so is the first, and every label on any finite run of the first that the
-- first's order allows is listed by the second.
pub record Answered (x : Outcome) : Type 0 where
  pub rounds : ℕ
  pub labels : List Label
  pub is : x ≡ listed rounds labels

answered-unless : (d : Description) (o : Order) (x : Outcome) → Answers d o x → (PassesLimit d → ⊥) → Answered x
answered-unless d o too_large p h = absurd (h p)
answered-unless d o (listed k labels) p h = record { rounds = k; labels = labels; is = refl }

pub record Tightened (d : Description) (o : Order) (labels : List Label) : Type 0 where
  pub answered : Answered (answer d o)
  pub covered : (a : Label) → OnRun d a → Allows o a → a ∈ labels

pub tightening : (d : Description) (o : Order) (d' : Description) (o' : Order) → Legal d o → Legal d' o' → Widens d o d' o'
    → (rounds : ℕ) (labels : List Label) → answer d' o' ≡ listed rounds labels → Tightened d o labels
tightening d o d' o' legal legal' w rounds labels e =
    let right : Answers d' o' (listed rounds labels) = subst (λ (x : Outcome). Answers d' o' x) e (answer-right d' o') in
    let within : PassesLimit d → ⊥ = λ x. right.within (passes-widen d o d' o' w x) in
    record {
      answered = answered-unless d o (answer d o) (answer-right d o) within;
      covered = λ a run allowed.
          let there = on_run→in_set d o legal a run in
          let there' = subst (λ (t : ℕ). InSet d' t a) w.root (sets-widen d o d' o' w d.root a there) in
          (right.exactly a).1 (there', w.orders a (set-held d within d.root a there) allowed);
    }
