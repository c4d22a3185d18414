-- A regrouped description has the equations' sets and the root's set of the first in every round: so its root has the same least
-- set, and it is answered alike, limits aside.
-- Assumes nothing.
use mathlib.Core.Path.{◌≡◌, refl, sym, ap, subst, ◌∙◌}
use mathlib.Core.Logic.{◌⊎◌, inl, inr, ◌↔◌}
use mathlib.Core.List.{List}
use Prim.Native.Nat.{ℕ, pred}
use Rattle.meaning.specs.Labels.{Label}
use Rattle.meaning.specs.Sets.{at}
use Rattle.meaning.specs.Descriptions.{Order, Description}
use Rattle.meaning.specs.Legal.{Legal}
use Rattle.meaning.specs.Rounds.{body_sets, round_sets, InSet, Rounds}
use Rattle.meaning.specs.Limits.{PassesLimit}
use Rattle.meaning.specs.Answers.{Outcome, too_large, listed, Lists, Answers, answer}
use Rattle.meaning.specs.Regrouping.{Placed, Regrouped, rewrite, extend, back, onward, Unchanged}
use Rattle.meaning.proofs.Least.{legal-operands, same-least}
use Rattle.meaning.proofs.Answers.{answer-right, answer-only}
use Rattle.meaning.proofs.Rewriting.{rewritten-sets}
use Rattle.meaning.proofs.Extending.{extended-sets, extended-equations}

pub legal-placed : (d : Description) (o : Order) → Legal d o → Placed d
legal-placed d o l = record { operands = legal-operands d o l; bodies = l.bodies; root = l.root }

pub unchanged : {d d' : Description} → Regrouped d d' → Unchanged d d'
unchanged (rewrite {d} n t p p' in_range r) =
    let same = rewritten-sets d n t p p' in_range r in
    record { equations = λ k. ap (body_sets d) (sym (same k)); root = λ k. ap (λ (sets : List (List Label)). at sets d.root) (sym (same k)) }
unchanged (extend {d} {d'} p p' x) =
    record {
      equations = extended-equations d d' p p' x;
      root = λ k. extended-sets d d' p p' x k d.root p.root ∙ ap (at (round_sets d' k)) (sym x.root);
    }
unchanged (back r) = let u = unchanged r in record { equations = λ k. sym (u.equations k); root = λ k. sym (u.root k) }
unchanged (onward r s) =
    let u = unchanged r in
    let v = unchanged s in
    record { equations = λ k. u.equations k ∙ v.equations k; root = λ k. u.root k ∙ v.root k }

module _ {d d' : Description} (r : Regrouped d d') where
  -- The root's least set is the same.
  pub regrouped-root : (a : Label) → InSet d d.root a ↔ InSet d' d'.root a
  regrouped-root = same-least d d' d.root d'.root (unchanged r).root

  -- So is the round count.
  pub regrouped-rounds : (k : ℕ) → Rounds d k → Rounds d' k
  regrouped-rounds k x =
      let same = (unchanged r).equations in
      record {
        at_least = x.at_least;
        stable = sym (same k) ∙ x.stable ∙ same (pred k);
        smallest = λ j h l e. x.smallest j h l (same j ∙ e ∙ sym (same (pred j)));
      }

  regrouped-lists : (o : Order) (k : ℕ) (labels : List Label) → (PassesLimit d' → ⊥) → Lists d o k labels → Lists d' o k labels
  regrouped-lists o k labels within x =
      record {
        within = within;
        counted = regrouped-rounds k x.counted;
        rising = x.rising;
        exactly = λ a. (
          λ m. let y = (x.exactly a).0 m in ((regrouped-root a).0 y.0, y.1),
          λ y. (x.exactly a).1 ((regrouped-root a).1 y.0, y.1),
        );
      }

  -- Where one is answered, the other is answered with the same rounds and the same labels, or its least sets pass a limit.
  pub regrouped-answer : (o : Order) (k : ℕ) (labels : List Label) → answer d o ≡ listed k labels
      → (answer d' o ≡ listed k labels) ⊎ (answer d' o ≡ too_large)
  regrouped-answer o k labels e = answered (answer d' o) refl (answer-right d' o)
    where
      answered : (x : Outcome) → answer d' o ≡ x → Answers d' o x → (answer d' o ≡ listed k labels) ⊎ (answer d' o ≡ too_large)
      answered too_large is right = inr is
      answered (listed j others) is right =
          inl (sym (answer-only d' o (listed k labels)
          (regrouped-lists o k labels right.within (subst (λ (x : Outcome). Answers d o x) e (answer-right d o)))))
