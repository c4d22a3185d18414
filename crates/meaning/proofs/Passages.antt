-- From state to state in any number of steps, and a label on the way; also within what stands around a state while it steps.
-- Assumes nothing.
use mathlib.Core.Path.{◌≡◌, refl, sym, subst}
use mathlib.Core.Logic.{inl, inr}
use mathlib.Core.List.{List, [], ◌∷◌}
use Prim.Native.Nat.{ℕ}
use Rattle.meaning.specs.Labels.{Label, plus, without, renamed}
use Rattle.meaning.specs.Sets.{◌∈◌}
use Rattle.meaning.specs.Descriptions.{Operator, Description, names}
use Rattle.meaning.specs.Rounds.{target}
use Rattle.meaning.specs.Exact.{ExactOperator, a-hide, a-rename, a-comm}
use Rattle.meaning.specs.Runs.{State, followed, beside, within, enough, Acts, Step, before, on-left, on-right, inner, Run, stop, go}

module _ (d : Description) where
  -- From one state to another in any number of steps, whatever their labels.
  pub data Leads : State → State → Type 0 where
    stays : (s : State) → Leads s s
    steps : {a : Label} {s r q : State} → Step d s a r → Leads r q → Leads s q

  pub onto : {s r q : State} → Leads s r → Leads r q → Leads s q
  onto (stays s) m = m
  onto (steps p l) m = steps p (onto l m)

  -- The same, with a step of a given label on the way.
  pub record Passes (s : State) (a : Label) (q : State) : Type 0 where
    pub here : State
    pub next : State
    pub lead : Leads s here
    pub step : Step d here a next
    pub rest : Leads next q

  pub at_once : {s r : State} {a : Label} → Step d s a r → Passes s a r
  at_once {s} {r} p = record { here = s; next = r; lead = stays s; step = p; rest = stays r }

  pub all_of : {s q : State} {a : Label} → Passes s a q → Leads s q
  all_of p = onto p.lead (steps p.step p.rest)

  pub from-earlier : {s r q : State} {a : Label} → Leads s r → Passes r a q → Passes s a q
  from-earlier l p = record { here = p.here; next = p.next; lead = onto l p.lead; step = p.step; rest = p.rest }

  pub and-on : {s r q : State} {a : Label} → Passes s a r → Leads r q → Passes s a q
  and-on p l = record { here = p.here; next = p.next; lead = p.lead; step = p.step; rest = onto p.rest l }

  -- A run up to that step.
  pub record Met (s : State) (a : Label) : Type 0 where
    pub labels : List Label
    pub final : State
    pub run : Run d s labels final
    pub met : a ∈ labels

  lead-on : {s r : State} {a : Label} → Leads s r → Met r a → Met s a
  lead-on (stays s) m = m
  lead-on (steps {a = b} p l) x =
      let m = lead-on l x in
      record { labels = b ∷ m.labels; final = m.final; run = go p m.run; met = inr m.met }

  pub up_to : {s q : State} {a : Label} → Passes s a q → Met s a
  up_to {a = a} p =
      lead-on p.lead
      (record { labels = a ∷ []; final = p.next; run = go p.step (stop p.next); met = inl refl })

  -- A state that has every step of another passes what that passes.
  abbrev pub StepsAs : State → State → Type 0
  StepsAs s s' = (b : Label) (r : State) → Step d s b r → Step d s' b r

  pub passes-as : {s s' q : State} {a : Label} → StepsAs s s' → Passes s a q → Passes s' a q
  passes-as {s} {s'} {q} {a} f p = first p.lead p.step p.rest
    where
      first : {here next : State} → Leads s here → Step d here a next → Leads next q → Passes s' a q
      first (stays s) x rest = and-on (at_once (f a _ x)) rest
      first (steps y l) x rest = record { here = _; next = _; lead = steps (f _ _ y) l; step = x; rest = rest }

  -- What stands around a state while it steps: what follows it, another side, an operator. It lets every step happen, with one label
  -- or another.
  pub record Frame (around : State → State) (becomes : Label → Label → Type 0) : Type 0 where
    pub some : Label → Label
    pub becomes-some : (a : Label) → becomes a (some a)
    pub moves : {a b : Label} {s r : State} → Step d s a r → becomes a b → Step d (around s) b (around r)

  module _ {around : State → State} {becomes : Label → Label → Type 0} (f : Frame around becomes) where
    pub leads-in : {s q : State} → Leads s q → Leads (around s) (around q)
    leads-in (stays s) = stays (around s)
    leads-in (steps {a = a} p l) = steps (f.moves p (f.becomes-some a)) (leads-in l)

    pub passes-in : {s q : State} {a b : Label} → becomes a b → Passes s a q → Passes (around s) b (around q)
    passes-in x p =
        record {
          here = around p.here;
          next = around p.next;
          lead = leads-in p.lead;
          step = f.moves p.step x;
          rest = leads-in p.rest;
        }

  -- The frames: all but an operator let the label be.
  same-label : (around : State → State) → ((a : Label) (s r : State) → Step d s a r → Step d (around s) a (around r)) → Frame around (λ a b. b ≡ a)
  same-label around f =
      record {
        some = λ a. a;
        becomes-some = λ a. refl;
        moves = λ {a} {b} {s} {r} p e. subst (λ (x : Label). Step d (around s) x (around r)) (sym e) (f a s r p);
      }

  pub before-term : (u : ℕ) → Frame (λ s. followed s u) (λ a b. b ≡ a)
  before-term u = same-label (λ s. followed s u) (λ a s r p. before p)

  pub left-of : (q : State) → Frame (λ s. beside s q) (λ a b. b ≡ a)
  left-of q = same-label (λ s. beside s q) (λ a s r p. on-left p)

  pub right_of : (q : State) → Frame (beside q) (λ a b. b ≡ a)
  right_of q = same-label (beside q) (λ a s r p. on-right p)

  -- An exact operator makes at least one label of any: hide and rename just one, comm the label itself, among others.
  pub in-operator : {o : Operator} → ExactOperator o → Frame (within o) (Acts (names d) o)
  in-operator (a-hide ns) = record { some = without ns; becomes-some = λ a. refl; moves = λ p x. inner p x }
  in-operator (a-rename ps) = record { some = renamed (names d) (target ps); becomes-some = λ a. refl; moves = λ p x. inner p x }
  in-operator (a-comm rs) = record { some = λ a. plus a []; becomes-some = λ a. enough a []; moves = λ p x. inner p x }
