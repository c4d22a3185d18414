-- A term is a sync, or is any other; and what holds of every other: what it is built of does not depend on its operands.
-- Assumes nothing.
use mathlib.Core.Path.{◌≡◌, refl}
use mathlib.Core.Bool.{Bool}
use Prim.Native.Nat.{ℕ}
use Rattle.meaning.specs.Descriptions.{Term, act, tau, delta, ref, sum, cond, choice, ifelse, seq, merge, lmerge, sync, wrap}
use Rattle.meaning.specs.Rounds.{of_actions}

abbrev pub NoSync : Term → Type 0
NoSync (sync t u) = ⊥
NoSync (act a) = Unit {0}
NoSync tau = Unit {0}
NoSync delta = Unit {0}
NoSync (ref e) = Unit {0}
NoSync (sum t) = Unit {0}
NoSync (cond t) = Unit {0}
NoSync (choice t u) = Unit {0}
NoSync (ifelse t u) = Unit {0}
NoSync (seq t u) = Unit {0}
NoSync (merge t u) = Unit {0}
NoSync (lmerge t u) = Unit {0}
NoSync (wrap o t) = Unit {0}

pub data SyncOrOther : Term → Type 0 where
  is-sync : (t u : ℕ) → SyncOrOther (sync t u)
  other : (x : Term) → NoSync x → SyncOrOther x

pub sync-or-other : (x : Term) → SyncOrOther x
sync-or-other (sync t u) = is-sync t u
sync-or-other (act a) = other (act a) tt
sync-or-other tau = other tau tt
sync-or-other delta = other delta tt
sync-or-other (ref e) = other (ref e) tt
sync-or-other (sum t) = other (sum t) tt
sync-or-other (cond t) = other (cond t) tt
sync-or-other (choice t u) = other (choice t u) tt
sync-or-other (ifelse t u) = other (ifelse t u) tt
sync-or-other (seq t u) = other (seq t u) tt
sync-or-other (merge t u) = other (merge t u) tt
sync-or-other (lmerge t u) = other (lmerge t u) tt
sync-or-other (wrap o t) = other (wrap o t) tt

pub built-other : (q r : ℕ → Bool) (x : Term) → NoSync x → of_actions q x ≡ of_actions r x
built-other q r (sync t u) h = absurd h
built-other q r (act a) h = refl
built-other q r tau h = refl
built-other q r delta h = refl
built-other q r (ref e) h = refl
built-other q r (sum t) h = refl
built-other q r (cond t) h = refl
built-other q r (choice t u) h = refl
built-other q r (ifelse t u) h = refl
built-other q r (seq t u) h = refl
built-other q r (merge t u) h = refl
built-other q r (lmerge t u) h = refl
built-other q r (wrap o t) h = refl
