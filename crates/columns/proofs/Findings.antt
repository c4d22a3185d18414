-- A line of right form has no fault of form, but for a count that is out of range.
-- Assumes nothing.
use mathlib.Core.Path.{◌≡◌, subst}
use mathlib.Core.Bool.{Bool, true, false}
use mathlib.Core.List.{List, [], ◌∷◌, map}
use Prim.Native.Nat.{ℕ, suc, ◌+◌}
use native.Mathlib.Omega.{arith}
use lib.Dec.{leb, ltb}
use lib.ListN.{length}
use Rattle.meaning.specs.Bytes.{Text}
use Rattle.meaning.specs.Descriptions.{Term, act, tau, delta, ref, sum, cond, choice, ifelse, seq, merge, lmerge, sync, wrap}
use Rattle.meaning.specs.Answers.{Fault, form, name, range, amount, fault_number}
use Rattle.grammar.specs.Text.{Placed}
use Rattle.grammar.specs.Forms.{Parts, Listed, block, hide, rename, comm, allow, Places, Line, plain, acts, wraps, OrderLine, all, only}
use Rattle.grammar.specs.Faults.{Found, fine, fault, smaller, worse, unless, Item, items_from, items_fault, name_number, actions, name_fault, part_item}
use Rattle.grammar.specs.Faults.{label_fault, name_item, words_fault, pair_item, pairs_fault, rule_item, rules_fault, label_item, labels_fault, list_fault}
use Rattle.grammar.specs.Faults.{range_fault, words_of_fault, term_said, places_of, term_fault, order_fault}

abbrev pub Other : Fault → Type 0
Other x = x ≡ form → ⊥

-- What is found is not a fault of form.
pub record Formed (f : Found) : Type 0 where
  pub other : (x : Fault) (from : ℕ) → f ≡ fault x from → Other x

pub name-other : Other name
name-other e = let z : ◌≡◌ {A = ℕ} 0 1 = cc in omega arith

pub range_other : Other range
range_other e = let z : ◌≡◌ {A = ℕ} 0 1 = cc in omega arith

amount-other : Other amount
amount-other e = let z : ◌≡◌ {A = ℕ} 0 1 = cc in omega arith

formed-fine : Formed fine
formed-fine = record { other = λ x from e. let z : ◌≡◌ {A = ℕ} 0 1 = cc in absurd (omega arith) }

formed-fault : {x : Fault} {from : ℕ} → Other x → Formed (fault x from)
formed-fault {x} h = record { other = λ y from e. let d : x ≡ y = cc in subst Other d h }

formed-unless : (b : Bool) {x : Fault} (from : ℕ) → Other x → Formed (unless b x from)
formed-unless true from h = formed-fine
formed-unless false from h = formed-fault h

formed-smaller : (b : Bool) {f g : Found} → Formed f → Formed g → Formed (smaller b f g)
formed-smaller true h k = h
formed-smaller false h k = k

formed-worse : {f g : Found} → Formed f → Formed g → Formed (worse f g)
formed-worse {f = fine} h k = k
formed-worse {f = fault x p} {g = fine} h k = h
formed-worse {f = fault x p} {g = fault y q} h k = formed-smaller (leb (fault_number x) (fault_number y)) h k

-- Items, each with a fault of its own that is not one of form.
formed-items : {A : Type 0} (item : A → Item) → ((a : A) → Formed (item a).own) → (limit floor total : ℕ) (as' : List A)
    → Formed (items_from limit floor total (map item as'))
unfolding items_from
formed-items item own limit floor total [] = formed-fine
formed-items item own limit floor total (a ∷ as') =
    let i = item a in
    formed-worse
    (formed-worse (own a)
    (formed-worse (formed-unless (leb floor i.key) i.from amount-other) (formed-unless (leb (total + i.weight) limit) i.from amount-other)))
    (formed-items item own limit (suc i.key) (total + i.weight) as')

module _ (words : List Text) where
  formed-name : (w : Placed Text) → Formed (name_fault words w)
  unfolding name_fault
  formed-name w = formed-unless (ltb (name_number words w.it) (length words)) w.from name-other

  formed-label : (from : ℕ) (ps : Parts) → Formed (label_fault words from ps)
  unfolding label_fault items_fault
  formed-label from ps =
      formed-items (part_item words from) (λ p. formed-worse (formed-name p.name) (formed-unless (leb 1 p.times) from amount-other)) 31 0 0 ps

  formed-labels : (ls : List (Placed Parts)) → Formed (labels_fault words ls)
  unfolding labels_fault items_fault
  formed-labels ls = formed-items (label_item words) (λ l. formed-label l.from l.it) 32 0 0 ls

  formed-words : (ws : List (Placed Text)) → Formed (words_fault words ws)
  unfolding words_fault items_fault
  formed-words ws = formed-items (name_item words) formed-name 0 0 0 ws

  formed-list : (l : Listed) → Formed (list_fault words l)
  unfolding pairs_fault rules_fault items_fault
  formed-list (block ws) = formed-words ws
  formed-list (hide ws) = formed-words ws
  formed-list (rename ps) =
      formed-items (pair_item words) (λ p. formed-worse (formed-name p.it.left) (formed-name p.it.right)) 0 0 0 ps
  formed-list (comm rs) =
      formed-items (rule_item words)
      (λ r. formed-worse
      (formed-worse (formed-label r.from r.it.left) (formed-unless (leb 2 (actions r.it.left)) r.from amount-other))
      (formed-name r.it.right))
      8 0 0 rs
  formed-list (allow ls) = formed-labels ls

  formed-both : (bound t u : ℕ) (at : Places)
      → Formed (worse (unless (ltb t bound) range at.first) (unless (ltb u bound) range at.second))
  formed-both bound t u at =
      formed-worse (formed-unless (ltb t bound) at.first range_other) (formed-unless (ltb u bound) at.second range_other)

  formed-range : (equations n : ℕ) (t : Term) (at : Places) → Formed (range_fault equations n t at)
  formed-range equations n (act a) at = formed-fine
  formed-range equations n tau at = formed-fine
  formed-range equations n delta at = formed-fine
  formed-range equations n (ref e) at = formed-unless (ltb e equations) at.first range_other
  formed-range equations n (sum t) at = formed-unless (ltb t n) at.first range_other
  formed-range equations n (cond t) at = formed-unless (ltb t n) at.first range_other
  formed-range equations n (choice t u) at = formed-both n t u at
  formed-range equations n (ifelse t u) at = formed-both n t u at
  formed-range equations n (seq t u) at = formed-both n t u at
  formed-range equations n (merge t u) at = formed-both n t u at
  formed-range equations n (lmerge t u) at = formed-both n t u at
  formed-range equations n (sync t u) at = formed-both n t u at
  formed-range equations n (wrap o t) at = formed-unless (ltb t n) at.first range_other

  formed-entries : (l : Line) → Formed (words_of_fault words l)
  unfolding words_of_fault
  formed-entries (plain t at) = formed-fine
  formed-entries (acts w) = formed-name w
  formed-entries (wraps l t) = formed-list l

  pub term-formed : (equations n : ℕ) (l : Line) → Formed (term_fault words equations n l)
  unfolding term_fault
  term-formed equations n l = formed-worse (formed-entries l) (formed-range equations n (term_said words l) (places_of l))

  pub order-formed : (l : OrderLine) → Formed (order_fault words l)
  unfolding order_fault
  order-formed all = formed-fine
  order-formed (only ls) = formed-labels ls
