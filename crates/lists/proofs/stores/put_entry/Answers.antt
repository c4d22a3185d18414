-- `lists::stores::put_entry` meets its contract: as many words as the kind has, one after the other.
-- Assumes nothing.
use mathlib.Core.Path.{◌≡◌, ap, ap₂, ◌∙◌}
use Prim.Native.Nat.{◌+◌, ◌*◌, ◌^◌, ◌<◌}
use native.Mathlib.Omega.{arith}
use lib.ListN.{set}
use Rattle.labels.specs.Packing.{code}
use Rattle.lists.specs.Lists.{set_from}
use Rattle.lists.proofs.stores.put_entry.Goals as goal
use Rattle.lists.proofs.stores.put_entry.Goals.{In-Pairs}

fits : (c : In-Pairs)
    → let a = c.args in
    code a.first + 32 * a.second < 2 ^ 64
fits c = rw c.in-Pairs.is at c.requires.1

pub overflow_mul-second : goal.overflow_mul-second
overflow_mul-second c = omega (arith, fits (goal.at.overflow_mul-second c).In-Pairs)

pub overflow_add-number_of : goal.overflow_add-number_of
overflow_add-number_of c = omega (arith, fits (goal.at.overflow_add-number_of c).In-Pairs, c.number_of-in-Pairs.ensures)

pub returns-in-Names : goal.returns-in-Names
unfolding set_from
returns-in-Names c =
    let a = c.args in
    let small : code a.first < 2 ^ 64 = rw c.in-Names.is at c.requires.1 in
    let word : c.number_of.result ≡ code a.first = omega (arith, c.number_of.ensures) in
    rw c.in-Names.is (c.put.ensures ∙ ap (set a.store.now a.at) word)

pub returns-in-Pairs : goal.returns-in-Pairs
unfolding set_from
returns-in-Pairs c =
    let a = c.args in
    let number = c.number_of-in-Pairs in
    let word : number.result + 32 * a.second ≡ code a.first + 32 * a.second = omega (arith, fits (goal.at.returns-in-Pairs c).In-Pairs, number.ensures) in
    rw c.in-Pairs.is (c.put-in-Pairs.ensures ∙ ap (set a.store.now a.at) word)

pub returns-in-Rules : goal.returns-in-Rules
unfolding set_from
returns-in-Rules c =
    let a = c.args in
    let place : a.at + 2 ≡ a.at + 1 + 1 = omega arith in
    rw c.in-Rules.is (c.put-in-Rules.ensures ∙ ap₂ (λ l n. set l n a.second) c.put_label.ensures place)

pub returns-in-Labels : goal.returns-in-Labels
returns-in-Labels c =
    rw c.in-Labels.is c.put_label-in-Labels.ensures
