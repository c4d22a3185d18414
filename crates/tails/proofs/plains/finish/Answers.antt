-- `tails::plains::finish` meets its contract: LF ends the line there, or it is stuck there.
-- Assumes nothing.
use mathlib.Core.Path.{sym, ◌∙◌}
use Prim.Native.Nat.{◌+◌, ◌≤◌}
use native.Mathlib.Omega.{arith}
use lib.ListN.{length}
use Rattle.table.specs.Terms.{bare_term}
use Rattle.grammar.specs.Text.{lf, past}
use Rattle.grammar.specs.Forms.{plain}
use Rattle.words.proofs.Rests.{sign-within}
use Rattle.words.proofs.Steps.{no_sign, past-sign, arrived}
use Rattle.ranges.specs.Ranges.{places_for}
use Rattle.tails.proofs.plains.finish.Goals as goal

pub returns-then-not-sign_at : goal.returns-then-not-sign_at
returns-then-not-sign_at c =
    let a = c.args in
    no_sign lf a.rest.now a.at (λ _ s. past (plain (bare_term a.term) (places_for a.places)) s)
    (sym c.sign_at.ensures ∙ c.if-not-sign_at.true) c.requires.0

pub returns : goal.returns
returns c =
    let a = c.args in
    let line = plain (bare_term a.term) (places_for a.places) in
    let there = sym c.sign_at.ensures ∙ c.if-not-sign_at.false in
    let w : a.at + 1 ≤ length a.rest.now = omega (arith, sign-within lf a.rest.now a.at there) in
    let s = past-sign lf a.rest.now a.at (λ _ s. past line s) there (arrived line w) in
    record { places = places_for a.places; says = s.says; within = s.within; faults = c.range_fault-fault.ensures; plainly = c.requires.1 }
