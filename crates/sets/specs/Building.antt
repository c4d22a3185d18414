-- Sets built label by label, until one finds no room.
-- Assumes nothing.
use Rattle.std.specs.Prelude.{◌≡◌, Bool, true, false, List, [], ◌∷◌, ℕ, length, Option, Some, None, Result, Ok, Err}
use Rattle.labels.specs.declared.Label.{Label}
use Rattle.labels.specs.Packing.{code}
use Rattle.sets.specs.declared.TooLarge.{TooLarge}
use Rattle.parts.specs.declared.Target.{Target}
use Rattle.parts.specs.Parts.{set_at, laid, room_at}
use Rattle.sets.specs.Inserting.{put_in, inserted}

-- A set as far as it is built, and whether all went in.
pub record Building : Type 0 where
  pub set : List ℕ
  pub whole : Bool

abbrev pub done : List ℕ → Building
done s = record { set = s; whole = true }

abbrev pub stopped : List ℕ → Building
stopped s = record { set = s; whole = false }

-- What a function answers: how many labels the set holds, or that it would pass a limit.
abbrev pub pick_built : Bool → ℕ → Result ℕ TooLarge
pick_built true n = Ok n
pick_built false n = Err (record {})

abbrev pub answer_of : Building → Result ℕ TooLarge
answer_of b = pick_built b.whole (length b.set)

-- One step after another, unless the first was stopped; each label of a list in turn.
abbrev pub goes_on : Bool → Building → (List ℕ → Building) → Building
goes_on true b more = more b.set
goes_on false b more = b

abbrev pub and_then : Building → (List ℕ → Building) → Building
and_then b more = goes_on b.whole b more

unfoldable pub each : (ℕ → List ℕ → Building) → List ℕ → List ℕ → Building
each step [] s = done s
each step (w ∷ ws) s = and_then (step w s) (each step ws)

-- A label is put in. If it was not there, more may follow.
abbrev pub followed_by : Result Bool TooLarge → ℕ → (List ℕ → Building) → List ℕ → Building
followed_by (Err e) w more s = stopped s
followed_by (Ok false) w more s = done s
followed_by (Ok true) w more s = more (put_in s w)

abbrev pub enter : ℕ → ℕ → List ℕ → Building
enter room w s = followed_by (inserted room w s) w done s

-- A label that is offered goes on to a step, and where none is there is nothing to put in.
abbrev pub taken : (ℕ → List ℕ → Building) → Option Label → List ℕ → Building
taken step None s = done s
taken step (Some a) s = step (code a) s

-- A sum goes on to a step, and where there is none, as it has over 31 actions, the set stops.
abbrev pub summed : (ℕ → List ℕ → Building) → Option Label → List ℕ → Building
summed step None s = stopped s
summed step (Some a) s = step (code a) s

-- A function that builds a set of `len` labels at a place on: what it answers, and the words after it.
pub record Grown (build : List ℕ → Building) (at len : ℕ) (before after : List ℕ) (r : Result ℕ TooLarge) : Type 0 where
  pub answer : r ≡ answer_of (build (set_at at len before))
  pub words : after ≡ laid at (build (set_at at len before)).set before

-- The same of a function that is told where: what it builds, by the room that is there.
abbrev pub GrownAt : Target → (ℕ → List ℕ → Building) → (before after : List ℕ) → Result ℕ TooLarge → Type 0
GrownAt t build before after r = Grown (build (room_at t.at t.most (length before))) t.at t.len before after r
