-- The lines of bodies and the root's: what they say, and what they leave in the table.
-- Assumes nothing.
use Rattle.std.specs.Prelude.{◌≡◌, List, [], ℕ, suc, ◌+◌, ltb, length, Result}
use Rattle.meaning.specs.Bytes.{Text, ascii}
use Rattle.meaning.specs.Answers.{range}
use Rattle.grammar.specs.Reading.{take_number, take_body, Walk, reached, walk, one_line, lines}
use Rattle.keyed.specs.declared.BadLine.{BadLine}
use Rattle.sections.specs.Laying.{laid_at, with_foot}
use Rattle.sections.specs.Sections.{Passes, Within}

-- What the lines say.
pub record Footing : Type 0 where
  pub bodies : List ℕ
  pub root : ℕ

abbrev pub foot_root : ℕ → List ℕ → ℕ → Text → Walk Footing
foot_root t bodies line s =
    walk (one_line (take_number (ascii "root=") (λ r. ltb r t) range) line s) (λ root line s. reached (record { bodies = bodies; root = root }) line s)

abbrev pub foot_text : (equations terms : ℕ) → ℕ → Text → Walk Footing
foot_text e t line s = walk (lines (take_body t) e [] line s) (λ bodies line s. foot_root t bodies line s)

-- Bodies in their words of the table.
pub record BodiesLeft (equations : ℕ) (table table' : List ℕ) (bodies : List ℕ) : Type 0 where
  pub counted : length bodies ≡ equations
  pub laid : table' ≡ laid_at 28 bodies table

pub record BodiesRead (text : Text) (line equations terms : ℕ) (table table' : List ℕ) (r : Result ℕ BadLine) : Type 0 where
  pub tabled : Within 140 table table'
  pub came : Passes text (lines (take_body terms) equations [] line text) (λ bodies. line + equations) (BodiesLeft equations table table') r

-- The bodies and the root.
pub record FootLeft (equations : ℕ) (table table' : List ℕ) (f : Footing) : Type 0 where
  pub counted : length f.bodies ≡ equations
  pub laid : table' ≡ with_foot f.bodies f.root table

pub record FootRead (text : Text) (line equations terms : ℕ) (table table' : List ℕ) (r : Result ℕ BadLine) : Type 0 where
  pub tabled : Within 140 table table'
  pub came : Passes text (foot_text equations terms line text) (λ f. suc (line + equations)) (FootLeft equations table table') r
