-- A set at the start of the work area, with 0 behind it.
-- Assumes nothing.
use Rattle.std.specs.Prelude.{◌≡◌, ◌⊎◌, List, ◌++◌, ℕ, ◌-◌, ◌≤◌, ◌<◌, length, drop, replicate}
use Rattle.meaning.specs.Labels.{in_words}
use Rattle.areas.specs.Rows.{held}
use Rattle.parts.specs.declared.Part.{Part}
use Rattle.parts.specs.Parts.{part}

-- how many words are used of the work area
abbrev pub whole : ℕ
whole = 8192

-- and how many labels they hold
abbrev pub whole_labels : ℕ
whole_labels = 4096

-- 0 behind it as far as words are used, and the further words as they were
abbrev pub alone : (set work : List ℕ) → List ℕ
alone set work = set ++ (replicate (whole - length set) 0 ++ drop whole work)

pub record Settled (p : Part) (work work' : List ℕ) (r : ℕ) : Type 0 where
  pub outside : (length work < whole) ⊎ (whole_labels < p.to) → (r ≡ 0) × (work' ≡ work)
  pub within : whole ≤ length work → p.to ≤ whole_labels
      → (r ≡ p.to - p.from) × (work' ≡ alone (in_words (part p.from p.to (held work))) work)
