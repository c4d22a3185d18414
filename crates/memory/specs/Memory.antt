-- States kept in a row of labels, and which states they cover.
-- Assumes nothing.
use Rattle.std.specs.Prelude.{◌≡◌, Bool, true, false, not, ◌&&◌, ◌||◌, List, [], ◌∷◌, ℕ, zero, suc, ◌+◌, ◌-◌, ◌*◌, ◌%◌, ◌^◌, ◌<◌, eqb, leb, ltb, length, get_or, set}
use Rattle.meaning.specs.Sets.{◌∈◌}
use Rattle.labels.specs.Bags.{bag, as_much}
use Rattle.rules.specs.Rules.{Exchange, exchanges_before}
use Rattle.choices.specs.Following.{comes_of}

-- Where states are kept: a slot by the label, and in it one of eight ways by what is left. Labels that differ little fall far apart.
unfoldable pub slot_of : ℕ → ℕ
slot_of w = let short = w % 1000003 + 1000 in (short * short % 1000003) % 503

abbrev pub ways : ℕ
ways = 8

abbrev pub way_of : ℕ → ℕ
way_of rest = slot_of rest % ways

-- Whether of every name that a rule takes the second has no fewer than the first.
unfoldable pub covers_in : List Exchange → ℕ → ℕ → Bool
covers_in [] a b = true
covers_in (r ∷ rs) a b = as_much (bag r.left) (bag a) (bag b) && covers_in rs a b

-- Whether rules before one place are among those before another.
abbrev pub reaches : ℕ → ℕ → Bool
reaches place before = leb before place && eqb ((place - before) % 2) 0

-- The place that an entry's third label tells: its number, as far as a word holds it.
abbrev pub place_at : List ℕ → ℕ → ℕ
place_at memory entry = get_or memory (3 * entry + 2) 0 % 2 ^ 64

-- Whether what is kept at an entry covers a state: three labels stand there, the first is the state's, what the third tells was applied
-- to it are the state's rules and maybe more, and of what these take no less was left.
abbrev pub holds_at : (memory ls : List ℕ) → (entry before rest sum : ℕ) → Bool
holds_at memory ls entry before rest sum =
    ltb (3 * entry + 2) (length memory) && (eqb (get_or memory (3 * entry) 0) sum
    && (reaches (place_at memory entry) before && covers_in (exchanges_before ls before) rest (get_or memory (3 * entry + 1) 0)))

-- One of so many entries does, from one on. The empty label is no state's: an empty memory holds it everywhere.
unfoldable pub holds_from : ℕ → (memory ls : List ℕ) → (entry before rest sum : ℕ) → Bool
holds_from zero memory ls entry before rest sum = false
holds_from (suc more) memory ls entry before rest sum =
    holds_at memory ls entry before rest sum || holds_from more memory ls (suc entry) before rest sum

abbrev pub known_in : (memory ls : List ℕ) → (before rest sum : ℕ) → Bool
known_in memory ls before rest sum = not (eqb sum 0) && holds_from ways memory ls (ways * slot_of sum) before rest sum

-- A memory with a state kept in it.
abbrev pub kept_at : (memory : List ℕ) → (entry before rest sum : ℕ) → List ℕ
kept_at memory entry before rest sum = set (set (set memory (3 * entry) sum) (3 * entry + 1) rest) (3 * entry + 2) before

abbrev pub remembered : (memory : List ℕ) → (before rest sum : ℕ) → List ℕ
remembered memory before rest sum = kept_at memory (ways * slot_of sum + way_of rest) before rest sum

-- What is kept is true of a set: all that comes of a kept state is in it.
abbrev pub Recalls : (all ls memory set : List ℕ) → Type 0
Recalls all ls memory set = (entry : ℕ) → 3 * entry + 2 < length memory → (get_or memory (3 * entry) 0 ≡ 0 → ⊥) → (w : ℕ)
    → w ∈ comes_of all (exchanges_before ls (place_at memory entry)) (get_or memory (3 * entry + 1) 0) (get_or memory (3 * entry) 0) → w ∈ set
