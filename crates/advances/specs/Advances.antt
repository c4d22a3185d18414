-- What stands where while a round is worked out, and what advancing a term comes to, for the table of a legal description.
-- Assumes nothing.
use Rattle.std.specs.Prelude.{◌≡◌, List, map, ℕ, suc, ◌≤◌, ◌<◌, min, T, length, Result, Ok, Err}
use Rattle.meaning.specs.Labels.{number}
use Rattle.meaning.specs.Sets.{◌∈◌, at}
use Rattle.meaning.specs.Labels.{Label}
use Rattle.meaning.specs.Descriptions as D
use Rattle.meaning.specs.Legal.{Legal}
use Rattle.meaning.specs.Rounds.{round_sets}
use Rattle.labels.proofs.Refinement.{Packs}
use Rattle.slots.specs.declared.Term.{Term}
use Rattle.syncs.specs.Merges.{SyncsJoin}
use Rattle.table.specs.Encoded.{term_for}
use Rattle.table.specs.Holding.{HoldsLists}
use Rattle.parts.specs.declared.Part.{Part}
use Rattle.sets.specs.declared.TooLarge.{TooLarge}
use Rattle.extents.specs.Extents.{part_at, words_in}
use Rattle.layout.specs.Layout.{Standing, half_of}
use Rattle.deltas.specs.Deltas.{arrived, mixed, over_in, labels_in}
use Rattle.arrivals.specs.Arriving.{news_of}

-- labels that stand in the log, before its end
pub record Logged (log : List ℕ) (end : ℕ) (p : Part) (labels : List Label) : Type 0 where
  pub words : words_in p log ≡ map number labels
  pub upright : p.from ≤ p.to
  pub before : p.to ≤ end

-- a set that passes no limit
pub record Small (names : ℕ) (s : List Label) : Type 0 where
  pub packs : (a : Label) → a ∈ s → Packs names a
  pub few : length s ≤ 1024

-- The first n terms of the round after round k are done. Every sync is one of multi-actions: the others are merges by now. Each label
-- was logged once, so that the log ends where the labels of all sets are counted. Between two rounds it is so with no term done.
pub record Midway (d : D.Description) (k n : ℕ) (sets news work log out : List ℕ) (end : ℕ) : Type 0 where
  pub legal : Legal d D.all
  pub joins : SyncsJoin d
  pub stands : Standing (D.term_count d) (λ t. map number (mixed d k n t)) sets work
  pub counted : end ≡ labels_in (D.term_count d) (mixed d k n)
  pub within : end ≤ length log
  pub halves : length log ≤ half_of work
  pub room : min 1024 (length log) ≤ length out
  pub rows : 224 ≤ length news
  pub fresh : (t : ℕ) → t < n → Logged log end (part_at news t) (arrived d (suc k) t)
  pub refs : (e : ℕ) → e < length d.bodies → Logged log end (part_at news (news_of e)) (arrived d k (D.body_at d e))
  pub few : T (over_in (length log) (round_sets d k)) → ⊥
  pub small : (t : ℕ) → t < n → Small (D.names d) (at (round_sets d (suc k)) t)

-- The areas keep their lengths.
pub record Kept (sets news work log out sets' news' work' log' out' : List ℕ) : Type 0 where
  pub sets_long : length sets' ≡ length sets
  pub news_long : length news' ≡ length news
  pub work_long : length work' ≡ length work
  pub log_long : length log' ≡ length log
  pub out_long : length out' ≡ length out

-- A limit is passed by the sets of the round; or one term more is done, and the log ends at a place.
abbrev pub Onward : D.Description → (k n : ℕ) (sets news work log out : List ℕ) → Result ℕ TooLarge → Type 0
Onward d k n sets news work log out (Err e) = T (over_in (length log) (round_sets d (suc k)))
Onward d k n sets news work log out (Ok end) = Midway d k n sets news work log out end

pub record Advanced (term : Term) (lists : List ℕ) (terms n end : ℕ) (sets news work log out sets' news' work' log' out' : List ℕ) (r : Result ℕ TooLarge)
    : Type 0 where
  pub kept : Kept sets news work log out sets' news' work' log' out'
  pub right : (d : D.Description) (k : ℕ) → term ≡ term_for n (D.term_at d n) → HoldsLists d lists → terms ≡ D.term_count d
      → n < D.term_count d → Midway d k n sets news work log out end → Onward d k (suc n) sets' news' work' log' out' r
