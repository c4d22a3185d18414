-- Round after round: what holds before each, and what the last comes to.
-- Assumes nothing.
use Rattle.std.specs.Prelude.{Ok, Err}
use mathlib.Core.Path.{◌≡◌, refl, ap, subst, ◌∙◌}
use mathlib.Core.Logic.{inr}
use mathlib.Core.Bool.{Bool, true, false}
use mathlib.Core.List.{List, [], ◌∷◌, map}
use Prim.Native.Nat.{ℕ, suc, ◌+◌, ◌≤◌, ◌<◌}
use native.Mathlib.Nat.{not-suc-le-zero}
use native.Mathlib.Numerals.{add-one}
use native.Mathlib.Decide.{dec_lt}
use native.Mathlib.Omega.{arith}
use lib.ListN.{length}
use Rattle.meaning.specs.Labels.{Label}
use Rattle.meaning.specs.Sets.{at, spread}
use Rattle.meaning.specs.Descriptions as D
use Rattle.meaning.specs.Rounds.{round_sets}
use Rattle.meaning.specs.Answers.{listed, cut}
use Rattle.meaning.proofs.Stability.{Stable, unstable-total}
use Rattle.meaning.proofs.Outcomes.{stable-answer}
use Rattle.table.specs.Encoded.{slot_of}
use Rattle.table.specs.Holding.{HoldsLists}
use Rattle.deltas.proofs.Passing.{few-together}
use Rattle.advances.specs.Advances.{Midway, Kept}
use Rattle.advances.proofs.Keepings.{kept_self, kept_trans}
use Rattle.courses.specs.Courses.{Coursed, HandedOn}
use Rattle.courses.proofs.Handing.{handed-length}
use Rattle.stability.specs.Stages.{LastMade}
use Rattle.stability.proofs.Turning.{few-over, ended-few, ended-stands, handed-stable, handed-unstable, next-begins}

-- The order `all` cuts nothing away.
pub cut_all : (s : List Label) → cut D.all s ≡ s
unfolding cut spread
cut_all [] = refl
cut_all (a ∷ s) = ap (λ (r : List Label). a ∷ r) (cut_all s)

-- Before the round after round k: its sets stand, and no round so far was stable.
pub record Rounded (d : D.Description) (k : ℕ) (sets news work log out : List ℕ) (end : ℕ) : Type 0 where
  pub midway : Midway d k 0 sets news work log out end
  pub unstable : (j : ℕ) → j < k → Stable d j → ⊥

-- How far the rounds have come.
pub record Turned (slots lists bodies sets₀ news₀ work₀ log₀ out₀ sets news work log out : List ℕ) (k end : ℕ) : Type 0 where
  pub kept : Kept sets₀ news₀ work₀ log₀ out₀ sets news work log out
  pub right : (d : D.Description) → slots ≡ map slot_of d.terms → HoldsLists d lists → bodies ≡ d.bodies
      → Midway d 0 0 sets₀ news₀ work₀ log₀ out₀ 0 → Rounded d k sets news work log out end

module _ {slots lists bodies sets₀ news₀ work₀ log₀ out₀ : List ℕ} where
  pub turned-start : Turned slots lists bodies sets₀ news₀ work₀ log₀ out₀ sets₀ news₀ work₀ log₀ out₀ 0 0
  turned-start = record {
    kept = kept_self sets₀ news₀ work₀ log₀ out₀;
    right = λ d s t b m. record { midway = m; unstable = λ j h. absurd (not-suc-le-zero h) };
  }

  module _ (few : length log₀ ≤ 2048) {sets news work log out : List ℕ} {k end : ℕ}
      (t : Turned slots lists bodies sets₀ news₀ work₀ log₀ out₀ sets news work log out k end) where
    -- 2,049 rounds are enough
    pub turned-end : 2049 ≤ k → LastMade slots lists bodies sets₀ news₀ work₀ log₀ out₀ sets news work log out (Err (record {}))
    turned-end h = record {
      kept = t.kept;
      right = λ d s u b m.
          let x = t.right d s u b m in
          let fewer = unstable-total d k x.unstable in
          let most = few-together (length log) (round_sets d k) x.midway.few in
          absurd (omega (arith, t.kept.log_long));
    }

    module _ {sets' news' work' log' out' : List ℕ} where
      module _ (c : Coursed slots lists end sets news work log out sets' news' work' log' out' (Err (record {}))) where
        pub turned-large : LastMade slots lists bodies sets₀ news₀ work₀ log₀ out₀ sets' news' work' log' out' (Err (record {}))
        turned-large = record {
          kept = kept_trans t.kept c.kept;
          right = λ d s u b m.
              let passed = c.right d k s u (t.right d s u b m).midway in
              inr (record { round = suc k; passed = rw (c.kept.log_long ∙ t.kept.log_long) at passed });
        }

      module _ {end' : ℕ} (c : Coursed slots lists end sets news work log out sets' news' work' log' out' (Ok end')) {news'' : List ℕ} where
        kept-handed : {some : Bool} → HandedOn bodies news' news'' some → Kept sets₀ news₀ work₀ log₀ out₀ sets' news'' work' log' out'
        kept-handed h =
            let same = ap length h.row ∙ handed-length 0 bodies news' in
            kept_trans (kept_trans t.kept c.kept) (record { sets_long = refl; news_long = same; work_long = refl; log_long = refl; out_long = refl })

        pub turned-stable : HandedOn bodies news' news'' false
            → LastMade slots lists bodies sets₀ news₀ work₀ log₀ out₀ sets' news'' work' log' out' (Ok (k + 1))
        turned-stable h = record {
          kept = kept-handed h;
          right = λ d s u b m.
              let x = t.right d s u b m in
              let done = c.right d k s u x.midway in
              let stable = handed-stable done (rw b at h) in
              let short : length log' ≤ 2048 = omega (arith, c.kept.log_long, t.kept.log_long) in
              rw (add-one k) (record {
                outcome = stable-answer d D.all k x.unstable stable (few-over (length log') (round_sets d (suc k)) short (ended-few done))
                    ∙ ap (listed (suc k)) (cut_all (at (round_sets d (suc k)) d.root));
                stands = ended-stands done;
                few = let few = ended-few done in rw (c.kept.log_long ∙ t.kept.log_long) at few;
              });
        }

        pub turned-step : HandedOn bodies news' news'' true
            → Turned slots lists bodies sets₀ news₀ work₀ log₀ out₀ sets' news'' work' log' out' (k + 1) end'
        turned-step h = record {
          kept = kept-handed h;
          right = λ d s u b m.
              let x = t.right d s u b m in
              let done = c.right d k s u x.midway in
              let handed = rw b at h in
              rw (add-one k) (record {
                midway = next-begins done handed;
                unstable = λ j l y. elim (dec_lt j k) [
                  | yes i ↦ x.unstable j i y
                  | no i ↦ handed-unstable done handed (subst (λ (i : ℕ). Stable d i) (omega arith) y)
                ];
              });
        }
