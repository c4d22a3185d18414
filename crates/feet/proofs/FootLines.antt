-- The bodies, and the root after them.
-- Assumes nothing.
use mathlib.Core.Path.{◌≡◌, refl, sym, ap, ◌∙◌}
use mathlib.Core.List.{List, []}
use Prim.Native.Nat.{ℕ, ◌+◌, ◌≤◌}
use native.Mathlib.Omega.{arith}
use lib.Dec.{ltb}
use lib.ListN.{length, set}
use Rattle.std.specs.Prelude.{Result, Ok, Err}
use Rattle.meaning.specs.Bytes.{Text, ascii}
use Rattle.meaning.specs.Answers.{range}
use Rattle.words.proofs.Steps.{rest_at}
use Rattle.grammar.specs.Reading.{Walk, take_number, take_body, reached, one_line, lines}
use Rattle.keyed.specs.Numbers.{between, NumberTo}
use Rattle.words.specs.declared.Taken.{Taken}
use Rattle.keyed.specs.declared.BadLine.{BadLine}
use Rattle.keyed.proofs.Walks.{gone-within}
use Rattle.sections.specs.Laying.{laid_at}
use Rattle.sections.specs.Sections.{Section}
use Rattle.feet.specs.Feet.{Footing, foot_root, BodiesLeft, BodiesRead, FootRead}
use Rattle.sections.proofs.Laid.{laid_one}
use Rattle.sections.proofs.Lent.{rest-within, rest-to, rest-bad, goes_on, stops-there}
use Rattle.sections.proofs.Tests.{number-to, number-bad}
use Rattle.sections.proofs.LaidLines.{set-within, within_both}
use Rattle.feet.proofs.BodyTests.{below-test}

abbrev rooted : List ℕ → ℕ → ℕ → Text → Walk Footing
rooted bodies root line s = reached (record { bodies = bodies; root = root }) line s

module _ {text : Text} {line equations terms : ℕ} {before mid : List ℕ} {r : Result ℕ BadLine} (b : BodiesRead text line equations terms before mid r) where
  abbrev on_root : List ℕ → ℕ → Text → Walk Footing
  on_root bodies line s = foot_root terms bodies line s

  pub foot-bodies-bad : {l : BadLine} → r ≡ Err l → FootRead text line equations terms before mid (Err l)
  foot-bodies-bad e = let q = rw e at b.came in record { tabled = b.tabled; came = stops-there on_root q }

  module _ {at : ℕ} (e : r ≡ Ok at) where
    bodies : Section text (lines (take_body terms) equations [] line text) (λ bs. line + equations) (BodiesLeft equations before mid) at
    bodies = rw e at b.came

    pub foot-within : at ≤ length text
    foot-within = bodies.within

    module _ {g : Result (Taken ℕ) BadLine}
        (w : NumberTo (rest_at text at) (line + equations) terms g
        (one_line (take_number (ascii "root=") (between 0 terms) range) (line + equations) (rest_at text at))) where
      pub foot-on : {t : Taken ℕ} → g ≡ Ok t → at + t.bytes ≤ length text
      foot-on q = rest-within text at foot-within (gone-within w.walks q)

      pub foot-root-bad : {l : BadLine} → g ≡ Err l → FootRead text line equations terms before mid (Err l)
      foot-root-bad q =
          let k = rest-bad text at foot-within (one_line (take_number (ascii "root=") (λ r. ltb r terms) range) (line + equations))
          (number-bad (ascii "root=") 0 terms (λ r. ltb r terms) (below-test terms) range (line + equations) (rest_at text at) w q) in
          record { tabled = b.tabled; came = goes_on on_root bodies.says (stops-there (rooted bodies.read) k) }

      pub foot-end : {t : Taken ℕ} → g ≡ Ok t → FootRead text line equations terms before (set mid 3 t.value) (Ok (at + t.bytes))
      foot-end {t} q =
          let root = t.value in
          let took = t.bytes in
          let k = rest-to text at foot-within (one_line (take_number (ascii "root=") (λ r. ltb r terms) range) (line + equations)) took
          (number-to (ascii "root=") 0 terms (λ r. ltb r terms) (below-test terms) range (line + equations) (rest_at text at) w q) in
          record {
            tabled = within_both b.tabled (set-within 140 3 root mid (omega arith));
            came = record {
              read = record { bodies = bodies.read; root = root };
              says = goes_on on_root bodies.says (goes_on (rooted bodies.read) k refl);
              within = foot-on q;
              left = record {
                counted = bodies.left.counted;
                laid = ap (λ l. set l 3 root) bodies.left.laid ∙ sym (laid_one 3 root (laid_at 28 bodies.read before));
              };
            };
          }
