use mathlib.Core.Path.{◌≡◌, refl, sym, ◌∙◌}
use Prim.Native.Nat.{◌+◌, ◌-◌, ◌^◌, ◌≤◌, ◌<◌}
use native.Mathlib.Nat.{pow-le-pow_right}
use native.Mathlib.Omega.{arith}
use lib.Dec.{lit<}
use lib.ListN.{get_or}
use Rattle.words.proofs.WordReading.{word_none, word-other, on-end, on-other, worded-start, worded-end, worded-more}
use Rattle.words.proofs.names.read_word.Goals as goal

pub returns-then-most-eq0 : goal.returns-then-most-eq0
returns-then-most-eq0 c =
    let line = c.args.rest.now in
    elim c.then-most-eq0.branch [
      | goal.then-most-eq0-via-then-most-eq0 w ↦ record { stands = record { says = word_none line 0 (omega arith); within = omega arith } }
      | goal.then-most-eq0-via-else-most-eq0+then-not-is_ascii_lowercase w ↦
          let other = sym w.is_ascii_lowercase.ensures.value ∙ w.if-not-is_ascii_lowercase.true in
          record { stands = record { says = word-other line 0 (omega arith) other; within = omega arith } }
    ]

pub loop-bytes-init : goal.loop-bytes-init
loop-bytes-init c =
    worded-start c.args.rest.now 0 (omega arith) (sym c.is_ascii_lowercase.ensures.value ∙ c.if-not-is_ascii_lowercase.false) (omega arith)

pub returns-then-not-goes_on : goal.returns-then-not-goes_on
returns-then-not-goes_on c =
    let line = c.args.rest.now in
    let l = c.loop-bytes in
    record { stands = worded-end line 0 l.invariant (on-other line l.bytes _ (8 - l.bytes) (omega arith) (sym c.goes_on.ensures ∙ c.if-not-goes_on.true)) }

pub loop-bytes-preserved : goal.loop-bytes-preserved
loop-bytes-preserved c =
    let line = c.args.rest.now in
    let l = c.loop-bytes in
    let byte : get_or line l.bytes 0 < 256 = omega arith in
    worded-more line 0 l.invariant (get_or line l.bytes 0) refl byte (omega arith) (omega arith) (sym c.goes_on.ensures ∙ c.if-not-goes_on.false)

pub overflow_add-value : goal.overflow_add-value
overflow_add-value c =
    let l = c.loop-bytes in
    let p : 256 ^ (l.bytes + 1) ≤ 256 ^ 8 = pow-le-pow_right {n = 256} (lit< tt) {j = 8} (omega arith) in
    omega (arith, (loop-bytes-preserved c).small)

pub returns : goal.returns
returns c =
    let line = c.args.rest.now in
    let l = c.loop-bytes in
    let e : c.min-most.result ≡ l.bytes = omega arith in
    rw e (record { stands = worded-end line 0 l.invariant (on-end line l.bytes _ (8 - l.bytes) (λ k. omega (arith, k))) })
