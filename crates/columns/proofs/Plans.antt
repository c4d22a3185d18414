-- A text has one line without right form at most, and one column there.
-- Assumes nothing.
use mathlib.Core.Path.{◌≡◌, refl, sym, ap, subst₂, ◌∙◌}
use mathlib.Core.Bool.{true≢false}
use Prim.Native.Nat.{ℕ, suc}
use Rattle.meaning.specs.Bytes.{Text}
use Rattle.grammar.specs.Text.{Past, past}
use Rattle.columns.specs.Farthest.{Said}
use Rattle.columns.specs.Plans.{Plan, Wrong, no_line, out_of_range, left_over, later}
use Rattle.columns.proofs.Farthest.{longest-unique}

same_rest : {A : Type 0} {a b : A} {q r : Text} {m : Past A} → m ≡ past a q → m ≡ past b r → r ≡ q
same_rest e f = cc

same-said : {A : Type 0} {a b : A} {q r : Text} {m : Past A} → m ≡ past a q → m ≡ past b r → b ≡ a
same-said e f = cc

pub wrong-unique : {plan : Plan} {next : ℕ} {s : Text} {k l c d : ℕ} → Wrong plan next s k c → Wrong plan next s l d → (k ≡ l) × (c ≡ d)
wrong-unique (no_line n h) (no_line m i) = (refl, ap suc (longest-unique h i))
wrong-unique (no_line n h) (out_of_range e i) = absurd (n _ _ e)
wrong-unique (no_line n h) (later e i w) = absurd (n _ _ e)
wrong-unique (out_of_range e i) (no_line n h) = absurd (n _ _ e)
wrong-unique (out_of_range e i) (out_of_range f j) = (refl, refl)
wrong-unique (out_of_range {fits = fits} e i) (later f j w) = absurd (true≢false (sym j ∙ ap fits (same-said e f) ∙ i))
wrong-unique (later e i w) (no_line n h) = absurd (n _ _ e)
wrong-unique (later {fits = fits} e i w) (out_of_range f j) = absurd (true≢false (sym i ∙ ap fits (same-said f e) ∙ j))
wrong-unique (later {d = d} {after = after} {next = next} e i w) (later {bad = l} {column = c} f j v) =
    wrong-unique w (subst₂ (λ (a : Said d) (r : Text). Wrong (after a) (suc next) r l c) (same-said e f) (same_rest e f) v)
wrong-unique left_over left_over = (refl, refl)
