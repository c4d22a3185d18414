-- A text that is refused for its form is wrong at the line and the column with which it is refused.
-- Assumes nothing.
use mathlib.Core.Path.{◌≡◌, refl, sym, ap, subst, subst₂, ◌∙◌}
use mathlib.Core.Bool.{Bool, true, false}
use mathlib.Core.List.{List, [], ◌∷◌, ◌++◌}
use Prim.Native.Nat.{ℕ, suc}
use native.Mathlib.Omega.{arith}
use lib.Dec.{ltb}
use lib.ListN.{length}
use Rattle.meaning.specs.Bytes.{Text, ascii}
use Rattle.meaning.specs.Descriptions.{Term, Description}
use Rattle.meaning.specs.Answers.{form, range}
use Rattle.meaning.specs.Answers as A
use Rattle.grammar.specs.Faults.{term_said, term_fault, order_said, order_fault}
use Rattle.grammar.specs.Reading.{take_number, take_name, take_term, take_body, take_order, Flaw, Walk, reached, halted, from_order, from_root, from_bodies}
use Rattle.grammar.specs.Reading.{from_terms, from_counts, from_names, is_free, Reading, overlong, bad_line, at_first, Whole, whole_text, described}
use Rattle.grammar.specs.Reading.{read_text, names_in_range, equations_in_range, terms_in_range}
use Rattle.columns.specs.Farthest.{count, name, term, order}
use Rattle.columns.specs.Plans.{Plan, nothing, counted, due, times, description, Wrong, left_over}
use Rattle.columns.proofs.Findings.{name-other, range_other, term-formed, order-formed}
use Rattle.columns.proofs.Reading.{keeps-if, keeps-unless, Fair, fair-line, fair-count, fair-lines}

-- The sections of a text, from the last one on.
abbrev order_plan : Plan
order_plan = due order nothing

abbrev root_plan : Plan
root_plan = due (count (ascii "root=")) order_plan

abbrev bodies_plan : ℕ → Plan
bodies_plan e = times e (count (ascii "equation=")) root_plan

abbrev names_plan : ℕ → Plan
names_plan n =
    times n name
    (counted (ascii "equations=") equations_in_range (λ e. counted (ascii "terms=") terms_in_range (λ t. times t term (bodies_plan e))))

fair-order : (d : Description) (next : ℕ) (s : Text) → Fair order_plan next s (from_order d next s)
unfolding take_order
fair-order d next s =
    fair-line order tt nothing next (λ o line s. reached (record { given = d; order = o }) line s)
    (λ o r b x e. subst (λ r. Wrong nothing (suc next) r (suc next) 1) (sym e) left_over) s _
    (λ l r. keeps-unless (order_fault d.words l) (order_said d.words l) r (order-formed d.words l))

fair-root : (words : List Text) (terms : List Term) (bodies : List ℕ) (t next : ℕ) (s : Text)
    → Fair root_plan next s (from_root words terms bodies t next s)
unfolding take_number
fair-root words terms bodies t next s =
    fair-line (count (ascii "root=")) tt order_plan next (λ root. from_order (record { words = words; terms = terms; bodies = bodies; root = root }))
    (λ root r. fair-order (record { words = words; terms = terms; bodies = bodies; root = root }) (suc next) r) s _
    (λ n r. keeps-if (ltb n.it t) range n.from n.it r range_other)

fair-bodies : (words : List Text) (terms : List Term) (e t next : ℕ) (s : Text) → Fair (bodies_plan e) next s (from_bodies words terms e t next s)
unfolding take_body
fair-bodies words terms e t next s =
    fair-lines (count (ascii "equation=")) tt root_plan (take_body t) _ (λ bodies s. refl)
    (λ bodies n r. keeps-if (ltb n.it t) range n.from (bodies ++ (n.it ∷ [])) r range_other)
    (λ bodies. from_root words terms bodies t) (λ bodies. fair-root words terms bodies t) e [] next s

fair-terms : (words : List Text) (e t next : ℕ) (s : Text) → Fair (times t term (bodies_plan e)) next s (from_terms words e t next s)
unfolding take_term
fair-terms words e t next s =
    fair-lines term tt (bodies_plan e) (take_term words e) _ (λ terms s. refl)
    (λ terms l r. keeps-unless (term_fault words e (length terms) l) (terms ++ (term_said words l ∷ [])) r (term-formed words e (length terms) l))
    (λ terms. from_bodies words terms e t) (λ terms. fair-bodies words terms e t) t [] next s

fair-names : (n next : ℕ) (s : Text) → Fair (names_plan n) next s (from_names n next s)
unfolding take_name
fair-names n next s =
    fair-lines name tt _ take_name _ (λ words s. refl)
    (λ words w r. keeps-if (is_free words w.it) A.name w.from (words ++ (w.it ∷ [])) r name-other) from_counts
    (λ words next s. fair-count (ascii "equations=") tt equations_in_range _ next _ (λ e r.
    fair-count (ascii "terms=") tt terms_in_range _ (suc next) _ (λ t r.
    fair-terms words e t (suc (suc next)) r) r) s) n [] next s

fair-text : (text : Text) → Fair description 1 text (whole_text text)
unfolding description whole_text
fair-text text = fair-count (ascii "names=") tt names_in_range names_plan 1 from_names (λ n r. fair-names n 2 r) text

-- What is read of the whole.
wrong-read : (plan : Plan) (text : Text) (f : Flaw) (line : ℕ) (w : Walk Whole) → Fair plan 1 text w → described w ≡ bad_line f line → f.fault ≡ form
    → Wrong plan 1 text line f.column
wrong-read plan text f line (reached a l []) h e k = let z : ◌≡◌ {A = ℕ} 0 1 = cc in absurd (omega arith)
wrong-read plan text f line (reached a l (b ∷ x)) h e k =
    let i : at_first ≡ f = cc in
    let j : l ≡ line = cc in
    subst₂ (λ (f : Flaw) (l : ℕ). Wrong plan 1 text l f.column) i j (h b x refl)
wrong-read plan text f line (halted g l) h e k =
    let i : g ≡ f = cc in
    let j : l ≡ line = cc in
    subst₂ (λ (f : Flaw) (l : ℕ). Wrong plan 1 text l f.column) i j (h (ap (λ (f : Flaw). f.fault) i ∙ k))

pub wrong-text : (text : Text) (f : Flaw) (line : ℕ) → read_text text ≡ bad_line f line → f.fault ≡ form → Wrong description 1 text line f.column
unfolding read_text
wrong-text text f line e k = by (ltb 8192 (length text)) e
  where
    by : (t : Bool) → elim t as (λ _. Reading) [ true ↦ overlong | false ↦ described (whole_text text) ] ≡ bad_line f line
        → Wrong description 1 text line f.column
    by true e = let z : ◌≡◌ {A = ℕ} 0 1 = cc in absurd (omega arith)
    by false e = wrong-read description text f line (whole_text text) (fair-text text) e k
