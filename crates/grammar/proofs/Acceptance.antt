-- The reading accepts a text exactly when it is the writing of a legal description of at most 8,192 bytes, and returns that
-- description.
-- Assumes nothing.
use mathlib.Core.Path.{◌≡◌, refl, sym, ap, subst, subst₂, ◌∙◌}
use mathlib.Core.Logic.Iff
use mathlib.Core.Logic.{◌↔◌}
use mathlib.Core.Bool.{Bool, true, false, ◌&&◌, not}
use mathlib.Core.List.{List, [], ◌∷◌, ◌++◌}
use Prim.Native.Nat.{ℕ, ◌≤◌}
use native.Mathlib.Omega.{arith}
use lib.Dec.{T, leb, ltb, leb→le, le→leb, ltb→lt, lt→ltb, nltb→le, not_T}
use lib.ListN.{length}
use Rattle.meaning.specs.Bytes.{Text, ascii}
use Rattle.meaning.specs.Descriptions.{Term, Order, Description, names, equations}
use Rattle.meaning.specs.Descriptions as D
use Rattle.meaning.specs.Legal.{LegalOrder, Legal}
use Rattle.meaning.specs.Answers.{Fault, form, name, range}
use Rattle.meaning.proofs.Tests.{and_left, and_right, and_both}
use Rattle.grammar.specs.Text.{is_lower, is_digit}
use Rattle.grammar.specs.Forms.{count_line, name_line}
use Rattle.grammar.specs.Faults.{range_fault, places_of, term_said, term_fault}
use Rattle.grammar.specs.Reading.{take_number, names_in_range, equations_in_range, terms_in_range, is_free, take_name, take_term, take_body, take_order, Flaw, Walk}
use Rattle.grammar.specs.Reading.{reached, halted, Reading, read, overlong, bad_line, all_read, Whole, whole_text, read_text}
use Rattle.grammar.specs.Marks.{decimal}
use Rattle.grammar.specs.Writing.{term_text, order_text, written, LegalWords}
use Rattle.grammar.proofs.Onwards.{T-not→false}
use Rattle.grammar.proofs.Writes.{writes-placed}
use Rattle.grammar.proofs.Atoms.{itself, faultless, Small, writes-number, writes-word}
use Rattle.grammar.proofs.LineForms.{WritesLine, line-ended, line_after, line-narrow}
use Rattle.grammar.proofs.TermLines.{writes-term, writes-order}
use Rattle.grammar.proofs.Sections.{Takes, line→takes, takes-if, Reaches, walk←, one-line←, LegalAfter, lines←}
use Rattle.grammar.proofs.Sections.{Ends, ends-reached, ends-walk, ends-line, ends-section}
use Rattle.grammar.proofs.LegalLines.{NewWord, NewBody, InRange, range-anywhere, NewTerm, legal-words, legal-bodies, legal-terms}

-- The lines.
writes-count : (key : Text) → WritesLine (count_line key) (λ n. n.it) faultless itself (λ n. key ++ decimal n) Small
unfolding count_line is_lower is_digit
writes-count key = line_after key (line-ended (writes-placed (λ _. writes-number)) tt itself faultless itself (λ n. refl) (λ n. Iff.rfl))

takes-number : (key : Text) (test : ℕ → Bool) (f : Fault)
    → Takes (take_number key test f) itself (λ n. key ++ decimal n) (λ n. Small n × T (test n))
unfolding take_number
takes-number key test f = takes-if (writes-count key) test f itself

takes-body : (terms : ℕ) (bodies : List ℕ)
    → Takes (take_body terms bodies) (λ b. bodies ++ (b ∷ [])) (λ b. ascii "equation=" ++ decimal b) (NewBody terms bodies)
unfolding take_body
takes-body terms bodies = takes-if (writes-count (ascii "equation=")) (λ b. ltb b terms) range (λ b. bodies ++ (b ∷ []))

takes-name : (words : List Text) → Takes (take_name words) (λ w. words ++ (w ∷ [])) (λ w. ascii "name=" ++ w) (NewWord words)
unfolding take_name name_line is_lower is_digit
takes-name words =
    takes-if (line_after (ascii "name=") (line-ended (writes-placed (λ _. writes-word)) tt itself faultless itself (λ w. refl) (λ w. Iff.rfl)))
    (is_free words) name (λ w. words ++ (w ∷ []))

takes-term : (words : List Text) → LegalWords words → (references : ℕ) (terms : List Term)
    → Takes (take_term words references terms) (λ t. terms ++ (t ∷ [])) (λ t. ascii "term=" ++ term_text words t) (NewTerm (length words) references terms)
unfolding take_term term_fault
takes-term words legal references terms =
    line→takes (line-narrow (writes-term words legal) (λ l. range_fault references (length terms) (term_said words l) (places_of l))
    (InRange references (length terms)) (λ l. range-anywhere references (length terms) (term_said words l) (places_of l)))
    (λ t. terms ++ (t ∷ [])) (take_term words references terms) (λ l. refl)

takes-order : (words : List Text) → LegalWords words → Takes (take_order words) itself (λ o. ascii "order=" ++ order_text words o) (LegalOrder (length words))
unfolding take_order
takes-order words legal = line→takes (writes-order words legal) itself (take_order words) (λ l. refl)

-- The whole.
pub record Accepted (d : Description) (o : Order) (t : Text) : Type 0 where
  pub writes : t ≡ written d o
  pub legal : Legal d o
  pub words : LegalWords d.words

within : (least most n : ℕ) → T (leb least n && leb n most) ↔ ((least ≤ n) × (n ≤ most))
within least most n = (
  λ h. (leb→le least n (and_left (leb least n) (leb n most) h), leb→le n most (and_right (leb least n) (leb n most) h)),
  λ h. and_both (leb least n) (leb n most) (le→leb least n h.0) (le→leb n most h.1),
)

whole→ : (t : Text) → Ends (whole_text t) (λ w r. r ≡ [] → Accepted w.given w.order t)
unfolding whole_text
whole→ t =
    ends-walk (ends-line (takes-number (ascii "names=") names_in_range form) 1 t) (λ n l₁ r₁ a₁.
    ends-walk (ends-section takes-name n l₁ r₁) (λ words l₂ r₂ a₂.
    let good = (legal-words words).0 a₂.2 in
    ends-walk (ends-line (takes-number (ascii "equations=") equations_in_range form) l₂ r₂) (λ e l₃ r₃ a₃.
    ends-walk (ends-line (takes-number (ascii "terms=") terms_in_range form) l₃ r₃) (λ c l₄ r₄ a₄.
    ends-walk (ends-section (takes-term words good e) c l₄ r₄) (λ terms l₅ r₅ a₅.
    ends-walk (ends-section (takes-body c) e l₅ r₅) (λ bodies l₆ r₆ a₆.
    ends-walk (ends-line (takes-number (ascii "root=") (λ r. ltb r c) range) l₆ r₆) (λ root l₇ r₇ a₇.
    ends-walk (ends-line (takes-order words good) l₇ r₇) (λ order l₈ r₈ a₈.
    let d : Description = record { words = words; terms = terms; bodies = bodies; root = root } in
    let name_number = (within 1 24 n).0 a₁.1.1 in
    let equationNumber = leb→le e 16 a₃.1.1 in
    let termNumber = (within 1 96 c).0 a₄.1.1 in
    let below = ltb→lt root c a₇.1.1 in
    ends-reached (λ end. record {
      writes = unfold written in (cc);
      legal = record {
        name_count = (omega arith, omega arith);
        equation_count = omega arith;
        terms_count = (omega arith, omega arith);
        terms = (legal-terms d (omega arith) [] terms (omega arith)).0 (subst (λ k. LegalAfter (NewTerm (length words) k) [] terms) (sym a₆.1) a₅.2);
        bodies = (legal-bodies (length terms) (omega arith) [] bodies).0 (subst (λ k. LegalAfter (NewBody k) [] bodies) (sym a₅.1) a₆.2);
        root = omega arith;
        order = a₈.1;
      };
      words = good;
    })))))))))

whole← : (d : Description) (o : Order) → Legal d o → LegalWords d.words → Reaches (whole_text (written d o)) (record { given = d; order = o }) []
unfolding whole_text written
whole← d o legal good =
    let name_number = legal.name_count in
    let equationNumber = legal.equation_count in
    let termNumber = legal.terms_count in
    let below = legal.root in
    let e = equations d in
    let t = D.term_count d in
    let legalTerms = (legal-terms d (omega arith) [] d.terms (omega arith)).1 legal.terms in
    let legalBodies = (legal-bodies t (omega arith) [] d.bodies).1 legal.bodies in
    walk← _ (one-line← (takes-number (ascii "names=") names_in_range form) 1 (names d) _ (omega arith, (within 1 24 (names d)).1 name_number)) (λ l₁.
    walk← _ (lines← takes-name d.words [] l₁ _ ((legal-words d.words).1 good)) (λ l₂.
    walk← _ (one-line← (takes-number (ascii "equations=") equations_in_range form) l₂ e _ (omega arith, le→leb e 16 equationNumber)) (λ l₃.
    walk← _ (one-line← (takes-number (ascii "terms=") terms_in_range form) l₃ t _ (omega arith, (within 1 96 t).1 termNumber)) (λ l₄.
    walk← _ (lines← (takes-term d.words good e) d.terms [] l₄ _ legalTerms) (λ l₅.
    walk← _ (lines← (takes-body t) d.bodies [] l₅ _ legalBodies) (λ l₆.
    walk← _ (one-line← (takes-number (ascii "root=") (λ r. ltb r t) range) l₆ d.root _ (omega arith, lt→ltb d.root t below)) (λ l₇.
    walk← _ (one-line← (takes-order d.words good) l₇ o [] legal.order) (λ l₈. record { number = l₈; there = refl }))))))))

-- The text as it is read: not too long, and nothing behind its last line.
bad≢read : {f : Flaw} {line : ℕ} {d : Description} {o : Order} → bad_line f line ≡ read d o → ⊥
bad≢read e = let z : ◌≡◌ {A = ℕ} 0 1 = cc in omega arith

overlong≢read : {d : Description} {o : Order} → overlong ≡ read d o → ⊥
overlong≢read e = let z : ◌≡◌ {A = ℕ} 0 1 = cc in omega arith

all-read→ : {d : Description} {o : Order} {t : Text} (m : Walk Whole)
    → Ends m (λ w r. r ≡ [] → Accepted w.given w.order t)
    → all_read (λ w. read w.given w.order) m ≡ read d o
    → Accepted d o t
all-read→ {t} (reached w n []) h e =
    let k = h.holds w [] (record { number = n; there = refl }) refl in
    subst₂ (λ d o. Accepted d o t) (cc) (cc) k
all-read→ (reached w n (b ∷ s)) h e = absurd (bad≢read e)
all-read→ (halted f n) h e = absurd (bad≢read e)

-- A text that is accepted is the writing of the legal description that is returned, and has at most 8,192 bytes.
pub accepted→ : (t : Text) (d : Description) (o : Order) → read_text t ≡ read d o → (t ≡ written d o) × Legal d o × LegalWords d.words × (length t ≤ 8192)
unfolding read_text
accepted→ t d o e = go (ltb 8192 (length t)) (nltb→le 8192 (length t)) e
  where
    go : (long : Bool) → (T (not long) → length t ≤ 8192)
        → (elim long as (λ _. Reading) [ true ↦ overlong | false ↦ all_read (λ w. read w.given w.order) (whole_text t) ]) ≡ read d o
        → (t ≡ written d o) × Legal d o × LegalWords d.words × (length t ≤ 8192)
    go true short e = absurd (overlong≢read e)
    go false short e = let k = all-read→ (whole_text t) (whole→ t) e in (k.writes, k.legal, k.words, short tt)

-- The writing of a legal description is accepted, if it has at most 8,192 bytes, and that description is returned.
pub written→ : (d : Description) (o : Order) → Legal d o → LegalWords d.words → length (written d o) ≤ 8192 → read_text (written d o) ≡ read d o
unfolding read_text
written→ d o legal good short =
    let fits = not_T (ltb 8192 (length (written d o))) (λ h. let long = ltb→lt 8192 (length (written d o)) h in omega arith) in
    rw (T-not→false (ltb 8192 (length (written d o))) fits, read_text) (ap (all_read (λ w. read w.given w.order)) (whole← d o legal good).there)

-- Both in one.
pub accepted : (t : Text) (d : Description) (o : Order)
    → (read_text t ≡ read d o) ↔ ((t ≡ written d o) × Legal d o × LegalWords d.words × (length t ≤ 8192))
accepted t d o = (
  accepted→ t d o,
  λ h. subst (λ s. read_text s ≡ read d o) (sym h.0) (written→ d o h.1 h.2 (subst (λ s. length s ≤ 8192) h.0 h.3)),
)

-- Two legal descriptions with the same writing are the same, however long it is.
pub written-injective : (d d' : Description) (o o' : Order) → Legal d o → LegalWords d.words → Legal d' o' → LegalWords d'.words
    → written d o ≡ written d' o' → (d ≡ d') × (o ≡ o')
written-injective d d' o o' l w l' w' e =
    let h = whole← d o l w in
    let k = whole← d' o' l' w' in
    let there = sym h.there ∙ ap whole_text e ∙ k.there in
    let same : ◌≡◌ {A = Whole} (record { given = d; order = o }) (record { given = d'; order = o' }) = cc in
    (ap (λ w. w.given) same, ap (λ w. w.order) same)
