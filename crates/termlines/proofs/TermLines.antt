-- A term's line, by what its reader came to.
-- Assumes nothing.
use mathlib.Core.Path.{◌≡◌, refl, sym, ap, ◌∙◌}
use mathlib.Core.List.{List, [], ◌∷◌, ◌++◌, map}
use Prim.Native.Nat.{ℕ, ◌-◌, ◌≤◌}
use lib.ListN.{length, drop, length-map}
use Rattle.std.specs.Prelude.{Option, Some, None, Ok, Err}
use Rattle.meaning.specs.Bytes.{Text}
use Rattle.meaning.specs.Descriptions as D
use Rattle.meaning.specs.Answers.{form}
use Rattle.slots.specs.declared.Term.{Term}
use Rattle.slots.specs.Packing.{term_word}
use Rattle.table.specs.Decoded.{name_of}
use Rattle.table.specs.Encoded.{term_for, slot_of}
use Rattle.grammar.specs.Text.{stuck}
use Rattle.grammar.specs.Forms.{Line, term_line}
use Rattle.grammar.specs.Faults.{term_said, term_fault}
use Rattle.grammar.specs.Reading as M
use Rattle.grammar.specs.Reading.{taken, faulty, taken_unless, formed, take_term, flaw_in, after_line}
use Rattle.faults.specs.CodedFaults.{fault_of, flaw_of}
use Rattle.faults.specs.declared.Flaw.{Flaw}
use Rattle.faults.specs.declared.FaultAt.{FaultAt}
use Rattle.words.specs.declared.Taken.{Taken}
use Rattle.words.specs.declared.Stuck.{Stuck}
use Rattle.tails.specs.declared.TermLine.{TermLine}
use Rattle.tails.proofs.Room.{room}
use Rattle.forms.specs.Terms.{TermTaken, TermAnswer}
use Rattle.keyed.specs.Walks.{refusal}
use Rattle.keyed.proofs.Walks.{line-bad}
use Rattle.keyed.proofs.LineFaults.{formed-stuck, found-fine, taken_fine, taken-faulty}
use Rattle.termlines.specs.Terms.{TermRead}
use Rattle.sections.proofs.ListLengths.{list-fits}

-- A term's word is the same at every number.
same-operator : (n u : ℕ) (o : D.Operator) → term_word (term_for n (D.wrap o u)) ≡ slot_of (D.wrap o u)
same-operator n u (D.block ns) = refl
same-operator n u (D.hide ns) = refl
same-operator n u (D.rename ps) = refl
same-operator n u (D.comm rs) = refl
same-operator n u (D.allow ls) = refl

same_word : (n : ℕ) (t : D.Term) → term_word (term_for n t) ≡ slot_of t
same_word n (D.act a) = refl
same_word n D.tau = refl
same_word n D.delta = refl
same_word n (D.ref e) = refl
same_word n (D.sum t) = refl
same_word n (D.cond t) = refl
same_word n (D.choice t u) = refl
same_word n (D.ifelse t u) = refl
same_word n (D.seq t u) = refl
same_word n (D.merge t u) = refl
same_word n (D.lmerge t u) = refl
same_word n (D.sync t u) = refl
same_word n (D.wrap o t) = same-operator n t o

-- What a line makes of the terms before it.
module _ (words : List Text) (equations : ℕ) (terms : List D.Term) (text : Text) where
  abbrev then-term : Line → Text → M.Taken (List D.Term)
  then-term x = taken_unless (term_fault words equations (length terms) x) (terms ++ (term_said words x ∷ []))

  term-stuck : (p : ℕ) → stuck (drop p text) ≡ term_line text → faulty form (length text - p) ≡ take_term words equations terms text
  unfolding take_term
  term-stuck p q = formed-stuck then-term text p q

  module _ {before after : List ℕ} {x : Term} {f : Option FaultAt} {took : ℕ}
      (k : TermTaken words equations (length terms) text (term_line text) before after x f took) where
    term-line : then-term k.line (drop took text) ≡ take_term words equations terms text
    unfolding take_term
    term-line = ap (λ d. formed d then-term) k.says

    term-fine : f ≡ None → taken (terms ++ (term_said words k.line ∷ [])) (drop took text) ≡ take_term words equations terms text
    term-fine e = taken_fine k.faults (terms ++ (term_said words k.line ∷ [])) (drop took text) term-line e

    term-faulty : {g : FaultAt} → f ≡ Some g → faulty (fault_of g.fault) g.from ≡ take_term words equations terms text
    term-faulty e = taken-faulty k.faults (terms ++ (term_said words k.line ∷ [])) (drop took text) term-line e

-- The line by what its reader came to.
module _ (text : Text) (line : ℕ) (names : List ℕ) (equations n : ℕ) (before after : List ℕ) (few : length names ≤ 24) where
  abbrev words : List Text
  words = map (name_of 8) names

  pub line-stuck : (p : Stuck) {w : Flaw} → TermAnswer names equations n text before after (Err p)
      → flaw_of w ≡ flaw_in text form (length text - p.after)
      → TermRead text line names equations n before after (refusal w line)
  line-stuck p r f =
      let k = rw (← room names few (term_line text) text) at r in
      record { long = k.1; came = λ terms counted. line-bad line text f (term-stuck words equations terms text p.after k.0) }

  module _ {t : Taken TermLine} (r : TermAnswer names equations n text before after (Ok t)) where
    answered : TermTaken words equations n text (term_line text) before after t.value.term t.value.fault t.bytes
    answered = rw (← room names few (term_line text) text) at r

    -- with the number of the terms before it
    after-terms : (terms : List D.Term) → n ≡ length terms
        → TermTaken words equations (length terms) text (term_line text) before after t.value.term t.value.fault t.bytes
    after-terms terms counted = rw counted at answered

    pub line-faulty : {g : FaultAt} {w : Flaw} → t.value.fault ≡ Some g → flaw_of w ≡ flaw_in text (fault_of g.fault) g.from
        → TermRead text line names equations n before after (refusal w line)
    line-faulty b q =
        record {
          long = answered.long;
          came = λ terms counted. line-bad line text q (term-faulty words equations terms text (after-terms terms counted) b);
        }

    pub line-fine : {w : ℕ} → t.value.fault ≡ None → w ≡ term_word t.value.term
        → TermRead text line names equations n before after (Ok (record { value = w; bytes = t.bytes }))
    line-fine b p =
        record {
          long = answered.long;
          came = λ terms counted.
              let k = after-terms terms counted in
              let said = term_said words k.line in
              let clear = sym (found-fine k.faults b) in
              record {
                read = terms ++ (said ∷ []);
                says = ap (after_line line text) (term-fine words equations terms text k b);
                within = k.within;
                left = record {
                  term = said;
                  more = refl;
                  kept = p ∙ ap term_word k.term ∙ same_word (length terms) said;
                  fits = list-fits words (rw (length-map names (name_of 8)) few) equations (length terms) text (drop t.bytes text) k.line (sym k.says) clear;
                  stored = k.stored clear;
                };
              };
        }
