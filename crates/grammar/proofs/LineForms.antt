-- Lines and their writings: a form that is the whole of a line, or of what follows a word in it.
-- Assumes nothing.
use mathlib.Core.Path.{◌≡◌, sym, ap, subst, ◌∙◌}
use mathlib.Core.Logic.{◌↔◌}
use mathlib.Core.Bool.{Bool, not}
use mathlib.Core.List.{[], ◌∷◌, ◌++◌, append_assoc}
use Prim.Native.Nat.{ℕ}
use lib.Dec.{T}
use Rattle.meaning.specs.Bytes.{Text}
use Rattle.grammar.specs.Text.{Past, past, onward, lf, ended, literal}
use Rattle.grammar.specs.Faults.{Found, worse}
use Rattle.grammar.specs.Writing.{line_before}
use Rattle.grammar.proofs.Findings.{IsFine, fine-worse}
use Rattle.grammar.proofs.Onwards.{When, when-past, when-weaken, onward→, onward←, literal→, literal←}
use Rattle.grammar.proofs.Writes.{Stops, Reads, reads_then, reads-after, Writes}

-- What a line was made of, and its text.
pub record Made {Y Z : Type 0} (build : Y → Z) (text : Y → Text) (Legal : Y → Type 0) (z : Z) (s : Text) : Type 0 where
  pub source : Y
  pub builds : z ≡ build source
  pub writes : s ≡ text source
  pub legal : Legal source

-- A line's text without its LF is read back, whatever text there is after the LF.
abbrev pub ReadsLine : {X Y Z : Type 0} (form : Text → Past X) (says : X → Z) (fault : X → Found) (build : Y → Z) (text : Y → Text) → Y → Type 0
ReadsLine form says fault build text y = (r : Text) → Reads form says (λ x. IsFine (fault x)) (build y) (line_before (text y) r) r

pub record WritesLine {X Y Z : Type 0} (form : Text → Past X) (says : X → Z) (fault : X → Found)
    (build : Y → Z) (text : Y → Text) (Legal : Y → Type 0) : Type 0 where
  pub sound : (s : Text) → When (form s) (λ x r. IsFine (fault x) → Made build (λ y. line_before (text y) r) Legal (says x) s)
  pub complete : (y : Y) → Legal y → ReadsLine form says fault build text y

-- A form and then the end.
pub line-ended : {X Y W Z : Type 0} {form : Text → Past X} {says : X → Y} {Fine : X → Type 0} {text : Y → Text} {Legal : Y → Type 0} {goes : ℕ → Bool}
    → Writes form says Fine text Legal goes → T (not (goes lf))
    → (make : X → W) {says' : W → Z} (fault' : W → Found) (build : Y → Z)
    → ((x : X) → says' (make x) ≡ build (says x)) → ((x : X) → IsFine (fault' (make x)) ↔ Fine x)
    → WritesLine (λ s. onward (form s) (λ x q. onward (ended q) (λ _ p. past (make x) p))) says' fault' build text Legal
line-ended {says} {text} w apart make fault' build same faults = record {
  sound = λ s. onward→ (w.sound s) (λ x q h. onward→ (literal→ (lf ∷ []) q) (λ _ r e. when-past (λ f.
      let k = h ((faults x).0 f) in
      record { source = says x; builds = same x; writes = k.0 ∙ ap (λ t. text (says x) ++ t) e; legal = k.1 })));
  complete = λ y l r. reads_then (w.complete y l (lf ∷ r) apart) (λ x f e. record {
    value = make x;
    faultless = (faults x).1 f;
    said = same x ∙ ap build e;
    reads = onward← _ (literal← (lf ∷ []) r);
  });
}

-- A form before the rest of a line.
pub line_first : {A B X Y Z : Type 0} {form : Text → Past A} {says₁ : A → B} {text₁ : B → Text} {Legal₁ : B → Type 0} {goes : ℕ → Bool}
    {rest : A → Text → Past X} {says : X → Z} {fault : X → Found} {text : Y → Text} {Legal : Y → Type 0} (build : B → Y → Z)
    → Writes form says₁ (λ a. Unit {0}) text₁ Legal₁ goes → ((a : A) → WritesLine (rest a) says fault (build (says₁ a)) text Legal)
    → ((y : Y) (r : Text) → Stops goes (line_before (text y) r))
    → WritesLine (λ s. onward (form s) rest) says fault
    (λ (p : B × Y). build p.0 p.1) (λ (p : B × Y). text₁ p.0 ++ text p.1) (λ (p : B × Y). Legal₁ p.0 × Legal p.1)
line_first {says₁} {text₁} {text} build w v stops = record {
  sound = λ s. onward→ (w.sound s) (λ a q h. when-weaken ((v a).sound q) (λ x r i f.
      let k = i f in
      record {
        source = (says₁ a, k.source);
        builds = k.builds;
        writes = (h tt).0 ∙ ap (λ t. text₁ (says₁ a) ++ t) k.writes ∙ sym (append_assoc (text₁ (says₁ a)) (text k.source) (lf ∷ r));
        legal = ((h tt).1, k.legal);
      }));
  complete = λ p l r.
      rw append_assoc (reads_then (w.complete p.0 l.0 (line_before (text p.1) r) (stops p.1 r)) (λ a _ e.
      rw e at ((v a).complete p.1 l.1 r)));
}

module _ {X Y Z : Type 0} {form : Text → Past X} {says : X → Z} {fault : X → Found} {build : Y → Z} {text : Y → Text} {Legal : Y → Type 0} where
  -- A line behind a word that must stand there.
  pub line_after : (key : Text) → WritesLine form says fault build text Legal
      → WritesLine (λ s. onward (literal key s) (λ _. form)) says fault build (λ y. key ++ text y) Legal
  line_after key w = record {
    sound = λ s. onward→ (literal→ key s) (λ _ q e. when-weaken (w.sound q) (λ x r h f.
        let k = h f in
        let whole = e ∙ ap (λ t. key ++ t) k.writes ∙ sym (append_assoc key (text k.source) (lf ∷ r)) in
        record { source = k.source; builds = k.builds; writes = whole; legal = k.legal }));
    complete = λ y l r. rw append_assoc (reads-after key (w.complete y l r));
  }

  -- One more fault to be free of.
  pub line-narrow : WritesLine form says fault build text Legal → (more : X → Found) (And : Z → Type 0) → ((x : X) → IsFine (more x) ↔ And (says x))
      → WritesLine form says (λ x. worse (fault x) (more x)) build text (λ y. Legal y × And (build y))
  line-narrow w more And free = record {
    sound = λ s. when-weaken (w.sound s) (λ x r h f.
        let k = (fine-worse (fault x) (more x)).0 f in
        let m = h k.0 in
        record { source = m.source; builds = m.builds; writes = m.writes; legal = (m.legal, subst And m.builds ((free x).0 k.1)) });
    complete = λ y l r.
        let c = w.complete y l.0 r in
        record {
          value = c.value;
          faultless = (fine-worse (fault c.value) (more c.value)).1 (c.faultless, (free c.value).1 (subst And (sym c.said) l.1));
          said = c.said;
          reads = c.reads;
        };
  }
