-- For callers: what is printed over the packed names and the packed labels is what is printed over a description's own
-- words and labels. A name that is not there has count 0 and prints nothing.
-- Assumes nothing.
use mathlib.Core.Path.{◌≡◌, refl, sym, ap, ap₂, ◌∙◌, ◌≡⟨◌⟩◌, ◌∎}
use mathlib.Core.List.{List, [], ◌∷◌, ◌++◌, map}
use Prim.Native.Nat.{ℕ, zero, suc, ◌+◌, ◌*◌, ◌/◌, ◌%◌, ◌≤◌, ◌<◌, zero-le}
use native.Mathlib.Nat.{suc_inj, le_of_suc-le-suc}
use native.Mathlib.Omega.{arith}
use native.Mathlib.Decide.{ℕ_discrete}
use lib.ListN.{length, length-map}
use Rattle.meaning.specs.Bytes.{Text, ascii}
use Rattle.meaning.specs.Labels.{Label, number, label_of}
use Rattle.meaning.specs.Legal.{Each}
use Rattle.meaning.proofs.Digits.{Small}
use Rattle.table.specs.Decoded.{name_of}
use Rattle.table.specs.Encoded.{filled, word_of}
use Rattle.grammar.specs.Forms.{dot}
use Rattle.grammar.specs.Marks.{joined_by, part_text, part_texts}
use Rattle.grammar.specs.Printed.{printed_label, or_tau, label_lines, line, answer_text}
use Rattle.label_texts.specs.Packed.{name_texts, counts_of}
use Rattle.label_texts.proofs.Names.{first_byte}
use Rattle.grammar.proofs.Marks.{part_texts-zero, part_texts-some}

-- The bytes of a word of a description: at most eight, none of them 0.
abbrev pub Bytes : Text → Type 0
Bytes s = (length s ≤ 8) × Each (λ b. (1 ≤ b) × (b < 256)) s

abbrev pub Fits : List Text → Label → Type 0
Fits ws a = (length a ≡ length ws) × Small a

-- A word unpacked from its number is the word.
unpacked : (k : ℕ) (s : Text) → length s ≤ k → Each (λ b. (1 ≤ b) × (b < 256)) s → name_of k (word_of s) ≡ s
unfolding name_of word_of
unpacked zero [] h e = refl
unpacked zero (b ∷ s) h e = absurd (omega arith)
unpacked (suc k) [] h e = refl
unpacked (suc k) (b ∷ s) h e =
    let low : (b + 256 * word_of s) % 256 ≡ b = omega (arith, e.0.1) in
    let high : (b + 256 * word_of s) / 256 ≡ word_of s = omega (arith, e.0.1) in
    first_byte k (b + 256 * word_of s) (omega (arith, e.0.0))
    ∙ ap₂ {C = Text} ◌∷◌ low (ap (name_of k) high ∙ unpacked k s (le_of_suc-le-suc h) e.1)

-- The parts of a label over the names that are there, and over as many more.
same-part : (w : Text) (x : ℕ) (vs ws : List Text) (a b : Label) → part_texts vs a ≡ part_texts ws b → part_texts (w ∷ vs) (x ∷ a) ≡ part_texts (w ∷ ws) (x ∷ b)
same-part w x vs ws a b rest =
    elim (ℕ_discrete x 0) [
      | yes e ↦
          part_texts (w ∷ vs) (x ∷ a)
          ≡⟨ part_texts-zero w vs x a e ⟩ part_texts vs a
          ≡⟨ rest ⟩ part_texts ws b
          ≡⟨ sym (part_texts-zero w ws x b e) ⟩ part_texts (w ∷ ws) (x ∷ b) ∎
      | no d ↦
          part_texts (w ∷ vs) (x ∷ a)
          ≡⟨ part_texts-some w vs x a d ⟩ part_text w x ∷ part_texts vs a
          ≡⟨ ap {B = List Text} (λ ts. part_text w x ∷ ts) rest ⟩ part_text w x ∷ part_texts ws b
          ≡⟨ sym (part_texts-some w ws x b d) ⟩ part_texts (w ∷ ws) (x ∷ b) ∎
    ]

same_parts : (k : ℕ) (ws : List Text) (a : Label) → length ws ≤ k → Each Bytes ws → Fits ws a →
    part_texts (name_texts (filled k 0 (map word_of ws))) (label_of k (number a)) ≡ part_texts ws a
unfolding part_texts label_of number filled
same_parts zero [] [] h e f = refl
same_parts zero [] (x ∷ a) h e f = absurd (omega (arith, f.0))
same_parts zero (w ∷ ws) a h e f = absurd (omega arith)
same_parts (suc k) [] [] h e f = same_parts k [] [] zero-le tt (refl, tt)
same_parts (suc k) [] (x ∷ a) h e f = absurd (omega (arith, f.0))
same_parts (suc k) (w ∷ ws) [] h e f = absurd (omega (arith, f.0))
same_parts (suc k) (w ∷ ws) (x ∷ a) h e f =
    let names = name_texts (filled k 0 (map word_of ws)) in
    let low : (x + 32 * number a) % 32 ≡ x = omega (arith, f.1.0) in
    let high : (x + 32 * number a) / 32 ≡ number a = omega (arith, f.1.0) in
    ap₂ (λ (n : Text) (b : Label). part_texts (n ∷ names) b) (unpacked 8 w e.0.0 e.0.1) (ap₂ {C = Label} ◌∷◌ low (ap (label_of k) high))
    ∙ same-part w x names ws (label_of k (number a)) a (same_parts k ws a (le_of_suc-le-suc h) e.1 (suc_inj f.0, f.1.1))

module _ (ws : List Text) (few : length ws ≤ 24) (words : Each Bytes ws) where
  same_lines : (labels : List Label) → Each (Fits ws) labels →
      label_lines (name_texts (filled 24 0 (map word_of ws))) (map counts_of (map number labels)) ≡ label_lines ws labels
  unfolding label_lines printed_label
  same_lines [] f = refl
  same_lines (a ∷ labels) f =
      ap₂ (λ (ts : List Text) (t : Text). line (ascii "label=") (or_tau (joined_by dot ts)) ++ t) (same_parts 24 ws a few words f.0) (same_lines labels f.1)

  pub same_answer : (rounds : ℕ) (labels : List Label) → Each (Fits ws) labels →
      answer_text (name_texts (filled 24 0 (map word_of ws))) rounds (map counts_of (map number labels)) ≡ answer_text ws rounds labels
  unfolding answer_text
  same_answer rounds labels f = rw (length-map, length-map, same_lines labels f)
