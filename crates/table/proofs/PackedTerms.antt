-- A term of a legal description comes back from its word.
-- Assumes nothing.
use mathlib.Core.Path.{◌≡◌, refl}
use mathlib.Core.List.{List, [], ◌∷◌, map}
use Prim.Native.Nat.{ℕ, suc, ◌+◌, ◌≤◌, ◌<◌, zero-le}
use native.Mathlib.Omega.{arith}
use lib.ListN.{length, length-map}
use Rattle.meaning.specs.Sets.{Rising}
use Rattle.meaning.specs.Descriptions as D
use Rattle.meaning.specs.Legal.{Each, LegalPair, LegalOperator, LegalTerm}
use Rattle.table.specs.Encoded.{term_for, slot_of}
use Rattle.slots.specs.Packing.{packed_term, kind_term, word_term}
use Rattle.slots.proofs.PackedKinds.{word_term-small}

-- Strictly ascending numbers below m are at most m.
rising-from : (m x : ℕ) (xs : List ℕ) → Rising (x ∷ xs) → Each (λ y. y < m) (x ∷ xs) → x + suc (length xs) ≤ m
rising-from m x [] h k = omega (arith, k.0)
rising-from m x (y ∷ ys) h k = omega (arith, h.0, rising-from m y ys h.1 k.1)

pub rising-few : (m : ℕ) (xs : List ℕ) → Rising xs → Each (λ y. y < m) xs → length xs ≤ m
rising-few m [] h k = zero-le
rising-few m (x ∷ xs) h k = omega (arith, rising-from m x xs h k)

lefts : (m : ℕ) (ps : List D.Pair) → Each (LegalPair m) ps → Each (λ y. y < m) (map (λ p. p.left) ps)
lefts m [] h = tt
lefts m (p ∷ ps) h = (h.0.0, lefts m ps h.1)

pub rising-pairs : (m : ℕ) (ps : List D.Pair) → Each (LegalPair m) ps → Rising (map (λ p. p.left) ps) → length ps ≤ m
rising-pairs m ps low up = omega (arith, rising-few m (map (λ p. p.left) ps) up (lefts m ps low), length-map ps (λ (p : D.Pair). p.left))

-- The terms of a legal description: every number of theirs is small. The list is that of the number asked for.
module _ (d : D.Description) (narrow : D.names d ≤ 24) (few : D.equations d ≤ 16) (n : ℕ) (h : n < 96) (m : ℕ) where
  listed_back : (k u entries : ℕ) → k < 32 → u < n → entries ≤ 32 → word_term m (packed_term k 0 u entries) ≡ kind_term m k 0 u entries
  listed_back k u entries s b e = word_term-small m k 0 u entries s (omega arith) (omega arith) (omega arith)

  wrap-back : (o : D.Operator) (u : ℕ) → u < n → LegalOperator (D.names d) o → word_term m (slot_of (D.wrap o u)) ≡ term_for m (D.wrap o u)
  wrap-back (D.block ns) u b l = listed_back 12 u (length ns) (omega arith) b (omega (arith, rising-few (D.names d) ns l.2 l.1))
  wrap-back (D.hide ns) u b l = listed_back 13 u (length ns) (omega arith) b (omega (arith, rising-few (D.names d) ns l.2 l.1))
  wrap-back (D.rename ps) u b l = listed_back 14 u (length ps) (omega arith) b (omega (arith, rising-pairs (D.names d) ps l.1 l.2))
  wrap-back (D.comm rs) u b l = listed_back 15 u (length rs) (omega arith) b (omega (arith, l.1))
  wrap-back (D.allow ls) u b l = listed_back 16 u (length ls) (omega arith) b (omega (arith, l.0))

  two_back : (k t u : ℕ) → k < 32 → (t < n) × (u < n) → word_term m (packed_term k t u 0) ≡ kind_term m k t u 0
  two_back k t u s b = word_term-small m k t u 0 s (omega (arith, b.0)) (omega (arith, b.1)) (omega arith)

  one-back : (k u : ℕ) → k < 32 → u < 96 → word_term m (packed_term k 0 u 0) ≡ kind_term m k 0 u 0
  one-back k u s b = word_term-small m k 0 u 0 s (omega arith) (omega arith) (omega arith)

  pub term-back : (t : D.Term) → LegalTerm d n t → word_term m (slot_of t) ≡ term_for m t
  unfolding word_term
  term-back (D.act a) l = one-back 2 a (omega arith) (omega arith)
  term-back D.tau l = refl
  term-back D.delta l = refl
  term-back (D.ref e) l = one-back 3 e (omega arith) (omega arith)
  term-back (D.sum t) l = one-back 4 t (omega arith) (omega arith)
  term-back (D.cond t) l = one-back 5 t (omega arith) (omega arith)
  term-back (D.choice t u) l = two_back 6 t u (omega arith) l
  term-back (D.ifelse t u) l = two_back 7 t u (omega arith) l
  term-back (D.seq t u) l = two_back 8 t u (omega arith) l
  term-back (D.merge t u) l = two_back 9 t u (omega arith) l
  term-back (D.lmerge t u) l = two_back 10 t u (omega arith) l
  term-back (D.sync t u) l = two_back 11 t u (omega arith) l
  term-back (D.wrap o t) l = wrap-back o t l.0 l.1
