-- What is promised of a section of lines settles its answer, and what it leaves where no line is bad.
-- Assumes nothing.
use mathlib.Core.Path.{◌≡◌, ap, ap₂}
use Prim.Native.Nat.{ℕ}
use native.Mathlib.Omega.{arith}
use lib.ListN.{drop}
use Rattle.std.specs.Prelude.{Result, Ok, Err, OnOk}
use Rattle.meaning.specs.Bytes.{Text}
use Rattle.meaning.proofs.Alike.{alike}
use Rattle.grammar.specs.Reading.{Walk}
use Rattle.words.proofs.Uniqueness.{place-unique}
use Rattle.words.specs.declared.Taken.{Taken}
use Rattle.keyed.specs.declared.BadLine.{BadLine}
use Rattle.keyed.proofs.Uniqueness.{bad-unique}
use Rattle.sections.specs.Sections.{Section, Passes, Comes, Roomed}

-- Where no line is bad.
pub on_ok : {T E P : Type 0} (r : Result T E) → P → OnOk r P
on_ok (Ok t) p = p
on_ok (Err e) p = tt

-- The same bytes are read as the same lines.
same-lines : {A : Type 0} (text : Text) {due : Walk A} {next : A → ℕ} {Left₁ Left₂ : A → Type 0} {t u : ℕ}
    → (p : Section text due next Left₁ t) → (q : Section text due next Left₂ u) → (p.read ≡ q.read) × (t ≡ u)
same-lines text {t = t} {u} p q =
    let e = alike p.says q.says in
    let x : p.read ≡ q.read = cc in
    let d : drop t text ≡ drop u text = cc in
    (x, place-unique text t u p.within q.within d)

-- P holds of what the lines leave.
pub passes-once : {A : Type 0} (text : Text) (due : Walk A) (next : A → ℕ) {Left₁ Left₂ : A → Type 0} {P : Type 0}
    → ((a : A) → Left₁ a → Left₂ a → P)
    → (r s : Result ℕ BadLine) → Passes text due next Left₁ r → Passes text due next Left₂ s → (r ≡ s) × OnOk r P
passes-once text due next same (Ok t) (Ok u) p q =
    let x = same-lines text p q in
    (ap Ok x.1, same q.read (rw x.0 at p.left) q.left)
passes-once text due next same (Ok t) (Err b) p q = let e = alike p.says q in let z : ◌≡◌ {A = ℕ} 0 1 = cc in absurd (omega arith)
passes-once text due next same (Err a) (Ok u) p q = let e = alike p q.says in let z : ◌≡◌ {A = ℕ} 0 1 = cc in absurd (omega arith)
passes-once text due next same (Err a) (Err b) p q = (ap Err (bad-unique a b (alike p q)), tt)

-- The same number is returned with the same lines.
pub comes-once : {A : Type 0} (text : Text) (due : Walk A) (next : A → ℕ) {Left₁ Left₂ : ℕ → A → Type 0} {P : Type 0}
    → ((v w : ℕ) (a : A) → Left₁ v a → Left₂ w a → (v ≡ w) × P)
    → (r s : Result (Taken ℕ) BadLine) → Comes text due next Left₁ r → Comes text due next Left₂ s → (r ≡ s) × OnOk r P
comes-once text due next same (Ok t) (Ok u) p q =
    let x = same-lines text p q in
    let k = same t.value u.value q.read (rw x.0 at p.left) q.left in
    (ap₂ (λ v n. Ok (record { value = v; bytes = n })) k.0 x.1, k.1)
comes-once text due next same (Ok t) (Err b) p q = let e = alike p.says q in let z : ◌≡◌ {A = ℕ} 0 1 = cc in absurd (omega arith)
comes-once text due next same (Err a) (Ok u) p q = let e = alike p q.says in let z : ◌≡◌ {A = ℕ} 0 1 = cc in absurd (omega arith)
comes-once text due next same (Err a) (Err b) p q = (ap Err (bad-unique a b (alike p q)), tt)

-- Areas have the room that is needed, or they have not.
pub given-once : {Room Read₁ Read₂ Else₁ Else₂ P : Type 0} → Dec Room → (Read₁ → Read₂ → P) → (Else₁ → Else₂ → P)
    → Roomed Room Read₁ Else₁ → Roomed Room Read₂ Else₂ → P
given-once (yes h) f g p q = f (p.roomy h) (q.roomy h)
given-once (no h) f g p q = g (p.narrow h) (q.narrow h)
