-- The root's set cut to the order, and the whole call.
-- Assumes nothing.
use Rattle.std.specs.Prelude.{Result, Ok, Err}
use mathlib.Core.Path.{◌≡◌, refl, sym, ap, ap₂, subst, ◌∙◌, ◌≡⟨◌⟩◌, ◌∎}
use mathlib.Core.Logic.{◌⊎◌, inl, inr}
use mathlib.Core.Bool.{Bool}
use mathlib.Core.List.{List, [], ◌∷◌, ◌++◌, map, append_assoc}
use Prim.Native.Nat.{ℕ, zero, suc, ◌+◌, ◌*◌, ◌-◌, ◌/◌, ◌≤◌, ◌<◌, min}
use native.Mathlib.Nat.{zero-add, suc-add}
use native.Mathlib.Omega.{arith}
use native.Mathlib.Decide.{dec_lt}
use borrow.Author.Tests.{le-leb}
use lib.Dec.{T}
use lib.ListN.{length, take, drop, replicate, length-map, length-append, length-replicate}
use lib.Seq.{take_at, drop_at}
use Rattle.meaning.specs.Labels.{Label, number, in_words}
use Rattle.meaning.specs.Descriptions as D
use Rattle.meaning.specs.Legal.{Legal}
use Rattle.meaning.specs.Rounds.{Rounds, round_sets}
use Rattle.meaning.specs.Answers.{Outcome, too_large, listed, Answers, cut, answer}
use Rattle.meaning.proofs.Alike.{alike}
use Rattle.meaning.proofs.Limits.{rounds-bound}
use Rattle.meaning.proofs.Lengths.{round-full}
use Rattle.meaning.proofs.Answers.{answer-right}
use Rattle.sets.proofs.Refinement.{AllPack}
use Rattle.table.specs.declared.Order.{Order}
use Rattle.areas.specs.Areas.{zeroed}
use Rattle.areas.specs.Rows.{held}
use Rattle.table.specs.Encoded.{slot_of, order_words, order_for}
use Rattle.table.specs.Holding.{root_in, Holds, HoldsOrder}
use Rattle.table.proofs.Holdings.{slots-held}
use Rattle.areas.proofs.Zeroes.{zeroed-front}
use Rattle.areas.proofs.Held.{length-held, held-append, held-in_words, length-in_words}
use Rattle.cutting.specs.Cutting.{put, cut_labels, cut_into, where_room}
use Rattle.deltas.specs.Deltas.{over_in}
use Rattle.deltas.proofs.Passing.{over-in, few-labels, few-packs}
use Rattle.extents.specs.Extents.{part_at, words_in}
use Rattle.stability.specs.Running.{Ready, RootListed, RunEnds, Ran}
use Rattle.stability.proofs.Runs.{ready-zeros, length-zeros}
use Rattle.stability.proofs.Reaches.{passing-large}
use Rattle.keeping.specs.Settling.{whole, alone}
use Rattle.stability.specs.Endings.{found_at, found_of, labels_of, Reached}
use Rattle.sets.specs.declared.TooLarge.{TooLarge}
use Rattle.stability.specs.declared.Found.{Found}
use Rattle.rounds.specs.declared.Listed.{Listed}
use Rattle.rounds.specs.Alphabets.{listed_at, alphabet_of, answer_area, all_in, list_in, Answered, AnsweredFew, AnsweredOwn, Listing}
use Rattle.rounds.proofs.Answering.{is_all, list_of, cut-number}
use Rattle.rounds.proofs.Orders.{Cuts, cuts-to}

order-all : (o : D.Order) → all_in (order_for o) ≡ is_all o
order-all D.all = refl
order-all (D.only ls) = refl

order-list : (o : D.Order) (own : List ℕ) → take (length (order_words o)) own ≡ order_words o → list_in own (order_for o) ≡ list_of o
order-list D.all own e = refl
order-list (D.only ls) own e =
    let count : length ls * 2 ≡ length (in_words (map number ls)) = omega (arith, length-in_words (map number ls), length-map ls number) in
    ap (λ (n : ℕ). held (take n own)) count ∙ ap held e ∙ held-in_words (map number ls)

-- The set at the start of the work area.
abbrev zeros : ℕ → List ℕ
zeros n = replicate n 0

zeros-append : (m n : ℕ) → zeros m ++ zeros n ≡ zeros (m + n)
zeros-append zero n = ap zeros (sym (zero-add n))
zeros-append (suc m) n = ap (λ (l : List ℕ). 0 ∷ l) (zeros-append m n) ∙ ap zeros (sym (suc-add m n))

module _ (set work : List ℕ) (count : ℕ) (size : length set ≡ count) (few : count ≤ whole) where
  alone-cleared : zeroed count (alone set work) ≡ alone [] work
  alone-cleared =
      let behind = zeros (whole - length set) ++ drop whole work in
      let long : count ≤ length (alone set work) = omega (arith, length-append set behind) in
      let all : count + (whole - length set) ≡ whole = omega arith in
      zeroed count (alone set work)
      ≡⟨ zeroed-front count (alone set work) long ⟩ zeros count ++ drop count (alone set work)
      ≡⟨ ap (λ (l : List ℕ). zeros count ++ l) (drop_at set behind count size) ⟩ zeros count ++ behind
      ≡⟨ sym (append_assoc (zeros count) (zeros (whole - length set)) (drop whole work)) ⟩
      (zeros count ++ zeros (whole - length set)) ++ drop whole work
      ≡⟨ ap (λ (l : List ℕ). l ++ drop whole work) (zeros-append count (whole - length set) ∙ ap zeros all) ⟩ alone [] work ∎

-- The root's set of a legal description, cut.
module _ (d : D.Description) (o : D.Order) (k : ℕ) (labels : List Label) (l : Legal d o) (c : Cuts d o (listed k labels) (answer d o)) where
  few : T (over_in 2048 (round_sets d k)) → ⊥
  few t = c.2 (subst (λ (b : Bool). T b) (over-in (round_sets d k)) t)

  root-few : length labels ≤ 1024
  root-few = rw c.1 (few-labels 2048 (round_sets d k) few d.root)

  root-packs : AllPack (D.names d) labels
  root-packs = rw c.1 (few-packs 2048 (round_sets d k) few (D.names d) d.root (round-full d k d.root))

  module _ {order : Order} {own set : List ℕ} (area : List ℕ) (g : HoldsOrder o order own)
      (e : set ≡ map number labels) (room : length labels ≤ length area / 2) where
    cut-words : cut_into (all_in order) (list_in own order) set (length area / 2) ≡ map number (cut o labels)
    cut-words =
        let fits : length set ≤ length area / 2 = omega (arith, ap length e, length-map labels number) in
        let list = list_in own (order_for o) in
        rw g.ordered
        (ap (λ (t : Bool). where_room t (cut_labels (all_in (order_for o)) list set)) (le-leb (length set) (length area / 2) fits)
        ∙ ap₂ (λ (t : Bool) (v : List ℕ). cut_labels t v set) (order-all o) (order-list o own g.labels)
        ∙ ap (cut_labels (is_all o) (list_of o)) e
        ∙ cut-number (D.names d) o labels l.order root-packs)

    listed-right : {area' : List ℕ} {n : ℕ} → Listing set order own area area' n
        → (listed_at k n ≡ alphabet_of (answer d o)) × (area' ≡ answer_area (answer d o) area)
    listed-right t = rw c.0 (
      ap (listed_at k) (t.1 ∙ ap length cut-words ∙ length-map (cut o labels) number),
      t.0 ∙ ap (λ (ws : List ℕ). put (in_words ws) area) cut-words,
    )

-- The numbers of what is found and of what is answered.
abbrev rounds_found : Result Found TooLarge → ℕ
rounds_found (Ok f) = f.rounds
rounds_found (Err e) = 0

abbrev labels_found : Result Found TooLarge → ℕ
labels_found (Ok f) = f.labels
labels_found (Err e) = 0

abbrev rounds_listed : Result Listed TooLarge → ℕ
rounds_listed (Ok l) = l.rounds
rounds_listed (Err e) = 0

-- The call: an area too short, a limit passed, an answer.
module _ {table lists : List ℕ} {order : Order} {own work area : List ℕ} where
  pub answered-short : length area < 2048 → Answered table lists order own work area work area (Err (record {}))
  answered-short h = record { short = λ x. (refl, refl, refl); right = λ d o l e g room m. absurd (omega arith) }

  module _ (most : 2048 ≤ length area) where
    pub answered-large : {work' : List ℕ}
        → Reached table lists work work' (Err (record {}))
        → Answered table lists order own work area work' area (Err (record {}))
    unfolding in_words
    answered-large {work'} p =
        record {
          short = λ x. elim x [ inl h ↦ (refl, (p.short h).1, refl) | inr h ↦ absurd (omega arith) ];
          right = λ d o l e g room m.
              let r = p.right d o l e room in by d o (answer d D.all) (cuts-to d o) r.0 r.1;
        }
      where
        by : (d : D.Description) (o : D.Order) (x : Outcome)
            → Cuts d o x (answer d o)
            → Err (record {}) ≡ found_of x
            → work' ≡ alone (in_words (map number (labels_of x))) work
            → (Err (record {}) ≡ alphabet_of (answer d o)) × (area ≡ answer_area (answer d o) area) × (work' ≡ alone [] work)
        by d o too_large c e w = rw c (refl, refl, w)
        by d o (listed j labels) c e w = absurd (let z : ◌≡◌ {A = ℕ} 0 1 = cc in omega arith)

    pub answered-listed : {now set work' area' : List ℕ} {k count used n : ℕ}
        → Reached table lists work now (found_at k count)
        → set ≡ words_in (record { from = 0; to = count }) (held now)
        → used ≡ length set
        → Listing set order own area area' n
        → work' ≡ zeroed (2 * used) now
        → Answered table lists order own work area work' area' (listed_at k n)
    answered-listed {now} {set} {work'} {area'} {k} {count} {used} {n} p taken all q w =
        record {
          short = λ x. elim x [
            | inl h ↦ absurd (let s = (p.short h).0 in let z : ◌≡◌ {A = ℕ} 0 1 = cc in omega arith)
            | inr h ↦ absurd (omega arith)
          ];
          right = λ d o l e g room m.
              let r = p.right d o l e room in by d o l g (answer d D.all) (cuts-to d o) r.0 r.1;
        }
      where
        by : (d : D.Description) (o : D.Order)
            → Legal d o
            → HoldsOrder o order own
            → (x : Outcome)
            → Cuts d o x (answer d o)
            → found_at k count ≡ found_of x
            → now ≡ alone (in_words (map number (labels_of x))) work
            → (listed_at k n ≡ alphabet_of (answer d o)) × (area' ≡ answer_area (answer d o) area) × (work' ≡ alone [] work)
        by d o l g too_large c e v = absurd (let z : ◌≡◌ {A = ℕ} 0 1 = cc in omega arith)
        by d o l g (listed j labels) c e v =
            let found = map number labels in
            let words = in_words found in
            let behind = zeros (whole - length words) ++ drop whole work in
            let same : k ≡ j = ap rounds_found e in
            let size : length found ≡ count = length-map labels number ∙ sym (ap labels_found e) in
            let small = root-few d o j labels l c in
            let there : held now ≡ found ++ held behind =
            ap held v ∙ held-append (length found) words behind (length-in_words found) ∙ ap (λ (s : List ℕ). s ++ held behind) (held-in_words found) in
            let start : set ≡ found = taken ∙ ap (take count) there ∙ take_at found (held behind) count size in
            let long : length words ≡ 2 * used = omega (arith, length-in_words found, all, ap length start) in
            let right = listed-right d o j labels l c area g start (omega arith) q in (
              ap (λ (i : ℕ). listed_at i n) same ∙ right.0,
              right.1,
              w ∙ ap (zeroed (2 * used)) v ∙ alone-cleared words work (2 * used) long (omega (arith, length-in_words found, length-map labels number)),
            )

-- The root's set of the stable round, from where it stands.
root-listed : {table lists : List ℕ} {order : Order} {own sets work set : List ℕ} {k root most : ℕ} (d : D.Description) (o : D.Order) → Legal d o
    → Holds d table lists → HoldsOrder o order own → RootListed d k sets work most → root ≡ root_in table → set ≡ words_in (part_at sets root) work
    → (area : List ℕ) {area' : List ℕ} {n : ℕ} → min most 1024 ≤ length area / 2 → Listing set order own area area' n
    → (listed_at k n ≡ alphabet_of (answer d o)) × (area' ≡ answer_area (answer d o) area)
root-listed {sets = sets} {work} {set} {k} d o l h g x e taken area room q =
    let start : set ≡ map number x.labels = taken ∙ ap (λ (t : ℕ). words_in (part_at sets t) work) (e ∙ h.rooted) ∙ x.words in
    let cuts = subst (λ (y : Outcome). Cuts d o y (answer d o)) x.outcome (cuts-to d o) in
    listed-right d o k x.labels l cuts area g start (omega (arith, x.few, root-few d o k x.labels l cuts)) q

-- The call in small areas: no room, or an answer.
module _ {table lists : List ℕ} {order : Order} {own area : List ℕ} where
  pub few-large : AnsweredFew table lists order own area area (Err (record {}))
  few-large = record { unchanged = λ e. refl; right = λ d o l h g k n e. absurd (let z : ◌≡◌ {A = ℕ} 0 1 = cc in omega arith) }

  pub few-listed : {slots sets news work log out set area' : List ℕ} {k n : ℕ} {root : ℕ} → 192 ≤ length area
      → Ran table lists (zeros 16) (zeros 34) (zeros 224) (held (zeros 384)) (held (zeros 192)) (held (zeros 192)) slots sets news work log out (Ok k)
      → root ≡ root_in table → set ≡ words_in (part_at sets root) work → Listing set order own area area' n
      → AnsweredFew table lists order own area area' (listed_at k n)
  few-listed {k = k} room run e taken q = record {
    unchanged = λ z. absurd (let y : ◌≡◌ {A = ℕ} 0 1 = cc in omega arith);
    right = λ d o l h g j m z.
        let count = ap length (slots-held h l.terms_count.1) ∙ length-map d.terms slot_of in
        let few = few-slots (D.term_count d) (λ x. run.short (omega (arith, count))) in
        let x = run.right d o l h (few-ready (D.term_count d) few) in
        let right = root-listed d o l h g x e taken area (omega (arith, length-zeros 192)) q in
        (sym z ∙ right.0, right.1);
  }
    where
      few-ready : (terms : ℕ) → terms ≤ 16 → Ready terms (zeros 16) (zeros 34) (zeros 224) (held (zeros 384)) (held (zeros 192)) (held (zeros 192))
      few-ready terms h =
          let halves = length-zeros 384 in
          let one = length-zeros 192 in
          ready-zeros terms 34 224 (zeros 16) (held (zeros 384)) (held (zeros 192)) (held (zeros 192)) (omega arith) (omega arith) (omega arith)
          (omega arith) (omega arith) (omega arith)

      -- a table of more terms has no stable round here
      few-slots : (terms : ℕ) → (16 < terms → ◌≡◌ {A = Result ℕ TooLarge} (Ok k) (Err (record {}))) → terms ≤ 16
      few-slots terms short = elim (dec_lt 16 terms) [
        | yes h ↦ absurd (let s = short h in let y : ◌≡◌ {A = ℕ} 0 1 = cc in omega arith)
        | no h ↦ omega arith
      ]

-- The call in areas of its own that are always enough: an answer area that is too short, a limit passed, an answer.
own-ready : (area : List ℕ) → 2048 ≤ length area → (terms : ℕ) → terms ≤ 96
    → Ready terms (zeros 96) (zeros 194) (zeros 224) (held (zeros 8192)) (held (zeros 4096)) (held area)
own-ready area most terms h =
    let halves = length-zeros 8192 in
    let one = length-zeros 4096 in
    let room = length-held area in
    ready-zeros terms 194 224 (zeros 96) (held (zeros 8192)) (held (zeros 4096)) (held area) (omega (arith, length-replicate {A = ℕ} 96 0))
    (omega arith) (omega arith) (omega arith) (omega arith) (omega arith)

passed-any : (d : D.Description) (o : D.Order) (sets work : List ℕ) → RunEnds d sets work 2048 (Err (record {})) → answer d o ≡ too_large
passed-any d o sets work (inl e) = subst (λ (y : Outcome). Cuts d o y (answer d o)) e (cuts-to d o)
passed-any d o sets work (inr x) = subst (λ (y : Outcome). Cuts d o y (answer d o)) (passing-large x) (cuts-to d o)

module _ {table lists : List ℕ} {order : Order} {own area : List ℕ} where
  pub own-short : length area < 2048 → AnsweredOwn table lists order own area area (Err (record {}))
  own-short h = record { under = area; right = λ d o l e g m. absurd (omega arith) }

  pub own-large : {slots sets news work log out area' : List ℕ}
      → Ran table lists (zeros 96) (zeros 194) (zeros 224) (held (zeros 8192)) (held (zeros 4096)) (held area) slots sets news work log out (Err (record {}))
      → AnsweredOwn table lists order own area area' (Err (record {}))
  own-large {sets = sets} {work = work} {area' = area'} run = record {
    under = area';
    right = λ d o l h g m.
        let ends = run.right d o l h (own-ready area m _ l.terms_count.1) in
        let none = passed-any d o sets work (subst (λ (n : ℕ). RunEnds d sets work n (Err (record {}))) (length-zeros 4096) ends) in
        (sym (ap alphabet_of none), sym (ap (λ (y : Outcome). answer_area y area') none));
  }

  pub own-listed : {slots sets news work log out set : List ℕ} (after : List ℕ) {area' : List ℕ} {k n root : ℕ} → length after ≡ length area
      → Ran table lists (zeros 96) (zeros 194) (zeros 224) (held (zeros 8192)) (held (zeros 4096)) (held area) slots sets news work log out (Ok k)
      → root ≡ root_in table → set ≡ words_in (part_at sets root) work → Listing set order own after area' n
      → AnsweredOwn table lists order own area area' (listed_at k n)
  own-listed after long run e taken q = record {
    under = after;
    right = λ d o l h g m.
        root-listed d o l h g (run.right d o l h (own-ready area m _ l.terms_count.1)) e taken after (omega (arith, length-zeros 4096)) q;
  }

-- What is promised settles the answer and both areas; and the round count that is answered is the description's.
module _ (table lists : List ℕ) (order : Order) (own work area work₁ area₁ work₂ area₂ : List ℕ) (r₁ r₂ : Result Listed TooLarge)
    (p : Answered table lists order own work area work₁ area₁ r₁) (q : Answered table lists order own work area work₂ area₂ r₂) where
  same : (s : Result Listed TooLarge) (v w : List ℕ)
      → (r₁ ≡ s) × (area₁ ≡ v) × (work₁ ≡ w)
      → (r₂ ≡ s) × (area₂ ≡ v) × (work₂ ≡ w)
      → (r₁ ≡ r₂) × (area₁ ≡ area₂) × (work₁ ≡ work₂)
  same s v w a b = (alike a.0 b.0, alike a.1 b.1, alike a.2 b.2)

  pub answered-unique : (d : D.Description) (o : D.Order)
      → Legal d o
      → Holds d table lists
      → HoldsOrder o order own
      → (r₁ ≡ r₂) × (area₁ ≡ area₂) × (work₁ ≡ work₂)
  answered-unique d o l e g = elim (dec_lt (length work) whole) [
    | yes h ↦ too_short (inl h)
    | no h ↦ elim (dec_lt (length area) 2048) [
      | yes k ↦ too_short (inr k)
      | no k ↦
          same (alphabet_of (answer d o)) (answer_area (answer d o) area) (alone [] work)
          (p.right d o l e g (omega arith) (omega arith))
          (q.right d o l e g (omega arith) (omega arith))
    ]
  ]
    where
      too_short : (length work < whole) ⊎ (length area < 2048) → (r₁ ≡ r₂) × (area₁ ≡ area₂) × (work₁ ≡ work₂)
      too_short h = let a = p.short h in let b = q.short h in same (Err (record {})) area work (a.0, a.2, a.1) (b.0, b.2, b.1)

outcome-rounds : (d : D.Description) (o : D.Order) (x : Outcome) (k n : ℕ)
    → Answers d o x
    → listed_at k n ≡ alphabet_of x
    → Rounds d k × (k ≤ 2049)
outcome-rounds d o too_large k n right e = absurd (let z : ◌≡◌ {A = ℕ} 0 1 = cc in omega arith)
outcome-rounds d o (listed j labels) k n right e =
    let z : k ≡ j = ap rounds_listed e in rw z (right.counted, rounds-bound d j right.within right.counted)

pub answered-rounds : (table lists : List ℕ) (order : Order) (own work area work' area' : List ℕ) (k n : ℕ)
    → Answered table lists order own work area work' area' (listed_at k n)
    → (d : D.Description) (o : D.Order)
    → Legal d o
    → Holds d table lists
    → HoldsOrder o order own
    → whole ≤ length work
    → 2048 ≤ length area
    → Rounds d k × (k ≤ 2049)
answered-rounds table lists order own work area work' area' k n p d o l e g room most =
    outcome-rounds d o (answer d o) k n (answer-right d o) (p.right d o l e g room most).0
