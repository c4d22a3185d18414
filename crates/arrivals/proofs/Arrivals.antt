-- What is given for a term of a legal description, of the sets and the new labels that stand there for its operands: labels that make
-- this round's set of that of the round before; and a term that is quiet has nothing new.
-- Assumes nothing.
use Rattle.std.specs.Prelude.{Ok, Err}
use mathlib.Core.Path.{◌≡◌, refl, sym, ap, subst, ◌∙◌}
use mathlib.Core.Bool.{Bool, true, false, not, ◌&&◌, false≢true}
use mathlib.Core.Logic.{inl, inr}
use mathlib.Core.List.{List, [], ◌∷◌, ◌++◌, map}
use Prim.Native.Nat.{ℕ, zero, suc, ◌+◌, ◌≤◌, ◌<◌}
use native.Mathlib.Omega.{arith}
use borrow.Author.Tests.{eqb-true, leb-false, not-true}
use lib.Dec.{eqb}
use lib.ListN.{length, take, drop, length-map, length-replicate}
use lib.Seq.{take_at}
use Rattle.meaning.specs.Labels.{Label, number, empty, single}
use Rattle.meaning.specs.Sets.{at, ascending, spread, product}
use Rattle.meaning.specs.Descriptions.{Description, all, Operator, block, hide, rename, comm, allow, names, term_count, equations, term_at, body_at}
use Rattle.meaning.specs.Descriptions.{Term, act, tau, delta, ref, sum, cond, choice, ifelse, seq, merge, lmerge, sync, wrap}
use Rattle.meaning.specs.Legal.{Legal, LegalTwo, LegalTerm, LegalOperator}
use Rattle.meaning.specs.Rounds.{leaf, reference, one, either, both, joint, through, are_multi_actions, sync_shape, shape, image, round_sets}
use Rattle.meaning.specs.Rounds as R
use Rattle.meaning.proofs.Bags.{length-several, size-several, size-empty}
use Rattle.meaning.proofs.SyncOrOther.{NoSync}
use Rattle.meaning.proofs.Actions.{Operands}
use Rattle.meaning.proofs.Growth.{round-grows}
use Rattle.meaning.proofs.Least.{term-legal, legal-operands}
use Rattle.labels.specs.Packing.{packed}
use Rattle.labels.proofs.Codes.{code-packed}
use Rattle.labels.proofs.Words.{number-empty}
use Rattle.labels.proofs.Refinement.{Packs, single-number}
use Rattle.table.specs.Encoded.{term_for}
use Rattle.table.specs.Holding.{HoldsLists}
use Rattle.syncs.specs.Merges.{sync_or, as_merge, SyncsJoin}
use Rattle.parts.specs.Parts.{laid, most_labels, room_at}
use Rattle.sets.specs.Building.{Building, answer_of, enter, GrownAt}
use Rattle.sets.proofs.Ascent.{and-true}
use Rattle.sets.proofs.Refinement.{AllPack, TooMuch}
use Rattle.sets.proofs.Steps.{built-holds, laid-set}
use Rattle.sets.proofs.Outcomes.{Result}
use Rattle.extents.specs.Extents.{part_at, is_empty, words_in, at_start}
use Rattle.extents.proofs.Rows.{words-length, words-empty}
use Rattle.ordering.proofs.FollowedRules.{gives-for, there-for, back-for, listed-for}
use Rattle.shapes.specs.declared.Shape.{Shape}
use Rattle.shapes.specs.declared.Shape.TheVariants.{Leaf, Body, One, Two, Joint}
use Rattle.shapes.specs.Shaping.{shape_for}
use Rattle.operators.specs.Operators.{passed}
use Rattle.operators.proofs.OperatorLists.{way_of, way_words, way_same, words_same}
use Rattle.deltas.specs.Deltas.{arrived}
use Rattle.deltas.proofs.Differences.{ascending-itself}
use Rattle.deltas.proofs.News.{arrived-or-before, arrived-within, arrived-ascends}
use Rattle.deltas.proofs.Making.{AddsTo, MixingNew, mixing-same, mixing-new, mixing-first, leaf-adds, reference-adds, one-adds, either-adds}
use Rattle.deltas.proofs.Making.{both-adds, joint-adds, through-adds, through-new, Quiet, quiet-arrived}
use Rattle.arrivals.specs.Arriving.{news_of, labels_of, arriving}
use Rattle.arrivals.specs.Looking.{quiet}
use Rattle.arrivals.proofs.Giving.{sums_given, turned, none-given, leaf-given, copy-given, joint-given, either-given, both-given}
use Rattle.arrivals.proofs.Giving.{Through, block-given, hide-given, rename-given, allow-given}

-- What stands where while the round after round k is worked out, at term n: the sets of this round for the terms before it, its own of
-- the round before, and what is new in each; behind the terms what was new in the bodies in the round before. Every sync is one of
-- multi-actions, and words pack every label.
pub record Known (d : Description) (k n : ℕ) (sets news : ℕ → List ℕ) : Type 0 where
  pub legal : Legal d all
  pub joins : SyncsJoin d
  pub stands : (t : ℕ) → t < n → sets t ≡ map number (at (round_sets d (suc k)) t)
  pub own : sets n ≡ map number (at (round_sets d k) n)
  pub fresh : (t : ℕ) → t < n → news t ≡ map number (arrived d (suc k) t)
  pub refs : (e : ℕ) → e < equations d → news (news_of e) ≡ map number (arrived d k (body_at d e))
  pub small : (t : ℕ) → t < n → AllPack (names d) (at (round_sets d (suc k)) t)
  pub smaller : (t : ℕ) → AllPack (names d) (at (round_sets d k) t)

-- Labels that make this round's set of that of the round before, and a building that is their set, or they pass a limit.
pub record Given (d : Description) (k n room : ℕ) (b : Building) : Type 0 where
  pub labels : List Label
  pub adds : AddsTo d k n labels
  pub result : Result (names d) room labels b

-- What a function that builds it answers, in words of its own: the words of the labels, or that they pass a limit.
module _ {d : Description} {k n : ℕ} (build : ℕ → List ℕ → Building) (before after : List ℕ)
    (x : Given d k n (room_at 0 most_labels (length before)) (build (room_at 0 most_labels (length before)) [])) where
  pub given-words : (count : ℕ) → GrownAt (at_start 0) build before after (Ok count)
      → AllPack (names d) x.labels × (words_in (record { from = 0; to = count }) after ≡ map number (ascending x.labels))
  unfolding laid
  given-words count g = go x.result
    where
      go : Result (names d) (room_at 0 most_labels (length before)) x.labels (build (room_at 0 most_labels (length before)) [])
          → AllPack (names d) x.labels × (words_in (record { from = 0; to = count }) after ≡ map number (ascending x.labels))
      go (inl y) =
          let words = map number (ascending x.labels) in
          let size : Ok count ≡ Ok (length words) = g.answer ∙ ap answer_of y.built in
          let all : after ≡ words ++ drop (0 + length words) before = g.words ∙ laid-set 0 before y.built in
          (y.packs, ap (take count) all ∙ take_at words (drop (0 + length words) before) count (cc))
      go (inr y) = absurd (false≢true (sym y.0 ∙ (built-holds _ _ count g.answer).0))

  pub given-over : GrownAt (at_start 0) build before after (Err (record {})) → TooMuch (room_at 0 most_labels (length before)) x.labels
  given-over g = go x.result
    where
      go : Result (names d) (room_at 0 most_labels (length before)) x.labels (build (room_at 0 most_labels (length before)) [])
          → TooMuch (room_at 0 most_labels (length before)) x.labels
      go (inl y) =
          let none : (Err (record {})) ≡ Ok (length (map number (ascending x.labels))) = g.answer ∙ ap answer_of y.built in
          let z : ◌≡◌ {A = ℕ} 0 1 = cc in
          absurd (omega arith)
      go (inr y) = y.1

single-packs : (m a : ℕ) → Packs m (single m a)
single-packs m a = record { wide = length-several m a 1; few = omega (arith, size-several m a 1) }

empty-packs : (m : ℕ) → Packs m (empty m)
empty-packs m = record { wide = length-replicate m 0; few = omega (arith, size-empty m) }

-- What is new in a round packs if the round does, and ascends.
new-packs : (d : Description) (k t : ℕ) → AllPack (names d) (at (round_sets d k) t) → AllPack (names d) (arrived d k t)
new-packs d zero t p a m = absurd m
new-packs d (suc k) t p a m = p a (arrived-within d k t a m)

new-ascends : (d : Description) (k t : ℕ) → ascending (arrived d k t) ≡ arrived d k t
unfolding ascending
new-ascends d zero t = refl
new-ascends d (suc k) t = ascending-itself (arrived d (suc k) t) (arrived-ascends d k t)

-- The sums that are given are enough.
mixing-given : (d : Description) (k t u : ℕ) (some : Bool) → eqb (length (arrived d (suc k) t)) (length (at (round_sets d (suc k)) t)) ≡ some
    → MixingNew d k t u (sums_given some (arrived d (suc k) t) (at (round_sets d (suc k)) t) (arrived d (suc k) u) (at (round_sets d (suc k)) u))
mixing-given d k t u true e = mixing-first d k t u (eqb-true _ _ e)
mixing-given d k t u false e =
    let left = product (arrived d (suc k) t) (at (round_sets d (suc k)) u) in
    let right = product (arrived d (suc k) u) (at (round_sets d (suc k)) t) in
    mixing-same _ _ _ _ (left ++ right) (right ++ left) (turned left right) (turned right left) (mixing-new d k t u)

-- every sync is one of multi-actions
sync-joint : (t u : ℕ) (b : Bool) → sync_or b t u ≡ sync t u → sync_shape b t u ≡ joint t u
sync-joint t u true h = refl
sync-joint t u false h = absurd (subst NoSync h tt)

module _ (d : Description) (k n : ℕ) (sets news : ℕ → List ℕ) (known : Known d k n sets news) where
  abbrev first : Operands d
  first = legal-operands d all known.legal

  narrow : names d ≤ 24
  narrow = known.legal.name_count.1

  abbrev now : ℕ → List Label
  now t = at (round_sets d (suc k)) t

  abbrev new : ℕ → List Label
  new t = arrived d (suc k) t

  packs : (t : ℕ) → t < n → AllPack (names d) (new t)
  packs t h = new-packs d (suc k) t (known.small t h)

  joins : (t u : ℕ) → term_at d n ≡ sync t u → shape d (term_at d n) ≡ joint t u
  joins t u e = ap (shape d) e ∙ sync-joint t u (are_multi_actions d t u) (subst (λ (x : Term). as_merge d x ≡ x) e (known.joins n))

  -- Each shape, of whatever lists.
  module _ (room : ℕ) (lists : List ℕ) where
    abbrev Arrives : Shape → Type 0
    Arrives s = Given d k n room (arriving room lists sets news s [])

    leaf-kind : (a : Label) (w : ℕ) → number a ≡ w → Packs (names d) a → shape d (term_at d n) ≡ leaf (a ∷ []) → Arrives (Leaf (packed w))
    leaf-kind a w same p e = record {
      labels = a ∷ [];
      adds = leaf-adds d first k n (a ∷ []) e;
      result = subst (λ (v : ℕ). Result (names d) room (a ∷ []) (enter room v [])) (same ∙ sym (code-packed w)) (leaf-given (names d) room a p);
    }

    body-kind : (x : ℕ) → x < equations d → shape d (term_at d n) ≡ reference x → Arrives (Body x)
    body-kind x h e =
        let t = body_at d x in
        record {
          labels = arrived d k t;
          adds = reference-adds d first k n x e;
          result = rw (known.refs x h)
              (copy-given (names d) room (arrived d k t) (new-packs d k t (known.smaller t)) (new-ascends d k t));
        }

    one-kind : (t : ℕ) → t < n → shape d (term_at d n) ≡ one t → Arrives (One t)
    one-kind t h e = record {
      labels = new t;
      adds = one-adds d first k n t e;
      result = rw (known.fresh t h) (copy-given (names d) room (new t) (packs t h) (new-ascends d (suc k) t));
    }

    module _ (t u : ℕ) (l : LegalTwo n t u) where
      abbrev sums : List Label
      sums = sums_given (eqb (length (new t)) (length (now t))) (new t) (now t) (new u) (now u)

      enough : MixingNew d k t u sums
      enough = mixing-given d k t u (eqb (length (new t)) (length (now t))) refl

      either-kind : shape d (term_at d n) ≡ either t u → Arrives (Two t u false)
      either-kind e = record {
        labels = new t ++ new u;
        adds = either-adds d first k n t u e;
        result = rw (known.fresh t l.0, known.fresh u l.1)
            (either-given (names d) room narrow (new t) (now t) (new u) (now u) (packs t l.0) (known.small t l.0) (packs u l.1)
            (known.small u l.1) (new-ascends d (suc k) t) (new-ascends d (suc k) u));
      }

      both-kind : shape d (term_at d n) ≡ both t u → Arrives (Two t u true)
      both-kind e = record {
        labels = new t ++ new u ++ sums;
        adds = both-adds d first k n t u sums e enough;
        result = rw (known.fresh t l.0, known.fresh u l.1, known.stands t l.0, known.stands u l.1)
            (both-given (names d) room narrow (new t) (now t) (new u) (now u) (packs t l.0) (known.small t l.0) (packs u l.1)
            (known.small u l.1) (new-ascends d (suc k) t) (new-ascends d (suc k) u));
      }

      joint-kind : shape d (term_at d n) ≡ joint t u → Arrives (Joint t u)
      joint-kind e = record {
        labels = sums;
        adds = joint-adds d first k n t u sums e enough;
        result = rw (known.fresh t l.0, known.fresh u l.1, known.stands t l.0, known.stands u l.1)
            (joint-given (names d) room narrow (new t) (now t) (new u) (now u) (packs t l.0) (known.small t l.0) (packs u l.1)
            (known.small u l.1));
      }

    -- an operator, by its way and its list
    module _ (t : ℕ) (h : t < n) where
      abbrev Passed : Operator → Type 0
      Passed o = shape d (term_at d n) ≡ through (image (names d) o) t
          → Given d k n room (passed room (way_of o) (way_words (map number (new t)) (names d) o) (map number (new t)) (map number (now t)) [])

      plain-kind : (o : Operator) → Through (names d) room narrow (new t) (now t) (packs t h) o → Passed o
      plain-kind o x e = record { labels = spread (image (names d) o) (new t); adds = through-new d first k n (image (names d) o) t e; result = x }

      pub through-kind : (o : Operator) → LegalOperator (names d) o → Passed o
      through-kind (block ns) l = plain-kind (block ns) (block-given (names d) room narrow (new t) (now t) (packs t h) ns)
      through-kind (hide ns) l = plain-kind (hide ns) (hide-given (names d) room narrow (new t) (now t) (packs t h) ns)
      through-kind (rename ps) l = plain-kind (rename ps) (rename-given (names d) room narrow (new t) (now t) (packs t h) ps l)
      through-kind (allow ls) l = plain-kind (allow ls) (allow-given (names d) room narrow (new t) (now t) (packs t h) ls l)
      through-kind (comm rs) l = λ e.
          let old = at (round_sets d k) t in
          let all-pack = known.small t h in
          let w = map number (new t) in
          record {
            labels = spread (gives-for w (names d) narrow rs l.1 l.2 (now t) all-pack) (new t);
            adds = through-adds d first k n (image (names d) (comm rs)) t _ e
                (there-for w (names d) narrow rs l.1 l.2 (now t) all-pack (new t) old (arrived-within d k t) (round-grows d k t)
                (arrived-or-before d k t))
                (back-for w (names d) narrow rs l.1 l.2 (now t) all-pack (new t) old (arrived-within d k t) (round-grows d k t)
                (arrived-or-before d k t));
            result = listed-for w (names d) narrow rs l.1 l.2 (now t) all-pack (new t) old (arrived-within d k t) (round-grows d k t)
                (arrived-or-before d k t) room;
          }

  -- Each kind of term.
  module _ (lists : List ℕ) (held : HoldsLists d lists) (room : ℕ) (more : n < term_count d) where
    kind : (t : Term) → term_at d n ≡ t → LegalTerm d n t → Given d k n room (arriving room lists sets news (shape_for (term_for n t)) [])
    kind (act a) e l =
        leaf-kind room lists (single (names d) a) (number (single 24 a)) (sym (single-number (names d) narrow a l)) (single-packs (names d) a) (ap (shape d) e)
    kind tau e l = leaf-kind room lists (empty (names d)) 0 (number-empty (names d)) (empty-packs (names d)) (ap (shape d) e)
    kind delta e l = record { labels = []; adds = leaf-adds d first k n [] (ap (shape d) e); result = none-given (names d) room }
    kind (ref x) e l = body-kind room lists x l (ap (shape d) e)
    kind (sum t) e l = one-kind room lists t l (ap (shape d) e)
    kind (cond t) e l = one-kind room lists t l (ap (shape d) e)
    kind (choice t u) e l = either-kind room lists t u l (ap (shape d) e)
    kind (ifelse t u) e l = either-kind room lists t u l (ap (shape d) e)
    kind (seq t u) e l = either-kind room lists t u l (ap (shape d) e)
    kind (merge t u) e l = both-kind room lists t u l (ap (shape d) e)
    kind (lmerge t u) e l = both-kind room lists t u l (ap (shape d) e)
    kind (sync t u) e l = joint-kind room lists t u l (joins t u e)
    kind (wrap op t) e l =
        rw (
          way_same n op,
          words_same d lists held n t more narrow (news t) op e l.1,
          known.fresh t l.0,
          known.stands t l.0,
        )
        (through-kind room lists t l.0 op l.1 (ap (shape d) e))

    pub arriving-adds : Given d k n room (arriving room lists sets news (shape_for (term_for n (term_at d n))) [])
    arriving-adds = kind (term_at d n) refl (term-legal d all known.legal n)

-- A part with no label holds none.
no-labels : (s : List Label) → map number s ≡ [] → s ≡ []
no-labels [] e = refl
no-labels (a ∷ s) e = absurd (let h = ap length e in omega arith)

-- In the rows of parts, with the words of a set within the work area.
module _ (d : Description) (k n : ℕ) (sets news work log : List ℕ) (known : Known d k n (labels_of sets work) (labels_of news log))
    (within : (part_at sets n).to ≤ length work) where
  stays : (s : R.Shape) → shape d (term_at d n) ≡ s → Quiet d k n s → arrived d (suc k) n ≡ []
  stays s e q = quiet-arrived d (legal-operands d all known.legal) k n s e q

  none-new : (t : ℕ) → t < n → is_empty (part_at news t) ≡ true → arrived d (suc k) t ≡ []
  none-new t h e = no-labels (arrived d (suc k) t) (sym (known.fresh t h) ∙ words-empty (part_at news t) log e)

  none_before : (x : ℕ) → x < equations d → is_empty (part_at news (news_of x)) ≡ true → arrived d k (body_at d x) ≡ []
  none_before x h e = no-labels (arrived d k (body_at d x)) (sym (known.refs x h) ∙ words-empty (part_at news (news_of x)) log e)

  neither-new : (t u : ℕ) → LegalTwo n t u → is_empty (part_at news t) && is_empty (part_at news u) ≡ true
      → (arrived d (suc k) t ≡ []) × (arrived d (suc k) u ≡ [])
  neither-new t u l e =
      let both = and-true (is_empty (part_at news t)) (is_empty (part_at news u)) e in
      (none-new t l.0 both.0, none-new u l.1 both.1)

  some-own : not (is_empty (part_at sets n)) ≡ true → 0 < length (at (round_sets d k) n)
  some-own e =
      let p = part_at sets n in
      let h = leb-false p.to p.from (not-true (is_empty p) e) in
      let l = words-length p work in
      let m = ap length known.own ∙ length-map (at (round_sets d k) n) number in
      omega arith

  kind-quiet : (t : Term) → term_at d n ≡ t → LegalTerm d n t → quiet sets news n (shape_for (term_for n t)) ≡ true → arrived d (suc k) n ≡ []
  kind-quiet (act a) e l q = stays (leaf (single (names d) a ∷ [])) (ap (shape d) e) (inr (some-own q))
  kind-quiet tau e l q = stays (leaf (empty (names d) ∷ [])) (ap (shape d) e) (inr (some-own q))
  kind-quiet delta e l q = stays (leaf []) (ap (shape d) e) (inl refl)
  kind-quiet (ref x) e l q = stays (reference x) (ap (shape d) e) (none_before x l q)
  kind-quiet (sum t) e l q = stays (one t) (ap (shape d) e) (none-new t l q)
  kind-quiet (cond t) e l q = stays (one t) (ap (shape d) e) (none-new t l q)
  kind-quiet (choice t u) e l q = stays (either t u) (ap (shape d) e) (neither-new t u l q)
  kind-quiet (ifelse t u) e l q = stays (either t u) (ap (shape d) e) (neither-new t u l q)
  kind-quiet (seq t u) e l q = stays (either t u) (ap (shape d) e) (neither-new t u l q)
  kind-quiet (merge t u) e l q = stays (both t u) (ap (shape d) e) (neither-new t u l q)
  kind-quiet (lmerge t u) e l q = stays (both t u) (ap (shape d) e) (neither-new t u l q)
  kind-quiet (sync t u) e l q = stays (joint t u) (joins d k n (labels_of sets work) (labels_of news log) known t u e) (neither-new t u l q)
  kind-quiet (wrap op t) e l q = stays (through (image (names d) op) t) (ap (shape d) e) (none-new t l.0 q)

  pub quiet-nothing : quiet sets news n (shape_for (term_for n (term_at d n))) ≡ true → arrived d (suc k) n ≡ []
  quiet-nothing q = kind-quiet (term_at d n) refl (term-legal d all known.legal n) q
