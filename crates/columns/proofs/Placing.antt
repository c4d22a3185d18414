-- What is found of a list that was read decides all of its faults: what was read later lies further right.
-- Assumes nothing.
use mathlib.Core.Path.{◌≡◌, refl, ap}
use mathlib.Core.List.{List, [], ◌∷◌, ◌++◌, map}
use Prim.Native.Nat.{ℕ, zero, suc, ◌≤◌}
use native.Mathlib.Omega.{arith}
use lib.ListN.{length, length-append}
use Rattle.meaning.specs.Bytes.{Text, ascii}
use Rattle.meaning.specs.Answers.{form, name, range, amount}
use Rattle.grammar.specs.Text.{Past, past, onward, Placed, placed, byte, starts, is_rest, word, separated_on, separated}
use Rattle.grammar.specs.Forms.{comma, dot, colon, greater, part, label, pair, rule, word_list, pair_list, rule_list, label_list}
use Rattle.grammar.specs.Faults.{Found, Item, items_fault, name_number, actions, name_fault, part_item, label_fault, name_item, words_fault, pair_fault}
use Rattle.grammar.specs.Faults.{pair_item, pairs_fault, rule_fault, rule_item, rules_fault, label_item, labels_fault}
use Rattle.grammar.proofs.Onwards.{When, when-past, when-stuck, when-weaken, when-branch, onward→, literal→}
use Rattle.columns.specs.Leftmost.{Faults, list_faults, name_faults, part_faults, label_faults, pair_faults, rule_faults, labels_faults}
use Rattle.columns.proofs.Inside.{Over, number-inside, word-inside}
use Rattle.columns.proofs.Deciding.{Bounds, ◌down_to◌, Told, told_wider, told-worse, told-unless-lt, told-unless-le}
use Rattle.columns.proofs.Falling.{Entry, Falling, list-told}

-- A rest is not longer than its text.
pub over-shorter : {s r : Text} → Over s r → length r ≤ length s
over-shorter {s} {r} o = omega (arith, ap length o.whole, length-append o.read r)

pub sign-shorter : {b : ℕ} {s r : Text} → s ≡ (b ∷ []) ++ r → length r ≤ length s
sign-shorter e = omega (arith, ap length e)

abbrev pub at_place : {A : Type 0} → ℕ → A → Placed A
at_place n a = record { it = a; from = n }

pub placed→ : {A : Type 0} {P : Placed A → Text → Type 0} (entry : Text → Past A) (s : Text)
    → When (entry s) (λ a q. P (at_place (length s) a) q) → When (placed entry s) P
placed→ entry s h = onward→ h (λ a q k. when-past k)

-- A place for each fault that a line of right form can have: of numbers, of names and of amounts.
abbrev pub places : (r n a : ℕ) → Bounds
places r n a form = 0
places r n a name = n
places r n a range = r
places r n a amount = a

pub places-fall : {r t n m a b : ℕ} → t ≤ r → m ≤ n → b ≤ a → places r n a down_to places t m b
places-fall h k l form = omega arith
places-fall h k l name = k
places-fall h k l range = h
places-fall h k l amount = l

-- Entries that were read, with a sign between them.
module _ {A : Type 0} (own : A → Faults) (item : A → Item) (at : ℕ → Bounds) (rises : (n m : ℕ) → n ≤ m → at m down_to at n) where
  entry-lower : {a : A} {upper : Bounds} (n m : ℕ) → n ≤ m → Entry own item a upper (at m) → Entry own item a upper (at n)
  entry-lower n m l e =
      record {
        middle = e.middle;
        told = e.told;
        begins = e.begins;
        goes_on = λ x. let h = e.goes_on x in let k = rises n m l x in omega arith;
      }

  falling : (sign : ℕ) (entry : Text → Past A) → ((s : Text) → When (entry s) (λ a r. Entry own item a (at (length s)) (at (length r))))
      → (n : ℕ) (s : Text) → When (separated_on sign entry n s) (λ as' r. Falling own item (at (length s)) as' (at (length r)))
  unfolding separated_on
  falling sign entry k zero s = when-stuck
  falling sign entry k (suc n) s =
      onward→ (k s) (λ a r e. when-branch (starts sign r)
      (λ _. onward→ (literal→ (sign ∷ []) r) (λ _ q i. onward→ (falling sign entry k n q) (λ as' p h.
      when-past (at (length q), entry-lower (length q) (length r) (sign-shorter i) e, h))))
      (λ _. when-past (at (length r), e, λ x. omega arith)))

-- The pieces of a list's entry that begins at `from`. No number of the line is faulted in a list: r stands for a place where one is.
module _ (words : List Text) (r : ℕ) where
  module _ (from : ℕ) where
    abbrev Between : (s q : Text) → Faults → Found → Type 0
    Between s q faults found = Told faults found (places r (length s) from) (places r (length q) from)

    word-told : (s : Text) → When (word s) (λ w q. Between s q (name_faults words (at_place (length s) w)) (name_fault words (at_place (length s) w)))
    unfolding name_fault
    word-told s =
        when-weaken (word-inside s) (λ w q o.
        told_wider (λ x. omega arith) (places-fall (omega arith) (over-shorter o) (omega arith))
        (told-unless-lt (places r (length s) from) name (name_number words w) (length words)))

    pub name-told : (s : Text) → When (placed word s) (λ w q. Between s q (name_faults words w) (name_fault words w))
    name-told s = placed→ word s (word-told s)

    part-entry : (s : Text)
        → When (part s) (λ p q. Entry (part_faults words from) (part_item words from) p (places r (length s) from) (places r (length q) from))
    unfolding part
    part-entry s =
        onward→ (name-told s) (λ w q h. onward→ (literal→ (colon ∷ []) q) (λ _ o i. onward→ (number-inside o) (λ n p j.
        when-past (record {
          middle = places r (length q) from;
          told = told-worse _ _ h (told-unless-le (places r (length q) from) amount 1 n);
          begins = refl;
          goes_on = let l = sign-shorter i in let m = over-shorter j in places-fall (omega arith) (omega arith) (omega arith);
        }))))

    label-told : (s : Text) → When (label s) (λ ps q. Between s q (label_faults words from ps) (label_fault words from ps))
    unfolding label_fault
    label-told s =
        when-weaken
        (falling (part_faults words from) (part_item words from) (λ n. places r n from) (λ n m l. places-fall (omega arith) l (omega arith))
        dot part part-entry (suc (length s)) s)
        (λ ps q h. list-told (part_faults words from) (part_item words from) 31 ps h)

    -- behind a sign, a name
    right-told : {B : Type 0} {P : B → Text → Type 0} (q : Text) (make : Placed Text → B)
        → ((w : Placed Text) (p : Text) → Between q p (name_faults words w) (name_fault words w) → P (make w) p)
        → When (onward (byte greater q) (λ _ o. onward (placed word o) (λ w p. past (make w) p))) P
    right-told q make k =
        onward→ (literal→ (greater ∷ []) q) (λ _ o i. onward→ (name-told o) (λ w p h.
        when-past (k w p (told_wider (places-fall (omega arith) (sign-shorter i) (omega arith)) (λ x. omega arith) h))))

    pair-told : (s : Text)
        → When (pair s) (λ p q. Between s q (pair_faults words (at_place from p)) (pair_fault words p))
    unfolding pair
    pair-told s = onward→ (name-told s) (λ a q h. right-told q _ (λ b p k. told-worse _ _ h k))

    rule_told : (s : Text)
        → When (rule s) (λ t q. Between s q (rule_faults words (at_place from t)) (rule_fault words from t))
    unfolding rule
    rule_told s =
        onward→ (label-told s) (λ a q h. right-told q _ (λ b p k.
        told-worse _ _ (told-worse _ _ h (told-unless-le (places r (length q) from) amount 2 (actions a))) k))

  -- A list, each of whose entries begins where it was read.
  abbrev pub InList : (s : Text) → Faults → Found → Type 0
  InList s faults found = Told faults found (places r (length s) (length s)) (places r 0 0)

  entries-told : {A : Type 0} (own : Placed A → Faults) (item : Placed A → Item) (limit : ℕ) (entry : Text → Past A)
      → ((a : Placed A) → a.from ≡ (item a).from)
      → ((s : Text) → When (entry s) (λ a q. Between (length s) s q (own (at_place (length s) a)) (item (at_place (length s) a)).own))
      → (s : Text) → When (separated comma (placed entry) s) (λ as' q. InList s (list_faults own item limit as') (items_fault limit (map item as')))
  entries-told own item limit entry from k s =
      when-weaken
      (falling own item (λ n. places r n n) (λ n m l. places-fall (omega arith) l l) comma (placed entry)
      (λ s. placed→ entry s (when-weaken (k s) (λ a q h. record {
        middle = places r (length q) (length s);
        told = h;
        begins = from (at_place (length s) a);
        goes_on = places-fall (omega arith) (omega arith) (h.falls name);
      })))
      (suc (length s)) s)
      (λ as' q h. told_wider (λ x. omega arith) (places-fall (omega arith) (omega arith) (omega arith)) (list-told own item limit as' h))

  pub words-told : (s : Text) → When (word_list s) (λ ws q. InList s (list_faults (name_faults words) (name_item words) 0 ws) (words_fault words ws))
  unfolding words_fault
  words-told = entries-told (name_faults words) (name_item words) 0 word (λ w. refl) (λ s. word-told (length s) s)

  pub pairs-told : (s : Text) → When (pair_list s) (λ ps q. InList s (list_faults (pair_faults words) (pair_item words) 0 ps) (pairs_fault words ps))
  unfolding pairs_fault
  pairs-told = entries-told (pair_faults words) (pair_item words) 0 pair (λ p. refl) (λ s. pair-told (length s) s)

  pub rules-told : (s : Text) → When (rule_list s) (λ rs q. InList s (list_faults (rule_faults words) (rule_item words) 8 rs) (rules_fault words rs))
  unfolding rules_fault
  rules-told = entries-told (rule_faults words) (rule_item words) 8 rule (λ t. refl) (λ s. rule_told (length s) s)

  pub labels-told : (s : Text) → When (label_list s) (λ ls q. InList s (labels_faults words ls) (labels_fault words ls))
  unfolding label_list labels_fault
  labels-told s =
      when-branch (is_rest (ascii "none") s)
      (λ _. when-past (list-told _ (label_item words) 32 [] (places-fall (omega arith) (omega arith) (omega arith))))
      (λ _. entries-told (λ l. label_faults words l.from l.it) (label_item words) 32 label (λ l. refl) (λ s. label-told (length s) s) s)
