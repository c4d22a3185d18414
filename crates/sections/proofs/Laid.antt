-- Words over part of an area: what stays as it was, what stands there afterwards, and how it is made word by word.
-- Assumes nothing.
use mathlib.Core.Path.{◌≡◌, refl, sym, ap, ap₂, subst, ◌∙◌}
use mathlib.Core.List.{List, [], ◌∷◌, ◌++◌, append_assoc}
use Prim.Native.Nat.{ℕ, zero, suc, ◌+◌, ◌*◌, ◌-◌, ◌≤◌, ◌<◌}
use native.Mathlib.Nat.{le_of_suc-le-suc, not-suc-le-zero, suc-add, zero-add, add-zero}
use native.Mathlib.Omega.{arith}
use lib.ListN.{length, take, drop, set, get_or, take-append-drop, length-append}
use lib.Seq.{drop-drop, drop-append-add, length-take-le, get_or-take, get_or-drop}
use Rattle.meaning.specs.Descriptions as D
use Rattle.table.specs.Encoded.{term_words}
use Rattle.lists.specs.Lists.{overlaid}
use Rattle.sections.specs.Laying.{laid_at, lists_over}

-- Where the area ends nothing is laid.
over-nowhere : (ws : List ℕ) → overlaid ws [] ≡ []
unfolding overlaid
over-nowhere [] = refl
over-nowhere (w ∷ ws) = refl

pub length-laid : (at : ℕ) (ws area : List ℕ) → length (laid_at at ws area) ≡ length area
unfolding laid_at overlaid
length-laid zero [] area = refl
length-laid zero (w ∷ ws) [] = refl
length-laid zero (w ∷ ws) (x ∷ area) = ap suc (length-laid zero ws area)
length-laid (suc at) ws [] = ap length (over-nowhere ws)
length-laid (suc at) ws (x ∷ area) = ap suc (length-laid at ws area)

pub laid_none : (at : ℕ) (area : List ℕ) → laid_at at [] area ≡ area
unfolding laid_at overlaid
laid_none at area = take-append-drop at area

-- one word, and one word more
pub laid_one : (at a : ℕ) (area : List ℕ) → laid_at at (a ∷ []) area ≡ set area at a
unfolding laid_at overlaid
laid_one zero a [] = refl
laid_one zero a (x ∷ area) = refl
laid_one (suc at) a [] = refl
laid_one (suc at) a (x ∷ area) = ap (λ l. x ∷ l) (laid_one at a area)

pub laid_more : (at : ℕ) (ws : List ℕ) (a : ℕ) (area : List ℕ) → laid_at at (ws ++ (a ∷ [])) area ≡ set (laid_at at ws area) (at + length ws) a
unfolding laid_at overlaid
laid_more zero [] a [] = refl
laid_more zero [] a (x ∷ area) = refl
laid_more zero (w ∷ ws) a [] = refl
laid_more zero (w ∷ ws) a (x ∷ area) =
    ap (λ l. w ∷ l) (laid_more zero ws a area ∙ ap (λ n. set (overlaid ws area) n a) (zero-add (length ws)))
    ∙ ap (λ n. set (w ∷ overlaid ws area) n a) (sym (zero-add (suc (length ws))))
laid_more (suc at) ws a [] = over-nowhere (ws ++ (a ∷ [])) ∙ ap (λ l. set l (suc at + length ws) a) (sym (over-nowhere ws))
laid_more (suc at) ws a (x ∷ area) =
    ap (λ l. x ∷ l) (laid_more at ws a area) ∙ ap (λ n. set (x ∷ laid_at at ws area) n a) (sym (suc-add at (length ws)))

-- what is before and behind the words stays
take-laid : (n at : ℕ) (ws area : List ℕ) → n ≤ at → take n (laid_at at ws area) ≡ take n area
unfolding laid_at
take-laid zero at ws area h = refl
take-laid (suc n) zero ws area h = absurd (not-suc-le-zero h)
take-laid (suc n) (suc at) ws [] h = ap (take (suc n)) (over-nowhere ws)
take-laid (suc n) (suc at) ws (x ∷ area) h = ap (λ l. x ∷ l) (take-laid n at ws area (le_of_suc-le-suc h))

pub drop-laid : (n at : ℕ) (ws area : List ℕ) → at + length ws ≤ n → drop n (laid_at at ws area) ≡ drop n area
unfolding laid_at overlaid
drop-laid n zero [] area h = refl
drop-laid zero zero (w ∷ ws) area h = absurd (not-suc-le-zero (subst (λ k. k ≤ zero) (zero-add (suc (length ws))) h))
drop-laid (suc n) zero (w ∷ ws) [] h = refl
drop-laid (suc n) zero (w ∷ ws) (x ∷ area) h = drop-laid n zero ws area (omega arith)
drop-laid zero (suc at) ws area h = absurd (not-suc-le-zero (subst (λ k. k ≤ zero) (suc-add at (length ws)) h))
drop-laid (suc n) (suc at) ws [] h = ap (drop (suc n)) (over-nowhere ws)
drop-laid (suc n) (suc at) ws (x ∷ area) h = drop-laid n at ws area (omega arith)

-- the words stand where they are laid
over-held : (ws area : List ℕ) → length ws ≤ length area → take (length ws) (overlaid ws area) ≡ ws
unfolding overlaid
over-held [] area h = refl
over-held (w ∷ ws) [] h = absurd (not-suc-le-zero h)
over-held (w ∷ ws) (x ∷ area) h = ap (λ l. w ∷ l) (over-held ws area (le_of_suc-le-suc h))

pub laid-held : (at : ℕ) (ws area : List ℕ) → at + length ws ≤ length area → take (length ws) (drop at (laid_at at ws area)) ≡ ws
unfolding laid_at
laid-held zero ws area h = over-held ws area (subst (λ k. k ≤ length area) (zero-add (length ws)) h)
laid-held (suc at) ws [] h = absurd (not-suc-le-zero (subst (λ k. k ≤ zero) (suc-add at (length ws)) h))
laid-held (suc at) ws (x ∷ area) h = laid-held at ws area (omega arith)

-- a part of the area that the words do not reach
pub part-laid-before : (from n at : ℕ) (ws area : List ℕ) → from + n ≤ at → take n (drop from (laid_at at ws area)) ≡ take n (drop from area)
unfolding laid_at
part-laid-before zero n at ws area h = take-laid n at ws area (omega arith)
part-laid-before (suc from) n zero ws area h = absurd (not-suc-le-zero (subst (λ k. k ≤ zero) (suc-add from n) h))
part-laid-before (suc from) n (suc at) ws [] h = ap (λ l. take n (drop (suc from) l)) (over-nowhere ws)
part-laid-before (suc from) n (suc at) ws (x ∷ area) h = part-laid-before from n at ws area (omega arith)

pub part-laid-behind : (from n at : ℕ) (ws area : List ℕ) → at + length ws ≤ from → take n (drop from (laid_at at ws area)) ≡ take n (drop from area)
part-laid-behind from n at ws area h = ap (take n) (drop-laid from at ws area h)

-- single words
pub get_d-laid-before : (n at : ℕ) (ws area : List ℕ) (d : ℕ) → n < at → get_or (laid_at at ws area) n d ≡ get_or area n d
unfolding laid_at
get_d-laid-before n zero ws area d h = absurd (not-suc-le-zero h)
get_d-laid-before n (suc at) ws [] d h = ap (λ l. get_or l n d) (over-nowhere ws)
get_d-laid-before zero (suc at) ws (x ∷ area) d h = refl
get_d-laid-before (suc n) (suc at) ws (x ∷ area) d h = get_d-laid-before n at ws area d (le_of_suc-le-suc h)

-- the i-th of the words
pub get_d-laid : (i at : ℕ) (ws area : List ℕ) (d : ℕ) → i < length ws → at + length ws ≤ length area → get_or (laid_at at ws area) (at + i) d ≡ get_or ws i d
get_d-laid i at ws area d h k =
    sym (get_or-drop at (laid_at at ws area) i d) ∙ sym (get_or-take (length ws) (drop at (laid_at at ws area)) i d h)
    ∙ ap (λ l. get_or l i d) (laid-held at ws area k)

-- A part that is lent, with words over its start, put back: the words over the area, where the part has room for them.
over-part : (m : ℕ) (ws area : List ℕ) → length ws ≤ m → overlaid ws (take m area) ++ drop m area ≡ overlaid ws area
unfolding overlaid
over-part m [] area h = take-append-drop m area
over-part zero (w ∷ ws) area h = absurd (not-suc-le-zero h)
over-part (suc m) (w ∷ ws) [] h = refl
over-part (suc m) (w ∷ ws) (x ∷ area) h = ap (λ l. w ∷ l) (over-part m ws area (le_of_suc-le-suc h))

pub part-put-back : (at m : ℕ) (ws area : List ℕ) → length ws ≤ m
    → take at area ++ (overlaid ws (take m (drop at area)) ++ drop m (drop at area)) ≡ laid_at at ws area
unfolding laid_at
part-put-back at m ws area h = ap (λ l. take at area ++ l) (over-part m ws (drop at area) h)

-- Whatever is put back, the words behind the part stay.
pub drop-put-back : (n at m : ℕ) (part area : List ℕ) → length part ≡ m → at + m ≤ length area → at + m ≤ n
    → drop n (take at area ++ (part ++ drop m (drop at area))) ≡ drop n area
drop-put-back n at m part area e l h =
    let front = take at area ++ part in
    let k : length front ≡ at + m = length-append (take at area) part ∙ ap₂ ◌+◌ (length-take-le at area (omega arith)) e in
    let s : n ≡ length front + (n - (at + m)) = omega arith in
    let t : at + m + (n - (at + m)) ≡ n = omega arith in
    ap (drop n) (sym (append_assoc (take at area) part (drop m (drop at area))))
    ∙ ap (λ j. drop j (front ++ drop m (drop at area))) s
    ∙ drop-append-add front (drop m (drop at area)) (n - (at + m))
    ∙ ap (drop (n - (at + m))) (drop-drop m at area) ∙ drop-drop (n - (at + m)) (at + m) area ∙ ap (λ j. drop j area) t

-- Lists of terms: one more.
pub lists-more : (n : ℕ) (ts : List D.Term) (t : D.Term) (lists : List ℕ)
    → lists_over n (ts ++ (t ∷ [])) lists ≡ laid_at (64 * (n + length ts)) (term_words t) (lists_over n ts lists)
unfolding lists_over
lists-more n [] t lists = ap (λ k. laid_at (64 * k) (term_words t) lists) (sym (add-zero n))
lists-more n (u ∷ ts) t lists = lists-more (suc n) ts t (laid_at (64 * n) (term_words u) lists)
    ∙ ap (λ k. laid_at (64 * k) (term_words t) (lists_over (suc n) ts (laid_at (64 * n) (term_words u) lists))) (omega arith)
