-- The instances of a device are shared out between rows of interfaces and the others.
use Rattle.std.proofs.Common.{◌≡◌, ◌∙◌, ℕ, ◌+◌, ◌==◌, Bool, true, false, not, ◌&&◌, ◌||◌, List, [], ◌∷◌, ◌++◌, Option, Some, None, take, filter, ap, sym, subst, refl, append_assoc, if◌then◌else◌, length, cond, length-append, append-nil, arith}
use Rattle.std.specs.Prelude.{All, IsPermutation}
use Rattle.std.specs.List.{flat_map, list_any}
use Rattle.std.proofs.lemmas.Bool.{eqb-true, true≢false}
use Rattle.std.proofs.lemmas.Bool.Decides.{nat_tests}
use Rattle.std.proofs.lemmas.List.Elements.{All-head, All-tail, All-nil, All-cons, filter_agree}
use Rattle.std.proofs.lemmas.List.Folds.{list_any-append}
use Rattle.std.proofs.lemmas.List.Sorted.{IsPermutation-append_left, IsPermutation-append_right, IsPermutation-cons, IsPermutation-filter_both, IsPermutation-middle, IsPermutation-refl, IsPermutation-sym, IsPermutation-trans}
use Rattle.std.proofs.lemmas.Grind.{flat_map-append}
use Rattle.std.proofs.Math.Seq.{take-append_seam}
use Rattle.mon_display.specs.Interface.{column_of, interface_of}
use Rattle.mon_page.specs.Rows.{Row}
use Rattle.mon_page.specs.Seats.{has_place, interface_at, interfaces, interfaces_from, is_at, is_free_at, is_index, others, placed, placed_from}

-- ---- those with a place and those without
one_parted : (b : Bool) (r : Row) (rs A B : List Row) → IsPermutation rs (A ++ B)
    → IsPermutation (r ∷ rs) ((if b then r ∷ A else A) ++ (if b then B else r ∷ B))
one_parted true r rs A B h = IsPermutation-cons r rs (A ++ B) h
one_parted false r rs A B h =
    IsPermutation-trans (r ∷ rs) (r ∷ (A ++ B)) (A ++ r ∷ B) (IsPermutation-cons r rs (A ++ B) h)
    (IsPermutation-sym (A ++ r ∷ B) (r ∷ (A ++ B)) (IsPermutation-middle A r B))

parted : (device : List Row) (place : ℕ) (rest : List Row) → IsPermutation rest (placed_from true device place rest ++ placed_from false device place rest)
parted device place [] = IsPermutation-refl []
parted device place (r ∷ rs) =
    one_parted (has_place (take place device) r) r rs (placed_from true device (place + 1) rs) (placed_from false device (place + 1) rs)
    (parted device (place + 1) rs)

-- ---- those with a place by their interfaces
-- the ifIndex of an instance
abbrev index_of : Row → Option ℕ
index_of r = interface_of r.entry.name

-- an instance is of an interface
abbrev IsIndexed : Row → Type 0
IsIndexed r = (k : ℕ) × (index_of r ≡ Some k)

free_indexed : (before : List Row) (r : Row) (o : Option ℕ) → index_of r ≡ o → is_free_at before o (column_of r.entry.name) ≡ true → IsIndexed r
free_indexed before r None e free = absurd (true≢false (sym free))
free_indexed before r (Some k) e free = (k, e)

one_indexed : (b : Bool) (r : Row) (A : List Row) → (b ≡ true → IsIndexed r) → All IsIndexed A → All IsIndexed (if b then r ∷ A else A)
one_indexed true r A h rest = All-cons IsIndexed r A (h refl) rest
one_indexed false r A h rest = rest

indexed : (device : List Row) (place : ℕ) (rest : List Row) → All IsIndexed (placed_from true device place rest)
indexed device place [] = All-nil IsIndexed
indexed device place (r ∷ rs) =
    one_indexed (has_place (take place device) r) r (placed_from true device (place + 1) rs) (free_indexed (take place device) r (index_of r) refl)
    (indexed device (place + 1) rs)

-- an instance of this ifIndex is among these
abbrev is_known : List Row → Option ℕ → Bool
is_known rows None = false
is_known rows (Some k) = list_any (is_at k) rows

-- an instance is of an interface of the second ones, and of none of the first
abbrev is_due : List Row → List Row → Row → Bool
is_due before rest x = not (is_known before (index_of x)) && is_known rest (index_of x)

filter_twice : (p q : Row → Bool) (rs : List Row) → filter p (filter q rs) ≡ filter (λ x. q x && p x) rs
filter_twice p q [] = refl
filter_twice p q (x ∷ xs) = one (q x) (p x) refl refl (filter_twice p q xs) where
  one : (b c : Bool) → q x ≡ b → p x ≡ c → filter p (filter q xs) ≡ filter (λ y. q y && p y) xs
      → filter p (cond b (x ∷ filter q xs) (filter q xs)) ≡ cond (b && c) (x ∷ filter (λ y. q y && p y) xs) (filter (λ y. q y && p y) xs)
  one true true e f rest = (λ i. cond (f i) (x ∷ filter p (filter q xs)) (filter p (filter q xs))) ∙ ap (λ (l : List Row). x ∷ l) rest
  one true false e f rest = (λ i. cond (f i) (x ∷ filter p (filter q xs)) (filter p (filter q xs))) ∙ rest
  one false c e f rest = rest

-- tests of two numbers
swapped : (j k : ℕ) → (j == k) ≡ (k == j)
swapped j k = grind (arith, nat_tests)

same_number : (j k : ℕ) → (j == k) ≡ true → j ≡ k
same_number j k e = eqb-true j k e

own_number : (k : ℕ) → (k == k) ≡ true
own_number k = grind (arith, nat_tests)

-- tests of booleans
due_later : (p r c : Bool) → (c ≡ true → p ≡ true) → (not p && (c || r)) ≡ (not (p || (c || false)) && r)
due_later true r c h = refl
due_later false r true h = absurd (true≢false (sym (h refl)))
due_later false r false h = refl

due_other : (p r c : Bool) → ((not p && (c || r)) && not c) ≡ (not (p || (c || false)) && r)
due_other true r c = refl
due_other false r true = refl
due_other false true false = refl
due_other false false false = refl

due_own : (p r c d : Bool) → (d ≡ true → p ≡ false) → (d ≡ true → c ≡ true) → ((not p && (c || r)) && d) ≡ d
due_own p r c true h g = λ i. (not (h refl i) && (g refl i || r)) && true
due_own p r c false h g = by (not p && (c || r)) where
  by : (b : Bool) → (b && false) ≡ false
  by true = refl
  by false = refl

and_not_false : (b : Bool) → (b && true) ≡ b
and_not_false true = refl
and_not_false false = refl

-- one instance more before, if it adds no interface
module _ (pre rs : List Row) (r : Row) where
  after_one : (k : ℕ) → list_any (is_at k) (pre ++ r ∷ []) ≡ (list_any (is_at k) pre || (is_at k r || false))
  after_one k = list_any-append (is_at k) pre (r ∷ [])

  none_later : index_of r ≡ None → (x : Row) (o : Option ℕ) → index_of x ≡ o
      → (not (is_known pre o) && is_known (r ∷ rs) o) ≡ (not (is_known (pre ++ r ∷ []) o) && is_known rs o)
  none_later e x None f = refl
  none_later e x (Some k) f =
      due_later (list_any (is_at k) pre) (list_any (is_at k) rs) (is_at k r) (λ own. absurd (true≢false (sym own ∙ ap (is_index k) e)))
      ∙ (λ i. not (sym (after_one k) i) && list_any (is_at k) rs)

  known_later : (j : ℕ) → index_of r ≡ Some j → list_any (is_at j) pre ≡ true → (x : Row) (o : Option ℕ) → index_of x ≡ o
      → (not (is_known pre o) && is_known (r ∷ rs) o) ≡ (not (is_known (pre ++ r ∷ []) o) && is_known rs o)
  known_later j e known x None f = refl
  known_later j e known x (Some k) f =
      due_later (list_any (is_at k) pre) (list_any (is_at k) rs) (is_at k r)
      (λ own. ap (λ (n : ℕ). list_any (is_at n) pre) (sym (same_number j k (sym (ap (is_index k) e) ∙ own))) ∙ known)
      ∙ (λ i. not (sym (after_one k) i) && list_any (is_at k) rs)

  new_own : (j : ℕ) → index_of r ≡ Some j → list_any (is_at j) pre ≡ false → (x : Row) (o : Option ℕ) → index_of x ≡ o
      → ((not (is_known pre o) && is_known (r ∷ rs) o) && is_index j o) ≡ is_index j o
  new_own j e new x None f = refl
  new_own j e new x (Some k) f =
      due_own (list_any (is_at k) pre) (list_any (is_at k) rs) (is_at k r) (k == j)
      (λ own. ap (λ (n : ℕ). list_any (is_at n) pre) (same_number k j own) ∙ new)
      (λ own. ap (is_index k) e ∙ swapped j k ∙ own)

  new_other : (j : ℕ) → index_of r ≡ Some j → (x : Row) (o : Option ℕ) → index_of x ≡ o
      → ((not (is_known pre o) && is_known (r ∷ rs) o) && not (is_index j o)) ≡ (not (is_known (pre ++ r ∷ []) o) && is_known rs o)
  new_other j e x None f = refl
  new_other j e x (Some k) f =
      (λ i. (not (list_any (is_at k) pre) && (is_at k r || list_any (is_at k) rs)) && not ((swapped k j ∙ sym (ap (is_index k) e)) i))
      ∙ due_other (list_any (is_at k) pre) (list_any (is_at k) rs) (is_at k r)
      ∙ (λ i. not (sym (after_one k) i) && list_any (is_at k) rs)

  -- the interface of this instance and those of the instances after it
  module _ (all F : List Row) (rest : IsPermutation (filter (is_due (pre ++ r ∷ []) rs) all) F) where
    same_due : ((x : Row) → is_due pre (r ∷ rs) x ≡ is_due (pre ++ r ∷ []) rs x) → IsPermutation (filter (is_due pre (r ∷ rs)) all) F
    same_due same = subst (λ l. IsPermutation l F) (sym (filter_agree (is_due pre (r ∷ rs)) (is_due (pre ++ r ∷ []) rs) same all)) rest

    new_due : (j : ℕ) → index_of r ≡ Some j → list_any (is_at j) pre ≡ false → IsPermutation (filter (is_due pre (r ∷ rs)) all) (filter (is_at j) all ++ F)
    new_due j e new =
        let due = is_due pre (r ∷ rs) in
        let other : Row → Bool = λ x. not (is_at j x) in
        let D = filter due all in
        let own : filter (is_at j) D ≡ filter (is_at j) all =
        filter_twice (is_at j) due all ∙ filter_agree (λ x. due x && is_at j x) (is_at j) (λ x. new_own j e new x (index_of x) refl) all in
        let later : filter other D ≡ filter (is_due (pre ++ r ∷ []) rs) all =
        filter_twice other due all ∙ filter_agree (λ x. due x && other x) (is_due (pre ++ r ∷ []) rs) (λ x. new_other j e x (index_of x) refl) all in
        IsPermutation-trans D (filter (is_at j) D ++ filter other D) (filter (is_at j) all ++ F) (IsPermutation-filter_both (is_at j) other (λ x. refl) D)
        (subst (λ l. IsPermutation (filter (is_at j) D ++ filter other D) (l ++ F)) own
        (IsPermutation-append_right (filter (is_at j) D) (filter other D) F (subst (λ l. IsPermutation l F) (sym later) rest)))

    by_known : (j : ℕ) → index_of r ≡ Some j → (b : Bool) → list_any (is_at j) pre ≡ b
        → IsPermutation (filter (is_due pre (r ∷ rs)) all) (flat_map (λ i. i) (if b then [] else filter (is_at j) all ∷ []) ++ F)
    by_known j e true known = same_due (λ x. known_later j e known x (index_of x) refl)
    by_known j e false new =
        subst (λ l. IsPermutation (filter (is_due pre (r ∷ rs)) all) (l ++ F)) (sym (append-nil (filter (is_at j) all))) (new_due j e new)

    one_due : (o : Option ℕ) → index_of r ≡ o → IsPermutation (filter (is_due pre (r ∷ rs)) all) (flat_map (λ i. i) (interface_at all pre o) ++ F)
    one_due None e = same_due (λ x. none_later e x (index_of x) refl)
    one_due (Some j) e = by_known j e (list_any (is_at j) pre) refl

none_due : (pre all : List Row) → filter (is_due pre []) all ≡ []
none_due pre [] = refl
none_due pre (x ∷ xs) = by (not (is_known pre (index_of x))) (index_of x) (none_due pre xs) where
  by : (b : Bool) (o : Option ℕ) → filter (is_due pre []) xs ≡ [] → cond (b && is_known [] o) (x ∷ filter (is_due pre []) xs) (filter (is_due pre []) xs) ≡ []
  by true None rest = rest
  by true (Some k) rest = rest
  by false o rest = rest

shared : (all pre rest : List Row) → all ≡ pre ++ rest → IsPermutation (filter (is_due pre rest) all) (flat_map (λ i. i) (interfaces_from all (length pre) rest))
shared all pre [] whole = subst (λ l. IsPermutation l []) (sym (none_due pre all)) (IsPermutation-refl [])
shared all pre (r ∷ rs) whole =
    let before : take (length pre) all ≡ pre = ap (take (length pre)) whole ∙ take-append_seam pre (r ∷ rs) in
    let place : length (pre ++ r ∷ []) ≡ length pre + 1 = length-append pre (r ∷ []) in
    let later = shared all (pre ++ r ∷ []) rs (whole ∙ sym (append_assoc pre (r ∷ []) rs)) in
    let F = flat_map (λ i. i) (interfaces_from all (length pre + 1) rs) in
    let rest : IsPermutation (filter (is_due (pre ++ r ∷ []) rs) all) F =
    subst (λ n. IsPermutation (filter (is_due (pre ++ r ∷ []) rs) all) (flat_map (λ i. i) (interfaces_from all n rs))) place later in
    subst (λ l. IsPermutation (filter (is_due pre (r ∷ rs)) all) l)
    (sym (flat_map-append (λ i. i) (interface_at all (take (length pre) all) (index_of r)) (interfaces_from all (length pre + 1) rs)))
    (subst (λ b. IsPermutation (filter (is_due pre (r ∷ rs)) all) (flat_map (λ i. i) (interface_at all b (index_of r)) ++ F)) (sym before)
    (one_due pre rs r all F rest (index_of r) refl))

-- each of some instances is of an interface of them
own_known : (pre xs : List Row) (x : Row) (o : Option ℕ) → index_of x ≡ o → IsIndexed x → is_known (pre ++ x ∷ xs) o ≡ true
own_known pre xs x None e (k, f) = absurd (none_some (sym e ∙ f)) where
  none_some : None ≡ Some k → ⊥
  none_some g = cc
own_known pre xs x (Some k) e indexed =
    list_any-append (is_at k) pre (x ∷ xs)
    ∙ (λ i. list_any (is_at k) pre || ((ap (is_index k) e ∙ own_number k) i || list_any (is_at k) xs))
    ∙ or_true (list_any (is_at k) pre)
  where
    or_true : (b : Bool) → (b || (true || list_any (is_at k) xs)) ≡ true
    or_true true = refl
    or_true false = refl

all_due : (all pre xs : List Row) → all ≡ pre ++ xs → All IsIndexed xs → filter (is_due [] all) xs ≡ xs
all_due all pre [] whole h = refl
all_due all pre (x ∷ xs) whole h =
    let here : is_known all (index_of x) ≡ true = ap (λ l. is_known l (index_of x)) whole ∙ own_known pre xs x (index_of x) refl (All-head IsIndexed x xs h) in
    let due : is_due [] all x ≡ true = by (index_of x) (is_known all (index_of x)) here in
    (λ i. cond (due i) (x ∷ filter (is_due [] all) xs) (filter (is_due [] all) xs))
    ∙ ap (λ (l : List Row). x ∷ l) (all_due all (pre ++ x ∷ []) xs (whole ∙ sym (append_assoc pre (x ∷ []) xs)) (All-tail IsIndexed x xs h))
  where
    by : (o : Option ℕ) (b : Bool) → b ≡ true → (not (is_known [] o) && b) ≡ true
    by None b e = e
    by (Some k) b e = e

-- the instances of a device: those of its interfaces, and the others
pub each_once : (device : List Row) → IsPermutation device (flat_map (λ i. i) (interfaces device) ++ others device)
each_once device =
    let all = placed device in
    let due = all_due all [] all refl (indexed device 0 device) in
    let grouped : IsPermutation all (flat_map (λ i. i) (interfaces device)) = subst (λ l. IsPermutation l (flat_map (λ i. i) (interfaces device))) due (shared all [] all refl) in
    IsPermutation-trans device (all ++ others device) (flat_map (λ i. i) (interfaces device) ++ others device) (parted device 0 device)
    (IsPermutation-append_left (others device) all (flat_map (λ i. i) (interfaces device)) grouped)
