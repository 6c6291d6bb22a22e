-- Heads among the octets: what more octets change, and what they do not.
use native.Mathlib.Omega.{arith}
use Rattle.std.proofs.Common.{◌≡◌, ◌≤◌, ◌<◌, ◌+◌, ◌∙◌, ap, sym, subst, refl, ℕ, suc, Bool, true, false, ◌&&◌, ◌==◌, List, [], ◌∷◌, ◌++◌, Option, Some, None, option_map, length, drop, get_or, cond}
use Rattle.std.proofs.lemmas.List.{drop_more, append-nil, append_assoc, drop-append-le, length-append, length-drop}
use Rattle.mon_http.specs.Front.{head_length, blank_after, skip_line_ends, is_line_end}
use Rattle.mon_http.specs.Scan.{after, IsScanned}

-- a place behind n + 1 octets is one behind one more than n
pub after_next : (n : ℕ) (place : Option ℕ) → after n (option_map (λ k. k + 1) place) ≡ after (n + 1) place
after_next n None = refl
after_next n (Some k) = ap (λ m. Some m) (omega arith)

pub after_zero : (place : Option ℕ) → place ≡ after 0 place
after_zero None = refl
after_zero (Some k) = ap (λ m. Some m) (omega arith)

-- the search at an octet
pub head_at : (blank : Bool) (octet : ℕ) (rest : List ℕ) → ((octet == 10) && blank) ≡ false
    → head_length blank (octet ∷ rest) ≡ option_map (λ n. n + 1) (head_length (blank_after blank octet) rest)
head_at blank octet rest other =
    ap (λ (b : Bool). cond b (Some 1) (option_map (λ n. n + 1) (head_length (blank_after blank octet) rest))) other

pub head_here : (blank : Bool) (octet : ℕ) (rest : List ℕ) → ((octet == 10) && blank) ≡ true
    → head_length blank (octet ∷ rest) ≡ Some 1
head_here blank octet rest same =
    ap (λ (b : Bool). cond b (Some 1) (option_map (λ n. n + 1) (head_length (blank_after blank octet) rest))) same

pub split_at : (octets more : List ℕ) (i : ℕ) → i < length octets
    → drop i octets ++ more ≡ get_or octets i 0 ∷ (drop (i + 1) octets ++ more)
split_at octets more i here = ap (λ s. s ++ more) (drop_more octets i 0 here)

-- one step of the search
pub scanned_more : (octets : List ℕ) (i : ℕ) (blank : Bool) → i < length octets → ((get_or octets i 0 == 10) && blank) ≡ false
    → IsScanned octets i blank → IsScanned octets (i + 1) (blank_after blank (get_or octets i 0))
scanned_more octets i blank here other scanned more =
    let octet = get_or octets i 0 in
    let rest = drop (i + 1) octets ++ more in
    scanned more ∙ ap (λ s. after i (head_length blank s)) (split_at octets more i here)
    ∙ ap (after i) (head_at blank octet rest other) ∙ after_next i (head_length (blank_after blank octet) rest)

-- the end is found
pub scanned_end : (octets : List ℕ) (i : ℕ) (blank : Bool) → i < length octets → ((get_or octets i 0 == 10) && blank) ≡ true
    → IsScanned octets i blank → head_length false octets ≡ Some (i + 1)
scanned_end octets i blank here same scanned =
    ap (head_length false) (sym (append-nil octets)) ∙ scanned [] ∙ ap (λ s. after i (head_length blank s)) (split_at octets [] i here)
    ∙ ap (after i) (head_here blank (get_or octets i 0) (drop (i + 1) octets ++ []) same)

pub drop_all : (octets : List ℕ) → drop (length octets) octets ≡ []
drop_all [] = refl
drop_all (x ∷ octets) = drop_all octets

-- no end is found
pub scanned_all : (octets : List ℕ) (blank : Bool) → IsScanned octets (length octets) blank → head_length false octets ≡ None
scanned_all octets blank scanned =
    ap (head_length false) (sym (append-nil octets)) ∙ scanned []
    ∙ ap (λ s. after (length octets) (head_length blank (s ++ []))) (drop_all octets)

pub scanned_start : (octets : List ℕ) → IsScanned octets 0 false
scanned_start octets more = after_zero (head_length false (octets ++ more))

pub scanned_append : (octets others : List ℕ) (n : ℕ) (blank : Bool) → n ≤ length octets → IsScanned octets n blank
    → IsScanned (octets ++ others) n blank
scanned_append octets others n blank here scanned more =
    ap (head_length false) (append_assoc octets others more) ∙ scanned (others ++ more)
    ∙ ap (λ s. after n (head_length blank s)) (sym (append_assoc (drop n octets) others more))
    ∙ ap (λ s. after n (head_length blank (s ++ more))) (sym (drop-append-le n octets others here))

-- a head that ends within the octets ends there whatever follows
pub head_append : (blank : Bool) (octets more : List ℕ) (n : ℕ) → head_length blank octets ≡ Some n → head_length blank (octets ++ more) ≡ Some n
head_append blank [] more n e = cc
head_append blank (octet ∷ octets) more n e =
    append_at ((octet == 10) && blank) (head_length (blank_after blank octet) octets) (head_length (blank_after blank octet) (octets ++ more)) n
    (λ k h. head_append (blank_after blank octet) octets more k h) e
  where
    append_at : (b : Bool) (o p : Option ℕ) (n : ℕ) → ((k : ℕ) → o ≡ Some k → p ≡ Some k)
        → cond b (Some 1) (option_map (λ k. k + 1) o) ≡ Some n → cond b (Some 1) (option_map (λ k. k + 1) p) ≡ Some n
    append_at true o p n same e = e
    append_at false None p n same e = cc
    append_at false (Some k) p n same e = ap (option_map (λ k. k + 1)) (same k refl) ∙ e

-- and within them
pub head_within : (blank : Bool) (octets : List ℕ) (n : ℕ) → head_length blank octets ≡ Some n → n ≤ length octets
head_within blank [] n e = cc
head_within blank (octet ∷ octets) n e =
    within_at ((octet == 10) && blank) (head_length (blank_after blank octet) octets) n (length octets)
    (λ k h. head_within (blank_after blank octet) octets k h) e
  where
    within_at : (b : Bool) (o : Option ℕ) (n len : ℕ) → ((k : ℕ) → o ≡ Some k → k ≤ len)
        → cond b (Some 1) (option_map (λ k. k + 1) o) ≡ Some n → n ≤ suc len
    within_at true o n len below e = let one : 1 ≡ n = cc in omega arith
    within_at false None n len below e = cc
    within_at false (Some k) n len below e =
        let low : k ≤ len = below k refl in
        let same : k + 1 ≡ n = cc in omega arith

pub skip_length : (octets : List ℕ) → length (skip_line_ends octets) ≤ length octets
skip_length [] = omega arith
skip_length (octet ∷ octets) =
    let below : length (skip_line_ends octets) ≤ length octets = skip_length octets in
    elim (is_line_end octet) as (λ b. length (cond b (skip_line_ends octets) (octet ∷ octets)) ≤ suc (length octets))
    [ true ↦ omega arith | false ↦ omega arith ]

pub skip_again : (octets : List ℕ) → skip_line_ends (skip_line_ends octets) ≡ skip_line_ends octets
skip_again [] = refl
skip_again (octet ∷ octets) = again_at (is_line_end octet) refl (skip_again octets)
  where
    again_at : (b : Bool) → is_line_end octet ≡ b → skip_line_ends (skip_line_ends octets) ≡ skip_line_ends octets
        → skip_line_ends (cond b (skip_line_ends octets) (octet ∷ octets)) ≡ cond b (skip_line_ends octets) (octet ∷ octets)
    again_at true e rest = rest
    again_at false e rest = ap (λ (b : Bool). cond b (skip_line_ends octets) (octet ∷ octets)) e

-- empty lines at the front are skipped also where more octets follow
pub skip_append : (octets more : List ℕ) → skip_line_ends (skip_line_ends octets ++ more) ≡ skip_line_ends (octets ++ more)
skip_append [] more = refl
skip_append (octet ∷ octets) more = append_at (is_line_end octet) refl (skip_append octets more)
  where
    append_at : (b : Bool) → is_line_end octet ≡ b → skip_line_ends (skip_line_ends octets ++ more) ≡ skip_line_ends (octets ++ more)
        → skip_line_ends (cond b (skip_line_ends octets) (octet ∷ octets) ++ more) ≡ cond b (skip_line_ends (octets ++ more)) (octet ∷ octets ++ more)
    append_at true e rest = rest
    append_at false e rest = ap (λ (b : Bool). cond b (skip_line_ends (octets ++ more)) (octet ∷ octets ++ more)) e

-- octets at whose front nothing is skipped stay as they are where more follow
pub skip_kept : (octets more : List ℕ) → skip_line_ends octets ≡ octets → 0 < length octets
    → skip_line_ends (octets ++ more) ≡ octets ++ more
skip_kept [] more e some = absurd (omega arith)
skip_kept (octet ∷ octets) more e some = kept_at (is_line_end octet) refl e
  where
    kept_at : (b : Bool) → is_line_end octet ≡ b → cond b (skip_line_ends octets) (octet ∷ octets) ≡ octet ∷ octets
        → cond (is_line_end octet) (skip_line_ends (octets ++ more)) (octet ∷ octets ++ more) ≡ octet ∷ octets ++ more
    kept_at true e f = absurd (omega (arith, skip_length octets, ap length f))
    kept_at false e f = ap (λ (b : Bool). cond b (skip_line_ends (octets ++ more)) (octet ∷ octets ++ more)) e

-- nothing is left to be skipped after skipping, whatever follows
pub skip_empty : (octets more : List ℕ) → skip_line_ends octets ≡ octets → length octets ≡ 0 → skip_line_ends (octets ++ more) ≡ skip_line_ends more
skip_empty [] more e none = refl
skip_empty (octet ∷ octets) more e none = absurd (omega arith)

-- what was searched stays searched where more octets come
pub scanned_received : (octets more : List ℕ) (n : ℕ) (blank : Bool) → skip_line_ends octets ≡ octets → n ≤ length octets
    → IsScanned octets n blank → IsScanned (skip_line_ends (octets ++ more)) n blank
scanned_received [] more n blank front here scanned = scanned_append [] (skip_line_ends more) n blank here scanned
scanned_received (octet ∷ octets) more n blank front here scanned =
    subst (λ (s : List ℕ). IsScanned s n blank) (sym (skip_kept (octet ∷ octets) more front (omega arith)))
    (scanned_append (octet ∷ octets) more n blank here scanned)

pub length_received : (octets more : List ℕ) (n : ℕ) → skip_line_ends octets ≡ octets → n ≤ length octets
    → n ≤ length (skip_line_ends (octets ++ more))
length_received [] more n front here = omega arith
length_received (octet ∷ octets) more n front here =
    omega (arith, ap length (skip_kept (octet ∷ octets) more front (omega arith)), length-append (octet ∷ octets) more)

pub bound_received : (octets more : List ℕ) (n : ℕ) → length octets + length more ≤ n → length (skip_line_ends (octets ++ more)) ≤ n
bound_received octets more n small = omega (arith, skip_length (octets ++ more), length-append octets more)

pub bound_removed : (octets : List ℕ) (len n : ℕ) → length octets ≤ n → length (skip_line_ends (drop len octets)) ≤ n
bound_removed octets len n small = omega (arith, skip_length (drop len octets), length-drop len octets)
