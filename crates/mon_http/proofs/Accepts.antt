-- Parts of a text, and lists of media ranges.
use Rattle.std.proofs.Common.{◌≡◌, ◌≢◌, ℕ, zero, suc, ◌+◌, ◌<◌, Bool, true, false, cond, ◌&&◌, ◌||◌, not, List, [], ◌∷◌, ◌++◌, map, length, get_or, take, drop, fold, sym, refl, ap, ◌∙◌, arith}
use Rattle.std.specs.Prelude.{codes, flat_map}
use Rattle.std.specs.List.{list_all}
use Rattle.std.proofs.lemmas.Bool.{eq-eqb, ne_eqb}
use Rattle.std.proofs.lemmas.List.{map-append}
use Rattle.std.proofs.lemmas.List.Sums.{fold-append}
use Rattle.std.proofs.lemmas.List.Folds.{list_all-append}
use Rattle.httparse.specs.Grammar.{trim_ows}
use Rattle.http1.specs.Fields.{Header, cons_first, is_named}
use Rattle.mon_http.specs.declared.accept.Exposition.{Exposition}
use Rattle.mon_http.specs.declared.accept.Preference.{Preference}
use Rattle.mon_http.specs.Accept.{accepted, decisive, is_element, parts, pieces, preference_for}

-- the first piece ends at the first such octet
pieces_at : (end : ℕ) (xs : List ℕ) (i : ℕ) → i < length xs → get_or xs i 0 ≡ end → ((k : ℕ) → k < i → get_or xs k 0 ≢ end)
    → pieces end xs ≡ take i xs ∷ pieces end (drop (suc i) xs)
pieces_at end [] i inside here before = absurd (omega arith)
pieces_at end (b ∷ bs) zero inside here before =
    ap (λ t. cond t ([] ∷ pieces end bs) (cons_first b (pieces end bs))) (eq-eqb b end here)
pieces_at end (b ∷ bs) (suc i) inside here before =
    ap (λ t. cond t ([] ∷ pieces end bs) (cons_first b (pieces end bs))) (ne_eqb b end (before 0 (omega arith)))
    ∙ ap (cons_first b) (pieces_at end bs i (omega arith) here (λ k below. before (suc k) (omega arith)))

pieces_whole : (end : ℕ) (xs : List ℕ) → ((k : ℕ) → k < length xs → get_or xs k 0 ≢ end) → pieces end xs ≡ xs ∷ []
pieces_whole end [] none = refl
pieces_whole end (b ∷ bs) none =
    ap (λ t. cond t ([] ∷ pieces end bs) (cons_first b (pieces end bs))) (ne_eqb b end (none 0 (omega arith)))
    ∙ ap (cons_first b) (pieces_whole end bs (λ k below. none (suc k) (omega arith)))

pub parts_at : (end : ℕ) (xs : List ℕ) (i : ℕ) → i < length xs → get_or xs i 0 ≡ end → ((k : ℕ) → k < i → get_or xs k 0 ≢ end)
    → parts end xs ≡ trim_ows (take i xs) ∷ parts end (drop (suc i) xs)
unfolding parts
parts_at end xs i inside here before = ap (map trim_ows) (pieces_at end xs i inside here before)

pub parts_whole : (end : ℕ) (xs : List ℕ) → ((k : ℕ) → k < length xs → get_or xs k 0 ≢ end) → parts end xs ≡ trim_ows xs ∷ []
unfolding parts
parts_whole end xs none = ap (map trim_ows) (pieces_whole end xs none)

-- the elements of one field more
pub all_of_more : (h : Header) (hs : List Header)
    → list_all is_element (accepted (h ∷ hs))
    ≡ ((not (is_named (codes "accept") h) || list_all is_element (parts 44 h.1)) && list_all is_element (accepted hs))
all_of_more h hs = at (is_named (codes "accept") h)
  where
    at : (b : Bool) → list_all is_element (cond b (parts 44 h.1) [] ++ accepted hs)
        ≡ ((not b || list_all is_element (parts 44 h.1)) && list_all is_element (accepted hs))
    at true = list_all-append is_element (parts 44 h.1) (accepted hs)
    at false = refl

pub preference_of_more : (so_far : Preference) (format : Exposition) (h : Header) (hs : List Header)
    → fold decisive so_far (map (preference_for format) (accepted (h ∷ hs)))
    ≡ fold decisive (cond (is_named (codes "accept") h) (fold decisive so_far (map (preference_for format) (parts 44 h.1))) so_far)
    (map (preference_for format) (accepted hs))
preference_of_more so_far format h hs = at (is_named (codes "accept") h)
  where
    at : (b : Bool) → fold decisive so_far (map (preference_for format) (cond b (parts 44 h.1) [] ++ accepted hs))
        ≡ fold decisive (cond b (fold decisive so_far (map (preference_for format) (parts 44 h.1))) so_far) (map (preference_for format) (accepted hs))
    at true =
        ap (fold decisive so_far) (map-append (preference_for format) (parts 44 h.1) (accepted hs))
        ∙ fold-append decisive so_far (map (preference_for format) (parts 44 h.1)) (map (preference_for format) (accepted hs))
    at false = refl
