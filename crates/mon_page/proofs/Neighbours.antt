-- The devices of instances, one after another, are the instances.
use Rattle.std.proofs.Common.{◌≡◌, ◌∙◌, ℕ, suc, ◌+◌, ◌-◌, ◌≤◌, ◌==◌, nat_lt, Bool, true, false, not, List, [], ◌∷◌, ◌++◌, Some, None, take, slice_get, ap, sym, refl, append_assoc, length, cond, length-append, bytes_eq, arith}
use Rattle.std.specs.List.{flat_map, position_or_len}
use Rattle.std.proofs.lemmas.Bool.Decides.{nat_tests}
use Rattle.std.proofs.lemmas.List.{take_all}
use Rattle.std.proofs.lemmas.Slice.Eq.{bytes_eq-Decides}
use Rattle.mon_page.specs.Rows.{Row}
use Rattle.mon_page.specs.Devices.{begins, cut, device_at, devices, devices_from, row_before}

-- instances without the first ones, as far as they are of this engine id
abbrev after : List ℕ → List Row → List Row
after e [] = []
after e (r ∷ rs) = cond (bytes_eq r.entry.engine e) (after e rs) (r ∷ rs)

-- those first ones
abbrev leading : List ℕ → List Row → List Row
leading e [] = []
leading e (r ∷ rs) = cond (bytes_eq r.entry.engine e) (r ∷ leading e rs) []

both : (e : List ℕ) (rs : List Row) → leading e rs ++ after e rs ≡ rs
both e [] = refl
both e (r ∷ rs) = by (bytes_eq r.entry.engine e) (both e rs) where
  by : (b : Bool) → leading e rs ++ after e rs ≡ rs → cond b (r ∷ leading e rs) [] ++ cond b (after e rs) (r ∷ rs) ≡ r ∷ rs
  by true h = ap (λ (l : List Row). r ∷ l) h
  by false h = refl

-- a test that an engine id is another
abbrev is_other : List ℕ → Row → Bool
is_other e r = not (bytes_eq r.entry.engine e)

taken : (e : List ℕ) (rs : List Row) → take (position_or_len (is_other e) rs) rs ≡ leading e rs
taken e [] = refl
taken e (r ∷ rs) = by (bytes_eq r.entry.engine e) (taken e rs) where
  more : (n : ℕ) → 1 + n ≡ suc n
  more n = omega arith

  by : (b : Bool) → take (position_or_len (is_other e) rs) rs ≡ leading e rs
      → take (cond (not (not b)) (1 + position_or_len (is_other e) rs) 0) (r ∷ rs) ≡ cond b (r ∷ leading e rs) []
  by true h = ap (λ n. take n (r ∷ rs)) (more (position_or_len (is_other e) rs)) ∙ ap (λ (l : List Row). r ∷ l) h
  by false h = refl

not_less : (n m : ℕ) → nat_lt n m ≡ false → m ≤ n
not_less n m e = grind (arith, nat_tests)

cut_is : (n : ℕ) (rs : List Row) → cut (cond (nat_lt n (length rs)) (Some n) None) rs ≡ take n rs
cut_is n rs = by (nat_lt n (length rs)) refl where
  by : (b : Bool) → nat_lt n (length rs) ≡ b → cut (cond b (Some n) None) rs ≡ take n rs
  by true e = refl
  by false e = sym (take_all n rs (not_less n (length rs) e))

device_is : (e : List ℕ) (rs : List Row) → device_at e rs ≡ leading e rs
device_is e rs = cut_is (position_or_len (is_other e) rs) rs ∙ taken e rs

-- equal engine ids
own_engine : (e : List ℕ) → bytes_eq e e ≡ true
own_engine e = (bytes_eq-Decides e e).1 refl

-- the row before a place
seam : (pre : List Row) (r : Row) (rs : List Row) → slice_get (pre ++ r ∷ rs) (length pre) ≡ Some r
seam [] r rs = refl
seam (x ∷ pre) r rs = seam pre r rs

not_first : (n : ℕ) → (n + 1 == 0) ≡ false
not_first n = grind (arith, nat_tests)

before_next : (pre : List Row) (r : Row) (rs : List Row) → row_before (length pre + 1) (pre ++ r ∷ rs) ≡ Some r
before_next pre r rs =
    (λ i. cond (not_first (length pre) i) None (slice_get (pre ++ r ∷ rs) (length pre + 1 - 1)))
    ∙ (let back : length pre + 1 - 1 ≡ length pre = omega arith in ap (slice_get (pre ++ r ∷ rs)) back)
    ∙ seam pre r rs

-- the devices after an instance have the instances after its device
one_more : (b r : Row) (rs D : List (Row)) (Ds : List (List Row)) (t : Bool) → bytes_eq b.entry.engine r.entry.engine ≡ t → flat_map (λ d. d) Ds ≡ after r.entry.engine rs
    → flat_map (λ d. d) (cond (not t) (device_at r.entry.engine (r ∷ rs) ∷ Ds) Ds) ≡ after b.entry.engine (r ∷ rs)
one_more b r rs D Ds true same rest =
    let engines : b.entry.engine ≡ r.entry.engine = (bytes_eq-Decides b.entry.engine r.entry.engine).0 same in
    rest ∙ (λ i. after (sym engines i) rs)
    ∙ (λ i. cond (sym ((λ j. bytes_eq r.entry.engine (engines j)) ∙ own_engine r.entry.engine) i) (after b.entry.engine rs) (r ∷ rs))
one_more b r rs D Ds false other rest =
    let apart : bytes_eq r.entry.engine b.entry.engine ≡ false = no_equal (bytes_eq r.entry.engine b.entry.engine) refl in
    (λ i. device_is r.entry.engine (r ∷ rs) i ++ rest i)
    ∙ whole
    ∙ (λ i. cond (sym apart i) (after b.entry.engine rs) (r ∷ rs))
  where
    no_equal : (t : Bool) → bytes_eq r.entry.engine b.entry.engine ≡ t → t ≡ false
    no_equal false e = refl
    no_equal true e = sym ((bytes_eq-Decides b.entry.engine r.entry.engine).1 (sym ((bytes_eq-Decides r.entry.engine b.entry.engine).0 e))) ∙ other

    whole : leading r.entry.engine (r ∷ rs) ++ after r.entry.engine rs ≡ r ∷ rs
    whole = (λ i. leading r.entry.engine (r ∷ rs) ++ cond (sym (own_engine r.entry.engine) i) (after r.entry.engine rs) (r ∷ rs)) ∙ both r.entry.engine (r ∷ rs)

rest_is : (rows pre rest : List Row) (b : Row) → rows ≡ pre ++ rest → row_before (length pre) rows ≡ Some b
    → flat_map (λ d. d) (devices_from rows (length pre) rest) ≡ after b.entry.engine rest
rest_is rows pre [] b whole before = refl
rest_is rows pre (r ∷ rs) b whole before =
    let next : pre ++ r ∷ rs ≡ (pre ++ r ∷ []) ++ rs = sym (append_assoc pre (r ∷ []) rs) in
    let place : length (pre ++ r ∷ []) ≡ length pre + 1 = length-append pre (r ∷ []) in
    let last : row_before (length (pre ++ r ∷ [])) rows ≡ Some r = (λ i. row_before (place i) (whole i)) ∙ before_next pre r rs in
    let later = rest_is rows (pre ++ r ∷ []) rs r (whole ∙ next) last in
    let Ds = devices_from rows (length pre + 1) rs in
    let rest : flat_map (λ d. d) Ds ≡ after r.entry.engine rs = (λ i. flat_map (λ d. d) (devices_from rows (sym place i) rs)) ∙ later in
    (λ i. flat_map (λ d. d) (cond (begins (before i) r) (device_at r.entry.engine (r ∷ rs) ∷ Ds) Ds))
    ∙ one_more b r rs [] Ds (bytes_eq b.entry.engine r.entry.engine) refl rest

pub one_after_another : (rows : List Row) → flat_map (λ d. d) (devices rows) ≡ rows
one_after_another [] = refl
one_after_another (r ∷ rs) =
    let last : row_before 1 (r ∷ rs) ≡ Some r = before_next [] r rs in
    (λ i. device_is r.entry.engine (r ∷ rs) i ++ rest_is (r ∷ rs) (r ∷ []) rs r refl last i)
    ∙ (λ i. leading r.entry.engine (r ∷ rs) ++ cond (sym (own_engine r.entry.engine) i) (after r.entry.engine rs) (r ∷ rs))
    ∙ both r.entry.engine (r ∷ rs)
