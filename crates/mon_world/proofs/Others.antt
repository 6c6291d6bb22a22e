-- The numbers of the other stations.
use Rattle.std.proofs.Common.{ℕ, zero, suc, ◌≡◌, ◌≢◌, ◌≤◌, ◌<◌, ◌+◌, ◌-◌, ◌⊎◌, inl, inr, true, false, List, [], ◌∷◌, ◌++◌, length, get_or, Some, refl, sym, ◌∙◌, subst, arith, length-append}
use Rattle.std.specs.Prelude.{◌==◌, if◌then◌else◌, All, AllPairs}
use Rattle.std.proofs.Math.ListN.{get_or-append}
use Rattle.std.proofs.Math.Seq.{get_or-append_seam}
use Rattle.std.proofs.lemmas.Bool.{cases_Bool, cases_lt, eq-eqb, eqb-true, ne_eqb}
use Rattle.std.proofs.lemmas.List.Quantifiers.{position-Some}
use Rattle.mon_config.specs.StationCore.{ArePeersOf}
use Rattle.mon_station.specs.Verdict.{slot_of}
use Rattle.mon_world.specs.Places.{IsNumberTo, others_to}

-- numbers below, none of which is x, and none twice
record AreOthers (x n : ℕ) (xs : List ℕ) : Type 0 where
  positive : All (λ a. 1 ≤ a) xs
  below : All (λ a. a ≤ n) xs
  others : All (λ a. a ≢ x) xs
  distinct : AllPairs (λ a b. a ≢ b) xs

get_cases : (xs : List ℕ) (y i d : ℕ) → i < length (xs ++ y ∷ []) → ((i < length xs) × (get_or (xs ++ y ∷ []) i d ≡ get_or xs i d)) ⊎ ((i ≡ length xs) × (get_or (xs ++ y ∷ []) i d ≡ y))
get_cases xs y i d lt = elim (cases_lt i (length xs)) [
  | inl less ↦ inl (less, get_or-append xs (y ∷ []) d i less)
  | inr past ↦
      let same : i ≡ length xs = omega (arith, past, lt, length-append xs (y ∷ [])) in
      inr (same, subst (λ j. get_or (xs ++ y ∷ []) j d ≡ y) (sym same) (get_or-append_seam xs y [] d))
]

all_more : (P : ℕ → Type 0) (xs : List ℕ) (y : ℕ) → All P xs → P y → All P (xs ++ y ∷ [])
all_more P xs y all one i d lt = elim (get_cases xs y i d lt) [
  | inl before ↦ subst P (sym before.1) (all i d before.0)
  | inr last ↦ subst P (sym last.1) one
]

one_more : (x n : ℕ) (xs : List ℕ) → AreOthers x n xs → suc n ≢ x → AreOthers x (suc n) (xs ++ suc n ∷ [])
one_more x n xs are other = record {
  positive = all_more (λ a. 1 ≤ a) xs (suc n) are.positive (omega arith);
  below = all_more (λ a. a ≤ suc n) xs (suc n) (λ i d lt. omega (arith, are.below i d lt)) (omega arith);
  others = all_more (λ a. a ≢ x) xs (suc n) are.others other;
  distinct = pairs;
}
  where
    pairs : AllPairs (λ a b. a ≢ b) (xs ++ suc n ∷ [])
    pairs i j d lt within = elim (get_cases xs (suc n) j d within) [
      | inl before ↦
          let less : i < length xs = omega (arith, lt, before.0) in
          λ e. are.distinct i j d lt before.0 (sym (get_or-append xs (suc n ∷ []) d i less) ∙ e ∙ before.1)
      | inr last ↦
          let less : i < length xs = omega (arith, lt, last.0) in
          λ e. omega (arith, are.below i d less, sym (get_or-append xs (suc n ∷ []) d i less) ∙ e ∙ last.1)
    ]

others_are : (x n : ℕ) → AreOthers x n (others_to x n)
others_are x zero = record { positive = λ i d lt. absurd (omega (arith, lt)); below = λ i d lt. absurd (omega (arith, lt)); others = λ i d lt. absurd (omega (arith, lt)); distinct = λ i j d lt within. absurd (omega (arith, within)) }
others_are x (suc n) = elim (cases_Bool (suc n == x)) [
  | inl is ↦
      let were = others_are x n in
      rw is (record { positive = were.positive; below = λ i d lt. omega (arith, were.below i d lt); others = were.others; distinct = were.distinct })
  | inr not ↦ rw not (one_more x n (others_to x n) (others_are x n) (λ e. let test : (suc n == x) ≡ true = eq-eqb (suc n) x e in cc))
]

-- beyond the number all are others, and it is one less from it on
others_all : (x n : ℕ) → n < x → length (others_to x n) ≡ n
others_all x zero lt = refl
others_all x (suc n) lt =
    let not : (suc n == x) ≡ false = ne_eqb (suc n) x (λ e. omega (arith, e, lt)) in
    rw not (omega (arith, length-append (others_to x n) (suc n ∷ []), others_all x n (omega (arith, lt))))

others_fewer : (x n : ℕ) → 1 ≤ x → x ≤ n → length (others_to x n) + 1 ≡ n
others_fewer x zero le up = absurd (omega (arith, le, up))
others_fewer x (suc n) le up = elim (cases_Bool (suc n == x)) [
  | inl is ↦
      let here : x ≡ suc n = sym (eqb-true (suc n) x is) in
      rw is (omega (arith, others_all x n (omega (arith, here))))
  | inr not ↦
      let differs : (suc n ≡ x → ⊥) = λ e. (let test : (suc n == x) ≡ true = eq-eqb (suc n) x e in cc) in
      rw not (omega (arith, length-append (others_to x n) (suc n ∷ []), others_fewer x n le (omega (arith, up, differs))))
]

pub peers_of_station : (x n : ℕ) → 1 ≤ x → x ≤ n → n ≤ 16 → ArePeersOf x (others_to x n)
peers_of_station x n le up few =
    let are = others_are x n in
    record { few = omega (arith, others_fewer x n le up, few); others = are.others; distinct = are.distinct }

-- a station that has a slot is one of them
pub peer_number : (x n y k : ℕ) → slot_of (others_to x n) y ≡ Some k → IsNumberTo n y
peer_number x n y k is =
    let place = position-Some (λ number. number == y) (others_to x n) k 0 is in
    let same : get_or (others_to x n) k 0 ≡ y = eqb-true _ y place.1 in
    let are = others_are x n in
    (subst (λ z. 1 ≤ z) same (are.positive k 0 place.0), subst (λ z. z ≤ n) same (are.below k 0 place.0))

-- one number further
pub others_next : (x k : ℕ) → 1 ≤ k → others_to x (k + 1 - 1) ≡ (if k == x then others_to x (k - 1) else others_to x (k - 1) ++ k ∷ [])
others_next x zero le = absurd (omega (arith, le))
others_next x (suc n) le =
    let same : suc n + 1 - 1 ≡ suc n = omega arith in
    let less : suc n - 1 ≡ n = omega arith in
    rw (same, less) refl
