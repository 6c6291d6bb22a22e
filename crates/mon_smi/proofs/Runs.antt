-- Runs of bytes, and words, at the front of a text.
use Rattle.std.proofs.Common.{◌≡◌, ℕ, zero, suc, ◌+◌, ◌<◌, ◌≤◌, Bool, true, false, cond, List, [], ◌∷◌, ◌++◌, length, get_or, take, drop, sym, refl, ap, subst, arith, ⊎_elim, inl, inr}
use Rattle.std.specs.Prelude.{IsTrue, ◌&&◌, ◌==◌}
use Rattle.std.proofs.lemmas.Bool.{eqb-true}
use Rattle.std.proofs.lemmas.List.{take_at}
use Rattle.mon_smi.specs.Words.{is_part, GoesOn, IsWord}
use Rattle.mon_smi.specs.Tokens.{AreAll}
use Rattle.mon_smi.specs.Scan.{run_at, word_at, goes_on}
use Rattle.mon_smi.proofs.Scanned.{is_longest, ends}

-- both branches of a test have it
pub by_test : {A : Type 0} (P : A → Type 0) (t : Bool) (x y : A) → (t ≡ true → P x) → (t ≡ false → P y) → P (cond t x y)
by_test P true x y yes_case no_case = yes_case refl
by_test P false x y yes_case no_case = no_case refl

pub run_within : (test : ℕ → Bool) (text : List ℕ) → run_at test text ≤ length text
run_within test [] = omega arith
run_within test (b ∷ bs) =
    let more : run_at test bs ≤ length bs = run_within test bs in
    by_test (λ (n : ℕ). n ≤ length (b ∷ bs)) (test b) (suc (run_at test bs)) 0 (λ is. omega arith) (λ is. omega arith)

-- all of a run pass the test
pub run_all : (test : ℕ → Bool) (text : List ℕ) → AreAll test (take (run_at test text) text)
run_all test [] = tt
run_all test (b ∷ bs) = by_test (λ (n : ℕ). AreAll test (take n (b ∷ bs))) (test b) (suc (run_at test bs)) 0 (λ is. (is, run_all test bs)) (λ is. tt)

-- what follows doesn't begin with a byte that passes the test
abbrev pub Stops : (ℕ → Bool) → List ℕ → Type 0
Stops test [] = Unit {0}
Stops test (b ∷ bs) = test b ≡ false

pub run_stops : (test : ℕ → Bool) (text : List ℕ) → Stops test (drop (run_at test text) text)
run_stops test [] = tt
run_stops test (b ∷ bs) = by_test (λ (n : ℕ). Stops test (drop n (b ∷ bs))) (test b) (suc (run_at test bs)) 0 (λ is. run_stops test bs) (λ is. is)

-- a front of bytes that pass the test is within the run
pub run_longest : (test : ℕ → Bool) (front rest : List ℕ) → AreAll test front → length front ≤ run_at test (front ++ rest)
run_longest test [] rest all = omega arith
run_longest test (b ∷ bs) rest all = let more : length bs ≤ run_at test (bs ++ rest) = run_longest test bs rest all.1 in rw all.0 (omega arith)

-- and is the run where it stops behind it
pub run_front : (test : ℕ → Bool) (front rest : List ℕ) → AreAll test front → Stops test rest → run_at test (front ++ rest) ≡ length front
run_front test [] [] all stops = refl
run_front test [] (b ∷ bs) all stops = rw stops refl
run_front test (b ∷ bs) rest all stops = rw all.0 (ap suc (run_front test bs rest all.1 stops))

-- ---- words

goes_is : (b : ℕ) (bs : List ℕ) → IsTrue (goes_on (b ∷ bs)) → GoesOn (b ∷ bs) 0
goes_is b bs goes = go (is_part b) refl
  where
    go : (t : Bool) → is_part b ≡ t → GoesOn (b ∷ bs) 0
    go true is = inl is
    go false is =
        let both : (b == 45 && is_part (get_or bs 0 0)) ≡ true = rw is at goes in
        inr (parts (b == 45) (is_part (get_or bs 0 0)) refl both)
      where
        parts : (t u : Bool) → (b == 45) ≡ t → (t && u) ≡ true → (b ≡ 45) × (u ≡ true)
        parts true true e h = (eqb-true b 45 e, refl)
        parts true false e h = absurd (cc)
        parts false u e h = absurd (cc)

goes_again : (b : ℕ) (bs : List ℕ) → GoesOn (b ∷ bs) 0 → goes_on (b ∷ bs) ≡ true
goes_again b bs goes =
    ⊎_elim
    (λ part. let p : is_part b ≡ true = part in rw p refl)
    (λ hyphen. let at : b ≡ 45 = hyphen.0 in
    let part : is_part (get_or bs 0 0) ≡ true = hyphen.1 in
    subst (λ (x : ℕ). goes_on (x ∷ bs) ≡ true) (sym at) (rw part refl))
    goes

goes_tail : (b : ℕ) (bs : List ℕ) (i : ℕ) → GoesOn (b ∷ bs) (suc i) → GoesOn bs i
goes_tail b bs i goes =
    let more : suc i + 1 ≡ suc (i + 1) = omega arith in
    ⊎_elim (λ part. inl part)
    (λ hyphen. inr (hyphen.0, subst (λ k. IsTrue (is_part (get_or (b ∷ bs) k 0))) more hyphen.1))
    goes

goes_cons : (b : ℕ) (bs : List ℕ) (i : ℕ) → GoesOn bs i → GoesOn (b ∷ bs) (suc i)
goes_cons b bs i goes =
    let more : suc i + 1 ≡ suc (i + 1) = omega arith in
    ⊎_elim (λ part. inl part)
    (λ hyphen. inr (hyphen.0, subst (λ k. IsTrue (is_part (get_or (b ∷ bs) k 0))) (sym more) hyphen.1))
    goes

-- the places up to the first where a word doesn't go on
pub word_is : (text : List ℕ) (n : ℕ) → n ≤ length text → ((i : ℕ) → i < n → GoesOn text i) → (GoesOn text n → ⊥) → n ≡ word_at text
word_is [] zero within goes stops = refl
word_is [] (suc n) within goes stops = absurd (omega arith)
word_is (b ∷ bs) zero within goes stops = go (goes_on (b ∷ bs)) refl
  where
    go : (t : Bool) → goes_on (b ∷ bs) ≡ t → 0 ≡ cond t (suc (word_at bs)) 0
    go true is = absurd (stops (goes_is b bs is))
    go false is = refl
word_is (b ∷ bs) (suc n) within goes stops =
    rw (goes_again b bs (goes 0 (omega arith)))
    (ap suc (word_is bs n (omega arith) (λ i lt. goes_tail b bs i (goes (suc i) (omega arith))) (λ g. stops (goes_cons b bs n g))))

pub word_within : (text : List ℕ) → word_at text ≤ length text
word_within [] = omega arith
word_within (b ∷ bs) =
    let more : word_at bs ≤ length bs = word_within bs in
    by_test (λ (n : ℕ). n ≤ length (b ∷ bs)) (goes_on (b ∷ bs)) (suc (word_at bs)) 0 (λ is. omega arith) (λ is. omega arith)

pub word_goes : (text : List ℕ) (i : ℕ) → i < word_at text → GoesOn text i
word_goes [] i lt = absurd (omega arith)
word_goes (b ∷ bs) i lt =
    by_test (λ (n : ℕ). (k : ℕ) → k < n → GoesOn (b ∷ bs) k) (goes_on (b ∷ bs)) (suc (word_at bs)) 0
    (λ is k below. goes_up b bs k (goes_is b bs is) (λ j lower. word_goes bs j lower) (word_at bs) (λ j lower. lower) below)
    (λ is k below. absurd (omega arith))
    i lt
  where
    goes_up : (c : ℕ) (cs : List ℕ) (k : ℕ) → GoesOn (c ∷ cs) 0 → ((j : ℕ) → j < word_at cs → GoesOn cs j) → (n : ℕ) → ((j : ℕ) → j < n → j < word_at cs) → k < suc n → GoesOn (c ∷ cs) k
    goes_up c cs zero first more n fits below = first
    goes_up c cs (suc k) first more n fits below = goes_cons c cs k (more k (fits k (omega arith)))

pub word_stops : (text : List ℕ) → GoesOn text (word_at text) → ⊥
word_stops [] goes = ends [] 0 (omega arith) goes
word_stops (b ∷ bs) goes =
    by_test (λ (n : ℕ). GoesOn (b ∷ bs) n → ⊥) (goes_on (b ∷ bs)) (suc (word_at bs)) 0
    (λ is g. word_stops bs (goes_tail b bs (word_at bs) g))
    (λ is g. let yes_it_does : goes_on (b ∷ bs) ≡ true = goes_again b bs g in absurd (cc))
    goes

-- a word at the front is within the longest
pub word_longest : (w rest : List ℕ) → IsWord w → length w ≤ word_at (w ++ rest)
word_longest w rest word =
    is_longest (w ++ rest) (word_at (w ++ rest)) (length w) (word_stops (w ++ rest)) (fits w rest)
    (subst IsWord (sym (take_at w rest (length w) refl)) word)
  where
    fits : (a b : List ℕ) → length a ≤ length (a ++ b)
    fits [] b = omega arith
    fits (x ∷ a) b = let more : length a ≤ length (a ++ b) = fits a b in omega arith
