-- Lists changed place by place, and lists of numbered elements.
use Rattle.std.proofs.Common.{◌≡◌, ◌≢◌, ℕ, suc, ◌+◌, ◌<◌, ◌≤◌, List, [], ◌∷◌, ◌++◌, length, get_or, set, take, map, refl, sym, ap, ◌∙◌, arith}
use Rattle.std.proofs.lemmas.List.{get_or_default, get_or-set_other, length-set, length-take, map_more, take_all, take_more, take_more_set}
use Rattle.mon_rounds.specs.Freshness.{numbered}

-- what is below i was changed by f, and what comes from there on was not
pub record AreMappedTo {X : Type 0} (f : X → X) (old new : List X) (i : ℕ) : Type 0 where
  pub number : length new ≡ length old
  pub front : take i new ≡ map f (take i old)
  pub back : (j : ℕ) (d : X) → i ≤ j → get_or new j d ≡ get_or old j d

module _ {X : Type 0} (f : X → X) (old : List X) where
  pub none_mapped : AreMappedTo f old old 0
  none_mapped = record { number = refl; front = refl; back = λ j d le. refl }

  pub all_mapped : (new : List X) (i : ℕ) → AreMappedTo f old new i → length old ≤ i → new ≡ map f old
  all_mapped new i are le =
      sym (take_all i new (omega (arith, are.number, le))) ∙ are.front ∙ ap (map f) (take_all i old le)

  pub one_mapped : (new : List X) (i : ℕ) (x y : X) → AreMappedTo f old new i → i < length new → x ≡ get_or new i x → y ≡ f x → AreMappedTo f old (set new i y) (i + 1)
  one_mapped new i x y are lt was is =
      let here : x ≡ get_or old i x = was ∙ are.back i x (omega arith) in
      record {
        number = length-set new i y ∙ are.number;
        front = take_more_set new i y lt ∙ (λ k. are.front k ++ (is ∙ ap f here) k ∷ []) ∙ sym (map_more f old i x (omega (arith, lt, are.number)));
        back = λ j d le. let ne : j ≢ i = (λ e. absurd (omega (arith, e))) in get_or-set_other new i j y d ne ∙ are.back j d (omega arith);
      }

  -- one more is mapped, where the element at i is read with any default
  pub one_mapped_at : (new : List X) (i : ℕ) (d y : X) → AreMappedTo f old new i → i < length new → y ≡ f (get_or new i d) → AreMappedTo f old (set new i y) (i + 1)
  one_mapped_at new i d y are lt is = one_mapped new i (get_or new i d) y are lt (sym (get_or_default new i (get_or new i d) d lt)) is

-- ---- numbered elements
numbered_push : {X Y : Type 0} (f : ℕ → X → Y) (n : ℕ) (xs : List X) (x : X) → numbered f n (xs ++ x ∷ []) ≡ numbered f n xs ++ f (n + length xs) x ∷ []
numbered_push f n [] x = let at : n ≡ n + 0 = omega arith in ap (λ k. f k x ∷ []) at
numbered_push f n (z ∷ xs) x =
    let at : (n + 1) + length xs ≡ n + suc (length xs) = omega arith in
    ap (λ l. f n z ∷ l) (numbered_push f (n + 1) xs x ∙ ap (λ k. numbered f (n + 1) xs ++ f k x ∷ []) at)

-- one more, of the number of its place
pub numbered_more : {X Y : Type 0} (f : ℕ → X → Y) (xs : List X) (i : ℕ) (d : X) → i < length xs
    → numbered f 0 (take (i + 1) xs) ≡ numbered f 0 (take i xs) ++ f i (get_or xs i d) ∷ []
numbered_more f xs i d lt =
    let at : 0 + length (take i xs) ≡ i = grind (arith, length-take) in
    ap (numbered f 0) (take_more xs i d lt) ∙ numbered_push f 0 (take i xs) (get_or xs i d) ∙ ap (λ k. numbered f 0 (take i xs) ++ f k (get_or xs i d) ∷ []) at

pub numbered_all : {X Y : Type 0} (f : ℕ → X → Y) (xs : List X) (n : ℕ) → length xs ≤ n → numbered f 0 (take n xs) ≡ numbered f 0 xs
numbered_all f xs n le = ap (numbered f 0) (take_all n xs le)

-- one more element, of a function of the numbers only
pub numbers_more : {X Y : Type 0} (g : ℕ → Y) (xs : List X) (i : ℕ) → i < length xs
    → numbered (λ n x. g n) 0 (take (i + 1) xs) ≡ numbered (λ n x. g n) 0 (take i xs) ++ g i ∷ []
numbers_more g [] i lt = absurd (omega arith)
numbers_more g (x ∷ xs) i lt = numbered_more (λ n z. g n) (x ∷ xs) i x lt
