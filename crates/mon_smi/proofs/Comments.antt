-- Comments: what is passed as one is a comment, and a comment is passed.
use Rattle.std.proofs.Common.{◌≡◌, ℕ, suc, ◌+◌, ◌≤◌, Bool, true, false, List, [], ◌∷◌, ◌++◌, length, get_or, take, drop, sym, refl, ap, ◌∙◌, subst, arith, append_assoc, length-append, take-append-drop, length-take-le, ◌⊎◌, ⊎_elim, inl, inr}
use Rattle.std.specs.Prelude.{◌||◌, ◌&&◌, ◌==◌}
use Rattle.std.proofs.lemmas.Bool.{eqb-true}
use Rattle.std.proofs.lemmas.Bool.Decides.{nat_tests}
use Rattle.std.proofs.lemmas.List.{drop_at}
use Rattle.mon_smi.specs.Tokens.{AreAll, AreHyphens, is_hyphen, BeginsOtherwise, IsRemark, EndsLine, IsComment}
use Rattle.mon_smi.specs.Scan.{run_at, remark_at, comment_at}
use Rattle.mon_smi.proofs.Runs.{by_test, run_within, run_all, Stops, run_stops, run_front}

no_equal : (a b : ℕ) → (a ≡ b → ⊥) → (a == b) ≡ false
no_equal a b other = go (a == b) refl
  where
    go : (t : Bool) → (a == b) ≡ t → t ≡ false
    go true is = absurd (other (eqb-true a b is))
    go false is = refl

hyphen_is : (b : ℕ) → (b == 45) ≡ true → b ≡ 45
hyphen_is b is = eqb-true b 45 is

or_parts : (t u : Bool) → (t || u) ≡ false → (t ≡ false) × (u ≡ false)
or_parts true u is = absurd (cc)
or_parts false u is = (refl, is)

and_parts : (t u : Bool) → (t && u) ≡ true → (t ≡ true) × (u ≡ true)
and_parts true u is = (refl, is)
and_parts false u is = absurd (cc)

no_both : (t u : Bool) → (t && u) ≡ false → t ≡ true → u ≡ false
no_both true u is yes_case = is
no_both false u is yes_case = absurd (cc)

differs : (a b : ℕ) → (a == b) ≡ false → a ≡ b → ⊥
differs a b is same = let yes_case : (a == b) ≡ true = grind (arith, nat_tests) in absurd (cc)

-- what doesn't begin with a hyphen
otherwise : (l : List ℕ) → (get_or l 0 0 == 45) ≡ false → BeginsOtherwise l
otherwise [] is = tt
otherwise (b ∷ bs) is = λ same. differs b 45 is same

otherwise_back : (l : List ℕ) → BeginsOtherwise l → (get_or l 0 0 == 45) ≡ false
otherwise_back [] is = refl
otherwise_back (b ∷ bs) is = no_equal b 45 is

stops_otherwise : (l : List ℕ) → Stops is_hyphen l → BeginsOtherwise l
stops_otherwise [] is = tt
stops_otherwise (b ∷ bs) is = λ same. differs b 45 is same

otherwise_stops : (l : List ℕ) → BeginsOtherwise l → Stops is_hyphen l
otherwise_stops [] is = tt
otherwise_stops (b ∷ bs) is = no_equal b 45 is

pub remark_within : (text : List ℕ) → remark_at text ≤ length text
remark_within [] = omega arith
remark_within (b ∷ bs) =
    let more : remark_at bs ≤ length bs = remark_within bs in
    by_test (λ (n : ℕ). n ≤ length (b ∷ bs)) (b == 10 || (b == 45 && get_or bs 0 0 == 45)) 0 (suc (remark_at bs)) (λ is. omega arith) (λ is. omega arith)

-- what is passed of a comment is a remark
remark_says : (text : List ℕ) → IsRemark (take (remark_at text) text) (drop (remark_at text) text)
remark_says [] = tt
remark_says (b ∷ bs) =
    by_test (λ (n : ℕ). IsRemark (take n (b ∷ bs)) (drop n (b ∷ bs))) (b == 10 || (b == 45 && get_or bs 0 0 == 45)) 0 (suc (remark_at bs)) (λ is. tt)
    (λ is.
    let parts = or_parts (b == 10) (b == 45 && get_or bs 0 0 == 45) is in (
      λ same. differs b 10 parts.0 same,
      λ same.
          let here : (b == 45) ≡ true = ap (λ (x : ℕ). x == 45) same in
          let apart : BeginsOtherwise bs = otherwise bs (no_both (b == 45) (get_or bs 0 0 == 45) parts.1 here) in
          subst BeginsOtherwise (sym (take-append-drop (remark_at bs) bs)) apart,
      remark_says bs,
    ))

-- and ends where the line does or at two hyphens
abbrev Ends : List ℕ → Type 0
Ends text = EndsLine text ⊎ ((more : List ℕ) × (text ≡ 45 ∷ 45 ∷ more))

remark_ends : (text : List ℕ) → Ends (drop (remark_at text) text)
remark_ends [] = inl tt
remark_ends (b ∷ bs) =
    by_test (λ (n : ℕ). Ends (drop n (b ∷ bs))) (b == 10 || (b == 45 && get_or bs 0 0 == 45)) 0 (suc (remark_at bs))
    (λ is. here (b == 10) (b == 45 && get_or bs 0 0 == 45) refl refl is)
    (λ is. remark_ends bs)
  where
    pair : (l : List ℕ) → (b == 45) ≡ true → (get_or l 0 0 == 45) ≡ true → (more : List ℕ) × (b ∷ l ≡ 45 ∷ 45 ∷ more)
    pair [] first second = absurd (cc)
    pair (c ∷ cs) first second = (cs, ap (λ (x : ℕ). x ∷ c ∷ cs) (hyphen_is b first) ∙ ap (λ (x : ℕ). 45 ∷ x ∷ cs) (hyphen_is c second))

    here : (t u : Bool) → (b == 10) ≡ t → (b == 45 && get_or bs 0 0 == 45) ≡ u → (t || u) ≡ true → Ends (b ∷ bs)
    here true u e f is = inl (eqb-true b 10 e)
    here false true e f is = (let parts = and_parts (b == 45) (get_or bs 0 0 == 45) f in inr (pair bs parts.0 parts.1))
    here false false e f is = absurd (cc)

-- the closing hyphens, where there are some
closing : (tail : List ℕ) → Ends tail → (AreHyphens (take (run_at is_hyphen tail) tail) × BeginsOtherwise (drop (run_at is_hyphen tail) tail)) ⊎ ((take (run_at is_hyphen tail) tail ≡ []) × EndsLine (drop (run_at is_hyphen tail) tail))
closing tail ends = ⊎_elim (λ line. inr (at_line tail line)) (λ hyphens. inl (subst (λ (l : List ℕ). AreHyphens (take (run_at is_hyphen l) l) × BeginsOtherwise (drop (run_at is_hyphen l) l)) (sym hyphens.1) (at_hyphens hyphens.0))) ends
  where
    at_line : (l : List ℕ) → EndsLine l → (take (run_at is_hyphen l) l ≡ []) × EndsLine (drop (run_at is_hyphen l) l)
    at_line [] line = (refl, tt)
    at_line (b ∷ bs) line = let none : (b == 45) ≡ false = ap (λ (x : ℕ). x == 45) line in rw none (refl, line)

    at_hyphens : (more : List ℕ) → AreHyphens (take (run_at is_hyphen (45 ∷ 45 ∷ more)) (45 ∷ 45 ∷ more)) × BeginsOtherwise (drop (run_at is_hyphen (45 ∷ 45 ∷ more)) (45 ∷ 45 ∷ more))
    at_hyphens more = ((omega arith, run_all is_hyphen (45 ∷ 45 ∷ more)), stops_otherwise _ (run_stops is_hyphen (45 ∷ 45 ∷ more)))

-- the parts of a comment behind its first hyphen
pub record Parts (bs : List ℕ) : Type 0 where
  pub comment : List ℕ
  pub rest : List ℕ
  pub whole : bs ≡ comment ++ rest
  pub len : comment_at bs ≡ length comment
  pub is : IsComment (45 ∷ comment) rest

pub comment_takes : (bs : List ℕ) → get_or bs 0 0 ≡ 45 → Parts bs
comment_takes bs hyphen =
    let h = run_at is_hyphen bs in
    let mid = drop h bs in
    let r = remark_at mid in
    let tail = drop r mid in
    let k = run_at is_hyphen tail in
    let o = take h bs in
    let said = take r mid in
    let close = take k tail in
    let rest = drop k tail in
    let inner : said ++ (close ++ rest) ≡ mid = ap (λ (l : List ℕ). said ++ l) (take-append-drop k tail) ∙ take-append-drop r mid in
    let all : o ++ (said ++ (close ++ rest)) ≡ bs = ap (λ (l : List ℕ). o ++ l) inner ∙ take-append-drop h bs in
    let split : bs ≡ (o ++ (said ++ close)) ++ rest = sym all ∙ ap (λ (l : List ℕ). o ++ l) (sym (append_assoc said close rest)) ∙ sym (append_assoc o (said ++ close) rest) in
    let lens : length (o ++ (said ++ close)) ≡ h + (r + k) =
    length-append o (said ++ close) ∙ ap (λ n. length o + n) (length-append said close) ∙ ap (λ n. n + (length said + length close)) (length-take-le h bs (run_within is_hyphen bs))
    ∙ ap (λ n. h + (n + length close)) (length-take-le r mid (remark_within mid)) ∙ ap (λ n. h + (r + n)) (length-take-le k tail (run_within is_hyphen tail)) in
    record {
      comment = o ++ (said ++ close);
      rest = rest;
      whole = split;
      len = sym lens;
      is = record {
        opening = 45 ∷ o;
        remark = said;
        closing = close;
        whole = refl;
        opens = (two bs hyphen, (refl, run_all is_hyphen bs));
        says = subst (λ (l : List ℕ). IsRemark said l) (sym (take-append-drop k tail)) (remark_says mid);
        follows = subst BeginsOtherwise (sym inner) (stops_otherwise mid (run_stops is_hyphen bs));
        closes = closing tail (remark_ends mid);
      };
    }
  where
    two : (l : List ℕ) → get_or l 0 0 ≡ 45 → 2 ≤ length (45 ∷ take (run_at is_hyphen l) l)
    two [] is = absurd (omega arith)
    two (b ∷ cs) is = let yes_case : (b == 45) ≡ true = ap (λ (x : ℕ). x == 45) is in rw yes_case (omega arith)

-- ---- a comment is passed

remark_front : (said after : List ℕ) → IsRemark said after → remark_at after ≡ 0 → remark_at (said ++ after) ≡ length said
remark_front [] after is stops = stops
remark_front (b ∷ bs) after is stops =
    let no_end : (b == 10) ≡ false = no_equal b 10 is.0 in
    let no_pair : (b == 45 && get_or (bs ++ after) 0 0 == 45) ≡ false = apart (b == 45) refl in
    rw (no_end, no_pair) (ap suc (remark_front bs after is.2 stops))
  where
    apart : (t : Bool) → (b == 45) ≡ t → (t && get_or (bs ++ after) 0 0 == 45) ≡ false
    apart true e = otherwise_back (bs ++ after) (is.1 (hyphen_is b e))
    apart false e = refl

nothing_more : (close rest : List ℕ) → (AreHyphens close × BeginsOtherwise rest) ⊎ ((close ≡ []) × EndsLine rest) → (remark_at (close ++ rest) ≡ 0) × (run_at is_hyphen (close ++ rest) ≡ length close)
nothing_more close rest ends =
    ⊎_elim
    (λ hyphens. (at_hyphens close hyphens.0, run_front is_hyphen close rest hyphens.0.1 (otherwise_stops rest hyphens.1)))
    (λ line. subst (λ (l : List ℕ). (remark_at (l ++ rest) ≡ 0) × (run_at is_hyphen (l ++ rest) ≡ length l)) (sym line.0) (at_line rest line.1))
    ends
  where
    at_hyphens : (l : List ℕ) → AreHyphens l → remark_at (l ++ rest) ≡ 0
    at_hyphens [] is = let some : 2 ≤ 0 = is.0 in absurd (omega arith)
    at_hyphens (a ∷ []) is = let some : 2 ≤ 1 = is.0 in absurd (omega arith)
    at_hyphens (a ∷ b ∷ l) is =
        let first : a ≡ 45 = hyphen_is a is.1.0 in
        let second : b ≡ 45 = hyphen_is b is.1.1.0 in
        subst (λ (x : ℕ). remark_at (x ∷ b ∷ (l ++ rest)) ≡ 0) (sym first) (subst (λ (x : ℕ). remark_at (45 ∷ x ∷ (l ++ rest)) ≡ 0) (sym second) refl)

    at_line : (l : List ℕ) → EndsLine l → (remark_at l ≡ 0) × (run_at is_hyphen l ≡ 0)
    at_line [] is = (refl, refl)
    at_line (b ∷ bs) is = subst (λ (x : ℕ). (remark_at (x ∷ bs) ≡ 0) × (run_at is_hyphen (x ∷ bs) ≡ 0)) (sym is) (refl, refl)

-- behind its first hyphen
pub comment_again : (more said close rest : List ℕ) → AreAll is_hyphen more → IsRemark said (close ++ rest) → BeginsOtherwise (said ++ (close ++ rest)) → (AreHyphens close × BeginsOtherwise rest) ⊎ ((close ≡ []) × EndsLine rest)
    → comment_at (more ++ (said ++ (close ++ rest))) ≡ length more + (length said + length close)
comment_again more said close rest all is follows ends =
    let run : run_at is_hyphen (more ++ (said ++ (close ++ rest))) ≡ length more = run_front is_hyphen more (said ++ (close ++ rest)) all (otherwise_stops (said ++ (close ++ rest)) follows) in
    let end = nothing_more close rest ends in
    let left : drop (length more) (more ++ (said ++ (close ++ rest))) ≡ said ++ (close ++ rest) = drop_at more (said ++ (close ++ rest)) (length more) refl in
    let said_len : remark_at (said ++ (close ++ rest)) ≡ length said = remark_front said (close ++ rest) is end.0 in
    let behind : drop (length said) (said ++ (close ++ rest)) ≡ close ++ rest = drop_at said (close ++ rest) (length said) refl in
    rw (run, left, said_len, behind, end.1) refl
