-- The full list of a GetBulk, and the part of it that was put.
use Rattle.std.proofs.Common.{◌≡◌, ℕ, zero, suc, ◌+◌, ◌-◌, ◌<◌, ◌≤◌, min, Bool, true, false, if◌then◌else◌, ℤ, List, [], ◌∷◌, ◌++◌, length, map, get_or, take, drop, refl, sym, ap, subst, ◌∙◌, inl, inr, ◌⊎◌, arith}
use Rattle.std.specs.Prelude.{Result, Ok, Err, OnOk}
use Rattle.std.specs.Result.{is_err}
use Rattle.std.proofs.lemmas.List.{take_more, map-append, append_assoc, append-nil, length-append, length-map, length-drop, get_or-drop, take_all}
use Rattle.std.proofs.Math.Seq.{split_at}
use Rattle.mon_pdu.specs.declared.message.Binding.{Binding}
use Rattle.mon_mib.specs.Held.{Held}
use Rattle.mon_mib.specs.Search.{Sought, IsSeenIn, known_in}
use Rattle.mon_agent.specs.Bulk.{IsStepper, names_of, all_end_of_mib_view, rounds, full_list}
use Rattle.mon_agent.specs.ResponseBuilder.{Grown, FitsWith, IsCut, IsEnded, last, more_rounds}
use Rattle.mon_agent.specs.Reply.{count_of}

-- a search that stays has the same answers
pub moved : {D : Type 0} {s t : Sought D} (held : D → Held) (next : List ℕ → Binding) → t ≡ s → IsStepper (known_in held s) (IsSeenIn s) next
    → IsStepper (known_in held t) (IsSeenIn t) next
moved {D} {s} {t} held next same steps = subst (λ (u : Sought D). IsStepper (known_in held u) (IsSeenIn u) next) (sym same) steps

-- an equal head and limit leave equal space
pub fits_same : (g h : Grown) (bindings : List Binding) → h.head ≡ g.head → h.max_message_size ≡ g.max_message_size → FitsWith h bindings → FitsWith g bindings
fits_same g h bindings head max_message_size fits = rw (sym head, sym max_message_size) fits

pub cut_same : (g h : Grown) (all part : List Binding) → h.head ≡ g.head → h.max_message_size ≡ g.max_message_size → IsCut (FitsWith h) all part → IsCut (FitsWith g) all part
cut_same g h all part head max_message_size cut = record {
  next = cut.next;
  rest = cut.rest;
  whole = cut.whole;
  full = λ fits. cut.full (rw (head, max_message_size) fits);
}

abbrev nothing : List Binding
nothing = []

none_either : (b : Bool) → (if b then nothing else nothing) ≡ nothing
none_either true = refl
none_either false = refl

module _ (fits : List Binding → Type 0) where
  -- what goes on further is cut at the same place
  pub cut_longer : (all more part : List Binding) → IsCut fits all part → IsCut fits (all ++ more) part
  cut_longer all more part cut = record {
    next = cut.next;
    rest = cut.rest ++ more;
    whole = ap (λ l. l ++ more) cut.whole ∙ append_assoc part (cut.next ∷ cut.rest) more;
    full = cut.full;
  }

  pub cut_is : (all other part : List Binding) → all ≡ other → IsCut fits all part → IsCut fits other part
  cut_is all other part is cut = subst (λ l. IsCut fits l part) is cut

module _ (next : List ℕ → Binding) where
  -- the answers to the names of these
  abbrev pub answers : List Binding → List Binding
  answers asked = map next (names_of asked)

  pub length-answers : (asked : List Binding) → length (answers asked) ≡ length asked
  length-answers asked = length-map (names_of asked) next ∙ length-map asked (λ (b : Binding). b.name)

  answers-append : (xs ys : List Binding) → answers (xs ++ ys) ≡ answers xs ++ answers ys
  answers-append xs ys = ap (map next) (map-append (λ (b : Binding). b.name) xs ys) ∙ map-append next (names_of xs) (names_of ys)

  -- one more answer
  pub more_at : (before asked reply : List Binding) (i : ℕ) (d b : Binding) → i < length asked → reply ≡ before ++ answers (take i asked)
      → b ≡ next (get_or asked i d).name → reply ++ b ∷ [] ≡ before ++ answers (take (i + 1) asked)
  more_at before asked reply i d b lt is one =
      ap (λ l. l ++ b ∷ []) is
      ∙ (append_assoc before (answers (take i asked)) (b ∷ [])
      ∙ ap (λ l. before ++ l) (ap (λ (x : Binding). answers (take i asked) ++ x ∷ []) one
      ∙ (sym (answers-append (take i asked) (get_or asked i d ∷ [])) ∙ ap answers (sym (take_more asked i d lt)))))

  -- one that does not fit
  pub cut_at : (fits : List Binding → Type 0) (before asked reply : List Binding) (i : ℕ) (d b : Binding) → i < length asked
      → reply ≡ before ++ answers (take i asked) → b ≡ next (get_or asked i d).name → (fits (reply ++ b ∷ []) → ⊥)
      → IsCut fits (before ++ answers asked) reply
  cut_at fits before asked reply i d b lt is one full = record {
    next = b;
    rest = answers (drop (suc i) asked);
    whole =
        ap (λ l. before ++ answers l) (split_at asked i d lt)
        ∙ (ap (λ l. before ++ l) (answers-append (take i asked) (get_or asked i d ∷ drop (suc i) asked))
        ∙ (sym (append_assoc before (answers (take i asked)) (answers (get_or asked i d ∷ drop (suc i) asked)))
        ∙ (ap (λ l. l ++ answers (get_or asked i d ∷ drop (suc i) asked)) (sym is)
        ∙ ap (λ (x : Binding). reply ++ x ∷ answers (drop (suc i) asked)) (sym one))));
    full = full;
  }

  -- the name this many places before the end is the one of the round before
  pub name_back : (before reply : List Binding) (width j : ℕ) (d : Binding) → width ≤ length before → j < width
      → reply ≡ before ++ answers (take j (last width before)) → get_or reply (length reply - width) d ≡ get_or (last width before) j d
  name_back before reply width j d wide lt is =
      let put : length (answers (take j (last width before))) ≡ j =
      length-answers (take j (last width before)) ∙ length-take_lt j (last width before) (omega (arith, length-drop (length before - width) before, wide, lt)) in
      let long : length reply ≡ length before + j = ap length is ∙ (length-append before (answers (take j (last width before))) ∙ ap (λ n. length before + n) put) in
      let place : length reply - width ≡ (length before - width) + j = omega (arith, long, wide) in
      ap (λ n. get_or reply n d) place
      ∙ (ap (λ l. get_or l ((length before - width) + j) d) is
      ∙ (get_or_front before (answers (take j (last width before))) ((length before - width) + j) d (omega (arith, wide, lt))
      ∙ sym (get_or-drop (length before - width) before j d)))
    where
      length-take_lt : (n : ℕ) (l : List Binding) → n < length l → length (take n l) ≡ n
      length-take_lt zero l lt = refl
      length-take_lt (suc n) [] lt = absurd (omega arith)
      length-take_lt (suc n) (x ∷ l) lt = ap suc (length-take_lt n l (omega arith))

      get_or_front : (xs ys : List Binding) (i : ℕ) (d : Binding) → i < length xs → get_or (xs ++ ys) i d ≡ get_or xs i d
      get_or_front [] ys i d lt = absurd (omega arith)
      get_or_front (x ∷ xs) ys zero d lt = refl
      get_or_front (x ∷ xs) ys (suc i) d lt = get_or_front xs ys i d (omega arith)

  pub all_last : (width : ℕ) (before : List Binding) → width ≤ length before → length (last width before) ≡ width
  all_last width before wide = omega (arith, length-drop (length before - width) before, wide)

  -- the last of a list with a round at its end are the round
  last_of : (before round : List Binding) (width : ℕ) → length round ≡ width → last width (before ++ round) ≡ round
  last_of before round width is =
      ap (λ n. drop n (before ++ round)) (omega (arith, length-append before round, is)) ∙ behind before round
    where
      behind : (xs ys : List Binding) → drop (length xs) (xs ++ ys) ≡ ys
      behind [] ys = refl
      behind (x ∷ xs) ys = behind xs ys

  -- ---- rounds

  pub none_follows : (m : ℕ) (round : List Binding) → all_end_of_mib_view round ≡ true → more_rounds next m round ≡ []
  unfolding more_rounds
  none_follows m round end = rw end refl

  pub no_rounds : (round : List Binding) → more_rounds next 0 round ≡ []
  unfolding more_rounds rounds
  no_rounds round = none_either (all_end_of_mib_view round)

  pub first_round : (m : ℕ) (names : List (List ℕ)) → rounds next (suc m) names ≡ map next names ++ more_rounds next m (map next names)
  unfolding rounds more_rounds
  first_round m names = refl

  pub one_follows : (m : ℕ) (round : List Binding) → all_end_of_mib_view round ≡ false → more_rounds next (suc m) round ≡ answers round ++ more_rounds next m (answers round)
  unfolding more_rounds
  one_follows m round other = rw other (first_round m (names_of round))

  -- a round was put, and further ones follow it
  pub goes_on : (before round : List Binding) (m width : ℕ) → length round ≡ width
      → before ++ (round ++ more_rounds next m round) ≡ (before ++ round) ++ more_rounds next m (last width (before ++ round))
  goes_on before round m width is =
      sym (append_assoc before round (more_rounds next m round))
      ∙ ap (λ (r : List Binding). (before ++ round) ++ more_rounds next m r) (sym (last_of before round width is))

  -- ---- the full list

  pub no_more : (non_repeaters max_repetitions : ℤ) (asked : List Binding) → count_of max_repetitions ≡ 0
      → full_list next non_repeaters max_repetitions asked ≡ answers (take (count_of non_repeaters) asked)
  unfolding full_list rounds
  no_more non_repeaters max_repetitions asked none = rw none (append-nil (answers (take (count_of non_repeaters) asked)))

  pub with_rounds : (non_repeaters max_repetitions : ℤ) (asked : List Binding) (m : ℕ) → count_of max_repetitions ≡ suc m
      → full_list next non_repeaters max_repetitions asked ≡ answers (take (count_of non_repeaters) asked)
      ++ (answers (drop (count_of non_repeaters) asked) ++ more_rounds next m (answers (drop (count_of non_repeaters) asked)))
  unfolding full_list
  with_rounds non_repeaters max_repetitions asked m some =
      rw some (ap (λ l. answers (take (count_of non_repeaters) asked) ++ l) (first_round m (names_of (drop (count_of non_repeaters) asked))))

  pub begins_once : (non_repeaters max_repetitions : ℤ) (asked : List Binding)
      → full_list next non_repeaters max_repetitions asked
      ≡ answers (take (count_of non_repeaters) asked) ++ rounds next (count_of max_repetitions) (names_of (drop (count_of non_repeaters) asked))
  unfolding full_list
  begins_once non_repeaters max_repetitions asked = refl

-- no more can be taken than there are
pub take_least : (n : ℕ) (l : List Binding) (k : ℕ) → (n ≤ length l → k ≡ n) → (length l ≤ n → k ≡ length l) → take n l ≡ take k l
take_least n l k few many = elim (either n (length l)) [
  | inl le ↦ ap (λ i. take i l) (sym (few le))
  | inr le ↦ take_all n l le ∙ sym (take_all k l (omega (arith, many le)))
]
  where
    either : (n m : ℕ) → (n ≤ m) ⊎ (m ≤ n)
    either zero m = inl (omega arith)
    either (suc n) zero = inr (omega arith)
    either (suc n) (suc m) = elim (either n m) [ inl le ↦ inl (omega arith) | inr le ↦ inr (omega arith) ]

pub all_taken : (n : ℕ) (l : List Binding) → length l ≤ n → take n l ≡ l
all_taken n l le = take_all n l le

pub one_less : (m n : ℕ) → n < m → m - n ≡ suc (m - (n + 1))
one_less m n lt = omega arith

pub none_left : (m n : ℕ) → m ≤ n → m - n ≡ 0
none_left m n le = omega arith

-- one round more of what follows
pub unrolled : (next : List ℕ → Binding) (before round : List Binding) (k m : ℕ) → k ≡ suc m → all_end_of_mib_view round ≡ false
    → (before ++ answers next round) ++ more_rounds next m (answers next round) ≡ before ++ more_rounds next k round
unrolled next before round k m left other =
    append_assoc before (answers next round) (more_rounds next m (answers next round))
    ∙ ap (λ l. before ++ l) (sym (ap (λ n. more_rounds next n round) left ∙ one_follows next m round other))

-- ---- the two parts of what was asked

pub taken_first : (n k : ℕ) (l : List Binding) → k ≡ min n (length l) → take n l ≡ take k l
taken_first n k l is = take_least n l k (λ le. omega (arith, is, le)) (λ le. omega (arith, is, le))

pub dropped_first : (n k : ℕ) (l : List Binding) → k ≡ min n (length l) → drop n l ≡ drop k l
dropped_first n k l is = elim (either n (length l)) [
  | inl le ↦ ap (λ i. drop i l) (omega (arith, is, le))
  | inr le ↦ none n l le ∙ sym (none k l (omega (arith, is, le)))
]
  where
    none : (n : ℕ) (l : List Binding) → length l ≤ n → drop n l ≡ []
    none zero [] le = refl
    none (suc n) [] le = refl
    none zero (x ∷ l) le = absurd (omega arith)
    none (suc n) (x ∷ l) le = none n l (omega arith)

    either : (n m : ℕ) → (n ≤ m) ⊎ (m ≤ n)
    either zero m = inl (omega arith)
    either (suc n) zero = inr (omega arith)
    either (suc n) (suc m) = elim (either n m) [ inl le ↦ inl (omega arith) | inr le ↦ inr (omega arith) ]

-- ---- what a GetBulk has put, at each of its ends

module _ (next : List ℕ → Binding) (fits : List Binding → Type 0) (non_repeaters max_repetitions : ℤ) (asked once repeated before : List Binding)
    (none : before ≡ []) (first : once ≡ take (count_of non_repeaters) asked) (others : repeated ≡ drop (count_of non_repeaters) asked) where
  begins : (later : List Binding) → before ++ (answers next once ++ later) ≡ answers next (take (count_of non_repeaters) asked) ++ later
  begins later = ap (λ l. l ++ (answers next once ++ later)) none ∙ ap (λ l. answers next l ++ later) first

  pub cut_once : (part : List Binding) → IsCut fits (before ++ answers next once) part
      → IsEnded fits (full_list next non_repeaters max_repetitions asked) part
  cut_once part cut =
      let later = rounds next (count_of max_repetitions) (names_of (drop (count_of non_repeaters) asked)) in
      inr (cut_is fits _ _ part (append_assoc before (answers next once) later ∙ (begins later ∙ sym (begins_once next non_repeaters max_repetitions asked)))
      (cut_longer fits (before ++ answers next once) later part cut))

  pub no_repetition : (part : List Binding) → count_of max_repetitions ≡ 0 → part ≡ before ++ answers next once
      → IsEnded fits (full_list next non_repeaters max_repetitions asked) part
  no_repetition part zero_is is =
      inl (is ∙ (ap (λ l. before ++ l) (sym (append-nil (answers next once))) ∙ (begins [] ∙ (append-nil (answers next (take (count_of non_repeaters) asked))
      ∙ sym (no_more next non_repeaters max_repetitions asked zero_is)))))

  whole : (m : ℕ) (middle : List Binding) → count_of max_repetitions ≡ suc m → middle ≡ before ++ answers next once
      → middle ++ (answers next repeated ++ more_rounds next m (answers next repeated)) ≡ full_list next non_repeaters max_repetitions asked
  whole m middle some is =
      let later : List Binding = answers next repeated ++ more_rounds next m (answers next repeated) in
      ap (λ l. l ++ later) is ∙ (append_assoc before (answers next once) later ∙ (begins later
      ∙ (ap (λ l. answers next (take (count_of non_repeaters) asked) ++ (answers next l ++ more_rounds next m (answers next l))) others
      ∙ sym (with_rounds next non_repeaters max_repetitions asked m some))))

  pub cut_round : (m : ℕ) (middle part : List Binding) → count_of max_repetitions ≡ suc m → middle ≡ before ++ answers next once
      → IsCut fits (middle ++ answers next repeated) part → IsEnded fits (full_list next non_repeaters max_repetitions asked) part
  cut_round m middle part some is cut =
      inr (cut_is fits _ _ part (append_assoc middle (answers next repeated) (more_rounds next m (answers next repeated)) ∙ whole m middle some is)
      (cut_longer fits (middle ++ answers next repeated) (more_rounds next m (answers next repeated)) part cut))

  pub further : (m : ℕ) (middle round part : List Binding) → count_of max_repetitions ≡ suc m → middle ≡ before ++ answers next once
      → round ≡ middle ++ answers next repeated → IsEnded fits (round ++ more_rounds next m (last (length repeated) round)) part
      → IsEnded fits (full_list next non_repeaters max_repetitions asked) part
  further m middle round part some is put ended =
      let to : (middle ++ answers next repeated) ++ more_rounds next m (last (length repeated) (middle ++ answers next repeated))
      ≡ full_list next non_repeaters max_repetitions asked =
      sym (goes_on next middle (answers next repeated) m (length repeated) (length-answers next repeated)) ∙ whole m middle some is in
      subst (λ l. IsEnded fits l part) to (subst (λ l. IsEnded fits (l ++ more_rounds next m (last (length repeated) l)) part) put ended)

pub ended_same : (g h : Grown) (all part : List Binding) → h.head ≡ g.head → h.max_message_size ≡ g.max_message_size → IsEnded (FitsWith h) all part → IsEnded (FitsWith g) all part
ended_same g h all part head max_message_size (inl is) = inl is
ended_same g h all part head max_message_size (inr cut) = inr (cut_same g h all part head max_message_size cut)

pub above_zero : (n : ℕ) → (n ≡ 0 → ⊥) → n ≡ suc (n - 1)
above_zero n some = omega (arith, some)

pub on_ok : {A E : Type 0} {P Q : Type 0} (r : Result A E) → (P → Q) → OnOk r P → OnOk r Q
on_ok (Ok x) f p = f p
on_ok (Err e) f p = p

-- ---- what each step of a loop adds

pub some_of : (i n : ℕ) → i < n → 1 ≤ n
some_of i n lt = omega arith

pub at_least_one : (n : ℕ) → (n ≡ 0 → ⊥) → 1 ≤ n
at_least_one n some = omega (arith, some)

pub part_of : (all some more : ℕ) → all ≡ some + more → more ≤ all
part_of all some more is = omega (arith, is)

pub one_longer : (reply now : List Binding) (b : Binding) (n i : ℕ) → now ≡ reply ++ b ∷ [] → length reply ≡ n + i → length now ≡ n + (i + 1)
one_longer reply now b n i more long = omega (arith, ap length more, length-append reply (b ∷ []), long)

pub as_wide : (reply now : List Binding) (b : Binding) (width : ℕ) → now ≡ reply ++ b ∷ [] → width ≤ length reply → width ≤ length now
as_wide reply now b width more wide = omega (arith, ap length more, length-append reply (b ∷ []), wide)

pub in_last : (width : ℕ) (before : List Binding) (i : ℕ) → width ≤ length before → i < width → i < length (last width before)
in_last width before i wide inside = omega (arith, length-drop (length before - width) before, wide, inside)

pub last_within : (width : ℕ) (before : List Binding) (i : ℕ) → width ≤ length before → width ≤ i → length (last width before) ≤ i
last_within width before i wide ended = omega (arith, length-drop (length before - width) before, wide, ended)

pub all_put : (next : List ℕ → Binding) (before asked reply : List Binding) (i : ℕ) → length asked ≤ i → reply ≡ before ++ answers next (take i asked)
    → reply ≡ before ++ answers next asked
all_put next before asked reply i le is = is ∙ ap (λ l. before ++ answers next l) (all_taken i asked le)

-- what was not put says nothing of what would have been
pub not_full : {E : Type 0} {P : Type 0} → (let r : Result Bool E = Ok false in r ≡ Ok true) → P
not_full is = absurd cc

-- after a fault nothing is said of what would have been
pub unless_err : {A E : Type 0} {P : Type 0} (r : Result A E) (x : A) → is_err r ≡ true → r ≡ Ok x → P
unless_err (Ok y) x failed is = absurd cc
unless_err (Err e) x failed is = absurd cc
