-- Every value that a parse keeps is one that an argument of its id takes, where no step of the
-- parse fails.
use Rattle.std.proofs.Common.{◌≡◌, ◌+◌, ◌&&◌, ◌||◌, ◌==◌, ℕ, Bool, cond, codes, true, false, zero, suc, not, refl, sym, subst, arith, List, [], ◌∷◌, ◌++◌, length, drop, min, Option, Some, None, is_some, nat_lt}
use Rattle.std.specs.Prelude.{⊤, encode_utf8, fold, slice_get}
use Rattle.std.specs.Option.{option_map_or}
use Rattle.std.specs.List.{find, list_all, list_any}
use Rattle.std.specs.Str.{bytes_eq, chars}
use Rattle.std.proofs.lemmas.Slice.Eq.{bytes_eq-Decides}
use Rattle.std.proofs.lemmas.Bool.Decides.{nat_tests}
use Rattle.clap.specs.Lexer.{long_of, short_of}
use Rattle.clap.specs.Matches.{count_text}
use Rattle.clap.specs.Values.{is_request, refused_kind}
use Rattle.clap.specs.Facts.{explicit_source, parser_of_value, unwrap_or_range}
use Rattle.clap.specs.Walk.{Held, Names, Outcome, Row, Rule, Step, Text, Waiting, Walk, action_of, after_flag, after_step, arg_by_id, arg_by_index, arg_by_long, arg_by_short, at_row, attached_value, bundle_met, bundle_step, count_of, counted, default_rows, done, finished, flag_met, has_row, idle, is_empty, is_pending, long_met, long_or_other, more_values, most_values, new_count, next, nothing_held, option, option_met, option_word, plain, plain_word, positional, positional_held, reacted, reading_by, refused, rows_after, settled, settled_rows, short_met, short_or_plain, stop_after, subcommand, subcommand_met, subcommand_or_other, takes_several, takes_values, to_positional, trailing, used, used_as, used_by_id, value, values_or_missing, waits, walk, walk_from, walked, walked_from, with_count, with_default, with_values, without, word_met}
use Rattle.clap.specs.Simple.{Shape}
use Rattle.clap.specs.Takes.{is_given, value_passes}
use Rattle.clap.specs.Kinds.{Kinds, check_kinds, or_else, range_kinds, request_kinds, value_kinds}
use Rattle.clap.specs.Faults.{action_fault, bundle_fault, bundle_step_fault, check_fault, count_fault, default_fault, defaults_fault, flag_word_fault, flags_fault, level_fault, long_fault, option_fault, other_fault, positional_fault, react_fault, repeat_fault, settle_fault, short_fault, step_fault, stray_fault, turn_fault, use_fault, values_fault, walk_fault, word_fault}
use Rattle.clap.specs.declared.builder.action.ArgAction.{ArgAction}
use Rattle.clap.specs.declared.builder.action.ArgAction.TheVariants as action
use Rattle.clap.specs.declared.builder.value_parser.Reading.{Reading}
use Rattle.clap.specs.declared.builder.value_parser.Reading.TheVariants as reading
use Rattle.clap.specs.declared.error.kind.ErrorKind.{ErrorKind}
use Rattle.clap.specs.declared.error.kind.ErrorKind.TheVariants as kind
use Rattle.clap.specs.declared.parser.matches.ValueSource.{ValueSource}
use Rattle.clap.specs.declared.parser.matches.ValueSource.TheVariants.{CommandLine, DefaultValue}
use Rattle.clap.proofs.WalkLemmas.{both}

-- ---- faults

pub both_none : (a b : Kinds) → or_else a b ≡ [] → (a ≡ []) × (b ≡ [])
both_none [] b e = (refl, e)
both_none (k ∷ ks) b e = cc

is_taken : (b : Bool) (k : ErrorKind) → cond b [] (k ∷ []) ≡ [] → b ≡ true
is_taken true k e = refl
is_taken false k e = cc

not_empty : (v : Text) (vs : List Text) → is_empty (v ∷ vs) ≡ false
not_empty v vs = grind (arith, nat_tests)

-- ---- values

-- some argument with this id meets the test
abbrev pub some_with : List Rule → Text → (Rule → Bool) → Bool
some_with c id test = list_any (λ a. bytes_eq a.id id && test a) c

-- some argument with this id takes this value
abbrev pub passes : List Rule → Text → Text → Bool
passes c id v = some_with c id (λ a. value_passes a v)

abbrev pub same_reading : Reading → Reading → Bool
same_reading reading.AsWritten reading.AsWritten = true
same_reading reading.WithoutMinus reading.WithoutMinus = true
same_reading reading.Boolish reading.Boolish = true
same_reading reading.Falsey reading.Falsey = true
same_reading _ _ = false

-- the values of some argument with this id are read in this way
abbrev pub is_read_as : List Rule → Text → Reading → Bool
is_read_as c id how = some_with c id (λ a. same_reading (reading_by a) how)

-- a use of the argument has a value, or a default value, or it asks for help or the version
abbrev pub has_values : Rule → Bool
has_values a = is_request (action_of a) || not (is_empty a.missing) || nat_lt 0 (unwrap_or_range a.range).start_inclusive

-- and so each of these
abbrev pub AllPass : List Rule → Text → List Text → Type 0
AllPass c id [] = ⊤
AllPass c id (v ∷ vs) = (passes c id v ≡ true) × AllPass c id vs

-- the row has values, each is one that an argument of its id takes, and they are read as those of
-- such an argument
abbrev pub IsRight : List Rule → Row → Type 0
IsRight c r = AllPass c r.id r.values × (is_read_as c r.id r.reading ≡ true) × (is_empty r.values ≡ false)

-- and so each row
abbrev pub AreRight : List Rule → List Row → Type 0
AreRight c [] = ⊤
AreRight c (r ∷ rs) = IsRight c r × AreRight c rs

-- the argument is among these under its id, and its uses have values
abbrev pub Has : List Rule → Rule → Type 0
Has c a = ((test : Rule → Bool) → test a ≡ true → some_with c a.id test ≡ true) × (has_values a ≡ true)

abbrev pub EachHas : List Rule → List Rule → Type 0
EachHas c [] = ⊤
EachHas c (a ∷ rest) = Has c a × EachHas c rest

neither : (a b : Bool) → (a || b) ≡ false → (a ≡ false) × (b ≡ false)
neither true b e = cc
neither false b e = (refl, e)

either_right : (a b : Bool) → b ≡ true → (a || b) ≡ true
either_right true b e = refl
either_right false b e = e

any_found : {X : Type 0} (q r : X → Bool) (xs : List X) (a : X) → find q xs ≡ Some a → r a ≡ true → list_any r xs ≡ true
any_found q r [] a e y = cc
any_found q r (x ∷ xs) a e y = go (q x) e (λ f. any_found q r xs a f y)
  where
    go : (b : Bool) → cond b (Some x) (find q xs) ≡ Some a → (find q xs ≡ Some a → list_any r xs ≡ true) → (r x || list_any r xs) ≡ true
    go true is rest =
        let same : x ≡ a = cc in
        let here : r x ≡ true = subst (λ z. r z ≡ true) (sym same) y in
        rw here refl
    go false is rest = either_right (r x) _ (rest is)

own_id : (a : Rule) (test : Rule → Bool) → test a ≡ true → (bytes_eq a.id a.id && test a) ≡ true
own_id a test e =
    let same : bytes_eq a.id a.id ≡ true = (bytes_eq-Decides a.id a.id).1 refl in
    rw (same, e) refl

all_found : {X : Type 0} (q r : X → Bool) (xs : List X) (a : X) → find q xs ≡ Some a → list_all r xs ≡ true → r a ≡ true
all_found q r [] a e y = cc
all_found q r (x ∷ xs) a e y = go (q x) e (λ f. all_found q r xs a f (both (r x) (list_all r xs) y).1)
  where
    go : (b : Bool) → cond b (Some x) (find q xs) ≡ Some a → (find q xs ≡ Some a → r a ≡ true) → r a ≡ true
    go true is rest =
        let same : x ≡ a = cc in
        subst (λ z. r z ≡ true) same (both (r x) (list_all r xs) y).0
    go false is rest = rest is

has_found : (c : List Rule) (q : Rule → Bool) (a : Rule) → list_all has_values c ≡ true → find q c ≡ Some a → Has c a
has_found c q a full is = (λ test e. any_found q (λ b. bytes_eq b.id a.id && test b) c a is (own_id a test e), all_found q has_values c a is full)

each_more : (x : Rule) (c xs : List Rule) → EachHas c xs → EachHas (x ∷ c) xs
each_more x c [] has = tt
each_more x c (a ∷ xs) has = ((λ test e. either_right _ _ (has.0.0 test e), has.0.1), each_more x c xs has.1)

each_has : (c : List Rule) → list_all has_values c ≡ true → EachHas c c
each_has [] full = tt
each_has (a ∷ xs) full =
    let parts = both (has_values a) (list_all has_values xs) full in (
      (λ test e. let here = own_id a test e in rw here refl, parts.0),
      each_more a xs xs (each_has xs parts.1),
    )

read_as_own : (how : Reading) → same_reading how how ≡ true
read_as_own reading.AsWritten = refl
read_as_own reading.WithoutMinus = refl
read_as_own reading.Boolish = refl
read_as_own reading.Falsey = refl

still_full : (xs ys : List Text) → is_empty xs ≡ false → is_empty (xs ++ ys) ≡ false
still_full [] ys e = cc
still_full (x ∷ xs) ys e = not_empty x (xs ++ ys)

-- values that are enough, or the default if there are none
enough : (a : Rule) (values : List Text) → has_values a ≡ true → range_kinds (unwrap_or_range a.range).start_inclusive (most_values a) (length values) ≡ []
    → is_request (action_of a) ≡ false → is_empty (values_or_missing a values) ≡ false
enough a (v ∷ vs) full none ask = not_empty v vs
enough a [] full none ask = go (is_request (action_of a)) (is_empty a.missing) (nat_lt 0 (unwrap_or_range a.range).start_inclusive) ask full none
  where
    go : (q b w : Bool) → q ≡ false → (q || not b || w) ≡ true
        → cond (w && true) (kind.InvalidValue ∷ []) (cond ((unwrap_or_range a.range).start_inclusive == most_values a)
        (cond ((unwrap_or_range a.range).start_inclusive == 0) [] (kind.WrongNumberOfValues ∷ []))
        (cond (nat_lt 0 (unwrap_or_range a.range).start_inclusive) (kind.TooFewValues ∷ []) (cond (nat_lt (most_values a) 0) (kind.TooManyValues ∷ []) []))) ≡ []
        → b ≡ false
    go true b w f e n = cc
    go false false w f e n = refl
    go false true false f e n = cc
    go false true true f e n = cc

module _ (c : List Rule) (full : list_all has_values c ≡ true) where
  all_more : (id : Text) (xs ys : List Text) → AllPass c id xs → AllPass c id ys → AllPass c id (xs ++ ys)
  all_more id [] ys p q = q
  all_more id (x ∷ xs) ys p q = (p.0, all_more id xs ys p.1 q)

  rows_more : (xs ys : List Row) → AreRight c xs → AreRight c ys → AreRight c (xs ++ ys)
  rows_more [] ys p q = q
  rows_more (x ∷ xs) ys p q = (p.0, rows_more xs ys p.1 q)

  at : (id : Text) (change : Row → List Row) (missing rows : List Row) → ((r : Row) → r.id ≡ id → IsRight c r → AreRight c (change r)) → AreRight c missing
      → AreRight c rows → AreRight c (at_row id change missing rows)
  at id change missing [] f m p = m
  at id change missing (r ∷ rs) f m p = go (bytes_eq r.id id) refl (at id change missing rs f m p.1)
    where
      go : (b : Bool) → bytes_eq r.id id ≡ b → AreRight c (at_row id change missing rs) → AreRight c (cond b (change r ++ rs) (r ∷ at_row id change missing rs))
      go true e rest = rows_more (change r) rs (f r ((bytes_eq-Decides r.id id).0 e) p.0) p.1
      go false e rest = (p.0, rest)

  left_out : (id : Text) (rows : List Row) → AreRight c rows → AreRight c (without id rows)
  left_out id rows p = at id (λ _. []) [] rows (λ r is old. tt) tt p

  given : (a : Rule) (s : ValueSource) (values : List Text) (rows : List Row) → Has c a → is_empty values ≡ false → AllPass c a.id values → AreRight c rows
      → AreRight c (with_values a.id (reading_by a) s values rows)
  given a s values rows has some v p =
      at a.id (more_values s values) _ rows
      (λ r is old. ((all_more r.id r.values values old.0 (subst (λ t. AllPass c t values) (sym is) v), old.1, still_full r.values values old.2), tt))
      ((v, has.0 _ (read_as_own (reading_by a)), some), tt) p

  given_count : (a : Rule) (s : ValueSource) (n : ℕ) (rows : List Row) → Has c a → passes c a.id (count_text n) ≡ true → AreRight c rows
      → AreRight c (with_count a.id (reading_by a) s n rows)
  given_count a s n rows has v p =
      at a.id (new_count s n) _ rows
      (λ r is old. ((all_more r.id r.values (count_text n ∷ []) old.0 (subst (λ t. passes c t (count_text n) ≡ true) (sym is) v, tt), old.1, still_full r.values (count_text n ∷ []) old.2), tt))
      (((v, tt), has.0 _ (read_as_own (reading_by a)), not_empty (count_text n) []), tt) p

  -- ---- one use of an argument

  values_right : (a : Rule) → Has c a → (vs : List Text) → values_fault a vs ≡ [] → AllPass c a.id vs
  values_right a has [] e = tt
  values_right a has (v ∷ vs) e =
      let parts = both_none (value_kinds a.ignore_case (parser_of_value a.parser) v) (values_fault a vs) e in
      (has.0 (λ b. value_passes b v) (is_taken _ _ parts.0), values_right a has vs parts.1)

  used_right : (again : Bool) (a : Rule) (values : List Text) (rows : List Row) → Has c a → use_fault again a values rows ≡ [] → AreRight c rows → AreRight c (used a values rows)
  used_right again a values rows has e p =
      let parts = both_none (range_kinds (unwrap_or_range a.range).start_inclusive (most_values a) (length values)) _ e in
      acts (action_of a) (values_or_missing a values) (enough a values has.1 parts.0) parts.1
    where
      fresh : AreRight c (without a.id rows)
      fresh = left_out a.id rows p

      set : (vs : List Text) → is_empty vs ≡ false → or_else (repeat_fault again a.id rows) (values_fault a vs) ≡ [] → AreRight c (with_values a.id (reading_by a) CommandLine vs (without a.id rows))
      set vs some none = given a CommandLine vs (without a.id rows) has some (values_right a has vs (both_none (repeat_fault again a.id rows) _ none).1) fresh

      counted_passes : count_fault a [] rows ≡ [] → value_passes a (count_text (min (count_of a.id rows + 1) 255)) ≡ true
      counted_passes none = is_taken (value_passes a (count_text (min (count_of a.id rows + 1) 255))) (refused_kind (parser_of_value a.parser)) none

      counts : (vs : List Text) → count_fault a vs rows ≡ [] → AreRight c (counted a.id (reading_by a) vs rows)
      counts [] none = given_count a CommandLine (min (count_of a.id rows + 1) 255) (without a.id rows) has (has.0 (λ b. value_passes b (count_text (min (count_of a.id rows + 1) 255))) (counted_passes none)) fresh
      counts (v ∷ vs) none = given a CommandLine (v ∷ vs) (without a.id rows) has (not_empty v vs) (values_right a has (v ∷ vs) none) fresh

      acts : (x : ArgAction) (vs : List Text) → (is_request x ≡ false → is_empty vs ≡ false) → action_fault x again a vs rows ≡ [] → AreRight c (used_as x a.id (reading_by a) vs rows)
      acts action.Set vs some none = set vs (some refl) none
      acts action.SetTrue vs some none = set vs (some refl) none
      acts action.SetFalse vs some none = set vs (some refl) none
      acts action.Append vs some none = given a CommandLine vs rows has (some refl) (values_right a has vs none) p
      acts action.Count vs some none = counts vs none
      acts action.Help vs some none = p
      acts action.HelpShort vs some none = p
      acts action.HelpLong vs some none = p
      acts action.Version vs some none = p

  -- ---- what is held

  pub settled_right : (again : Bool) (h : Held) → settle_fault c again h ≡ [] → AreRight c h.rows → AreRight c (settled c h).rows
  settled_right again h e p = go h.pending e
    where
      by_id : (q : Text × List Text) (o : Option Rule) → arg_by_id c q.0 ≡ o → option_map_or (λ a. use_fault again a q.1 h.rows) o [] ≡ [] → AreRight c (used_by_id o q.1 h.rows)
      by_id q None is none = p
      by_id q (Some a) is none = used_right again a q.1 h.rows (has_found c _ a full is) none p

      go : (o : Option (Text × List Text)) → option_map_or (λ q. option_map_or (λ a. use_fault again a q.1 h.rows) (arg_by_id c q.0) []) o [] ≡ [] → AreRight c (settled_rows c o h.rows)
      go None none = p
      go (Some q) none = by_id q (arg_by_id c q.0) refl none

  reacted_right : (again : Bool) (a : Rule) (values : List Text) (h : Held) → Has c a → react_fault c again a values h ≡ [] → AreRight c h.rows
      → AreRight c (reacted c a values h).rows
  reacted_right again a values h has e p =
      let parts = both_none (settle_fault c again h) (use_fault again a values (settled c h).rows) e in
      used_right again a values (settled c h).rows has parts.1 (settled_right again h parts.0 p)

  option_right : (again : Bool) (a : Rule) (v : Option Text) (h : Held) → Has c a → option_fault c again a v h ≡ [] → AreRight c h.rows → AreRight c (option_met c a v h).0.rows
  option_right again a (Some v) h has e p = reacted_right again a (v ∷ []) h has e p
  option_right again a None h has e p = settled_right again h e p

  long_right : (again : Bool) (o : Option Rule) (v : Option Text) (h : Held) → ((a : Rule) → o ≡ Some a → Has c a) → long_fault c again o v h ≡ [] → AreRight c h.rows
      → AreRight c (long_met c o v h).0.rows
  long_right again None v h has e p = p
  long_right again (Some a) v h has e p = go (takes_values a) e
    where
      alone : (w : Option Text) → cond (is_some w) (kind.TooManyValues ∷ []) (react_fault c again a [] h) ≡ [] → AreRight c (flag_met c a w h).0.rows
      alone (Some w) none = p
      alone None none = reacted_right again a [] h (has a refl) none p

      go : (b : Bool) → cond b (option_fault c again a v h) (cond (is_some v) (kind.TooManyValues ∷ []) (react_fault c again a [] h)) ≡ []
          → AreRight c (cond b (option_met c a v h) (flag_met c a v h)).0.rows
      go true none = option_right again a v h (has a refl) none p
      go false none = alone v none

  short_right : (again : Bool) (o : Option Rule) (rest : Text) (h : Held) (step : Held → Held × Outcome) (fault : Held → Kinds) → ((a : Rule) → o ≡ Some a → Has c a)
      → ((g : Held) → fault g ≡ [] → AreRight c g.rows → AreRight c (step g).0.rows) → short_fault c again o rest h fault ≡ [] → AreRight c h.rows
      → AreRight c (short_met c o rest h step).0.rows
  short_right again None rest h step fault has goes e p = p
  short_right again (Some a) rest h step fault has goes e p = go (takes_values a) e
    where
      go : (b : Bool) → cond b (option_fault c again a (attached_value rest) h) (or_else (react_fault c again a [] h) (fault (reacted c a [] h))) ≡ []
          → AreRight c (cond b (option_met c a (attached_value rest) h) (step (reacted c a [] h))).0.rows
      go true none = option_right again a (attached_value rest) h (has a refl) none p
      go false none =
          let parts = both_none (react_fault c again a [] h) (fault (reacted c a [] h)) none in
          goes (reacted c a [] h) parts.1 (reacted_right again a [] h (has a refl) parts.0 p)

  bundle_right : (again : Bool) (k : ℕ) (flags : Text) (skip : ℕ) (so_far : Outcome) (h : Held) → flags_fault c again k flags skip h ≡ [] → AreRight c h.rows
      → AreRight c (bundle_met c k flags skip so_far h).0.rows
  unfolding bundle_met flags_fault
  bundle_right again zero flags skip so_far h e p = p
  bundle_right again (suc k) flags skip so_far h e p = go (slice_get (chars flags) 0) skip e (bundle_right again k)
    where
      go : (o : Option ℕ) (skip : ℕ) → bundle_step_fault c again o flags skip h (flags_fault c again k) ≡ []
          → ((flags : Text) (skip : ℕ) (so_far : Outcome) (h : Held) → flags_fault c again k flags skip h ≡ [] → AreRight c h.rows → AreRight c (bundle_met c k flags skip so_far h).0.rows)
          → AreRight c (bundle_step c o flags skip so_far h (bundle_met c k)).0.rows
      go None skip none rest = p
      go (Some x) zero none rest =
          short_right again (arg_by_short c x) (drop (length (encode_utf8 x)) flags) h (bundle_met c k (drop (length (encode_utf8 x)) flags) 0 done) (flags_fault c again k (drop (length (encode_utf8 x)) flags) 0) (λ a is. has_found c _ a full is)
          (λ g. rest (drop (length (encode_utf8 x)) flags) 0 done g) none p
      go (Some x) (suc skip) none rest = rest (drop (length (encode_utf8 x)) flags) skip so_far h none p

  -- ---- a word

  plain_right : (waiting : Waiting) (word : Text) (h : Held) → AreRight c h.rows → AreRight c (plain_word c waiting word h).0.rows
  plain_right idle word h p = p
  plain_right positional word h p = p
  plain_right (option id) word h p = go (arg_by_id c id)
    where
      go : (o : Option Rule) → AreRight c (option_word o id word h).0.rows
      go None = p
      go (Some a) = p

  after_right : (waiting : Waiting) (word : Text) (h : Held) (x : Outcome) → AreRight c h.rows → AreRight c (after_flag c waiting word h x).0.rows
  after_right waiting word h done p = p
  after_right waiting word h (waits id) p = p
  after_right waiting word h plain p = plain_right waiting word h p
  after_right waiting word h refused p = plain_right waiting word h p

  flag_right : (again : Bool) (waiting : Waiting) (word : Text) (o : Option (Text × Option Text)) (h : Held) → flag_word_fault c again o word h ≡ [] → AreRight c h.rows
      → AreRight c (long_or_other c waiting word o h).0.rows
  flag_right again waiting word (Some q) h e p = after_right waiting word _ _ (long_right again (arg_by_long c q.0) q.1 h (λ a is. has_found c _ a full is) e p)
  flag_right again waiting word None h e p = go (short_of word) e
    where
      go : (o : Option Text) → option_map_or (λ flags. bundle_fault c again flags h) o [] ≡ [] → AreRight c (short_or_plain c waiting word o h).0.rows
      go None none = plain_right waiting word h p
      go (Some flags) none = after_right waiting word _ _ (bundle_right again (length flags) flags h.skip plain (record h { skip = 0 }) none p)

  -- no step of a flag or a value enters a command
  abbrev IsOther : Step → Type 0
  IsOther (subcommand name) = bytes_eq name (codes "help") ≡ false
  IsOther _ = ⊤

  plain_other : (waiting : Waiting) (word : Text) (h : Held) → IsOther (plain_word c waiting word h).1
  plain_other idle word h = tt
  plain_other positional word h = tt
  plain_other (option id) word h = tt

  after_other : (waiting : Waiting) (word : Text) (h : Held) (x : Outcome) → IsOther (after_flag c waiting word h x).1
  after_other waiting word h done = tt
  after_other waiting word h (waits id) = tt
  after_other waiting word h plain = plain_other waiting word h
  after_other waiting word h refused = plain_other waiting word h

  flag_other : (waiting : Waiting) (word : Text) (o : Option (Text × Option Text)) (h : Held) → IsOther (long_or_other c waiting word o h).1
  flag_other waiting word (Some q) h = after_other waiting word _ _
  flag_other waiting word None h = go (short_of word)
    where
      go : (o : Option Text) → IsOther (short_or_plain c waiting word o h).1
      go None = plain_other waiting word h
      go (Some flags) = after_other waiting word _ _

module _ (s : Shape) (names : Names) (full : list_all has_values s.rules ≡ true) where
  -- ---- a word of a command

  other_right : (o : Option Text) (waiting : Waiting) (position : ℕ) (word : Text) (h : Held) → other_fault s o word h ≡ [] → AreRight s.rules h.rows
      → AreRight s.rules (subcommand_or_other s.rules o waiting position word h).0.rows
  other_right (Some name) waiting position word h e p = p
  other_right None waiting position word h e p = go (bytes_eq word (45 ∷ 45 ∷ [])) e
    where
      go : (b : Bool) → cond b [] (flag_word_fault s.rules s.args_override_self (long_of word) word h) ≡ []
          → AreRight s.rules (cond b (h, trailing position) (long_or_other s.rules waiting word (long_of word) h)).0.rows
      go true none = p
      go false none = flag_right s.rules full s.args_override_self waiting word (long_of word) h none p

  word_right : (is_trailing : Bool) (waiting : Waiting) (position : ℕ) (word : Text) (h : Held) → word_fault s names is_trailing waiting word h ≡ [] → AreRight s.rules h.rows
      → AreRight s.rules (word_met s.rules names is_trailing waiting position word h).0.rows
  word_right true waiting position word h e p = p
  word_right false waiting position word h e p = other_right (subcommand_met names waiting word) waiting position word h e p

  other_enters : (o : Option Text) (waiting : Waiting) (position : ℕ) (word : Text) (h : Held) → s.disable_help_subcommand ≡ false → other_fault s o word h ≡ []
      → IsOther s.rules full (subcommand_or_other s.rules o waiting position word h).1
  other_enters (Some name) waiting position word h enabled e = go (bytes_eq name (codes "help")) s.disable_help_subcommand enabled e
    where
      go : (b d : Bool) → d ≡ false → cond (b && not d) (kind.DisplayHelp ∷ kind.InvalidSubcommand ∷ []) [] ≡ [] → b ≡ false
      go false d is none = refl
      go true false is none = cc
      go true true is none = cc
  other_enters None waiting position word h enabled e = go (bytes_eq word (45 ∷ 45 ∷ []))
    where
      go : (b : Bool) → IsOther s.rules full (cond b (h, trailing position) (long_or_other s.rules waiting word (long_of word) h)).1
      go true = tt
      go false = flag_other s.rules full waiting word (long_of word) h

  word_enters : (is_trailing : Bool) (waiting : Waiting) (position : ℕ) (word : Text) (h : Held) → s.disable_help_subcommand ≡ false → word_fault s names is_trailing waiting word h ≡ []
      → IsOther s.rules full (word_met s.rules names is_trailing waiting position word h).1
  word_enters true waiting position word h enabled e = tt
  word_enters false waiting position word h enabled e = other_enters (subcommand_met names waiting word) waiting position word h enabled e

  -- ---- a turn of the walk

  held_right : (a : Rule) (word : Text) (h : Held) → positional_fault s.rules s.args_override_self a h ≡ [] → AreRight s.rules h.rows
      → AreRight s.rules (positional_held s.rules a word h).rows
  held_right a word h e p = go (is_pending a h.pending && takes_several a) e
    where
      go : (b : Bool) → cond b [] (settle_fault s.rules s.args_override_self h) ≡ [] → AreRight s.rules (cond b h (settled s.rules h)).rows
      go true none = p
      go false none = settled_right s.rules full s.args_override_self h none p

  step_right : (word : Text) (w : Walk) (h : Held) (x : Step) → step_fault s w.position h x ≡ [] → AreRight s.rules h.rows → AreRight s.rules (after_step s.rules word w h x).held.rows
  step_right word w h (next waiting) e p = p
  step_right word w h (trailing position) e p = p
  step_right word w h (subcommand name) e p = p
  step_right word w h value e p = go (arg_by_index s.rules w.position) e
    where
      go : (o : Option Rule) → option_map_or (λ a. positional_fault s.rules s.args_override_self a h) o (stray_fault s) ≡ []
          → AreRight s.rules (to_positional s.rules o word w h).held.rows
      go None none = p
      go (Some a) none = held_right a word h none p

  -- the command that was met is not `help`
  abbrev pub IsNoHelp : Option (Text × List Text) → Type 0
  IsNoHelp None = ⊤
  IsNoHelp (Some p) = bytes_eq p.0 (codes "help") ≡ false

  step_enters : (word : Text) (w : Walk) (h : Held) (x : Step) → IsOther s.rules full x → IsNoHelp w.stopped → IsNoHelp (after_step s.rules word w h x).stopped
  step_enters word w h (next waiting) e p = p
  step_enters word w h (trailing position) e p = p
  step_enters word w h (subcommand name) e p = e
  step_enters word w h value e p = go (arg_by_index s.rules w.position)
    where
      go : (o : Option Rule) → IsNoHelp (to_positional s.rules o word w h).stopped
      go None = p
      go (Some a) = tt

  turn_right : (w : Walk) (word : Text) → turn_fault s names w word ≡ [] → AreRight s.rules w.held.rows → AreRight s.rules (walked s.rules names w word).held.rows
  unfolding walked
  turn_right w word e p = go w.stopped e
    where
      go : (o : Option (Text × List Text))
          → cond (is_some o) [] (or_else (word_fault s names w.is_trailing w.waiting word w.held)
          (step_fault s w.position (word_met s.rules names w.is_trailing w.waiting w.position word w.held).0 (word_met s.rules names w.is_trailing w.waiting w.position word w.held).1)) ≡ []
          → AreRight s.rules (walked_from s.rules names o w word).held.rows
      go (Some q) none = p
      go None none =
          let parts = both_none (word_fault s names w.is_trailing w.waiting word w.held) _ none in
          step_right word w _ _ parts.1 (word_right w.is_trailing w.waiting w.position word w.held parts.0 p)

  turn_enters : (w : Walk) (word : Text) → s.disable_help_subcommand ≡ false → turn_fault s names w word ≡ [] → IsNoHelp w.stopped → IsNoHelp (walked s.rules names w word).stopped
  unfolding walked
  turn_enters w word enabled e p = go w.stopped e p
    where
      go : (o : Option (Text × List Text))
          → cond (is_some o) [] (or_else (word_fault s names w.is_trailing w.waiting word w.held)
          (step_fault s w.position (word_met s.rules names w.is_trailing w.waiting w.position word w.held).0 (word_met s.rules names w.is_trailing w.waiting w.position word w.held).1)) ≡ []
          → IsNoHelp o → IsNoHelp (walked_from s.rules names o w word).stopped
      go (Some q) none kept = kept
      go None none kept =
          let parts = both_none (word_fault s names w.is_trailing w.waiting word w.held) _ none in
          step_enters word w _ _ (word_enters w.is_trailing w.waiting w.position word w.held enabled parts.0) p

  -- ---- the walk

  walk_right : (words : List Text) (w : Walk) → walk_fault s names w words ≡ [] → AreRight s.rules w.held.rows → AreRight s.rules (fold (walked s.rules names) w words).held.rows
  unfolding walk_fault
  walk_right [] w e p = p
  walk_right (word ∷ rest) w e p =
      let parts = both_none (turn_fault s names w word) (walk_fault s names (walked s.rules names w word) rest) e in
      walk_right rest (walked s.rules names w word) parts.1 (turn_right w word parts.0 p)

  walk_enters : (words : List Text) (w : Walk) → s.disable_help_subcommand ≡ false → walk_fault s names w words ≡ [] → IsNoHelp w.stopped
      → IsNoHelp (fold (walked s.rules names) w words).stopped
  unfolding walk_fault
  walk_enters [] w enabled e p = p
  walk_enters (word ∷ rest) w enabled e p =
      let parts = both_none (turn_fault s names w word) (walk_fault s names (walked s.rules names w word) rest) e in
      walk_enters rest (walked s.rules names w word) enabled parts.1 (turn_enters w word enabled parts.0 p)

  -- ---- defaults

  default_right : (rows : List Row) (a : Rule) → Has s.rules a → default_fault rows a ≡ [] → AreRight s.rules rows → AreRight s.rules (with_default rows a)
  default_right rows a has e p = go (has_row a.id rows) e
    where
      of : (d : List Text) → cond (is_empty d) [] (or_else (request_kinds (action_of a)) (values_fault a d)) ≡ [] → AreRight s.rules (default_rows a.id (reading_by a) d rows)
      of [] none = p
      of (v ∷ vs) none =
          let some : is_empty (v ∷ vs) ≡ false = not_empty v vs in
          let faults : or_else (request_kinds (action_of a)) (values_fault a (v ∷ vs)) ≡ [] = rw some at none in
          given s.rules full a DefaultValue (v ∷ vs) rows has (not_empty v vs) (values_right s.rules full a has (v ∷ vs) (both_none (request_kinds (action_of a)) _ faults).1) p

      go : (b : Bool) → cond (b || is_empty a.defaults) [] (or_else (request_kinds (action_of a)) (values_fault a a.defaults)) ≡ []
          → AreRight s.rules (cond b rows (default_rows a.id (reading_by a) a.defaults rows))
      go true none = p
      go false none = of a.defaults none

  defaults_right : (xs : List Rule) (rows : List Row) → EachHas s.rules xs → defaults_fault rows xs ≡ [] → AreRight s.rules rows → AreRight s.rules (fold with_default rows xs)
  unfolding defaults_fault
  defaults_right [] rows has e p = p
  defaults_right (a ∷ rest) rows has e p =
      let parts = both_none (default_fault rows a) (defaults_fault (with_default rows a) rest) e in
      defaults_right rest (with_default rows a) has.1 parts.1 (default_right rows a has.0 parts.0 p)

  -- ---- a level of the parse

  pub level_right : (words : List Text) (has : Bool) (below : Kinds) → level_fault s names nothing_held words has below ≡ [] → AreRight s.rules (rows_after s.rules names words)
  level_right words has below e =
      let walking = both_none (walk_fault s names (walk_from nothing_held) words) _ e in
      let under = both_none below _ walking.1 in
      let settling = both_none (settle_fault s.rules s.args_override_self (walk s.rules names nothing_held words).held) _ under.1 in
      let filling = both_none (defaults_fault (settled s.rules (walk s.rules names nothing_held words).held).rows s.rules) _ settling.1 in
      let there = walk_right words (walk_from nothing_held) walking.0 tt in
      defaults_right s.rules _ (each_has s.rules full) filling.0 (settled_right s.rules full s.args_override_self (walk s.rules names nothing_held words).held settling.0 there)

  pub level_enters : (words : List Text) (has : Bool) (below : Kinds) → s.disable_help_subcommand ≡ false → level_fault s names nothing_held words has below ≡ []
      → IsNoHelp (stop_after s.rules names words)
  level_enters words has below enabled e = walk_enters words (walk_from nothing_held) enabled (both_none (walk_fault s names (walk_from nothing_held) words) _ e).0 tt

  -- ---- what must be given

  given_here : (rows : List Row) (xs : List Rule) → list_any (λ a. a.required && not (is_given a.id rows)) xs ≡ false → (id : Text)
      → option_map_or (λ (a : Rule). a.required) (find (λ a. bytes_eq a.id id) xs) false ≡ true → is_given id rows ≡ true
  given_here rows [] none id must = cc
  given_here rows (a ∷ rest) none id must = go (bytes_eq a.id id) refl must (λ m. given_here rows rest (neither _ _ none).1 id m)
    where
      own : (b g : Bool) → (b && not g) ≡ false → b ≡ true → g ≡ true
      own true true e y = refl
      own true false e y = cc
      own false g e y = cc

      go : (b : Bool) → bytes_eq a.id id ≡ b → option_map_or (λ (x : Rule). x.required) (cond b (Some a) (find (λ x. bytes_eq x.id id) rest)) false ≡ true
          → (option_map_or (λ (x : Rule). x.required) (find (λ x. bytes_eq x.id id) rest) false ≡ true → is_given id rows ≡ true) → is_given id rows ≡ true
      go true is m later = subst (λ t. is_given t rows ≡ true) ((bytes_eq-Decides a.id id).0 is) (own a.required (is_given a.id rows) (neither _ _ none).0 m)
      go false is m later = later m

  pub level_given : (words : List Text) (has : Bool) (below : Kinds) → s.subcommand_negates_reqs ≡ false → level_fault s names nothing_held words has below ≡ [] → (id : Text)
      → option_map_or (λ (a : Rule). a.required) (arg_by_id s.rules id) false ≡ true → is_given id (rows_after s.rules names words) ≡ true
  level_given words has below must e id wanted =
      let walking = both_none (walk_fault s names (walk_from nothing_held) words) _ e in
      let under = both_none below _ walking.1 in
      let settling = both_none (settle_fault s.rules s.args_override_self (walk s.rules names nothing_held words).held) _ under.1 in
      let filling = both_none (defaults_fault (settled s.rules (walk s.rules names nothing_held words).held).rows s.rules) _ settling.1 in
      given_here (rows_after s.rules names words) s.rules (checks filling.1) id wanted
    where
      last : (x y n : Bool) (z : Bool) → n ≡ false → check_kinds x y (not (n && has) && z) ≡ [] → z ≡ false
      last true y n z is e = cc
      last false true n z is e = cc
      last false false true z is e = cc
      last false false false true is e = cc
      last false false false false is e = refl

      checks : check_fault s (finished s.rules (walk s.rules names nothing_held words).held) has ≡ []
          → list_any (λ a. a.required && not (is_given a.id (rows_after s.rules names words))) s.rules ≡ false
      checks none = last (not has && (s.arg_required_else_help && not (list_any (λ r. explicit_source r.source) (rows_after s.rules names words)))) (not has && s.subcommand_required)
          s.subcommand_negates_reqs (list_any (λ a. a.required && not (is_given a.id (rows_after s.rules names words))) s.rules) must none

  pub level_below : (words : List Text) (has : Bool) (below : Kinds) → level_fault s names nothing_held words has below ≡ [] → below ≡ []
  level_below words has below e = (both_none below _ (both_none (walk_fault s names (walk_from nothing_held) words) _ e).1).0
