-- The command that a parse meets is one of the table's, and its values are those that the table
-- allows.
use Rattle.std.proofs.Common.{◌≡◌, ◌≢◌, ◌∙◌, ◌≤◌, ◌||◌, ◌⊎◌, inl, inr, ℕ, Bool, cond, codes, true, false, not, refl, sym, ap, subst, arith, List, [], ◌∷◌, ◌++◌, map, drop, length, ◌==◌, pos, negsuc, Option, Some, None, option_map, is_some, unwrap_or, true≢false}
use Rattle.std.specs.Box.{box_value}
use Rattle.std.specs.Prelude.{Box, ⊤, IfSome, IsSome, option_and_then, slice_get}
use Rattle.std.specs.Option.{option_map_or}
use Rattle.std.specs.List.{find, list_all}
use Rattle.std.specs.Str.{bytes_eq}
use Rattle.std.specs.Str.Parse.{IsNumeral, digits_value, starts_with_minus, without_leading_plus}
use Rattle.std.proofs.lemmas.Slice.Eq.{bytes_eq-Decides}
use Rattle.std.proofs.lemmas.Int.{ints}
use Rattle.clap.specs.Lexer.{without_minus}
use Rattle.clap.specs.Facts.{explicit_source}
use Rattle.clap.specs.Values.{IsSignedIn, IsUnsignedIn, read_as}
use Rattle.clap.specs.ValueTests.{is_signed_in, is_unsigned_in}
use Rattle.clap.specs.Walk.{Row, Rule, Text, answers_to, arg_by_id, nothing_held, one_of, row_text, rows_after, rows_of, stop_after}
use Rattle.clap.specs.Simple.{Shape, argument_words, built, built_leaf, entered, help_shape, inherited, label_of, marked_built, matches_of, names_of, on_top, rows_at, subcommand_of, subcommand_rows, subcommand_rows_of, with_leaf_noted}
use Rattle.clap.specs.Matches.{found_of, subcommand_name_of}
use Rattle.clap.specs.declared.parser.matches.ArgMatches.{ArgMatches}
use Rattle.clap.specs.declared.parser.matches.ArgMatches.TheViews.{out-ArgMatches, out-SubCommand}
use Rattle.clap.specs.declared.parser.matches.SubCommand.{SubCommand}
use Rattle.clap.specs.Takes.{is_given}
use Rattle.clap.specs.Faults.{entered_fault, fault_of, level_fault}
use Rattle.clap.specs.declared.builder.value_parser.Reading.{Reading}
use Rattle.clap.specs.declared.builder.value_parser.Reading.TheVariants as reading
use Rattle.clap.specs.declared.builder.value_parser.ValueParser.TheVariants as vp
use Rattle.clap.proofs.WalkLemmas.{both}
use Rattle.std.proofs.lemmas.Bool.{ne_eqb}
use Rattle.std.proofs.lemmas.Str.Parse.{digit_from_value}
use Rattle.clap.proofs.ValueTestLemmas.{accepts-Accepts}
use Rattle.mon_cli.specs.Invocation.{AreAllowed, AreThere, IsAllowed, IsBetween}
use Rattle.mon_cli.specs.Choice.{choices, word_of}
use Rattle.mon_cli.specs.Line.{Argument}
use Rattle.mon_cli.specs.Program.{IsParse, command_app, program}
use Rattle.mon_cli.specs.Table.{arguments, taken}
use Rattle.mon_cli.specs.declared.choice.Choice.{Choice}
use Rattle.mon_cli.specs.declared.choice.Choice.TheVariants as commands
use Rattle.mon_cli.specs.declared.lines.Value.{Value}
use Rattle.mon_cli.specs.declared.lines.Value.TheVariants as value
use Rattle.mon_cli.specs.declared.parser.Lists.{Lists}
use Rattle.mon_cli.proofs.Walked.{AllPass, AreRight, IsNoHelp, has_values, is_read_as, level_below, level_enters, level_given, level_right, passes, same_reading}

-- ---- the commands that are met

-- a command of the table, built
abbrev pub leaf : Lists → Choice → Shape
leaf lists choice = built_leaf (inherited (on_top with_leaf_noted (on_top marked_built (program lists))).top (command_app lists choice).top)

its_name : (lists : Lists) (choice : Choice) → (leaf lists choice).name ≡ word_of choice
its_name lists commands.Replay = refl
its_name lists commands.Get = refl
its_name lists commands.Next = refl
its_name lists commands.Bulk = refl
its_name lists commands.Walk = refl
its_name lists commands.Set = refl
its_name lists commands.Settings = refl
its_name lists commands.Agent = refl
its_name lists commands.Answer = refl
its_name lists commands.Mib = refl
its_name lists commands.Station = refl
its_name lists commands.Report = refl
its_name lists commands.Carry = refl
its_name lists commands.Healthz = refl
its_name lists commands.SelfTest = refl
its_name lists commands.Rehearse = refl

found_among : (f : Choice → Shape) (last : Shape) (p : Shape → Bool) (xs : List Choice) (s : Shape) → find p (map f xs ++ last ∷ []) ≡ Some s
    → ((x : Choice) × (s ≡ f x)) ⊎ (p last ≡ true)
found_among f last p [] s is = go (p last) refl is
  where
    go : (b : Bool) → p last ≡ b → cond b (Some last) None ≡ Some s → ((x : Choice) × (s ≡ f x)) ⊎ (p last ≡ true)
    go true e i = inr e
    go false e i = cc
found_among f last p (x ∷ xs) s is = go (p (f x)) is (λ i. found_among f last p xs s i)
  where
    go : (b : Bool) → cond b (Some (f x)) (find p (map f xs ++ last ∷ [])) ≡ Some s
        → (find p (map f xs ++ last ∷ []) ≡ Some s → ((y : Choice) × (s ≡ f y)) ⊎ (p last ≡ true)) → ((y : Choice) × (s ≡ f y)) ⊎ (p last ≡ true)
    go true i later =
        let same : s ≡ f x = cc in
        inl (x, same)
    go false i later = later i

-- the rows are those of a parse of this command that has no fault
abbrev pub IsMet : Lists → Choice → List Row → Type 0
IsMet lists choice rows = (rest : List Text) × (rows ≡ rows_after (leaf lists choice).rules [] rest) × (level_fault (leaf lists choice) [] nothing_held rest false [] ≡ [])

module _ (lists : Lists) (words : List Text) (command : Text × List Row) where
  abbrev Result : Type 0
  Result = (choice : Choice) × (command.0 ≡ word_of choice) × IsMet lists choice command.1

  by_shape : (p : Text × List Text) (o : Option Shape) → find (λ s. answers_to p.0 (label_of s)) (map (leaf lists) choices ++ built_leaf help_shape ∷ []) ≡ o
      → bytes_eq p.0 (codes "help") ≡ false → option_map_or (λ s. level_fault s [] nothing_held p.1 false []) o [] ≡ []
      → option_map (λ s. rows_at s p.1) o ≡ Some command → Result
  by_shape p None found away none is = cc
  by_shape p (Some s) found away none is = elim (found_among (leaf lists) (built_leaf help_shape) (λ x. answers_to p.0 (label_of x)) choices s found) [
    | inl own ↦
        let same : rows_at s p.1 ≡ command = cc in (
          own.0,
          ap (λ x. x.0) (sym same) ∙ (ap (λ (x : Shape). x.name) own.1 ∙ its_name lists own.0),
          (
            p.1,
            ap (λ x. x.1) (sym same) ∙ ap (λ (x : Shape). rows_after x.rules [] p.1) own.1,
            subst (λ (x : Shape). level_fault x [] nothing_held p.1 false [] ≡ []) own.1 none,
          ),
        )
    | inr help ↦ absurd (true≢false (sym (its_word p.0 help) ∙ away))
  ]
    where
      its_word : (t : Text) → (bytes_eq (codes "help") t || false) ≡ true → bytes_eq t (codes "help") ≡ true
      its_word t e = go (bytes_eq (codes "help") t) refl e
        where
          go : (b : Bool) → bytes_eq (codes "help") t ≡ b → (b || false) ≡ true → bytes_eq t (codes "help") ≡ true
          go true is e = (bytes_eq-Decides t (codes "help")).1 (sym ((bytes_eq-Decides (codes "help") t).0 is))
          go false is e = absurd (true≢false (sym e))

  by_stop : (stop : Option (Text × List Text)) → IsNoHelp (built (program lists)).top (names_of (built (program lists))) refl stop → entered_fault (built (program lists)) stop ≡ []
      → entered (built (program lists)) stop ≡ Some command → Result
  by_stop None away none is = cc
  by_stop (Some p) away none is = by_shape p (find (λ s. answers_to p.0 (label_of s)) (map (leaf lists) choices ++ built_leaf help_shape ∷ [])) refl away none is

  -- the command that the arguments name is one of the table's
  pub met : fault_of (program lists) words ≡ [] → subcommand_of (program lists) words ≡ Some command → Result
  met none is =
      let top : Shape = (built (program lists)).top in
      let stop : Option (Text × List Text) = stop_after top.rules (names_of (built (program lists))) (argument_words (program lists) words) in
      by_stop stop
      (level_enters top (names_of (built (program lists))) refl (argument_words (program lists) words) (is_some (entered (built (program lists)) stop)) (entered_fault (built (program lists)) stop) refl none)
      (level_below top (names_of (built (program lists))) refl (argument_words (program lists) words) (is_some (entered (built (program lists)) stop)) (entered_fault (built (program lists)) stop) none)
      is

-- ---- what is read under an id

-- the text is read, as an argument of this id reads, of a value that such an argument takes
abbrev IsRead : List Rule → Text → Text → Type 0
IsRead c id t = (how : Reading) × (v : Text) × (t ≡ read_as how v) × (passes c id v ≡ true) × (is_read_as c id how ≡ true)

one_right : (c : List Rule) (id : Text) (rows : List Row) → AreRight c rows → IfSome (one_of id rows) (IsRead c id)
one_right c id [] p = tt
one_right c id (r ∷ rs) p = go (bytes_eq r.id id) refl (one_right c id rs p.1)
  where
    first : (vs : List Text) → AllPass c r.id vs → r.id ≡ id → IfSome (option_map (read_as r.reading) (slice_get vs 0)) (IsRead c id)
    first [] a same = tt
    first (v ∷ vs) a same = (r.reading, v, refl, subst (λ t. passes c t v ≡ true) same a.0, subst (λ t. is_read_as c t r.reading ≡ true) same p.0.1)

    go : (b : Bool) → bytes_eq r.id id ≡ b → IfSome (one_of id rs) (IsRead c id) → IfSome (option_and_then row_text (cond b (Some r) (find (λ x. bytes_eq x.id id) rs))) (IsRead c id)
    go true is later = first r.values p.0.0 ((bytes_eq-Decides r.id id).0 is)
    go false is later = later

one_given : (c : List Rule) (id : Text) (rows : List Row) → AreRight c rows → is_given id rows ≡ true → IsSome (one_of id rows)
one_given c id [] p e = cc
one_given c id (r ∷ rs) p e = go (bytes_eq r.id id) e (λ f. one_given c id rs p.1 f)
  where
    first : (vs : List Text) → (length vs == 0) ≡ false → IsSome (option_map (read_as r.reading) (slice_get vs 0))
    first [] some = cc
    first (v ∷ vs) some = refl

    go : (b : Bool) → option_map_or (λ (x : Row). explicit_source x.source) (cond b (Some r) (find (λ x. bytes_eq x.id id) rs)) false ≡ true
        → (is_given id rs ≡ true → IsSome (one_of id rs)) → IsSome (option_and_then row_text (cond b (Some r) (find (λ x. bytes_eq x.id id) rs)))
    go true i later = first r.values p.0.2
    go false i later = later i

-- ---- numbers

no_plus : (ds : List ℕ) → IsNumeral 10 ds → without_leading_plus ds ≡ ds
no_plus [] h = refl
no_plus (d ∷ ds) h =
    let plus : (d == 43) ≡ false = ne_eqb _ _ (λ e. omega (arith, digit_from_value d h.1.0)) in
    ap (λ (b : Bool). drop (cond b 1 0) (d ∷ ds)) plus

without_minus-cond : (t : List ℕ) → without_minus t ≡ cond (starts_with_minus t) (drop 1 t) t
without_minus-cond [] = refl
without_minus-cond (x ∷ xs) = go (x == 45)
  where
    go : (b : Bool) → unwrap_or (cond b (Some xs) None) (x ∷ xs) ≡ cond b xs (x ∷ xs)
    go true = refl
    go false = refl

signed_between : (low high : ℕ) (v : Text) → IsSignedIn (pos low) (pos high) v → IsBetween low high (without_minus v)
signed_between low high v h = subst (IsBetween low high) (sym (without_minus-cond v)) (go (starts_with_minus v) refl)
  where
    go : (b : Bool) → starts_with_minus v ≡ b → IsBetween low high (cond b (drop 1 v) v)
    go true minus =
        let numeral : IsNumeral 10 (drop 1 v) = rw minus at h.0 in
        let low_ok = rw minus at h.2 in
        let same = no_plus (drop 1 v) numeral in
        subst (λ ds. IsNumeral 10 ds × (low ≤ digits_value 10 ds) × (digits_value 10 ds ≤ high)) (sym same) (numeral, omega (arith, ints), omega (arith, ints))
    go false minus =
        let numeral : IsNumeral 10 (without_leading_plus v) = rw minus at h.0 in
        let low_ok = rw minus at h.2 in
        let high_ok = rw minus at h.3 in
        (numeral, omega (arith, ints), omega (arith, ints))

-- ---- the arguments of a command

-- the values that such an argument takes under its id, and how they are read
abbrev Fits : List Rule → Text → Value → Type 0
Fits c id (value.Number (pos low) (pos high)) = ((v : Text) → passes c id v ≡ true → is_signed_in (pos low) (pos high) v ≡ true) × ((how : Reading) → is_read_as c id how ≡ true → how ≡ reading.WithoutMinus)
Fits c id (value.Natural low high) = ((v : Text) → passes c id v ≡ true → is_unsigned_in low high v ≡ true) × ((how : Reading) → is_read_as c id how ≡ true → how ≡ reading.AsWritten)
Fits c id _ = ⊤

abbrev AllFit : List Rule → List Argument → Type 0
AllFit c [] = ⊤
AllFit c (a ∷ rest) = Fits c a.id (taken a.takes) × AllFit c rest

read_allowed : (c : List Rule) (id t : Text) (w : Value) → Fits c id w → IsRead c id t → IsAllowed w t
read_allowed c id t value.Text fits read = tt
read_allowed c id t value.Format fits read = tt
read_allowed c id t value.Kind fits read = tt
read_allowed c id t value.Sort fits read = tt
read_allowed c id t (value.Number (pos low) (negsuc high)) fits read = tt
read_allowed c id t (value.Number (negsuc low) high) fits read = tt
read_allowed c id t (value.Number (pos low) (pos high)) fits read =
    let how : read.0 ≡ reading.WithoutMinus = fits.1 read.0 read.4 in
    let same : t ≡ without_minus read.1 = read.2 ∙ ap (λ w. read_as w read.1) how in
    subst (IsBetween low high) (sym same) (signed_between low high read.1 (accepts-Accepts false (vp.Signed (pos low) (pos high)) read.1 (fits.0 read.1 read.3)))
read_allowed c id t (value.Natural low high) fits read =
    let how : read.0 ≡ reading.AsWritten = fits.1 read.0 read.4 in
    let same : t ≡ read.1 = read.2 ∙ ap (λ w. read_as w read.1) how in
    let is : IsUnsignedIn low high read.1 = accepts-Accepts false (vp.Unsigned low high) read.1 (fits.0 read.1 read.3) in
    subst (IsBetween low high) (sym same) (is.0, is.2, is.3)

if_some : (o : Option Text) (P Q : Text → Type 0) → ((t : Text) → P t → Q t) → IfSome o P → IfSome o Q
if_some None P Q f h = tt
if_some (Some t) P Q f h = f t h

all_allowed : (c : List Rule) (rows : List Row) (args : List Argument) → AreRight c rows → AllFit c args → AreAllowed args rows
all_allowed c rows [] right fits = tt
all_allowed c rows (a ∷ rest) right fits = (
  if_some (one_of a.id rows) (IsRead c a.id) (IsAllowed (taken a.takes)) (λ t. read_allowed c a.id t (taken a.takes) fits.0) (one_right c a.id rows right),
  all_allowed c rows rest right fits.1,
)

-- the argument of this id must be given
abbrev is_wanted : List Rule → Text → Bool
is_wanted c id = option_map_or (λ (r : Rule). r.required) (arg_by_id c id) false

all_there : (c : List Rule) (rows : List Row) (args : List Argument) → AreRight c rows → ((id : Text) → is_wanted c id ≡ true → is_given id rows ≡ true)
    → list_all (λ a. not a.needed || is_wanted c a.id) args ≡ true → AreThere args rows
all_there c rows [] right given wanted = tt
all_there c rows (a ∷ rest) right given wanted =
    let parts = both (not a.needed || is_wanted c a.id) (list_all (λ x. not x.needed || is_wanted c x.id) rest) wanted in
    (λ must. one_given c a.id rows right (given a.id (go a.needed (is_wanted c a.id) must parts.0)), all_there c rows rest right given parts.1)
  where
    go : (n w : Bool) → n ≡ true → (not n || w) ≡ true → w ≡ true
    go true w must e = e
    go false w must e = cc

-- ---- the program

or_false : (b : Bool) → (b || false) ≡ true → b ≡ true
or_false true e = refl
or_false false e = e

by_sign : (how : Reading) → (same_reading reading.WithoutMinus how || false) ≡ true → how ≡ reading.WithoutMinus
by_sign reading.AsWritten e = cc
by_sign reading.WithoutMinus e = refl
by_sign reading.Boolish e = cc
by_sign reading.Falsey e = cc

by_itself : (how : Reading) → (same_reading reading.AsWritten how || false) ≡ true → how ≡ reading.AsWritten
by_itself reading.AsWritten e = refl
by_itself reading.WithoutMinus e = cc
by_itself reading.Boolish e = cc
by_itself reading.Falsey e = cc

-- each number of the table is the value of one argument
fits : (lists : Lists) (choice : Choice) → AllFit (leaf lists choice).rules (arguments choice)
fits lists commands.Replay = ((λ v e. or_false _ e, by_sign), (tt, (tt, (tt, (tt, (tt, tt))))))
fits lists commands.Get = (tt, (tt, (tt, (tt, (tt, tt)))))
fits lists commands.Next = (tt, (tt, (tt, (tt, (tt, tt)))))
fits lists commands.Bulk = (tt, (tt, (tt, (tt, (tt, ((λ v e. or_false _ e, by_sign), ((λ v e. or_false _ e, by_sign), tt)))))))
fits lists commands.Walk = (tt, (tt, (tt, ((λ v e. or_false _ e, by_sign), (tt, (tt, tt))))))
fits lists commands.Set = (tt, (tt, (tt, (tt, (tt, (tt, (tt, tt)))))))
fits lists commands.Settings = (tt, (tt, ((λ v e. or_false _ e, by_sign), (tt, (tt, ((λ v e. or_false _ e, by_sign), ((λ v e. or_false _ e, by_sign), ((λ v e. or_false _ e, by_sign), (tt, (tt, (tt, (tt, (tt, (tt, (tt, ((λ v e. or_false _ e, by_sign), ((λ v e. or_false _ e, by_sign), (tt, (tt, (tt, (tt, tt)))))))))))))))))))))
fits lists commands.Agent = (tt, ((λ v e. or_false _ e, by_sign), ((λ v e. or_false _ e, by_sign), tt)))
fits lists commands.Answer = (tt, ((λ v e. or_false _ e, by_sign), ((λ v e. or_false _ e, by_itself), ((λ v e. or_false _ e, by_itself), ((λ v e. or_false _ e, by_sign), (tt, (tt, tt)))))))
fits lists commands.Mib = (tt, (tt, tt))
fits lists commands.Station = (tt, ((λ v e. or_false _ e, by_sign), (tt, (tt, ((λ v e. or_false _ e, by_sign), ((λ v e. or_false _ e, by_sign), ((λ v e. or_false _ e, by_sign), ((λ v e. or_false _ e, by_sign), ((λ v e. or_false _ e, by_sign), ((λ v e. or_false _ e, by_sign), (tt, (tt, (tt, (tt, (tt, (tt, (tt, (tt, (tt, (tt, (tt, (tt, tt))))))))))))))))))))))
fits lists commands.Report = (tt, (tt, (tt, (tt, (tt, (tt, (tt, (tt, (tt, tt)))))))))
fits lists commands.Carry = (tt, (tt, (tt, (tt, (tt, tt)))))
fits lists commands.Healthz = (tt, tt)
fits lists commands.SelfTest = tt
fits lists commands.Rehearse = (tt, ((λ v e. or_false _ e, by_sign), tt))

-- what the table requires must be given
wanted : (lists : Lists) (choice : Choice) → list_all (λ a. not a.needed || is_wanted (leaf lists choice).rules a.id) (arguments choice) ≡ true
wanted lists commands.Replay = refl
wanted lists commands.Get = refl
wanted lists commands.Next = refl
wanted lists commands.Bulk = refl
wanted lists commands.Walk = refl
wanted lists commands.Set = refl
wanted lists commands.Settings = refl
wanted lists commands.Agent = refl
wanted lists commands.Answer = refl
wanted lists commands.Mib = refl
wanted lists commands.Station = refl
wanted lists commands.Report = refl
wanted lists commands.Carry = refl
wanted lists commands.Healthz = refl
wanted lists commands.SelfTest = refl
wanted lists commands.Rehearse = refl

-- and nothing is required of a command with another command below it
leaves : (lists : Lists) (choice : Choice) → (list_all has_values (leaf lists choice).rules ≡ true) × ((leaf lists choice).subcommand_negates_reqs ≡ false)
leaves lists commands.Replay = (refl, refl)
leaves lists commands.Get = (refl, refl)
leaves lists commands.Next = (refl, refl)
leaves lists commands.Bulk = (refl, refl)
leaves lists commands.Walk = (refl, refl)
leaves lists commands.Set = (refl, refl)
leaves lists commands.Settings = (refl, refl)
leaves lists commands.Agent = (refl, refl)
leaves lists commands.Answer = (refl, refl)
leaves lists commands.Mib = (refl, refl)
leaves lists commands.Station = (refl, refl)
leaves lists commands.Report = (refl, refl)
leaves lists commands.Carry = (refl, refl)
leaves lists commands.Healthz = (refl, refl)
leaves lists commands.SelfTest = (refl, refl)
leaves lists commands.Rehearse = (refl, refl)

met_right : (lists : Lists) (choice : Choice) (rows : List Row) → IsMet lists choice rows → AreRight (leaf lists choice).rules rows
met_right lists choice rows is = subst (AreRight (leaf lists choice).rules) (sym is.1) (level_right (leaf lists choice) [] (leaves lists choice).0 is.0 false [] is.2)

pub met_allowed : (lists : Lists) (choice : Choice) (rows : List Row) → IsMet lists choice rows → AreAllowed (arguments choice) rows
met_allowed lists choice rows is = all_allowed (leaf lists choice).rules rows (arguments choice) (met_right lists choice rows is) (fits lists choice)

pub met_there : (lists : Lists) (choice : Choice) (rows : List Row) → IsMet lists choice rows → AreThere (arguments choice) rows
met_there lists choice rows is =
    all_there (leaf lists choice).rules rows (arguments choice) (met_right lists choice rows is)
    (λ id must. subst (λ r. is_given id r ≡ true) (sym is.1) (level_given (leaf lists choice) [] (leaves lists choice).0 is.0 false [] (leaves lists choice).1 is.2 id must))
    (wanted lists choice)

-- before any command there is no number
pub first_allowed : (lists : Lists) (words : List Text) (rows : List Row) → fault_of (program lists) words ≡ [] → rows ≡ matches_of (program lists) words
    → AreAllowed (arguments commands.Replay) rows
first_allowed lists words rows none is =
    let top : Shape = (built (program lists)).top in
    let stop : Option (Text × List Text) = stop_after top.rules (names_of (built (program lists))) (argument_words (program lists) words) in
    let right : AreRight top.rules (matches_of (program lists) words) = level_right top (names_of (built (program lists))) refl (argument_words (program lists) words)
    (is_some (entered (built (program lists)) stop)) (entered_fault (built (program lists)) stop) none in
    subst (AreAllowed (arguments commands.Replay)) (sym is)
    (all_allowed top.rules (matches_of (program lists) words) (arguments commands.Replay) right ((λ v e. absurd (true≢false (sym e)), λ how e. absurd (true≢false (sym e))), (tt, (tt, (tt, (tt, (tt, tt)))))))

-- ---- the matches of a parse

found_by : Text → Option Choice
found_by t = find (λ x. bytes_eq (word_of x) t) choices

finds : (x : Choice) → found_by (word_of x) ≡ Some x
unfolding found_by
finds commands.Replay = refl
finds commands.Get = refl
finds commands.Next = refl
finds commands.Bulk = refl
finds commands.Walk = refl
finds commands.Set = refl
finds commands.Settings = refl
finds commands.Agent = refl
finds commands.Answer = refl
finds commands.Mib = refl
finds commands.Station = refl
finds commands.Report = refl
finds commands.Carry = refl
finds commands.Healthz = refl
finds commands.SelfTest = refl
finds commands.Rehearse = refl

-- a word names one command
one_command : (x y : Choice) → word_of x ≡ word_of y → x ≡ y
one_command x y same =
    let both : Some x ≡ Some y = sym (finds x) ∙ (ap found_by same ∙ finds y) in
    cc

module _ {Z : Type 0} where
  joined : (o : Option (Box SubCommand Z)) (name : Text) (rows : List Row) → Some name ≡ option_map (λ b. (out-SubCommand (box_value b)).name.now) o
      → Some rows ≡ option_map (λ p. p.1) (subcommand_rows o) → subcommand_rows o ≡ Some (name, rows)
  joined None name rows n r = cc
  joined (Some b) name rows n r =
      let own : name ≡ (out-SubCommand (box_value b)).name.now = cc in
      let its : rows ≡ rows_of (found_of (out-SubCommand (box_value b)).matches) = cc in
      λ i. Some (sym own i, sym its i)

module _ (m : ArgMatches) (parse : IsParse m) where
  module _ (name : Text) (rows : List Row) (names : Some name ≡ subcommand_name_of m) (gives : Some rows ≡ option_map (λ p. p.1) (subcommand_rows_of m)) where
    here : (choice : Choice) × (name ≡ word_of choice) × IsMet parse.1.0 choice rows
    here = met parse.1.0 parse.0 (name, rows) parse.1.2 (sym parse.1.4 ∙ joined (out-ArgMatches m).subcommand name rows names gives)

    pub is_command : ((choice : Choice) → name ≢ word_of choice) → ⊥
    is_command none = none here.0 here.1

    met_by : (choice : Choice) → name ≡ word_of choice → IsMet parse.1.0 choice rows
    met_by choice is = subst (λ x. IsMet parse.1.0 x rows) (one_command here.0 choice (sym here.1 ∙ is)) here.2

    pub command_allowed : (choice : Choice) → name ≡ word_of choice → AreAllowed (arguments choice) rows
    command_allowed choice is = met_allowed parse.1.0 choice rows (met_by choice is)

    pub command_there : (choice : Choice) → name ≡ word_of choice → AreThere (arguments choice) rows
    command_there choice is = met_there parse.1.0 choice rows (met_by choice is)

  pub none_allowed : AreAllowed (arguments commands.Replay) (rows_of (found_of m))
  none_allowed = first_allowed parse.1.0 parse.0 (rows_of (found_of m)) parse.1.2 parse.1.3
