-- What a text resolves to, by the function, is the identifier that it means.
use Rattle.std.proofs.Common.{◌≡◌, ◌↔◌, ℕ, zero, suc, ◌+◌, ◌<◌, ◌^◌, ◌==◌, true, false, ◌&&◌, ◌||◌, nat_lt, List, [], ◌∷◌, ◌++◌, length, map, slice_index, append-nil, Option, Some, None, refl, sym, ap, ◌∙◌, subst, arith, inl, inr}
use Rattle.std.specs.Prelude.{option_and_then, decimal, All}
use Rattle.std.specs.Char.{is_ascii_alphabetic}
use Rattle.std.specs.List.{list_all, slice_split}
use Rattle.std.specs.Option.{option_or}
use Rattle.std.specs.Str.{bytes_eq}
use Rattle.std.specs.Str.Parse.{digits_value}
use Rattle.std.proofs.lemmas.Bool.{and_parts, cases_Bool}
use Rattle.std.proofs.lemmas.Bool.Decides.{nat_tests}
use Rattle.std.proofs.lemmas.Fmt.{digits_decimal}
use Rattle.std.proofs.lemmas.List.Elements.{All-cons, All-tail, All-nil}
use Rattle.std.proofs.lemmas.List.Splits.{slice_split_none, slice_split_at}
use Rattle.std.proofs.lemmas.Slice.Eq.{bytes_eq-Decides}
use Rattle.mon_oid.specs.Oid.{IsOid, dotted}
use Rattle.mon_smi.specs.Names.{IsNamed, MeansNumbers, StandsFor}
use Rattle.mon_smi.specs.Nearest.{dotted_after}
use Rattle.mon_smi.specs.Parents.{numbers_of}
use Rattle.mon_smi.specs.Words.{is_part, GoesOn, IsWord}
use Rattle.mon_smi.specs.declared.definition.Definition.{Definition}
use Rattle.mon_settings.specs.StationAccepted.{Resolves}
use Rattle.mon_settings.specs.Leaf.{is_oid, oid_of}
use Rattle.mon_settings.specs.Resolving.{all_go_on, is_word, is_named, checked_name, name_in_parts, name_of_text, only_oid, oid_of_name, resolution}
use Rattle.mon_settings.proofs.Insertions.{then_from}
use Rattle.mon_settings.proofs.Oids.{is_dot, no_dots, values, small_true, true_small, own, is_oid-true, true-is_oid, oid_sound, oid_complete}

-- a test of bytes that go on
one_on : (b : ℕ) (bs : List ℕ) → (is_part b || (b == 45 && is_part (slice_index bs 0))) ≡ true → GoesOn (b ∷ bs) 0
one_on b bs h =
    elim (cases_Bool (is_part b)) [
      | inl part ↦ inl part
      | inr other ↦
          let hyphen : (b == 45 && is_part (slice_index bs 0)) ≡ true = rw other at h in
          let (is, more) = and_parts (b == 45) (is_part (slice_index bs 0)) hyphen in
          inr (grind (arith, nat_tests), more)
    ]

on_one : (b : ℕ) (bs : List ℕ) → GoesOn (b ∷ bs) 0 → (is_part b || (b == 45 && is_part (slice_index bs 0))) ≡ true
on_one b bs (inl part) = rw part
on_one b bs (inr (is, more)) =
    let hyphen : (b == 45) ≡ true = grind (arith, nat_tests) in
    elim (cases_Bool (is_part b)) [
      | inl part ↦ rw part
      | inr other ↦ rw (other, hyphen, more)
    ]

later : (b : ℕ) (bs : List ℕ) (i : ℕ) → slice_index (b ∷ bs) (suc i + 1) ≡ slice_index bs (i + 1)
later b bs i = let same : suc i + 1 ≡ suc (i + 1) = omega arith in ap (slice_index (b ∷ bs)) same

on_from : (w : List ℕ) → all_go_on w ≡ true → (i : ℕ) → i < length w → GoesOn w i
on_from [] h i lt = absurd (omega arith)
on_from (b ∷ bs) h zero lt = one_on b bs (and_parts (is_part b || (b == 45 && is_part (slice_index bs 0))) (all_go_on bs) h).0
on_from (b ∷ bs) h (suc i) lt =
    let rest = (and_parts (is_part b || (b == 45 && is_part (slice_index bs 0))) (all_go_on bs) h).1 in
    elim (on_from bs rest i (omega arith)) [
      | inl part ↦ inl part
      | inr hyphen ↦ inr (hyphen.0, ap is_part (later b bs i) ∙ hyphen.1)
    ]

on_to : (w : List ℕ) → ((i : ℕ) → i < length w → GoesOn w i) → all_go_on w ≡ true
on_to [] h = refl
on_to (b ∷ bs) h =
    let here = on_one b bs (h 0 (omega arith)) in
    let rest : all_go_on bs ≡ true = on_to bs (λ i lt. elim (h (suc i) (omega arith)) [
      | inl part ↦ inl part
      | inr hyphen ↦ inr (hyphen.0, ap is_part (sym (later b bs i)) ∙ hyphen.1)
    ]) in
    rw (here, rest)

pub word_is : (w : List ℕ) → (is_word w ≡ true) ↔ IsWord w
word_is w = (
  λ h.
      let (letter, rest) = and_parts (is_ascii_alphabetic (slice_index w 0)) (all_go_on w) h in
      record { letter = letter; goes_on = on_from w rest },
  λ h. rw (h.letter, on_to w h.goes_on),
)

-- a part of a word is no dot
part_no_dot : (c : ℕ) → is_part c ≡ true → is_dot c ≡ false
part_no_dot c h =
    elim (cases_Bool (is_dot c)) [
      | inl dot ↦ let same : c ≡ 46 = grind (arith, nat_tests) in let bad : is_part 46 ≡ true = subst (λ (b : ℕ). is_part b ≡ true) same h in absurd cc
      | inr other ↦ other
    ]

hyphen_no_dot : (c : ℕ) → c ≡ 45 → is_dot c ≡ false
hyphen_no_dot c h = ap is_dot h

word_no_dots : (w : List ℕ) → IsWord w → All (λ b. is_dot b ≡ false) w
word_no_dots w word = by_places w (λ i lt. elim (word.goes_on i lt) [
  | inl part ↦ part_no_dot (slice_index w i) part
  | inr hyphen ↦ hyphen_no_dot (slice_index w i) hyphen.0
])
  where
    by_places : (w : List ℕ) → ((i : ℕ) → i < length w → is_dot (slice_index w i) ≡ false) → All (λ b. is_dot b ≡ false) w
    by_places [] h = All-nil (λ b. is_dot b ≡ false)
    by_places (b ∷ bs) h = All-cons (λ c. is_dot c ≡ false) b bs (h 0 (omega arith)) (by_places bs (λ i lt. h (suc i) (omega arith)))

-- a name in the parts between its dots
abbrev AreSmall : List ℕ → Type 0
AreSmall numbers = All (λ n. n < 2 ^ 32) numbers

split_named : (w rest : List ℕ) → All (λ b. is_dot b ≡ false) w → AreSmall rest → slice_split is_dot (w ++ dotted_after rest) ≡ w ∷ map decimal rest
split_named w [] plain small = ap (slice_split is_dot) (append-nil w) ∙ slice_split_none is_dot w plain
split_named w (y ∷ ys) plain small =
    let first : y < 2 ^ 32 = small 0 y (omega arith) in
    slice_split_at is_dot w 46 (decimal y ++ dotted_after ys) plain refl
    ∙ ap (λ t. w ∷ t) (split_named (decimal y) ys (no_dots (decimal y) (digits_decimal own y (omega (arith, first)))) (All-tail (λ n. n < 2 ^ 32) y ys small))

after_dot : (y : ℕ) (ys : List ℕ) → dotted_after (y ∷ ys) ≡ 46 ∷ dotted (y ∷ ys)
after_dot y [] = append-nil (46 ∷ decimal y)
after_dot y (z ∷ zs) = ap (λ (l : List ℕ). (46 ∷ decimal y) ++ l) (after_dot z zs)

-- the text of a name
written : (text w rest : List ℕ) → IsNamed text w rest → (text ≡ w ++ dotted_after rest) × AreSmall rest
written text w rest (word, inl alone) = (alone.0 ∙ sym (append-nil w) ∙ ap (λ (l : List ℕ). w ++ dotted_after l) (sym alone.1), subst AreSmall (sym alone.1) (All-nil (λ n. n < 2 ^ 32)))
written text w [] (word, inr (d, is, spelled)) = let none = spelled.numbers.some in absurd (omega arith)
written text w (y ∷ ys) (word, inr (d, is, spelled)) =
    (is ∙ ap (λ (l : List ℕ). w ++ 46 ∷ l) spelled.is ∙ ap (λ (l : List ℕ). w ++ l) (sym (after_dot y ys)), spelled.numbers.small)

read_as : (text w rest : List ℕ) → IsWord w → AreSmall rest → text ≡ w ++ dotted_after rest → IsNamed text w rest
read_as text w [] word small is = (word, inl (is ∙ append-nil w, refl))
read_as text w (y ∷ ys) word small is =
    (word, inr (dotted (y ∷ ys), is ∙ ap (λ (l : List ℕ). w ++ l) (after_dot y ys), record { numbers = record { some = omega arith; small = small }; is = refl }))

abbrev some_name : List ℕ × List ℕ → Option (List ℕ × List ℕ)
some_name n = Some n

same_name : (a b : List ℕ × List ℕ) → some_name a ≡ some_name b → a ≡ b
same_name a b h = cc

checked_from : (text v parts w rest : List ℕ) → checked_name text v parts ≡ Some (w, rest) → IsNamed text w rest
checked_from text v parts w rest h =
    elim (cases_Bool (is_named text v parts)) [
      | inl is ↦
          let (word, more) = and_parts (is_word v) (list_all (λ n. nat_lt n (2 ^ 32)) parts && bytes_eq text (v ++ dotted_after parts)) is in
          let (small, same) = and_parts (list_all (λ n. nat_lt n (2 ^ 32)) parts) (bytes_eq text (v ++ dotted_after parts)) more in
          let named = read_as text v parts ((word_is v).0 word) (true_small parts small) ((bytes_eq-Decides text (v ++ dotted_after parts)).0 same) in
          let found : some_name (v, parts) ≡ some_name (w, rest) = rw is at h in
          let same : (v, parts) ≡ (w, rest) = same_name (v, parts) (w, rest) found in
          subst (λ (n : List ℕ × List ℕ). IsNamed text n.0 n.1) same named
      | inr other ↦ let nothing : None ≡ some_name (w, rest) = rw other at h in absurd cc
    ]

parts_from : (text : List ℕ) (parts : List (List ℕ)) (w rest : List ℕ) → name_in_parts text parts ≡ Some (w, rest) → IsNamed text w rest
parts_from text [] w rest h = absurd cc
parts_from text (v ∷ parts) w rest h = checked_from text v (map (digits_value 10) parts) w rest h

pub name_from : (text w rest : List ℕ) → name_of_text text ≡ Some (w, rest) → IsNamed text w rest
name_from text w rest h = parts_from text (slice_split is_dot text) w rest h

pub name_to : (text w rest : List ℕ) → IsNamed text w rest → name_of_text text ≡ Some (w, rest)
name_to text w rest named =
    let (is, small) = written text w rest named in
    let parts : slice_split is_dot text ≡ w ∷ map decimal rest = ap (slice_split is_dot) is ∙ split_named w rest (word_no_dots w named.0) small in
    let test : is_named text w rest ≡ true = rw ((word_is w).1 named.0, small_true rest small) ((bytes_eq-Decides text (w ++ dotted_after rest)).1 is) in
    ap (name_in_parts text) parts ∙ ap (checked_name text w) (values rest small) ∙ rw test

oid_from : (p q : List ℕ) → only_oid p ≡ Some q → IsOid q × (p ≡ q)
oid_from p q h =
    elim (cases_Bool (is_oid p)) [
      | inl is ↦
          let found : Some p ≡ Some q = rw is at h in
          let same : p ≡ q = cc in
          (subst IsOid same (true-is_oid p is), same)
      | inr other ↦ let nothing : None ≡ Some q = rw other at h in absurd cc
    ]

abbrev pub Follows : List Definition → Type 0
Follows defs = (w q : List ℕ) → (numbers_of defs w ≡ Some q) ↔ StandsFor defs w q

abbrev pub MeansOne : List Definition → Type 0
MeansOne defs = (text p q : List ℕ) → MeansNumbers defs text p → MeansNumbers defs text q → p ≡ q

module _ (defs : List Definition) (follows : Follows defs) (one : MeansOne defs) (text q : List ℕ) where
  named_from : option_and_then (oid_of_name defs) (name_of_text text) ≡ Some q → IsOid q × MeansNumbers defs text q
  named_from h =
      let (name, is, more) = then_from (name_of_text text) (oid_of_name defs) q h in
      let (known, stands, whole) = then_from (numbers_of defs name.0) (λ known. only_oid (known ++ name.1)) q more in
      let (oid, same) = oid_from (known ++ name.1) q whole in
      (oid, inr (name.0, name.1, known, name_from text name.0 name.1 is, (follows name.0 known).0 stands, sym same))

  either_from : (o : Option (List ℕ)) → oid_of text ≡ o → option_or o (option_and_then (oid_of_name defs) (name_of_text text)) ≡ Some q → IsOid q × MeansNumbers defs text q
  either_from None is h = named_from h
  either_from (Some p) is h =
      let same : p ≡ q = cc in
      let both = oid_sound text q (is ∙ ap Some same) in
      (both.0, inl both.1)

  named_to : (w rest known : List ℕ) → IsNamed text w rest → StandsFor defs w known → q ≡ known ++ rest → IsOid q → option_and_then (oid_of_name defs) (name_of_text text) ≡ Some q
  named_to w rest known named stands is oid =
      let whole : is_oid (known ++ rest) ≡ true = is_oid-true (known ++ rest) (subst IsOid is oid) in
      let last : only_oid (known ++ rest) ≡ Some (known ++ rest) = rw whole in
      ap (option_and_then (oid_of_name defs)) (name_to text w rest named) ∙ ap (option_and_then (λ (k : List ℕ). only_oid (k ++ rest))) ((follows w known).1 stands) ∙ last ∙ ap Some (sym is)

  either_to : (o : Option (List ℕ)) → oid_of text ≡ o → IsOid q → MeansNumbers defs text q → option_or o (option_and_then (oid_of_name defs) (name_of_text text)) ≡ Some q
  either_to (Some p) is oid means = ap Some (one text p q (inl (oid_sound text p is).1) means)
  either_to None is oid (inl spelled) = let found : oid_of text ≡ Some q = oid_complete text q oid spelled in absurd cc
  either_to None is oid (inr (w, rest, known, named, stands, whole)) = named_to w rest known named stands whole oid

  resolves_here : (resolution defs text ≡ Some q) ↔ (IsOid q × MeansNumbers defs text q)
  unfolding resolution
  resolves_here = (either_from (oid_of text) refl, λ h. either_to (oid_of text) refl h.0 h.1)

pub resolves : (defs : List Definition) → Follows defs → MeansOne defs → Resolves defs (resolution defs)
resolves defs follows one = λ text q. resolves_here defs follows one text q
