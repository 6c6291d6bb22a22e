-- What is known where the reading of a key, of a list or of a chain of keys gives something.
use Rattle.std.proofs.Common.{◌≡◌, ◌↔◌, ℕ, zero, suc, ◌+◌, true, List, [], ◌∷◌, Option, Some, None, Any, Result, Ok, Err, refl, sym, ap, ◌∙◌, subst, arith, inl, inr, nat_cmp, is_eq}
use Rattle.std.specs.Str.{bytes_eq}
use Rattle.std.specs.Cmp.Lexicographic.{slice_cmp}
use Rattle.std.specs.Cmp.{tied_itself}
use Rattle.std.specs.Ordering.{match_ordering}
use Rattle.std.specs.declared.cmp.Ordering.{Ordering}
use Rattle.std.specs.declared.cmp.Ordering.TheVariants.{Less, Equal, Greater}
use Rattle.std.proofs.lemmas.Bool.{cases_Bool}
use Rattle.std.proofs.lemmas.Cmp.{nat_list_cmp_total}
use Rattle.std.proofs.lemmas.Map.Text.{is_eq-slice_cmp}
use Rattle.std.proofs.lemmas.Slice.Eq.{bytes_eq-Decides}
use Rattle.toml.specs.Data.{Data, Items, no_items, item, Members, no_members, member, get_member, as_table}
use Rattle.mon_settings.specs.declared.key.Key.{Key}
use Rattle.mon_settings.specs.declared.fault.SettingsFault.{SettingsFault}
use Rattle.mon_settings.specs.declared.place.Place.{Place}
use Rattle.mon_settings.specs.declared.place.Place.TheVariants as place
use Rattle.mon_settings.specs.declared.place.PathPart.{PathPart}
use Rattle.mon_settings.specs.declared.place.PathPart.TheVariants as step
use Rattle.mon_settings.specs.Leaf.{list_in}
use Rattle.mon_settings.specs.Key.{key_name}
use Rattle.mon_settings.specs.Place.{at}
use Rattle.mon_oid.specs.Steps.{◌>>=◌}
use Rattle.mon_settings.specs.Keys.{or_bad, or_bad_at, needed, needed_at, or_default, default_at, is_one_of, first_unknown, or_unknown_key, only, within}
use Rattle.mon_settings.specs.Lists.{row, rows, list_at}
use Rattle.mon_settings.specs.Accepted.{KnowsOnly, Holds, HoldsOr, AreRows, HoldsRows}

-- a chain gives something where each of its steps does
pub bind_from : {A B : Type 0} (r : Result A SettingsFault) (f : A → Result B SettingsFault) (b : B) → (r >>= f) ≡ Ok b → (a : A) × (r ≡ Ok a) × (f a ≡ Ok b)
bind_from (Err e) f b h = absurd cc
bind_from (Ok a) f b h = (a, refl, h)

pub bind_to : {A B : Type 0} (r : Result A SettingsFault) (f : A → Result B SettingsFault) (a : A) (b : B) → r ≡ Ok a → f a ≡ Ok b → (r >>= f) ≡ Ok b
bind_to r f a b p q = rw p q

abbrev pub ok : {A : Type 0} → A → Result A SettingsFault
ok a = Ok a

pub ok_same : {A : Type 0} (a b : A) → ok a ≡ ok b → a ≡ b
ok_same a b h = cc

pub bad_at_from : {A : Type 0} (p : Place) (o : Option A) (a : A) → or_bad_at p o ≡ Ok a → o ≡ Some a
bad_at_from p None a h = absurd cc
bad_at_from p (Some x) a h = cc

pub bad_from : {A : Type 0} (k : Key) (o : Option A) (a : A) → or_bad k o ≡ Ok a → o ≡ Some a
bad_from k o a h = bad_at_from (at k) o a h

-- a table in a list or at a key is read as by itself
pub within_from : {A : Type 0} (s : PathPart) (r : Result A SettingsFault) (a : A) → within s r ≡ Ok a → r ≡ Ok a
within_from s (Err e) a h = absurd cc
within_from s (Ok x) a h = h

-- a key
module _ {A : Type 0} (k : Key) (f : Data → Option A) (t : Members) (a : A) where
  at_key : (o : Option Data) → get_member (key_name k) t ≡ o → needed k f o ≡ Ok a → Holds k f t a
  at_key None is h = absurd cc
  at_key (Some d) is h = (d, is, bad_from k (f d) a h)

  pub needed_from : needed_at k f t ≡ Ok a → Holds k f t a
  needed_from h = at_key (get_member (key_name k) t) refl h

  pub needed_to : Holds k f t a → needed_at k f t ≡ Ok a
  needed_to (d, is, value) = ap (needed k f) is ∙ ap (or_bad k) value

  or_at_key : (default : A) (o : Option Data) → get_member (key_name k) t ≡ o → or_default k default f o ≡ Ok a → HoldsOr k default f t a
  or_at_key default None is h = inl (is, cc)
  or_at_key default (Some d) is h = inr (d, is, bad_from k (f d) a h)

  pub default_from : (default : A) → default_at k default f t ≡ Ok a → HoldsOr k default f t a
  default_from default h = or_at_key default (get_member (key_name k) t) refl h

  pub default_to : (default : A) → HoldsOr k default f t a → default_at k default f t ≡ Ok a
  default_to default (inl h) = ap (or_default k default f) h.0 ∙ ap Ok h.1
  default_to default (inr (d, is, value)) = ap (or_default k default f) is ∙ ap (or_bad k) value

-- the keys of a table
one_from : (ks : List Key) (name : List ℕ) → is_one_of ks name ≡ true → Any (λ k. key_name k ≡ name) ks
one_from [] name h = absurd cc
one_from (k ∷ ks) name h =
    elim (cases_Bool (bytes_eq name (key_name k))) [
      | inl is ↦ (0, k, omega arith, refl, sym ((bytes_eq-Decides name (key_name k)).0 is))
      | inr other ↦
          let rest : is_one_of ks name ≡ true = rw other at h in
          let (i, l, lt, at, same) = one_from ks name rest in
          (suc i, l, omega arith, at, same)
    ]

pub one_to : (ks : List Key) (name : List ℕ) → Any (λ k. key_name k ≡ name) ks → is_one_of ks name ≡ true
one_to [] name (i, l, lt, at, same) = absurd (omega arith)
one_to (k ∷ ks) name (zero, l, lt, at, same) = rw ((bytes_eq-Decides name (key_name k)).1 (sym (ap key_name at ∙ same)))
one_to (k ∷ ks) name (suc i, l, lt, at, same) =
    let rest = one_to ks name (i, l, omega arith, at, same) in
    elim (cases_Bool (bytes_eq name (key_name k))) [
      | inl is ↦ rw is
      | inr other ↦ rw (other, rest)
    ]

equal_same : (xs ys : List ℕ) → slice_cmp nat_cmp xs ys ≡ Equal → xs ≡ ys
equal_same xs ys h = (bytes_eq-Decides xs ys).0 (sym (is_eq-slice_cmp xs ys) ∙ ap is_eq h)

module _ (ks : List Key) where
  known_at : (o : Ordering) (name l : List ℕ) (e : Data) (rest : Option Data) (d : Data) → slice_cmp nat_cmp name l ≡ o
      → is_one_of ks l ≡ true → (rest ≡ Some d → Any (λ k. key_name k ≡ name) ks)
      → match_ordering o rest (Some e) rest ≡ Some d → Any (λ k. key_name k ≡ name) ks
  known_at Less name l e rest d is here more h = more h
  known_at Equal name l e rest d is here more h = one_from ks name (rw (equal_same name l is) here)
  known_at Greater name l e rest d is here more h = more h

  known_from : (t : Members) → first_unknown ks t ≡ None → KnowsOnly ks t
  known_from no_members h = λ name d is. absurd cc
  known_from (member l e ms) h =
      elim (cases_Bool (is_one_of ks l)) [
        | inl here ↦
            let rest : first_unknown ks ms ≡ None = rw here at h in
            λ name d is. known_at (slice_cmp nat_cmp name l) name l e (get_member name ms) d refl here (known_from ms rest name d) is
        | inr other ↦ let unknown : (let o : Option (List ℕ) = Some l in o) ≡ None = rw other at h in absurd cc
      ]

  found_at : (o : Ordering) (e : Data) (rest : Option Data) (d : Data) → rest ≡ Some d → (x : Data) × (match_ordering o rest (Some e) rest ≡ Some x)
  found_at Less e rest d h = (d, h)
  found_at Equal e rest d h = (e, refl)
  found_at Greater e rest d h = (d, h)

  known_to : (t : Members) → KnowsOnly ks t → first_unknown ks t ≡ None
  known_to no_members h = refl
  known_to (member l e ms) h =
      let first : get_member l (member l e ms) ≡ Some e = rw (tied_itself nat_list_cmp_total l) in
      let here = one_to ks l (h l e first) in
      let others = known_to ms (λ name d is. let (x, found) = found_at (slice_cmp nat_cmp name l) e (get_member name ms) d is in h name x found) in
      rw here others

  none_from : (o : Option (List ℕ)) (u : Unit {0}) → or_unknown_key o ≡ Ok u → o ≡ None
  none_from None u h = refl
  none_from (Some name) u h = absurd cc

  pub only_from : (t : Members) (u : Unit {0}) → only ks t ≡ Ok u → KnowsOnly ks t
  unfolding only
  only_from t u h = known_from t (none_from (first_unknown ks t) u h)

  pub only_to : (t : Members) → KnowsOnly ks t → only ks t ≡ Ok tt
  unfolding only
  only_to t h = ap or_unknown_key (known_to t h)

-- the tables of a list
module _ {A : Type 0} (k : Key) (f : Members → Result A SettingsFault) (P : Members → A → Type 0) (same : (t : Members) (a : A) → (f t ≡ Ok a) ↔ P t a) where
  row_from : (s : PathPart) (d : Data) (a : A) → row s f d ≡ Ok a → (t : Members) × (as_table d ≡ Some t) × P t a
  unfolding row
  row_from s d a h =
      let (t, is, gives) = bind_from (or_bad_at (place.At s) (as_table d)) (λ t. within s (f t)) a h in
      (t, bad_at_from (place.At s) (as_table d) t is, (same t a).0 (within_from s (f t) a gives))

  row_to : (s : PathPart) (d : Data) (a : A) (t : Members) → as_table d ≡ Some t → P t a → row s f d ≡ Ok a
  unfolding row
  row_to s d a t is holds =
      bind_to (or_bad_at (place.At s) (as_table d)) (λ t. within s (f t)) t a (ap (or_bad_at (place.At s)) is) (ap (within s) ((same t a).1 holds))

  pub rows_from : (n : ℕ) (ds : Items) (rest : List A) → rows k f n ds ≡ Ok rest → AreRows P ds rest
  unfolding rows
  rows_from n no_items [] h = tt
  rows_from n no_items (b ∷ more) h = absurd cc
  rows_from n (item d ds) rest h =
      let (a, first, next) = bind_from (row (step.Entry k n) f d) _ rest h in
      let (more, others, all) = bind_from (rows k f (n + 1) ds) _ rest next in
      let is : a ∷ more ≡ rest = cc in
      let (t, table, holds) = row_from (step.Entry k n) d a first in
      subst (λ (l : List A). AreRows P (item d ds) l) is (t, table, holds, rows_from (n + 1) ds more others)

  pub rows_to : (n : ℕ) (ds : Items) (rest : List A) → AreRows P ds rest → rows k f n ds ≡ Ok rest
  unfolding rows
  rows_to n no_items [] h = refl
  rows_to n no_items (b ∷ more) h = absurd h
  rows_to n (item d ds) [] h = absurd h
  rows_to n (item d ds) (a ∷ more) (t, table, holds, others) =
      bind_to (row (step.Entry k n) f d) _ a (a ∷ more) (row_to (step.Entry k n) d a t table holds)
      (bind_to (rows k f (n + 1) ds) _ more (a ∷ more) (rows_to (n + 1) ds more others) refl)

  pub list_from : (t : Members) (rest : List A) → list_at k f t ≡ Ok rest → HoldsRows k P t rest
  unfolding list_at
  list_from t rest h =
      let (ds, is, all) = bind_from (needed_at k list_in t) (rows k f 1) rest h in
      (ds, needed_from k list_in t ds is, rows_from 1 ds rest all)

  pub list_to : (t : Members) (rest : List A) → HoldsRows k P t rest → list_at k f t ≡ Ok rest
  unfolding list_at
  list_to t rest (ds, is, all) = bind_to (needed_at k list_in t) (rows k f 1) ds rest (needed_to k list_in t ds is) (rows_to 1 ds rest all)
