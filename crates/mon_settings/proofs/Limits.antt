-- What was read of the tables of a station is within the limits of their keys.
use Rattle.std.proofs.Common.{◌≡◌, ℕ, ◌+◌, ◌≤◌, ◌&&◌, nat_le, List, [], ◌∷◌, length, Option, Some, None, Result, Ok, All, ℤ, pos, negsuc, sym, ap, subst, arith, inl, inr, if◌then◌else◌}
use Rattle.std.specs.Prelude.{min}
use Rattle.std.proofs.lemmas.Bool.{and_parts, cases_Bool}
use Rattle.std.proofs.lemmas.Bool.Decides.{nat_tests}
use Rattle.std.proofs.Math.Nat.{le-min, min-le_right}
use Rattle.std.proofs.lemmas.List.Elements.{All-cons, All-nil}
use Rattle.hex.specs.Hex.{decode_of}
use Rattle.mon_board.specs.Instance.{IsEngine}
use Rattle.mon_window.specs.Window.{AreSizes}
use Rattle.toml.specs.Data.{Data, Items, no_items, item, Members, as_array, as_integer, as_str, as_table}
use Rattle.mon_oid.specs.Steps.{◌>>=◌}
use Rattle.mon_settings.specs.declared.key.Key.{Key}
use Rattle.mon_settings.specs.declared.key.Key.TheVariants as key
use Rattle.mon_settings.specs.declared.fault.SettingsFault.{SettingsFault}
use Rattle.mon_settings.specs.declared.place.Place.TheVariants as place
use Rattle.mon_settings.specs.declared.place.PathPart.{PathPart}
use Rattle.mon_settings.specs.declared.place.PathPart.TheVariants as step
use Rattle.mon_settings.specs.declared.sizes.Sizes.{Sizes}
use Rattle.mon_settings.specs.declared.station_tables.ObjectRow.{ObjectRow}
use Rattle.mon_settings.specs.declared.station_tables.TargetRow.{TargetRow}
use Rattle.mon_settings.specs.StationAccepted.{Scalars}
use Rattle.mon_settings.specs.Grammar.{table_keys}
use Rattle.mon_settings.specs.Keys.{or_bad_at, only, needed_at, default_at, optional_at, within}
use Rattle.mon_settings.specs.Leaf.{bounded, number_in, sized, text_in, ok_of, hex_of, hex_in, addr_in, count, between, list_between}
use Rattle.mon_settings.specs.Lists.{row, rows, rows_between, rows_up_to}
use Rattle.mon_settings.specs.Resolving.{name_at, name_or_none}
use Rattle.mon_settings.specs.Station.{scalars_of}
use Rattle.mon_settings.specs.StationTables.{object_of, target_of}
use Rattle.mon_settings.proofs.Insertions.{some_same, then_from}
use Rattle.mon_settings.proofs.Steps.{bind_from, default_from, needed_from, ok_same, within_from}

abbrev some : {A : Type 0} → A → Option A
some x = Some x

-- a value between two
test_from : {A : Type 0} (least most n : ℕ) (a b : A) → (if nat_le least n && nat_le n most then Some a else None) ≡ Some b → (least ≤ n) × (n ≤ most) × (a ≡ b)
test_from least most n a b h =
    elim (cases_Bool (nat_le least n && nat_le n most)) [
      | inl is ↦
          let (low, high) = and_parts (nat_le least n) (nat_le n most) is in
          let found : some a ≡ some b = rw is at h in
          (grind (arith, nat_tests), grind (arith, nat_tests), some_same a b found)
      | inr other ↦ let nothing : None ≡ some b = rw other at h in absurd cc
    ]

number_limits : (least most : ℕ) (d : Data) (n : ℕ) → number_in least most d ≡ Some n → (least ≤ n) × (n ≤ most)
number_limits least most d n h =
    let (z, is, held) = then_from (as_integer d) (bounded least most) n h in
    by_sign z held
  where
    by_sign : (z : ℤ) → bounded least most z ≡ Some n → (least ≤ n) × (n ≤ most)
    by_sign (pos m) held =
        let (low, high, same) = test_from least most m m n held in
        (omega (arith, low, same), omega (arith, high, same))
    by_sign (negsuc m) held = absurd cc

sized_limits : (least most : ℕ) (octets found : List ℕ) → sized least most octets ≡ Some found → (least ≤ length found) × (length found ≤ most)
sized_limits least most octets found h =
    let (low, high, same) = test_from least most (length octets) octets found h in
    (omega (arith, low, ap length same), omega (arith, high, ap length same))

text_limits : (least most : ℕ) (d : Data) (text : List ℕ) → text_in least most d ≡ Some text → (least ≤ length text) × (length text ≤ most)
text_limits least most d text h = let (octets, is, held) = then_from (as_str d) (sized least most) text h in sized_limits least most octets text held

hex_limits : (least most : ℕ) (d : Data) (found : List ℕ) → hex_in least most d ≡ Some found → (least ≤ length found) × (length found ≤ most)
hex_limits least most d found h =
    let (text, is, held) = then_from (as_str d) (hex_of least most) found h in
    let (octets, read, whole) = then_from (ok_of (decode_of text)) (sized least most) found held in
    sized_limits least most octets found whole

-- a key's value, or its default
either_limits : (k : Key) (least most default : ℕ) (t : Members) (n : ℕ) → (least ≤ default) × (default ≤ most) → default_at k default (number_in least most) t ≡ Ok n → (least ≤ n) × (n ≤ most)
either_limits k least most default t n within h =
    elim (default_from k (number_in least most) t n default h) [
      | inl left ↦ (omega (arith, within.0, left.1), omega (arith, within.1, left.1))
      | inr (d, is, value) ↦ number_limits least most d n value
    ]

number_at : (k : Key) (least most : ℕ) (t : Members) (n : ℕ) → needed_at k (number_in least most) t ≡ Ok n → (least ≤ n) × (n ≤ most)
number_at k least most t n h = let (d, is, value) = needed_from k (number_in least most) t n h in number_limits least most d n value

-- the rows of a list
module _ {A : Type 0} (k : Key) (f : Members → Result A SettingsFault) where
  as_many : (n : ℕ) (ds : Items) (xs : List A) → rows k f n ds ≡ Ok xs → length xs ≡ count ds
  unfolding rows
  as_many n no_items xs h = let same = ok_same [] xs h in sym (ap length same)
  as_many n (item d ds) xs h =
      let (a, first, rest) = bind_from (row (step.Entry k n) f d) (λ a. rows k f (n + 1) ds >>= (λ more. Ok (a ∷ more))) xs h in
      let (more, others, whole) = bind_from (rows k f (n + 1) ds) (λ more. Ok (a ∷ more)) xs rest in
      let same = ok_same (a ∷ more) xs whole in
      let whole_length : length (a ∷ more) ≡ length xs = ap length same in
      omega (arith, whole_length, as_many (n + 1) ds more others)

  module _ (P : A → Type 0) (each : (t : Members) (a : A) → f t ≡ Ok a → P a) where
    row_is : (s : PathPart) (d : Data) (a : A) → row s f d ≡ Ok a → P a
    unfolding row
    row_is s d a h =
        let (t, is, found) = bind_from (or_bad_at (place.At s) (as_table d)) (λ t. within s (f t)) a h in
        each t a (within_from s (f t) a found)

    all_are : (n : ℕ) (ds : Items) (xs : List A) → rows k f n ds ≡ Ok xs → All P xs
    unfolding rows
    all_are n no_items xs h = subst (All P) (ok_same [] xs h) (All-nil P)
    all_are n (item d ds) xs h =
        let (a, first, rest) = bind_from (row (step.Entry k n) f d) (λ a. rows k f (n + 1) ds >>= (λ more. Ok (a ∷ more))) xs h in
        let (more, others, whole) = bind_from (rows k f (n + 1) ds) (λ more. Ok (a ∷ more)) xs rest in
        subst (All P) (ok_same (a ∷ more) xs whole) (All-cons P a more (row_is (step.Entry k n) d a first) (all_are (n + 1) ds more others))

counted : (least most : ℕ) (d : Data) (ds : Items) → list_between least most d ≡ Some ds → (least ≤ count ds) × (count ds ≤ most)
counted least most d ds h =
    let (all, is, held) = then_from (as_array d) (between least most) ds h in
    let (low, high, same) = test_from least most (count all) all ds held in
    (omega (arith, low, ap count same), omega (arith, high, ap count same))

-- a list of rows, as long as its limits say and each within its own
pub between_limits : {A : Type 0} (k : Key) (least most : ℕ) (f : Members → Result A SettingsFault) (t : Members) (xs : List A) (P : A → Type 0) → ((u : Members) (a : A) → f u ≡ Ok a → P a)
    → rows_between k least most f t ≡ Ok xs → (least ≤ length xs) × (length xs ≤ most) × All P xs
unfolding rows_between
between_limits k least most f t xs P each h =
    let (ds, is, read) = bind_from (needed_at k (list_between least most) t) (rows k f 1) xs h in
    let (d, there, value) = needed_from k (list_between least most) t ds is in
    let (low, high) = counted least most d ds value in
    (omega (arith, low, as_many k f 1 ds xs read), omega (arith, high, as_many k f 1 ds xs read), all_are k f P each 1 ds xs read)

pub up_to_limit : {A : Type 0} (k : Key) (most : ℕ) (f : Members → Result A SettingsFault) (t : Members) (xs : List A) → rows_up_to k most f t ≡ Ok xs → length xs ≤ most
unfolding rows_up_to
up_to_limit k most f t xs h =
    let (ds, is, read) = bind_from (default_at k no_items (list_between 0 most) t) (rows k f 1) xs h in
    let long = as_many k f 1 ds xs read in
    elim (default_from k (list_between 0 most) t ds no_items is) [
      | inl left ↦ omega (arith, long, ap count (sym left.1))
      | inr (d, there, value) ↦ omega (arith, long, (counted 0 most d ds value).1)
    ]

-- the tables of a station
abbrev pub HasSizes : ObjectRow → Type 0
HasSizes o = AreSizes o.window o.epoch

pub record IsWithin (t : TargetRow) : Type 0 where
  pub community : (1 ≤ length t.community) × (length t.community ≤ 512)
  pub engine : IsEngine t.engine
  pub tries : (1 ≤ t.tries) × (t.tries ≤ 8)
  pub objects : (1 ≤ length t.objects) × (length t.objects ≤ 16)
  pub sizes : All HasSizes t.objects

pub scalars_limits : (t : Members) (s : Scalars) → scalars_of t ≡ Ok s → AreSizes s.sizes.window s.sizes.epoch
unfolding scalars_of
scalars_limits t s h =
    let (v0, p0, h1) = bind_from (needed_at key.Station (number_in 1 4294967295) t) _ s h in
    let (v1, p1, h2) = bind_from (needed_at key.Listen addr_in t) _ s h1 in
    let (v2, p2, h3) = bind_from (needed_at key.File (text_in 0 4095) t) _ s h2 in
    let (v3, p3, h4) = bind_from (needed_at key.Window (number_in 1 64) t) _ s h3 in
    let (v4, p4, h5) = bind_from (default_at key.Epoch v3 (number_in 1 v3) t) _ s h4 in
    let (v5, p5, h6) = bind_from (needed_at key.WaitMs (number_in 1 60000) t) _ s h5 in
    let (v6, p6, h7) = bind_from (optional_at key.Label (text_in 1 64) t) _ s h6 in
    let made : Scalars = record { station = v0; listen = v1; file = v2; sizes = record { window = v3; epoch = v4 }; wait_ms = v5; label = v6 } in
    let is : made ≡ s = ok_same made s h7 in
    let window = number_at key.Window 1 64 t v3 p3 in
    let epoch = either_limits key.Epoch 1 v3 v3 t v4 (window.0, omega arith) p4 in
    subst (λ (x : Scalars). AreSizes x.sizes.window x.sizes.epoch) is (record { positive = epoch.0; within = epoch.1; small = window.1 })

module _ (find : List ℕ → Option (List ℕ)) (sizes : Sizes) (fit : AreSizes sizes.window sizes.epoch) where
  object_sizes : (t : Members) (o : ObjectRow) → object_of find sizes t ≡ Ok o → HasSizes o
  unfolding object_of
  object_sizes t o h =
      let (v0, p0, h1) = bind_from (only (table_keys key.Objects) t) _ o h in
      let (v1, p1, h2) = bind_from (name_at find key.Name t) _ o h1 in
      let (v2, p2, h3) = bind_from (name_or_none find key.Mark t) _ o h2 in
      let (v3, p3, h4) = bind_from (default_at key.Window sizes.window (number_in 1 64) t) _ o h3 in
      let (v4, p4, h5) = bind_from (default_at key.Epoch (min sizes.epoch v3) (number_in 1 v3) t) _ o h4 in
      let made : ObjectRow = record { name = v1; discontinuity = v2; window = v3; epoch = v4 } in
      let is : made ≡ o = ok_same made o h5 in
      let positive = fit.positive in
      let within = fit.within in
      let small = fit.small in
      let window = either_limits key.Window 1 64 sizes.window t v3 (omega (arith, positive, within), small) p3 in
      let epoch = either_limits key.Epoch 1 v3 (min sizes.epoch v3) t v4 (le-min positive window.0, min-le_right sizes.epoch v3) p4 in
      subst HasSizes is (record { positive = epoch.0; within = epoch.1; small = window.1 })

  pub target_limits : (t : Members) (r : TargetRow) → target_of find sizes t ≡ Ok r → IsWithin r
  unfolding target_of
  target_limits t r h =
      let (v0, p0, h1) = bind_from (only (table_keys key.Target) t) _ r h in
      let (v1, p1, h2) = bind_from (needed_at key.Address addr_in t) _ r h1 in
      let (v2, p2, h3) = bind_from (needed_at key.Community (text_in 1 512) t) _ r h2 in
      let (v3, p3, h4) = bind_from (needed_at key.Engine (hex_in 5 32) t) _ r h3 in
      let (v4, p4, h5) = bind_from (needed_at key.Tries (number_in 1 8) t) _ r h4 in
      let (v6, p6, h7) = bind_from (optional_at key.Label (text_in 1 64) t) _ r h5 in
      let (v5, p5, h6) = bind_from (rows_between key.Objects 1 16 (object_of find sizes) t) _ r h7 in
      let made : TargetRow = record { address = v1; community = v2; engine = v3; tries = v4; label = v6; objects = v5 } in
      let is : made ≡ r = ok_same made r h6 in
      let (d2, there2, value2) = needed_from key.Community (text_in 1 512) t v2 p2 in
      let (d3, there3, value3) = needed_from key.Engine (hex_in 5 32) t v3 p3 in
      let (least, most, each) = between_limits key.Objects 1 16 (object_of find sizes) t v5 HasSizes object_sizes p5 in
      subst IsWithin is (record {
        community = text_limits 1 512 d2 v2 value2;
        engine = hex_limits 5 32 d3 v3 value3;
        tries = number_at key.Tries 1 8 t v4 p4;
        objects = (least, most);
        sizes = each;
      })
