-- A list of tables, entry by entry.
use Rattle.std.proofs.Common.{◌≡◌, ℕ, ◌+◌, ◌<◌, ◌≤◌, List, [], ◌∷◌, ◌++◌, length, get_or, drop, Result, Ok, Err, refl, ap, sym, ◌∙◌, append_assoc, append-nil, arith, nat_le, ◌&&◌, if◌then◌else◌, Some, None}
use Rattle.std.proofs.Math.ListN.{drop_of_length-le}
use Rattle.toml.specs.Data.{Data, Items, item, Members}
use Rattle.toml.specs.View.{view, items_view}
use Rattle.toml.specs.declared.value.Value.{Value}
use Rattle.toml.proofs.Views.{items_view-drop}
use Rattle.mon_settings.specs.declared.key.Key.{Key}
use Rattle.mon_settings.specs.declared.fault.SettingsFault.{SettingsFault}
use Rattle.mon_settings.specs.declared.place.PathPart.TheVariants as step
use Rattle.mon_oid.specs.Steps.{◌>>=◌}
use Rattle.mon_settings.specs.Leaf.{between, count}
use Rattle.mon_settings.specs.Lists.{row, rows}

-- what is read after some entries
abbrev pub after : {A : Type 0} → List A → Result (List A) SettingsFault → Result (List A) SettingsFault
after xs r = r >>= (λ ys. Ok (xs ++ ys))

after_more : {A : Type 0} (xs : List A) (a : A) (r : Result (List A) SettingsFault) → after xs (r >>= (λ more. Ok (a ∷ more))) ≡ after (xs ++ a ∷ []) r
after_more xs a (Err e) = refl
after_more xs a (Ok ys) = ap Ok (sym (append_assoc xs (a ∷ []) ys))

pub after_one : {A : Type 0} (k : Key) (f : Members → Result A SettingsFault) (n : ℕ) (xs : List A) (d : Data) (ds : Items) (a : A)
    → row (step.Entry k n) f d ≡ Ok a → after xs (rows k f n (item d ds)) ≡ after (xs ++ a ∷ []) (rows k f (n + 1) ds)
unfolding rows
after_one k f n xs d ds a e = rw e (after_more xs a (rows k f (n + 1) ds))

pub after_fault : {A : Type 0} (k : Key) (f : Members → Result A SettingsFault) (n : ℕ) (xs : List A) (d : Data) (ds : Items) (e : SettingsFault)
    → row (step.Entry k n) f d ≡ Err e → after xs (rows k f n (item d ds)) ≡ Err e
unfolding rows
after_fault k f n xs d ds e h = rw h refl

pub after_none : {A : Type 0} (r : Result (List A) SettingsFault) → after [] r ≡ r
after_none (Ok ys) = refl
after_none (Err e) = refl

-- the entry at a place is read, or ends the reading
pub after_place : {A : Type 0} (k : Key) (f : Members → Result A SettingsFault) (xs : List A) (vs : List Value) (i : ℕ) (v : Value) (a : A)
    → i < length vs → v ≡ get_or vs i v → row (step.Entry k (i + 1)) f (view v) ≡ Ok a
    → after xs (rows k f (i + 1) (items_view (drop i vs))) ≡ after (xs ++ a ∷ []) (rows k f (i + 1 + 1) (items_view (drop (i + 1) vs)))
after_place k f xs vs i v a h is e =
    let here : items_view (drop i vs) ≡ item (view v) (items_view (drop (i + 1) vs)) =
    items_view-drop vs i v h ∙ ap (λ w. item (view w) (items_view (drop (i + 1) vs))) (sym is) in
    rw here (after_one k f (i + 1) xs (view v) _ a e)

pub fault_place : {A : Type 0} (k : Key) (f : Members → Result A SettingsFault) (xs : List A) (vs : List Value) (i : ℕ) (v : Value) (e : SettingsFault)
    → i < length vs → v ≡ get_or vs i v → row (step.Entry k (i + 1)) f (view v) ≡ Err e
    → after xs (rows k f (i + 1) (items_view (drop i vs))) ≡ Err e
fault_place k f xs vs i v e h is bad =
    let here : items_view (drop i vs) ≡ item (view v) (items_view (drop (i + 1) vs)) =
    items_view-drop vs i v h ∙ ap (λ w. item (view w) (items_view (drop (i + 1) vs))) (sym is) in
    rw here (after_fault k f (i + 1) xs (view v) _ e bad)

-- after the last place
pub after_all : {A : Type 0} (k : Key) (f : Members → Result A SettingsFault) (xs : List A) (vs : List Value) (i : ℕ)
    → length vs ≤ i → after xs (rows k f (i + 1) (items_view (drop i vs))) ≡ Ok xs
unfolding rows
after_all k f xs vs i h = rw (drop_of_length-le vs h) (ap Ok (append-nil xs))

pub count_view : (vs : List Value) → count (items_view vs) ≡ length vs
count_view [] = refl
count_view (v ∷ vs) = omega (arith, count_view vs)

pub between_values : (least most : ℕ) (vs : List Value) → between least most (items_view vs)
    ≡ (if nat_le least (length vs) && nat_le (length vs) most then Some (items_view vs) else None)
between_values least most vs = rw (count_view vs)
