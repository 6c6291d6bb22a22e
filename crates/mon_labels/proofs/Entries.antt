-- A list of interfaces, entry by entry.
use Rattle.std.proofs.Common.{◌≡◌, ℕ, ◌+◌, ◌<◌, ◌≤◌, List, [], ◌∷◌, ◌++◌, length, get_or, drop, map, Ok, Err, refl, ap, sym, ◌∙◌, arith, nat_le, ◌||◌, if◌then◌else◌}
use Rattle.std.specs.List.{list_any}
use Rattle.std.proofs.Math.ListN.{drop_of_length-le}
use Rattle.toml.specs.Data.{Data, Items, item}
use Rattle.toml.specs.View.{view, items_view}
use Rattle.toml.specs.declared.value.Value.{Value}
use Rattle.toml.proofs.Views.{items_view-drop}
use Rattle.mon_labels.specs.declared.fault.LabelsFault.{LabelsFault}
use Rattle.mon_labels.specs.declared.fault.LabelsFault.TheVariants as fault
use Rattle.mon_labels.specs.declared.interface.InterfaceLabels.{InterfaceLabels}
use Rattle.mon_labels.specs.Described.{Described, described, is_of}
use Rattle.mon_labels.specs.Reading.{count, entries, entry_after, few}

-- whether one of some interfaces, as they are described, is this one
pub any_described : (engine : List ℕ) (index : ℕ) (done : List InterfaceLabels)
    → list_any (is_of engine index) (map described done) ≡ list_any (λ l. is_of engine index (described l)) done
any_described engine index [] = refl
any_described engine index (l ∷ done) = ap (λ b. is_of engine index (described l) || b) (any_described engine index done)

-- one entry more
one_more : (n : ℕ) (before : List Described) (d : Data) (ds : Items) (i : Described) → entry_after n before d ≡ Ok i
    → entries n before (item d ds) ≡ entries (n + 1) (before ++ i ∷ []) ds
unfolding entries
one_more n before d ds i e = rw e refl

one_bad : (n : ℕ) (before : List Described) (d : Data) (ds : Items) (e : LabelsFault) → entry_after n before d ≡ Err e → entries n before (item d ds) ≡ Err e
unfolding entries
one_bad n before d ds e h = rw h refl

-- the entry at a place is read, or ends the reading
pub after_place : (before : List Described) (vs : List Value) (at : ℕ) (v : Value) (i : Described) → at < length vs → v ≡ get_or vs at v
    → entry_after (at + 1) before (view v) ≡ Ok i
    → entries (at + 1) before (items_view (drop at vs)) ≡ entries (at + 1 + 1) (before ++ i ∷ []) (items_view (drop (at + 1) vs))
after_place before vs at v i lt is e =
    let here : items_view (drop at vs) ≡ item (view v) (items_view (drop (at + 1) vs)) =
    items_view-drop vs at v lt ∙ ap (λ w. item (view w) (items_view (drop (at + 1) vs))) (sym is) in
    rw here (one_more (at + 1) before (view v) _ i e)

pub fault_place : (before : List Described) (vs : List Value) (at : ℕ) (v : Value) (e : LabelsFault) → at < length vs → v ≡ get_or vs at v
    → entry_after (at + 1) before (view v) ≡ Err e → entries (at + 1) before (items_view (drop at vs)) ≡ Err e
fault_place before vs at v e lt is bad =
    let here : items_view (drop at vs) ≡ item (view v) (items_view (drop (at + 1) vs)) =
    items_view-drop vs at v lt ∙ ap (λ w. item (view w) (items_view (drop (at + 1) vs))) (sym is) in
    rw here (one_bad (at + 1) before (view v) _ e bad)

-- after the last place
pub after_all : (before : List Described) (vs : List Value) (at : ℕ) → length vs ≤ at → entries (at + 1) before (items_view (drop at vs)) ≡ Ok before
unfolding entries
after_all before vs at h = rw (drop_of_length-le vs h) refl

pub count_view : (vs : List Value) → count (items_view vs) ≡ length vs
count_view [] = refl
count_view (v ∷ vs) = omega (arith, count_view vs)

pub few_values : (vs : List Value) → few (items_view vs) ≡ (if nat_le (length vs) 4096 then Ok (items_view vs) else Err fault.TooMany)
few_values vs = rw (count_view vs)
