-- The texts of a list, one after another.
use Rattle.std.proofs.Common.{◌≡◌, ℕ, ◌+◌, ◌<◌, ◌≤◌, List, [], ◌∷◌, ◌++◌, length, get_or, drop, map, Option, Some, None, option_map, Ok, Err, String, Global, string_bytes, refl, ap, sym, ◌∙◌, append_assoc, append-nil}
use Rattle.std.proofs.Math.ListN.{drop_of_length-le}
use Rattle.std.proofs.lemmas.List.{map-append}
use Rattle.toml.specs.Data.{Data, Items, item}
use Rattle.toml.specs.View.{view, items_view}
use Rattle.toml.specs.declared.value.Value.{Value}
use Rattle.toml.proofs.Views.{items_view-drop}
use Rattle.mon_settings.specs.declared.key.Key.TheVariants.{Modules}
use Rattle.mon_settings.specs.declared.fault.SettingsFault.{SettingsFault}
use Rattle.mon_settings.specs.Keys.{or_bad}
use Rattle.mon_settings.specs.Leaf.{text_in, texts_of}

-- what was read, and then what is left
abbrev pub then : List (List ℕ) → Option (List (List ℕ)) → Option (List (List ℕ))
then done r = option_map (λ rest. done ++ rest) r

bad_text : (done : List (List ℕ)) (o : Option (List ℕ)) (e : SettingsFault) (d : Data) (ds : Items) → text_in 0 4095 d ≡ o → or_bad Modules o ≡ Err e
    → or_bad Modules (then done (texts_of (item d ds))) ≡ Err e
bad_text done (Some text) e d ds is bad = absurd cc
bad_text done None e d ds is bad = rw is (cc)

good_text : (done : List (List ℕ)) (o : Option (List ℕ)) (text : List ℕ) (d : Data) (ds : Items) (r : Option (List (List ℕ))) → text_in 0 4095 d ≡ o → texts_of ds ≡ r
    → or_bad Modules o ≡ Ok text → then done (texts_of (item d ds)) ≡ then (done ++ text ∷ []) r
good_text done None text d ds r is rest good = absurd cc
good_text done (Some other) text d ds None is rest good = rw is (rw rest refl)
good_text done (Some other) text d ds (Some texts) is rest good =
    let same : other ≡ text = cc in
    rw is (rw rest (rw same (ap Some (sym (append_assoc done (text ∷ []) texts)))))

module _ (vs : List Value) (i : ℕ) (v : Value) (lt : i < length vs) (is : v ≡ get_or vs i v) where
  here : items_view (drop i vs) ≡ item (view v) (items_view (drop (i + 1) vs))
  here = items_view-drop vs i v lt ∙ ap (λ w. item (view w) (items_view (drop (i + 1) vs))) (sym is)

  pub fault_text : (done : List (List ℕ)) (e : SettingsFault) → or_bad Modules (text_in 0 4095 (view v)) ≡ Err e
      → or_bad Modules (then done (texts_of (items_view (drop i vs)))) ≡ Err e
  fault_text done e bad = rw here (bad_text done _ e (view v) (items_view (drop (i + 1) vs)) refl bad)

  pub more_text : (done : List (String Global)) (s : String Global) → or_bad Modules (text_in 0 4095 (view v)) ≡ Ok (string_bytes s)
      → then (map string_bytes done) (texts_of (items_view (drop i vs))) ≡ then (map string_bytes (done ++ s ∷ [])) (texts_of (items_view (drop (i + 1) vs)))
  more_text done s good = rw here (rw map-append (good_text (map string_bytes done) _ (string_bytes s) (view v) (items_view (drop (i + 1) vs)) _ refl refl good))

pub all_texts : (vs : List Value) (i : ℕ) (done : List (List ℕ)) → length vs ≤ i → then done (texts_of (items_view (drop i vs))) ≡ Some done
all_texts vs i done all = rw (drop_of_length-le vs all) (ap Some (append-nil done))
