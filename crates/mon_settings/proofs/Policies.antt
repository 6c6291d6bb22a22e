-- The tests of a policy's tables are its conditions.
use Rattle.std.proofs.Common.{◌≡◌, ◌≢◌, ◌↔◌, ℕ, zero, suc, Bool, true, false, not, ◌&&◌, List, [], ◌∷◌, Option, Some, None, All, AllPairs, refl, ap, ◌∙◌, arith, inl, inr}
use Rattle.std.specs.Prelude.{IfSome, Result, Ok, Err}
use Rattle.std.specs.List.{list_all}
use Rattle.std.specs.Str.{bytes_eq}
use Rattle.std.proofs.lemmas.Bool.{and_parts, cases_Bool}
use Rattle.std.proofs.lemmas.List.Elements.{All-cons, All-tail, All-nil}
use Rattle.std.proofs.lemmas.List.Kept.{AllPairs-cons}
use Rattle.std.proofs.lemmas.Slice.Eq.{bytes_eq-Decides}
use Rattle.mon_vacm.specs.Tables.{PolicyTables, IsPolicy, AreCommunitiesDistinct, AreFamiliesDistinct, NamesViews, HasView}
use Rattle.mon_vacm.specs.declared.access_entry.AccessEntry.{AccessEntry}
use Rattle.mon_vacm.specs.declared.community.Community.{Community}
use Rattle.mon_vacm.specs.declared.family.ViewTreeFamily.{ViewTreeFamily}
use Rattle.mon_vacm.specs.declared.fault.PolicyFault.{PolicyFault}
use Rattle.mon_vacm.specs.declared.fault.PolicyFault.TheVariants.{DuplicateCommunity, UnknownView, DuplicateFamily}
use Rattle.mon_settings.specs.declared.key.Key.{Key}
use Rattle.mon_settings.specs.declared.key.Key.TheVariants as key
use Rattle.mon_settings.specs.declared.fault.SettingsFault.{SettingsFault}
use Rattle.mon_settings.specs.SettingsFault.{bad_value}
use Rattle.mon_settings.specs.Tables.{all_pairs, other_names, communities_differ, has_view, is_known, knows_views, other_families, families_differ, list_of, policy_of}

-- a test that holds of each element, and of each two
module _ {A : Type 0} (p : A → Bool) (P : A → Type 0) (same : (x : A) → (p x ≡ true) ↔ P x) where
  pub all_from : (xs : List A) → list_all p xs ≡ true → All P xs
  all_from [] h = All-nil P
  all_from (x ∷ xs) h =
      let (here, rest) = and_parts (p x) (list_all p xs) h in
      All-cons P x xs ((same x).0 here) (all_from xs rest)

  pub all_to : (xs : List A) → All P xs → list_all p xs ≡ true
  all_to [] h = refl
  all_to (x ∷ xs) h = rw ((same x).1 (h 0 x (omega arith)), all_to xs (All-tail P x xs h))

module _ {A : Type 0} (r : A → A → Bool) (R : A → A → Type 0) (same : (x y : A) → (r x y ≡ true) ↔ R x y) where
  pub pairs_from : (xs : List A) → all_pairs r xs ≡ true → AllPairs R xs
  pairs_from [] h = λ i j d lt within. absurd (omega arith)
  pairs_from (x ∷ xs) h =
      let (here, rest) = and_parts (list_all (r x) xs) (all_pairs r xs) h in
      AllPairs-cons R x xs (all_from (r x) (R x) (same x) xs here) (pairs_from xs rest)

  pub pairs_to : (xs : List A) → AllPairs R xs → all_pairs r xs ≡ true
  pairs_to [] h = refl
  pairs_to (x ∷ xs) h =
      let first : All (R x) xs = λ k d lt. h zero (suc k) d (omega arith) (omega arith) in
      let others : AllPairs R xs = λ i j d lt within. h (suc i) (suc j) d (omega arith) (omega arith) in
      rw (all_to (r x) (R x) (same x) xs first, pairs_to xs others)

not_true : (b : Bool) → not b ≡ true → b ≡ true → ⊥
not_true true n h = absurd cc
not_true false n h = absurd cc

true_not : (b : Bool) → (b ≡ true → ⊥) → not b ≡ true
true_not true h = absurd (h refl)
true_not false h = refl

names_differ : (a b : Community) → (other_names a b ≡ true) ↔ (a.name ≢ b.name)
names_differ a b =
    let same = bytes_eq-Decides a.name b.name in
    (λ n e. not_true (bytes_eq a.name b.name) n (same.1 e), λ h. true_not (bytes_eq a.name b.name) (λ t. h (same.0 t)))

both_true : (a b : Bool) → a ≡ true → b ≡ true → (a && b) ≡ true
both_true a b p q = rw (p, q)

subtrees_differ : (f g : ViewTreeFamily) → (other_families f g ≡ true) ↔ (((f.view_name ≡ g.view_name) × (f.subtree ≡ g.subtree)) → ⊥)
subtrees_differ f g =
    let names = bytes_eq-Decides f.view_name g.view_name in
    let subtrees = bytes_eq-Decides f.subtree g.subtree in
    let a = bytes_eq f.view_name g.view_name in
    let b = bytes_eq f.subtree g.subtree in (
      λ n e. not_true (a && b) n (both_true a b (names.1 e.0) (subtrees.1 e.1)),
      λ h. true_not (a && b) (λ t. let (p, q) = and_parts a b t in h (names.0 p, subtrees.0 q)),
    )

view_from : (view : List ℕ) (fs : List ViewTreeFamily) → has_view view fs ≡ true → HasView fs view
view_from view [] h = absurd cc
view_from view (f ∷ fs) h =
    elim (cases_Bool (bytes_eq f.view_name view)) [
      | inl is ↦ (0, f, omega arith, refl, (bytes_eq-Decides f.view_name view).0 is)
      | inr other ↦
          let rest : has_view view fs ≡ true = rw other at h in
          let (k, g, lt, at, same) = view_from view fs rest in
          (suc k, g, omega arith, at, same)
    ]

view_to : (view : List ℕ) (fs : List ViewTreeFamily) → HasView fs view → has_view view fs ≡ true
view_to view [] (k, g, lt, at, same) = absurd (omega arith)
view_to view (f ∷ fs) (zero, g, lt, at, same) = rw ((bytes_eq-Decides f.view_name view).1 (ap (λ (x : ViewTreeFamily). x.view_name) at ∙ same))
view_to view (f ∷ fs) (suc k, g, lt, at, same) =
    let rest = view_to view fs (k, g, omega arith, at, same) in
    elim (cases_Bool (bytes_eq f.view_name view)) [
      | inl is ↦ rw is
      | inr other ↦ rw (other, rest)
    ]

known_from : (fs : List ViewTreeFamily) (o : Option (List ℕ)) → is_known fs o ≡ true → IfSome o (HasView fs)
known_from fs None h = tt
known_from fs (Some view) h = view_from view fs h

known_to : (fs : List ViewTreeFamily) (o : Option (List ℕ)) → IfSome o (HasView fs) → is_known fs o ≡ true
known_to fs None h = refl
known_to fs (Some view) h = view_to view fs h

views_known : (fs : List ViewTreeFamily) (e : AccessEntry) → (knows_views fs e ≡ true) ↔ NamesViews fs e
views_known fs e = (
  λ h.
      let (read, write) = and_parts (is_known fs e.read_view) (is_known fs e.write_view) h in
      record { read = known_from fs e.read_view read; write = known_from fs e.write_view write },
  λ h. both_true (is_known fs e.read_view) (is_known fs e.write_view) (known_to fs e.read_view h.read) (known_to fs e.write_view h.write),
)

not_false : (b : Bool) → (b ≡ true → ⊥) → b ≡ false
not_false true h = absurd (h refl)
not_false false h = refl

abbrev failed : Key → Result PolicyTables SettingsFault
failed k = Err (bad_value k)

module _ (t : PolicyTables) where
  distinct : (communities_differ t.communities ≡ true) ↔ AreCommunitiesDistinct t.communities
  distinct = (pairs_from other_names _ names_differ t.communities, pairs_to other_names _ names_differ t.communities)

  known : (list_all (knows_views t.families) t.accesses ≡ true) ↔ All (NamesViews t.families) t.accesses
  known = (all_from (knows_views t.families) _ (views_known t.families) t.accesses, all_to (knows_views t.families) _ (views_known t.families) t.accesses)

  apart : (families_differ t.families ≡ true) ↔ AreFamiliesDistinct t.families
  apart = (pairs_from other_families _ subtrees_differ t.families, pairs_to other_families _ subtrees_differ t.families)

  pub policy_made : IsPolicy t → policy_of t ≡ Ok t
  unfolding policy_of
  policy_made h = rw (distinct.1 h.communities, known.1 h.views, apart.1 h.families)

  pub policy_refused : (e : PolicyFault)
      → (e ≡ DuplicateCommunity → ¬ (AreCommunitiesDistinct t.communities))
      → (e ≡ UnknownView → AreCommunitiesDistinct t.communities × ¬ (All (NamesViews t.families) t.accesses))
      → (e ≡ DuplicateFamily → AreCommunitiesDistinct t.communities × All (NamesViews t.families) t.accesses × ¬ (AreFamiliesDistinct t.families))
      → policy_of t ≡ Err (bad_value (list_of e))
  unfolding policy_of
  policy_refused DuplicateCommunity a b c =
      let first = not_false (communities_differ t.communities) (λ h. a refl (distinct.0 h)) in
      rw first
  policy_refused UnknownView a b c =
      let first = distinct.1 (b refl).0 in
      let second = not_false (list_all (knows_views t.families) t.accesses) (λ h. (b refl).1 (known.0 h)) in
      rw (first, second)
  policy_refused DuplicateFamily a b c =
      let first = distinct.1 (c refl).0 in
      let second = known.1 (c refl).1 in
      let third = not_false (families_differ t.families) (λ h. (c refl).2 (apart.0 h)) in
      rw (first, second, third)

  pub policy_accepted : (u : PolicyTables) → policy_of t ≡ Ok u → (t ≡ u) × IsPolicy t
  unfolding policy_of
  policy_accepted u h =
      elim (cases_Bool (communities_differ t.communities)) [
        | inr first ↦ let refused : failed key.Community ≡ Ok u = rw first at h in absurd cc
        | inl first ↦
            elim (cases_Bool (list_all (knows_views t.families) t.accesses)) [
              | inr second ↦ let refused : failed key.Access ≡ Ok u = rw (first, second) at h in absurd cc
              | inl second ↦
                  elim (cases_Bool (families_differ t.families)) [
                    | inr third ↦ let refused : failed key.View ≡ Ok u = rw (first, second, third) at h in absurd cc
                    | inl third ↦ let found : (let r : Result PolicyTables SettingsFault = Ok t in r) ≡ Ok u = rw (first, second, third) at h in
                        (cc, record { communities = distinct.0 first; views = known.0 second; families = apart.0 third })
                  ]
            ]
      ]
