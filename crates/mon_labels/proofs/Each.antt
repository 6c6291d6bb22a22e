-- The labels of instances, one after another.
use Rattle.std.proofs.Common.{◌≡◌, ℕ, ◌+◌, ◌<◌, List, [], ◌∷◌, ◌++◌, length, get_or, drop, map, Option, String, ap, sym, ◌∙◌, append_assoc}
use Rattle.std.proofs.lemmas.List.{drop_more, map_push}
use Rattle.mon_board.specs.declared.instance.Watched.{Watched}
use Rattle.mon_page.specs.declared.extras.InstanceLabels.{InstanceLabels}
use Rattle.mon_poller.specs.declared.target.Target.{Target}
use Rattle.mon_labels.specs.declared.interface.InterfaceLabels.{InterfaceLabels}
use Rattle.mon_labels.specs.Given.{Given, address_of, device_of, given, given_from, labels_for}

module _ {A B : Type 0} (all : List InterfaceLabels) (targets : List Target) (addresses : List (String A)) (devices : List (Option (String B))) (ws : List Watched) where
  -- those of the instances from a place on
  abbrev pub left : ℕ → List Given
  left at = given_from all targets addresses devices at (drop at ws)

  -- one instance more
  pub one_more : (at : ℕ) (w : Watched) (before : List InstanceLabels) (l : InstanceLabels) (total : List Given) → at < length ws → w ≡ get_or ws at w
      → given l ≡ labels_for all (address_of targets addresses at) (device_of targets devices at) w.instance
      → map given before ++ left at ≡ total → map given (before ++ l ∷ []) ++ left (at + 1) ≡ total
  one_more at w before l total lt is same whole =
      let here : drop at ws ≡ w ∷ drop (at + 1) ws = drop_more ws at w lt ∙ ap (λ x. x ∷ drop (at + 1) ws) (sym is) in
      ap (λ (t : List Given). t ++ left (at + 1)) (map_push given before l)
      ∙ append_assoc (map given before) (given l ∷ []) (left (at + 1))
      ∙ ap (λ (g : Given). map given before ++ g ∷ left (at + 1)) same
      ∙ ap (λ (d : List Watched). map given before ++ given_from all targets addresses devices at d) (sym here)
      ∙ whole
