-- Files that are written in a loop.
use Rattle.std.proofs.Common.{◌≡◌, List, ℕ, [], ◌∷◌, ◌<◌, ◌≤◌, ◌+◌, drop, length, refl, sym, ap, ◌∙◌, subst}
use Rattle.std.proofs.Math.ListN.{get_or}
use Rattle.std.proofs.lemmas.List.{drop_all, drop_more}
use Rattle.std.specs.Prelude.{Option, Result, Ok, Err}
use Rattle.mon_console.specs.declared.failure.Failure.{Failure}
use Rattle.mon_host.proofs.Promised.{stays, then_fails, then_follows}
use Rattle.mon_host.specs.AtHost.{AtHost}
use Rattle.mon_host.specs.Log.{GoesOnBy}
use Rattle.mon_survey.specs.declared.longest.Drafted.{Drafted}
use Rattle.mon_settings_commands.specs.Parts.{AreWritten, IsPartWritten, part_path}

-- whatever becomes of the settings that are left becomes of all of them
abbrev pub Leads : (folder : List ℕ) (place : ℕ) (all rest : List Drafted) (before now : Option (List AtHost)) → Type 0
Leads folder place all rest before now = (result : Result Unit Failure) (after : Option (List AtHost)) → GoesOnBy (λ log. AreWritten folder place rest log result) now after
    → GoesOnBy (λ log. AreWritten folder 0 all log result) before after

module _ (folder : List ℕ) where
  -- the next settings, and those after them
  next : (ds : List Drafted) (i : ℕ) (d : Drafted) → i < length ds → d ≡ get_or ds i d → drop i ds ≡ d ∷ drop (i + 1) ds
  next ds i d inside is = drop_more ds i d inside ∙ ap (λ (y : Drafted). y ∷ drop (i + 1) ds) (sym is)

  pub written : (ds : List Drafted) (i : ℕ) (d : Drafted) (u : Unit) (start now after : Option (List AtHost)) → i < length ds → d ≡ get_or ds i d
      → Leads folder i ds (drop i ds) start now → GoesOnBy (λ log. IsPartWritten (part_path folder i) d log (Ok u)) now after
      → Leads folder (i + 1) ds (drop (i + 1) ds) start after
  written ds i d u start now after inside is leads done = λ result end later.
      let whole = then_follows (IsPartWritten (part_path folder i) d) (λ e. AreWritten folder (i + 1) (drop (i + 1) ds)) (Ok u) result now after end done later in
      leads result end (subst (λ (left : List Drafted). GoesOnBy (λ log. AreWritten folder i left log result) now end) (sym (next ds i d inside is)) whole)

  pub failed : (ds : List Drafted) (i : ℕ) (d : Drafted) (failure : Failure) (r : Result Unit Failure) (start now after : Option (List AtHost)) → i < length ds
      → d ≡ get_or ds i d → r ≡ Err failure → Leads folder i ds (drop i ds) start now
      → GoesOnBy (λ log. IsPartWritten (part_path folder i) d log (Err failure)) now after → GoesOnBy (λ log. AreWritten folder 0 ds log r) start after
  failed ds i d failure r start now after inside is given leads done =
      let whole = then_fails (IsPartWritten (part_path folder i) d) (λ e. AreWritten folder (i + 1) (drop (i + 1) ds)) failure now after done in
      subst (λ (r : Result Unit Failure). GoesOnBy (λ log. AreWritten folder 0 ds log r) start after) (sym given)
      (leads (Err failure) after (subst (λ (left : List Drafted). GoesOnBy (λ log. AreWritten folder i left log (Err failure)) now after) (sym (next ds i d inside is)) whole))

  pub ended : (ds : List Drafted) (i : ℕ) (start now : Option (List AtHost)) → length ds ≤ i → Leads folder i ds (drop i ds) start now
      → GoesOnBy (λ log. AreWritten folder 0 ds log (Ok tt)) start now
  ended ds i start now past leads =
      let none : GoesOnBy (λ log. AreWritten folder i [] log (Ok tt)) now now = record { more = []; holds = (refl, refl); on = stays now } in
      leads (Ok tt) now (subst (λ (left : List Drafted). GoesOnBy (λ log. AreWritten folder i left log (Ok tt)) now now) (sym (drop_all i ds past)) none)
