-- Steps that are made in a loop, one for each element.
use Rattle.std.proofs.Common.{◌≡◌, List, ℕ, [], ◌∷◌, ◌<◌, ◌≤◌, ◌+◌, drop, length, refl, sym, ap, ◌∙◌, subst}
use Rattle.std.proofs.Math.ListN.{get_or}
use Rattle.std.proofs.lemmas.List.{drop_all, drop_more}
use Rattle.std.specs.Prelude.{Option, Result, Ok, Err}
use Rattle.mon_console.specs.declared.failure.Failure.{Failure}
use Rattle.mon_host.proofs.Promised.{stays, then_fails, then_follows}
use Rattle.mon_host.specs.AtHost.{AtHost}
use Rattle.mon_host.specs.Log.{GoesOnBy}
use Rattle.mon_settings_commands.specs.Network.{Each}

module _ {X : Type 0} (Step : X → List AtHost → Result (Unit {0}) Failure → Type 0) where
  -- whatever becomes of the elements that are left becomes of all of them
  abbrev pub LeavesRest : (all rest : List X) (before now : Option (List AtHost)) → Type 0
  LeavesRest all rest before now = (result : Result (Unit {0}) Failure) (after : Option (List AtHost)) → GoesOnBy (λ log. Each Step rest log result) now after
      → GoesOnBy (λ log. Each Step all log result) before after

  -- the next element, and those after it
  next : (xs : List X) (i : ℕ) (x : X) → i < length xs → x ≡ get_or xs i x → drop i xs ≡ x ∷ drop (i + 1) xs
  next xs i x inside is = drop_more xs i x inside ∙ ap (λ (y : X). y ∷ drop (i + 1) xs) (sym is)

  pub stepped : (xs : List X) (i : ℕ) (x : X) (u : Unit {0}) (start now after : Option (List AtHost)) → i < length xs → x ≡ get_or xs i x
      → LeavesRest xs (drop i xs) start now → GoesOnBy (λ log. Step x log (Ok u)) now after → LeavesRest xs (drop (i + 1) xs) start after
  stepped xs i x u start now after inside is leads done = λ result end later.
      let whole = then_follows (Step x) (λ e. Each Step (drop (i + 1) xs)) (Ok u) result now after end done later in
      leads result end (subst (λ (left : List X). GoesOnBy (λ log. Each Step left log result) now end) (sym (next xs i x inside is)) whole)

  pub stopped : (xs : List X) (i : ℕ) (x : X) (failure : Failure) (r : Result (Unit {0}) Failure) (start now after : Option (List AtHost)) → i < length xs → x ≡ get_or xs i x
      → r ≡ Err failure → LeavesRest xs (drop i xs) start now → GoesOnBy (λ log. Step x log (Err failure)) now after → GoesOnBy (λ log. Each Step xs log r) start after
  stopped xs i x failure r start now after inside is given leads done =
      let whole = then_fails (Step x) (λ e. Each Step (drop (i + 1) xs)) failure now after done in
      subst (λ (r : Result (Unit {0}) Failure). GoesOnBy (λ log. Each Step xs log r) start after) (sym given)
      (leads (Err failure) after (subst (λ (left : List X). GoesOnBy (λ log. Each Step left log (Err failure)) now after) (sym (next xs i x inside is)) whole))

  pub finished : (xs : List X) (i : ℕ) (start now : Option (List AtHost)) → length xs ≤ i → LeavesRest xs (drop i xs) start now → GoesOnBy (λ log. Each Step xs log (Ok tt)) start now
  finished xs i start now past leads =
      let none : GoesOnBy (λ log. Each Step [] log (Ok tt)) now now = record { more = []; holds = (refl, refl); on = stays now } in
      leads (Ok tt) now (subst (λ (left : List X). GoesOnBy (λ log. Each Step left log (Ok tt)) now now) (sym (drop_all i xs past)) none)
