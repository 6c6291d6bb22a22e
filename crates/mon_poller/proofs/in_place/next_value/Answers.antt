use Rattle.std.proofs.Common.{◌≡◌, ◌∷◌, ℕ, List, sym, subst}
use Rattle.mon_ber.specs.declared.value.Value.TheVariants.{Name}
use Rattle.mon_ber.specs.Grammar.{Spells}
use Rattle.mon_poller.proofs.InPlace.{begins, behind, read_first}
use Rattle.mon_poller.proofs.in_place.next_value.Goals as goal

pub returns : goal.returns
returns c =
    let names = c.args.unread.now.names.now in
    let text = c.name-item.result in
    let is : names ≡ text ∷ behind 1 names = begins names text c.in-len1-up.len_at_least c.name-item.is in
    read_first names text (behind 1 names) c.args.unread.now.list.now c.in_ok-value.list.now c.in_ok-value.value is (λ name spelled. c.in_ok-value.ensures.found name (subst (λ (x : List ℕ). Spells x (Name name)) (sym c.as_slice.ensures) spelled))
