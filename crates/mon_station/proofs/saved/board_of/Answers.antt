use Rattle.std.proofs.Common.{ℕ, Vec, Global, Option, ap, ◌∙◌}
use Rattle.std.specs.Prelude.{option_map}
use Rattle.mon_station.proofs.Windowed.{of_none}
use Rattle.mon_station.proofs.saved.board_of.Goals as goal

pub returns-in_ok-new-in-None-clause-found : goal.returns-in_ok-new-in-None-clause-found
returns-in_ok-new-in-None-clause-found c =
    of_none c.args.watch.now c.in_ok-new-in-None.field-0 (option_map (λ (v : Vec ℕ Global). v.items) c.args.body) (ap (λ (b : Option (Vec ℕ Global)). option_map (λ (v : Vec ℕ Global). v.items) b) c.in-None.is)
    (c.in_ok-new-in-None.ensures.watch ∙ c.in_ok-try_clone-in-None.ensures) c.in_ok-new-in-None.ensures.empty
