use Rattle.std.proofs.Common.{ℕ, Vec, Global, subst}
use Rattle.std.specs.Prelude.{option_map}
use Rattle.mon_board.specs.Watch.{Watch}
use Rattle.mon_station.specs.Saved.{IsFaultOfBody}
use Rattle.mon_station.proofs.Kept.{passed_on}
use Rattle.mon_station.proofs.opening.begin.Goals as goal

pub returns-in_err-board-clause-fault : goal.returns-in_err-board-clause-fault
returns-in_err-board-clause-fault c =
    let body = option_map (λ (v : Vec ℕ Global). v.items) c.args.body in
    passed_on c.from_residual.result c.in_err-board.field-0.0 (IsFaultOfBody c.args.core.watch body) c.from_residual.ensures.1
    (subst (λ (w : Watch). IsFaultOfBody w body c.in_err-board.field-0.0) c.into_parts-parts.ensures.watch c.in_err-board.ensures.fault)
