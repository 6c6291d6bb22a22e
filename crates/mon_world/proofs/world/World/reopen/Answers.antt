use Rattle.std.proofs.Common.{rules, ◌≡◌, ◌+◌, length, refl, sym, ap, subst, ◌∙◌}
use Rattle.mon_board.specs.Watch.{Watch}
use Rattle.mon_disk.specs.Keeper.{found_body}
use Rattle.mon_disk.specs.Kept.{device_of, last_body}
use Rattle.mon_disk.specs.Memory.{memory_leaves, memory_octets}
use Rattle.mon_station.specs.Saved.{IsBegun, IsFaultOfFile}
use Rattle.mon_station.specs.Verdict.{Setting}
use Rattle.mon_world.specs.Cause.{IsFaultOfReopening}
use Rattle.mon_world.specs.Places.{setting_at}
use Rattle.mon_world.specs.Shows.{state_in}
use Rattle.mon_world.proofs.Asked.{saved_or_last}
use Rattle.mon_world.proofs.Causes.{reopening}
use Rattle.mon_world.proofs.world.World.reopen.Goals as goal

pub returns-in-Ok-clause-opened : goal.returns-in-Ok-clause-opened
returns-in-Ok-clause-opened c =
    let count : c.len.result ≡ length c.args.self.now.stations.items = search rules in
    record {
      station = c.in-Ok.station;
      is = refl;
      begun = subst (λ w. IsBegun w (found_body (memory_octets c.args.disk)) (state_in c.in-Ok.station)) (c.in_ok-core.ensures ∙ (λ j. setting_at c.args.self.now.core (count j) (c.args.place + 1))) (c.in-Ok.ensures.opened tt);
      kept = saved_or_last (memory_leaves (device_of c.in-Ok.station.keeper)) (last_body c.in-Ok.station.keeper) (state_in c.in-Ok.station) (c.in-Ok.ensures.kept tt) (c.in-Ok.ensures.last tt);
    }

pub returns-clause-cause : goal.returns-clause-cause
returns-clause-cause c =
    let self = c.args.self.now in
    let file = memory_octets c.args.disk in
    let watch : c.in_ok-core.core.watch ≡ self.core.watch = ap (λ (s : Setting). s.watch) c.in_ok-core.ensures in
    subst (IsFaultOfReopening self.core.watch file) (sym c.opening_fault.ensures)
    (reopening self.core.watch file c.in-Err.fault (subst (λ (w : Watch). IsFaultOfFile w file c.in-Err.fault) watch (c.in-Err.ensures.fault_of tt)))
