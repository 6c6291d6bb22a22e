use Rattle.std.proofs.Common.{◌≡◌, drop, List, ℕ, ◌∙◌, false, sym, ap, subst}
use Rattle.mon_disk.specs.Keeper.{FindsBody, is_undamaged}
use Rattle.mon_disk.specs.Kept.{device_of}
use Rattle.mon_disk.specs.Memory.{memory_octets, memory_synced}
use Rattle.mon_station.specs.Saved.{saved_octets}
use Rattle.mon_world.specs.Shows.{state_in}
use Rattle.mon_world.proofs.Reopened.{seen_is_left}
use Rattle.mon_world.proofs.Stopped.{are_saved, stop_finds}
use Rattle.mon_world.specs.Cause.{IsFaultOfBeginning}
use Rattle.mon_world.proofs.Causes.{beginning_opening}
use Rattle.mon_world.proofs.stop.stop_at.Goals as goal

pub returns-clause-found : goal.returns-clause-found
returns-clause-found c =
    let s = state_in c.args.station.now in
    let disk = device_of c.args.station.now.keeper in
    let one = device_of c.in-Ok.keeper in
    let three = device_of c.save_calls.new.self in
    let made = c.in_default.ensures.save.on_disk tt in
    let saved = are_saved s c.board-board.result.now c.incarnation.result c.in_ok-image.image.items c.board-board.ensures c.incarnation.ensures c.in_ok-image.ensures.written c.in_ok-image.ensures.spells in
    let body : drop 16 c.as_mut_slice.result.now ≡ saved_octets s = ap (λ (l : List ℕ). drop 16 l) c.as_mut_slice.ensures.value ∙ c.in_ok-octets.ensures.image ∙ c.as_slice.ensures.value ∙ saved.0 in
    stop_finds s (drop 16 c.as_mut_slice.result.now) body saved.1 _ (memory_octets disk) (memory_octets one)
    (subst (FindsBody _) (c.in_ok-copy.ensures.octets ∙ ap memory_octets c.disk.ensures) (c.in-Ok.ensures.found tt)) (c.in-Ok.ensures.kept tt (memory_octets one) (seen_is_left one))
    c.args.calls c.args.keep (memory_octets three) (memory_synced three) (memory_octets c.in_ok-left.left) made.whole made.seen made.synced
    (λ keep. c.in_ok-left.ensures.kept keep ∙ ap memory_octets c.into_disk.ensures) (λ lose. c.in_ok-left.ensures.lost lose ∙ ap memory_synced c.into_disk.ensures)

pub returns-in-Err-clause-fault : goal.returns-in-Err-clause-fault
returns-in-Err-clause-fault c =
    let file = memory_octets (device_of c.args.station.now.keeper) in
    let same : memory_octets c.in_ok-copy.copy ≡ file = c.in_ok-copy.ensures.octets ∙ ap memory_octets c.disk.ensures in
    subst (IsFaultOfBeginning file) (sym c.fault_of_copy.ensures)
    (beginning_opening file c.in-Err.field-0.fault c.in-Err.ensures.fault (λ damaged. subst (λ (f : List ℕ). is_undamaged f ≡ false) same (c.in-Err.ensures.damaged tt damaged)))
