use Rattle.mon_host.specs.Then.{Quietly, Then}
use Rattle.mon_carry_commands.specs.Line.{IsCountsPrint}
use Rattle.mon_carry_commands.specs.Load.{IsLoaded}
use Rattle.mon_carry_commands.specs.Saving.{IsSavingUnless}
use Rattle.mon_carry_commands.specs.declared.load.Load.{Load}
use Rattle.mon_carry_commands.proofs.Steps.{follows, silent_stopped, silent_then}
use Rattle.mon_carry_commands.proofs.carry.carry_task.Goals as goal

pub returns-in_err-save_unless : goal.returns-in_err-save_unless
returns-in_err-save_unless g c =
    let saved = g.K.Saves.asked_save c.args.means.now.disks.now in
    let t = c.args.task in
    let loaded = IsLoaded t.path.now t.old.now t.new.now t.dropped.now in
    let start = g.H.Host.log c.args.host.now in
    let read = g.H.Host.log c.load_from.new.host in
    follows loaded (λ (load : Load). Then (Quietly (IsSavingUnless saved c.args.skips c.args.path.now load)) (λ (done : Unit {0}). IsCountsPrint load.carried)) c.in_ok-load.load _ start read _ c.in_ok-load.ensures
    (silent_stopped (IsSavingUnless saved c.args.skips c.args.path.now c.in_ok-load.load) (λ (done : Unit {0}). IsCountsPrint c.in_ok-load.load.carried) c.in_err-save_unless.field-0.0 _ read c.from_residual-in_err-save_unless.ensures.1 c.in_err-save_unless.ensures)

pub returns : goal.returns
returns g c =
    let saved = g.K.Saves.asked_save c.args.means.now.disks.now in
    let t = c.args.task in
    let loaded = IsLoaded t.path.now t.old.now t.new.now t.dropped.now in
    let start = g.H.Host.log c.args.host.now in
    let read = g.H.Host.log c.load_from.new.host in
    follows loaded (λ (load : Load). Then (Quietly (IsSavingUnless saved c.args.skips c.args.path.now load)) (λ (done : Unit {0}). IsCountsPrint load.carried)) c.in_ok-load.load _ start read _ c.in_ok-load.ensures
    (silent_then (IsSavingUnless saved c.args.skips c.args.path.now c.in_ok-load.load) (λ (done : Unit {0}). IsCountsPrint c.in_ok-load.load.carried) c.in_ok-save_unless.field-0 _ read _ c.in_ok-save_unless.ensures c.print_carried.ensures)
