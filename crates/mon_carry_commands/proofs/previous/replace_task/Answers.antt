use Rattle.mon_host.specs.Then.{Then}
use Rattle.mon_carry_commands.specs.Line.{IsCountsPrint}
use Rattle.mon_carry_commands.specs.Load.{IsLoaded}
use Rattle.mon_carry_commands.specs.Previous.{IsReplacingUnless}
use Rattle.mon_carry_commands.specs.declared.load.Load.{Load}
use Rattle.mon_carry_commands.proofs.Steps.{follows, stopped}
use Rattle.mon_carry_commands.proofs.previous.replace_task.Goals as goal

pub returns-in_err-replace_unless : goal.returns-in_err-replace_unless
returns-in_err-replace_unless g c =
    let saved = g.K.Saves.asked_save c.args.means.now.disks.now in
    let t = c.args.task in
    let loaded = IsLoaded t.path.now t.old.now t.new.now t.dropped.now in
    let start = g.H.Host.log c.args.host.now in
    let read = g.H.Host.log c.load_from.new.host in
    let step = IsReplacingUnless saved c.args.skips t.path.now c.in_ok-load.load in
    follows loaded (λ (load : Load). Then (IsReplacingUnless saved c.args.skips t.path.now load) (λ (done : Unit {0}). IsCountsPrint load.carried)) c.in_ok-load.load _ start read _ c.in_ok-load.ensures
    (stopped step (λ (done : Unit {0}). IsCountsPrint c.in_ok-load.load.carried) c.in_err-replace_unless.field-0.0 _ read _ c.from_residual-in_err-replace_unless.ensures.1 c.in_err-replace_unless.ensures)

pub returns : goal.returns
returns g c =
    let saved = g.K.Saves.asked_save c.args.means.now.disks.now in
    let t = c.args.task in
    let loaded = IsLoaded t.path.now t.old.now t.new.now t.dropped.now in
    let start = g.H.Host.log c.args.host.now in
    let read = g.H.Host.log c.load_from.new.host in
    let step = IsReplacingUnless saved c.args.skips t.path.now c.in_ok-load.load in
    follows loaded (λ (load : Load). Then (IsReplacingUnless saved c.args.skips t.path.now load) (λ (done : Unit {0}). IsCountsPrint load.carried)) c.in_ok-load.load _ start read _ c.in_ok-load.ensures
    (follows step (λ (done : Unit {0}). IsCountsPrint c.in_ok-load.load.carried) c.in_ok-replace_unless.field-0 _ read _ _ c.in_ok-replace_unless.ensures c.print_carried.ensures)
