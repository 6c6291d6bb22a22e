use Rattle.std.proofs.Common.{ap, subst, sym}
use Rattle.std.proofs.lemmas.Result.{IfOk-from_err}
use Rattle.mon_mib.specs.declared.interface.Interface.{Interface}
use Rattle.mon_mib.specs.Change.{IsOf}
use Rattle.mon_mib.specs.Sim.{indexes_of, held_of}
use Rattle.mon_mib.proofs.Applying.{still_indexes, admin_made, admin_undo, alias_is_made, alias_undo, is_there, failures_of, text_made, on_err}
use Rattle.mon_mib.proofs.sim_device.SimDeviceDevice.apply.Goals as goal

pub invariant_of-self-in-Admin : goal.invariant_of-self-in-Admin
invariant_of-self-in-Admin c = still_indexes c.self-in-Admin.inside.interfaces.items c.self-in-Admin.inside.texts c.self-in-Admin.inside.failures c.place.new.self c.args.self.now c.in-Admin.index c.in_ok-place-in-Admin.place c.index_mut.result.now c.replace_status-was.new.self c.args.change
    c.self-in-Admin.view_is c.in_ok-place-in-Admin.ensures.same c.self-in-Admin.invariant c.in_ok-place-in-Admin.ensures.found c.index_mut.ensures.value
    (ap (λ (p : Interface). p.index) c.replace_status-was.ensures.is)

pub returns-in_ok-place-in-Admin-clause-made : goal.returns-in_ok-place-in-Admin-clause-made
returns-in_ok-place-in-Admin-clause-made c = admin_made c.self-in-Admin.inside.interfaces.items c.self-in-Admin.inside.texts c.self-in-Admin.inside.failures c.place.new.self c.args.self.now c.in-Admin.index c.in_ok-place-in-Admin.place c.index_mut.result.now c.replace_status-was.new.self c.args.change
    c.self-in-Admin.view_is c.in_ok-place-in-Admin.ensures.same c.self-in-Admin.invariant c.in_ok-place-in-Admin.ensures.found c.index_mut.ensures.value
    (record { admin = c.in-Admin.status; since = c.in-Admin.since }) c.replace_status-was.ensures.is c.in-Admin.is

pub returns-in_ok-place-in-Admin-clause-undo : goal.returns-in_ok-place-in-Admin-clause-undo
returns-in_ok-place-in-Admin-clause-undo c = admin_undo c.self-in-Admin.inside.interfaces.items c.self-in-Admin.inside.texts c.self-in-Admin.inside.failures c.place.new.self c.args.self.now c.in-Admin.index c.in_ok-place-in-Admin.place c.index_mut.result.now c.replace_status-was.new.self c.args.change
    c.self-in-Admin.view_is c.in_ok-place-in-Admin.ensures.same c.self-in-Admin.invariant c.in_ok-place-in-Admin.ensures.found c.index_mut.ensures.value
    c.replace_status-was.result c.in-Admin.status c.in-Admin.since c.replace_status-was.ensures.was c.in-Admin.is

pub returns-in_ok-place-in-Admin-clause-there : goal.returns-in_ok-place-in-Admin-clause-there
returns-in_ok-place-in-Admin-clause-there c = subst (IsOf (indexes_of c.args.self.now.interfaces)) (sym c.in-Admin.is) (is_there c.self-in-Admin.inside.interfaces.items c.self-in-Admin.inside.texts c.self-in-Admin.inside.failures c.place.new.self c.args.self.now c.in-Admin.index c.in_ok-place-in-Admin.place c.index_mut.result.now c.replace_status-was.new.self c.args.change
    c.self-in-Admin.view_is c.in_ok-place-in-Admin.ensures.same c.self-in-Admin.invariant c.in_ok-place-in-Admin.ensures.found c.index_mut.ensures.value)

pub invariant_of-self-in-Alias : goal.invariant_of-self-in-Alias
invariant_of-self-in-Alias c = still_indexes c.self-in-Alias.inside.interfaces.items c.self-in-Alias.inside.texts c.self-in-Alias.inside.failures c.place-in-Alias.new.self c.args.self.now c.in-Alias.index c.in_ok-place-in-Alias.place c.index_mut-in-Alias.result.now c.replace_alias-was.new.self c.args.change
    c.self-in-Alias.view_is c.in_ok-place-in-Alias.ensures.same c.self-in-Alias.invariant c.in_ok-place-in-Alias.ensures.found c.index_mut-in-Alias.ensures.value
    (ap (λ (p : Interface). p.index) c.replace_alias-was.ensures.is)

pub returns-in_ok-place-in-Alias-clause-made : goal.returns-in_ok-place-in-Alias-clause-made
returns-in_ok-place-in-Alias-clause-made c = alias_is_made c.self-in-Alias.inside.interfaces.items c.self-in-Alias.inside.texts c.self-in-Alias.inside.failures c.place-in-Alias.new.self c.args.self.now c.in-Alias.index c.in_ok-place-in-Alias.place c.index_mut-in-Alias.result.now c.replace_alias-was.new.self c.args.change
    c.self-in-Alias.view_is c.in_ok-place-in-Alias.ensures.same c.self-in-Alias.invariant c.in_ok-place-in-Alias.ensures.found c.index_mut-in-Alias.ensures.value
    c.in-Alias.alias c.replace_alias-was.ensures.is c.in-Alias.is

pub returns-in_ok-place-in-Alias-clause-undo : goal.returns-in_ok-place-in-Alias-clause-undo
returns-in_ok-place-in-Alias-clause-undo c = alias_undo c.self-in-Alias.inside.interfaces.items c.self-in-Alias.inside.texts c.self-in-Alias.inside.failures c.place-in-Alias.new.self c.args.self.now c.in-Alias.index c.in_ok-place-in-Alias.place c.index_mut-in-Alias.result.now c.replace_alias-was.new.self c.args.change
    c.self-in-Alias.view_is c.in_ok-place-in-Alias.ensures.same c.self-in-Alias.invariant c.in_ok-place-in-Alias.ensures.found c.index_mut-in-Alias.ensures.value
    c.replace_alias-was.result c.in-Alias.alias c.replace_alias-was.ensures.was c.in-Alias.is

pub returns-in_ok-place-in-Alias-clause-there : goal.returns-in_ok-place-in-Alias-clause-there
returns-in_ok-place-in-Alias-clause-there c = subst (IsOf (indexes_of c.args.self.now.interfaces)) (sym c.in-Alias.is) (is_there c.self-in-Alias.inside.interfaces.items c.self-in-Alias.inside.texts c.self-in-Alias.inside.failures c.place-in-Alias.new.self c.args.self.now c.in-Alias.index c.in_ok-place-in-Alias.place c.index_mut-in-Alias.result.now c.replace_alias-was.new.self c.args.change
    c.self-in-Alias.view_is c.in_ok-place-in-Alias.ensures.same c.self-in-Alias.invariant c.in_ok-place-in-Alias.ensures.found c.index_mut-in-Alias.ensures.value)

pub returns-in_err-place-in-Alias-clause-kept : goal.returns-in_err-place-in-Alias-clause-kept
returns-in_err-place-in-Alias-clause-kept c = on_err c.from_residual-in_err-place-in-Alias.result (ap held_of c.in_err-place-in-Alias.ensures.counted)

pub returns-in-SysText-clause-made : goal.returns-in-SysText-clause-made
returns-in-SysText-clause-made c = text_made c.self.inside.interfaces.items c.self.inside.texts c.replace.new.self c.self.inside.failures c.args.self.now c.args.change c.in-SysText.which c.in-SysText.text
    c.self.view_is c.replace.ensures.is c.in-SysText.is

pub returns-in_err-place-in-Admin-clause-made : goal.returns-in_err-place-in-Admin-clause-made
returns-in_err-place-in-Admin-clause-made c = IfOk-from_err c.from_residual.result _ c.from_residual.ensures.0

pub returns-in_err-place-in-Admin-clause-undo : goal.returns-in_err-place-in-Admin-clause-undo
returns-in_err-place-in-Admin-clause-undo c = IfOk-from_err c.from_residual.result _ c.from_residual.ensures.0

pub returns-in_err-place-in-Admin-clause-there : goal.returns-in_err-place-in-Admin-clause-there
returns-in_err-place-in-Admin-clause-there c = IfOk-from_err c.from_residual.result _ c.from_residual.ensures.0

pub returns-in_err-place-in-Admin-clause-quiet : goal.returns-in_err-place-in-Admin-clause-quiet
returns-in_err-place-in-Admin-clause-quiet c = IfOk-from_err c.from_residual.result _ c.from_residual.ensures.0

pub returns-in_err-place-in-Admin-clause-kept : goal.returns-in_err-place-in-Admin-clause-kept
returns-in_err-place-in-Admin-clause-kept c = on_err c.from_residual.result (ap held_of c.in_err-place-in-Admin.ensures.counted)

pub returns-in_err-place-in-Admin-clause-counted : goal.returns-in_err-place-in-Admin-clause-counted
returns-in_err-place-in-Admin-clause-counted c = on_err c.from_residual.result (ap failures_of c.in_err-place-in-Admin.ensures.counted)

pub returns-in_err-place-in-Alias-clause-made : goal.returns-in_err-place-in-Alias-clause-made
returns-in_err-place-in-Alias-clause-made c = IfOk-from_err c.from_residual-in_err-place-in-Alias.result _ c.from_residual-in_err-place-in-Alias.ensures.0

pub returns-in_err-place-in-Alias-clause-undo : goal.returns-in_err-place-in-Alias-clause-undo
returns-in_err-place-in-Alias-clause-undo c = IfOk-from_err c.from_residual-in_err-place-in-Alias.result _ c.from_residual-in_err-place-in-Alias.ensures.0

pub returns-in_err-place-in-Alias-clause-there : goal.returns-in_err-place-in-Alias-clause-there
returns-in_err-place-in-Alias-clause-there c = IfOk-from_err c.from_residual-in_err-place-in-Alias.result _ c.from_residual-in_err-place-in-Alias.ensures.0

pub returns-in_err-place-in-Alias-clause-quiet : goal.returns-in_err-place-in-Alias-clause-quiet
returns-in_err-place-in-Alias-clause-quiet c = IfOk-from_err c.from_residual-in_err-place-in-Alias.result _ c.from_residual-in_err-place-in-Alias.ensures.0

pub returns-in_err-place-in-Alias-clause-counted : goal.returns-in_err-place-in-Alias-clause-counted
returns-in_err-place-in-Alias-clause-counted c = on_err c.from_residual-in_err-place-in-Alias.result (ap failures_of c.in_err-place-in-Alias.ensures.counted)

pub returns-in_ok-place-in-Admin-clause-kept : goal.returns-in_ok-place-in-Admin-clause-kept
returns-in_ok-place-in-Admin-clause-kept c = tt

pub returns-in_ok-place-in-Admin-clause-refused : goal.returns-in_ok-place-in-Admin-clause-refused
returns-in_ok-place-in-Admin-clause-refused c = tt

pub returns-in_ok-place-in-Admin-clause-counted : goal.returns-in_ok-place-in-Admin-clause-counted
returns-in_ok-place-in-Admin-clause-counted c = tt

pub returns-in_ok-place-in-Alias-clause-kept : goal.returns-in_ok-place-in-Alias-clause-kept
returns-in_ok-place-in-Alias-clause-kept c = tt

pub returns-in_ok-place-in-Alias-clause-refused : goal.returns-in_ok-place-in-Alias-clause-refused
returns-in_ok-place-in-Alias-clause-refused c = tt

pub returns-in_ok-place-in-Alias-clause-counted : goal.returns-in_ok-place-in-Alias-clause-counted
returns-in_ok-place-in-Alias-clause-counted c = tt

pub returns-in-SysText-clause-kept : goal.returns-in-SysText-clause-kept
returns-in-SysText-clause-kept c = tt

pub returns-in-SysText-clause-refused : goal.returns-in-SysText-clause-refused
returns-in-SysText-clause-refused c = tt

pub returns-in-SysText-clause-counted : goal.returns-in-SysText-clause-counted
returns-in-SysText-clause-counted c = tt
