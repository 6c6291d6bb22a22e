use Rattle.std.proofs.Common.{sym, ◌∙◌, subst}
use Rattle.mon_vacm.specs.View.{IsInView}
use Rattle.mon_mib.specs.Known.{Known, known_of}
use Rattle.mon_mib.specs.Refusal.{IsWritable}
use Rattle.mon_mib.specs.Tried.{object_of, IsTried}
use Rattle.mon_mib.proofs.Judging.{judged}
use Rattle.mon_mib.proofs.mib.Mib.assign.Goals as goal

pub returns-in-SysText : goal.returns-in-SysText
returns-in-SysText g c =
    let known : Known = known_of c.args.self.now.settings c.args.self.now.counters (g.D.Device.held c.args.self.now.device) c.args.moment in
    judged known (IsInView c.args.policy.now.families c.args.access.view.now) c.args.binding.now (object_of c.in-Some.object) c.in-Some.rest.now
    (c.sees.ensures.0 c.if-not-sees.false) (subst (λ n. IsWritable n (object_of c.in-Some.object)) c.parts.ensures.parts c.in-Some.ensures.some.1)
    (sym c.parts.ensures.parts ∙ c.in-Some.ensures.some.0) c.assign_sys_text.result
    (subst (λ w. IsTried known (object_of w) c.in-Some.rest.now c.args.binding.now.value c.assign_sys_text.result) (sym c.in-SysText.is) (c.assign_sys_text.ensures c.args.moment))

pub returns-in-AdminStatus : goal.returns-in-AdminStatus
returns-in-AdminStatus g c =
    let known : Known = known_of c.args.self.now.settings c.args.self.now.counters (g.D.Device.held c.args.self.now.device) c.args.moment in
    judged known (IsInView c.args.policy.now.families c.args.access.view.now) c.args.binding.now (object_of c.in-Some.object) c.in-Some.rest.now
    (c.sees.ensures.0 c.if-not-sees.false) (subst (λ n. IsWritable n (object_of c.in-Some.object)) c.parts.ensures.parts c.in-Some.ensures.some.1)
    (sym c.parts.ensures.parts ∙ c.in-Some.ensures.some.0) c.assign_status.result
    (subst (λ w. IsTried known (object_of w) c.in-Some.rest.now c.args.binding.now.value c.assign_status.result) (sym c.in-AdminStatus.is) c.assign_status.ensures)

pub returns-in-Alias : goal.returns-in-Alias
returns-in-Alias g c =
    let known : Known = known_of c.args.self.now.settings c.args.self.now.counters (g.D.Device.held c.args.self.now.device) c.args.moment in
    judged known (IsInView c.args.policy.now.families c.args.access.view.now) c.args.binding.now (object_of c.in-Some.object) c.in-Some.rest.now
    (c.sees.ensures.0 c.if-not-sees.false) (subst (λ n. IsWritable n (object_of c.in-Some.object)) c.parts.ensures.parts c.in-Some.ensures.some.1)
    (sym c.parts.ensures.parts ∙ c.in-Some.ensures.some.0) c.assign_alias.result
    (subst (λ w. IsTried known (object_of w) c.in-Some.rest.now c.args.binding.now.value c.assign_alias.result) (sym c.in-Alias.is) c.assign_alias.ensures)
