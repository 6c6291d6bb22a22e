use Rattle.std.proofs.Common.{sym, ap, Err}
use Rattle.mon_vacm.specs.Tables.{lists_of}
use Rattle.mon_settings.proofs.Policies.{policy_made, policy_refused}
use Rattle.mon_settings.proofs.tables.policy_of.Goals as goal

pub returns-in-Ok : goal.returns-in-Ok
returns-in-Ok c =
    let kept = c.in-Ok.ensures.kept in
    rw (← kept.0) (sym (policy_made c.in-Ok.policy kept.1))

pub returns-in-Err : goal.returns-in-Err
returns-in-Err c =
    let refused = policy_refused (lists_of c.args.tables) c.in-Err.fault
    (λ e. c.in-Err.ensures.duplicate_community.0 (ap Err e))
    (λ e. c.in-Err.ensures.unknown_view.0 (ap Err e))
    (λ e. c.in-Err.ensures.duplicate_family.0 (ap Err e)) in
    rw c.bad.ensures (rw c.list_of.ensures (sym refused))
