use Rattle.std.proofs.Common.{◌≡◌, true, false, sym, subst}
use Rattle.mon_disk.specs.Keeper.{FindsBody}
use Rattle.mon_disk.specs.declared.file.TheConstants.{SLOT_SIZE}
use Rattle.mon_disk.proofs.Held.{kept_held, kept_body}
use Rattle.mon_disk.proofs.keeper.Keeper.open.Goals as goal

pub returns-in-Ok-clause-happens : goal.returns-in-Ok-clause-happens
returns-in-Ok-clause-happens g c = λ h.
    let kept = c.in-Ok.ensures.kept h in
    record { found = c.in-Ok.ensures.found h; kept = λ f left. subst (FindsBody _) (sym (kept.durable f left)) (c.in-Ok.ensures.later h) }

pub returns-in-Ok-clause-last : goal.returns-in-Ok-clause-last
returns-in-Ok-clause-last g c = λ h. kept_body _ _ _ (c.in-Ok.ensures.kept h) _ (c.in-Ok.ensures.later h)

pub invariant_of-result : goal.invariant_of-result
invariant_of-result g c = record {
  kept = λ fresh h. c.in-Ok.ensures.kept (c.settle.ensures.honest.1 h);
  held = λ h. kept_held SLOT_SIZE _ _ _ (c.in-Ok.ensures.kept (c.settle.ensures.honest.1 h));
  more = λ no. absurd (let both : false ≡ true = no in cc);
}
