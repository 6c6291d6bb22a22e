use Rattle.std.proofs.Common.{rules, ◌≡◌, true, false, refl, sym, ◌∙◌}
use Rattle.mon_disk.specs.Keeper.{IsKept}
use Rattle.mon_disk.specs.declared.file.TheConstants.{SLOT_SIZE}
use Rattle.mon_disk.proofs.Held.{kept_held}
use Rattle.mon_disk.proofs.Mended.{fails, mends, not_needed, shut_held, shut_kept}
use Rattle.mon_disk.proofs.keeper.Keeper.reopen.Goals as goal

pub returns-then-not-self : goal.returns-then-not-self
returns-then-not-self g c = record { reopen = not_needed c.args.self.now (λ f h left. g.met.D.Disk.only_now c.args.self.now.device f h left) (search rules) }

pub invariant_of-self : goal.invariant_of-self
invariant_of-self g c =
    let D = g.D.Disk in
    let k = c.args.self.now in
    let new = c.shut.new.disk in
    record {
      kept = λ fresh. absurd (let spoiled : k.spoiled ≡ true = search rules in let no : false ≡ true = sym fresh ∙ spoiled in cc);
      held = λ after.
          let h = c.shut.ensures.honest.1 after in
          shut_held D.moment D.left_since D.may_leave k.newest c.spare_slot.result c.spare_slot.ensures (D.seen k.device) (D.seen new) k.device new (k.held h)
          (λ t f le left. g.met.D.Disk.counts_now new t f after le left) (g.met.D.Disk.seen_now new after) (c.shut.ensures.any_moment h);
      more = k.more;
    }

pub invariant_of-self-2 : goal.invariant_of-self-2
invariant_of-self-2 g c =
    let D = g.D.Disk in
    let k = c.args.self.now in
    let new = c.shut.new.disk in
    let kept : D.is_honest new → IsKept SLOT_SIZE k.newest (D.seen new) (D.may_leave new) = λ after.
    let h = c.shut.ensures.honest.1 after in
    shut_kept k.newest c.spare_slot.result c.spare_slot.ensures (D.seen k.device) (D.seen new) (D.may_leave k.device) (D.may_leave new) (k.held h) (c.in_ok-shut.ensures.closed h) (c.in_ok-shut.ensures.durable h) in
    record { kept = λ fresh. kept; held = λ after. kept_held SLOT_SIZE k.newest (D.seen new) (D.may_leave new) (kept after); more = λ no. absurd (let both : false ≡ true = no in cc) }

pub returns-in_err-shut : goal.returns-in_err-shut
returns-in_err-shut g c =
    let D = g.D.Disk in
    let k = c.args.self.now in
    let new = c.shut.new.disk in
    let spoiled : k.spoiled ≡ true = search rules in
    record {
      reopen = fails k _ c.spare_slot.result c.spare_slot.ensures refl spoiled c.shut.ensures.honest.0 c.shut.ensures.honest.1
          (λ after t f le left. g.met.D.Disk.counts_now new t f after le left) (λ after. g.met.D.Disk.seen_now new after) (λ h. c.shut.ensures.any_moment h) c.shut.ensures.cause.no_less
          spoiled (c.in_err-shut.ensures.cause.told refl) c.from_residual.result (search rules);
    }

pub returns : goal.returns
returns g c =
    let D = g.D.Disk in
    let k = c.args.self.now in
    let new = c.shut.new.disk in
    let spoiled : k.spoiled ≡ true = search rules in
    let kept : D.is_honest k.device → IsKept SLOT_SIZE k.newest (D.seen new) (D.may_leave new) = λ h.
    shut_kept k.newest c.spare_slot.result c.spare_slot.ensures (D.seen k.device) (D.seen new) (D.may_leave k.device) (D.may_leave new) (k.held h) (c.in_ok-shut.ensures.closed h) (c.in_ok-shut.ensures.durable h) in
    record {
      reopen = mends k _ c.spare_slot.result c.spare_slot.ensures refl spoiled c.shut.ensures.honest.0 c.shut.ensures.honest.1
          (λ after t f le left. g.met.D.Disk.counts_now new t f after le left) (λ after. g.met.D.Disk.seen_now new after) (λ h. c.shut.ensures.any_moment h) c.shut.ensures.cause.no_less refl kept;
    }
