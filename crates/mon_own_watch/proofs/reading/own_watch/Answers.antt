use Rattle.std.proofs.Common.{Ok, ap, arith, inr, refl}
use Rattle.std.proofs.lemmas.Result.{err_from_is_err_and}
use Rattle.mon_own_watch.specs.Reading.{named_at}
use Rattle.mon_own_watch.proofs.Watches.{is_found, is_listed, is_only, named_again, named_takes, only_memory, unlisted}
use Rattle.mon_own_watch.proofs.reading.own_watch.Goals as goal

pub returns-in_err-all-clause-only : goal.returns-in_err-all-clause-only
returns-in_err-all-clause-only c = λ watch is.
    let p = err_from_is_err_and c.from_residual.result c.from_residual.ensures.1 in
    rw (p.1, p.2) (only_memory c.in_err-all.field-0.0 (named_at c.args.octets.now) watch.instances watch (named_again c.samples.ensures.again c.args.octets.now watch is) c.in_err-all.ensures)

pub returns-in-Ok-clause-found : goal.returns-in-Ok-clause-found
returns-in-Ok-clause-found c =
    let named = named_takes c.args.octets.now c.in_ok-all.all.items (λ i. omega (arith, c.type_inv.octets i)) c.in_ok-all.ensures in
    is_found c.args.octets.now c.in_ok-all.all.items c.new.result.items c.in-Ok.watch named c.new.ensures.items c.in-Ok.ensures.made c.instances.ensures.watch

pub returns-in-Ok-clause-only : goal.returns-in-Ok-clause-only
returns-in-Ok-clause-only c = λ watch is.
    ap Ok (is_only c.samples.ensures.again c.args.octets.now c.in_ok-all.all.items c.new.result.items c.in-Ok.watch watch c.in_ok-all.ensures c.new.ensures.items c.in-Ok.ensures.made is)

pub returns-in-Err-clause-only : goal.returns-in-Err-clause-only
returns-in-Err-clause-only c = λ watch is.
    let named = named_takes c.args.octets.now c.in_ok-all.all.items (λ i. omega (arith, c.type_inv.octets i)) c.in_ok-all.ensures in
    let listed = is_listed c.samples.ensures.again c.args.octets.now c.in_ok-all.all.items watch c.in_ok-all.ensures is in
    absurd (unlisted c.args.octets.now c.in_ok-all.all.items c.new.result.items c.new-2.result c.in-Err.field-0 named c.new.ensures.items c.in-Err.is c.new-2.ensures.accepted listed)

pub returns-in-Err-clause-fault : goal.returns-in-Err-clause-fault
returns-in-Err-clause-fault c =
    let named = named_takes c.args.octets.now c.in_ok-all.all.items (λ i. omega (arith, c.type_inv.octets i)) c.in_ok-all.ensures in
    inr (refl, (c.in_ok-all.all.items, c.in_ok-all.ensures, unlisted c.args.octets.now c.in_ok-all.all.items c.new.result.items c.new-2.result c.in-Err.field-0 named c.new.ensures.items c.in-Err.is c.new-2.ensures.accepted))
