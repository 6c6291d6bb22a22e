use Rattle.std.proofs.Common.{◌≡◌, length, ap, ◌∙◌, arith}
use Rattle.mon_mib.specs.Objects.{prefix_of}
use Rattle.mon_mib.proofs.Identifiers.{has_room}
use Rattle.mon_mib.proofs.object.Object.name.Goals as goal

pub from_valid-requires : goal.from_valid-requires
from_valid-requires c =
    let own = has_room c.args.self in
    rw (c.in_ok-push.ensures.ok, c.in_ok-parts.ensures.ok, c.prefix.ensures)
    (c.pushed.ensures (prefix_of c.args.self) c.args.instance own.is own.room (omega arith))

pub returns-in_err-parts-clause-always : goal.returns-in_err-parts-clause-always
returns-in_err-parts-clause-always c =
    let own = has_room c.args.self in
    let yes = c.in_err-parts.ensures.succeeds (rw c.prefix.ensures (omega (arith, own.inline))) in
    absurd cc

pub returns-in_err-push-clause-always : goal.returns-in_err-push-clause-always
returns-in_err-push-clause-always c =
    let own = has_room c.args.self in
    let size : length c.in_ok-parts.parts.items ≡ length (prefix_of c.args.self) = ap length (c.in_ok-parts.ensures.ok ∙ c.prefix.ensures) in
    let capacity : c.in_ok-parts.parts.capacity ≡ 16 = c.in_ok-parts.ensures.inline (rw c.prefix.ensures (omega (arith, own.inline))) in
    let yes = c.in_err-push.ensures.succeeds (omega (arith, size, capacity, own.inline)) in
    absurd cc
