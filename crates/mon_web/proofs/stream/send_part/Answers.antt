use Rattle.std.proofs.Common.{rules, ◌≡◌, ◌≤◌, ℕ, Result, length, List, subst, sym, refl}
use Rattle.std.specs.Prelude.{min}
use Rattle.std.specs.declared.io.Error.{Error}
use Rattle.mon_web.specs.Stream.{part_of}
use Rattle.mon_web.proofs.Streams.{part_is}
use Rattle.mon_web.proofs.stream.send_part.Goals as goal

pub returns-in-Err : goal.returns-in-Err
returns-in-Err g c =
    let len : c.min-len.result ≡ min (length c.pending-pending.result.now) 65536 = search rules in
    let part = part_is c.pending-pending.result.now c.args.connection.now.unsent c.min-len.result c.pending-pending.ensures len in
    record {
      asked = subst (λ (r : Result ℕ Error). g.S.Stream.asked_write c.args.stream.now (part_of c.args.connection.now.unsent) r c.put.new.self) c.in-Err.is
          (subst (λ (xs : List ℕ). g.S.Stream.asked_write c.args.stream.now xs c.put.result c.put.new.self) part c.put.ensures.asked);
      sent = refl;
    }

pub returns-in-Ok : goal.returns-in-Ok
returns-in-Ok g c =
    let len : c.min-len.result ≡ min (length c.pending-pending.result.now) 65536 = search rules in
    let part = part_is c.pending-pending.result.now c.args.connection.now.unsent c.min-len.result c.pending-pending.ensures len in
    record {
      asked = subst (λ (r : Result ℕ Error). g.S.Stream.asked_write c.args.stream.now (part_of c.args.connection.now.unsent) r c.put.new.self) c.in-Ok.is
          (subst (λ (xs : List ℕ). g.S.Stream.asked_write c.args.stream.now xs c.put.result c.put.new.self) part c.put.ensures.asked);
      sent = (subst (λ (xs : List ℕ). c.in-Ok.n ≤ length xs) part c.in-Ok.ensures.bound, c.sent.ensures);
    }
