use Rattle.std.proofs.Common.{◌++◌, ◌∷◌, [], ◌∙◌, List, Option, take, ap, sym}
use Rattle.std.proofs.lemmas.List.{take_more}
use Rattle.mon_udp.specs.Told.{extended}
use Rattle.mon_station.specs.declared.event.Outgoing.{Outgoing}
use Rattle.mon_station.proofs.Runs.{extended_twice, failed_more}
use Rattle.mon_station.proofs.running.hand.Goals as goal

pub loop-out-preserved : goal.loop-out-preserved
loop-out-preserved g c =
    let so_far = c.loop-out.invariant in
    let start = g.O.Outbox.log c.args.outbox.now in
    let sends : List Outgoing = c.args.sends.now in
    let k = c.loop-out.out-index in
    let out : Outgoing = c.out-item.result in
    record {
      handed = c.send.ensures.log
          ∙ ap (λ (h : Option (List Outgoing)). extended h (out ∷ [])) so_far.handed
          ∙ extended_twice start (take k sends) (out ∷ [])
          ∙ ap (extended start) (ap (λ (o : Outgoing). take k sends ++ o ∷ []) c.out-item.is ∙ sym (take_more sends k out c.loop-out-test.true));
      failed = λ first h. failed_more first _ _ _ _ c.send.result (so_far.failed first h) c.send.ensures.failures c.failed_after.ensures;
    }
