use Rattle.std.proofs.Common.{◌+◌, ◌<◌, ◌^◌, refl, sym, ap, subst, inl, inr, ◌∙◌, arith, rules}
use Rattle.mon_station.specs.Ran.{HasFailed, IsEmpty, failures_after, faults_in}
use Rattle.mon_station.specs.Seen.{seen}
use Rattle.mon_station.specs.Turned.{RanSoFar}
use Rattle.mon_station.proofs.Runs.{few_told, none_failed, ran_of, room_left, so_far_more, so_far_none, with_turns}
use Rattle.mon_station.proofs.station.Station.run.Goals as goal

pub loop-turn-init : goal.loop-turn-init
loop-turn-init g c =
    let begun : IsEmpty c.begin.new.self = c.begin.ensures.empty in
    let source = g.S.Source.failures c.args.source.now in
    let outbox = g.O.Outbox.failures c.args.outbox.now in
    record {
      room = search rules;
      turns = begun.turns;
      source = sym (ap (λ n. failures_after n source) begun.source_faults);
      outbox = subst (λ n. HasFailed outbox outbox n) (sym begun.send_faults) (none_failed outbox);
      refused = begun.refused ∙ sym (ap faults_in begun.answers);
      ran = so_far_none g.D.Disk g.S.Source.gives (λ disk t h left. g.met.D.Disk.only_now disk t h left) _ _ begun;
    }

pub take_turn-requires-clause-capacity : goal.take_turn-requires-clause-capacity
take_turn-requires-clause-capacity g c =
    let so_far = c.loop-turn.invariant in
    omega (arith, few_told c.loop-turn.run so_far.ran.calls so_far.ran.told, so_far.turns, so_far.room, c.loop-turn-test.true)

pub take_turn-requires-clause-faults : goal.take_turn-requires-clause-faults
take_turn-requires-clause-faults g c =
    let so_far = c.loop-turn.invariant in
    let fits : c.args.turns < 2 ^ 64 = search rules in
    omega (arith, few_told c.loop-turn.run so_far.ran.calls so_far.ran.told, so_far.turns, fits, c.loop-turn-test.true)

pub take_turn-requires-clause-refused : goal.take_turn-requires-clause-refused
take_turn-requires-clause-refused g c =
    let so_far = c.loop-turn.invariant in
    room_left c.loop-turn.run.refused c.loop-turn.turn c.args.turns c.loop-turn.run.answers.items so_far.refused
    (omega (arith, few_told c.loop-turn.run so_far.ran.calls so_far.ran.told, so_far.turns)) c.loop-turn-test.true (search rules)

pub returns-then-not-take_turn-clause-ran : goal.returns-then-not-take_turn-clause-ran
returns-then-not-take_turn-clause-ran g c =
    let so_far = c.loop-turn.invariant in
    let S = g.S.Source in
    let O = g.O.Outbox in
    let first = seen c.args.self.now (S.view c.args.source.now) (O.log c.args.outbox.now) in
    let last = seen c.take_turn.new.self (S.view c.take_turn.new.source) (O.log c.take_turn.new.outbox) in
    let more = so_far_more g.D.Disk S.gives first (seen c.loop-turn.self (S.view c.loop-turn.source) (O.log c.loop-turn.outbox)) last c.loop-turn.run (with_turns c.loop-turn.run (c.loop-turn.turn + 1)) c.take_turn.new.run c.loop-turn.last c.take_turn.new.last c.take_turn.result
    so_far.ran c.take_turn.ensures.called refl refl (ap (λ n. n + 1) (sym so_far.turns)) in
    ran_of g.D.Disk S.gives first last c.args.turns c.take_turn.new.run c.take_turn.new.last c.take_turn.result more
    (inr (omega (arith, so_far.ran.told.turns, so_far.turns, c.loop-turn-test.true), more.going_is ∙ c.if-not-take_turn.true))

pub loop-turn-preserved : goal.loop-turn-preserved
loop-turn-preserved g c =
    let so_far = c.loop-turn.invariant in
    let S = g.S.Source in
    let O = g.O.Outbox in
    let first = seen c.args.self.now (S.view c.args.source.now) (O.log c.args.outbox.now) in
    let last = seen c.take_turn.new.self (S.view c.take_turn.new.source) (O.log c.take_turn.new.outbox) in
    let called = c.take_turn.ensures.called in
    record {
      room = omega (arith, called.counted.room, so_far.room);
      turns = called.counted.turns;
      source = c.take_turn.ensures.source _ so_far.source;
      outbox = c.take_turn.ensures.outbox _ so_far.outbox;
      refused = called.counted.refused so_far.refused;
      ran = subst (RanSoFar S.gives first last c.take_turn.new.run c.take_turn.new.last) c.if-not-take_turn.false
          (so_far_more g.D.Disk S.gives first (seen c.loop-turn.self (S.view c.loop-turn.source) (O.log c.loop-turn.outbox)) last c.loop-turn.run (with_turns c.loop-turn.run (c.loop-turn.turn + 1)) c.take_turn.new.run c.loop-turn.last c.take_turn.new.last c.take_turn.result
          so_far.ran called refl refl (ap (λ n. n + 1) (sym so_far.turns)));
    }

pub returns-clause-ran : goal.returns-clause-ran
returns-clause-ran g c =
    let so_far = c.loop-turn.invariant in
    ran_of g.D.Disk g.S.Source.gives _ _ c.args.turns c.loop-turn.run c.loop-turn.last _ so_far.ran (inl (omega (arith, so_far.ran.told.turns, so_far.turns, c.loop-turn.auto.turn-end, c.loop-turn-test.false)))
