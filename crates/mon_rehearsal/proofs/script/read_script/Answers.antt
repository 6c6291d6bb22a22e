use Rattle.std.proofs.Common.{◌≡◌, ◌+◌, ◌<◌, ◌≤◌, length, Some, sym, ◌∙◌, arith}
use Rattle.mon_rehearsal.specs.Reading.{step_in}
use Rattle.mon_rehearsal.proofs.Scripts.{stopped_at, went_on}
use Rattle.mon_rehearsal.proofs.script.read_script.Goals as goal

pub loop-rest-preserved : goal.loop-rest-preserved
loop-rest-preserved c =
    let some : 0 < length c.loop-rest.rest.now = grind arith in
    let less : length c.first_line.result.1.now < length c.loop-rest.rest.now = c.first_line.ensures.shorter some in
    let within : c.loop-rest.line + length c.loop-rest.rest.now ≤ length c.args.text.now = c.loop-rest.invariant.bounded in
    let reads : Some c.in-Some.step ≡ step_in c.first_line.result.0.now = sym c.in-Some.is ∙ c.in_ok-step.ensures in
    record {
      so_far = went_on c.loop-rest.invariant.so_far c.first_line.result.0.now c.first_line.result.1.now c.in-Some.step c.push.new.self.items
          (c.first_line.ensures.lines some) reads c.in_ok-push-in-Some.ensures.items;
      bounded = omega arith;
    }

pub returns-in-None-clause-fault : goal.returns-in-None-clause-fault
returns-in-None-clause-fault c =
    let some : 0 < length c.loop-rest.rest.now = grind arith in
    stopped_at c.loop-rest.invariant.so_far c.first_line.result.0.now c.first_line.result.1.now (c.first_line.ensures.lines some) (sym c.in-None.is ∙ c.in_ok-step.ensures)
