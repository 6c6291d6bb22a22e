use Rattle.mon_settings_commands.specs.Walked.{stand}
use Rattle.mon_settings_commands.proofs.Turning.{IsAt}
use Rattle.mon_settings_commands.proofs.asking.walk.Given as goal

-- the walk went on by this many turns
abbrev pub invariant-loop : goal.invariant-loop
invariant-loop g l = IsAt l.asked.agent.word.now l.asked.community.now l.fn.column l.fn.answers l.counter (stand l.place l.answers) l.fn.asker.last_id l.asker.last_id
    (g.W.Wire.log l.fn.asker.wire) (g.W.Wire.log l.asker.wire)
