use Rattle.std.proofs.Common.{subst}
use Rattle.mon_sample.specs.Digits.{is_sample}
use Rattle.mon_sample.specs.Key.{HasValue}
use Rattle.mon_sample.proofs.sample.Sample.value.Goals as goal

pub returns-clause-in_range : goal.returns-clause-in_range
returns-clause-in_range c =
    let s = c.self.inside in
    subst HasValue c.self.view_is (is_sample s.boots s.time s.discontinuity s.kind s.value c.self.invariant).value
