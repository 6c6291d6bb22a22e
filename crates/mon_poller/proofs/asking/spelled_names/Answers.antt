use Rattle.std.proofs.Common.{◌∙◌}
use Rattle.mon_poller.specs.Target.{poll_names}
use Rattle.mon_poller.proofs.Asks.{all_spelled}
use Rattle.mon_poller.proofs.asking.spelled_names.Goals as goal

pub returns : goal.returns
returns c = all_spelled (poll_names c.args.target.now) c.as_slice.result.now c.spelled.result (c.as_slice.ensures.value ∙ c.in_ok-bindings.ensures.bindings) c.spelled.ensures.names c.spelled.ensures.spells
