use Rattle.std.proofs.Common.{ap, ◌∙◌}
use Rattle.mon_rounds.specs.Given.{with_octets}
use Rattle.mon_rounds.specs.Kept.{kept_in}
use Rattle.mon_rounds.specs.Next.{RoundState, event_from}
use Rattle.mon_rounds.proofs.Few.{came}
use Rattle.mon_rounds.proofs.source.Rounds.hear.Goals as goal

pub returns-in-Ok-Datagram-clause-latest : goal.returns-in-Ok-Datagram-clause-latest
returns-in-Ok-Datagram-clause-latest g c =
    let r = c.args.self.now.round in
    let from = c.in-Ok-Datagram.from in
    let octets = c.in-Ok-Datagram.octets in
    let event = c.take.ensures.event ∙ ap (λ (x : RoundState). with_octets (event_from x from) octets) c.keep_latest.ensures.round in
    came r from octets c.take.result (kept_in c.args.self.now.latest) (kept_in c.keep_latest.new.self.latest) c.keep_latest.ensures.latest event
