use Rattle.std.proofs.Common.{[], Option, Some, ap, sym, ◌∙◌, rules}
use Rattle.std.specs.Prelude.{option_map}
use Rattle.mon_rounds.specs.Given.{with_octets}
use Rattle.mon_rounds.specs.Next.{after_event}
use Rattle.mon_rounds.proofs.Onward.{share_found, share_past}
use Rattle.mon_rounds.proofs.round.Round.share.Goals as goal
use Rattle.mon_rounds.specs.Order.{RoundEvent}

pub returns-in-Some-clause-state : goal.returns-in-Some-clause-state
returns-in-Some-clause-state c =
    let r = c.args.self.now in
    let found = share_found r.saving r.peers c.args.slot c.in-Some.peer (search rules) in
    c.offer.ensures.state ∙ ap (λ (n : Option RoundEvent). after_event r n) (sym found)

pub returns-in-Some-clause-event : goal.returns-in-Some-clause-event
returns-in-Some-clause-event c =
    let r = c.args.self.now in
    let found = share_found r.saving r.peers c.args.slot c.in-Some.peer (search rules) in
    ap (λ e. Some e) c.offer.ensures.event ∙ ap (λ (n : Option RoundEvent). option_map (λ e. with_octets e []) n) (sym found)

pub returns-in-None-clause-state : goal.returns-in-None-clause-state
returns-in-None-clause-state c =
    let r = c.args.self.now in
    let past = share_past r.saving r.peers c.args.slot (search rules) in
    c.finish.ensures.state ∙ ap (λ (n : Option RoundEvent). after_event r n) (sym past)

pub returns-in-None-clause-event : goal.returns-in-None-clause-event
returns-in-None-clause-event c =
    let r = c.args.self.now in
    let past = share_past r.saving r.peers c.args.slot (search rules) in
    c.finish.ensures.event ∙ ap (λ (n : Option RoundEvent). option_map (λ e. with_octets e []) n) (sym past)
