use Rattle.std.proofs.Common.{◌≡◌, ◌≤◌, ◌++◌, pos, length, ap, ◌∙◌, arith}
use Rattle.mon_pdu.specs.Grammar.{bindings_of}
use Rattle.mon_pdu.specs.Writing.{written_message}
use Rattle.mon_agent.specs.Assigned.{returned, status_of, place_of}
use Rattle.mon_agent.proofs.Shrinking.{has_length, passed_on, status_fits, outcome_shorter, place_within}
use Rattle.mon_agent.proofs.agent.Agent.assign.Goals as goal

pub index_of-requires : goal.index_of-requires
index_of-requires g c =
    let set = c.args.set in
    let device = c.args.self.now.mib.device in
    let place : place_of c.commit.result ≤ length (bindings_of set.response.body) =
    place_within g.D.Device.held g.D.Device.refuses (length (bindings_of set.response.body)) set.plan (g.D.Device.held device)
    (g.D.Device.held c.commit.new.self.device) c.commit.result c.requires.numbers c.commit.ensures.outcome in
    omega (arith, place, c.error_of-error_status.ensures.place, c.requires.few)

pub write_within-requires-clause-room : goal.write_within-requires-clause-room
write_within-requires-clause-room g c =
    let set = c.args.set in
    let outcome = c.commit.result in
    let place : place_of outcome ≤ length (bindings_of set.response.body) =
    place_within g.D.Device.held g.D.Device.refuses (length (bindings_of set.response.body)) set.plan (g.D.Device.held c.args.self.now.mib.device)
    (g.D.Device.held c.commit.new.self.device) outcome c.requires.numbers c.commit.ensures.outcome in
    let told : c.make_return-response.result ≡ returned set.response (status_of outcome) (pos (place_of outcome)) =
    passed_on set.response c.make_return-response.result c.error_of-error_status.result.0 c.index_of.result (status_of outcome) (place_of outcome)
    (status_fits outcome) (omega (arith, place, c.requires.few)) c.make_return-response.ensures c.error_of-error_status.ensures.status
    (c.index_of.ensures ∙ ap pos c.error_of-error_status.ensures.place) in
    omega (
      arith,
      ap (λ r. length (written_message r)) told,
      outcome_shorter c.shrinks.ensures set.response c.requires.greatest_is outcome place,
      c.requires.room,
      ap length c.requires.empty,
    )

pub write_within-requires-clause-fits : goal.write_within-requires-clause-fits
write_within-requires-clause-fits g c =
    let set = c.args.set in
    let outcome = c.commit.result in
    let place : place_of outcome ≤ length (bindings_of set.response.body) =
    place_within g.D.Device.held g.D.Device.refuses (length (bindings_of set.response.body)) set.plan (g.D.Device.held c.args.self.now.mib.device)
    (g.D.Device.held c.commit.new.self.device) outcome c.requires.numbers c.commit.ensures.outcome in
    let told : c.make_return-response.result ≡ returned set.response (status_of outcome) (pos (place_of outcome)) =
    passed_on set.response c.make_return-response.result c.error_of-error_status.result.0 c.index_of.result (status_of outcome) (place_of outcome)
    (status_fits outcome) (omega (arith, place, c.requires.few)) c.make_return-response.ensures c.error_of-error_status.ensures.status
    (c.index_of.ensures ∙ ap pos c.error_of-error_status.ensures.place) in
    has_length c.make_return-response.result (length (written_message set.response))
    (omega (arith, ap (λ r. length (written_message r)) told, outcome_shorter c.shrinks.ensures set.response c.requires.greatest_is outcome place)) c.requires.small

pub returns-clause-shorter : goal.returns-clause-shorter
returns-clause-shorter g c =
    let set = c.args.set in
    let outcome = c.commit.result in
    let place : place_of outcome ≤ length (bindings_of set.response.body) =
    place_within g.D.Device.held g.D.Device.refuses (length (bindings_of set.response.body)) set.plan (g.D.Device.held c.args.self.now.mib.device)
    (g.D.Device.held c.commit.new.self.device) outcome c.requires.numbers c.commit.ensures.outcome in
    let told : c.make_return-response.result ≡ returned set.response (status_of outcome) (pos (place_of outcome)) =
    passed_on set.response c.make_return-response.result c.error_of-error_status.result.0 c.index_of.result (status_of outcome) (place_of outcome)
    (status_fits outcome) (omega (arith, place, c.requires.few)) c.make_return-response.ensures c.error_of-error_status.ensures.status
    (c.index_of.ensures ∙ ap pos c.error_of-error_status.ensures.place) in
    let put : c.write_within.new.out.items ≡ written_message c.make_return-response.result =
    c.write_within.ensures.items ∙ ap (λ l. l ++ written_message c.make_return-response.result) c.requires.empty in
    omega (arith, ap length put, ap (λ r. length (written_message r)) told, outcome_shorter c.shrinks.ensures set.response c.requires.greatest_is outcome place)
