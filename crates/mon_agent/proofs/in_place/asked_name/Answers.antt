use Rattle.std.proofs.Common.{◌≡◌, ◌∷◌, [], rules, Ok}
use Rattle.mon_ber.specs.Reading.{element_at, name_at}
use Rattle.mon_agent.proofs.InPlace.{asked_spelled}
use Rattle.mon_agent.proofs.in_place.asked_name.Goals as goal

pub returns-clause-spelled : goal.returns-clause-spelled
returns-clause-spelled c =
    let octets = c.args.octets.now in
    let contents = c.in_ok-contents.contents.now in
    let value = c.in_ok-name.value.now in
    let read : element_at 0x30 octets ≡ Ok (contents, c.in_ok-contents.rest.now) = search rules in
    let named : name_at contents ≡ Ok (c.in_ok-name.name, value) = search rules in
    let null : value ≡ 5 ∷ 0 ∷ [] = search rules in
    asked_spelled octets contents c.in_ok-contents.rest.now value c.in_ok-name.name read named null
