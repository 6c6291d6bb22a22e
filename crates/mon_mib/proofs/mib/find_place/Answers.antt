use Rattle.std.proofs.Common.{◌<◌, length, rules}
use Rattle.mon_mib.proofs.Candidates.{earlier_at, later_at}
use Rattle.mon_mib.proofs.mib.find_place.Goals as goal

pub returns-then-is_under-clause-earlier : goal.returns-then-is_under-clause-earlier
returns-then-is_under-clause-earlier c =
    let items = c.all_objects-objects.result.now in
    let room : c.guess_place-guess.result < length items = search rules in
    earlier_at c.args.name.now items c.guess_place-guess.result _ c.all_objects-objects.ensures room (c.is_under.ensures c.if-is_under.true)

pub returns-then-is_under-clause-later : goal.returns-then-is_under-clause-later
returns-then-is_under-clause-later c =
    let items = c.all_objects-objects.result.now in
    let room : c.guess_place-guess.result < length items = search rules in
    later_at c.args.name.now items c.guess_place-guess.result _ c.all_objects-objects.ensures room (c.is_under.ensures c.if-is_under.true)
