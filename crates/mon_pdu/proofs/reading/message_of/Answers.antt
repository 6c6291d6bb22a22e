use Rattle.std.proofs.Common.{◌≡◌, rules, pos, Ok}
use Rattle.mon_ber.specs.Reading.{integer_at}
use Rattle.mon_pdu.proofs.Whole.{version_known}
use Rattle.mon_pdu.proofs.reading.message_of.Goals as goal

pub returns-in_err-community-2-clause-version : goal.returns-in_err-community-2-clause-version
returns-in_err-community-2-clause-version c = λ v read enough.
    let one : integer_at c.args.contents.now ≡ Ok (pos 1, c.in_ok-version.rest.now) = search rules in
    version_known c.args.contents.now c.in_ok-version.rest.now v one read

pub returns-in_err-body-clause-version : goal.returns-in_err-body-clause-version
returns-in_err-body-clause-version c = λ v read enough.
    let one : integer_at c.args.contents.now ≡ Ok (pos 1, c.in_ok-version.rest.now) = search rules in
    version_known c.args.contents.now c.in_ok-version.rest.now v one read
