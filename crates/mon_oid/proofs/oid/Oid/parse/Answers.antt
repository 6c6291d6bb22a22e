use Rattle.std.proofs.Common.{◌≡◌, sym, subst, ◌∙◌}
use Rattle.mon_oid.specs.Oid.{IsOid}
use Rattle.mon_oid.proofs.Split.{one_reading}
use Rattle.mon_oid.proofs.oid.Oid.parse.Goals as goal

-- what was read is the only list that the text spells
pub returns-clause-accepted : goal.returns-clause-accepted
returns-clause-accepted c = λ parts is spelled.
    let read = c.in_ok-numbers.ensures.found in
    let same : parts ≡ c.as_slice.result.now = one_reading parts c.in_ok-numbers.numbers.items spelled.numbers read.numbers (sym spelled.is ∙ read.is) ∙ sym c.as_slice.ensures.value in
    c.from_parts.ensures.accepted (subst IsOid same is)
