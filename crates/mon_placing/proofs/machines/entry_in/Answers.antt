use Rattle.std.proofs.Common.{lit<, sym, ap, ◌∙◌}
use Rattle.std.specs.Prelude.{Some, None}
use Rattle.std.proofs.lemmas.Str.Ascii.{trim_ascii_start_is}
use Rattle.std.proofs.lemmas.Str.Pattern.{split_once_first}
use Rattle.mon_placing.specs.Machines.{octets_of}
use Rattle.mon_placing.proofs.Reading.{entry_is, no_entry}
use Rattle.mon_placing.proofs.machines.entry_in.Goals as goal

pub returns-in_default : goal.returns-in_default
returns-in_default c = no_entry c.args.line.now (rw c.in_default.is at (split_once_first 32 c.args.line.now c.split_once.result c.split_once.ensures.cases (lit< tt)))

pub returns-in-Some-octets_of : goal.returns-in-Some-octets_of
returns-in-Some-octets_of c =
    let at = rw c.in-Some.is at (split_once_first 32 c.args.line.now c.split_once.result c.split_once.ensures.cases (lit< tt)) in
    let trimmed = trim_ascii_start_is c.in-Some.rest.now c.trim_ascii_start.result.now c.trim_ascii_start.ensures.value in
    entry_is c.args.line.now c.in-Some.name.now c.in-Some.rest.now (Some c.in-Some-octets_of.octets) at.0 at.1 at.2 (sym c.is_name.ensures ∙ c.if-not-is_name.false)
    (ap octets_of (sym trimmed) ∙ (sym c.octets_of.ensures ∙ c.in-Some-octets_of.is))

pub returns-in-None : goal.returns-in-None
returns-in-None c =
    let at = rw c.in-Some.is at (split_once_first 32 c.args.line.now c.split_once.result c.split_once.ensures.cases (lit< tt)) in
    let trimmed = trim_ascii_start_is c.in-Some.rest.now c.trim_ascii_start.result.now c.trim_ascii_start.ensures.value in
    entry_is c.args.line.now c.in-Some.name.now c.in-Some.rest.now None at.0 at.1 at.2 (sym c.is_name.ensures ∙ c.if-not-is_name.false)
    (ap octets_of (sym trimmed) ∙ (sym c.octets_of.ensures ∙ c.in-None.is))
