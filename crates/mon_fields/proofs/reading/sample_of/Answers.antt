use Rattle.std.proofs.Common.{◌≡◌, rules, ap, ◌∙◌, sym}
use Rattle.mon_fields.specs.Reading.{sample_of}
use Rattle.mon_fields.proofs.Samples.{record_ok, record_err}
use Rattle.mon_fields.proofs.reading.sample_of.Goals as goal

pub returns-in-Ok-clause-gives : goal.returns-in-Ok-clause-gives
returns-in-Ok-clause-gives c =
    let f = c.from_record.ensures in
    let same : c.copy_from_slice.new.self ≡ c.args.octets.now = search rules in
    ap sample_of (sym same) ∙ record_ok c.copy_from_slice.new.self c.from_record.result f.sample f.tag f.stamp f.value c.in-Ok.sample c.in-Ok.is

pub returns-in-Err-clause-gives : goal.returns-in-Err-clause-gives
returns-in-Err-clause-gives c =
    let f = c.from_record.ensures in
    let same : c.copy_from_slice.new.self ≡ c.args.octets.now = search rules in
    ap sample_of (sym same) ∙ record_err c.copy_from_slice.new.self c.from_record.result f.sample f.tag f.stamp f.value c.in-Err.field-0 c.in-Err.is
