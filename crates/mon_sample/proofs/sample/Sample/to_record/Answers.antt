use Rattle.std.proofs.Common.{sym, ap, ◌∙◌, subst, arith}
use Rattle.mon_sample.specs.Digits.{is_sample, tag_fits, value_below}
use Rattle.mon_sample.specs.Key.{IsSample}
use Rattle.mon_sample.specs.Kind.{kind_tag}
use Rattle.mon_sample.specs.Record.{octets_of, layout}
use Rattle.mon_sample.proofs.Octets.{layout-key}
use Rattle.mon_sample.proofs.sample.Sample.to_record.Goals as goal

pub returns-clause-octets : goal.returns-clause-octets
returns-clause-octets c =
    let s = c.self.inside in
    let f = c.self.invariant in
    c.laid_out.ensures ∙ ap (λ g. layout s.boots s.time s.discontinuity g s.value) c.tag-tag.ensures
    ∙ sym (layout-key s.boots s.time s.discontinuity (kind_tag s.kind) s.value (omega (arith, f.time_fits)) f.discontinuity_fits (tag_fits s.kind) (value_below s.kind s.value f.value_fits))
    ∙ ap octets_of c.self.view_is

pub returns-clause-sample : goal.returns-clause-sample
returns-clause-sample c =
    let s = c.self.inside in
    subst IsSample c.self.view_is (is_sample s.boots s.time s.discontinuity s.kind s.value c.self.invariant)
