use Rattle.std.proofs.Common.{◌≡◌, sym, ap, ◌∙◌}
use Rattle.mon_sample.specs.Digits.{gives_back}
use Rattle.mon_sample.specs.Key.{key, boots_of, time_of, discontinuity_of, tag_of, sample_value}
use Rattle.mon_sample.specs.Record.{octets_of, spelled}
use Rattle.mon_sample.proofs.Octets.{laid, layout-key, spelled_key}
use Rattle.mon_sample.proofs.sample.digits_of.Goals as goal

pub returns : goal.returns
returns c =
    let p = c.parts_of.result in
    let f = c.parts_of.ensures in
    let here = laid c.args.octets.now p.boots p.time p.discontinuity p.tag p.value c.told-octets c.fits-octets f.boots f.time f.discontinuity f.tag f.value in
    let whole : spelled c.args.octets.now ≡ key p.boots p.time p.discontinuity p.tag p.value = spelled_key c.args.octets.now p.boots p.time p.discontinuity p.tag p.value here f.boots_fit f.time_fits f.discontinuity_fits f.tag_fits f.value_fits in
    let back = gives_back p.boots p.time p.discontinuity p.tag p.value f.time_fits f.discontinuity_fits f.tag_fits f.value_fits in
    record {
      boots = sym (ap boots_of whole ∙ back.0);
      time = sym (ap time_of whole ∙ back.1);
      discontinuity = sym (ap discontinuity_of whole ∙ back.2);
      tag = sym (ap tag_of whole ∙ back.3);
      value = sym (ap sample_value whole ∙ back.4);
      whole = sym whole;
      octets = here ∙ sym (layout-key p.boots p.time p.discontinuity p.tag p.value f.time_fits f.discontinuity_fits f.tag_fits f.value_fits) ∙ ap octets_of (sym whole);
    }
