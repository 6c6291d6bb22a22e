use Rattle.std.proofs.Common.{◌≡◌, sym, ap, ◌∙◌, arith}
use Rattle.std.proofs.lemmas.Int.{to_z-of_z}
use Rattle.mon_sample.specs.Digits.{fields_back}
use Rattle.mon_sample.specs.Key.{kind_of, sample_value}
use Rattle.mon_sample.specs.Kind.{number_of}
use Rattle.mon_sample.proofs.sample.Sample.number.Goals as goal

pub returns : goal.returns
returns c =
    let s = c.self.inside in
    let back = fields_back s.boots s.time s.discontinuity s.kind s.value c.self.invariant in
    let told : c.number.result ≡ number_of (kind_of c.args.self.now) (sample_value c.args.self.now) =
    c.number.ensures ∙ sym (λ i. number_of (back.kind_is i) (back.value_back i)) ∙ ap (λ k. number_of (kind_of k) (sample_value k)) c.self.view_is in
    grind (arith, to_z-of_z)
