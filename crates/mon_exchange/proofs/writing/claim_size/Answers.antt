use Rattle.std.proofs.Common.{rules, ◌≡◌, ◌≤◌, length, arith}
use Rattle.mon_fields.specs.Layout.{instance_octets, samples_octets}
use Rattle.mon_fields.proofs.Promised.{length-instance, length-samples}
use Rattle.mon_exchange.proofs.writing.claim_size.Goals as goal

pub overflow_add-result-2 : goal.overflow_add-result-2
overflow_add-result-2 c =
    let samples = c.args.claim.now.samples.now in
    let a : c.instance_size.result ≤ 769 = c.instance_size.ensures.few in
    let s : c.samples_size.result ≡ length (samples_octets samples) = search rules in
    record { fits = omega (arith, a, s, length-samples samples, c.requires.few) }

pub returns-clause-few : goal.returns-clause-few
returns-clause-few c =
    let engine = c.args.claim.now.engine.now in
    let name = c.args.claim.now.name.now in
    let samples = c.args.claim.now.samples.now in
    let a : c.instance_size.result ≡ length (instance_octets engine name) = search rules in
    let s : c.samples_size.result ≡ length (samples_octets samples) = search rules in
    omega (arith, a, s, length-samples samples, c.requires.few, length-instance engine name, c.requires.engine.1, c.instance_size.ensures.oid.short)
