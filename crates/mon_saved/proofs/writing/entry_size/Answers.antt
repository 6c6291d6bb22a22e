use Rattle.std.proofs.Common.{rules, ◌≡◌, length, arith}
use Rattle.mon_fields.specs.Layout.{instance_octets}
use Rattle.mon_fields.proofs.Promised.{length-instance, length-samples}
use Rattle.mon_saved.specs.Written.{entry_of}
use Rattle.mon_saved.proofs.Loops.{length-entry}
use Rattle.mon_saved.proofs.writing.entry_size.Goals as goal

pub overflow_add-result-2 : goal.overflow_add-result-2
overflow_add-result-2 c = record { fits = omega (arith, c.instance_size.ensures.few, c.samples_size.ensures, c.requires.few, length-samples c.args.samples.now) }

pub returns-clause-size : goal.returns-clause-size
returns-clause-size c =
    let size : c.instance_size.result ≡ length (instance_octets c.args.watched.now.instance.engine c.args.watched.now.instance.name) = search rules in
    omega (
      arith,
      size,
      c.samples_size.ensures,
      length-samples c.args.samples.now,
      length-instance c.args.watched.now.instance.engine c.args.watched.now.instance.name,
      length-entry c.args.watched.now.instance (entry_of c.args.watched.now c.args.samples.now),
    )

pub returns-clause-few : goal.returns-clause-few
returns-clause-few c =
    let size : c.instance_size.result ≡ length (instance_octets c.args.watched.now.instance.engine c.args.watched.now.instance.name) = search rules in
    omega (
      arith,
      size,
      c.samples_size.ensures,
      c.requires.few,
      c.requires.engine,
      c.instance_size.ensures.oid.short,
      length-samples c.args.samples.now,
      length-instance c.args.watched.now.instance.engine c.args.watched.now.instance.name,
    )
