use Rattle.std.proofs.Common.{refl}
use Rattle.json.specs.Print.{escape_byte}
use Rattle.mon_formats.proofs.as_json.stale_member.Goals as goal

pub returns-in-Some-true : goal.returns-in-Some-true
unfolding escape_byte
returns-in-Some-true c items = rw (c.in-Some-true.is, c.in-Some-true.field-0-test) refl

pub returns-in-Some-false : goal.returns-in-Some-false
unfolding escape_byte
returns-in-Some-false c items = rw (c.in-Some-false.is, c.in-Some-false.field-0-test) refl
