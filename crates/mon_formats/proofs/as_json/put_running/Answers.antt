use Rattle.std.proofs.Common.{◌∙◌, ap, arith, codes}
use Rattle.std.proofs.lemmas.Result.{on_ok_weaker}
use Rattle.json.specs.Print.{escape_byte}
use Rattle.serde_json.specs.Data.{depth}
use Rattle.serde_json.specs.Written.{has_float}
use Rattle.mon_formats.proofs.Depths as depths
use Rattle.mon_formats.proofs.NoFloats as no_floats
use Rattle.mon_formats.proofs.Pushed.{behind}
use Rattle.mon_formats.proofs.as_json.put_running.Goals as goal

pub put_value-requires-clause-exact : goal.put_value-requires-clause-exact
put_value-requires-clause-exact c = ap has_float c.in_ok-station_value-in-Some.ensures ∙ no_floats.of_station c.in-Some.figures.now

pub put_value-requires-clause-shallow : goal.put_value-requires-clause-shallow
put_value-requires-clause-shallow c = omega (arith, ap depth c.in_ok-station_value-in-Some.ensures, depths.of_station c.in-Some.figures.now)

pub returns-in_ok-station_value-in-Some-clause-text : goal.returns-in_ok-station_value-in-Some-clause-text
unfolding escape_byte
returns-in_ok-station_value-in-Some-clause-text c =
    on_ok_weaker c.put_value.result (λ put. behind _ _ (codes ",\"station\":") _ _ (codes "}") c.in_ok-station_value-in-Some.ensures put ∙ rw c.in-Some.is) c.put_value.ensures.text
