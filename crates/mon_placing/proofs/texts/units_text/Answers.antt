use Rattle.std.proofs.Common.{[], refl, string_bytes}
use Rattle.mon_placing.specs.Network.{units_of, units_text}
use Rattle.mon_placing.proofs.Pieces.{more_text, whole_text}
use Rattle.mon_placing.proofs.texts.units_text.Goals as goal

pub loop-part-preserved : goal.loop-part-preserved
loop-part-preserved c =
    let n = c.args.network in
    let part = c.loop-part.part in
    more_text (units_text n) (units_of n part n.stations) part [] (string_bytes c.loop-part.text) (string_bytes c.put_units.new.text)
    c.loop-part.invariant c.in_ok-put_units.ensures refl

pub returns : goal.returns
returns c =
    whole_text (units_text c.args.network) c.loop-part.part c.args.groups [] (string_bytes c.loop-part.text) c.loop-part.invariant
    c.loop-part-test.false c.loop-part.auto.part-end
