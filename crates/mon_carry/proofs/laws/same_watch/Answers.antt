use Rattle.std.proofs.Common.{arith}
use Rattle.std.proofs.lemmas.List.{length-map}
use Rattle.mon_board.specs.declared.instance.Watched.{Watched}
use Rattle.mon_carry.proofs.Alike.{same_watch}
use Rattle.mon_carry.proofs.laws.same_watch.Goals as goal

pub returns : goal.returns
returns c = λ old i rising whole lt. same_watch old i rising whole (omega (arith, lt, length-map old.watch.instances (λ (w : Watched). w.instance)))
