use Rattle.mon_mib.specs.Objects.{objects, prefix_of}
use Rattle.std.proofs.Common.{get_or}
use Rattle.mon_mib.proofs.Under.{objects_apart}
use Rattle.mon_mib.proofs.Starts.{apart}
use Rattle.mon_mib.proofs.laws.objects_rise.Goals as goal

pub returns : goal.returns
returns c = λ i j d lt within rest others.
    apart (prefix_of (get_or objects i d)) (prefix_of (get_or objects j d)) rest others (objects_apart i j d lt within)
