use Rattle.std.proofs.Common.{◌≡◌, length, take}
use Rattle.std.specs.List.{AllByRecursion}
use Rattle.mon_ber.specs.Writing.{size_counted}
use Rattle.mon_pdu.specs.Writing.{list_contents, IsValidBinding}
use Rattle.mon_pdu.proofs.writing.list_len.Given as goal

abbrev pub invariant-loop-binding : goal.invariant-loop-binding
invariant-loop-binding l = (l.len ≡ size_counted (length (list_contents (take l.binding-index l.bindings))))
    × AllByRecursion IsValidBinding (take l.binding-index l.bindings)
