use Rattle.std.proofs.Common.{◌≡◌}
use Rattle.mon_http.specs.Accept.{parts_left, value_in}
use Rattle.mon_http.proofs.accept.value_in.Given as goal

abbrev pub invariant-loop-parameter : goal.invariant-loop-parameter
invariant-loop-parameter l =
    value_in l.name (parts_left l.parameter-iterator) ≡ value_in l.name (parts_left l.fn.parameters)
