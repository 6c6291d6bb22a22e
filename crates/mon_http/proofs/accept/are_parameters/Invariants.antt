use Rattle.std.proofs.Common.{◌≡◌}
use Rattle.std.specs.List.{list_all}
use Rattle.mon_http.specs.Accept.{is_parameter, parts_left}
use Rattle.mon_http.proofs.accept.are_parameters.Given as goal

abbrev pub invariant-loop-parameter : goal.invariant-loop-parameter
invariant-loop-parameter l = list_all is_parameter (parts_left l.parameter-iterator)
    ≡ list_all is_parameter (parts_left l.fn.parameters)
