use Rattle.std.proofs.Common.{◌≡◌}
use Rattle.std.specs.List.{list_all}
use Rattle.mon_http.specs.Accept.{is_element, parts_left}
use Rattle.mon_http.proofs.accept.are_elements.Given as goal

abbrev pub invariant-loop-element : goal.invariant-loop-element
invariant-loop-element l = list_all is_element (parts_left l.element-iterator)
    ≡ list_all is_element (parts_left l.fn.list)
