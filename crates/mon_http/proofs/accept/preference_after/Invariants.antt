use Rattle.std.proofs.Common.{◌≡◌, fold, map}
use Rattle.mon_http.specs.Accept.{decisive, parts_left, preference_for}
use Rattle.mon_http.proofs.accept.preference_after.Given as goal

abbrev pub invariant-loop-element : goal.invariant-loop-element
invariant-loop-element l =
    fold decisive l.found (map (preference_for l.format) (parts_left l.element-iterator))
    ≡ fold decisive l.fn.so_far (map (preference_for l.format) (parts_left l.fn.list))
