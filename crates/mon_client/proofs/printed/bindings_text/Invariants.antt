use Rattle.std.proofs.Common.{◌≡◌, take, string_bytes}
use Rattle.std.specs.List.{flat_map}
use Rattle.mon_client.specs.Printed.{binding_line}
use Rattle.mon_client.proofs.printed.bindings_text.Given as goal

-- those so far are written
abbrev pub invariant-loop-binding : goal.invariant-loop-binding
invariant-loop-binding g l = string_bytes l.text ≡ flat_map (binding_line (g.S.NameTexts.shown l.names)) (take l.binding-index l.bindings)
