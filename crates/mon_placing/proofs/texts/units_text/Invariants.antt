use Rattle.std.proofs.Common.{◌≡◌, string_bytes}
use Rattle.mon_placing.specs.Network.{units_text}
use Rattle.mon_placing.proofs.texts.units_text.Given as goal

-- the lines of the groups so far
abbrev pub invariant-loop-part : goal.invariant-loop-part
invariant-loop-part l = string_bytes l.text ≡ units_text l.network l.part
