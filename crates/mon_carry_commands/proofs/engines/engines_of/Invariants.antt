use Rattle.std.proofs.Common.{◌≡◌, map, take}
use Rattle.std.specs.Prelude.{Ok}
use Rattle.hex.specs.Hex.{decode_of}
use Rattle.mon_carry_commands.proofs.engines.engines_of.Given as goal

-- the engine ids of the texts so far
abbrev pub invariant-loop-text : goal.invariant-loop-text
invariant-loop-text l = map (λ t. decode_of t.now) (take l.text-index l.texts) ≡ map (λ e. Ok e) l.engines.items
