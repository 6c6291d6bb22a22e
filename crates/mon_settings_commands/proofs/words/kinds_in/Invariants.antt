use Rattle.std.proofs.Common.{map}
use Rattle.mon_settings_commands.specs.Kinds.{AreKinds}
use Rattle.mon_settings_commands.proofs.words.kinds_in.Given as goal

-- the kinds are those that the names so far mean
abbrev pub invariant-loop-word : goal.invariant-loop-word
invariant-loop-word l = AreKinds (map (λ word. word.now) l.yielded) l.kinds
