use Rattle.std.proofs.Common.{All, map, take}
use Rattle.mon_settings_commands.specs.Named.{NamesSome}
use Rattle.mon_settings_commands.proofs.words.require_peers.Given as goal

-- the texts so far name peers
abbrev pub invariant-loop-word : goal.invariant-loop-word
invariant-loop-word l = All NamesSome (map (λ text. text.now) (take l.word-index l.words))
