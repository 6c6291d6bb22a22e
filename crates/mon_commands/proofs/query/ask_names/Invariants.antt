use Rattle.std.proofs.Common.{drop, map}
use Rattle.mon_commands.proofs.Meant.{LeadsTo}
use Rattle.mon_commands.proofs.query.ask_names.Given as goal

-- if the remaining arguments mean something, all arguments mean what was found and then that
abbrev pub invariant-loop-word : goal.invariant-loop-word
invariant-loop-word l = LeadsTo l.known (map (λ w. w.now) l.words) (map (λ w. w.now) (drop l.word-index l.words)) l.asked.items
