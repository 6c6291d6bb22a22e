use Rattle.std.specs.Prelude.{drop}
use Rattle.mon_client.proofs.Walks.{IsWithin}
use Rattle.mon_client.proofs.walking.print_lines.Given as goal

-- what was said so far leads to what is said of all, and more lines are taken
abbrev pub invariant-loop-binding : goal.invariant-loop-binding
invariant-loop-binding g l = record {
  within : IsWithin (g.S.NameTexts.shown l.names) l.start l.fn.at.last.now l.found l.last (drop l.binding-index l.found) l.printed
      (g.H.Host.log l.fn.host) (g.H.Host.log l.host);
}
