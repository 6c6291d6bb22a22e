use Rattle.std.proofs.Common.{◌≡◌, subst, sym}
use Rattle.mon_serving.specs.declared.serving.Served.{Served}
use Rattle.mon_commands.proofs.Servings.{told_of_memory}
use Rattle.mon_commands.proofs.agent.tell_untaken.Goals as goal
use Rattle.mon_commands.specs.Serving.{untaken_lines}
use Rattle.mon_host.specs.Log.{GoesOnBy}

pub returns-in-Untaken : goal.returns-in-Untaken
returns-in-Untaken g c = subst (λ (s : Served). GoesOnBy (λ log. log ≡ untaken_lines s) (g.H.Host.log c.args.host.now) (g.H.Host.log c.report.new.host))
    (sym c.in-Untaken.is) (told_of_memory c.from.result _ _ c.from.ensures c.report.ensures)
