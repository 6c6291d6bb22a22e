use Rattle.mon_health_commands.proofs.asking.+receive.Given as goal

abbrev pub decreases-receive : goal.decreases-receive
decreases-receive g l = l.left
