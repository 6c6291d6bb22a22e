use Rattle.mon_courier.proofs.exchange.Exchange.+go_on.Given as goal

abbrev pub decreases-go_on : goal.decreases-go_on
decreases-go_on g l = l.left
