use Rattle.std.proofs.Common.{rules, ◌≡◌, ◌<◌}
use Rattle.mon_udp.specs.Wait.{left_at}
use Rattle.mon_web_receiver.proofs.Attempts.{served_is}
use Rattle.mon_web_receiver.proofs.receiver.WebReceiver.attempt.Goals as goal

pub returns-in_ok-serve-in-None-clause-attempt : goal.returns-in_ok-serve-in-None-clause-attempt
returns-in_ok-serve-in-None-clause-attempt g c =
    let was = c.args.self.now in
    let looked = c.look.new.self in
    let told : g.T.Ticks.told was.ticks.now was.timer.quiet c.in_ok-now.now = search rules in
    let left : 0 < left_at was.timer c.in_ok-now.now = search rules in
    let same : looked.unserved ≡ was.unserved = search rules in
    served_is (λ d. g.R.Dates.dated d.now) g.W.Serves.served looked.rt was.rt looked.origin was.origin looked.web was.web c.serve.new.self.web looked.unserved was.unserved
    (g.T.Ticks.told was.ticks.now was.timer.quiet) was.timer c.in_ok-now.now _
    c.in_ok-len.ensures.by.2 c.in_ok-len.ensures.origin c.in_ok-len.ensures.web same c.left-left.ensures told left c.in_ok-serve-in-None.ensures.served
