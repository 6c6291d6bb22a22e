use Rattle.std.proofs.Common.{◌≡◌, length, ℕ}
use Rattle.mon_web_receiver.specs.Attempt.{AreTurns, IsTurnIn, since_turns}
use Rattle.mon_web_receiver.proofs.receiver.WebReceiver.receive_rest.Given as goal

-- the wait stays as it was when it started, and what it is received by, what is shown and from when
-- times are counted stay too
abbrev pub invariant-loop : goal.invariant-loop
invariant-loop g l = (l.self.timer ≡ l.fn.self.timer) × (l.self.ticks ≡ l.fn.self.ticks) × (l.self.socket ≡ l.fn.self.socket) × (length l.self.buffer.items ≡ length l.fn.self.buffer.items)
    × (g.W.Serves.pages l.self.web ≡ g.W.Serves.pages l.fn.self.web) × (l.self.origin ≡ l.fn.self.origin) × (l.self.rt ≡ l.fn.self.rt)
    × (n : ℕ) × AreTurns (IsTurnIn (g.T.Ticks.told l.fn.self.ticks.now l.fn.self.timer.quiet) (g.R.Dates.dated l.fn.self.rt.now) g.W.Serves.served l.fn.self.origin l.fn.self.timer) n l.fn.self.web l.self.web
    × (l.self.unserved ≡ since_turns n l.fn.self.unserved)
