use Rattle.std.proofs.Common.{◌≡◌, ◌≤◌, refl, subst}
use Rattle.mon_rounds.specs.Kept.{kept_in}
use Rattle.mon_rounds.specs.Next.{RoundState, turns_left}
use Rattle.mon_rounds.specs.Orderly.{begun}
use Rattle.mon_rounds.specs.Whole.{GivesOn, RoundsView, view_of}
use Rattle.mon_rounds.proofs.Wholly.{waited, whole}
use Rattle.mon_station.specs.Ran.{Ran}
use Rattle.mon_station.specs.Seen.{seen}
use Rattle.mon_rounds.proofs.source.Rounds.run.Goals as goal

pub returns-clause-ran : goal.returns-clause-ran
returns-clause-ran g c =
    let old = c.args.self.now.round in
    let new = c.run.new.source.round in
    let begins = begun c.args.span old in
    let heard = g.R.Receiver.log c.args.self.now.receiver in
    let now = g.R.Receiver.log c.run.new.source.receiver in
    let kept = kept_in c.args.self.now.latest in
    let last = kept_in c.run.new.source.latest in
    let handed = g.O.Outbox.log c.args.outbox.now in
    let after = seen c.run.new.self (view_of new now last) (g.O.Outbox.log c.run.new.outbox) in
    let is : view_of c.begin.new.self.round (g.R.Receiver.log c.begin.new.self.receiver) (kept_in c.begin.new.self.latest) ≡ view_of begins heard kept =
    λ i. view_of (c.begin.ensures.round i) (g.R.Receiver.log (c.begin.ensures.receiver i)) (kept_in (c.begin.ensures.latest i)) in
    let ran = subst (λ (v : RoundsView). Ran GivesOn (seen c.args.station.now v handed) after 5000 c.run.new.run) is c.in_ok-run.ensures.ran in
    whole old new begins heard now kept last (seen c.args.station.now (view_of begins heard kept) handed) after c.run.new.run ran refl refl refl
    (subst (λ (r : RoundState). turns_left r ≤ 4704) c.begin.ensures.round c.begin.ensures.turns)
    (record { targets = refl; peers = refl; peer_addresses = refl; wait_ms = refl; tries = refl; saves = refl }) refl c.invariants.ensures c.args.span refl

pub returns-clause-waits : goal.returns-clause-waits
returns-clause-waits g c =
    let old = c.args.self.now.round in
    let new = c.run.new.source.round in
    let begins = begun c.args.span old in
    let heard = g.R.Receiver.log c.args.self.now.receiver in
    let now = g.R.Receiver.log c.run.new.source.receiver in
    let kept = kept_in c.args.self.now.latest in
    let last = kept_in c.run.new.source.latest in
    let handed = g.O.Outbox.log c.args.outbox.now in
    let after = seen c.run.new.self (view_of new now last) (g.O.Outbox.log c.run.new.outbox) in
    let is : view_of c.begin.new.self.round (g.R.Receiver.log c.begin.new.self.receiver) (kept_in c.begin.new.self.latest) ≡ view_of begins heard kept =
    λ i. view_of (c.begin.ensures.round i) (g.R.Receiver.log (c.begin.ensures.receiver i)) (kept_in (c.begin.ensures.latest i)) in
    let ran = subst (λ (v : RoundsView). Ran GivesOn (seen c.args.station.now v handed) after 5000 c.run.new.run) is c.in_ok-run.ensures.ran in
    waited old new begins heard now kept last (seen c.args.station.now (view_of begins heard kept) handed) after c.run.new.run ran refl refl refl
    (subst (λ (r : RoundState). turns_left r ≤ 4704) c.begin.ensures.round c.begin.ensures.turns)
    (record { targets = refl; peers = refl; peer_addresses = refl; wait_ms = refl; tries = refl; saves = refl }) refl c.invariants.ensures c.args.span refl
