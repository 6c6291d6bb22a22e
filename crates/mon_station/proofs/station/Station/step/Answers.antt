use Rattle.std.proofs.Common.{◌≡◌, refl, sym, ap, subst, ◌∙◌}
use Rattle.mon_station.specs.ReadEvent.{StartPoll, Timeout, FromAgent, FromPeer, Share, Save, ReadsAs, owned, OwnedEvent}
use Rattle.mon_station.proofs.Kept.{if_err, if_ok}
use Rattle.mon_disk.specs.Kept.{device_of, last_body}
use Rattle.mon_disk.proofs.Promised.{weaker}
use Rattle.mon_station.specs.State.{state_of}
use Rattle.mon_station.proofs.Headline.{as_one, as_this, goes_on, handled_as, never_keeper, never_unless, quiet_disk, running_saved, saved_disk}
use Rattle.mon_station.proofs.Said.{read_always, read_unless}
use Rattle.mon_station.proofs.station.Station.step.Goals as goal

pub returns-in-StartPoll-clause-read : goal.returns-in-StartPoll-clause-read
returns-in-StartPoll-clause-read g c =
    read_always c.args.self.now.life.board.watch _ (StartPoll c.in-StartPoll.target) (ap owned c.in-StartPoll.is) (StartPoll c.in-StartPoll.target) refl c.start_poll.result

pub returns-in-Timeout-clause-read : goal.returns-in-Timeout-clause-read
returns-in-Timeout-clause-read g c =
    read_always c.args.self.now.life.board.watch _ (Timeout c.in-Timeout.id) (ap owned c.in-Timeout.is) (Timeout c.in-Timeout.id) refl c.timeout.result

pub returns-in-Share-clause-read : goal.returns-in-Share-clause-read
returns-in-Share-clause-read g c =
    read_always c.args.self.now.life.board.watch _ (Share c.in-Share.peer) (ap owned c.in-Share.is) (Share c.in-Share.peer) refl c.share.result

pub returns-in-FromAgent-clause-read : goal.returns-in-FromAgent-clause-read
returns-in-FromAgent-clause-read g c =
    let r = c.from_agent.ensures.read in
    read_always c.args.self.now.life.board.watch _ (FromAgent c.in-FromAgent.from c.in-FromAgent.octets.now) (ap owned c.in-FromAgent.is) (FromAgent c.in-FromAgent.from r.0) (r.0, r.1, refl) c.from_agent.result

pub returns-in-FromPeer-clause-read : goal.returns-in-FromPeer-clause-read
returns-in-FromPeer-clause-read g c =
    read_unless c.args.self.now.life.board.watch _ (FromPeer c.in-FromPeer.octets.now) (ap owned c.in-FromPeer.is) c.from_peer.result
    (if_ok c.from_peer.result _ _ c.from_peer.ensures.read (λ told r. (FromPeer r.0, (r.0, r.1, refl))))
    (if_err c.from_peer.result _ _ c.from_peer.ensures.read_err (λ f r other. let s = r other in (FromPeer s.0, (s.0, s.1, refl))))

pub returns-in-StartPoll-clause-lived : goal.returns-in-StartPoll-clause-lived
returns-in-StartPoll-clause-lived g c = λ past lived is e reads. goes_on past _ _ e c.start_poll.result lived is (as_this c.args.self.now.life.board.watch _ (StartPoll c.in-StartPoll.target) _ _ c.start_poll.result (ap owned c.in-StartPoll.is) (as_one _ _ c.start_poll.result (StartPoll c.in-StartPoll.target) c.start_poll.ensures.answered) e reads)

pub returns-in-StartPoll-clause-happens : goal.returns-in-StartPoll-clause-happens
returns-in-StartPoll-clause-happens g c = λ honest saved known e reads.
    let D = g.D.Disk in
    let d = device_of c.args.self.now.keeper in (
      handled_as _ _ e c.start_poll.result (as_this c.args.self.now.life.board.watch _ (StartPoll c.in-StartPoll.target) _ _ c.start_poll.result (ap owned c.in-StartPoll.is) (as_one _ _ c.start_poll.result (StartPoll c.in-StartPoll.target) c.start_poll.ensures.answered) e reads),
      quiet_disk D (record { now = state_of c.args.self.now.life; saved = saved }) d d c.args.self.now.life.board.watch _ e _ (λ is. let no : StartPoll c.in-StartPoll.target ≡ Save = sym (ap owned c.in-StartPoll.is) ∙ is in cc) reads refl,
    )

pub returns-in-Timeout-clause-lived : goal.returns-in-Timeout-clause-lived
returns-in-Timeout-clause-lived g c = λ past lived is e reads. goes_on past _ _ e c.timeout.result lived is (as_this c.args.self.now.life.board.watch _ (Timeout c.in-Timeout.id) _ _ c.timeout.result (ap owned c.in-Timeout.is) (as_one _ _ c.timeout.result (Timeout c.in-Timeout.id) c.timeout.ensures.answered) e reads)

pub returns-in-Timeout-clause-happens : goal.returns-in-Timeout-clause-happens
returns-in-Timeout-clause-happens g c = λ honest saved known e reads.
    let D = g.D.Disk in
    let d = device_of c.args.self.now.keeper in (
      handled_as _ _ e c.timeout.result (as_this c.args.self.now.life.board.watch _ (Timeout c.in-Timeout.id) _ _ c.timeout.result (ap owned c.in-Timeout.is) (as_one _ _ c.timeout.result (Timeout c.in-Timeout.id) c.timeout.ensures.answered) e reads),
      quiet_disk D (record { now = state_of c.args.self.now.life; saved = saved }) d d c.args.self.now.life.board.watch _ e _ (λ is. let no : Timeout c.in-Timeout.id ≡ Save = sym (ap owned c.in-Timeout.is) ∙ is in cc) reads refl,
    )

pub returns-in-Share-clause-lived : goal.returns-in-Share-clause-lived
returns-in-Share-clause-lived g c = λ past lived is e reads. goes_on past _ _ e c.share.result lived is (as_this c.args.self.now.life.board.watch _ (Share c.in-Share.peer) _ _ c.share.result (ap owned c.in-Share.is) (as_one _ _ c.share.result (Share c.in-Share.peer) c.share.ensures.answered) e reads)

pub returns-in-Share-clause-happens : goal.returns-in-Share-clause-happens
returns-in-Share-clause-happens g c = λ honest saved known e reads.
    let D = g.D.Disk in
    let d = device_of c.args.self.now.keeper in (
      handled_as _ _ e c.share.result (as_this c.args.self.now.life.board.watch _ (Share c.in-Share.peer) _ _ c.share.result (ap owned c.in-Share.is) (as_one _ _ c.share.result (Share c.in-Share.peer) c.share.ensures.answered) e reads),
      quiet_disk D (record { now = state_of c.args.self.now.life; saved = saved }) d d c.args.self.now.life.board.watch _ e _ (λ is. let no : Share c.in-Share.peer ≡ Save = sym (ap owned c.in-Share.is) ∙ is in cc) reads refl,
    )

pub returns-in-Save-clause-lived : goal.returns-in-Save-clause-lived
returns-in-Save-clause-lived g c = λ past lived is e reads. goes_on past _ _ e c.save.result lived is (as_this c.args.self.now.life.board.watch _ (Save) _ _ c.save.result (ap owned c.in-Save.is) (as_one _ _ c.save.result (Save) c.save.ensures.answered) e reads)

pub returns-in-Save-clause-happens : goal.returns-in-Save-clause-happens
returns-in-Save-clause-happens g c = λ honest saved known e reads.
    let D = g.D.Disk in (
      handled_as _ _ e c.save.result (as_this c.args.self.now.life.board.watch _ (Save) _ _ c.save.result (ap owned c.in-Save.is) (as_one _ _ c.save.result (Save) c.save.ensures.answered) e reads),
      saved_disk D (record { now = state_of c.args.self.now.life; saved = saved }) (device_of c.args.self.now.keeper) (device_of c.save.new.self.keeper) e c.save.result
          (subst (λ (o : OwnedEvent). ReadsAs c.args.self.now.life.board.watch o e) (ap owned c.in-Save.is) reads) (c.save.ensures.saved honest)
          (weaker D.moment D.left_since D.may_leave (device_of c.args.self.now.keeper) (device_of c.save.new.self.keeper) _ _ (running_saved (D.may_leave (device_of c.args.self.now.keeper)) (last_body c.args.self.now.keeper) saved (state_of c.args.self.now.life) known)
          (c.save.ensures.any_moment honest)),
    )

pub returns-in-FromAgent-clause-lived : goal.returns-in-FromAgent-clause-lived
returns-in-FromAgent-clause-lived g c = λ past lived is e reads. goes_on past _ _ e c.from_agent.result lived is (as_this c.args.self.now.life.board.watch _ (FromAgent c.in-FromAgent.from c.in-FromAgent.octets.now) _ _ c.from_agent.result (ap owned c.in-FromAgent.is) (λ e is. as_one _ _ c.from_agent.result (FromAgent c.in-FromAgent.from is.0) (c.from_agent.ensures.answered is.0 is.1) e is.2) e reads)

pub returns-in-FromAgent-clause-happens : goal.returns-in-FromAgent-clause-happens
returns-in-FromAgent-clause-happens g c = λ honest saved known e reads.
    let D = g.D.Disk in
    let d = device_of c.args.self.now.keeper in (
      handled_as _ _ e c.from_agent.result (as_this c.args.self.now.life.board.watch _ (FromAgent c.in-FromAgent.from c.in-FromAgent.octets.now) _ _ c.from_agent.result (ap owned c.in-FromAgent.is) (λ e is. as_one _ _ c.from_agent.result (FromAgent c.in-FromAgent.from is.0) (c.from_agent.ensures.answered is.0 is.1) e is.2) e reads),
      quiet_disk D (record { now = state_of c.args.self.now.life; saved = saved }) d d c.args.self.now.life.board.watch _ e _ (λ is. let no : FromAgent c.in-FromAgent.from c.in-FromAgent.octets.now ≡ Save = sym (ap owned c.in-FromAgent.is) ∙ is in cc) reads refl,
    )

pub returns-in-FromPeer-clause-lived : goal.returns-in-FromPeer-clause-lived
returns-in-FromPeer-clause-lived g c = λ past lived is e reads. goes_on past _ _ e c.from_peer.result lived is (as_this c.args.self.now.life.board.watch _ (FromPeer c.in-FromPeer.octets.now) _ _ c.from_peer.result (ap owned c.in-FromPeer.is) (λ e is. as_one _ _ c.from_peer.result (FromPeer is.0) (c.from_peer.ensures.answered is.0 is.1) e is.2) e reads)

pub returns-in-FromPeer-clause-happens : goal.returns-in-FromPeer-clause-happens
returns-in-FromPeer-clause-happens g c = λ honest saved known e reads.
    let D = g.D.Disk in
    let d = device_of c.args.self.now.keeper in (
      handled_as _ _ e c.from_peer.result (as_this c.args.self.now.life.board.watch _ (FromPeer c.in-FromPeer.octets.now) _ _ c.from_peer.result (ap owned c.in-FromPeer.is) (λ e is. as_one _ _ c.from_peer.result (FromPeer is.0) (c.from_peer.ensures.answered is.0 is.1) e is.2) e reads),
      quiet_disk D (record { now = state_of c.args.self.now.life; saved = saved }) d d c.args.self.now.life.board.watch _ e _ (λ is. let no : FromPeer c.in-FromPeer.octets.now ≡ Save = sym (ap owned c.in-FromPeer.is) ∙ is in cc) reads refl,
    )

pub returns-in-StartPoll-clause-keeper : goal.returns-in-StartPoll-clause-keeper
returns-in-StartPoll-clause-keeper g c = never_keeper _ _ (StartPoll c.in-StartPoll.target) _ c.start_poll.result (λ is. is) c.start_poll.ensures.answered

pub returns-in-Timeout-clause-keeper : goal.returns-in-Timeout-clause-keeper
returns-in-Timeout-clause-keeper g c = never_keeper _ _ (Timeout c.in-Timeout.id) _ c.timeout.result (λ is. is) c.timeout.ensures.answered

pub returns-in-Share-clause-keeper : goal.returns-in-Share-clause-keeper
returns-in-Share-clause-keeper g c = never_keeper _ _ (Share c.in-Share.peer) _ c.share.result (λ is. is) c.share.ensures.answered

pub returns-in-FromAgent-clause-keeper : goal.returns-in-FromAgent-clause-keeper
returns-in-FromAgent-clause-keeper g c =
    let r = c.from_agent.ensures.read in
    never_keeper _ _ (FromAgent c.in-FromAgent.from r.0) _ c.from_agent.result (λ is. is) (c.from_agent.ensures.answered r.0 r.1)

pub returns-in-FromPeer-clause-keeper : goal.returns-in-FromPeer-clause-keeper
returns-in-FromPeer-clause-keeper g c = never_unless _ _ _ _ c.from_peer.result c.from_peer.ensures.read_err c.from_peer.ensures.answered

pub returns-in-Save-clause-moved : goal.returns-in-Save-clause-moved
returns-in-Save-clause-moved g c = λ honest save before saved. if_ok c.save.result _ _ (c.save.ensures.saved honest) (λ told kept. kept)
