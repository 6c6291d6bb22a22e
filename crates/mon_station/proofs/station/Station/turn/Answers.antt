use Rattle.std.proofs.Common.{Err, List, ap, sym, subst, ◌∙◌}
use Rattle.mon_disk.specs.Kept.{device_of, last_body}
use Rattle.mon_disk.proofs.Promised.{at_end}
use Rattle.mon_udp.specs.Told.{extended}
use Rattle.mon_station.specs.declared.event.Outgoing.{Outgoing}
use Rattle.mon_station.specs.ReadEvent.{ReadEvent, ReadsAs, OwnedEvent}
use Rattle.mon_station.specs.Saved.{FindsRunning, IsOfKeeper, may_meet}
use Rattle.mon_station.specs.State.{state_of}
use Rattle.mon_station.proofs.Runs.{amid, file_fault, file_told, is_save, not_save, running_or_last, saved_or_last, turned_fault, turned_told}
use Rattle.mon_station.proofs.station.Station.turn.Goals as goal

pub returns-in-Ok-clause-turned : goal.returns-in-Ok-clause-turned
returns-in-Ok-clause-turned g c =
    let D = g.D.Disk in
    let s = state_of c.args.self.now.life in
    let event = c.lend.result in
    let is = c.lend.ensures in
    let before = c.args.self.now.keeper in
    let after = c.step.new.self.keeper in
    let old = device_of before in
    let new = device_of after in
    turned_told D s (state_of c.step.new.self.life) c.args.event old new (last_body before) (last_body after) c.in-Ok.ensures.honest c.in-Ok.told _ _ _
    (λ e reads. c.in-Ok.ensures.answered e (subst (λ (a : OwnedEvent). ReadsAs s.board.watch a e) (sym is) reads))
    (subst (λ (a : OwnedEvent). (e : ReadEvent) × ReadsAs s.board.watch a e) is c.in-Ok.ensures.read)
    (c.hand.ensures.log ∙ ap (λ (l : List Outgoing). extended (g.O.Outbox.log c.args.outbox.now) l) c.as_slice.ensures.value) c.answer_of.ensures c.in-Ok.ensures.count
    (λ honest. file_told may_meet s before after c.args.event (λ other. c.in-Ok.ensures.disk (not_save event (λ e. other (sym is ∙ e))))
    (λ e. saved_or_last (D.may_leave new) (last_body after) s (c.in-Ok.ensures.saved honest (is_save event (is ∙ e))) (c.in-Ok.ensures.last honest (is_save event (is ∙ e)))))
    (λ honest. amid D s old new (last_body before) (λ disk t h left. g.met.D.Disk.only_now disk t h left) honest c.args.event (λ other. ap device_of (c.in-Ok.ensures.disk (not_save event (λ e. other (sym is ∙ e)))))
    (c.in-Ok.ensures.any_moment honest))

pub returns-clause-turned : goal.returns-clause-turned
returns-clause-turned g c =
    let D = g.D.Disk in
    let s = state_of c.args.self.now.life in
    let event = c.lend.result in
    let is = c.lend.ensures in
    let before = c.args.self.now.keeper in
    let after = c.step.new.self.keeper in
    let old = device_of before in
    let new = device_of after in
    turned_fault D s (state_of c.step.new.self.life) c.args.event old new (last_body before) (last_body after) c.in-Err.ensures.honest c.in-Err.fault _ _
    (λ e reads. c.in-Err.ensures.answered e (subst (λ (a : OwnedEvent). ReadsAs s.board.watch a e) (sym is) reads))
    (λ other. subst (λ (a : OwnedEvent). (e : ReadEvent) × ReadsAs s.board.watch a e) is (c.in-Err.ensures.read other))
    (λ memory. (c.in-Err.ensures.memory (ap Err memory)).0) c.shown.ensures
    (λ e. c.in-Err.ensures.save_fault (is_save event (is ∙ e))) c.in-Err.ensures.cause
    (λ f honest. c.in-Err.ensures.no_more_found honest (c.in-Err.ensures.keeper (subst IsOfKeeper (sym f) tt)) (ap Err f))
    (λ honest. file_fault may_meet s before after c.args.event c.in-Err.fault (λ other. c.in-Err.ensures.disk (not_save event (λ e. other (sym is ∙ e)))) (λ other. c.in-Err.ensures.unsaved other)
    (running_or_last (D.may_leave new) (D.may_leave old) (last_body before) (last_body after) s (c.in-Err.ensures.last_err honest) (at_end D.moment D.left_since D.may_leave old new (FindsRunning (may_meet before) s) (λ t f le left. g.met.D.Disk.counts_now new t f (c.in-Err.ensures.honest honest) le left) (c.in-Err.ensures.any_moment honest))))
    (λ honest. amid D s old new (last_body before) (λ disk t h left. g.met.D.Disk.only_now disk t h left) honest c.args.event (λ other. ap device_of (c.in-Err.ensures.disk (not_save event (λ e. other (sym is ∙ e)))))
    (c.in-Err.ensures.any_moment honest))
