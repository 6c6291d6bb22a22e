use Rattle.std.proofs.Common.{◌≡◌, ◌++◌, ◌+◌, ◌∷◌, [], List, Option, Some, Ok, refl, sym, ap, subst, ◌∙◌, arith, rules}
use Rattle.std.proofs.lemmas.Slice.{pushed}
use Rattle.mon_disk.specs.Kept.{device_of, last_body}
use Rattle.mon_station.specs.ReadEvent.{OwnedEvent}
use Rattle.mon_station.specs.declared.running.Answer.{Answer}
use Rattle.mon_station.specs.Ran as ran
use Rattle.mon_station.specs.Ran.{faults_in}
use Rattle.mon_station.specs.State.{state_of}
use Rattle.mon_station.specs.Turned.{told_of}
use Rattle.mon_station.proofs.Runs.{append_nil, did_event, did_none, faults_more}
use Rattle.mon_station.proofs.station.Station.take_turn.Goals as goal

pub returns-in-Ok-Some-clause-called : goal.returns-in-Ok-Some-clause-called
returns-in-Ok-Some-clause-called g c =
    let S = g.S.Source in
    let station = c.args.self.now in
    let polls = station.life.poller.polls.open_polls in
    let last : Option Answer = c.args.last.now in
    let old : List Answer = c.args.run.now.answers.items in
    let new : List Answer = c.push.new.self.items in
    let answer : Answer = c.turn-answer.result in
    let more : new ≡ old ++ answer ∷ [] = pushed {was = old} (answer ∷ []) refl c.unwrap.ensures c.push.ensures.items in
    let turned = c.turn-answer.ensures.turned in
    record {
      call = record { gave = ran.Event turned.turn; view = S.view c.next.new.self };
      did = did_event g.D.Disk (told_of last S.gives) (state_of station.life) (state_of c.turn-answer.new.self.life) (S.view c.args.source.now) (S.view c.next.new.self) (g.O.Outbox.log c.args.outbox.now) (g.O.Outbox.log c.turn-answer.new.outbox) (device_of station.keeper) (device_of c.turn-answer.new.self.keeper) (last_body station.keeper) (last_body c.turn-answer.new.self.keeper)
          c.in-Ok-Some.event answer turned (subst (λ (o : Option OwnedEvent). S.gives (S.view c.args.source.now) polls last (Ok o) (S.view c.next.new.self)) c.in-Ok-Some.field-0-is c.in-Ok-Some.ensures.gives);
      counted = record {
        turns = refl;
        answers = more ∙ ap (λ (a : Answer). old ++ a ∷ []) turned.shown_is;
        faults = omega arith;
        room = search rules;
        refused = λ was. c.count_refused-run.ensures ∙ ap (λ n. n + faults_in (answer ∷ [])) was ∙ sym (faults_more old answer) ∙ ap faults_in (sym more);
      };
      last_is = ap Some (sym turned.shown_is);
      going_is = refl;
    }

pub returns-in-Ok-None-clause-called : goal.returns-in-Ok-None-clause-called
returns-in-Ok-None-clause-called g c =
    let S = g.S.Source in
    let station = c.args.self.now in
    let polls = station.life.poller.polls.open_polls in
    let last : Option Answer = c.args.last.now in
    record {
      call = record { gave = ran.End; view = S.view c.next.new.self };
      did = did_none g.D.Disk (told_of last S.gives) (λ disk t h left. g.met.D.Disk.only_now disk t h left) (state_of station.life) (S.view c.args.source.now) (S.view c.next.new.self) (g.O.Outbox.log c.args.outbox.now) (device_of station.keeper) (last_body station.keeper) ran.End refl tt
          (subst (λ (o : Option OwnedEvent). S.gives (S.view c.args.source.now) polls last (Ok o) (S.view c.next.new.self)) c.in-Ok-None.field-0-is c.in-Ok-None.ensures.gives);
      counted = record { turns = refl; answers = sym (append_nil _); faults = omega arith; room = omega arith; refused = λ was. was };
      last_is = refl;
      going_is = refl;
    }

pub returns-in-Err-clause-called : goal.returns-in-Err-clause-called
returns-in-Err-clause-called g c =
    let S = g.S.Source in
    let station = c.args.self.now in
    let polls = station.life.poller.polls.open_polls in
    let last : Option Answer = c.args.last.now in
    record {
      call = record { gave = ran.Fault c.in-Err.field-0; view = S.view c.next.new.self };
      did = did_none g.D.Disk (told_of last S.gives) (λ disk t h left. g.met.D.Disk.only_now disk t h left) (state_of station.life) (S.view c.args.source.now) (S.view c.next.new.self) (g.O.Outbox.log c.args.outbox.now) (device_of station.keeper) (last_body station.keeper) (ran.Fault c.in-Err.field-0) refl tt
          c.in-Err.ensures.gives;
      counted = record { turns = refl; answers = sym (append_nil _); faults = refl; room = omega arith; refused = λ was. was };
      last_is = refl;
      going_is = refl;
    }
