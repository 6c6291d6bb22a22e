use Rattle.std.proofs.Common.{refl, ap, ◌∙◌}
use Rattle.std.proofs.lemmas.Result.{IfOk-from_err}
use Rattle.mon_rounds.specs.Noted.{answered_of, gave_up, heard_of, notices_of, samples_taken, strangers_in, unsaved}
use Rattle.mon_rounds.proofs.reporting.RoundReport.of.Goals as goal

pub returns : goal.returns
returns c =
    let round = c.args.round.now in
    let events = c.events-events.ensures.events in
    let answers = c.as_slice-answers.ensures.value in
    record {
      notices = c.in_ok-notices.ensures ∙ ap (notices_of round.targets round.events) answers;
      datagrams = c.datagrams.ensures;
      strangers = c.count_strangers.ensures ∙ ap (strangers_in round.targets) events;
      source = refl;
      sends = refl;
      taken = c.count_taken.ensures ∙ ap samples_taken answers;
      given_up = c.count_given_up-given_up.ensures ∙ ap gave_up c.as_slice.ensures.value;
      failed_saves = c.count_failed_saves-failed_saves.ensures ∙ ap unsaved c.as_slice-2.ensures.value;
      answered = c.in_ok-answered_of.ensures ∙ ap answered_of answers;
      peers = c.in_ok-heard_of.ensures ∙ (λ i. heard_of (c.peer_addresses.ensures i) (events i));
    }

pub returns-in_err-notices : goal.returns-in_err-notices
returns-in_err-notices c =
    let r = c.from_residual in
    record {
      notices = IfOk-from_err r.result _ r.ensures.0;
      datagrams = IfOk-from_err r.result _ r.ensures.0;
      strangers = IfOk-from_err r.result _ r.ensures.0;
      source = IfOk-from_err r.result _ r.ensures.0;
      sends = IfOk-from_err r.result _ r.ensures.0;
      taken = IfOk-from_err r.result _ r.ensures.0;
      given_up = IfOk-from_err r.result _ r.ensures.0;
      failed_saves = IfOk-from_err r.result _ r.ensures.0;
      answered = IfOk-from_err r.result _ r.ensures.0;
      peers = IfOk-from_err r.result _ r.ensures.0;
    }

pub returns-in_err-answered_of : goal.returns-in_err-answered_of
returns-in_err-answered_of c =
    let r = c.from_residual-in_err-answered_of in
    record {
      notices = IfOk-from_err r.result _ r.ensures.0;
      datagrams = IfOk-from_err r.result _ r.ensures.0;
      strangers = IfOk-from_err r.result _ r.ensures.0;
      source = IfOk-from_err r.result _ r.ensures.0;
      sends = IfOk-from_err r.result _ r.ensures.0;
      taken = IfOk-from_err r.result _ r.ensures.0;
      given_up = IfOk-from_err r.result _ r.ensures.0;
      failed_saves = IfOk-from_err r.result _ r.ensures.0;
      answered = IfOk-from_err r.result _ r.ensures.0;
      peers = IfOk-from_err r.result _ r.ensures.0;
    }

pub returns-in_err-heard_of : goal.returns-in_err-heard_of
returns-in_err-heard_of c =
    let r = c.from_residual-in_err-heard_of in
    record {
      notices = IfOk-from_err r.result _ r.ensures.0;
      datagrams = IfOk-from_err r.result _ r.ensures.0;
      strangers = IfOk-from_err r.result _ r.ensures.0;
      source = IfOk-from_err r.result _ r.ensures.0;
      sends = IfOk-from_err r.result _ r.ensures.0;
      taken = IfOk-from_err r.result _ r.ensures.0;
      given_up = IfOk-from_err r.result _ r.ensures.0;
      failed_saves = IfOk-from_err r.result _ r.ensures.0;
      answered = IfOk-from_err r.result _ r.ensures.0;
      peers = IfOk-from_err r.result _ r.ensures.0;
    }
