use Rattle.std.proofs.Common.{◌≡◌, sym, subst, Ok, Option, Some, true}
use Rattle.std.proofs.lemmas.Result.{err_from_is_err_and}
use Rattle.mon_pdu.specs.declared.message.Message.{Message}
use Rattle.mon_poller.specs.Verdict.{after_response, response_verdict}
use Rattle.mon_poller.proofs.Verdicts.{fails_reading}
use Rattle.mon_poller.proofs.poller.Poller.response.Goals as goal

pub returns-in_err-message-clause-verdict : goal.returns-in_err-message-clause-verdict
returns-in_err-message-clause-verdict c = λ read reads.
    let p = err_from_is_err_and c.from_residual.result c.from_residual.ensures.1 in
    rw (p.1, p.2) (fails_reading c.args.self.now.targets c.args.self.now.polls.open_polls c.args.from read c.in_err-message.field-0.0 (c.in_err-message.ensures.gives read reads))

pub returns-in-Some-clause-read : goal.returns-in-Some-clause-read
returns-in-Some-clause-read c = (Some c.in-Some.ensures.offered.0, c.in-Some.ensures.offered.1)

pub returns-in-Some-clause-verdict : goal.returns-in-Some-clause-verdict
returns-in-Some-clause-verdict c = λ read reads.
    let is = c.in-Some.ensures.offered in
    let same : read ≡ Some is.0 = c.one_reading.ensures c.args.octets.now read (Some is.0) reads is.1 in
    subst (λ (r : Option Message). response_verdict c.args.self.now.targets c.args.self.now.polls.open_polls c.args.from r ≡ Ok c.in-Some.offered) (sym same) is.2

pub returns-in-Some-clause-polls : goal.returns-in-Some-clause-polls
returns-in-Some-clause-polls c = λ read reads.
    let is = c.in-Some.ensures.offered in
    let same : read ≡ Some is.0 = c.one_reading.ensures c.args.octets.now read (Some is.0) reads is.1 in
    subst (λ (r : Option Message). c.offered_in_place.new.self ≡ record { targets = c.args.self.now.targets; polls = after_response true r c.args.self.now.polls }) (sym same) is.3
