-- What a datagram is answered, and what its answer makes of the open polls.
use Rattle.std.proofs.Common.{◌≡◌, ℕ, pos, ◌≤◌, false, List, sym, ap, subst, ◌∙◌, arith, Result, Ok, Err, Option, Some}
use Rattle.std.specs.Option.{option_map}
use Rattle.std.specs.Prelude.{nat_lt}
use Rattle.std.proofs.lemmas.Bool.Decides.{nat_tests}
use Rattle.mon_pdu.specs.declared.message.Message.{Message}
use Rattle.mon_pdu.specs.declared.message.Pdu.{Pdu}
use Rattle.mon_udp.specs.declared.addr.Addr.{Addr}
use Rattle.mon_poller.specs.declared.fault.ResponseFault.{ResponseFault}
use Rattle.mon_poller.specs.declared.fault.ResponseFault.TheVariants.{BadMessage}
use Rattle.mon_poller.specs.declared.poller.Offered.{Offered}
use Rattle.mon_poller.specs.declared.target.Target.{Target}
use Rattle.mon_poller.specs.Fault.{response_number}
use Rattle.mon_oid.specs.Steps.{◌>>=◌}
use Rattle.mon_poller.specs.Gives.{or_refuse, Fails, Gives}
use Rattle.mon_poller.specs.Polls.{Poll, Open, Polls, closed, closed_by}
use Rattle.mon_poller.specs.Target.{target_at}
use Rattle.mon_poller.specs.Verdict.{awaited, poll_answer, response_verdict, ends, id_of, response_pdu}
use Rattle.mon_poller.proofs.Steps.{fails_first}

module _ (targets : List Target) (polls : Open) (from : Addr) (read : Option Message) where
  -- no poll is responded to
  pub fails_early : (e : ResponseFault) → Fails e (awaited targets polls from read) → Fails e (response_verdict targets polls from read)
  unfolding response_verdict
  fails_early e h = fails_first e (awaited targets polls from read) (λ found. poll_answer found.0.target (target_at targets found.0.target) found.1) h

  -- the datagram is not read
  not_awaited : (e : ResponseFault) → Fails e (or_refuse {E = ResponseFault} BadMessage read) → Fails e (awaited targets polls from read)
  unfolding awaited
  not_awaited e h = fails_first e (or_refuse BadMessage read) _ h

  pub fails_reading : (e : ResponseFault) → Fails e (or_refuse {E = ResponseFault} BadMessage read) → Fails e (response_verdict targets polls from read)
  fails_reading e h = fails_early e (not_awaited e h)

  pub by_answer : (poll : Poll) (r : Pdu) → awaited targets polls from read ≡ Ok (poll, r) → response_verdict targets polls from read ≡ poll_answer poll.target (target_at targets poll.target) r
  unfolding response_verdict
  by_answer poll r is = ap (λ a. a >>= λ found. poll_answer found.0.target (target_at targets found.0.target) found.1) is

  -- what a call gave of the target of its poll is what is answered to the datagram
  pub gives_answer : (poll : Poll) (r : Pdu) (t : Target) (answered : Result Offered ResponseFault) → awaited targets polls from read ≡ Ok (poll, r) → t ≡ target_at targets poll.target
      → Gives (λ o. o) answered (poll_answer poll.target t r) → Gives (λ o. o) answered (response_verdict targets polls from read)
  gives_answer poll r t answered found is given =
      subst (λ (v : Result Offered ResponseFault). Gives (λ o. o) answered v) (sym (by_answer poll r found)) (subst (λ (x : Target). Gives (λ o. o) answered (poll_answer poll.target x r)) is given)

-- a refusal up to 5 ends no poll
pub ends_none : (A : Type 0) (e : ResponseFault) → response_number e ≤ 5 → ends {A = A} (Err e) ≡ false
ends_none A e low = let test : nat_lt 5 (response_number e) ≡ false = grind (arith, nat_tests) in test

-- a response names its poll
pub ended_by : (m : Message) (r : Pdu) (id : ℕ) (p : Polls) → response_pdu m.body ≡ Some r → r.request_id ≡ pos id → closed_by (id_of (Some m)) p ≡ closed id p
ended_by m r id p is named = ap (λ o. closed_by (option_map (λ (q : Pdu). q.request_id) o) p) is ∙ ap (λ z. closed_by (Some z) p) named
