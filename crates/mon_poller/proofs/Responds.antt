-- Which open poll a message responds to.
use Rattle.std.proofs.Common.{◌≡◌, ℕ, pos, true, false, List, ap, ◌∙◌, Result, Ok, Err, Some, None}
use Rattle.std.specs.FinMap as map
use Rattle.std.specs.Str.{bytes_eq}
use Rattle.mon_pdu.specs.declared.message.Message.{Message}
use Rattle.mon_pdu.specs.declared.message.Pdu.{Pdu}
use Rattle.mon_udp.specs.declared.addr.Addr.{Addr}
use Rattle.mon_poller.specs.declared.fault.ResponseFault.{ResponseFault}
use Rattle.mon_poller.specs.declared.fault.ResponseFault.TheVariants.{BadMessage, Stray, WrongSource, WrongCommunity}
use Rattle.mon_poller.specs.declared.target.Target.{Target}
use Rattle.mon_oid.specs.Steps.{◌>>=◌}
use Rattle.mon_poller.specs.Gives.{or_refuse, need}
use Rattle.mon_poller.specs.Polls.{Poll, Open, poll_of}
use Rattle.mon_poller.specs.Target.{target_at}
use Rattle.mon_poller.specs.Verdict.{awaited, response_pdu}
use Rattle.mon_udp.specs.Addr.{same_addr}

module _ (targets : List Target) (polls : Open) (from : Addr) (m : Message) (r : Pdu) (is : response_pdu m.body ≡ Some r) (id : ℕ) (named : r.request_id ≡ pos id) where
  -- the tests of the poll's target
  tested : Poll → Result (Poll × Pdu) ResponseFault
  tested poll =
      need WrongSource (same_addr from (target_at targets poll.target).address) >>= λ source.
      need WrongCommunity (bytes_eq m.community (target_at targets poll.target).community) >>= λ community. Ok (poll, r)

  by_poll : awaited targets polls from (Some m) ≡ or_refuse Stray (map.get polls id) >>= tested
  unfolding awaited tested
  by_poll =
      ap (λ o. or_refuse BadMessage o >>= λ p. or_refuse Stray (poll_of polls p.request_id) >>= λ poll.
      need WrongSource (same_addr from (target_at targets poll.target).address) >>= λ source.
      need WrongCommunity (bytes_eq m.community (target_at targets poll.target).community) >>= λ community. Ok (poll, p)) is
      ∙ ap (λ z. or_refuse Stray (poll_of polls z) >>= tested) named

  pub no_poll : map.get polls id ≡ None → awaited targets polls from (Some m) ≡ Err Stray
  no_poll none = by_poll ∙ ap (λ o. or_refuse Stray o >>= tested) none

  module _ (poll : Poll) (open_poll : map.get polls id ≡ Some poll) where
    of_target : awaited targets polls from (Some m) ≡ tested poll
    of_target = by_poll ∙ ap (λ o. or_refuse Stray o >>= tested) open_poll

    pub other_source : same_addr from (target_at targets poll.target).address ≡ false → awaited targets polls from (Some m) ≡ Err WrongSource
    unfolding tested
    other_source test =
        of_target ∙ ap (λ b. need WrongSource b >>= λ source.
        need WrongCommunity (bytes_eq m.community (target_at targets poll.target).community) >>= λ community. Ok (poll, r)) test

    module _ (source : same_addr from (target_at targets poll.target).address ≡ true) where
      by_community : awaited targets polls from (Some m) ≡ need WrongCommunity (bytes_eq m.community (target_at targets poll.target).community) >>= λ community. Ok (poll, r)
      unfolding tested
      by_community =
          of_target ∙ ap (λ b. need WrongSource b >>= λ source.
          need WrongCommunity (bytes_eq m.community (target_at targets poll.target).community) >>= λ community. Ok (poll, r)) source

      pub other_community : bytes_eq m.community (target_at targets poll.target).community ≡ false → awaited targets polls from (Some m) ≡ Err WrongCommunity
      other_community test = by_community ∙ ap (λ b. need WrongCommunity b >>= λ community. Ok (poll, r)) test

      pub poll_found : bytes_eq m.community (target_at targets poll.target).community ≡ true → awaited targets polls from (Some m) ≡ Ok (poll, r)
      poll_found test = by_community ∙ ap (λ b. need WrongCommunity b >>= λ community. Ok (poll, r)) test
