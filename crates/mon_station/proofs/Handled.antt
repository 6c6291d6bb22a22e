-- What the handlers answer and leave, over plain states.
use Rattle.std.proofs.Common.{◌≡◌, ◌+◌, ℕ, Bool, true, List, [], ◌∷◌, Option, Some, None, Result, Ok, Err, refl, sym, ap, subst, ◌∙◌}
use Rattle.std.specs.Result.{IsErrAnd}
use Rattle.mon_board.specs.Board.{Board, KeepsMarks, window_of}
use Rattle.mon_board.specs.Windows.{joined}
use Rattle.mon_pdu.specs.declared.message.Message.{Message}
use Rattle.mon_udp.specs.declared.addr.Addr.{Addr}
use Rattle.mon_poller.specs.declared.fault.PollFault.{PollFault}
use Rattle.mon_poller.specs.declared.fault.ResponseFault.{ResponseFault}
use Rattle.mon_poller.specs.declared.poller.Offered.{Offered}
use Rattle.mon_poller.specs.declared.poller.TimedOut.{TimedOut}
use Rattle.mon_poller.specs.Gives.{Fails, StartFails}
use Rattle.mon_poller.specs.Poller.{Poller}
use Rattle.mon_poller.specs.Polls.{Polls, with_poll, timed}
use Rattle.mon_poller.specs.Target.{poll_octets, target_at}
use Rattle.mon_poller.specs.Verdict.{after_response, ends, response_verdict, start_verdict, timeout_verdict, tries_of}
use Rattle.mon_station.specs.declared.event.Outgoing.{Outgoing}
use Rattle.mon_station.specs.declared.event.Told.{Told}
use Rattle.mon_station.specs.declared.fault.StationFault.{StationFault}
use Rattle.mon_station.specs.declared.fault.StationFault.TheVariants as station
use Rattle.mon_station.specs.Fault.{keeper_refusal, poll_refusal, response_refusal}
use Rattle.mon_disk.specs.declared.fault.KeeperFault.{KeeperFault}
use Rattle.mon_disk.specs.declared.fault.KeeperFault.TheVariants as keeper
use Rattle.mon_exchange.specs.declared.fault.ExchangeFault.TheVariants as exchange
use Rattle.mon_station.specs.ReadEvent.{ReadEvent, StartPoll, Timeout, FromAgent, Share, Save}
use Rattle.mon_station.specs.State.{State, IsHandled, setting_of}
use Rattle.mon_station.specs.Step.{IsSettled, left_polls}
use Rattle.mon_station.specs.Told.{IsAnswered, IsTold, given_up_by, resends, to_target}
use Rattle.mon_station.specs.Verdict.{Setting, IsLawfulFault, fault_in, polls_after, response_pairs, response_stamp, share_fault, slot_of, stamp_in}
use Rattle.mon_station.proofs.Faults.{ends_as, response_lawful, response_memory, start_lawful}
use Rattle.mon_poller.specs.declared.fault.ResponseFault.TheVariants as response
use Rattle.mon_station.proofs.Quiet.{IsQuiet, quiet_after, quiet_fault}

-- the state with this poller in place of its own
abbrev pub with_poller : State → Poller → State
with_poller s poller = record { board = s.board; poller = poller; peers = s.peers; incarnation = s.incarnation; serial = s.serial }

abbrev pub with_polls : Poller → Polls → Poller
with_polls poller polls = record { targets = poller.targets; polls = polls }

-- ---- refusals
-- a lawful fault at which the polls stay
pub refused : (s : State) → IsSettled s → (e : ReadEvent) (f : StationFault) → s.poller.polls ≡ polls_after (setting_of s) e (Some f) s.poller.polls → IsLawfulFault (setting_of s) s.poller.polls e f → IsHandled e (Some f) s s
refused s settled e f polls lawful = record { lawful = lawful; after = quiet_after s settled e (Some f) (quiet_fault s e f) s.poller.polls polls }

-- out of memory
pub memory_polls : (w : Setting) (e : ReadEvent) (p : Polls) → p ≡ polls_after w e (Some station.OutOfMemory) p
memory_polls w (StartPoll t) p = refl
memory_polls w (Timeout id) p = refl
memory_polls w e p = refl

pub by_memory : (s : State) → IsSettled s → (e : ReadEvent) (result : Result Told StationFault) → IsErrAnd result (λ f. f ≡ station.OutOfMemory) → IsAnswered s s e result
by_memory s settled e (Ok told) h = absurd h
by_memory s settled e (Err f) h = subst (λ (g : StationFault). IsHandled e (Some g) s s) (sym h) (refused s settled e station.OutOfMemory (memory_polls (setting_of s) e s.poller.polls) tt)

-- ---- polls
module _ (s : State) (settled : IsSettled s) where
  pub start_refused : (t : ℕ) (f : PollFault) (g : StationFault) (n : Poller) → g ≡ poll_refusal f → n ≡ s.poller → StartFails f (start_verdict s.poller.targets s.poller.polls t) → IsHandled (StartPoll t) (Some g) s (with_poller s n)
  start_refused t f g n is same h =
      subst (λ (x : StationFault). IsHandled (StartPoll t) (Some x) s (with_poller s n)) (sym is)
      (subst (λ (p : Poller). IsHandled (StartPoll t) (Some (poll_refusal f)) s (with_poller s p)) (sym same)
      (refused s settled (StartPoll t) (poll_refusal f) refl (start_lawful (setting_of s) s.poller.polls t f h)))

  quiet_start : (t : ℕ) → IsQuiet s (StartPoll t) None
  quiet_start t = record { nothing = refl; serial = refl; known = λ y. refl; marks = λ k. refl }

  pub started : (t id : ℕ) (n : Poller) (told : Told) (out : Outgoing) → start_verdict s.poller.targets s.poller.polls t ≡ Ok id → n ≡ with_polls s.poller (with_poll t s.poller.polls)
      → told.taken ≡ [] → told.sends.items ≡ out ∷ [] → told.noted ≡ None → told.given_up ≡ None → told.answered ≡ None → out ≡ to_target t (poll_octets (target_at s.poller.targets t) (s.poller.polls.started + 1))
      → IsHandled (StartPoll t) None s (with_poller s n) × IsTold s (StartPoll t) told
  started t id n told out ok is taken sends noted given_up answered sent = (
    subst (λ (p : Poller). IsHandled (StartPoll t) None s (with_poller s p)) (sym is)
        (record { lawful = ap (fault_in station.Poll) ok; after = quiet_after s settled (StartPoll t) None (quiet_start t) (with_poll t s.poller.polls) refl }),
    record { taken = taken; sent = sends ∙ ap (λ (o : Outgoing). o ∷ []) sent; noted = noted; given_up = given_up; answered = answered; claims = tt },
  )

  quiet_timeout : (id : ℕ) → IsQuiet s (Timeout id) None
  quiet_timeout id = record { nothing = refl; serial = refl; known = λ y. refl; marks = λ k. refl }

  pub timed_out : (id : ℕ) (n : Poller) (told : Told) (is : TimedOut) → n ≡ with_polls s.poller (timed (tries_of s.poller.targets) id s.poller.polls)
      → told.taken ≡ [] → told.sends.items ≡ resends is → told.noted ≡ None → told.given_up ≡ given_up_by is → told.answered ≡ None → is ≡ timeout_verdict s.poller.targets s.poller.polls id
      → IsHandled (Timeout id) None s (with_poller s n) × IsTold s (Timeout id) told
  timed_out id n told verdict is taken sends noted given_up answered same = (
    subst (λ (p : Poller). IsHandled (Timeout id) None s (with_poller s p)) (sym is)
        (record { lawful = refl; after = quiet_after s settled (Timeout id) None (quiet_timeout id) (timed (tries_of s.poller.targets) id s.poller.polls) refl }),
    record { taken = taken; sent = sends ∙ ap resends same; noted = noted; given_up = given_up ∙ ap given_up_by same; answered = answered; claims = tt },
  )

  -- ---- responses
  pub response_refused : (a : Addr) (r : Option Message) (f : ResponseFault) (g : StationFault) (n : Poller) → g ≡ response_refusal f → (let x : Result Offered ResponseFault = Err f in n ≡ with_polls s.poller (after_response (ends x) r s.poller.polls))
      → Fails f (response_verdict s.poller.targets s.poller.polls.open_polls a r) → IsHandled (FromAgent a r) (Some g) s (with_poller s n)
  response_refused a r f g n same is h =
      let x : Result Offered ResponseFault = Err f in
      subst (λ (y : StationFault). IsHandled (FromAgent a r) (Some y) s (with_poller s n)) (sym same)
      (subst (λ (p : Poller). IsHandled (FromAgent a r) (Some (response_refusal f)) s (with_poller s p)) (sym is)
      (record {
        lawful = response_lawful (setting_of s) s.poller.polls (FromAgent a r) _ refl f h;
        after = quiet_after s settled (FromAgent a r) (Some (response_refusal f)) (quiet_fault s (FromAgent a r) (response_refusal f)) (after_response (ends x) r s.poller.polls)
            (ap (λ (b : Bool). after_response b r s.poller.polls) (sym (ends_as f)));
      }))

  pub response_taken : (a : Addr) (r : Option Message) (o : Offered) (n : Poller) (b : Board) (told : Told) (pairs : List (ℕ × ℕ))
      → response_verdict s.poller.targets s.poller.polls.open_polls a r ≡ Ok o → n ≡ with_polls s.poller (after_response true r s.poller.polls) → pairs ≡ o.pairs
      → b.watch ≡ s.board.watch → ((i : ℕ) → window_of b i ≡ joined s.board.watch (window_of s.board) pairs i) → KeepsMarks s.board b
      → told.taken ≡ o.pairs → told.sends.items ≡ [] → told.noted ≡ None → told.given_up ≡ None → told.answered ≡ Some (stamp_in o)
      → IsHandled (FromAgent a r) None s (record { board = b; poller = n; peers = s.peers; incarnation = s.incarnation; serial = s.serial }) × IsTold s (FromAgent a r) told
  response_taken a r o n b told pairs ok is same watch windows marks taken sends noted given_up answered =
      let offered : o.pairs ≡ response_pairs (response_verdict s.poller.targets s.poller.polls.open_polls a r) = sym (ap response_pairs ok) in (
        record {
          lawful = ap (fault_in station.Response) ok;
          after = record {
            setting = λ j. record { watch = watch j; targets = (is j).targets; own = s.peers.own; peers = (setting_of s).peers };
            windows = λ i. windows i ∙ ap (λ ps. joined s.board.watch (window_of s.board) ps i) (same ∙ offered);
            polls = ap (λ (p : Poller). p.polls) is;
            incarnation = refl;
            serial = refl;
            known = λ y. refl;
            marks = λ k i x j. marks k j i x;
          };
        },
        record { taken = taken ∙ offered; sent = sends; noted = noted; given_up = given_up; answered = answered ∙ sym (ap response_stamp ok); claims = tt },
      )

  -- ---- saves
  quiet_save : IsQuiet s Save None
  quiet_save = record { nothing = refl; serial = refl; known = λ y. refl; marks = λ k. refl }

  pub saved : (told : Told) → told.taken ≡ [] → told.sends.items ≡ [] → told.noted ≡ None → told.given_up ≡ None → told.answered ≡ None → IsHandled Save None s s × IsTold s Save told
  saved told taken sends noted given_up answered = (
    record { lawful = refl; after = quiet_after s settled Save None quiet_save s.poller.polls refl },
    record { taken = taken; sent = sends; noted = noted; given_up = given_up; answered = answered; claims = tt },
  )

  pub save_refused : (f : KeeperFault) (g : StationFault) → g ≡ keeper_refusal f → IsHandled Save (Some g) s s
  save_refused f g is =
      subst (λ (x : StationFault). IsHandled Save (Some x) s s) (sym is) (refused s settled Save (keeper_refusal f) (save_polls (keeper_refusal f)) (keeper_lawful f))
    where
      save_polls : (x : StationFault) → s.poller.polls ≡ polls_after (setting_of s) Save (Some x) s.poller.polls
      save_polls x = refl

      keeper_lawful : (f : KeeperFault) → IsLawfulFault (setting_of s) s.poller.polls Save (keeper_refusal f)
      keeper_lawful keeper.OutOfMemory = tt
      keeper_lawful keeper.DiskFault = tt
      keeper_lawful keeper.NoMoreGenerations = tt
      keeper_lawful keeper.TooLarge = tt
      keeper_lawful keeper.Damaged = tt
      keeper_lawful keeper.Reopen = tt

  pub share_refused : (y : ℕ) → None ≡ slot_of (setting_of s).peers y → IsHandled (Share y) (Some (station.Exchange exchange.UnknownPeer)) s s
  share_refused y slot = refused s settled (Share y) (station.Exchange exchange.UnknownPeer) refl (ap share_fault (sym slot))

-- ---- refused responses
-- of a poller that keeps its targets
pub only_polls : (s : State) (n : Poller) (p : Polls) → n ≡ with_polls s.poller p → with_poller s n ≡ left_polls s n.polls
only_polls s n p is = ap (with_poller s) (is ∙ ap (with_polls s.poller) (sym (ap (λ (m : Poller). m.polls) is)))

pub response_memory_stays : (s : State) (r : Option Message) (f : ResponseFault) (n : Poller) → (let x : Result Offered ResponseFault = Err f in n ≡ with_polls s.poller (after_response (ends x) r s.poller.polls)) → response_refusal f ≡ station.OutOfMemory
    → with_poller s n ≡ s
response_memory_stays s r f n is out =
    let at : f ≡ response.OutOfMemory = response_memory f out in
    ap (with_poller s) (is ∙ ap (λ (g : ResponseFault). let x : Result Offered ResponseFault = Err g in with_polls s.poller (after_response (ends x) r s.poller.polls)) at)
