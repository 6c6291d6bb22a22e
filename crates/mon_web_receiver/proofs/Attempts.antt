-- What attempts to receive come to.
use Rattle.std.proofs.Common.{◌≡◌, ◌<◌, ◌+◌, ◌∙◌, ℕ, suc, List, Option, Result, Ok, Err, IfOk, subst, sym, ap}
use Rattle.std.specs.declared.net.socket_addr.SocketAddr.{SocketAddr}
use Rattle.std.specs.declared.time.Instant.{Instant}
use Rattle.mon_udp.specs.Wait.{IsOn, left_at}
use Rattle.mon_udp.specs.declared.timer.Timer.{Timer}
use Rattle.mon_rounds.specs.AtSocket.{IsArrival, IsGot}
use Rattle.mon_rounds.specs.declared.receiver.Arrival.{Arrival}
use Rattle.mon_rounds.specs.declared.receiver.Arrival.TheVariants.{Datagram, Quiet}
use Rattle.mon_rounds.specs.declared.receiver.ReceiverFault.{ReceiverFault}
use Rattle.httpdate.specs.declared.date.HttpDate.{HttpDate as Date}
use Rattle.mon_web.specs.declared.response.Moment.{Moment}
use Rattle.mon_web_receiver.specs.Attempt.{AreTurns, HadTurn, HadTurns, IsAttempt, IsServed, IsTurnIn, TakesTurns, more, no_silence, since_turns, wait_after}
use Rattle.mon_web_receiver.specs.declared.receiver.Attempt.{Attempt}
use Rattle.mon_web_receiver.specs.declared.receiver.Attempt.TheVariants.{Received, Over, Served}

-- a datagram that was found is what is got, if it is handed on
found_is_got : (Told : Instant → Type 0) (Found : List ℕ → ℕ → SocketAddr → Type 0) (t : Timer) (room : List ℕ) (len : ℕ) (from : SocketAddr) (result : Result Arrival ReceiverFault)
    → IsOn Told t × Found room len from → IfOk result (IsArrival room len from) → IfOk result (IsGot Told no_silence Found room t)
found_is_got Told Found t room len from (Ok (Datagram address octets)) found is = (found.0, len, from, found.1, (is.0, is.1))
found_is_got Told Found t room len from (Ok Quiet) found is = elim is [ ]
found_is_got Told Found t room len from (Err fault) found is = tt

-- a datagram that was found is what is got, by a clock, a socket and a wait that stayed
pub got_as : {T S : Type 0} → (told : T → Instant → Instant → Type 0) (found : S → List ℕ → ℕ → SocketAddr → Type 0) (ticks was_ticks : T) (socket was_socket : S) (t was : Timer) (room : List ℕ) (len : ℕ) (from : SocketAddr)
    (Turn : Instant → ℕ → Type 0) (datagrams : ℕ) (attempt : Attempt) (seen : List ℕ) (result : Result Arrival ReceiverFault) → ticks ≡ was_ticks → socket ≡ was_socket → t ≡ was → attempt ≡ Received len from
    → IsAttempt (told ticks t.quiet) (found socket room) Turn datagrams t attempt → seen ≡ room → IfOk result (IsArrival seen len from)
    → IfOk result (IsGot (told was_ticks was.quiet) no_silence (found was_socket) room was)
got_as told found ticks was_ticks socket was_socket t was room len from Turn datagrams attempt seen result same_ticks same_socket same_timer received is view arrival =
    subst (λ k. IfOk result (IsGot (told k was.quiet) no_silence (found was_socket) room was)) same_ticks
    (subst (λ s. IfOk result (IsGot (told ticks was.quiet) no_silence (found s) room was)) same_socket
    (subst (λ u. IfOk result (IsGot (told ticks u.quiet) no_silence (found socket) room u)) same_timer
    (found_is_got (told ticks t.quiet) (found socket) t room len from result (subst (IsAttempt (told ticks t.quiet) (found socket room) Turn datagrams t) received is) (subst (λ l. IfOk result (IsArrival l len from)) view arrival))))

-- one more turn, by a clock and a wait that stayed
pub one_more : {T D W : Type 0} → (told : T → Instant → Instant → Type 0) (dated : D → Option Date → Type 0) (gave : W → Moment → ℕ → W → Type 0) (found : ℕ → SocketAddr → Type 0)
    (ticks was_ticks : T) (rt was_rt : D) (origin was_origin : Instant) (t was : Timer) (n before datagrams after : ℕ) (first last new : W) (attempt : Attempt)
    → ticks ≡ was_ticks → rt ≡ was_rt → origin ≡ was_origin → t ≡ was → attempt ≡ Served
    → IsAttempt (told ticks t.quiet) found (HadTurn (dated rt) gave origin last new) datagrams t attempt → TakesTurns datagrams after last new attempt
    → AreTurns (IsTurnIn (told was_ticks was.quiet) (dated was_rt) gave was_origin was) n first last
    → AreTurns (IsTurnIn (told was_ticks was.quiet) (dated was_rt) gave was_origin was) (suc n) first new × (after ≡ since_turns (suc n) before)
one_more told dated gave found ticks was_ticks rt was_rt origin was_origin t was n before datagrams after first last new attempt same_ticks same_rt same_origin same_timer served is counts turns =
    let it : IsServed (told ticks t.quiet) (HadTurn (dated rt) gave origin last new) datagrams t = subst (IsAttempt (told ticks t.quiet) found (HadTurn (dated rt) gave origin last new) datagrams t) served is in
    let one : IsTurnIn (told was_ticks was.quiet) (dated was_rt) gave was_origin was last new =
    subst (λ k. IsTurnIn (told k was.quiet) (dated was_rt) gave was_origin was last new) same_ticks
    (subst (λ d. IsTurnIn (told ticks was.quiet) (dated d) gave was_origin was last new) same_rt
    (subst (λ o. IsTurnIn (told ticks was.quiet) (dated rt) gave o was last new) same_origin
    (subst (λ u. IsTurnIn (told ticks u.quiet) (dated rt) gave origin u last new) same_timer (datagrams, it)))) in
    (more n first last new turns one, subst (TakesTurns datagrams after last new) served counts)

-- the turns of a reception whose last attempt received a datagram
pub turns_then : {W : Type 0} → (IsOne : W → W → Type 0) (n before datagrams after : ℕ) (first last new : W) (attempt : Attempt) (len : ℕ) (from : SocketAddr) (room : List ℕ) (result : Result Arrival ReceiverFault)
    → attempt ≡ Received len from → TakesTurns datagrams after last new attempt → AreTurns IsOne n first last → datagrams ≡ since_turns n before
    → IfOk result (IsArrival room len from) → IfOk result (HadTurns IsOne before after first new)
turns_then IsOne n before datagrams after first last new attempt len from room (Ok (Datagram address octets)) received counts turns are is =
    let counted = subst (TakesTurns datagrams after last new) received counts in
    record {
      count = n;
      turns = subst (λ (w : _). AreTurns IsOne n first w) (sym counted.2) turns;
      counted = (subst (λ (k : ℕ). k < 64) are counted.0, counted.1 ∙ ap (λ (k : ℕ). k + 1) are);
    }
turns_then IsOne n before datagrams after first last new attempt len from room (Ok Quiet) received counts turns are is = elim is [ ]
turns_then IsOne n before datagrams after first last new attempt len from room (Err fault) received counts turns are is = tt

-- the turns of a reception whose wait is over
pub turns_over : {W : Type 0} → (IsOne : W → W → Type 0) (n before datagrams after : ℕ) (first last new : W) (attempt : Attempt)
    → attempt ≡ Over → TakesTurns datagrams after last new attempt → AreTurns IsOne n first last → datagrams ≡ since_turns n before
    → HadTurns IsOne before after first new Quiet
turns_over IsOne n before datagrams after first last new attempt over counts turns are =
    let counted = subst (TakesTurns datagrams after last new) over counts in
    record {
      count = n;
      turns = subst (λ (w : _). AreTurns IsOne n first w) (sym counted.1) turns;
      counted = counted.0 ∙ are;
    }

-- a turn by what a look for a datagram kept
pub served_is : {D W : Type 0} → (dated : D → Option Date → Type 0) (gave : W → Moment → ℕ → W → Type 0) (rt was_rt : D) (origin was_origin : Instant) (web was_web new : W) (datagrams was : ℕ)
    (Told : Instant → Type 0) (t : Timer) (now : Instant) (left : ℕ)
    → rt ≡ was_rt → origin ≡ was_origin → web ≡ was_web → datagrams ≡ was → left ≡ left_at t now → Told now → 0 < left_at t now
    → HadTurn (dated rt) gave origin web new now (wait_after datagrams left)
    → IsServed Told (HadTurn (dated was_rt) gave was_origin was_web new) was t
served_is dated gave rt was_rt origin was_origin web was_web new datagrams was Told t now left same_rt same_origin same_web same_count is_left told on had = record {
  now = now;
  told = told;
  left = on;
  turn = subst (λ d. HadTurn (dated d) gave was_origin was_web new now (wait_after was (left_at t now))) same_rt
      (subst (λ o. HadTurn (dated rt) gave o was_web new now (wait_after was (left_at t now))) same_origin
      (subst (λ w. HadTurn (dated rt) gave origin w new now (wait_after was (left_at t now))) same_web
      (subst (λ (n : ℕ). HadTurn (dated rt) gave origin web new now (wait_after n (left_at t now))) same_count
      (subst (λ (n : ℕ). HadTurn (dated rt) gave origin web new now (wait_after datagrams n)) is_left had))));
}
