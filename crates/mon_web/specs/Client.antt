-- What a client's turn does: what its stream was asked, what its connection then holds, and what
-- the turn comes to.
use Rattle.std.specs.Prelude.{◌≡◌, ◌≢◌, ℕ, zero, suc, Bool, true, false, List, [], ◌∷◌, Result, Ok}
use Rattle.std.specs.Prelude.{Err}
use Rattle.std.specs.IoError.{error_kind}
use Rattle.std.specs.declared.io.Error.{Error}
use Rattle.std.specs.declared.io.ErrorKind.{ErrorKind}
use Rattle.std.specs.declared.io.ErrorKind.TheVariants as kinds
use Rattle.mon_http.specs.Conversation.{Conversation}
use Rattle.mon_http.specs.Request.{IsJudged, IsQuiet}
use Rattle.mon_http.specs.declared.request.Verdict.{Verdict}
use Rattle.mon_web.specs.Response.{IsResponse}
use Rattle.mon_web.specs.Pages.{View}
use Rattle.mon_web.specs.Stream.{IsReceived, IsSent, part_of, read_into}
use Rattle.mon_web.specs.declared.client.Client.{Client}
use Rattle.mon_web.specs.declared.client.Turn.{Turn}
use Rattle.mon_web.specs.declared.client.Turn.TheVariants.{Waits, GoesOn, Begins, Ends}
use Rattle.mon_web.specs.declared.response.Moment.{Moment}
use Rattle.mon_web.specs.declared.slot.Stage.TheVariants.{Idle, Sending, Closing}

-- what a call did that passes octets: the stream before, the octets, its answer, the stream after
abbrev pub Call : Type 0 → Type 1
Call S = S → List ℕ → Result ℕ Error → S → Type 0

-- what a call did that ends what a stream sends: the stream before, its answer, the stream after
abbrev pub End : Type 0 → Type 1
End S = S → Result Unit Error → S → Type 0

-- What a turn comes to after an error of the stream: a stream that is not ready is waited for, a
-- call that a signal interrupted is made again, and else the client is gone.
abbrev pub after_error : ErrorKind → Turn
after_error kinds.WouldBlock = Waits
after_error kinds.Interrupted = GoesOn
after_error _ = Ends

-- what a turn comes to after a read: the stream's end is that of the client
abbrev pub after_reading : Result ℕ Error → Turn
after_reading (Ok zero) = Ends
after_reading (Ok (suc n)) = GoesOn
after_reading (Err error) = after_error (error_kind error)

-- what a turn comes to after the stream was asked to end what it sends
abbrev pub after_ending : Result Unit Error → Turn
after_ending (Ok done) = Begins Closing
after_ending (Err error) = Ends

-- What follows where the stream took what it was offered. If more is pending, that is sent in a
-- further turn. Else a further request is waited for; or of a connection that closes, the stream
-- was asked to end what it sends.
abbrev pub IsAfterSending : {S : Type 0} → (Ended : End S) → (unsent : List ℕ) → (closing : Bool)
    → (between new : S) → Turn → Type 0
IsAfterSending Ended (octet ∷ unsent) closing between new turn =
    (new ≡ between) × (turn ≡ GoesOn)
IsAfterSending Ended [] false between new turn = (new ≡ between) × (turn ≡ Begins Idle)
IsAfterSending Ended [] true between new turn =
    (answer : Result Unit Error) × Ended between answer new × (turn ≡ after_ending answer)

-- what follows the stream's answer to an offer, by what the connection then holds
abbrev pub IsAfterOffer : {S : Type 0} → (Ended : End S) → Result ℕ Error → Conversation
    → (between new : S) → Turn → Type 0
IsAfterOffer Ended (Ok n) c between new turn =
    IsAfterSending Ended c.unsent c.closing between new turn
IsAfterOffer Ended (Err error) c between new turn =
    (new ≡ between) × (turn ≡ after_error (error_kind error))

-- The stream was asked to send the first of what is pending, and what it took is not pending any
-- more.
pub record IsSending {S : Type 0} (Wrote : Call S) (Ended : End S) (old new : Client S)
    (turn : Turn) : Type 0 where
  pub answer : Result ℕ Error
  pub between : S
  pub asked : Wrote old.stream (part_of old.connection.unsent) answer between
  pub sent : IsSent answer old.connection new.connection
  pub after : IsAfterOffer Ended answer new.connection between new.stream turn

-- The stream was asked for octets, and just those that it gave came.
pub record IsReading {S : Type 0} (Read : Call S) (buffer : List ℕ) (old new : Client S)
    (turn : Turn) : Type 0 where
  pub answer : Result ℕ Error
  pub asked : Read old.stream (read_into old.connection buffer) answer new.stream
  pub received : IsReceived answer buffer old.connection new.connection
  pub after : turn ≡ after_reading answer

-- The stream was asked for octets, and what it gave is not looked at.
pub record IsDraining {S : Type 0} (Read : Call S) (buffer : List ℕ) (old new : Client S)
    (turn : Turn) : Type 0 where
  pub answer : Result ℕ Error
  pub asked : Read old.stream buffer answer new.stream
  pub kept : new.connection ≡ old.connection
  pub after : turn ≡ after_reading answer

-- What came was answered by what the pages show at this time, and the stream was asked nothing.
pub record IsAnswering {S : Type 0} (view : View) (at : Moment) (old new : Client S)
    (turn : Turn) : Type 0 where
  pub answered : IsResponse view at old.connection true new.connection
  pub kept : new.stream ≡ old.stream
  pub after : turn ≡ Begins Sending

-- There was no memory for a response to what came: nothing changes, and the client is gone.
pub record IsGivenUp {S : Type 0} (view : View) (old new : Client S) (turn : Turn) : Type 0 where
  pub verdict : Verdict
  pub judged : IsJudged view.names old.connection.unread verdict
  pub kept : (new.stream ≡ old.stream) × (new.connection ≡ old.connection)
  pub after : turn ≡ Ends

-- A client's turn. Where something is pending, a part of it is sent. Where the connection then
-- closes, what still comes is drained. Else what came is answered; or where that is no request yet,
-- more is read.
pub data IsTurn {S : Type 0} (Wrote Read : Call S) (Ended : End S) (view : View) (at : Moment)
    (buffer : List ℕ) (old new : Client S) (turn : Turn) : Type 0 where
  sends : old.connection.unsent ≢ []
      → IsSending Wrote Ended old new turn
      → IsTurn Wrote Read Ended view at buffer old new turn
  drains : old.connection.unsent ≡ [] → old.connection.closing ≡ true
      → IsDraining Read buffer old new turn
      → IsTurn Wrote Read Ended view at buffer old new turn
  answers : old.connection.unsent ≡ [] → old.connection.closing ≡ false
      → IsAnswering view at old new turn
      → IsTurn Wrote Read Ended view at buffer old new turn
  reads : old.connection.unsent ≡ [] → old.connection.closing ≡ false
      → IsQuiet old.connection.unread → IsReading Read buffer old new turn
      → IsTurn Wrote Read Ended view at buffer old new turn
  gives_up : old.connection.unsent ≡ [] → old.connection.closing ≡ false
      → IsGivenUp view old new turn
      → IsTurn Wrote Read Ended view at buffer old new turn
