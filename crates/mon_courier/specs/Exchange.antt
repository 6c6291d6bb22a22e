-- The request of a text, and what goes and comes in an attempt to deliver it.
use Rattle.std.specs.Prelude.{◌≡◌, ◌≢◌, ◌-◌, ℕ, zero, suc, Bool, true, false, List, [], ◌++◌}
use Rattle.std.specs.Prelude.{drop, length, take, Result, Ok, Err, if◌then◌else◌}
use Rattle.std.specs.IoError.{error_kind}
use Rattle.std.specs.declared.io.Error.{Error}
use Rattle.std.specs.declared.io.ErrorKind.{ErrorKind}
use Rattle.std.specs.declared.io.ErrorKind.TheVariants as kinds
use Rattle.mon_http_client.specs.Request.{post_text}
use Rattle.mon_http_client.specs.Response.{IsProgress}
use Rattle.mon_http_client.specs.declared.response.Progress.{Progress}
use Rattle.mon_http_client.specs.declared.response.Progress.TheVariants.{More, Refused, Response}
use Rattle.mon_courier.specs.declared.exchange.CallOutcome.{CallOutcome}
use Rattle.mon_courier.specs.declared.exchange.CallOutcome.TheVariants.{GoesOn, Stops}
use Rattle.mon_courier.specs.declared.exchange.Stop.{Stop}
use Rattle.mon_courier.specs.declared.exchange.Stop.TheVariants.{Waits, Fails, Responds}
use Rattle.mon_courier.specs.declared.news.Cause.TheVariants.{Send, Receive, Closed, NoResponse}

-- what a call did that passes octets: the stream before, the octets, its answer, the stream after
abbrev pub Call : Type 0 → Type 1
Call S = S → List ℕ → Result ℕ Error → S → Type 0

-- the host and the path of the receiver, the request in hand, what of it the stream did not take
-- yet, and what came of the response
pub record Parts : Type 0 where
  pub host : List ℕ
  pub path : List ℕ
  pub request : List ℕ
  pub unsent : List ℕ
  pub seen : List ℕ

-- no request yet, for a receiver
abbrev pub empty : (host path : List ℕ) → Parts
empty host path = record { host = host; path = path; request = []; unsent = []; seen = [] }

-- nothing of the request went, and nothing came
abbrev pub restarted : Parts → Parts
restarted e = record {
  host = e.host;
  path = e.path;
  request = e.request;
  unsent = e.request;
  seen = [];
}

-- the request is that of a text; nothing of it went, and nothing came
abbrev pub filled : List ℕ → Parts → Parts
filled text e = record {
  host = e.host;
  path = e.path;
  request = post_text e.host e.path text;
  unsent = post_text e.host e.path text;
  seen = [];
}

-- the stream took this many of the octets that were left
abbrev pub with_sent : ℕ → Parts → Parts
with_sent n e = record {
  host = e.host;
  path = e.path;
  request = e.request;
  unsent = drop n e.unsent;
  seen = e.seen;
}

-- these octets came so far
abbrev pub with_seen : List ℕ → Parts → Parts
with_seen seen e = record {
  host = e.host;
  path = e.path;
  request = e.request;
  unsent = e.unsent;
  seen = seen;
}

-- a call that failed so may succeed later: the stream is not ready or not yet connected, or a
-- signal came
abbrev pub is_early : ErrorKind → Bool
is_early kinds.WouldBlock = true
is_early kinds.Interrupted = true
is_early kinds.NotConnected = true
is_early _ = false

-- why calls end after octets could not be sent
abbrev pub sending_failed : ErrorKind → Stop
sending_failed kind = if is_early kind then Waits else Fails (Send kind)

-- why calls end after none could be received
abbrev pub receiving_failed : ErrorKind → Stop
receiving_failed kind = if is_early kind then Waits else Fails (Receive kind)

-- what is left after the stream's answer to an offer
abbrev pub after_offer : Result ℕ Error → Parts → Parts
after_offer (Ok n) e = with_sent n e
after_offer (Err error) e = e

-- what an offer comes to: a stream that takes none of the octets is closed
abbrev pub after_sending : Result ℕ Error → CallOutcome
after_sending (Ok zero) = Stops (Fails Closed)
after_sending (Ok (suc n)) = GoesOn
after_sending (Err error) = Stops (sending_failed (error_kind error))

-- The stream was offered all that is left of the request, and what it took is not left any more.
pub record IsSending {S : Type 0} (Wrote : Call S) (old : S) (before : Parts) (new : S)
    (after : Parts) (step : CallOutcome) : Type 0 where
  pub answer : Result ℕ Error
  pub asked : Wrote old before.unsent answer new
  pub left : after ≡ after_offer answer before
  pub step_is : step ≡ after_sending answer

-- the octets that came by the stream's answer: the first of the buffer
abbrev pub given : List ℕ → Result ℕ Error → List ℕ
given buffer (Ok n) = take n buffer
given buffer (Err error) = []

-- The stream was asked for octets, as many as there is capacity for: 8,192 in all. Just those that
-- it gave came.
pub record IsPiece {S : Type 0} (Read : Call S) (old : S) (before : List ℕ) (new : S)
    (after : List ℕ) (answer : Result ℕ Error) : Type 0 where
  pub buffer : List ℕ
  pub size : length buffer ≡ 8192 - length before
  pub asked : Read old buffer answer new
  pub came : after ≡ before ++ given buffer answer

-- what octets of a response come to
abbrev pub after_octets : Progress → CallOutcome
after_octets More = GoesOn
after_octets (Response status len) = Stops (Responds status)
after_octets Refused = Stops (Fails NoResponse)

-- what an answer to a read comes to, where these octets came so far
abbrev pub IsAfterReading : Result ℕ Error → List ℕ → CallOutcome → Type 0
IsAfterReading (Ok zero) seen step = step ≡ Stops (Fails Closed)
IsAfterReading (Ok (suc n)) seen step =
    (progress : Progress) × IsProgress seen progress × (step ≡ after_octets progress)
IsAfterReading (Err error) seen step = step ≡ Stops (receiving_failed (error_kind error))

-- The stream was asked for octets of the response, and all that came is judged.
pub record IsReceiving {S : Type 0} (Read : Call S) (old : S) (before : Parts) (new : S)
    (after : Parts) (step : CallOutcome) : Type 0 where
  pub answer : Result ℕ Error
  pub seen : List ℕ
  pub piece : IsPiece Read old before.seen new seen answer
  pub came : after ≡ with_seen seen before
  pub judged : IsAfterReading answer seen step

-- One call of the stream: as long as something of the request is left, that is sent. Only then
-- octets of the response are received.
pub data IsStep {S : Type 0} (Wrote Read : Call S) (old : S) (before : Parts) (new : S)
    (after : Parts) (step : CallOutcome) : Type 0 where
  sends : before.unsent ≢ [] → IsSending Wrote old before new after step
      → IsStep Wrote Read old before new after step
  receives : before.unsent ≡ [] → IsReceiving Read old before new after step
      → IsStep Wrote Read old before new after step

-- The calls of a turn, at most this many: one after another, until one stops.
pub data AreSteps {S : Type 0} (Wrote Read : Call S)
    : ℕ → S → Parts → S → Parts → Stop → Type 0 where
  spent : (s : S) (e : Parts) → AreSteps Wrote Read 0 s e s e Waits
  stops : (left : ℕ) (s t : S) (e f : Parts) (stop : Stop)
      → IsStep Wrote Read s e t f (Stops stop)
      → AreSteps Wrote Read (suc left) s e t f stop
  goes_on : (left : ℕ) (s t u : S) (e f g : Parts) (stop : Stop)
      → IsStep Wrote Read s e t f GoesOn → AreSteps Wrote Read left t f u g stop
      → AreSteps Wrote Read (suc left) s e u g stop
