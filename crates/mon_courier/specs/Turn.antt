-- What a courier does in a turn: what its stream was asked, what comes of it, and what is said.
use Rattle.std.specs.Prelude.{◌≡◌, ℕ, ◌-◌, Bool, true, false, nat_lt, Option, Some, None}
use Rattle.std.specs.Prelude.{Result, Ok, Err, if◌then◌else◌}
use Rattle.std.specs.IoError.{error_kind}
use Rattle.std.specs.declared.io.Error.{Error}
use Rattle.std.specs.declared.net.socket_addr.SocketAddr.{SocketAddr}
use Rattle.mon_udp.specs.Addr.{addr_in}
use Rattle.mon_udp.specs.declared.addr.Addr.{Addr}
use Rattle.mon_courier.specs.Courier.{State, delivered, failed, is_due, prepared, refused}
use Rattle.mon_courier.specs.Courier.{with_line, with_parts}
use Rattle.mon_courier.specs.Exchange.{AreSteps, Call, Parts}
use Rattle.mon_courier.specs.Plan.{delivery_news, failure_news}
use Rattle.mon_courier.specs.Verdict.{verdict_of}
use Rattle.mon_courier.specs.declared.courier.Line.{Line}
use Rattle.mon_courier.specs.declared.exchange.Stop.{Stop}
use Rattle.mon_courier.specs.declared.exchange.Stop.TheVariants.{Waits, Fails, Responds}
use Rattle.mon_courier.specs.declared.news.Cause.TheVariants as causes
use Rattle.mon_courier.specs.declared.news.News.{News}
use Rattle.mon_courier.specs.declared.news.News.TheVariants as news
use Rattle.mon_courier.specs.declared.verdict.Verdict.{Verdict}
use Rattle.mon_courier.specs.declared.verdict.Verdict.TheVariants.{Delivered, TriedAgain, Refused}

-- what a call did that connects: the address, and its answer
abbrev pub Connecting : Type 0 → Type 1
Connecting S = SocketAddr → Result S Error → Type 0

-- an attempt that started then has not taken 5 seconds yet
abbrev pub in_time : (now since : ℕ) → Bool
in_time now since = nat_lt (now - since) 5000

-- no response came yet: the attempt goes on over its connection, unless it took too long
abbrev pub waited : {S : Type 0} → ℕ → Line S → State S → State S
waited now line s = if in_time now line.since then with_line (Some line) s else failed now s

-- what is said where no response came yet
abbrev pub waited_news : (now since : ℕ) → Bool → Option News
waited_news now since failing =
    if in_time now since then None else failure_news causes.Silent failing

-- what a verdict makes of a courier
abbrev pub after_verdict : {S : Type 0} → Verdict → ℕ → State S → State S
after_verdict Delivered now s = delivered now s
after_verdict TriedAgain now s = failed now s
after_verdict Refused now s = refused now s

-- what is said of a verdict by this status
abbrev pub verdict_news : Verdict → ℕ → Bool → Option News
verdict_news Delivered status failing = delivery_news failing
verdict_news TriedAgain status failing = failure_news (causes.Status status) failing
verdict_news Refused status failing = Some (news.Refused status)

-- a response of this status came
abbrev pub judged : {S : Type 0} → ℕ → ℕ → State S → State S
judged now status s = after_verdict (verdict_of status) now s

-- what is said of a response of this status
abbrev pub judged_news : ℕ → Bool → Option News
judged_news status failing = verdict_news (verdict_of status) status failing

-- what the end of a turn's calls makes of a courier
abbrev pub settled : {S : Type 0} → Stop → ℕ → Line S → State S → State S
settled Waits now line s = waited now line s
settled (Fails cause) now line s = failed now s
settled (Responds status) now line s = judged now status s

-- what is said after a turn's calls
abbrev pub settled_news : Stop → (now since : ℕ) → Bool → Option News
settled_news Waits now since failing = waited_news now since failing
settled_news (Fails cause) now since failing = failure_news cause failing
settled_news (Responds status) now since failing = judged_news status failing

-- the connection that an attempt goes on over
abbrev pub line_of : {S : Type 0} → S → ℕ → Line S
line_of stream since = record { stream = stream; since = since }

-- An attempt that started then goes on: its stream is asked up to 32 times, and what comes of that
-- is taken note of.
pub record IsFlight {S : Type 0} (Wrote Read : Call S) (now : ℕ) (stream : S) (since : ℕ)
    (old new : State S) (said : Option News) : Type 0 where
  pub stream_after : S
  pub parts_after : Parts
  pub stop : Stop
  pub steps : AreSteps Wrote Read 32 stream old.parts stream_after parts_after stop
  pub state_is : new
      ≡ settled stop now (line_of stream_after since) (with_parts parts_after old)
  pub news_is : said ≡ settled_news stop now since old.plan.is_failing

-- the system was asked to connect a stream to this address, and answered this
abbrev pub IsConnecting : {S : Type 0} → Connecting S → Addr → Result S Error → Type 0
IsConnecting Connected address answer =
    (at : SocketAddr) × (addr_in at ≡ Some address) × Connected at answer

-- An attempt begins with the request of the text in hand, or else of the oldest text, which is
-- taken. The system is asked to connect to the receiver's address; that fails, or the attempt goes
-- on over the stream that it gave.
pub data IsBeginning {S : Type 0} (Connected : Connecting S) (Wrote Read : Call S) (now : ℕ)
    (old new : State S) (said : Option News) : Type 0 where
  fails : (error : Error) → IsConnecting Connected old.address (Err error)
      → new ≡ failed now (prepared old)
      → said ≡ failure_news (causes.Connect (error_kind error)) old.plan.is_failing
      → IsBeginning Connected Wrote Read now old new said
  flies : (stream : S) → IsConnecting Connected old.address (Ok stream)
      → IsFlight Wrote Read now stream now (prepared old) new said
      → IsBeginning Connected Wrote Read now old new said

-- Where no attempt goes on, the next begins if it is due. Else nothing is done.
pub data IsStart {S : Type 0} (Connected : Connecting S) (Wrote Read : Call S) (now : ℕ)
    (old new : State S) (said : Option News) : Type 0 where
  rests : is_due now old ≡ false → new ≡ old → said ≡ None
      → IsStart Connected Wrote Read now old new said
  begins : is_due now old ≡ true → IsBeginning Connected Wrote Read now old new said
      → IsStart Connected Wrote Read now old new said

-- what a turn does, by whether an attempt goes on
abbrev pub IsTurnWith : {S : Type 0} → Option (Line S) → Connecting S → (Wrote Read : Call S)
    → (now : ℕ) → (old new : State S) → Option News → Type 0
IsTurnWith (Some line) Connected Wrote Read now old new said =
    IsFlight Wrote Read now line.stream line.since (with_line None old) new said
IsTurnWith None Connected Wrote Read now old new said =
    IsStart Connected Wrote Read now old new said

-- A turn: the attempt that goes on does so; or the next begins, if it is due.
abbrev pub IsTurn : {S : Type 0} → Connecting S → (Wrote Read : Call S) → (now : ℕ)
    → (old new : State S) → Option News → Type 0
IsTurn Connected Wrote Read now old new said =
    IsTurnWith old.line Connected Wrote Read now old new said
