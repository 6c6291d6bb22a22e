-- A connection, and what is answered to the octets that come on it.
use Rattle.std.specs.Prelude.{◌≡◌, ◌≤◌, ◌+◌, ◌⊎◌, ℕ, Bool, true, false, List, [], not, ◌++◌, take}
use Rattle.std.specs.Prelude.{drop, length, Option}
use Rattle.httpdate.specs.declared.date.HttpDate.{HttpDate as Date}
use Rattle.mon_http.specs.declared.route.Route.{Route}
use Rattle.mon_http.specs.declared.request.Request.{Request}
use Rattle.mon_http.specs.declared.request.Refusal.{Refusal}
use Rattle.mon_http.specs.declared.request.Verdict.{Verdict}
use Rattle.mon_http.specs.declared.request.Verdict.TheVariants.{Asked, Refused}
use Rattle.mon_http.specs.declared.step.StepOutcome.{StepOutcome}
use Rattle.mon_http.specs.declared.step.StepOutcome.TheVariants as St
use Rattle.mon_http.specs.Front.{skip_line_ends}
use Rattle.mon_http.specs.Request.{IsQuiet, IsJudged}
use Rattle.mon_http.specs.Response.{Reply, response_text, refusal_text}

-- what a connection holds: octets that came and were not answered, octets to be sent, and whether
-- it closes after them
pub record Conversation : Type 0 where
  pub unread : List ℕ
  pub unsent : List ℕ
  pub closing : Bool

-- a connection on which nothing came
abbrev pub start : Conversation
start = record { unread = []; unsent = []; closing = false }

-- more octets came
abbrev pub with_octets : List ℕ → Conversation → Conversation
with_octets octets c = record {
  unread = skip_line_ends (c.unread ++ octets);
  unsent = c.unsent;
  closing = c.closing;
}

-- the first n of the unsent octets were sent
abbrev pub with_sent : ℕ → Conversation → Conversation
with_sent n c = record { unread = c.unread; unsent = drop n c.unsent; closing = c.closing }

-- the head of this length was answered by this text
abbrev pub with_text : ℕ → Bool → List ℕ → Conversation → Conversation
with_text len keep_alive text c =
    record { unread = skip_line_ends (drop len c.unread); unsent = text; closing = not keep_alive }

-- the request was answered
abbrev pub with_reply : Option Date → Request → Reply → Conversation → Conversation
with_reply date request reply c = with_text request.len request.keep_alive
    (response_text date request reply) c

-- the head was refused
abbrev pub with_refusal : Option Date → Refusal → Conversation → Conversation
with_refusal date refusal c = with_text refusal.len refusal.keep_alive (refusal_text date refusal) c

-- what a step finds at the front of the octets, and does: only a refusal is answered at once
abbrev pub IsStep : List (List ℕ) → Option Date → Conversation → StepOutcome → Conversation → Type 0
IsStep names date old St.Wait new = IsQuiet old.unread × (new ≡ old)
IsStep names date old (St.Asked request) new = IsJudged names old.unread (Asked request)
    × (new ≡ old)
IsStep names date old St.Refused new =
    (refusal : Refusal) × IsJudged names old.unread (Refused refusal)
    × (new ≡ with_refusal date refusal old)

-- what the station answers at one time: the date, if it has a clock, and the reply for each route
pub record Moment : Type 0 where
  pub date : Option Date
  pub reply : Route → Reply

-- the response to what was judged
abbrev pub said : Moment → Verdict → List ℕ
said moment (Asked request) = response_text moment.date request (moment.reply request.route)
said moment (Refused refusal) = refusal_text moment.date refusal

-- the length of the head that was judged
abbrev pub len_of : Verdict → ℕ
len_of (Asked request) = request.len
len_of (Refused refusal) = refusal.len

-- the connection stays open after the response
abbrev pub keeps : Verdict → Bool
keeps (Asked request) = request.keep_alive
keeps (Refused refusal) = refusal.keep_alive

-- what is answered to a stream of octets, from the k-th head on, and whether the connection is
-- closed at the end. Response k is what the station answers at the time `moments k`
pub data Talk (names : List (List ℕ)) (moments : ℕ → Moment) : ℕ → List ℕ → List ℕ → Bool
    → Type 0 where
  quiet : (k : ℕ) (octets : List ℕ) → IsQuiet octets → Talk names moments k octets [] false
  closes : (k : ℕ) (octets : List ℕ) (v : Verdict) → IsJudged names octets v → keeps v ≡ false
      → Talk names moments k octets (said (moments k) v) true
  goes_on : (k : ℕ) (octets : List ℕ) (v : Verdict) (text : List ℕ) (closed : Bool)
      → IsJudged names octets v → keeps v ≡ true
      → Talk names moments (k + 1) (skip_line_ends (drop (len_of v) octets)) text closed
      → Talk names moments k octets (said (moments k) v ++ text) closed

-- a history of a connection: how many heads were answered, the octets that were received and sent,
-- and what it holds. Its steps are those of the methods of `Connection`
pub data History (names : List (List ℕ)) (moments : ℕ → Moment) : ℕ → List ℕ → List ℕ → Conversation
    → Type 0 where
  began : History names moments 0 [] [] start
  received : (k : ℕ) (received sent : List ℕ) (c : Conversation) (octets : List ℕ)
      → History names moments k received sent c
      → History names moments k (received ++ octets) sent (with_octets octets c)
  sent : (k : ℕ) (received sent : List ℕ) (c : Conversation) (n : ℕ)
      → History names moments k received sent c
      → n ≤ length c.unsent → History names moments k received (sent ++ take n c.unsent)
      (with_sent n c)
  answered : (k : ℕ) (received sent : List ℕ) (c : Conversation) (v : Verdict)
      → History names moments k received sent c
      → c.closing ≡ false → c.unsent ≡ [] → IsJudged names c.unread v
      → History names moments (k + 1) received sent (with_text (len_of v) (keeps v)
      (said (moments k) v) c)

-- nothing is left to be done with what came
abbrev pub IsAtRest : Conversation → Type 0
IsAtRest c = (c.closing ≡ true) ⊎ ((c.closing ≡ false) × IsQuiet c.unread)
