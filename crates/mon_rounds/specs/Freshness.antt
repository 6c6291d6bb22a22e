-- How long ago targets answered, peers sent something and instances had a new sample.
use Rattle.std.specs.Prelude.{ℕ, ◌≡◌, ◌≤◌, ◌+◌, ◌-◌, ◌/◌, ◌^◌, ◌==◌, ◌&&◌, min, nat_le, nat_lt}
use Rattle.std.specs.Prelude.{Bool, true, false, not, ◌||◌, if◌then◌else◌, List, [], ◌∷◌, Option}
use Rattle.std.specs.Prelude.{Some, None, filter, get_or, length, option_map, slice_get}
use Rattle.std.specs.List.{fold, list_any}
use Rattle.mon_sample.specs.Key.{boots_of, discontinuity_of, kind_of, sample_value, time_of}
use Rattle.mon_sample.specs.Kind.{kind_tag}
use Rattle.mon_board.specs.Board.{Board, window_of}
use Rattle.mon_window.specs.Top.{rising}
use Rattle.mon_udp.specs.Addr.{same_addr}
use Rattle.mon_udp.specs.declared.addr.Addr.{Addr}
use Rattle.mon_station.specs.declared.event.TargetStamp.{TargetStamp}
use Rattle.mon_poller.specs.declared.fault.ResponseFault.TheVariants.{Stray}
use Rattle.mon_station.specs.declared.fault.StationFault.{StationFault}
use Rattle.mon_station.specs.declared.fault.StationFault.TheVariants.{Response}
use Rattle.mon_rounds.specs.Clock.{clock_after, no_clock}
use Rattle.mon_rounds.specs.Totals.{counted_on}
use Rattle.mon_rounds.specs.declared.freshness.InstanceAge.{InstanceAge}
use Rattle.mon_rounds.specs.declared.freshness.PeerAge.{PeerAge}
use Rattle.mon_rounds.specs.declared.freshness.SampleFields.{SampleFields}
use Rattle.mon_rounds.specs.declared.freshness.TargetAge.{TargetAge}
use Rattle.mon_rounds.specs.declared.late.LateRow.{LateRow}
use Rattle.mon_rounds.specs.declared.reporting.Notice.{Notice}
use Rattle.mon_rounds.specs.declared.reporting.Notice.TheVariants as notice
use Rattle.mon_rounds.specs.declared.reporting.RoundReport.{RoundReport}
use Rattle.mon_rounds.specs.declared.round.Span.{Span}
use Rattle.mon_rounds.specs.declared.round.Span.TheVariants.{Round, Between}

-- a function of each element and its number, from this number on
abbrev pub numbered : {X Y : Type 0} → (ℕ → X → Y) → ℕ → List X → List Y
numbered f n [] = []
numbered f n (x ∷ xs) = f n x ∷ numbered f (n + 1) xs

-- ---- ages
-- one round more, at most 2^32 - 1; the time between two rounds makes nothing older
abbrev pub older : Span → ℕ → ℕ
older Round age = min (age + 1) (2 ^ 32 - 1)
older (Between milliseconds) age = age

-- an age after a round, or the time after it: 0 where there was something new, else older
abbrev pub age_after : Span → Bool → ℕ → ℕ
age_after span true age = 0
age_after span false age = older span age

-- ---- late datagrams
-- a row of no round
abbrev pub no_row : LateRow
no_row = record { rounds = 0; datagrams = 0; counted = false }

-- whether a datagram was refused since it responds to no open poll
abbrev pub is_stray : StationFault → Bool
is_stray (Response Stray) = true
is_stray _ = false

-- whether a notice is that of a late datagram from this address: one that responds to no open poll
abbrev pub is_late_from : Addr → Notice → Bool
is_late_from address (notice.BadResponse from fault) = is_stray fault && same_addr from address
is_late_from address (notice.GaveUp target) = false
is_late_from address (notice.NotPolled target fault) = false
is_late_from address (notice.Astray from) = false
is_late_from address (notice.BadClaim from fault) = false
is_late_from address (notice.NotShared peer fault) = false
is_late_from address (notice.NotSaved n) = false
is_late_from address (notice.NoMemory event) = false

-- how many late datagrams came from this address
abbrev pub late_from : Addr → List Notice → ℕ
late_from address notices = length (filter (is_late_from address) notices)

-- a row at the beginning of a round: it goes on if a late datagram came in the round before, or in
-- the time after it, and else ends
abbrev pub begun_row : LateRow → LateRow
begun_row row = if row.counted then record {
  rounds = row.rounds;
  datagrams = row.datagrams;
  counted
      = false;
} else no_row

-- a row with this many late datagrams more: the first ones of a round, or of the time after it,
-- make it one round longer
abbrev pub with_late : ℕ → LateRow → LateRow
with_late n row =
    if n == 0 then row
    else record {
      rounds = if row.counted then row.rounds else min (row.rounds + 1) (2 ^ 32 - 1);
      datagrams = counted_on row.datagrams n;
      counted = true;
    }

-- a row after a round, or the time after it, in which this many late datagrams came
abbrev pub late_after : Span → ℕ → LateRow → LateRow
late_after Round n row = with_late n (begun_row row)
late_after (Between milliseconds) n row = with_late n row

-- whether a target is late: late datagrams came from its address in three rounds one after another,
-- or more, each with the time after it, and the row goes on
abbrev pub is_late : TargetAge → Bool
is_late t = nat_le 3 t.late.rounds

-- a row after rounds and the spells between them, in their order, in each of which this many late
-- datagrams came
abbrev pub late_over : List (Span × ℕ) → LateRow → LateRow
late_over [] row = row
late_over ((span, n) ∷ spells) row = late_over spells (late_after span n row)

-- spells between two rounds, in which no late datagram came
abbrev pub AreQuiet : List (Span × ℕ) → Type 0
AreQuiet [] = Unit {0}
AreQuiet ((Round, n) ∷ spells) = ⊥
AreQuiet ((Between milliseconds, n) ∷ spells) = (n ≡ 0) × AreQuiet spells

-- how many of these are rounds
abbrev pub rounds_in : List (Span × ℕ) → ℕ
rounds_in [] = 0
rounds_in ((Round, n) ∷ spells) = rounds_in spells + 1
rounds_in ((Between milliseconds, n) ∷ spells) = rounds_in spells

-- ---- targets
-- at the station's start: nothing is known of the target of this number, at this address
abbrev pub new_target : ℕ → Addr → TargetAge
new_target number address = record {
  number = number;
  address = address;
  up = false;
  rounds = 0;
  answered = 0;
  given_up = 0;
  refusal = None;
  late = no_row;
  clock = no_clock;
}

-- whether a response that was taken answered a poll of the target of this number
abbrev pub has_answered : ℕ → List TargetStamp → Bool
has_answered number answered = list_any (λ stamp. stamp.target == number) answered

-- whether the last poll was answered: after a round, whether it was in that round; an answer may
-- come later, in the time after it
abbrev pub up_after : Span → Bool → Bool → Bool
up_after Round answered up = answered
up_after (Between milliseconds) answered up = answered || up

-- whether a notice is that of a poll of the target of this number that was given up
abbrev pub is_given_up_by : ℕ → Notice → Bool
is_given_up_by number (notice.GaveUp target) = target == number
is_given_up_by number (notice.NotPolled target fault) = false
is_given_up_by number (notice.BadResponse from fault) = false
is_given_up_by number (notice.Astray from) = false
is_given_up_by number (notice.BadClaim from fault) = false
is_given_up_by number (notice.NotShared peer fault) = false
is_given_up_by number (notice.NotSaved n) = false
is_given_up_by number (notice.NoMemory event) = false

-- how many polls of the target of this number were given up
abbrev pub gave_up_by : ℕ → List Notice → ℕ
gave_up_by number notices = length (filter (is_given_up_by number) notices)

-- why a response from this address was refused, by one notice more
abbrev pub refusal_with : Addr → Option StationFault → Notice → Option StationFault
refusal_with address before (notice.BadResponse from fault) = if same_addr from address
    then Some fault else before
refusal_with address before (notice.GaveUp target) = before
refusal_with address before (notice.Astray from) = before
refusal_with address before (notice.NotPolled target fault) = before
refusal_with address before (notice.BadClaim from fault) = before
refusal_with address before (notice.NotShared peer fault) = before
refusal_with address before (notice.NotSaved n) = before
refusal_with address before (notice.NoMemory event) = before

-- why the last refused response from this address was refused, if these notices have one
abbrev pub last_refusal : Addr → List Notice → Option StationFault
last_refusal address notices = fold (refusal_with address) None notices

-- why a target's last response was refused: by the last refusal of this round; where that has none,
-- an answer clears it
abbrev pub refusal_after : Bool → Option StationFault → Option StationFault → Option StationFault
refusal_after answered (Some fault) before = Some fault
refusal_after true None before = None
refusal_after false None before = before

-- a target that answered or did not, after a round, or the time after it, in which these responses
-- were taken, that has these notices and ended at this time
abbrev pub target_with : Span → Bool → List TargetStamp → List Notice → ℕ → TargetAge → TargetAge
target_with span answered responses notices now t = record {
  number = t.number;
  address = t.address;
  up = up_after span answered t.up;
  rounds = age_after span answered t.rounds;
  answered = if answered then now else t.answered;
  given_up = counted_on t.given_up (gave_up_by t.number notices);
  refusal = refusal_after answered (last_refusal t.address notices) t.refusal;
  late = late_after span (late_from t.address notices) t.late;
  clock = clock_after t.number responses t.clock;
}

-- a target after a round, or the time after it, of which this is reported and that ended at this
-- time
abbrev pub target_after : Span → RoundReport → ℕ → TargetAge → TargetAge
target_after span report now t = target_with span (has_answered t.number report.answered.items)
    report.answered.items report.notices.items now t

-- how many seconds before this time a target answered, or the station started
abbrev pub seconds_since : ℕ → TargetAge → ℕ
seconds_since now t = (now - t.answered) / 1000

-- ---- peers
-- at the station's start: nothing came from the peer of this slot and station number
abbrev pub new_peer : ℕ → ℕ → PeerAge
new_peer slot station = record {
  slot = slot;
  station = station;
  rounds = 0;
  offers = 0;
  counted =
      false;
  often = 0;
}

-- a count after one more, at most 2^32 - 1; it stays where that is not counted
abbrev pub count_on : ℕ → Bool → ℕ
count_on count true = min (count + 1) (2 ^ 32 - 1)
count_on count false = count

-- how many times between two rounds, one after another, a peer sent more often than once, after one
-- in which it sent in this many spells: one that has fewer than two starts the row again
abbrev pub row_after : ℕ → ℕ → ℕ
row_after offers row = if nat_lt offers 2 then 0 else min (row + 1) (2 ^ 32 - 1)

-- A peer from which something came or did not, after a round, or a spell of the time after it. A
-- spell in which something came is counted, except directly after a counted one: what a peer offers
-- at once may come in two. A round ends the time in which they are counted.
abbrev pub peer_with : Span → Bool → PeerAge → PeerAge
peer_with Round heard p = record {
  slot = p.slot;
  station = p.station;
  rounds = age_after Round heard p.rounds;
  offers = 0;
  counted = false;
  often = row_after p.offers p.often;
}
peer_with (Between milliseconds) heard p = record {
  slot = p.slot;
  station = p.station;
  rounds = age_after (Between milliseconds) heard p.rounds;
  offers = count_on p.offers (heard && not p.counted);
  counted = heard && not p.counted;
  often = p.often;
}

-- a peer after a round, or the time after it, of which this is reported
abbrev pub peer_after : Span → RoundReport → PeerAge → PeerAge
peer_after span report p = peer_with span (get_or report.heard.items p.slot false) p

-- a peer after rounds and spells between them, in their order, in each of which something came from
-- it or did not
abbrev pub peer_over : List (Span × Bool) → PeerAge → PeerAge
peer_over [] p = p
peer_over ((span, heard) ∷ spells) p = peer_over spells (peer_with span heard p)

-- in each time between two rounds at most one spell is counted of a peer
abbrev pub IsSeldom : List (Span × Bool) → PeerAge → Type 0
IsSeldom [] p = p.offers ≤ 1
IsSeldom ((span, heard) ∷ spells) p = (p.offers ≤ 1) × IsSeldom spells (peer_with span heard p)

-- ---- instances
-- the newest of samples, the oldest of which is first
abbrev pub last_of : List ℕ → Option ℕ
last_of items = slice_get items (length items - 1)

-- the fields of a sample
abbrev pub fields_of : ℕ → SampleFields
fields_of s = record {
  value = sample_value s;
  time = time_of s;
  boots = boots_of s;
  discontinuity = discontinuity_of s;
  tag = kind_tag (kind_of s);
}

-- the fields of the newest sample of the instance of this number, where there is one
abbrev pub newest_on : Board → ℕ → Option SampleFields
newest_on b number = if nat_lt number (length b.watch.instances)
    then option_map fields_of (last_of (rising (window_of b number))) else None

-- whether the fields of two samples are equal
abbrev pub have_same : SampleFields → SampleFields → Bool
have_same s t = (s.value == t.value) && ((s.time == t.time) && ((s.boots == t.boots)
    && ((s.discontinuity == t.discontinuity) && (s.tag == t.tag))))

-- whether two samples, or none, have equal fields
abbrev pub is_same : Option SampleFields → Option SampleFields → Bool
is_same None None = true
is_same None (Some t) = false
is_same (Some s) None = false
is_same (Some s) (Some t) = have_same s t

-- at the station's start: the newest sample of the instance of this number is known, and no round
-- went by without one
abbrev pub new_instance : Board → ℕ → Option ℕ → InstanceAge
new_instance b number target = record {
  number = number;
  target = target;
  newest = newest_on b
      number;
  rounds = 0;
}

-- the instances of a board at the station's start, each with the target that is polled for it
abbrev pub new_instances : List (Option ℕ) → Board → List InstanceAge
new_instances polled b = numbered (λ number watched. new_instance b number
    (get_or polled number None)) 0 b.watch.instances

-- an instance that has this newest sample after a round, or the time after it
abbrev pub instance_with : Span → Option SampleFields → InstanceAge → InstanceAge
instance_with span newest i = record {
  number = i.number;
  target = i.target;
  newest = newest;
  rounds
      = age_after span (not (is_same i.newest newest)) i.rounds;
}

-- an instance after a round, or the time after it, that left this board
abbrev pub instance_after : Span → Board → InstanceAge → InstanceAge
instance_after span b i = instance_with span (newest_on b i.number) i

-- ---- the station
-- how long the last round took, in milliseconds: the time between two rounds is none
abbrev pub length_after : Span → ℕ → ℕ → ℕ
length_after Round took before = took
length_after (Between milliseconds) took before = before

-- whether a round that took this long took longer than its interval, both in milliseconds; an
-- interval of 0 is none
abbrev pub is_overrun : (took interval : ℕ) → Bool
is_overrun took interval = nat_lt 0 interval && nat_lt interval took

-- how many rounds took longer than their interval, after one more round or the time between two
abbrev pub overruns_after : Span → (took interval before : ℕ) → ℕ
overruns_after Round took interval before = if is_overrun took interval then counted_on before 1
    else before
overruns_after (Between milliseconds) took interval before = before
