-- What a running station says of troubles that begin or end.
use Rattle.std.specs.Prelude.{
  ◌≡◌,
  ◌≢◌,
  ◌+◌,
  ◌^◌,
  ◌-◌,
  ◌==◌,
  ◌&&◌,
  ℕ,
  zero,
  suc,
  min,
  nat_lt,
  Bool,
  true,
  false,
  if◌then◌else◌,
  List,
  [],
  ◌∷◌,
  ◌++◌,
  length,
  map,
  Option,
  Some,
  None,
  Result,
  Ok,
  Err,
  codes,
  decimal,
  slice_get,
  string_bytes,
  take,
}
use Rattle.std.specs.List.{list_any}
use Rattle.std.specs.Option.{option_and_then}
use Rattle.std.specs.Str.{bytes_eq}
use Rattle.std.specs.Global.{Vec}
use Rattle.std.specs.declared.alloc.AllocError.{AllocError}
use Rattle.hex.specs.Hex.{encode_lower}
use Rattle.mon_board.specs.declared.instance.Watched.{Watched}
use Rattle.mon_console.specs.Shown.{shown_by}
use Rattle.mon_formats.specs.Changes.{instance_text}
use Rattle.mon_host.specs.AtHost.{AtHost}
use Rattle.mon_host.specs.declared.level.Level.{Level}
use Rattle.mon_host.specs.declared.level.Level.TheVariants as level
use Rattle.mon_reasons.specs.NewestDatagrams.{other_engine}
use Rattle.mon_reasons.specs.Words.{reason_text}
use Rattle.mon_reasons.specs.declared.newest_datagrams.Datagram.{Datagram}
use Rattle.mon_reasons.specs.declared.reason.Reason.{Reason}
use Rattle.mon_rounds.specs.Explained.{stale_reason}
use Rattle.mon_rounds.specs.declared.changes.Change.{Change}
use Rattle.mon_rounds.specs.declared.changes.Trouble.{Trouble}
use Rattle.mon_rounds.specs.declared.changes.Trouble.TheVariants.{SilentTarget, OtherEngine}
use Rattle.mon_rounds.specs.declared.changes.Trouble.TheVariants.{LateTarget, SilentPeer}
use Rattle.mon_rounds.specs.declared.changes.Trouble.TheVariants.{OffersOften, StaleInstance}
use Rattle.mon_rounds.specs.declared.freshness.InstanceAge.{InstanceAge}
use Rattle.mon_rounds.specs.declared.freshness.PeerAge.{PeerAge}
use Rattle.mon_rounds.specs.declared.freshness.TargetAge.{TargetAge}
use Rattle.mon_station.specs.declared.fault.StationFault.{StationFault}
use Rattle.mon_file_commands.specs.Line.{AreNoted, Line, unstated}
use Rattle.mon_station_commands.specs.Telling.{plural, text_lines}
use Rattle.mon_station_commands.specs.declared.troubles.Facts.{Facts}
use Rattle.mon_station_commands.specs.declared.troubles.Key.{Key}
use Rattle.mon_udp.specs.Addr.{addr_text}

-- a text is this one; or, if that isn't known since a fault's words are in it, it is not empty
abbrev pub IsText : Option (List ℕ) → List ℕ → Type 0
IsText (Some known) text = text ≡ known
IsText None text = text ≢ []

-- a text begins with another one
abbrev pub BeginsWith : List ℕ → List ℕ → Type 0
BeginsWith begin text = (rest : List ℕ) × (text ≡ begin ++ rest)

-- the lines of a text about a round, if it is known; else one line
abbrev pub lines_of : Level → (round : ℕ) → Option (List ℕ) → List Line
lines_of level round (Some text) = text_lines level round text
lines_of level round None = unstated level ∷ []

-- which target it is, by its number from 1, and its address
abbrev pub target_text : TargetAge → List ℕ
target_text t = codes "target " ++ (decimal (t.number + 1) ++ (codes " at " ++ addr_text t.address))

-- what is said of a target that was silent, or is: its last response was refused, or there was none
abbrev pub no_answer_text : TargetAge → Option StationFault → Option (List ℕ)
no_answer_text t None = Some (target_text t ++ codes " gave up")
no_answer_text t (Some fault) = None

-- a target does not answer, or answers again
abbrev pub silent_text : (begins : Bool) → TargetAge → Option (List ℕ)
silent_text true t = no_answer_text t t.refusal
silent_text false t = Some (target_text t ++ codes " answers")

-- nothing is said of what is not there
abbrev pub text_if : {A : Type 0} → (A → Option (List ℕ)) → Option A → Option (List ℕ)
text_if says None = Some []
text_if says (Some a) = says a

-- what is said of a silent target, by a change
abbrev pub silent_at : Facts → Change → Option (List ℕ)
silent_at facts change =
    text_if (silent_text change.begins) (slice_get facts.freshness.now.targets.items change.number)

-- another engine answers in place of this one
abbrev pub other_text : (target other own : List ℕ) → List ℕ
other_text target other own =
    target ++ (codes " is engine " ++ (encode_lower other ++ (codes ", not " ++ own)))

-- a target's own engine answers again
abbrev pub own_text : (target own : List ℕ) → List ℕ
own_text target own = target ++ (codes " is engine " ++ (own ++ codes " again"))

-- another engine answers in place of a target's, if it is known which
abbrev pub other_if : (target own : List ℕ) → Option (List ℕ) → Option (List ℕ)
other_if target own None = Some []
other_if target own (Some other) = Some (other_text target other own)

-- another engine answers in place of a target's, or its own answers again
abbrev pub engine_text : List Datagram → TargetAge → (engine : List ℕ) → (begins : Bool)
    → Option (List ℕ)
engine_text latest t engine true =
    other_if (target_text t) (encode_lower engine) (other_engine t.address engine latest)
engine_text latest t engine false =
    Some (own_text (target_text t) (encode_lower engine))

-- what is said of a target and its engine id, if both are there
abbrev pub engine_if : List Datagram → (begins : Bool) → Option TargetAge → Option (Vec ℕ)
    → Option (List ℕ)
engine_if latest begins (Some t) (Some engine) = engine_text latest t engine.items begins
engine_if latest begins _ _ = Some []

-- what is said of the engine of a target, by a change
abbrev pub engine_at : Facts → Change → Option (List ℕ)
engine_at facts change = engine_if facts.latest.now.datagrams.items change.begins
    (slice_get facts.freshness.now.targets.items change.number)
    (slice_get facts.engines.now change.number)

-- what is said of a thing, nothing if it is not there
abbrev pub said_if : {A : Type 0} → (A → List ℕ) → Option A → Option (List ℕ)
said_if says None = Some []
said_if says (Some a) = Some (says a)

-- a target answers late, or in time again
abbrev pub late_text : (begins : Bool) → TargetAge → List ℕ
late_text true t = target_text t ++ (codes " answers late (" ++ (decimal t.late.datagrams
    ++ (codes " datagram" ++ (plural t.late.datagrams ++ (codes " in " ++ (decimal t.late.rounds
    ++ (codes " round" ++ (plural t.late.rounds ++ codes "): raise wait_ms"))))))))
late_text false t = target_text t ++ codes " answers in time again"

-- what is said of a target that is late, by a change
abbrev pub late_at : Facts → Change → Option (List ℕ)
late_at facts change = said_if (late_text change.begins) (slice_get
    facts.freshness.now.targets.items change.number)

-- nothing comes from a peer, or something does again
abbrev pub peer_text : (begins : Bool) → PeerAge → List ℕ
peer_text true p = codes "nothing came from station " ++ (decimal p.station
    ++ (codes " for " ++ (decimal p.rounds ++ (codes " round" ++ plural p.rounds))))
peer_text false p = codes "station " ++ decimal p.station ++ codes " sends again"

-- what is said of a silent peer, by a change
abbrev pub peer_at : Facts → Change → Option (List ℕ)
peer_at facts change =
    said_if (peer_text change.begins) (slice_get facts.freshness.now.peers.items change.number)

-- a peer offers more often than once an interval, or no longer does
abbrev pub offers_text : (begins : Bool) → (station : ℕ) → List ℕ
offers_text true station = codes "station " ++ decimal station
    ++ codes " offers more often than once an interval"
offers_text false station = codes "station " ++ decimal station
    ++ codes " offers once an interval again"

-- what is said of a peer that offers often, by a change
abbrev pub offers_at : Facts → Change → Option (List ℕ)
offers_at facts change = said_if (λ p. offers_text change.begins p.station)
    (slice_get facts.freshness.now.peers.items change.number)

-- ---- stale instances
-- a change, and by what others are said in one line with it: the target of a stale instance, and
-- why it is stale
pub record KeyText : Type 0 where
  pub change : Change
  pub target : Option ℕ
  pub words : List ℕ

-- what a key has
abbrev pub key_in : Key → KeyText
key_in k = record { change = k.change; target = k.target; words = string_bytes k.words }

-- the target that is polled for an instance, if the trouble is that it is stale
abbrev pub target_if : Trouble → Option InstanceAge → Option ℕ
target_if StaleInstance instance = option_and_then (λ i. i.target) instance
target_if _ instance = None

-- the target that is polled for the instance of a change
abbrev pub target_of : List InstanceAge → Change → Option ℕ
target_of instances change = target_if change.trouble (slice_get instances change.number)

-- why an instance becomes stale, as a line has it after its beginning
abbrev pub words_by : Option Reason → List ℕ
words_by None = codes ", though its target answers"
words_by (Some r) = codes ": " ++ reason_text r

-- these words, if the trouble is that an instance becomes stale
abbrev pub words_if : Trouble → (begins : Bool) → Option Reason → List ℕ
words_if StaleInstance true reason = words_by reason
words_if _ begins reason = []

-- why the instance of a change becomes stale, if it does
abbrev pub words_of : Facts → Change → List ℕ
words_of facts change = words_if change.trouble change.begins
    (stale_reason facts.latest.now.datagrams.items facts.freshness.now facts.board.now
    change.number)

-- the key of a change
abbrev pub key_of : Facts → Change → KeyText
key_of facts change = record {
  change = change;
  target = target_of facts.freshness.now.instances.items change;
  words = words_of facts change;
}

-- two targets are there, and are one
abbrev pub is_one_target : Option ℕ → Option ℕ → Bool
is_one_target (Some one) (Some other) = one == other
is_one_target _ _ = false

-- whether two changes are said in one line: instances of one target became stale for one reason, or
-- have new samples again
abbrev pub joins : KeyText → KeyText → Bool
joins one other = is_one_target one.target other.target && bytes_eq one.words other.words

-- how many changes are said in one line with this one, as far as 32 bits go
abbrev pub count_alike : List KeyText → KeyText → ℕ
count_alike [] key = 0
count_alike (k ∷ ks) key =
    if joins k key then min (count_alike ks key + 1) (2 ^ 32 - 1) else count_alike ks key

-- an instance has no new sample, and why, or it has one again
abbrev pub stale_text : (instance : List ℕ) → (begins : Bool) → (words : List ℕ) → List ℕ
stale_text instance true words = instance ++ codes " has no new sample" ++ words
stale_text instance false words = instance ++ codes " has a new sample again"

-- what is said of one stale instance
abbrev pub stale_one : Facts → KeyText → Option (List ℕ)
stale_one facts key = said_if (λ (w : Watched). stale_text
    (instance_text (shown_by facts.printing.now.names) w.instance) key.change.begins key.words)
    (slice_get facts.board.now.watch.instances key.change.number)

-- the beginning of the line of this many instances of a target
abbrev pub many_start : TargetAge → (alike : ℕ) → List ℕ
many_start t alike = target_text t ++ (codes ": " ++ decimal alike ++ codes " instances have ")

-- they have no new sample, and why, or they have new ones again
abbrev pub many_by : (start : List ℕ) → (begins : Bool) → (words : List ℕ) → List ℕ
many_by start true words = start ++ codes "no new sample" ++ words
many_by start false words = start ++ codes "new samples again"

-- what is said of this many stale instances of a target
abbrev pub many_text : TargetAge → KeyText → (alike : ℕ) → List ℕ
many_text t key alike = many_by (many_start t alike) key.change.begins key.words

-- the target of a number, if both are there
abbrev pub target_at : List TargetAge → Option ℕ → Option TargetAge
target_at targets number = option_and_then (λ n. slice_get targets n) number

-- what is said of this many stale instances of a target, if it is there
abbrev pub stale_many : Facts → KeyText → (alike : ℕ) → Option (List ℕ)
stale_many facts key alike = said_if (λ (t : TargetAge). many_text t key alike)
    (target_at facts.freshness.now.targets.items key.target)

-- what is said of a stale instance and those that are said with it
abbrev pub stale_at : Facts → KeyText → (alike : ℕ) → Option (List ℕ)
stale_at facts key alike = if nat_lt 1 alike then stale_many facts key alike
    else stale_one facts key

-- ---- all changes
-- what is said of a trouble that begins or ends
abbrev pub text_by : Trouble → Facts → KeyText → (alike : ℕ) → Option (List ℕ)
text_by SilentTarget facts key alike = silent_at facts key.change
text_by OtherEngine facts key alike = engine_at facts key.change
text_by LateTarget facts key alike = late_at facts key.change
text_by SilentPeer facts key alike = peer_at facts key.change
text_by OffersOften facts key alike = offers_at facts key.change
text_by StaleInstance facts key alike = stale_at facts key alike

-- what is said of a change, and of those that are said with it
abbrev pub key_text : Facts → KeyText → (alike : ℕ) → Option (List ℕ)
key_text facts key alike = text_by key.change.trouble facts key alike

-- what is said of a change, unless it is said with one before it
abbrev pub text_unless : (before : Bool) → Facts → List KeyText → KeyText → Option (List ℕ)
text_unless true facts keys key = Some []
text_unless false facts keys key = key_text facts key (count_alike keys key)

-- what is said of the change at a place, if there is one
abbrev pub text_of : Facts → List KeyText → (place : ℕ) → Option KeyText → Option (List ℕ)
text_of facts keys place None = Some []
text_of facts keys place (Some key) =
    text_unless (list_any (λ other. joins other key) (take place keys)) facts keys key

-- what is said of the change at a place
abbrev pub text_at : Facts → List KeyText → (place : ℕ) → Option (List ℕ)
text_at facts keys place = text_of facts keys place (slice_get keys place)

-- how grave a trouble is that begins, or that ends
abbrev pub trouble_level : (begins : Bool) → Level
trouble_level true = level.Warning
trouble_level false = level.Notice

-- how grave the change at a place is, if there is one
abbrev pub level_of : Option KeyText → Level
level_of None = level.Notice
level_of (Some key) = trouble_level key.change.begins

-- the lines of the changes before a place
abbrev pub lines_before : Facts → (round : ℕ) → List KeyText → (place : ℕ) → List Line
lines_before facts round keys zero = []
lines_before facts round keys (suc n) =
    lines_before facts round keys n
    ++ lines_of (level_of (slice_get keys n)) round (text_at facts keys n)

-- the lines of troubles that begin or end were sent to standard error
abbrev pub AreAllSaid : Facts → (round : ℕ) → List Change → List AtHost → Type 0
AreAllSaid facts round changes log =
    AreNoted (lines_before facts round (map (key_of facts) changes) (length changes)) log

-- some lines were sent to standard error
abbrev pub AreSomeSaid : List AtHost → Type 0
AreSomeSaid log = (lines : List Line) × AreNoted lines log

-- the lines of troubles were sent; some lines were, if memory ran out
abbrev pub AreTroublesSaid : Facts → (round : ℕ) → List Change → List AtHost
    → Result Unit AllocError
    → Type 0
AreTroublesSaid facts round changes log (Ok done) = AreAllSaid facts round changes log
AreTroublesSaid facts round changes log (Err fault) = AreSomeSaid log
