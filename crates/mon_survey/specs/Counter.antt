-- The counters of an interface (RFC 2863 section 6).
use Rattle.std.specs.Prelude.{ℕ, Bool, List, [], ◌∷◌, codes, if◌then◌else◌}
use Rattle.mon_survey.specs.declared.column.Column.{Column}
use Rattle.mon_survey.specs.declared.column.Column.TheVariants.{If, IfX}
use Rattle.mon_survey.specs.declared.counter.Counter.{Counter}
use Rattle.mon_survey.specs.declared.counter.Counter.TheVariants.{
  InOctets,
  OutOctets,
  InPackets,
  OutPackets,
  InMulticasts,
  OutMulticasts,
  InBroadcasts,
  OutBroadcasts,
  InErrors,
  OutErrors,
  InDiscards,
  OutDiscards,
}
use Rattle.mon_survey.specs.declared.counter.Kind.{Kind}
use Rattle.mon_survey.specs.declared.counter.Kind.TheVariants.{Octets, Packets, Errors, Discards}

-- all counters, in the order in which they are polled
abbrev pub every : List Counter
every = InOctets ∷ OutOctets ∷ InPackets ∷ OutPackets ∷ InMulticasts ∷ OutMulticasts ∷ InBroadcasts
    ∷ OutBroadcasts ∷ InErrors ∷ OutErrors ∷ InDiscards ∷ OutDiscards ∷ []

-- what a counter counts
abbrev pub kind_of : Counter → Kind
kind_of InOctets = Octets
kind_of OutOctets = Octets
kind_of InPackets = Packets
kind_of OutPackets = Packets
kind_of InMulticasts = Packets
kind_of OutMulticasts = Packets
kind_of InBroadcasts = Packets
kind_of OutBroadcasts = Packets
kind_of InErrors = Errors
kind_of OutErrors = Errors
kind_of InDiscards = Discards
kind_of OutDiscards = Discards

-- the column of a counter, of 64 bits or of 32; errors and discards only have one of 32 bits
abbrev pub column_of : Counter → Bool → Column
column_of InOctets wide = if wide then IfX 6 else If 10
column_of OutOctets wide = if wide then IfX 10 else If 16
column_of InPackets wide = if wide then IfX 7 else If 11
column_of OutPackets wide = if wide then IfX 11 else If 17
column_of InMulticasts wide = if wide then IfX 8 else IfX 2
column_of OutMulticasts wide = if wide then IfX 12 else IfX 4
column_of InBroadcasts wide = if wide then IfX 9 else IfX 3
column_of OutBroadcasts wide = if wide then IfX 13 else IfX 5
column_of InErrors wide = If 14
column_of OutErrors wide = If 20
column_of InDiscards wide = If 13
column_of OutDiscards wide = If 19

-- the descriptor of that column
abbrev pub label_of : Counter → Bool → List ℕ
label_of InOctets wide = if wide then codes "ifHCInOctets" else codes "ifInOctets"
label_of OutOctets wide = if wide then codes "ifHCOutOctets" else codes "ifOutOctets"
label_of InPackets wide = if wide then codes "ifHCInUcastPkts" else codes "ifInUcastPkts"
label_of OutPackets wide = if wide then codes "ifHCOutUcastPkts" else codes "ifOutUcastPkts"
label_of InMulticasts wide = if wide then codes "ifHCInMulticastPkts" else codes "ifInMulticastPkts"
label_of OutMulticasts wide = if wide then codes "ifHCOutMulticastPkts"
    else codes "ifOutMulticastPkts"
label_of InBroadcasts wide = if wide then codes "ifHCInBroadcastPkts" else codes "ifInBroadcastPkts"
label_of OutBroadcasts wide = if wide then codes "ifHCOutBroadcastPkts"
    else codes "ifOutBroadcastPkts"
label_of InErrors wide = codes "ifInErrors"
label_of OutErrors wide = codes "ifOutErrors"
label_of InDiscards wide = codes "ifInDiscards"
label_of OutDiscards wide = codes "ifOutDiscards"
