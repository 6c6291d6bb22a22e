-- The newest datagrams of targets, which a station's rounds keep.
use Rattle.std.specs.Prelude.{ℕ, zero, suc, ◌≡◌, ◌≤◌, ◌⊎◌, cond, List, ◌∷◌, length, Option, Some}
use Rattle.std.specs.Prelude.{None, Result, Ok, Err}
use Rattle.std.specs.List.{count_by}
use Rattle.mon_reasons.specs.NewestDatagrams.{datagrams_of, newest_of}
use Rattle.mon_reasons.specs.declared.newest_datagrams.Datagram.{Datagram}
use Rattle.mon_reasons.specs.declared.newest_datagrams.NewestDatagrams.{NewestDatagrams}
use Rattle.mon_station.specs.ReadEvent.{OwnedEvent}
use Rattle.mon_station.specs.declared.event.Event.TheVariants.{FromAgent}
use Rattle.mon_station.specs.declared.running.SourceFault.{SourceFault}
use Rattle.mon_udp.specs.Addr.{same_addr}
use Rattle.mon_udp.specs.Counts.{next_count}
use Rattle.mon_udp.specs.declared.addr.Addr.{Addr}
use Rattle.mon_rounds.specs.Next.{RoundState, stands_in}

-- the newest datagrams, the newest first, and how many were not kept since memory was refused
pub record Kept : Type 0 where
  pub datagrams : List Datagram
  pub unkept : ℕ

-- what is kept, as contracts see it
abbrev pub kept_in : NewestDatagrams → Kept
kept_in l = record { datagrams = l.datagrams.items; unkept = l.unkept }

-- how many of these addresses are this one
abbrev pub count_at : List Addr → Addr → ℕ
count_at addresses from = count_by (λ a. same_addr a from) addresses

-- of each address there are at most as many datagrams as targets at it
abbrev pub AreFew : List Datagram → List Addr → Type 0
AreFew datagrams targets = (from : Addr) → length (datagrams_of from datagrams)
    ≤ count_at targets from

-- how many datagrams of an address are kept: as many as targets have it, and none if a peer has it
abbrev pub most_kept : RoundState → Addr → ℕ
most_kept r from = cond (stands_in r.peer_addresses from) 0 (count_at r.targets from)

-- A datagram comes, of whose address at most this many are kept. If none is, all stays; else it is
-- the newest one and the oldest of its address are let go, or memory was refused for it, which is
-- counted.
abbrev pub KeepsNewest : ℕ → Datagram → (old new : Kept) → Type 0
KeepsNewest zero d old new = new ≡ old
KeepsNewest (suc n) d old new =
    (new ≡ record old { datagrams = newest_of d.from (suc n) (d ∷ old.datagrams) })
    ⊎ (new ≡ record old { unkept = next_count old.unkept })

-- What a call for the next event keeps: the datagram that it gives, if that is no peer's, as far as
-- its address has targets; else all stays.
abbrev pub KeepsGiven : RoundState → Result (Option OwnedEvent) SourceFault → (old new : Kept)
    → Type 0
KeepsGiven r (Ok (Some (FromAgent from octets))) old new = KeepsNewest (most_kept r from)
    (record { from = from; octets = octets }) old new
KeepsGiven r result old new = new ≡ old
