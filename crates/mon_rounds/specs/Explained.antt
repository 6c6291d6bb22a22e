-- Why an instance has no new sample though its target answers.
use Rattle.std.specs.Prelude.{ℕ, List, Option, Some, None, slice_get}
use Rattle.std.specs.Option.{option_and_then, option_map}
use Rattle.mon_board.specs.Board.{Board, window_of}
use Rattle.mon_board.specs.declared.instance.Watched.{Watched}
use Rattle.mon_reasons.specs.NewestDatagrams.{message_with}
use Rattle.mon_reasons.specs.Reason.{reason_of}
use Rattle.mon_reasons.specs.declared.newest_datagrams.Datagram.{Datagram}
use Rattle.mon_reasons.specs.declared.reason.Reason.{Reason}
use Rattle.mon_udp.specs.declared.addr.Addr.{Addr}
use Rattle.mon_window.specs.Top.{rising}
use Rattle.mon_rounds.specs.Freshness.{last_of}
use Rattle.mon_rounds.specs.declared.freshness.Freshness.{Freshness}
use Rattle.mon_rounds.specs.declared.freshness.InstanceAge.{InstanceAge}
use Rattle.mon_rounds.specs.declared.freshness.TargetAge.{TargetAge}

-- the address of the target that is polled for an instance, if there is one
abbrev pub address_for : List TargetAge → Option InstanceAge → Option Addr
address_for targets instance = option_and_then (λ i. option_and_then
    (λ number. option_map (λ t. t.address) (slice_get targets number)) i.target) instance

-- why the newest message from this address gave an instance of a board no sample newer than the one
-- that the board has
abbrev pub reason_from : List Datagram → Board → ℕ → Watched → Addr → Option Reason
reason_from datagrams b number watched from = reason_of watched
    (last_of (rising (window_of b number))) (message_with from watched.instance.name datagrams)

-- why the newest message of its target gave the instance of this number no sample newer than the
-- one that the board has
abbrev pub stale_reason : List Datagram → Freshness → Board → ℕ → Option Reason
stale_reason datagrams f b number =
    option_and_then (λ watched. option_and_then (reason_from datagrams b number watched)
    (address_for f.targets.items (slice_get f.instances.items number)))
    (slice_get b.watch.instances number)
