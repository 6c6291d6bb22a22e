-- Where peers are reached.
use Rattle.std.specs.Prelude.{ℕ, List, Option, Some, None, slice_get, ◌==◌}
use Rattle.std.specs.List.{position}
use Rattle.mon_udp.specs.declared.addr.Addr.{Addr}

-- the address at a place, where there is one
abbrev pub address_at : List Addr → Option ℕ → Option Addr
address_at addresses None = None
address_at addresses (Some place) = slice_get addresses place

-- the address at the first place of a number
abbrev pub peer_address : List ℕ → List Addr → ℕ → Option Addr
peer_address numbers addresses station = address_at addresses
    (position (λ number. number == station) numbers)
