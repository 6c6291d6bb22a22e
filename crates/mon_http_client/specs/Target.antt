-- The target that a URL names (RFC 9110, section 4.2.1; RFC 3986, section 3).
use Rattle.std.specs.Prelude.{ℕ, ◌-◌, Bool, ◌&&◌, ◌||◌, not, List, [], ◌∷◌, Option, Some, None}
use Rattle.std.specs.Prelude.{Result, Ok, Err, take, drop, length, codes, ◌==◌, bytes_eq, nat_lt}
use Rattle.std.specs.Prelude.{if◌then◌else◌}
use Rattle.std.specs.List.{list_any}
use Rattle.std.specs.Char.{is_ascii_alphanumeric, is_ascii_hexdigit}
use Rattle.mon_udp.specs.declared.addr.Addr.{Addr}
use Rattle.mon_udp.specs.Addr.{addr_of}
use Rattle.mon_http_client.specs.declared.target.TargetFault.{TargetFault}
use Rattle.mon_http_client.specs.declared.target.TargetFault.TheVariants.{Https, Scheme, UserInfo}
use Rattle.mon_http_client.specs.declared.target.TargetFault.TheVariants.{Ipv6, Address, Port}
use Rattle.mon_http_client.specs.declared.target.TargetFault.TheVariants.{Fragment, Path}

-- the octets before the first slash
abbrev pub before_slash : List ℕ → List ℕ
before_slash [] = []
before_slash (octet ∷ octets) = if octet == 47 then [] else octet ∷ before_slash octets

-- an octet of a path or a query by itself: an unreserved character, a sub-delimiter, `:` or `@`, a
-- slash or a question mark (RFC 3986, sections 2.2, 2.3, 3.3 and 3.4)
abbrev pub is_path_octet : ℕ → Bool
is_path_octet octet = is_ascii_alphanumeric octet || list_any (λ b. b == octet)
    (codes "-._~!$&'()*+,;=:@/?")

-- Octets of a path or a query, of which the first `owed` are hexadecimal digits after a percent
-- sign, which has two of them (RFC 3986, section 2.1).
abbrev pub passes : ℕ → List ℕ → Bool
passes owed [] = owed == 0
passes owed (octet ∷ octets) =
    if nat_lt 0 owed then is_ascii_hexdigit octet && passes (owed - 1) octets
    else if octet == 37 then passes 2 octets
    else is_path_octet octet && passes 0 octets

-- an address with a port that is not 0
abbrev pub with_port : Option Addr → Result Addr TargetFault
with_port None = Err Address
with_port (Some address) = if address.port == 0 then Err Port else Ok address

-- the address that is before the path (RFC 3986, section 3.2), or why there is none
abbrev pub address_in : List ℕ → Result Addr TargetFault
address_in host =
    if list_any (λ b. b == 64) host then Err UserInfo
    else if bytes_eq (take 1 host) (codes "[") then Err Ipv6
    else with_port (addr_of host)

-- a path, or "/" in place of an empty one (RFC 9112, section 3.2.1)
abbrev pub or_root : List ℕ → List ℕ
or_root [] = codes "/"
or_root (octet ∷ octets) = octet ∷ octets

-- the path and the query, or why they are none
abbrev pub path_in : List ℕ → Result (List ℕ) TargetFault
path_in rest =
    if list_any (λ b. b == 35) rest then Err Fragment
    else if not (passes 0 rest) then Err Path
    else Ok (or_root rest)

-- a host, its address, and a path
abbrev pub with_path : List ℕ → Addr → Result (List ℕ) TargetFault
    → Result (List ℕ × Addr × List ℕ) TargetFault
with_path host address (Ok path) = Ok (host, address, path)
with_path host address (Err fault) = Err fault

-- a host with its address, and the path of what follows it
abbrev pub with_address : List ℕ → Result Addr TargetFault → List ℕ
    → Result (List ℕ × Addr × List ℕ) TargetFault
with_address host (Ok address) rest = with_path host address (path_in rest)
with_address host (Err fault) rest = Err fault

-- host, address and path of what follows the scheme, or what is wrong first
abbrev pub target_in : List ℕ → Result (List ℕ × Addr × List ℕ) TargetFault
target_in rest =
    let host = before_slash rest in
    with_address host (address_in host) (drop (length host) rest)

-- host, address and path of a URL, or what is wrong first
abbrev pub target_of : List ℕ → Result (List ℕ × Addr × List ℕ) TargetFault
target_of text =
    if bytes_eq (take 8 text) (codes "https://") then Err Https
    else if not (bytes_eq (take 7 text) (codes "http://")) then Err Scheme
    else target_in (drop 7 text)
