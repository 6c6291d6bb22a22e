-- Addresses of UDP over IPv4, and how they are written.
use Rattle.std.specs.Prelude.{◌≡◌, ℕ, Bool, ◌&&◌, ◌==◌, List, ◌++◌, Option, Some, None, codes}
use Rattle.std.specs.Prelude.{decimal, option_map}
use Rattle.std.specs.Net.Addr.{ipv4_octets}
use Rattle.std.specs.Net.Grammar.{IsDotted, IsPortText}
use Rattle.std.specs.Net.Reader.{read_socket_v4, whole_value}
use Rattle.std.specs.Net.Socket.{v4_ip, v4_port}
use Rattle.std.specs.Net.Text.{ipv4_text}
use Rattle.std.specs.Str.{bytes_eq}
use Rattle.std.specs.declared.net.socket_addr.SocketAddr.{SocketAddr}
use Rattle.std.specs.declared.net.socket_addr.SocketAddr.TheVariants.{V4, V6}
use Rattle.mon_udp.specs.declared.addr.Addr.{Addr}

-- four decimal numbers with dots between them, a colon, and the port
abbrev pub IsAddrText : List ℕ → Addr → Type 0
IsAddrText text a = (ip port : List ℕ) × (text ≡ ip ++ port) × IsDotted ip a.octets
    × IsPortText port a.port

-- the address that a text writes
abbrev pub addr_of : List ℕ → Option Addr
addr_of text = option_map (λ p. record { octets = p.0; port = p.1 })
    (whole_value (read_socket_v4 text))

-- how an address is printed: its octets as decimal numbers with dots between them, a colon, the
-- port
abbrev pub addr_text : Addr → List ℕ
addr_text a = ipv4_text a.octets ++ codes ":" ++ decimal a.port

-- the address that the system's means; none of IPv6
abbrev pub addr_in : SocketAddr → Option Addr
addr_in (V4 a) = Some (record { octets = ipv4_octets (v4_ip a); port = v4_port a })
addr_in (V6 a) = None

-- whether two addresses are equal
abbrev pub same_addr : Addr → Addr → Bool
same_addr a b = bytes_eq a.octets b.octets && (a.port == b.port)
