-- Datagrams appended one after another.
use Rattle.std.proofs.Common.{ℕ, ◌≡◌, List, [], ◌∷◌, ◌++◌, sym, ◌∙◌, ap, append_assoc}
use Rattle.mon_station.specs.declared.event.Outgoing.{Outgoing}
use Rattle.mon_station.specs.declared.event.To.{To}
use Rattle.mon_station.specs.declared.event.To.TheVariants as to
use Rattle.mon_world.specs.declared.sending.Datagram.{Datagram}
use Rattle.mon_world.specs.Sending.{to_peers, with_peer}

pub sends_one : (sent : List Datagram) (number : ℕ) (out : Outgoing) (rest : List Outgoing) (whole : List Datagram) → out.to ≡ to.Peer number
    → sent ++ to_peers (out ∷ rest) ≡ whole → (sent ++ record { to = number; octets = out.octets } ∷ []) ++ to_peers rest ≡ whole
sends_one sent number out rest whole is was =
    append_assoc sent (record { to = number; octets = out.octets } ∷ []) (to_peers rest)
    ∙ ap (λ (l : List Datagram). sent ++ l) (sym (ap (λ (t : To). with_peer t out.octets (to_peers rest)) is))
    ∙ was

pub sends_none : (sent : List Datagram) (number : ℕ) (out : Outgoing) (rest : List Outgoing) (whole : List Datagram) → out.to ≡ to.Target number
    → sent ++ to_peers (out ∷ rest) ≡ whole → sent ++ to_peers rest ≡ whole
sends_none sent number out rest whole is was = ap (λ (l : List Datagram). sent ++ l) (sym (ap (λ (t : To). with_peer t out.octets (to_peers rest)) is)) ∙ was
