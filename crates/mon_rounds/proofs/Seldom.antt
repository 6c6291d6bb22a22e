-- Peers that offer at most once an interval.
use Rattle.std.proofs.Common.{◌≡◌, ℕ, ◌+◌, ◌<◌, ◌≤◌, Bool, true, false, List, [], ◌∷◌, refl, sym, ap, subst, ◌∙◌, arith}
use Rattle.std.specs.Prelude.{◌-◌, ◌^◌, nat_le, nat_lt, min, if◌then◌else◌}
use Rattle.std.proofs.lemmas.Bool.Decides.{nat_tests}
use Rattle.mon_rounds.specs.Changes.{offers_often}
use Rattle.mon_rounds.specs.Freshness.{IsSeldom, peer_over, peer_with, row_after}
use Rattle.mon_rounds.specs.declared.freshness.PeerAge.{PeerAge}
use Rattle.mon_rounds.specs.declared.round.Span.{Span}
use Rattle.mon_rounds.specs.declared.round.Span.TheVariants.{Round, Between}

none_in_row : (offers row : ℕ) → offers ≤ 1 → row_after offers row ≡ 0
none_in_row offers row few = let less : nat_lt offers 2 ≡ true = grind (arith, nat_tests) in ap (λ b. if b then 0 else min (row + 1) (2 ^ 32 - 1)) less

still : (span : Span) (heard : Bool) (p : PeerAge) → p.offers ≤ 1 → p.often ≡ 0 → (peer_with span heard p).often ≡ 0
still Round heard p few none = none_in_row p.offers p.often few
still (Between milliseconds) heard p few none = none

pub unnamed : (spells : List (Span × Bool)) (p : PeerAge) → IsSeldom spells p → p.often ≡ 0 → offers_often (peer_over spells p) ≡ false
unnamed [] p seldom none = ap (nat_le 3) none
unnamed ((span, heard) ∷ spells) p seldom none = unnamed spells (peer_with span heard p) seldom.1 (still span heard p seldom.0 none)
