-- Rounds of which only the receiver was lent.
use Rattle.std.proofs.Common.{◌≡◌, ℕ}
use Rattle.std.proofs.Math.Bridge.{le_prop}
use Rattle.mon_reasons.specs.declared.newest_datagrams.NewestDatagrams.{NewestDatagrams}
use Rattle.mon_rounds.specs.Kept.{AreFew}
use Rattle.mon_rounds.specs.Next.{RoundState}
use Rattle.mon_rounds.specs.declared.receiver.Receiver.{Ghosts}
use Rattle.mon_rounds.specs.declared.source.Rounds.{Rounds}

module _ {R : Type 0} {G : Ghosts R} where
  -- two proofs that there are as few datagrams are equal, so rounds with equal fields are
  pub same_but_few : (round : RoundState) (receiver : R) (alloc : _) (latest : NewestDatagrams) (one other : AreFew latest.datagrams.items round.targets)
      → (let a : Rounds R G = record { round = round; receiver = receiver; alloc = alloc; latest = latest; few = one } in a) ≡ record { round = round; receiver = receiver; alloc = alloc; latest = latest; few = other }
  same_but_few round receiver alloc latest one other = λ i. record { round = round; receiver = receiver; alloc = alloc; latest = latest; few = λ from. le_prop (one from) (other from) i }
