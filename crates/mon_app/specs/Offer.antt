-- What a response offers: samples, each of one instance.
use Rattle.std.specs.Prelude.{ℕ}
use Rattle.mon_board.specs.declared.instance.Instance.{Instance}

-- a sample of an instance; the sample is the number that its record spells
pub record Offer : Type 0 where
  pub instance : Instance
  pub sample : ℕ
