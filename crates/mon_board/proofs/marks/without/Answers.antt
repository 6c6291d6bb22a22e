use Rattle.std.proofs.Common.{◌<◌, ◌^◌}
use Rattle.mon_board.proofs.Bits.{bit_cleared}
use Rattle.mon_board.proofs.marks.without.Goals as goal

pub returns : goal.returns
returns c = λ k. let fits : c.args.bits < 2 ^ 16 = c.ranges.bits.fits in bit_cleared c.args.slot c.requires k c.args.bits fits
