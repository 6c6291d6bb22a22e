use Rattle.mon_exchange.proofs.Pieces.{all_but_last, each_sized, whole_again}
use Rattle.mon_exchange.proofs.laws.cut_pieces.Goals as goal

pub returns : goal.returns
returns c = record { whole = whole_again; each = each_sized; full = all_but_last }
