use Rattle.mon_world.specs.Moves.{lives_of}
use Rattle.mon_world.specs.Places.{setting_at}
use Rattle.mon_world.proofs.Begun.{are_begun}
use Rattle.mon_world.proofs.laws.lives_start.Goals as goal

pub returns : goal.returns
returns c core count x moves are = are_begun c.one_image.ensures c.read_back.ensures.same c.taken.ensures.windows (setting_at core count x) (lives_of x moves) (are.lived x) (are.lives x)
