use Rattle.std.proofs.Common.{◌∙◌, sym}
use Rattle.mon_ber.proofs.Promised.{ok_is}
use Rattle.mon_saved.proofs.Images.{image_again}
use Rattle.mon_saved.proofs.laws.one_image.Goals as goal

pub returns : goal.returns
returns c = λ octets instances a b is other.
    ok_is a b (sym (image_again c.samples.ensures.again instances octets a is) ∙ image_again c.samples.ensures.again instances octets b other)
