use Rattle.std.proofs.Common.{refl}
use Rattle.mon_page.specs.Page.{device_sections}
use Rattle.mon_page.proofs.Chains.{ends}
use Rattle.mon_page.proofs.section.put_sections.Goals as goal

pub returns : goal.returns
unfolding device_sections
returns g c =
    let start = c.args.text.now.items in
    ends c.put_all.result start _ _ _ _ _ c.in_ok-extend_from_slice.ensures.items
    refl c.put_all.ensures
