use Rattle.mon_page.specs.Page.{section_text}
use Rattle.mon_page.proofs.Chains.{join, written}
use Rattle.mon_page.proofs.section.put_section.Goals as goal

pub returns : goal.returns
unfolding section_text
returns g c =
    let start = c.args.text.now.items in
    written c.extend_from_slice.result start _ _ _ _ (join start _ _ _ _ (join start _ _ _ _ (join start _ _ _ _ c.in_ok-put_start.ensures
    c.in_ok-put_line.ensures)
    c.in_ok-put_device_interfaces.ensures)
    c.in_ok-put_device_others.ensures)
    c.extend_from_slice.ensures.items
