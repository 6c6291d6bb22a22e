use Rattle.std.proofs.Common.{refl}
use Rattle.mon_page.specs.Page.{alarm_place}
use Rattle.mon_page.proofs.Chains.{ends, join}
use Rattle.mon_page.proofs.wrong.put_alarm_place.Goals as goal

pub returns : goal.returns
unfolding alarm_place
returns g c =
    let start = c.args.text.now.items in
    ends c.put_shown.result start _ _ _ _ _ (join start _ _ _ _ (join start _ _ _ _ (join start _ _ _ _ c.in_ok-extend_from_slice.ensures.items
    c.in_ok-put_device_words.ensures)
    c.in_ok-extend_from_slice-2.ensures.items)
    c.in_ok-put_interface_before.ensures)
    refl c.put_shown.ensures
