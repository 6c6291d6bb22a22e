use Rattle.std.proofs.Common.{◌∙◌, sym}
use Rattle.mon_page.specs.Plot.{limit_path}
use Rattle.mon_page.proofs.Chains.{join, unless, written}
use Rattle.mon_page.proofs.plot.put_limits.Goals as goal

pub returns : goal.returns
unfolding limit_path
returns c =
    let start = c.args.text.now.items in
    unless c.extend_from_slice-2.result _ _ start _ (sym c.is_empty.ensures ∙ c.if-is_empty.false) (written c.extend_from_slice-2.result start _ _ _ _ (join start _ _ _ _ c.in_ok-extend_from_slice.ensures.items
    c.in_ok-put_rules.ensures)
    c.extend_from_slice-2.ensures.items)
