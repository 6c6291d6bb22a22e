use Rattle.std.proofs.Common.{◌++◌}
use Rattle.std.specs.Prelude.{codes}
use Rattle.mon_console.proofs.Lines.{has_line, of_4, reads_as}
use Rattle.mon_console.proofs.failure.Failure.text.Goals as goal

pub returns : goal.returns
returns c =
    let place = c.args.place.now in
    let wanted = c.args.wanted.now in
    let text = place ++ codes ": " ++ wanted ++ codes " is wanted" in
    record {
      fault = c.said.ensures.fault;
      more = has_line c.format.result text c.said.result.more
          (reads_as c.format.result (place ++ (codes ": " ++ (wanted ++ codes " is wanted"))) text c.format.ensures.ok (of_4 place (codes ": ") wanted (codes " is wanted")))
          c.said.ensures.more;
      whole = c.said.ensures.whole;
    }
