use Rattle.std.proofs.Common.{◌≡◌, ℕ, List}
use Rattle.mon_saved.specs.declared.image.Image.{Image}
use Rattle.mon_saved.specs.Image.{SpellsImage}
use Rattle.mon_board.specs.Instance.{instances_of}
use Rattle.mon_station.specs.Verdict.{Setting}
use Rattle.mon_report.specs.Report.{report}
use Rattle.mon_station.proofs.Taken.{equal_windows, windows_taken}
use Rattle.mon_station.proofs.laws.taken.Goals as goal

pub returns : goal.returns
returns c =
    let one : (octets : List ℕ) (w : Setting) (a b : Image) → SpellsImage octets (instances_of w.watch.instances) a → SpellsImage octets (instances_of w.watch.instances) b → a ≡ b =
    λ octets w. c.one_image.ensures octets (instances_of w.watch.instances) in
    record {
      windows = windows_taken c.read_back.ensures.kept one;
      reports = λ some others s t took k. report (took.watch k) (λ i. equal_windows c.read_back.ensures.kept one some others s t took i k);
      equal = equal_windows c.read_back.ensures.kept one;
    }
