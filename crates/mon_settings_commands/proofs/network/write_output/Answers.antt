use Rattle.std.proofs.Common.{List, ℕ, string_bytes, subst}
use Rattle.std.specs.Prelude.{Err, Ok}
use Rattle.mon_console.specs.Files.{IsWrite}
use Rattle.mon_host.specs.Log.{GoesOnBy}
use Rattle.mon_host.proofs.Promised.{then_follows}
use Rattle.mon_settings_commands.specs.Network.{IsPathPrinted}
use Rattle.mon_settings_commands.specs.Source.{OrMemory}
use Rattle.mon_settings_commands.proofs.Turns.{fails}
use Rattle.mon_settings_commands.proofs.network.write_output.Goals as goal

pub returns : goal.returns
returns g c =
    let before = g.H.Host.log c.args.host.now in
    let written = g.H.Host.log c.write_file.new.host in
    let end = g.H.Host.log c.print_path.new.host in
    let x = c.args.output.now in
    let r = c.print_path.result in
    let done = c.in_ok-write_file.field-0 in
    let first = subst (λ (p : List ℕ). GoesOnBy (λ log. IsWrite p (string_bytes x.text) log (Ok done)) before written) c.as_str.ensures.value
    (subst (λ (o : List ℕ). GoesOnBy (λ log. IsWrite c.as_str.result.now o log (Ok done)) before written) c.as_bytes.ensures.value c.in_ok-write_file.ensures) in
    let second = subst (λ (p : List ℕ). GoesOnBy (λ log. OrMemory (IsPathPrinted p x.longest) log r) written end) c.as_str-2.ensures.value c.print_path.ensures in
    then_follows (IsWrite (string_bytes x.path) (string_bytes x.text)) (λ done. OrMemory (IsPathPrinted (string_bytes x.path) x.longest)) (Ok done) r before written end first second

pub returns-in_err-write_file : goal.returns-in_err-write_file
returns-in_err-write_file g c =
    let before = g.H.Host.log c.args.host.now in
    let written = g.H.Host.log c.write_file.new.host in
    let x = c.args.output.now in
    let failure = c.in_err-write_file.field-0.0 in
    let first = subst (λ (p : List ℕ). GoesOnBy (λ log. IsWrite p (string_bytes x.text) log (Err failure)) before written) c.as_str.ensures.value
    (subst (λ (o : List ℕ). GoesOnBy (λ log. IsWrite c.as_str.result.now o log (Err failure)) before written) c.as_bytes.ensures.value c.in_err-write_file.ensures) in
    fails (IsWrite (string_bytes x.path) (string_bytes x.text)) (λ done. OrMemory (IsPathPrinted (string_bytes x.path) x.longest)) failure c.from_residual.result before written c.from_residual.ensures.1 first
