use Rattle.std.proofs.Common.{◌++◌, ◌∷◌, [], ◌∙◌, List, ℕ, string_bytes, subst}
use Rattle.std.specs.Prelude.{Ok}
use Rattle.mon_console.specs.Files.{IsWrite}
use Rattle.mon_host.specs.Log.{GoesOnBy}
use Rattle.mon_host.proofs.Promised.{then_follows, weaker}
use Rattle.mon_settings_commands.specs.Notes.{IsPrintNoted}
use Rattle.mon_settings_commands.specs.Source.{OrMemory}
use Rattle.mon_settings_commands.proofs.Turns.{or_memory}
use Rattle.mon_settings_commands.proofs.parts.write_named.Goals as goal

pub returns : goal.returns
returns g c =
    let before = g.H.Host.log c.args.host.now in
    let written = g.H.Host.log c.write_file.new.host in
    let end = g.H.Host.log c.print_noted.new.host in
    let path = c.args.path.now in
    let part = c.args.part.now in
    let r = c.print_noted.result in
    let line = path ++ 10 ∷ [] in
    let first = subst (λ (o : List ℕ). GoesOnBy (λ log. IsWrite path o log (Ok c.in_ok-write_file.field-0)) before written) c.as_bytes.ensures.value c.in_ok-write_file.ensures in
    let second = subst (λ (o : List ℕ). GoesOnBy (λ log. IsPrintNoted o path part.longest log r) written end) (c.as_bytes-2.ensures.value ∙ c.in_ok-line.ensures.ok) c.print_noted.ensures in
    then_follows (IsWrite path (string_bytes part.text)) (λ done. OrMemory (IsPrintNoted line path part.longest)) (Ok c.in_ok-write_file.field-0) r before written end first
    (weaker (λ log. IsPrintNoted line path part.longest log r) (λ log. OrMemory (IsPrintNoted line path part.longest) log r) written end
    (λ log holds. or_memory (IsPrintNoted line path part.longest) log r holds) second)
