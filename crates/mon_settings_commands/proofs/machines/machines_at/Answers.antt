use Rattle.std.proofs.Common.{List, ℕ, string_bytes, subst}
use Rattle.std.specs.Global.{Global}
use Rattle.std.specs.Prelude.{Ok, String}
use Rattle.mon_console.specs.Files.{IsText}
use Rattle.mon_host.specs.Then.{Quietly}
use Rattle.mon_host.proofs.Promised.{quietly, then_follows}
use Rattle.mon_settings_commands.specs.Network.{AreMachinesIn}
use Rattle.mon_settings_commands.proofs.machines.machines_at.Goals as goal

pub returns-clause-listed : goal.returns-clause-listed
returns-clause-listed g c =
    let before = g.H.Host.log c.args.host.now in
    let read = g.H.Host.log c.read_text.new.host in
    let text = c.in_ok-text.text in
    let path = c.args.path.now in
    let stations = c.args.stations in
    let r = c.machines_of.result in
    let listed = subst (λ (o : List ℕ). AreMachinesIn path stations o r) c.as_str.ensures.value c.machines_of.ensures.listed in
    then_follows (IsText path) (λ (t : String Global). Quietly (AreMachinesIn path stations (string_bytes t))) (Ok text) r before read read c.in_ok-text.ensures
    (quietly (AreMachinesIn path stations (string_bytes text)) r read listed)
