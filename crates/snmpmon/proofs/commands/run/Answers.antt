use Rattle.std.proofs.Common.{subst}
use Rattle.mon_cli.specs.Invocation.{IsWithin}
use Rattle.snmpmon.proofs.commands.run.Goals as goal

pub print_settings-requires : goal.print_settings-requires
print_settings-requires g c =
    let within = subst IsWithin c.in-Settings.is c.requires in
    record { some = within.4.0; few = within.4.1; first = within.5.0 }
