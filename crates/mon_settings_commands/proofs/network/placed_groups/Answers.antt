use Rattle.std.proofs.Common.{◌⊎◌, ◌∙◌, ◌<◌, ◌≤◌, ◌+◌, ℕ, arith, inl, inr, nat_le, sym}
use Rattle.std.proofs.lemmas.Bool.Decides.{nat_tests}
use Rattle.mon_console.specs.declared.failure.Failure.{Failure}
use Rattle.mon_settings_commands.specs.Network.{IsUnported}
use Rattle.mon_settings_commands.specs.Parts.{HasGroups, HasNoPlan}
use Rattle.mon_settings_commands.specs.Source.{source_in}
use Rattle.mon_settings_commands.proofs.Groups.{still}
use Rattle.mon_settings_commands.proofs.Seated.{are_placed, exceeds}
use Rattle.mon_settings_commands.proofs.network.placed_groups.Goals as goal

pub returns-in_err-groups-clause-refused : goal.returns-in_err-groups-clause-refused
returns-in_err-groups-clause-refused c =
    let s = source_in c.args.input.now in
    still (λ (f : Failure). HasNoPlan s f ⊎ ((groups : ℕ) × HasGroups s groups × IsUnported c.args.network groups f)) c.in_err-groups.field-0.0 c.from_residual.result c.from_residual.ensures.1 (inl c.in_err-groups.ensures.refused)

pub returns-then-not-have_ports-clause-refused : goal.returns-then-not-have_ports-clause-refused
returns-then-not-have_ports-clause-refused c =
    inr (c.in_ok-groups.groups, c.in_ok-groups.ensures.last, (exceeds (c.args.network.port + c.args.network.first + c.in_ok-groups.groups) 65537 (sym c.have_ports.ensures ∙ c.if-not-have_ports.true), c.unported_failure.ensures))

pub returns-clause-placed : goal.returns-clause-placed
returns-clause-placed c = are_placed c.args.network c.in_ok-groups.groups c.requires (sym c.have_ports.ensures ∙ c.if-not-have_ports.false)
