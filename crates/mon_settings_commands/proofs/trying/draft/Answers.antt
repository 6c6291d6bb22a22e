use Rattle.std.proofs.Common.{subst, sym}
use Rattle.mon_settings_commands.specs.Fitting.{IsDraft}
use Rattle.mon_settings_commands.specs.Source.{source_in}
use Rattle.mon_settings_commands.specs.declared.trying.Wish.{Wish}
use Rattle.mon_settings_commands.proofs.trying.draft.Goals as goal

pub returns-in-New : goal.returns-in-New
returns-in-New c = subst (λ (w : Wish). IsDraft (source_in c.args.input.now) w c.args.size c.settings_of.result) (sym c.in-New.is) c.settings_of.ensures

pub returns-in-Longer : goal.returns-in-Longer
returns-in-Longer c = subst (λ (w : Wish). IsDraft (source_in c.args.input.now) w c.args.size c.appended.result) (sym c.in-Longer.is) c.appended.ensures

pub returns-in-Updated : goal.returns-in-Updated
returns-in-Updated c = subst (λ (w : Wish). IsDraft (source_in c.args.input.now) w c.args.size c.updated.result) (sym c.in-Updated.is) c.updated.ensures

pub returns-in-Placed : goal.returns-in-Placed
returns-in-Placed c = subst (λ (w : Wish). IsDraft (source_in c.args.input.now) w c.args.size c.seat_settings.result) (sym c.in-Placed.is) c.seat_settings.ensures
