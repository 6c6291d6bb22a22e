use Rattle.std.proofs.Common.{refl, subst, sym}
use Rattle.mon_rounds.specs.declared.round.Span.{Span}
use Rattle.mon_station_commands.specs.Spans.{IsSavedAfter, is_round}
use Rattle.mon_station_commands.proofs.Accounts.{unsaved_by}
use Rattle.mon_station_commands.proofs.live.unsaved_after.Goals as goal

pub returns-in-Round : goal.returns-in-Round
returns-in-Round c = subst (λ (s : Span). IsSavedAfter (is_round s) c.args.report.now c.args.before c.save_fault.result) (sym c.in-Round.is)
    (unsaved_by _ _ c.save_fault.ensures.some c.save_fault.ensures.which)

pub returns-in-Between : goal.returns-in-Between
returns-in-Between c = subst (λ (s : Span). IsSavedAfter (is_round s) c.args.report.now c.args.before c.args.before) (sym c.in-Between.is) refl
