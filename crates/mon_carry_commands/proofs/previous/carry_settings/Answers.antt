use Rattle.std.proofs.Common.{List, ℕ, string_bytes, subst}
use Rattle.mon_host.specs.Log.{GoesOnBy}
use Rattle.mon_host.specs.Then.{Then}
use Rattle.mon_carry_commands.specs.Previous.{IsReplaced}
use Rattle.mon_carry_commands.specs.Side.{IsSide}
use Rattle.mon_carry_commands.specs.declared.side.Side.{Side}
use Rattle.mon_carry_commands.proofs.Steps.{follows, stopped}
use Rattle.mon_carry_commands.proofs.previous.carry_settings.Goals as goal

pub returns-in_err-new : goal.returns-in_err-new
returns-in_err-new g c =
    let saved = g.K.Saves.asked_save c.args.means.now.disks.now in
    let w = c.args.words in
    let ds = c.args.dropped.now in
    follows (IsSide w.old.now) (λ (old : Side). Then (IsSide w.new.now) (λ (new : Side). IsReplaced saved w.dry_run (string_bytes new.file) old.watch new.watch ds)) c.in_ok-old.old _
    (g.H.Host.log c.args.host.now) (g.H.Host.log c.read_side.new.host) _ c.in_ok-old.ensures
    (stopped (IsSide w.new.now) (λ (new : Side). IsReplaced saved w.dry_run (string_bytes new.file) c.in_ok-old.old.watch new.watch ds) c.in_err-new.field-0.0 _
    (g.H.Host.log c.read_side.new.host) _ c.from_residual-in_err-new.ensures.1 c.in_err-new.ensures)

pub returns : goal.returns
returns g c =
    let saved = g.K.Saves.asked_save c.args.means.now.disks.now in
    let w = c.args.words in
    let ds = c.args.dropped.now in
    let mid = g.H.Host.log c.read_side-2.new.host in
    let end = g.H.Host.log c.replace_standing.new.host in
    let old = c.in_ok-old.old in
    let new = c.in_ok-new.new in
    follows (IsSide w.old.now) (λ (old : Side). Then (IsSide w.new.now) (λ (new : Side). IsReplaced saved w.dry_run (string_bytes new.file) old.watch new.watch ds)) old c.replace_standing.result
    (g.H.Host.log c.args.host.now) (g.H.Host.log c.read_side.new.host) end c.in_ok-old.ensures
    (follows (IsSide w.new.now) (λ (new : Side). IsReplaced saved w.dry_run (string_bytes new.file) old.watch new.watch ds) new c.replace_standing.result
    (g.H.Host.log c.read_side.new.host) mid end c.in_ok-new.ensures
    (subst (λ (p : List ℕ). GoesOnBy (λ log. IsReplaced saved w.dry_run p old.watch new.watch ds log c.replace_standing.result) mid end) c.as_str-path.ensures.value c.replace_standing.ensures))
