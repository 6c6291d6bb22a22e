use Rattle.std.proofs.Common.{List, ℕ, string_bytes, subst}
use Rattle.std.specs.Prelude.{Ok, Err}
use Rattle.mon_host.specs.Log.{GoesOnBy}
use Rattle.mon_host.specs.Then.{Quietly, Then}
use Rattle.mon_carry_commands.specs.Carry.{IsBetween}
use Rattle.mon_carry_commands.specs.Side.{AreApart, IsSide}
use Rattle.mon_carry_commands.specs.declared.side.Side.{Side}
use Rattle.mon_carry_commands.proofs.Steps.{follows, silent_stopped, silent_then, stopped}
use Rattle.mon_carry_commands.proofs.carry.carry_new.Goals as goal

pub returns-in_err-new : goal.returns-in_err-new
returns-in_err-new g c =
    let saved = g.K.Saves.asked_save c.args.means.now.disks.now in
    let w = c.args.words in
    let ds = c.args.dropped.now in
    let old = c.in_ok-old.old in
    let start = g.H.Host.log c.args.host.now in
    let mid = g.H.Host.log c.read_side.new.host in
    follows (IsSide w.old.now) (λ (old : Side). Then (IsSide w.new.now) (λ (new : Side). Then (Quietly (AreApart (string_bytes old.file) (string_bytes new.file))) (λ (done : Unit {0}). IsBetween saved w.dry_run (string_bytes new.file) (string_bytes old.file) old.watch new.watch ds))) old _ start mid _ c.in_ok-old.ensures
    (stopped (IsSide w.new.now) (λ (new : Side). Then (Quietly (AreApart (string_bytes old.file) (string_bytes new.file))) (λ (done : Unit {0}). IsBetween saved w.dry_run (string_bytes new.file) (string_bytes old.file) old.watch new.watch ds)) c.in_err-new.field-0.0 _ mid _ c.from_residual-in_err-new.ensures.1 c.in_err-new.ensures)

pub returns-in_err-require_apart : goal.returns-in_err-require_apart
returns-in_err-require_apart g c =
    let saved = g.K.Saves.asked_save c.args.means.now.disks.now in
    let w = c.args.words in
    let ds = c.args.dropped.now in
    let old = c.in_ok-old.old in
    let start = g.H.Host.log c.args.host.now in
    let mid = g.H.Host.log c.read_side.new.host in
    let new = c.in_ok-new.new in
    let read = g.H.Host.log c.read_side-2.new.host in
    follows (IsSide w.old.now) (λ (old : Side). Then (IsSide w.new.now) (λ (new : Side). Then (Quietly (AreApart (string_bytes old.file) (string_bytes new.file))) (λ (done : Unit {0}). IsBetween saved w.dry_run (string_bytes new.file) (string_bytes old.file) old.watch new.watch ds))) old _ start mid _ c.in_ok-old.ensures
    (follows (IsSide w.new.now) (λ (new : Side). Then (Quietly (AreApart (string_bytes old.file) (string_bytes new.file))) (λ (done : Unit {0}). IsBetween saved w.dry_run (string_bytes new.file) (string_bytes old.file) old.watch new.watch ds)) new _ mid read _ c.in_ok-new.ensures
    (silent_stopped (AreApart (string_bytes old.file) (string_bytes new.file)) (λ (done : Unit {0}). IsBetween saved w.dry_run (string_bytes new.file) (string_bytes old.file) old.watch new.watch ds) c.in_err-require_apart.field-0.0 _ read c.from_residual-in_err-require_apart.ensures.1
    (subst (λ (p : List ℕ). AreApart p (string_bytes new.file) (Err c.in_err-require_apart.field-0.0)) c.as_str-from.ensures.value (subst (λ (p : List ℕ). AreApart c.as_str-from.result.now p (Err c.in_err-require_apart.field-0.0)) c.as_str-to.ensures.value c.in_err-require_apart.ensures))))

pub returns : goal.returns
returns g c =
    let saved = g.K.Saves.asked_save c.args.means.now.disks.now in
    let w = c.args.words in
    let ds = c.args.dropped.now in
    let old = c.in_ok-old.old in
    let start = g.H.Host.log c.args.host.now in
    let mid = g.H.Host.log c.read_side.new.host in
    let new = c.in_ok-new.new in
    let read = g.H.Host.log c.read_side-2.new.host in
    let end = g.H.Host.log c.carry_task.new.host in
    follows (IsSide w.old.now) (λ (old : Side). Then (IsSide w.new.now) (λ (new : Side). Then (Quietly (AreApart (string_bytes old.file) (string_bytes new.file))) (λ (done : Unit {0}). IsBetween saved w.dry_run (string_bytes new.file) (string_bytes old.file) old.watch new.watch ds))) old c.carry_task.result start mid end c.in_ok-old.ensures
    (follows (IsSide w.new.now) (λ (new : Side). Then (Quietly (AreApart (string_bytes old.file) (string_bytes new.file))) (λ (done : Unit {0}). IsBetween saved w.dry_run (string_bytes new.file) (string_bytes old.file) old.watch new.watch ds)) new c.carry_task.result mid read end c.in_ok-new.ensures
    (silent_then (AreApart (string_bytes old.file) (string_bytes new.file)) (λ (done : Unit {0}). IsBetween saved w.dry_run (string_bytes new.file) (string_bytes old.file) old.watch new.watch ds) c.in_ok-require_apart.field-0 c.carry_task.result read end
    (subst (λ (p : List ℕ). AreApart p (string_bytes new.file) (Ok c.in_ok-require_apart.field-0)) c.as_str-from.ensures.value (subst (λ (p : List ℕ). AreApart c.as_str-from.result.now p (Ok c.in_ok-require_apart.field-0)) c.as_str-to.ensures.value c.in_ok-require_apart.ensures))
    (subst (λ (p : List ℕ). GoesOnBy (λ log. IsBetween saved w.dry_run (string_bytes new.file) p old.watch new.watch ds log c.carry_task.result) read end) c.as_str-from.ensures.value
    (subst (λ (p : List ℕ). GoesOnBy (λ log. IsBetween saved w.dry_run p c.as_str-from.result.now old.watch new.watch ds log c.carry_task.result) read end) c.as_str-to.ensures.value c.carry_task.ensures))))
