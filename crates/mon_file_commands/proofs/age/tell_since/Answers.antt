use Rattle.std.proofs.Common.{◌∙◌, ℕ, subst, sym}
use Rattle.std.specs.Prelude.{Option}
use Rattle.mon_host.specs.Log.{GoesOnBy}
use Rattle.mon_file_commands.specs.Age.{IsSinceSaid, age_lines}
use Rattle.mon_file_commands.specs.Line.{AreNoted}
use Rattle.mon_file_commands.proofs.Ages.{since_said, since_unsaid}
use Rattle.mon_file_commands.proofs.age.tell_since.Goals as goal

pub returns-in-Some : goal.returns-in-Some
returns-in-Some g c =
    let told = g.H.Host.log c.date.new.self in
    let end = g.H.Host.log c.tell_seconds.new.host in
    subst (λ (s : Option ℕ). GoesOnBy (λ log. IsSinceSaid c.args.path.now c.args.changed log s) (g.H.Host.log c.args.host.now) end) (sym c.seconds_between-seconds.ensures)
    (since_said c.args.path.now c.args.changed c.date.result c.in-Some.now (g.H.Host.log c.args.host.now) told end (sym c.ok.ensures.value ∙ c.in-Some.is) c.date.ensures
    (subst (λ (s : Option ℕ). GoesOnBy (AreNoted (age_lines c.args.path.now s)) told end) c.seconds_between-seconds.ensures c.tell_seconds.ensures))

pub returns-in-None : goal.returns-in-None
returns-in-None g c =
    since_unsaid c.args.path.now c.args.changed c.date.result (g.H.Host.log c.args.host.now) (g.H.Host.log c.date.new.self) (sym c.ok.ensures.value ∙ c.in-None.is) c.date.ensures
