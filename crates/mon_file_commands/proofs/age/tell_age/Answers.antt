use Rattle.std.proofs.Common.{◌∙◌, sym}
use Rattle.mon_file_commands.proofs.Ages.{age_said, age_unsaid}
use Rattle.mon_file_commands.proofs.age.tell_age.Goals as goal

pub returns-in-Some : goal.returns-in-Some
returns-in-Some g c =
    let told = g.H.Host.log c.changed.new.self in
    let end = g.H.Host.log c.tell_since.new.host in
    age_said c.args.path.now c.changed.result c.in-Some.changed c.tell_since.result (g.H.Host.log c.args.host.now) told end (sym c.ok.ensures.value ∙ c.in-Some.is) c.changed.ensures
    c.tell_since.ensures

pub returns-in-None : goal.returns-in-None
returns-in-None g c =
    age_unsaid c.args.path.now c.changed.result (g.H.Host.log c.args.host.now) (g.H.Host.log c.changed.new.self) (sym c.ok.ensures.value ∙ c.in-None.is) c.changed.ensures
