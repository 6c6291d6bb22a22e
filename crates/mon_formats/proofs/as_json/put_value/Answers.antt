use Rattle.serde_json.specs.View.{view}
use Rattle.mon_formats.proofs.Pushed.{when_added}
use Rattle.mon_formats.proofs.Sound.{of_written}
use Rattle.mon_formats.proofs.as_json.put_value.Goals as goal

pub returns-clause-sound : goal.returns-clause-sound
returns-clause-sound c =
    let written = c.in_ok-written.ensures in
    let sound = of_written c.in_ok-written.written.items (view c.args.value) c.requires.exact c.requires.shallow written.order (written.reads_back c.requires.shallow) in
    when_added _ c.extend_from_slice-2.result _ _ _ c.extend_from_slice-2.ensures.items (λ _. sound)
