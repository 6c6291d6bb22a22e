-- Settings that are brought up to date by the options that the arguments give.
use Rattle.std.proofs.Common.{List, inr}
use Rattle.std.specs.Prelude.{Result, Ok, Err}
use Rattle.mon_console.specs.declared.failure.Failure.{Failure}
use Rattle.mon_survey.specs.declared.longest.Drafted.{Drafted}
use Rattle.mon_survey.specs.declared.moving.Known.{Known}
use Rattle.mon_survey.specs.declared.options.Options.{Options}
use Rattle.mon_survey.specs.declared.size.TargetSize.{TargetSize}
use Rattle.mon_settings_commands.specs.Source.{Source}
use Rattle.mon_settings_commands.specs.Texts.{AreOptions}
use Rattle.mon_settings_commands.specs.Updated.{IsUpdatedOf, IsUpdatedOn}
use Rattle.mon_settings_commands.specs.declared.existing.Existing.{Existing}

pub renewed : (s : Source) (existing : Existing) (known : List Known) (size : TargetSize) (o : Options) (r : Result Drafted Failure) → AreOptions s 0 size o → IsUpdatedOn s existing known o r → IsUpdatedOf s existing known size r
renewed s existing known size o (Ok drafted) made on = (o, made, on)
renewed s existing known size o (Err failure) made on = inr (o, made, on)
