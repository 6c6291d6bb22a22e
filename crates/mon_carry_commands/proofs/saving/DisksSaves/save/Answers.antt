use Rattle.std.proofs.Common.{inr}
use Rattle.mon_carry_commands.proofs.saving.DisksSaves.save.Goals as goal

pub returns-in-Ok-save_first-clause-asked : goal.returns-in-Ok-save_first-clause-asked
returns-in-Ok-save_first-clause-asked g c =
    record {
      before = c.in-Ok.disk;
      after = c.in-Ok-save_first.field-0;
      opened_is = c.in-Ok.ensures;
      saved = λ h. record {
        fresh = c.in-Ok-save_first.ensures.fresh h;
        kept = c.in-Ok-save_first.ensures.kept h;
        safe = record {
          any_moment = c.in-Ok-save_first.ensures.any_moment h;
          whole = c.in-Ok-save_first.ensures.whole h;
        };
        stays = c.in-Ok-save_first.ensures.honest h;
      };
    }

pub returns-in-Ok-clause-asked : goal.returns-in-Ok-clause-asked
returns-in-Ok-clause-asked g c =
    inr (record {
      before = c.in-Ok.disk;
      after = c.in-Err.disk;
      fault = c.in-Err.fault;
      opened_is = c.in-Ok.ensures;
      refused = λ h. record {
        of_new = c.in-Err.ensures.fault h;
        untouched = c.in-Err.ensures.refused h;
        found_still = c.in-Err.ensures.found_still h;
        safe = record {
          any_moment = c.in-Err.ensures.any_moment_err h;
          whole = c.in-Err.ensures.whole_err h;
        };
        stays = c.in-Err.ensures.honest_err h;
      };
      caused = c.in-Err.ensures.cause;
      failure_is = c.unsaved.ensures;
    })
