use Rattle.std.proofs.Common.{◌≡◌, List, ℕ, [], ◌∷◌, refl, inr}
use Rattle.std.specs.Prelude.{IfErr, IfOk, Option, Some, None, Result, Ok, Err}
use Rattle.std.specs.declared.alloc.AllocError.{AllocError}
use Rattle.mon_host.specs.AtHost.{AtHost, IsNoted, Noted}
use Rattle.mon_host.specs.Log.{GoesOn, GoesOnBy}
use Rattle.mon_host.specs.Recorded.{recorded, step_of}
use Rattle.mon_host.specs.declared.level.Level.{Level}
use Rattle.mon_host.specs.declared.recorder.RecordedCall.{RecordedCall}
use Rattle.mon_host.proofs.recorder.RecorderHost.note.Goals as goal

some_text : (level : Level) (text : Option (List ℕ)) → (log : List AtHost) × IsNoted level text log
some_text level None = (Noted level [] ∷ [], ([], tt, refl))
some_text level (Some t) = (Noted level t ∷ [], (t, refl, refl))

of_step : (level : Level) (text : Option (List ℕ)) (step : Result RecordedCall AllocError) (before after : Option (List AtHost))
    → IfOk step (λ s. IsNoted level text (step_of s ∷ []))
    → IfOk step (λ s. GoesOn (step_of s ∷ []) before after) → IfErr step (λ _. after ≡ None) → GoesOnBy (IsNoted level text) before after
of_step level text (Ok s) before after is kept lost = record { more = step_of s ∷ []; holds = is; on = kept }
of_step level text (Err e) before after is kept lost = let found = some_text level text in record { more = found.0; holds = found.1; on = inr lost }

pub returns : goal.returns
returns g c = of_step c.args.level (g.D.Display.output c.args.text) c.note_step.result (recorded c.args.self.now.is_lost c.args.self.now.steps.items)
    (recorded c.record.new.self.is_lost c.record.new.self.steps.items) c.note_step.ensures c.record.ensures.kept c.record.ensures.lost
