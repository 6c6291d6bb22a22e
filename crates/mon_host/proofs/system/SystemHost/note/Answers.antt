use Rattle.std.proofs.Common.{List, ℕ, [], ◌∷◌, refl, inl}
use Rattle.std.specs.Prelude.{Option, Some, None}
use Rattle.mon_host.specs.AtHost.{IsNoted, Noted}
use Rattle.mon_host.specs.Log.{GoesOnBy}
use Rattle.mon_host.specs.declared.level.Level.{Level}
use Rattle.mon_host.proofs.system.SystemHost.note.Goals as goal

of_nothing : (level : Level) (text : Option (List ℕ)) → GoesOnBy (IsNoted level text) None None
of_nothing level None = record { more = Noted level [] ∷ []; holds = ([], tt, refl); on = inl refl }
of_nothing level (Some t) = record { more = Noted level t ∷ []; holds = (t, refl, refl); on = inl refl }

pub returns : goal.returns
returns g c = of_nothing c.args.level (g.D.Display.output c.args.text)
