use Rattle.std.proofs.Common.{◌∙◌, ◌≡◌, ◌++◌, ◌∷◌, [], List, ℕ, ap, codes, decimal}
use Rattle.std.specs.Prelude.{Some}
use Rattle.mon_host.proofs.Promised.{weaker}
use Rattle.mon_host.specs.AtHost.{IsNoted, Noted}
use Rattle.mon_host.specs.declared.level.Level.TheVariants as level
use Rattle.mon_settings_commands.specs.AgentOptions.{count_line}
use Rattle.mon_settings_commands.proofs.asking.note_count.Goals as goal

pub returns : goal.returns
returns g c =
    let agent = c.args.agent.now in
    weaker (IsNoted level.Warning (Some _)) (λ log. log ≡ Noted level.Warning (count_line agent c.args.number c.args.count) ∷ []) (g.H.Host.log c.args.host.now) (g.H.Host.log c.note.new.self)
    (λ log noted. noted.2 ∙ ap (λ (text : List ℕ). Noted level.Warning text ∷ []) (noted.1
    ∙ ap (λ (w : List ℕ). agent ++ (codes ": ifNumber is " ++ (decimal c.args.number ++ (codes ", and ifTable has " ++ (decimal c.args.count ++ (w ++ codes "\n")))))) c.form_of-interfaces.ensures))
    c.note.ensures
