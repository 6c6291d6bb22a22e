use Rattle.std.proofs.Common.{◌∙◌, ◌++◌, ◌∷◌, [], List, ℕ, ap, append_assoc, codes, sym}
use Rattle.std.specs.Prelude.{Ok, Some}
use Rattle.mon_client.specs.Walk.{IsEmptyNoted}
use Rattle.mon_client.proofs.walking.note_empty.Goals as goal
use Rattle.mon_host.proofs.Promised.{weaker}
use Rattle.mon_host.specs.AtHost.{IsNoted, Noted}
use Rattle.mon_host.specs.declared.level.Level.TheVariants as level

pub returns-clause-said : goal.returns-clause-said
returns-clause-said g c =
    let name = g.S.NameTexts.shown c.args.names.now c.args.start.now in
    weaker (IsNoted level.Info (Some _)) (λ said. IsEmptyNoted name said (Ok tt)) (g.H.Host.log c.args.host.now) (g.H.Host.log c.note.new.self)
    (λ log noted. noted.2
    ∙ ap (λ (text : List ℕ). Noted level.Info text ∷ []) (noted.1 ∙ (sym (append_assoc (codes "snmpmon: nothing is below ") _ (codes "\n"))
    ∙ ap (λ (n : List ℕ). codes "snmpmon: nothing is below " ++ n ++ codes "\n") c.in_ok-name.ensures))) c.note.ensures
