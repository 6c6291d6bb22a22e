use Rattle.std.proofs.Common.{Bool, List, ℕ, true, false, sym, subst}
use Rattle.mon_host.specs.Log.{GoesOnBy}
use Rattle.mon_carry_commands.specs.Carry.{IsCarry}
use Rattle.mon_carry_commands.specs.Engines.{AreEngines}
use Rattle.mon_carry_commands.proofs.Steps.{silent_stopped, silent_then}
use Rattle.mon_carry_commands.proofs.carry.carry_windows.Goals as goal

pub returns-in_err-dropped : goal.returns-in_err-dropped
returns-in_err-dropped g c =
    let saved = g.K.Saves.asked_save c.args.disks.now in
    let w = c.args.words in
    silent_stopped (AreEngines w.dropped.now) (λ engines. IsCarry saved w.previous w engines.items) c.in_err-dropped.field-0.0 _ (g.H.Host.log c.args.host.now) c.from_residual.ensures.1 c.in_err-dropped.ensures

pub returns-then-words : goal.returns-then-words
returns-then-words g c =
    let saved = g.K.Saves.asked_save c.args.disks.now in
    let w = c.args.words in
    let ds = c.in_ok-dropped.dropped in
    let start = g.H.Host.log c.args.host.now in
    let end = g.H.Host.log c.carry_previous.new.host in
    silent_then (AreEngines w.dropped.now) (λ engines. IsCarry saved w.previous w engines.items) ds c.carry_previous.result start end c.in_ok-dropped.ensures
    (subst (λ (b : Bool). GoesOnBy (λ log. IsCarry saved b w ds.items log c.carry_previous.result) start end) (sym c.if-words.true)
    (subst (λ (l : List (List ℕ)). GoesOnBy (λ log. IsCarry saved true w l log c.carry_previous.result) start end) c.as_slice-engines.ensures.value c.carry_previous.ensures))

pub returns : goal.returns
returns g c =
    let saved = g.K.Saves.asked_save c.args.disks.now in
    let w = c.args.words in
    let ds = c.in_ok-dropped.dropped in
    let start = g.H.Host.log c.args.host.now in
    let end = g.H.Host.log c.carry_new.new.host in
    silent_then (AreEngines w.dropped.now) (λ engines. IsCarry saved w.previous w engines.items) ds c.carry_new.result start end c.in_ok-dropped.ensures
    (subst (λ (b : Bool). GoesOnBy (λ log. IsCarry saved b w ds.items log c.carry_new.result) start end) (sym c.if-words.false)
    (subst (λ (l : List (List ℕ)). GoesOnBy (λ log. IsCarry saved false w l log c.carry_new.result) start end) c.as_slice-engines.ensures.value c.carry_new.ensures))
