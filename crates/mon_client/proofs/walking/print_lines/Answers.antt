use Rattle.std.proofs.Common.{ℕ, List, ◌+◌, subst, refl, inl, inr, ap}
use Rattle.std.specs.Prelude.{Option, Some, Result, Ok, Err, drop}
use Rattle.mon_client.specs.declared.fault.WalkFault.{WalkFault}
use Rattle.mon_client.specs.declared.fault.WalkFault.TheVariants.{App}
use Rattle.mon_app.specs.declared.fault.AppFault.TheVariants.{NotIncreasing, OutOfMemory}
use Rattle.mon_client.specs.declared.walking.WalkStep.{WalkStep}
use Rattle.mon_client.specs.declared.walking.Turned.TheVariants as turned
use Rattle.mon_client.specs.Walk.{IsWalkStep, name_in}
use Rattle.mon_client.proofs.Askings.{fault_is}
use Rattle.mon_client.proofs.Walks.{at_end, at_next, ended_after, ended_at, no_whether, refused_at, within_more}
use Rattle.mon_client.proofs.walking.print_lines.Goals as goal

pub returns-in-Past-clause-lines : goal.returns-in-Past-clause-lines
returns-in-Past-clause-lines g c =
    let at = c.loop-binding in
    let b = c.binding-item.result in
    let step = subst (λ (s : WalkStep). IsWalkStep c.args.at.start.now at.last.now b s) c.in-Past.is c.step_of.ensures in
    let here = at_next (g.S.NameTexts.shown c.args.names.now) c.args.at.start.now c.args.at.last.now c.args.found.now at.last.now at.binding-index b at.printed
    (g.H.Host.log c.args.host.now) (g.H.Host.log at.host) c.loop-binding-test.true c.binding-item.is at.invariant.within in
    ended_at (g.S.NameTexts.shown c.args.names.now) c.args.at.start.now c.args.at.last.now c.args.found.now at.last.now b (drop (at.binding-index + 1) c.args.found.now) at.printed
    (g.H.Host.log c.args.host.now) (g.H.Host.log at.host) (Ok (turned.Over at.printed)) here (refl, step) (λ lines is. is)

pub returns-in-Back-clause-lines : goal.returns-in-Back-clause-lines
returns-in-Back-clause-lines g c =
    let at = c.loop-binding in
    let b = c.binding-item.result in
    let step = subst (λ (s : WalkStep). IsWalkStep c.args.at.start.now at.last.now b s) c.in-Back.is c.step_of.ensures in
    let here = at_next (g.S.NameTexts.shown c.args.names.now) c.args.at.start.now c.args.at.last.now c.args.found.now at.last.now at.binding-index b at.printed
    (g.H.Host.log c.args.host.now) (g.H.Host.log at.host) c.loop-binding-test.true c.binding-item.is at.invariant.within in
    ended_at (g.S.NameTexts.shown c.args.names.now) c.args.at.start.now c.args.at.last.now c.args.found.now at.last.now b (drop (at.binding-index + 1) c.args.found.now) at.printed
    (g.H.Host.log c.args.host.now) (g.H.Host.log at.host) (Err (App NotIncreasing)) here (inl (refl, step, refl)) (λ lines is. tt)

pub returns-in_err-print_line-in-On-clause-lines : goal.returns-in_err-print_line-in-On-clause-lines
returns-in_err-print_line-in-On-clause-lines g c =
    let at = c.loop-binding in
    let b = c.binding-item.result in
    let fault = c.in_err-print_line-in-On.field-0.0 in
    let step = subst (λ (s : WalkStep). IsWalkStep c.args.at.start.now at.last.now b s) c.in-On.is c.step_of.ensures in
    let here = at_next (g.S.NameTexts.shown c.args.names.now) c.args.at.start.now c.args.at.last.now c.args.found.now at.last.now at.binding-index b at.printed
    (g.H.Host.log c.args.host.now) (g.H.Host.log at.host) c.loop-binding-test.true c.binding-item.is at.invariant.within in
    refused_at (g.S.NameTexts.shown c.args.names.now) c.args.at.start.now c.args.at.last.now c.args.found.now at.last.now b (drop (at.binding-index + 1) c.args.found.now) at.printed
    (g.H.Host.log c.args.host.now) (g.H.Host.log at.host) (g.H.Host.log c.print_line.new.host) fault c.from_residual.result
    (fault_is c.from_residual.result fault c.from_residual.ensures.1) here step c.in_err-print_line-in-On.ensures.said

pub loop-binding-preserved : goal.loop-binding-preserved
loop-binding-preserved g c =
    let at = c.loop-binding in
    let b = c.binding-item.result in
    let step = subst (λ (s : WalkStep). IsWalkStep c.args.at.start.now at.last.now b s) c.in-On.is c.step_of.ensures in
    let here = at_next (g.S.NameTexts.shown c.args.names.now) c.args.at.start.now c.args.at.last.now c.args.found.now at.last.now at.binding-index b at.printed
    (g.H.Host.log c.args.host.now) (g.H.Host.log at.host) c.loop-binding-test.true c.binding-item.is at.invariant.within in
    record {
      within = within_more (g.S.NameTexts.shown c.args.names.now) c.args.at.start.now c.args.at.last.now c.args.found.now at.last.now b (drop (at.binding-index + 1) c.args.found.now) at.printed
          (g.H.Host.log c.args.host.now) (g.H.Host.log at.host) (g.H.Host.log c.print_line.new.host) here step c.in_ok-print_line-in-On.ensures.said;
    }

pub returns-in_err-try_clone-clause-lines : goal.returns-in_err-try_clone-clause-lines
returns-in_err-try_clone-clause-lines g c =
    let at = c.loop-binding in
    let is = fault_is c.from_residual-in_err-try_clone.result (App OutOfMemory) c.from_residual-in_err-try_clone.ensures.1 in
    ended_after (g.S.NameTexts.shown c.args.names.now) c.args.at.start.now c.args.at.last.now c.args.found.now at.last.now at.printed
    (g.H.Host.log c.args.host.now) (g.H.Host.log at.host) c.from_residual-in_err-try_clone.result
    (at_end (g.S.NameTexts.shown c.args.names.now) c.args.at.start.now c.args.at.last.now c.args.found.now at.last.now at.binding-index at.printed (g.H.Host.log c.args.host.now) (g.H.Host.log at.host)
    c.loop-binding-test.false at.invariant.within)
    (inr (ap name_in is)) (no_whether c.from_residual-in_err-try_clone.result (App OutOfMemory) is)

pub returns-clause-lines : goal.returns-clause-lines
returns-clause-lines g c =
    let at = c.loop-binding in
    ended_after (g.S.NameTexts.shown c.args.names.now) c.args.at.start.now c.args.at.last.now c.args.found.now at.last.now at.printed
    (g.H.Host.log c.args.host.now) (g.H.Host.log at.host) (Ok (turned.On c.in_ok-try_clone.field-0))
    (at_end (g.S.NameTexts.shown c.args.names.now) c.args.at.start.now c.args.at.last.now c.args.found.now at.last.now at.binding-index at.printed (g.H.Host.log c.args.host.now) (g.H.Host.log at.host)
    c.loop-binding-test.false at.invariant.within)
    (inl (ap (λ (name : List ℕ). let r : Result (Option (List ℕ)) WalkFault = Ok (Some name) in r) c.in_ok-try_clone.ensures.equal)) (λ lines. tt)
