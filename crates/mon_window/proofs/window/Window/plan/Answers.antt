use Rattle.std.proofs.Common.{◌<◌, subst}
use Rattle.std.specs.Ordering.{nat_cmp}
use Rattle.mon_sample.specs.Key.{boots_of}
use Rattle.mon_window.specs.Leaving.{HasRoom, IsLeaving}
use Rattle.mon_window.specs.Place.{IsPlace}
use Rattle.mon_window.proofs.Leaving.{leaves_before}
use Rattle.mon_window.proofs.Planned.{plan-joins, plan-too_old, plan-replaces}
use Rattle.mon_window.proofs.window.Window.plan.Goals as goal

pub returns-in_default : goal.returns-in_default
returns-in_default c =
    let xs = c.self.inside.items.items in
    let x = c.args.sample.now in
    let p : IsPlace nat_cmp xs x c.in-Err.at = subst (λ ys. IsPlace nat_cmp ys x c.in-Err.at) c.as_slice.ensures c.in-Err.ensures.absent in
    let room : HasRoom boots_of c.self.inside.size c.self.inside.epoch (boots_of x) xs = subst (HasRoom boots_of c.self.inside.size c.self.inside.epoch (boots_of x)) c.as_slice-2.ensures c.in_default.ensures.none in
    plan-joins c.self.inside.size c.self.inside.epoch x xs c.args.self.now c.self.view_is c.self.invariant.rising c.self.invariant.fits c.in-Err.at p room

pub returns-then-out-at : goal.returns-then-out-at
returns-then-out-at c =
    let xs = c.self.inside.items.items in
    let x = c.args.sample.now in
    let n = c.self.inside.size in
    let m = c.self.inside.epoch in
    let p : IsPlace nat_cmp xs x c.in-Err.at = subst (λ ys. IsPlace nat_cmp ys x c.in-Err.at) c.as_slice.ensures c.in-Err.ensures.absent in
    let leaving : IsLeaving boots_of n m (boots_of x) xs c.in-Err.at c.in-Some.out = subst (λ ys. IsLeaving boots_of n m (boots_of x) ys c.in-Err.at c.in-Some.out) c.as_slice-2.ensures c.in-Some.ensures.some in
    let itself : IsLeaving boots_of n m (boots_of x) xs c.in-Err.at c.in-Err.at = subst (IsLeaving boots_of n m (boots_of x) xs c.in-Err.at) c.if-out-at.true leaving in
    plan-too_old n m x xs c.args.self.now c.self.view_is c.self.invariant.rising c.self.invariant.fits c.in-Err.at p itself

pub returns : goal.returns
returns c =
    let xs = c.self.inside.items.items in
    let x = c.args.sample.now in
    let n = c.self.inside.size in
    let m = c.self.inside.epoch in
    let p : IsPlace nat_cmp xs x c.in-Err.at = subst (λ ys. IsPlace nat_cmp ys x c.in-Err.at) c.as_slice.ensures c.in-Err.ensures.absent in
    let leaving : IsLeaving boots_of n m (boots_of x) xs c.in-Err.at c.in-Some.out = subst (λ ys. IsLeaving boots_of n m (boots_of x) ys c.in-Err.at c.in-Some.out) c.as_slice-2.ensures c.in-Some.ensures.some in
    let before : c.in-Some.out < c.in-Err.at = leaves_before boots_of n m (boots_of x) xs c.in-Err.at c.in-Some.out leaving c.if-out-at.false in
    plan-replaces n m x xs c.args.self.now c.self.view_is c.self.invariant.rising c.self.invariant.fits c.in-Err.at c.in-Some.out p leaving before
