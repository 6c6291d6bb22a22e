use Rattle.std.proofs.Common.{◌≡◌, [], length, subst, arith, refl}
use Rattle.std.proofs.lemmas.Bool.Decides.{nat_tests}
use Rattle.mon_mib.proofs.Undoing.{IsAtUndo, one_back, all_back, some_left, failures_step, nil_of, not_nil}
use Rattle.mon_mib.proofs.commit.undo_all.Goals as goal

pub loop-undo-preserved : goal.loop-undo-preserved
loop-undo-preserved g c = record {
  room = omega (arith, c.in-Some.ensures.len, c.undo_one.ensures.len, c.undo_one.ensures.capacity, c.loop-undo.invariant.room);
  failures = failures_step g.D.Device.held g.D.Device.refuses g.D.Device.failed c.in-Some.undo c.loop-undo.device c.undo_one.new.device
      c.loop-undo.standing.items c.undo_one.new.standing.items (g.D.Device.failed c.args.device.now) c.loop-undo.invariant.failures c.undo_one.ensures.how;
  at = λ done before apart undos holds. one_back g.D.Device.held g.D.Device.refuses g.D.Device.failed done before c.loop-undo.undos.items c.pop.new.self.items c.in-Some.undo
      c.loop-undo.standing.items c.loop-undo.device c.undo_one.new.device c.undo_one.new.standing.items c.in-Some.ensures.items
      (c.loop-undo.invariant.at done before apart undos holds) c.undo_one.ensures.how;
}

pub returns-then-is_empty-clause-outcome : goal.returns-then-is_empty-clause-outcome
returns-then-is_empty-clause-outcome g c = λ done before apart undos holds.
    let none : length c.loop-undo.undos.items ≡ 0 = omega (arith, c.loop-undo.undos.ok.0, c.in_default.ensures.cases.0) in
    let empty : length c.loop-undo.standing.items ≡ 0 = let t = c.is_empty.ensures in let f = c.if-is_empty.true in let o = c.loop-undo.standing.ok.0 in grind (arith, nat_tests) in
    let at = c.loop-undo.invariant.at done before apart undos holds in (
      refl,
      all_back g.D.Device.held g.D.Device.refuses g.D.Device.failed done before c.loop-undo.device
          (subst (λ l. IsAtUndo g.D.Device.held g.D.Device.refuses g.D.Device.failed done before [] l c.loop-undo.device) (nil_of c.loop-undo.standing.items empty)
          (subst (λ l. IsAtUndo g.D.Device.held g.D.Device.refuses g.D.Device.failed done before l c.loop-undo.standing.items c.loop-undo.device) (nil_of c.loop-undo.undos.items none) at)),
    )

pub returns-clause-outcome : goal.returns-clause-outcome
returns-clause-outcome g c = λ done before apart undos holds.
    let none : length c.loop-undo.undos.items ≡ 0 = omega (arith, c.loop-undo.undos.ok.0, c.in_default.ensures.cases.0) in
    let some : length c.loop-undo.standing.items ≡ 0 → ⊥ = let t = c.is_empty.ensures in let f = c.if-is_empty.false in let o = c.loop-undo.standing.ok.0 in λ e. grind (arith, nat_tests) in
    let at = c.loop-undo.invariant.at done before apart undos holds in (
      refl,
      some_left g.D.Device.held g.D.Device.refuses g.D.Device.failed done before c.loop-undo.device c.loop-undo.standing.items (not_nil c.loop-undo.standing.items some)
          (subst (λ l. IsAtUndo g.D.Device.held g.D.Device.refuses g.D.Device.failed done before l c.loop-undo.standing.items c.loop-undo.device) (nil_of c.loop-undo.undos.items none) at),
    )
