use Rattle.std.proofs.Common.{rules, subst, arith}
use Rattle.mon_board.specs.Board.{window_of}
use Rattle.mon_board.specs.Watch.{IsWatch}
use Rattle.mon_saved.specs.Kept.{HoldsImage}
use Rattle.mon_saved.proofs.Moved.{holds_few, holds_long, holds_spells}
use Rattle.mon_saved.proofs.kept.KeptImage.write.Goals as goal

pub returns-then-self-incarnation-clause-head : goal.returns-then-self-incarnation-clause-head
returns-then-self-incarnation-clause-head c =
    let b = c.args.board.now in
    let same = c.if-self-incarnation.true in
    holds_long _ _ b.watch.instances (window_of b) _ (c.requires.kept (omega (arith, same, c.requires.positive)))

pub returns-then-self-incarnation-clause-spells : goal.returns-then-self-incarnation-clause-spells
returns-then-self-incarnation-clause-spells c =
    let b = c.args.board.now in
    let same = c.if-self-incarnation.true in
    let is_watch : IsWatch b.watch = search rules in
    let held = subst (λ n. HoldsImage c.args.self.now.octets.items c.args.self.now.places.items b.watch.instances (window_of b) n) same (c.requires.kept (omega (arith, same, c.requires.positive))) in
    holds_spells c.bound.ensures.keep_epoch c.bound.ensures.keep_few _ _ b.watch (window_of b) c.args.incarnation held is_watch c.watch.ensures.whole c.requires.positive c.ranges.incarnation.fits

pub returns-then-self-incarnation-clause-few : goal.returns-then-self-incarnation-clause-few
returns-then-self-incarnation-clause-few c =
    let b = c.args.board.now in
    let same = c.if-self-incarnation.true in
    let held = subst (λ n. HoldsImage c.args.self.now.octets.items c.args.self.now.places.items b.watch.instances (window_of b) n) same (c.requires.kept (omega (arith, same, c.requires.positive))) in
    holds_few _ _ b.watch.instances (window_of b) c.args.incarnation held
