use Rattle.std.proofs.Common.{◌≡◌, Some, None, List, sym, subst, ap, ◌∙◌}
use Rattle.std.specs.List.{slice_get}
use Rattle.std.specs.List.Sorted.{IsStrictlySortedBy}
use Rattle.mon_board.specs.Board.{Board}
use Rattle.mon_board.specs.Instance.{instance_cmp, instances_of, named}
use Rattle.mon_board.specs.declared.instance.Watched.{Watched}
use Rattle.mon_board.proofs.Search.{only_number}
use Rattle.mon_board.proofs.board.Board.find.Goals as goal

pub returns-in-Some-clause-only : goal.returns-in-Some-clause-only
returns-in-Some-clause-only c = λ i is.
    let xs : List Watched = c.instances.result.now in
    let x = named c.args.engine.now c.args.name.now in
    let same : c.args.self.now.watch.instances ≡ xs = sym (ap (λ (b : Board). b.watch.instances) c.self.view_is) ∙ sym c.instances.ensures.instances in
    let rising = subst (λ (ws : List Watched). IsStrictlySortedBy instance_cmp (instances_of ws)) (sym c.instances.ensures.instances) c.instances.ensures.watch.listed.rising in
    only_number (instances_of xs) rising x (Some c.in-Some.place) c.in-Some.ensures.found tt i (subst (λ (ws : List Watched). slice_get (instances_of ws) i ≡ Some x) same is)

pub returns-in-None-clause-only : goal.returns-in-None-clause-only
returns-in-None-clause-only c = λ i is.
    let xs : List Watched = c.instances.result.now in
    let x = named c.args.engine.now c.args.name.now in
    let same : c.args.self.now.watch.instances ≡ xs = sym (ap (λ (b : Board). b.watch.instances) c.self.view_is) ∙ sym c.instances.ensures.instances in
    let rising = subst (λ (ws : List Watched). IsStrictlySortedBy instance_cmp (instances_of ws)) (sym c.instances.ensures.instances) c.instances.ensures.watch.listed.rising in
    only_number (instances_of xs) rising x None tt c.in-None.ensures.absent i (subst (λ (ws : List Watched). slice_get (instances_of ws) i ≡ Some x) same is)
