use Rattle.std.proofs.Common.{◌≡◌, ◌∙◌, List, ℕ, ap}
use Rattle.mon_board.specs.Instance.{instances_of, named}
use Rattle.mon_board.specs.declared.instance.Instance.{Instance}
use Rattle.mon_carry.specs.Carried.{place_of}
use Rattle.mon_carry.proofs.Places.{found_within, search_is}
use Rattle.mon_carry.proofs.carrying.place_of.Goals as goal

pub returns-clause-place : goal.returns-clause-place
returns-clause-place c =
    let asked = named c.as_slice.result.now c.args.instance.now.name in
    let all = instances_of c.args.board.now.watch.instances in
    let same : asked ≡ c.args.instance.now = ap (λ (engine : List ℕ). named engine c.args.instance.now.name) c.as_slice.ensures in
    search_is asked all c.find.result c.find.ensures.found c.find.ensures.only ∙ ap (λ (x : Instance). place_of x all) same

pub returns-clause-within : goal.returns-clause-within
returns-clause-within c =
    found_within c.args.board.now.watch.instances (named c.as_slice.result.now c.args.instance.now.name) c.find.result c.find.ensures.found
