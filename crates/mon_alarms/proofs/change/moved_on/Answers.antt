use Rattle.std.proofs.Common.{◌≡◌, ◌∷◌, ◌++◌, [], true, false, sym, ap, ◌∙◌}
use Rattle.mon_alarms.specs.Changes.{merged}
use Rattle.mon_alarms.proofs.Moved.{known, one_more}
use Rattle.mon_alarms.proofs.change.moved_on.Goals as goal

pub returns-then-are_equal : goal.returns-then-are_equal
returns-then-are_equal c =
    let y = c.in-Some.newest.now in
    let kept = c.in-Some.kept.now in
    let same = c.are_equal.ensures c.if-are_equal.true in
    let all : c.args.is.now ≡ kept ++ y ∷ [] = c.in-Some.ensures.cases.0 in
    record { both = (λ i. merged (same i) (all i)) ∙ one_more kept y ∙ ap (λ l. known l ++ (y, false) ∷ []) (sym same) }

pub returns-then-has_left : goal.returns-then-has_left
returns-then-has_left c =
    let y = c.in-Some.newest.now in
    let kept = c.in-Some.kept.now in
    let left = c.has_left.ensures c.if-has_left.true in
    let all : c.args.is.now ≡ kept ++ y ∷ [] = c.in-Some.ensures.cases.0 in
    record {
      both = left.both ∙ ap (λ l. (left.oldest, true) ∷ l) (ap (merged kept) all ∙ one_more kept y)
          ∙ ap (λ l. known l ++ (y, false) ∷ []) (sym left.first);
    }
