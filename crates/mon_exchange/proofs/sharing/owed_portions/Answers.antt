use Rattle.std.proofs.Common.{◌<◌, ◌++◌, List, length, map, refl, ap, ◌∙◌, rules}
use Rattle.mon_board.specs.Board.{is_marked, window_of}
use Rattle.mon_board.specs.Owed.{owed_in}
use Rattle.mon_exchange.specs.declared.sharing.Portion.{Portion}
use Rattle.mon_exchange.specs.Portions.{pieces, portion}
use Rattle.mon_exchange.proofs.Pieces.{instance_more}
use Rattle.mon_exchange.proofs.sharing.owed_portions.Goals as goal

pub loop-place-preserved : goal.loop-place-preserved
loop-place-preserved c =
    let owed = owed_in (window_of c.args.board.now) (is_marked c.args.board.now c.args.slot) in
    let i = c.loop-place.place in
    let samples = c.as_slice.result.now in
    let within : i < length c.args.board.now.watch.instances = search rules in
    record {
      portions = c.in_ok-push_pieces.ensures.portions ∙ ap (λ (l : List Portion). l ++ map (portion i) (pieces samples)) c.loop-place.invariant.portions
          ∙ instance_more owed i i samples refl (c.as_slice.ensures.value ∙ c.in_ok-owed.ensures.owed);
      each = c.in_ok-push_pieces.ensures.each (length c.args.board.now.watch.instances) within c.loop-place.invariant.each;
    }
