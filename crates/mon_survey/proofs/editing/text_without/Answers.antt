use Rattle.std.proofs.Common.{◌≤◌, length, rules}
use Rattle.mon_survey.specs.Edited.{block_without, ends_block}
use Rattle.mon_survey.proofs.Pieces.{feeds_block, one_more}
use Rattle.mon_survey.proofs.editing.text_without.Goals as goal

pub loop-rest-preserved : goal.loop-rest-preserved
loop-rest-preserved c =
    let some : 1 ≤ length c.loop-rest.rest.now = search rules in
    one_more ends_block feeds_block (block_without c.args.own.now) c.loop-rest.rest.now _ _ _ _ _ c.block_end.result some (c.block_end.ensures.number) c.split_at.ensures.front c.split_at.ensures.back (search rules) c.loop-rest.invariant
