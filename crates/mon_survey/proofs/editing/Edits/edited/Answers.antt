use Rattle.std.proofs.Common.{◌≤◌, length, rules}
use Rattle.mon_survey.specs.Edited.{edited_block, ends_block}
use Rattle.mon_survey.proofs.Pieces.{feeds_block, one_more}
use Rattle.mon_survey.proofs.editing.Edits.edited.Goals as goal

pub loop-rest-preserved : goal.loop-rest-preserved
loop-rest-preserved c =
    let some : 1 ≤ length c.loop-rest.rest.now = search rules in
    one_more ends_block feeds_block (edited_block c.args.self.now.names.now c.args.self.now.own.now) c.loop-rest.rest.now _ _ _ _ _ c.block_end.result some (c.block_end.ensures.number) c.split_at.ensures.front c.split_at.ensures.back (search rules) c.loop-rest.invariant
