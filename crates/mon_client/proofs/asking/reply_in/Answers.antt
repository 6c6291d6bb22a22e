use Rattle.mon_client.specs.Question.{asked_in}
use Rattle.mon_client.proofs.Askings.{holds_none, holds_reply, unread_gives_none, unread_holds_none}
use Rattle.mon_client.proofs.asking.reply_in.Goals as goal

pub returns-in-Ok : goal.returns-in-Ok
returns-in-Ok c = record {
  found = holds_reply (asked_in c.args.question.now) c.args.octets.now c.in-Ok.message c.reply_of.result c.in-Ok.ensures.found c.reply_of.ensures.some;
  none = holds_none c.again.ensures (asked_in c.args.question.now) c.args.octets.now c.in-Ok.message c.reply_of.result c.in-Ok.ensures.found c.reply_of.ensures.none;
}

pub returns-in-Err : goal.returns-in-Err
returns-in-Err c = record {
  found = unread_gives_none (asked_in c.args.question.now) c.args.octets.now c.in-Err.fault c.skip_unread.result c.skip_unread.ensures;
  none = unread_holds_none c.again.ensures (asked_in c.args.question.now) c.args.octets.now c.in-Err.fault c.skip_unread.result c.in-Err.ensures.exact c.skip_unread.ensures;
}
