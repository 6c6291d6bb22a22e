use Rattle.std.proofs.Common.{lit<}
use Rattle.std.proofs.lemmas.Str.Pattern.{split_parts}
use Rattle.mon_settings_commands.proofs.Peers.{unread_no_peer, unsigned_no_peer}
use Rattle.mon_settings_commands.proofs.words.peer_at.Goals as goal

pub returns-in_default-clause-refused : goal.returns-in_default-clause-refused
returns-in_default-clause-refused c =
    let lacks = rw c.in_default.is at (split_parts 61 c.args.word.now c.split_once.result c.split_once.ensures.cases (lit< tt)) in
    ((λ named. unsigned_no_peer c.args.word.now lacks named), c.peer_failure.ensures)

pub returns-in-Err-clause-refused : goal.returns-in-Err-clause-refused
returns-in-Err-clause-refused c = (
  (λ named. unread_no_peer c.args.word.now c.split_once.result c.in-Some.number c.in-Some.address c.parse.result c.in-Err.field-0 c.split_once.ensures.cases c.in-Some.is
      c.parse.ensures.value.0 c.in-Err.is named),
  c.peer_failure-in-Err.ensures,
)
