use Rattle.std.specs.Prelude.{string_bytes}
use Rattle.std.proofs.Common.{map}
use Rattle.mon_http.specs.declared.request.Verdict.TheVariants.{Asked}
use Rattle.mon_http.proofs.Verdicts.{judged_len}
use Rattle.mon_http.proofs.connection.Connection.answer.Goals as goal

pub put-requires : goal.put-requires
put-requires c = record { whole = judged_len (map string_bytes c.args.names.now) c.args.self.now.unread (Asked c.args.request) c.requires.asked }
