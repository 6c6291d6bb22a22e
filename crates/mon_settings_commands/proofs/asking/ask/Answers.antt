use Rattle.std.specs.Prelude.{Err, Ok}
use Rattle.std.proofs.Common.{List}
use Rattle.mon_settings_commands.specs.Exchange.{Exchange, IsExchange, IsQuestion}
use Rattle.mon_settings_commands.proofs.Exchanged.{asks_so}
use Rattle.mon_settings_commands.proofs.asking.ask.Goals as goal

pub returns-in-Ok : goal.returns-in-Ok
returns-in-Ok g c =
    let asking = c.args.asking in
    let names = c.args.names.now in
    asks_so c.args.asked.community.now (λ log. IsExchange asking names log (Ok c.in-Ok.bindings)) (λ log. IsQuestion c.args.asked.agent.word.now asking names log (Ok c.into_vec.result))
    c.args.asker.now.last_id c.exchange.new.asker.last_id (g.W.Wire.log c.args.asker.now.wire) (g.W.Wire.log c.exchange.new.asker.wire)
    (λ (es : List Exchange) is. (Ok c.in-Ok.bindings, is, c.into_vec.ensures)) c.in-Ok.ensures

pub returns-in-Err : goal.returns-in-Err
returns-in-Err g c =
    let asking = c.args.asking in
    let names = c.args.names.now in
    asks_so c.args.asked.community.now (λ log. IsExchange asking names log (Err c.in-Err.fault)) (λ log. IsQuestion c.args.asked.agent.word.now asking names log (Err c.answer_failure.result))
    c.args.asker.now.last_id c.exchange.new.asker.last_id (g.W.Wire.log c.args.asker.now.wire) (g.W.Wire.log c.exchange.new.asker.wire)
    (λ (es : List Exchange) is. (Err c.in-Err.fault, is, (c.answer_failure.ensures.fault, c.answer_failure.ensures.more))) c.in-Err.ensures
