use Rattle.std.proofs.Common.{refl, rules}
use Rattle.std.specs.Prelude.{Err, Ok}
use Rattle.mon_settings_commands.proofs.Exchanged.{one_exchange}
use Rattle.mon_settings_commands.proofs.asking.exchange.Goals as goal

pub returns-in-Ok : goal.returns-in-Ok
returns-in-Ok g c = one_exchange c.args.community.now c.args.asking c.args.names.now c.args.asker.now.last_id c.next_id-id.result _ (Ok c.in-Ok.message)
    c.bindings_in.result (g.W.Wire.log c.args.asker.now.wire) (g.W.Wire.log c.send_request.new.wire) c.next_id-id.ensures.next (search rules) c.in-Ok.ensures.asked c.bindings_in.ensures

pub returns-in-Err : goal.returns-in-Err
returns-in-Err g c = one_exchange c.args.community.now c.args.asking c.args.names.now c.args.asker.now.last_id c.next_id-id.result _ (Err c.in-Err.fault)
    (Err c.in-Err.fault) (g.W.Wire.log c.args.asker.now.wire) (g.W.Wire.log c.send_request.new.wire) c.next_id-id.ensures.next (search rules) c.in-Err.ensures.asked refl
