use Rattle.std.proofs.Common.{rules}
use Rattle.mon_pdu.proofs.Lengths.{three_passed}
use Rattle.mon_pdu.proofs.framing.put_numbers.Goals as goal

pub returns-clause-items : goal.returns-clause-items
returns-clause-items c = three_passed c.args.out.now.items c.put_three.new.out.items c.args.frame.now.request_id c.args.frame.now.error_status c.args.frame.now.error_index
    (search rules) (search rules) (search rules) c.put_three.ensures.items
