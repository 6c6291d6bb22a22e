use Rattle.std.proofs.Common.{rules}
use Rattle.mon_pdu.proofs.Lengths.{three_passed}
use Rattle.mon_pdu.proofs.writing.put_numbers.Goals as goal

pub returns-in-Pdu-clause-items : goal.returns-in-Pdu-clause-items
returns-in-Pdu-clause-items c = rw c.in-Pdu.is (three_passed c.args.out.now.items c.put_three.new.out.items c.in-Pdu.pdu.request_id c.in-Pdu.pdu.error_status c.in-Pdu.pdu.error_index
    (search rules) (search rules) (search rules) c.put_three.ensures.items)

pub returns-in-Bulk-clause-items : goal.returns-in-Bulk-clause-items
returns-in-Bulk-clause-items c = rw c.in-Bulk.is (three_passed c.args.out.now.items c.put_three-in-Bulk.new.out.items c.in-Bulk.bulk.request_id c.in-Bulk.bulk.non_repeaters c.in-Bulk.bulk.max_repetitions
    (search rules) (search rules) (search rules) c.put_three-in-Bulk.ensures.items)
