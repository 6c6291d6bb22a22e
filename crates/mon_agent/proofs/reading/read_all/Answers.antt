use Rattle.std.proofs.Common.{◌<◌, rules, length, refl, slice_index_or}
use Rattle.mon_pdu.specs.declared.message.Binding.{Binding}
use Rattle.mon_mib.specs.Search.{IsSeenIn, known_in}
use Rattle.mon_agent.specs.Step.{IsGetAnswer}
use Rattle.mon_agent.proofs.Each.{seen, one_more, rest_of, long_of}
use Rattle.mon_agent.proofs.reading.read_all.Goals as goal

pub loop-binding-preserved : goal.loop-binding-preserved
loop-binding-preserved g c =
    let R = IsGetAnswer (known_in g.D.Device.held c.args.search.now) (IsSeenIn c.args.search.now) in
    let at = c.loop-binding in
    let lt : at.binding-index < length at.binding-items = search rules in
    let old = c.binding-item.result in
    let new : Binding = record { name = (slice_index_or at.binding-items at.binding-index old).name; value = c.got_value.result } in
    record {
      long = long_of R c.args.asked.items at.binding-items at.binding-index new at.invariant.long;
      done = one_more R c.args.asked.items at.binding-items at.binding-index old new lt at.invariant.long
          at.invariant.rest at.invariant.done (record {
            named = refl;
            found = seen (known_in g.D.Device.held c.args.search.now) (IsSeenIn c.args.search.now) (slice_index_or at.binding-items at.binding-index old).name
                c.in_ok-got.got c.got_value.result c.got_value.ensures c.in_ok-got.ensures;
          });
      rest = rest_of R c.args.asked.items at.binding-items at.binding-index old new lt at.invariant.long at.invariant.rest;
    }
