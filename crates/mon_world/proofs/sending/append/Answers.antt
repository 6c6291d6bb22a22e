use Rattle.std.proofs.Common.{rules, arith, ◌≡◌, ◌++◌, length, vec_len, List, [], sym, ◌∙◌, ap, subst}
use Rattle.std.proofs.lemmas.List.{nil_from_length, append-nil}
use Rattle.mon_station.specs.declared.event.Outgoing.{Outgoing}
use Rattle.mon_world.specs.Sending.{to_peers}
use Rattle.mon_world.proofs.Appended.{sends_none, sends_one}
use Rattle.mon_world.proofs.sending.append.Goals as goal

pub loop-send-init : goal.loop-send-init
loop-send-init c = record {
  parts = ap (λ (l : List Outgoing). c.args.sent.now.items ++ to_peers l) c.into_iter-send-iterator.ensures.into_iter_gives.0;
  room = omega (arith, c.requires.room, ap (λ (l : List Outgoing). length l) c.into_iter-send-iterator.ensures.into_iter_gives.0);
  before = c.len-before.ensures;
  longer = omega arith;
}

pub push_reserved-requires : goal.push_reserved-requires
push_reserved-requires c = omega (arith, c.loop-send.invariant.room, ap (λ (l : List Outgoing). length l) c.in-Some.ensures.steps.0)

pub loop-send-preserved-in-Peer : goal.loop-send-preserved-in-Peer
loop-send-preserved-in-Peer c = record {
  parts =
      let whole = c.args.sent.now.items ++ to_peers c.args.sends.items in
      let was = subst (λ (l : List Outgoing). c.loop-send.sent.items ++ to_peers l ≡ whole) c.in-Some.ensures.steps.0 c.loop-send.invariant.parts in
      ap (λ l. l ++ to_peers c.next.new.self.rest.items) c.push_reserved.ensures.items
      ∙ sends_one c.loop-send.sent.items c.in-Peer.to c.in-Some.send c.next.new.self.rest.items whole c.in-Peer.is was;
  room = omega (arith, c.loop-send.invariant.room, ap (λ (l : List Outgoing). length l) c.in-Some.ensures.steps.0, c.push_reserved.ensures.len, c.push_reserved.ensures.capacity);
  before = c.loop-send.invariant.before;
  longer = omega (arith, c.loop-send.invariant.longer, c.push_reserved.ensures.len);
}

pub loop-send-preserved : goal.loop-send-preserved
loop-send-preserved c = record {
  parts =
      let whole = c.args.sent.now.items ++ to_peers c.args.sends.items in
      let was = subst (λ (l : List Outgoing). c.loop-send.sent.items ++ to_peers l ≡ whole) c.in-Some.ensures.steps.0 c.loop-send.invariant.parts in
      sends_none c.loop-send.sent.items c.in_default.field-0 c.in-Some.send c.next.new.self.rest.items whole c.in_default.is was;
  room = omega (arith, c.loop-send.invariant.room, ap (λ (l : List Outgoing). length l) c.in-Some.ensures.steps.0);
  before = c.loop-send.invariant.before;
  longer = c.loop-send.invariant.longer;
}

pub returns-clause-appended : goal.returns-clause-appended
returns-clause-appended c =
    let none : c.loop-send.send-iterator.rest.items ≡ [] = nil_from_length c.loop-send.send-iterator.rest.items (search (rules, c.in-None.ensures.steps.0)) in
    sym (append-nil c.loop-send.sent.items)
    ∙ subst (λ (l : List Outgoing). c.loop-send.sent.items ++ to_peers l ≡ c.args.sent.now.items ++ to_peers c.args.sends.items) none c.loop-send.invariant.parts

pub returns-clause-count : goal.returns-clause-count
returns-clause-count c =
    let start : vec_len c.args.sent.now ≡ length c.args.sent.now.items = search rules in
    let end : vec_len c.loop-send.sent ≡ length c.loop-send.sent.items = search rules in
    omega (arith, start, end, c.loop-send.invariant.before, c.loop-send.invariant.longer, c.len.ensures)
