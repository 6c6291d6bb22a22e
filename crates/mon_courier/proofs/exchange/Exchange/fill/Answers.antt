use Rattle.std.proofs.Common.{rules, ◌≤◌, vec_capacity}
use Rattle.mon_courier.proofs.Fits.{room_for}
use Rattle.mon_courier.proofs.exchange.Exchange.fill.Goals as goal

pub unwrap-requires : goal.unwrap-requires
unwrap-requires c =
    let kept : vec_capacity c.self.inside.request ≤ vec_capacity c.clear-2.new.self = search rules in
    room_for c.self.inside.host.items c.self.inside.path.items c.args.text.now c.deref.result.now c.deref-2.result.now
    c.clear-2.new.self.items (vec_capacity c.self.inside.request) (vec_capacity c.clear-2.new.self) c.put_post.result
    c.deref.ensures.value c.deref-2.ensures.value c.clear-2.ensures.items c.self.invariant.0 kept c.requires c.put_post.ensures.full
