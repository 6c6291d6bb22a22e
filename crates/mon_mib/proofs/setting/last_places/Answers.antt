use Rattle.std.proofs.Common.{ℕ, List, get_or, ap, sym}
use Rattle.mon_pdu.specs.declared.message.Binding.{Binding}
use Rattle.std.proofs.lemmas.Map.Text.{btree_map_updates_str}
use Rattle.mon_mib.specs.LastPlaces.{place_of}
use Rattle.mon_mib.proofs.Lasting.{none_yet, one_more, all_last}
use Rattle.mon_mib.proofs.setting.last_places.Goals as goal

pub loop-i-init : goal.loop-i-init
loop-i-init c = none_yet c.args.bindings.now c.new-places.result c.new-places.ensures.empty

pub loop-i-preserved : goal.loop-i-preserved
loop-i-preserved c =
    let name : List ℕ = (get_or c.args.bindings.now c.loop-i.i c.index-bindings-i.result).name in
    one_more (place_of c.loop-i.places) (place_of c.insert.new.self) c.args.bindings.now c.loop-i.i c.index-bindings-i.result name c.loop-i.invariant c.loop-i-test.true c.index-bindings-i.is
    (ap (λ (b : Binding). b.name) (sym c.index-bindings-i.is)) (btree_map_updates_str name c.loop-i.places c.insert.new.self _ c.in_ok-insert.ensures.updates)

pub returns : goal.returns
returns c = all_last c.args.bindings.now c.loop-i.i c.loop-i.places c.loop-i-test.false c.loop-i.invariant
