use Rattle.std.proofs.Common.{◌≡◌, List, take}
use Rattle.mon_app.specs.Offer.{Offer}
use Rattle.mon_app.specs.Reading.{offers_of}
use Rattle.mon_app.specs.Response.{stamp_in}
use Rattle.mon_app.specs.Windows.{rows_of}
use Rattle.mon_app.proofs.Counting.{Counted}
use Rattle.mon_app.proofs.table.Table.has_room.Given as goal

-- the instances so far are counted
abbrev pub invariant-loop-binding : goal.invariant-loop-binding
invariant-loop-binding l =
    (taken : List Offer) → l.self.rows.items ≡ rows_of l.self.size taken
    → Counted taken (offers_of (stamp_in l.response) (take l.binding-index l.response.bindings.now)) l.response.stamp.engine.now l.self.rows.items l.fresh.items
