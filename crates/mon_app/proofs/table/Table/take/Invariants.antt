use Rattle.std.proofs.Common.{◌≡◌, ◌++◌, List, take}
use Rattle.mon_app.specs.Offer.{Offer}
use Rattle.mon_app.specs.Reading.{offers_of}
use Rattle.mon_app.specs.Response.{stamp_in}
use Rattle.mon_app.specs.Windows.{rows_of}
use Rattle.mon_app.proofs.table.Table.take.Given as goal

-- the rows have the samples so far
abbrev pub invariant-loop-binding : goal.invariant-loop-binding
invariant-loop-binding l = record {
  size : l.self.size ≡ l.fn.self.size;
  rows : (taken : List Offer) → l.fn.self.rows.items ≡ rows_of l.fn.self.size taken
      → l.self.rows.items ≡ rows_of l.fn.self.size (taken ++ offers_of (stamp_in l.response) (take l.binding-index l.response.bindings.now));
}
