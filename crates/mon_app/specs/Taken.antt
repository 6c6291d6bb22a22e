-- What became of the rows.
use Rattle.std.specs.Prelude.{◌≡◌, ℕ, List, ◌++◌, Result, Ok}
use Rattle.mon_app.specs.Offer.{Offer}
use Rattle.mon_app.specs.declared.refusal.Refusal.{Refusal}
use Rattle.mon_app.specs.declared.table.Row.{Row}
use Rattle.mon_app.specs.Windows.{rows_of}

-- a verdict took these offers, and the rows have them
pub record AreOffersTaken (verdict : Result (List Offer) Refusal) (n : ℕ) (taken : List Offer)
    (rows : List Row) : Type 0 where
  pub offers : List Offer
  pub verdict_is : verdict ≡ Ok offers
  pub rows_are : rows ≡ rows_of n (taken ++ offers)
