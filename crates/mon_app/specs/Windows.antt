-- The windows of what was taken, each of one instance.
use Rattle.std.specs.Prelude.{ℕ, List, map, filter}
use Rattle.std.specs.FinSet.{FinSet, from_list, empty, insert}
use Rattle.std.specs.Ordering.{eq_by_cmp}
use Rattle.mon_window.specs.Top.{top, rising}
use Rattle.mon_window.specs.Window.{Samples, Window}
use Rattle.mon_board.specs.declared.instance.Instance.{Instance}
use Rattle.mon_app.specs.Offer.{Offer}
use Rattle.mon_app.specs.declared.table.Row.{Row}
use Rattle.mon_board.specs.Instance.{instance_cmp}

-- a set of instances
abbrev pub Instances : Type 0
Instances = FinSet instance_cmp

-- the instances of which something was taken
unfoldable pub instances : List Offer → Instances
instances taken = from_list (map (λ o. o.instance) taken)

-- what was taken of an instance
abbrev pub samples_of : Instance → List Offer → List ℕ
samples_of i taken = map (λ o. o.sample) (filter (λ o. eq_by_cmp instance_cmp i o.instance) taken)

-- the n greatest of them
unfoldable pub kept : ℕ → List Offer → Instance → Samples
kept n taken i = top n (from_list (samples_of i taken))

-- an instance with its window
abbrev pub row : ℕ → List Offer → Instance → Row
row n taken i = record {
  instance = i;
  window = record {
    size = n;
    epoch = n;
    items = kept n taken i;
  };
}

-- a window with one sample
abbrev pub first_window : ℕ → ℕ → Window
first_window n sample = record { size = n; epoch = n; items = top n (insert empty sample) }

-- a window for each instance, by instance
unfoldable pub rows_of : ℕ → List Offer → List Row
rows_of n taken = map (row n taken) (rising (instances taken))
