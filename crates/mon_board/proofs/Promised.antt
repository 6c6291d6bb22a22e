-- What crates above may cite: the order of instances, and what a watch keeps of an instance's
-- samples. No other file here is for them.
use Rattle.std.proofs.Common.{◌≡◌, ℕ, [], ◌∷◌}
use Rattle.std.specs.FinSet.{empty, insert, union, from_list}
use Rattle.mon_window.specs.Window.{Samples, In}
use Rattle.mon_window.proofs.Promised as windows
use Rattle.mon_board.specs.Watch.{Watch, size_of, epoch_of}
use Rattle.mon_board.specs.Windows.{kept_by}
-- the order of instances is total, and instances that tie are one
pub use Rattle.mon_board.proofs.Order.{instance_cmp_total, instance_cmp-IsAntisymmetric}

module _ (watch : Watch) (i : ℕ) where
  pub kept_within : (a : Samples) (s : ℕ) → In s (kept_by watch i a) → In s a
  kept_within = windows.kept_within (size_of watch i) (epoch_of watch i)

  pub kept_stays : (a b : Samples) (s : ℕ) → In s a → ((q : ℕ) → In q a → In q b) → In s (kept_by watch i b) → In s (kept_by watch i a)
  kept_stays = windows.kept_stays (size_of watch i) (epoch_of watch i)

  pub kept_none : kept_by watch i empty ≡ empty
  kept_none = windows.kept_none (size_of watch i) (epoch_of watch i)

  pub kept_twice : (a : Samples) → kept_by watch i (kept_by watch i a) ≡ kept_by watch i a
  kept_twice = windows.kept_twice (size_of watch i) (epoch_of watch i)

  pub kept_union : (a b : Samples) → kept_by watch i (union (kept_by watch i a) b) ≡ kept_by watch i (union a b)
  kept_union = windows.kept_union (size_of watch i) (epoch_of watch i)

  pub kept_insert : (a : Samples) (x : ℕ) → kept_by watch i (union a (from_list (x ∷ []))) ≡ kept_by watch i (insert (kept_by watch i a) x)
  kept_insert = windows.kept_insert (size_of watch i) (epoch_of watch i)

  pub kept_meet : (a b : Samples) → ((s : ℕ) → In s (kept_by watch i a) → In s b) → ((s : ℕ) → In s (kept_by watch i b) → In s a) → kept_by watch i a ≡ kept_by watch i b
  kept_meet = windows.kept_meet (size_of watch i) (epoch_of watch i)
