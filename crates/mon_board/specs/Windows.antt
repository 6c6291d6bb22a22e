-- Windows of pairs: an instance is its number in the watch, a sample its number.
use Rattle.std.specs.Prelude.{◌≡◌, ◌≢◌, ℕ, List, [], ◌∷◌, ◌==◌, if◌then◌else◌, map}
use Rattle.std.specs.FinSet as set
use Rattle.mon_sample.specs.Key.{boots_of}
use Rattle.mon_window.specs.Keep.{keep}
use Rattle.mon_window.specs.Window.{Samples, In}
use Rattle.mon_board.specs.Watch.{Watch, size_of, epoch_of}

-- the samples of an instance
abbrev pub samples_of : ℕ → List (ℕ × ℕ) → List ℕ
samples_of i [] = []
samples_of i (pair ∷ pairs) = if pair.0 == i then pair.1 ∷ samples_of i pairs
    else samples_of i pairs

-- each of these samples as a pair with the instance
abbrev pub paired : ℕ → List ℕ → List (ℕ × ℕ)
paired i samples = map (λ s. (i, s)) samples

-- the set of an instance's samples
abbrev pub set_of : ℕ → List (ℕ × ℕ) → Samples
set_of i pairs = set.from_list (samples_of i pairs)

-- the pair of an instance and a sample is in the list
abbrev pub Has : List (ℕ × ℕ) → ℕ → ℕ → Type 0
Has pairs i s = In s (set_of i pairs)

-- each pair of the one is in the other
abbrev pub IsPartOf : List (ℕ × ℕ) → List (ℕ × ℕ) → Type 0
IsPartOf some all = (i s : ℕ) → Has some i s → Has all i s

-- what a watch keeps of an instance's samples: at most an epoch's epoch of each boots number, and
-- of these the newest that its window holds
abbrev pub kept_by : Watch → ℕ → Samples → Samples
kept_by watch i = keep boots_of (size_of watch i) (epoch_of watch i)

-- the window that a list of pairs leaves of an instance
abbrev pub window : Watch → List (ℕ × ℕ) → ℕ → Samples
window watch pairs i = kept_by watch i (set_of i pairs)

-- windows, by instance, with these pairs put in: what `Board::take` of each pair leaves
abbrev pub joined : Watch → (ℕ → Samples) → List (ℕ × ℕ) → ℕ → Samples
joined watch windows pairs i = kept_by watch i (set.union (windows i) (set_of i pairs))

-- the windows of two boards together, by instance: what `Board::join` leaves
abbrev pub of_both : Watch → (ℕ → Samples) → (ℕ → Samples) → ℕ → Samples
of_both watch some others i = kept_by watch i (set.union (some i) (others i))

-- a window of an instance that holds no more than is kept of it
abbrev pub IsWhole : Watch → (ℕ → Samples) → ℕ → Type 0
IsWhole watch windows i = kept_by watch i (windows i) ≡ windows i

-- the sample was put into the window of this instance, and every other window stayed
pub record IsTaken (watch : Watch) (old new : ℕ → Samples) (i s : ℕ) : Type 0 where
  pub changed : new i ≡ kept_by watch i (set.insert (old i) s)
  pub others : (j : ℕ) → j ≢ i → new j ≡ old j
