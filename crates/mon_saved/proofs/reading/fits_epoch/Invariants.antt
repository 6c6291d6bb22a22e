use Rattle.std.proofs.Common.{◌≡◌, ◌<◌, ◌+◌, ℕ, get_or}
use Rattle.mon_sample.specs.Key.{boots_of}
use Rattle.mon_saved.proofs.reading.fits_epoch.Given as goal

abbrev pub invariant-loop-i : goal.invariant-loop-i
invariant-loop-i l = (k : ℕ) → k + l.epoch < l.i → boots_of (get_or l.samples (k + l.epoch) 0) ≡ boots_of (get_or l.samples k 0) → ⊥
