-- What an opening finds after the first save.
use Rattle.std.proofs.Common.{ℕ, ◌≡◌, ◌≤◌, inl, inr, ⊎_elim, List, Option, Some, None, Result, Ok, Err, IfOk, IfErr, refl, arith}
use Rattle.mon_board.specs.Board.{Board}
use Rattle.mon_disk.specs.declared.fault.KeeperFault.TheVariants as keeper
use Rattle.mon_disk.specs.declared.file.TheConstants.{SLOT_SIZE}
use Rattle.mon_disk.specs.Disk.{Leaves, LeavesSince}
use Rattle.mon_disk.specs.File.{Saved, found}
use Rattle.mon_disk.specs.Keeper.{FindsAs, FindsBody, IsOpening, found_body, found_generation, saved_body}
use Rattle.mon_disk.proofs.Promised.{as_before, as_found, at_end, chained, weaker}
use Rattle.mon_carry.specs.declared.fault.CarryFault.{CarryFault}
use Rattle.mon_carry.specs.declared.fault.CarryFault.TheVariants as fault
use Rattle.mon_carry.specs.Fault.{IsFaultOfNew, IsRefused, IsSaveFault}
use Rattle.mon_carry.specs.Files.{FindsFirst, FindsNothingOr}

-- what follows of the value of a result
pub if_ok : {A F : Type 0} (r : Result A F) (P Q : A → Type 0) → IfOk r P → ((a : A) → P a → Q a) → IfOk r Q
if_ok (Ok a) P Q h f = f a h
if_ok (Err e) P Q h f = tt

pub if_err : {A F : Type 0} (r : Result A F) (P Q : F → Type 0) → IfErr r P → ((e : F) → P e → Q e) → IfErr r Q
if_err (Ok a) P Q h f = tt
if_err (Err e) P Q h f = f e h

-- ---- the opening, and the first save
module _ {D : Type 0} (board : Board) (incarnation : ℕ) (seen : D → List ℕ) (may_leave : D → List ℕ → Type 0) (moment : D → ℕ) (left_since : D → ℕ → List ℕ → Type 0)
    (old mid : D) (opened : IsOpening seen may_leave moment left_since old mid) where
  abbrev First : List ℕ → Type 0
  First c = FindsFirst (may_leave old) board incarnation c

  pub only_opened : LeavesSince moment left_since old mid First
  only_opened = weaker moment left_since may_leave old mid (FindsAs (may_leave old)) First (λ c found. inl found) opened.any_moment

  pub then_saved : ((t : ℕ) (c : List ℕ) → t ≤ moment mid → may_leave mid c → left_since mid t c) → (new : D)
      → LeavesSince moment left_since mid new (FindsFirst (may_leave mid) board incarnation) → LeavesSince moment left_since old new First
  then_saved counts new saving =
      let from : Leaves (may_leave mid) (FindsAs (may_leave old)) = at_end moment left_since may_leave old mid (FindsAs (may_leave old)) counts opened.any_moment in
      chained moment left_since may_leave old mid new First only_opened
      (weaker moment left_since may_leave mid new (FindsFirst (may_leave mid) board incarnation) First
      (λ c either. ⊎_elim (λ before. inl (as_before (may_leave mid) (may_leave old) from c before)) (λ image. inr image) either)
      saving)

  -- where nothing was saved before
  pub as_whole : Leaves (may_leave old) (FindsBody None) → (new : D) → LeavesSince moment left_since old new First → LeavesSince moment left_since old new (FindsNothingOr board incarnation)
  as_whole none new left = weaker moment left_since may_leave old new First (FindsNothingOr board incarnation)
      (λ c finds. ⊎_elim (λ before. inl (as_found (may_leave old) None none c before)) (λ image. inr image) finds) left

-- ---- faults
-- where nothing was saved there is a next generation
none_found : (save : Option Saved) → saved_body save ≡ None → found_generation save ≡ 0
none_found None is = refl
none_found (Some s) is = absurd cc

first_generation : (file : List ℕ) → found_body file ≡ None → found_generation (found SLOT_SIZE file) ≡ 0
unfolding found_body
first_generation file is = none_found (found SLOT_SIZE file) is

-- a fault of the save where nothing was found
pub save_fault : (file : List ℕ) (generation : ℕ) (f : CarryFault) → found_body file ≡ None → found_generation (found SLOT_SIZE file) ≡ generation → IsSaveFault generation f → IsFaultOfNew file f
save_fault file generation fault.OutOfMemory none is h = tt
save_fault file generation (fault.Keeper keeper.OutOfMemory) none is h = absurd h
save_fault file generation (fault.Keeper keeper.DiskFault) none is h = tt
save_fault file generation (fault.Keeper keeper.NoMoreGenerations) none is h = absurd (omega (arith, first_generation file none, is, h))
save_fault file generation (fault.Keeper keeper.TooLarge) none is h = absurd h
save_fault file generation (fault.Keeper keeper.Damaged) none is h = absurd h
save_fault file generation (fault.Keeper keeper.Reopen) none is h = absurd h
save_fault file generation (fault.Image f) none is h = absurd h
save_fault file generation fault.NoMoreIncarnations none is h = absurd h
save_fault file generation fault.AlreadySaved none is h = absurd h

-- it is no refusal of what was found
pub not_refused : (generation : ℕ) (f : CarryFault) → IsSaveFault generation f → IsRefused f → ⊥
not_refused generation fault.OutOfMemory h is = is
not_refused generation (fault.Keeper keeper.OutOfMemory) h is = is
not_refused generation (fault.Keeper keeper.DiskFault) h is = is
not_refused generation (fault.Keeper keeper.NoMoreGenerations) h is = is
not_refused generation (fault.Keeper keeper.TooLarge) h is = is
not_refused generation (fault.Keeper keeper.Damaged) h is = h
not_refused generation (fault.Keeper keeper.Reopen) h is = is
not_refused generation (fault.Image f) h is = is
not_refused generation fault.NoMoreIncarnations h is = is
not_refused generation fault.AlreadySaved h is = h
