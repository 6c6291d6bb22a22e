-- What a reopening of a keeper does.
use Rattle.std.specs.Prelude.{IsErrAnd}
use Rattle.std.proofs.Common.{Result, Ok, Err, ℕ, ◌≡◌, ◌<◌, ◌≤◌, ◌-◌, ◌^◌, ◌⊎◌, inl, true, false, List, refl, sym, ◌∙◌, ap, subst, arith, Option, None}
use Rattle.mon_disk.specs.Disk.{Leaves, LeavesSince, Only}
use Rattle.mon_disk.specs.File.{HoldsEither, IsBeside, IsShut, held, other, slot_of}
use Rattle.mon_disk.specs.History.{FindsAgain}
use Rattle.mon_disk.specs.Keeper.{FindsBody, IsHeld, IsKept, generation_of, saved_body, spare}
use Rattle.mon_disk.specs.Kept.{last_body}
use Rattle.mon_disk.specs.Reopen.{IsReopening}
use Rattle.mon_disk.specs.declared.disk.Disk.{Ghosts}
use Rattle.mon_disk.specs.declared.fault.KeeperFault.{KeeperFault}
use Rattle.mon_disk.specs.declared.fault.KeeperFault.TheVariants.{DiskFault}
use Rattle.mon_disk.specs.declared.file.Slot.{Slot}
use Rattle.mon_disk.specs.declared.file.TheConstants.{SLOT_SIZE}
use Rattle.mon_disk.specs.declared.keeper.Keeper.{Keeper}
use Rattle.mon_disk.proofs.Held.{found_again, kept_finds, kept_whole, mended, same_last, shut_beside, still_held}
use Rattle.mon_disk.proofs.Moments.{at_end, began, weaker}

as_before : (outcomes : List ℕ → Type 0) (last : Option (List ℕ)) (c : List ℕ) → outcomes c → FindsAgain last outcomes c
as_before outcomes last c left = inl (c, left, record { undamaged = refl; body_is = refl })

module _ {X : Type 0} {G : Ghosts X} (k : Keeper X G) (only_now : (c : List ℕ) → G.is_honest k.device → G.left_since k.device (G.moment k.device) c → G.may_leave k.device c) where
  -- a keeper that needs none
  pub not_needed : k.spoiled ≡ false → IsReopening {T = Unit {0}} k k (Ok (tt {0}))
  not_needed fresh = record {
    on_disk = λ h.
        let kept = k.kept fresh h in
        let finds = kept_finds k.newest (G.seen k.device) (G.may_leave k.device) kept in
        let leaves : Leaves (G.may_leave k.device) (FindsBody (last_body k)) = λ c left. subst (FindsBody (last_body k)) (sym (kept.durable c left)) finds in
        record {
          whole = kept_whole k.newest (G.seen k.device) (G.may_leave k.device) kept;
          found = finds;
          kept = leaves;
          any_moment = began G.moment G.left_since G.may_leave k.device (FindsAgain (last_body k) (G.may_leave k.device)) (λ c left. only_now c h left) (as_before (G.may_leave k.device) (last_body k));
          happens = leaves;
          happens_err = tt;
        };
    last = λ h. refl;
    generation = refl;
    fresh = fresh;
    more = λ spoiled. absurd (let no : false ≡ true = sym fresh ∙ spoiled in cc);
    none = λ is. (refl, refl);
    fault = tt;
    spoiled = tt;
    honest = ((λ h. h), (λ h. h));
    count = omega arith;
    told = tt;
  }

-- after the two calls, or the first of them
module _ {X : Type 0} {G : Ghosts X} (old new : Keeper X G) (slot : Slot) (place : slot ≡ spare old.newest) (same : new.newest ≡ old.newest) (spoiled : old.spoiled ≡ true)
    (forth : G.is_honest old.device → G.is_honest new.device) (back : G.is_honest new.device → G.is_honest old.device)
    (counts : G.is_honest new.device → (t : ℕ) (c : List ℕ) → t ≤ G.moment new.device → G.may_leave new.device c → G.left_since new.device t c) (seen_now : G.is_honest new.device → G.may_leave new.device (G.seen new.device))
    (run : G.is_honest old.device → LeavesSince G.moment G.left_since old.device new.device (IsShut SLOT_SIZE slot (G.may_leave old.device))) (less : G.faults old.device ≤ G.faults new.device) where
  abbrev Last : List ℕ → Type 0
  Last = FindsAgain (last_body old) (G.may_leave old.device)

  shuts : G.is_honest old.device → LeavesSince G.moment G.left_since old.device new.device (IsShut SLOT_SIZE (spare old.newest) (G.may_leave old.device))
  shuts h = subst (λ s. LeavesSince G.moment G.left_since old.device new.device (IsShut SLOT_SIZE s (G.may_leave old.device))) place (run h)

  meanwhile : G.is_honest old.device → LeavesSince G.moment G.left_since old.device new.device Last
  meanwhile h = weaker G.moment G.left_since old.device new.device _ Last (found_again old.newest (G.seen old.device) (G.may_leave old.device) (old.held h)) (shuts h)

  stays : G.is_honest old.device → last_body new ≡ last_body old
  stays h =
      let aside : Leaves (G.may_leave new.device) (IsBeside SLOT_SIZE (spare old.newest) (G.seen old.device)) = λ c left. shut_beside SLOT_SIZE old.newest (G.seen old.device) (G.may_leave old.device) (old.held h) c
      (at_end G.moment G.left_since G.may_leave old.device new.device _ (counts (forth h)) (shuts h) c left) in
      (λ i. saved_body (held (slot_of SLOT_SIZE (other (spare (same i))) (G.seen new.device))))
      ∙ ap saved_body (same_last SLOT_SIZE old.newest (G.seen old.device) (G.seen new.device) (G.may_leave new.device) aside (seen_now (forth h)))

  pub fails : new.spoiled ≡ true → (G.faults old.device < G.faults new.device) ⊎ (G.faults old.device ≡ 2 ^ 64 - 1) → (r : Result (Unit {0}) KeeperFault) → IsErrAnd r (λ e. e ≡ DiskFault) → IsReopening old new r
  fails still rose (Ok x) is = absurd is
  fails still rose (Err e) is = record {
    on_disk = λ h. record { whole = tt; found = tt; kept = tt; any_moment = meanwhile h; happens = tt; happens_err = meanwhile h };
    last = stays;
    generation = ap generation_of same;
    fresh = tt;
    more = old.more;
    none = λ fresh. absurd (let no : false ≡ true = sym fresh ∙ spoiled in cc);
    fault = is;
    spoiled = still;
    honest = (forth, back);
    count = less;
    told = record { no_less = less; told = λ fault. rose };
  }

  pub mends : new.spoiled ≡ false → (G.is_honest old.device → IsKept SLOT_SIZE new.newest (G.seen new.device) (G.may_leave new.device)) → IsReopening {T = Unit {0}} old new (Ok (tt {0}))
  mends fresh kept = record {
    on_disk = λ h.
        let is = kept h in
        let finds : FindsBody (last_body old) (G.seen new.device) = subst (λ b. FindsBody b (G.seen new.device)) (stays h) (kept_finds new.newest (G.seen new.device) (G.may_leave new.device) is) in
        let leaves : Leaves (G.may_leave new.device) (FindsBody (last_body old)) = λ c left. subst (FindsBody (last_body old)) (sym (is.durable c left)) finds in
        record { whole = kept_whole new.newest (G.seen new.device) (G.may_leave new.device) is; found = finds; kept = leaves; any_moment = meanwhile h; happens = leaves; happens_err = tt };
    last = stays;
    generation = ap generation_of same;
    fresh = fresh;
    more = old.more;
    none = λ fresh. absurd (let no : false ≡ true = sym fresh ∙ spoiled in cc);
    fault = tt;
    spoiled = tt;
    honest = (forth, back);
    count = less;
    told = tt;
  }

-- what is known of the file through the two calls
pub shut_held : {D : Type 0} (moment : D → ℕ) (left_since : D → ℕ → List ℕ → Type 0) (may_leave : D → List ℕ → Type 0) (newest : _) (slot : Slot) → slot ≡ spare newest → (file now : List ℕ) (old new : D)
    → IsHeld SLOT_SIZE newest file (may_leave old) → ((t : ℕ) (c : List ℕ) → t ≤ moment new → may_leave new c → left_since new t c) → may_leave new now
    → LeavesSince moment left_since old new (IsShut SLOT_SIZE slot (may_leave old)) → IsHeld SLOT_SIZE newest now (may_leave new)
shut_held moment left_since may_leave newest slot place file now old new was counts here run =
    still_held SLOT_SIZE newest file now (may_leave old) (may_leave new) was
    (λ c left. shut_beside SLOT_SIZE newest file (may_leave old) was c
    (subst (λ s. IsShut SLOT_SIZE s (may_leave old) c) place (at_end moment left_since may_leave old new (IsShut SLOT_SIZE slot (may_leave old)) counts run c left)))
    here

pub shut_kept : (newest : _) (slot : Slot) → slot ≡ spare newest → (file now : List ℕ) (outcomes later : List ℕ → Type 0) → IsHeld SLOT_SIZE newest file outcomes → HoldsEither SLOT_SIZE slot file None None now → Only now later
    → IsKept SLOT_SIZE newest now later
shut_kept newest slot place file now outcomes later was closed durable =
    mended SLOT_SIZE newest file now outcomes later was (subst (λ s. HoldsEither SLOT_SIZE s file None None now) place closed) durable
