-- What an opening finds after an opening and a save.
use Rattle.std.proofs.Common.{ℕ, ◌≡◌, ◌≤◌, ◌<◌, ◌-◌, ◌^◌, ◌⊎◌, inl, inr, ⊎_elim, true, false, List, Option, Some, Result, Ok, Err, IfOk, IfErr, refl, sym, subst, ◌∙◌, arith}
use Rattle.std.specs.Result.{IsErrAnd}
use Rattle.std.proofs.lemmas.Bool.{cases_lt}
use Rattle.mon_board.specs.Instance.{instances_of}
use Rattle.mon_board.specs.Watch.{Watch}
use Rattle.mon_disk.specs.declared.disk.Disk.{Ghosts}
use Rattle.mon_disk.specs.declared.fault.KeeperFault.{KeeperFault}
use Rattle.mon_disk.specs.declared.fault.KeeperFault.TheVariants as keeper
use Rattle.mon_disk.specs.Disk.{Leaves, LeavesSince}
use Rattle.mon_disk.specs.Fault.{HasDiskCause, is_of_opening}
use Rattle.mon_disk.specs.File.{found}
use Rattle.mon_disk.specs.Keeper.{FindsAs, FindsBody, IsOpening, found_body, found_generation, is_undamaged}
use Rattle.mon_disk.specs.declared.file.TheConstants.{SLOT_SIZE}
use Rattle.mon_disk.proofs.Promised.{as_before, as_found, as_then, at_end, at_rest, both_as, chained, weaker}
use Rattle.mon_saved.specs.Image.{SpellsImage}
use Rattle.mon_saved.specs.Written.{image_of}
use Rattle.mon_station.specs.declared.fault.StationFault.{StationFault}
use Rattle.mon_station.specs.declared.fault.StationFault.TheVariants as station
use Rattle.mon_station.specs.Fault.{keeper_refusal}
use Rattle.mon_station.specs.Mended.{IsMendedFault}
use Rattle.mon_station.specs.Saved.{FindsBegun, FindsOpening, FindsRunning, FindsState, IsBeginning, IsBegun, IsCausedBy, IsFaultOfBody, IsFaultOfFile, IsFirstSaveFault, IsForItsBody, IsOpeningFault, IsSaveFault, OrLast, saved_octets}
use Rattle.mon_station.specs.State.{State}
use Rattle.mon_station.specs.Verdict.{Setting}

-- octets that spell the state's image
abbrev pub Spells : State → List ℕ → Type 0
Spells s octets = SpellsImage octets (instances_of s.board.watch.instances) (image_of s.board s.incarnation)

pub finds_state : (s : State) (body octets : List ℕ) (c : List ℕ) → body ≡ octets → octets ≡ saved_octets s → Spells s octets → FindsBody (Some body) c → FindsState s c
finds_state s body octets c is written spells finds = record {
  body = subst (λ (b : List ℕ). FindsBody (Some b) c) (is ∙ written) finds;
  spells = subst (Spells s) written spells;
}

pub finds_either : (outcomes : List ℕ → Type 0) (s : State) (body octets : List ℕ) → body ≡ octets → octets ≡ saved_octets s → Spells s octets → (c : List ℕ) → FindsAs outcomes c ⊎ FindsBody (Some body) c → FindsRunning outcomes s c
finds_either outcomes s body octets is written spells c either = ⊎_elim (λ same. inl same) (λ finds. inr (finds_state s body octets c is written spells finds)) either

-- no call at all
pub rests : {D : Type 0} (may_leave : D → List ℕ → Type 0) (moment : D → ℕ) (left_since : D → ℕ → List ℕ → Type 0) (d : D) (last : Option (List ℕ)) (s : State) → ((c : List ℕ) → left_since d (moment d) c → may_leave d c)
    → LeavesSince moment left_since d d (FindsRunning (OrLast (may_leave d) last) s)
rests may_leave moment left_since d last s only_now =
    weaker moment left_since may_leave d d (FindsAs (may_leave d)) (FindsRunning (OrLast (may_leave d) last) s) (λ c same. inl (same.0, inl same.1, same.2)) (at_rest moment left_since may_leave d only_now)

-- where a crash leaves the last save, a keeper goes back to nothing else
pub only_left : (outcomes : List ℕ → Type 0) (last : Option (List ℕ)) (s : State) (here : List ℕ) → outcomes here → Leaves outcomes (FindsBody last) → (c : List ℕ) → FindsRunning (OrLast outcomes last) s c
    → FindsRunning outcomes s c
only_left outcomes last s here now kept c either = ⊎_elim
    (λ found. inl (⊎_elim
    (λ left. (found.0, left, found.2))
    (λ finds. (here, now, as_then c found.0 here found.2 (both_as last found.0 here finds (kept here now))))
    found.1))
    (λ finds. inr finds)
    either

-- ---- faults
-- what the first save refuses, an opening does
pub save_fault : (watch : Watch) (file : List ℕ) (generation : ℕ) (fault : StationFault) → found_generation (found SLOT_SIZE file) ≡ generation → IsFirstSaveFault generation fault → IsFaultOfFile watch file fault
save_fault watch file generation station.OutOfMemory is h = tt
save_fault watch file generation (station.Keeper keeper.DiskFault) is h = tt
save_fault watch file generation (station.Keeper keeper.NoMoreGenerations) is h = is ∙ h
save_fault watch file generation other is h = absurd h

-- one of an opening's, and not for the body
pub save_opening : (generation : ℕ) (fault : StationFault) → IsFirstSaveFault generation fault → IsOpeningFault fault × (IsForItsBody fault → ⊥)
save_opening generation station.OutOfMemory h = (tt, λ b. b)
save_opening generation (station.Keeper keeper.DiskFault) h = (tt, λ b. b)
save_opening generation (station.Keeper keeper.NoMoreGenerations) h = (tt, λ b. b)
save_opening generation other h = absurd h

-- a save's fault at a keeper that was opened just now
pub first_save : (generation : ℕ) (fault : StationFault) → IsSaveFault fault → (fault ≡ station.Keeper keeper.NoMoreGenerations → generation ≡ 2 ^ 64 - 1)
    → IsFirstSaveFault generation fault
first_save generation station.OutOfMemory h last = tt
first_save generation (station.Keeper keeper.DiskFault) h last = tt
first_save generation (station.Keeper keeper.NoMoreGenerations) h last = last refl
first_save generation other h last = absurd h

-- a body's fault is one of an opening's
pub body_opening : (watch : Watch) (body : Option (List ℕ)) (fault : StationFault) → IsFaultOfBody watch body fault → IsOpeningFault fault
body_opening watch body station.OutOfMemory h = tt
body_opening watch body (station.Image f) h = tt
body_opening watch body station.NoMoreIncarnations h = tt
body_opening watch body other h = absurd h

pub body_fault : (watch : Watch) (file : List ℕ) (body : Option (List ℕ)) (fault : StationFault) → FindsBody body file → IsFaultOfBody watch body fault → IsFaultOfFile watch file fault
body_fault watch file body station.OutOfMemory finds h = tt
body_fault watch file body (station.Keeper f) finds h = absurd h
body_fault watch file body (station.Poll f) finds h = absurd h
body_fault watch file body (station.Response f) finds h = absurd h
body_fault watch file body (station.Exchange f) finds h = absurd h
body_fault watch file body (station.Image f) finds h = subst (λ (b : Option (List ℕ)). IsFaultOfBody watch b (station.Image f)) (sym finds.body_is) h
body_fault watch file body station.NoMoreIncarnations finds h = subst (λ (b : Option (List ℕ)). IsFaultOfBody watch b station.NoMoreIncarnations) (sym finds.body_is) h

-- a fault of the keeper's opening, as the station's
pub keeper_of_file : (watch : Watch) (file : List ℕ) (f : KeeperFault) → is_of_opening f ≡ true → (f ≡ keeper.Damaged → is_undamaged file ≡ false) → IsFaultOfFile watch file (keeper_refusal f)
keeper_of_file watch file keeper.OutOfMemory of h = tt
keeper_of_file watch file keeper.DiskFault of h = tt
keeper_of_file watch file keeper.NoMoreGenerations of h = absurd (let no : false ≡ true = of in cc)
keeper_of_file watch file keeper.TooLarge of h = absurd (let no : false ≡ true = of in cc)
keeper_of_file watch file keeper.Damaged of h = h refl
keeper_of_file watch file keeper.Reopen of h = absurd (let no : false ≡ true = of in cc)

pub keeper_opening : (f : KeeperFault) → is_of_opening f ≡ true → IsOpeningFault (keeper_refusal f) × (IsForItsBody (keeper_refusal f) → ⊥)
keeper_opening keeper.OutOfMemory of = (tt, λ b. b)
keeper_opening keeper.DiskFault of = (tt, λ b. b)
keeper_opening keeper.NoMoreGenerations of = absurd (let no : false ≡ true = of in cc)
keeper_opening keeper.TooLarge of = absurd (let no : false ≡ true = of in cc)
keeper_opening keeper.Damaged of = (tt, λ b. b)
keeper_opening keeper.Reopen of = absurd (let no : false ≡ true = of in cc)

-- of a save of what fits, as the station's
pub keeper_of_save : (f : KeeperFault) → IsMendedFault f → IsSaveFault (keeper_refusal f)
keeper_of_save keeper.OutOfMemory is = tt
keeper_of_save keeper.DiskFault is = tt
keeper_of_save keeper.NoMoreGenerations is = tt
keeper_of_save keeper.TooLarge is = absurd is
keeper_of_save keeper.Damaged is = absurd is
keeper_of_save keeper.Reopen is = absurd is

-- the station's fault is the keeper's of this kind
pub was_keeper : (f g : KeeperFault) → keeper_refusal f ≡ station.Keeper g → f ≡ g
was_keeper keeper.OutOfMemory g e = absurd cc
was_keeper keeper.DiskFault g e = cc
was_keeper keeper.NoMoreGenerations g e = cc
was_keeper keeper.TooLarge g e = cc
was_keeper keeper.Damaged g e = cc
was_keeper keeper.Reopen g e = cc

pub was_memory : (f : KeeperFault) → keeper_refusal f ≡ station.OutOfMemory → f ≡ keeper.OutOfMemory
was_memory keeper.OutOfMemory e = refl
was_memory keeper.DiskFault e = absurd cc
was_memory keeper.NoMoreGenerations e = absurd cc
was_memory keeper.TooLarge e = absurd cc
was_memory keeper.Damaged e = absurd cc
was_memory keeper.Reopen e = absurd cc

-- ---- causes
pub keeper_cause : (before now : ℕ) (f : KeeperFault) → HasDiskCause before now f → IsCausedBy before now (keeper_refusal f)
keeper_cause before now keeper.OutOfMemory h = h.no_less
keeper_cause before now keeper.DiskFault h = h
keeper_cause before now keeper.NoMoreGenerations h = h
keeper_cause before now keeper.TooLarge h = h
keeper_cause before now keeper.Damaged h = h
keeper_cause before now keeper.Reopen h = h

-- a fault of the body has no cause in the disk
pub body_cause : (watch : Watch) (body : Option (List ℕ)) (before now : ℕ) (fault : StationFault) → before ≤ now → IsFaultOfBody watch body fault → IsCausedBy before now fault
body_cause watch body before now station.OutOfMemory le h = le
body_cause watch body before now (station.Image f) le h = le
body_cause watch body before now station.NoMoreIncarnations le h = le
body_cause watch body before now other le h = absurd h

-- a cause after calls that were answered Ok
pub disk_cause : (before mid now : ℕ) (fault : KeeperFault) → before ≤ mid → HasDiskCause mid now fault → HasDiskCause before now fault
disk_cause before mid now fault le h = record {
  no_less = omega (arith, le, h.no_less);
  told = λ is. ⊎_elim (λ (rose : mid < now). inl (omega (arith, le, rose))) (λ (full : mid ≡ 2 ^ 64 - 1). at_full full (cases_lt before mid)) (h.told is);
}
  where
    at_full : mid ≡ 2 ^ 64 - 1 → (before < mid) ⊎ (mid ≤ before) → (before < now) ⊎ (before ≡ 2 ^ 64 - 1)
    at_full full (inl less) = inl (omega (arith, less, h.no_less))
    at_full full (inr same) = inr (omega (arith, le, same, full))

pub later_cause : (before mid now : ℕ) (fault : StationFault) → before ≤ mid → IsCausedBy mid now fault → IsCausedBy before now fault
later_cause before mid now (station.Keeper f) le h = disk_cause before mid now f le h
later_cause before mid now other le h = omega (arith, le, h)

-- what follows of the value of a result
pub if_ok : {A F : Type 0} (r : Result A F) (P Q : A → Type 0) → IfOk r P → ((a : A) → P a → Q a) → IfOk r Q
if_ok (Ok a) P Q h f = f a h
if_ok (Err e) P Q h f = tt

pub if_err : {A F : Type 0} (r : Result A F) (P Q : F → Type 0) → IfErr r P → ((e : F) → P e → Q e) → IfErr r Q
if_err (Ok a) P Q h f = tt
if_err (Err e) P Q h f = f e h

-- a fault that was passed on
pub passed_on : {A F : Type 0} (r : Result A F) (f : F) (P : F → Type 0) → IsErrAnd r (λ g. g ≡ f) → P f → IfErr r P
passed_on (Ok x) f P is h = absurd is
passed_on (Err g) f P is h = subst P (sym is) h

pub if_ok_both : {A F : Type 0} (r : Result A F) (P Q R : A → Type 0) → IfOk r P → IfOk r Q → ((a : A) → P a → Q a → R a) → IfOk r R
if_ok_both (Ok a) P Q R p q f = f a p q
if_ok_both (Err e) P Q R p q f = tt

pub if_err_both : {A F : Type 0} (r : Result A F) (P Q R : F → Type 0) → IfErr r P → IfErr r Q → ((e : F) → P e → Q e → R e) → IfErr r R
if_err_both (Ok a) P Q R p q f = tt
if_err_both (Err e) P Q R p q f = f e p q

-- ---- an opening of a station: an opening of its keeper, and perhaps the first save
module _ {D : Type 0} (w : Setting) (G : Ghosts D) (old mid : D) (opened : IsOpening G.seen G.may_leave G.moment G.left_since old mid) where
  abbrev Raised : List ℕ → Type 0
  Raised c = FindsBegun w (found_body (G.seen old)) c

  abbrev Begun : List ℕ → Type 0
  Begun c = FindsOpening w (G.seen old) (G.may_leave old) c

  first : LeavesSince G.moment G.left_since old mid Begun
  first = weaker G.moment G.left_since G.may_leave old mid (FindsAs (G.may_leave old)) Begun (λ c found. inl found) opened.any_moment

  -- only the keeper
  pub only_opened : IsBeginning w G old mid
  only_opened = record {
    any_moment = first;
    settled = ⊎_elim (λ fewer. inl fewer) (λ same. inr (λ c left. inl (same c left))) opened.settled;
  }

  module _ (body : Option (List ℕ)) (new : D) (s : State) (begun : IsBegun w body s)
      (counts_mid : (t : ℕ) (c : List ℕ) → t ≤ G.moment mid → G.may_leave mid c → G.left_since mid t c) (counts_new : (t : ℕ) (c : List ℕ) → t ≤ G.moment new → G.may_leave new c → G.left_since new t c)
      (kept : Leaves (G.may_leave mid) (FindsBody body)) (here : FindsBody body (G.seen old))
      (saving : LeavesSince G.moment G.left_since mid new (FindsRunning (G.may_leave mid) s)) where
    from : Leaves (G.may_leave mid) (FindsAs (G.may_leave old))
    from = at_end G.moment G.left_since G.may_leave old mid (FindsAs (G.may_leave old)) counts_mid opened.any_moment

    raised : (c : List ℕ) → FindsState s c → Raised c
    raised c finds = (s, subst (λ (b : Option (List ℕ)). IsBegun w b s) (sym here.body_is) begun, finds)

    -- and the first save, however it ended
    pub then_saved : IsBeginning w G old new
    then_saved = record {
      any_moment = chained G.moment G.left_since G.may_leave old mid new Begun first
          (weaker G.moment G.left_since G.may_leave mid new (FindsRunning (G.may_leave mid) s) Begun
          (λ c either. ⊎_elim (λ found. inl (as_before (G.may_leave mid) (G.may_leave old) from c found)) (λ finds. inr (raised c finds)) either)
          saving);
      settled = inr (λ c left. ⊎_elim
          (λ found. inl (both_as body c (G.seen old) (as_found (G.may_leave mid) body kept c found) here))
          (λ finds. inr (raised c finds))
          (at_end G.moment G.left_since G.may_leave mid new (FindsRunning (G.may_leave mid) s) counts_new saving c left));
    }
