-- A save at a keeper that is reopened first.
use Rattle.std.specs.Prelude.{IfErr, OnErr}
use Rattle.std.proofs.Common.{Result, Ok, Err, ℕ, ◌≡◌, ◌≤◌, ◌+◌, ◌-◌, ◌^◌, inl, inr, ⊎_elim, true, false, List, length, refl, sym, ◌∙◌, ap, subst, arith, Option, Some}
use Rattle.std.proofs.lemmas.Bool.{cases_Bool}
use Rattle.mon_disk.specs.Disk.{Leaves}
use Rattle.mon_disk.specs.Fault.{HasDiskCause, is_of_save}
use Rattle.mon_disk.specs.File.{found}
use Rattle.mon_disk.specs.History.{FindsAgain, FindsRunning}
use Rattle.mon_disk.specs.Keeper.{FindsAs, FindsBody, found_generation}
use Rattle.mon_disk.specs.Kept.{device_of, is_spoiled, last_body, last_generation}
use Rattle.mon_disk.specs.Reopen.{IsReopening}
use Rattle.mon_disk.specs.Save.{IsSave}
use Rattle.mon_disk.specs.declared.disk.Disk.{Ghosts}
use Rattle.mon_disk.specs.declared.fault.KeeperFault.{KeeperFault}
use Rattle.mon_disk.specs.declared.fault.KeeperFault.TheVariants as keeper
use Rattle.mon_disk.specs.declared.file.TheConstants.{SLOT_SIZE}
use Rattle.mon_disk.specs.declared.keeper.Keeper.{Keeper}
use Rattle.mon_disk.proofs.Promised.{as_found, chained, itself, weaker}
use Rattle.mon_station.specs.Mended.{IsMendedFault, IsMendedSave}
use Rattle.mon_station.specs.Saved.{OrLast}
use Rattle.mon_station.proofs.Kept.{disk_cause}

-- an opening finds again what a keeper that mends itself goes back to
as_last : (outcomes : List ℕ → Type 0) (last : Option (List ℕ)) (c : List ℕ) → FindsBody last c → FindsAs (OrLast outcomes last) c
as_last outcomes last c finds = itself (OrLast outcomes last) c (inr finds)

as_either : (outcomes : List ℕ → Type 0) (last : Option (List ℕ)) (c : List ℕ) → FindsAs outcomes c → FindsAs (OrLast outcomes last) c
as_either outcomes last c finds = (finds.0, inl finds.1, finds.2)

reopening : (outcomes : List ℕ → Type 0) (last : Option (List ℕ)) (body c : List ℕ) → FindsAgain last outcomes c → FindsRunning (Some body) (OrLast outcomes last) c
reopening outcomes last body c again = ⊎_elim (λ before. inl (as_either outcomes last c before)) (λ finds. inl (as_last outcomes last c finds)) again

saving : (outcomes mid : List ℕ → Type 0) (last : Option (List ℕ)) (body c : List ℕ) → Leaves mid (FindsBody last) → FindsRunning (Some body) mid c → FindsRunning (Some body) (OrLast outcomes last) c
saving outcomes mid last body c kept either = ⊎_elim (λ before. inl (as_last outcomes last c (as_found mid last kept c before))) (λ new. inr new) either

-- of a save's faults
mended_fault : (e : KeeperFault) → is_of_save e ≡ true → (e ≡ keeper.Reopen → ⊥) → (e ≡ keeper.TooLarge → ⊥) → IsMendedFault e
mended_fault keeper.OutOfMemory of fresh fits = absurd (let no : false ≡ true = of in cc)
mended_fault keeper.DiskFault of fresh fits = tt
mended_fault keeper.NoMoreGenerations of fresh fits = tt
mended_fault keeper.TooLarge of fresh fits = absurd (fits refl)
mended_fault keeper.Damaged of fresh fits = absurd (let no : false ≡ true = of in cc)
mended_fault keeper.Reopen of fresh fits = absurd (fresh refl)

module _ {X : Type 0} {G : Ghosts X} (body : List ℕ) (old mid : Keeper X G) where
  -- the reopening failed
  pub not_mended : (e : KeeperFault) → IsReopening {T = Unit {0}} old mid (Err e) → IsMendedSave {T = Unit {0}} body old mid (Err e)
  not_mended e r = record {
    saved = λ h. tt;
    last = λ h. tt;
    last_err = λ h. r.last h;
    any_moment = λ h. weaker G.moment G.left_since G.may_leave (device_of old) (device_of mid) _ _ (reopening (G.may_leave (device_of old)) (last_body old) body) (r.on_disk h).any_moment;
    fault = subst IsMendedFault (sym r.fault) tt;
    unsaved = λ other. absurd (other r.fault);
    no_more = λ is. absurd (let no : keeper.DiskFault ≡ keeper.NoMoreGenerations = sym r.fault ∙ was is in cc);
    no_more_found = λ h is. absurd (let no : keeper.DiskFault ≡ keeper.NoMoreGenerations = sym r.fault ∙ was is in cc);
    fresh = tt;
    spoiled = λ is. r.spoiled;
    honest = r.honest;
    count = r.count;
    told = r.told;
  }
    where
      was : {a b : KeeperFault} → ◌≡◌ {A = Result (Unit {0}) KeeperFault} (Err a) (Err b) → a ≡ b
      was is = cc

  module _ (new : Keeper X G) (r : IsReopening {T = Unit {0}} old mid (Ok (tt {0}))) (fits : length body + 17 ≤ SLOT_SIZE) where
    -- a keeper at its last generation was not reopened
    not_last : last_generation mid ≡ 2 ^ 64 - 1 → mid ≡ old
    not_last full = ⊎_elim
        (λ (spoiled : is_spoiled old ≡ true). absurd (omega (arith, r.more spoiled, full, r.generation)))
        (λ (fresh : is_spoiled old ≡ false). (r.none fresh).1)
        (cases_Bool (is_spoiled old))

    pub is_mended : (result : Result (Unit {0}) KeeperFault) → IsSave 6 body mid new result → IfErr result (λ e. is_of_save e ≡ true) → IsMendedSave body old new result
    is_mended result s of = record {
      saved = λ h. (s.on_disk (r.honest.0 h)).saved (omega arith);
      last = λ h. s.last (r.honest.0 h) (omega arith);
      last_err = λ h. on_err result (last_body new ≡ last_body mid) (last_body new ≡ last_body old) (λ (same : last_body new ≡ last_body mid). same ∙ r.last h) (s.last_err (r.honest.0 h));
      any_moment = λ h.
          let disk = r.on_disk h in
          chained G.moment G.left_since G.may_leave (device_of old) (device_of mid) (device_of new) _
          (weaker G.moment G.left_since G.may_leave (device_of old) (device_of mid) _ _ (reopening (G.may_leave (device_of old)) (last_body old) body) disk.any_moment)
          (weaker G.moment G.left_since G.may_leave (device_of mid) (device_of new) _ _ (λ c. saving (G.may_leave (device_of old)) (G.may_leave (device_of mid)) (last_body old) body c disk.kept) (s.on_disk (r.honest.0 h)).any_moment);
      fault = faults result s of;
      unsaved = stays result s of;
      no_more = λ is. sym r.generation ∙ (s.refused.no_more.1 is).1;
      no_more_found = λ h is. subst (λ (k : Keeper X G). found_generation (found SLOT_SIZE (G.seen (device_of k))) ≡ 2 ^ 64 - 1) (not_last (s.refused.no_more.1 is).1) ((s.on_disk (r.honest.0 h)).no_more_found is);
      fresh = s.fresh;
      spoiled = s.spoiled;
      honest = ((λ h. s.honest.0 (r.honest.0 h)), (λ h. r.honest.1 (s.honest.1 h)));
      count = omega (arith, r.count, s.count);
      told = later result s.told;
    }
      where
        on_err : (x : Result (Unit {0}) KeeperFault) (P Q : Type 0) → (P → Q) → OnErr x P → OnErr x Q
        on_err (Ok x) P Q f p = tt
        on_err (Err e) P Q f p = f p

        faults : (x : Result (Unit {0}) KeeperFault) → IsSave 6 body mid new x → IfErr x (λ e. is_of_save e ≡ true) → IfErr x IsMendedFault
        faults (Ok x) s of = tt
        faults (Err e) s of = mended_fault e of
            (λ is. absurd (let no : true ≡ false = sym (s.refused.reopen.1 (ap Err is)) ∙ r.fresh in cc))
            (λ is. omega (arith, fits, (s.refused.too_large.1 (ap Err is)).2))

        stays : (x : Result (Unit {0}) KeeperFault) → IsSave 6 body mid new x → IfErr x (λ e. is_of_save e ≡ true) → IfErr x (λ e. (e ≡ keeper.DiskFault → ⊥) → new ≡ old)
        stays (Ok x) s of = tt
        stays (Err keeper.OutOfMemory) s of = absurd (let no : false ≡ true = of in cc)
        stays (Err keeper.DiskFault) s of = λ other. absurd (other refl)
        stays (Err keeper.NoMoreGenerations) s of = λ other. s.same other ∙ not_last (s.refused.no_more.1 refl).1
        stays (Err keeper.TooLarge) s of = absurd (omega (arith, fits, (s.refused.too_large.1 refl).2))
        stays (Err keeper.Damaged) s of = absurd (let no : false ≡ true = of in cc)
        stays (Err keeper.Reopen) s of = absurd (let no : true ≡ false = sym (s.refused.reopen.1 refl) ∙ r.fresh in cc)

        later : (x : Result (Unit {0}) KeeperFault) → IfErr x (HasDiskCause (G.faults (device_of mid)) (G.faults (device_of new))) → IfErr x (HasDiskCause (G.faults (device_of old)) (G.faults (device_of new)))
        later (Ok x) cause = tt
        later (Err e) cause = disk_cause (G.faults (device_of old)) (G.faults (device_of mid)) (G.faults (device_of new)) e r.count cause
