-- How old a file is, as it is said.
use Rattle.std.proofs.Common.{◌≡◌, ◌∷◌, List, ℕ, [], ap, inl, inr, refl, subst}
use Rattle.std.specs.Prelude.{None, Option, Result, Ok, Err, Some}
use Rattle.std.specs.Result.{result_ok}
use Rattle.std.specs.declared.time.SystemTime.{SystemTime}
use Rattle.mon_host.specs.AtHost.{AtHost, Dated, FileDated, FileUndated, Undated, dating_file, telling_date}
use Rattle.mon_host.specs.Log.{GoesOn, GoesOnBy}
use Rattle.mon_host.specs.Reason.{why}
use Rattle.mon_host.specs.declared.reason.Reason.{Reason}
use Rattle.mon_host.proofs.Promised.{goes_on}
use Rattle.mon_console.specs.declared.failure.Failure.{Failure}
use Rattle.mon_file_commands.specs.Age.{IsAge, IsAgeSaid, IsSinceSaid, age_lines, seconds_between}
use Rattle.mon_file_commands.specs.Line.{AreNoted}

module _ (path : List ℕ) (changed : SystemTime) where
  -- the wall clock gave the time, and the age was said
  pub since_said : (r : Result SystemTime Reason) (now : SystemTime) (t0 t1 t2 : Option (List AtHost)) → result_ok r ≡ Some now → GoesOn (telling_date r ∷ []) t0 t1
      → GoesOnBy (AreNoted (age_lines path (seconds_between changed now))) t1 t2 → GoesOnBy (λ log. IsSinceSaid path changed log (seconds_between changed now)) t0 t2
  since_said (Ok time) now t0 t1 t2 is asked noted =
      let same : now ≡ time = cc in
      record {
        more = Dated time ∷ noted.more;
        holds = inr (time, noted.more, subst (λ (n : SystemTime). AreNoted (age_lines path (seconds_between changed n)) noted.more) same noted.holds, refl, ap (λ (n : SystemTime). seconds_between changed n) same);
        on = goes_on (Dated time ∷ []) noted.more t0 t1 t2 asked noted.on;
      }
  since_said (Err reason) now t0 t1 t2 is asked noted = absurd (let never : ⊥ = cc in never)

  -- it did not
  pub since_unsaid : (r : Result SystemTime Reason) (t0 t1 : Option (List AtHost)) → result_ok r ≡ None → GoesOn (telling_date r ∷ []) t0 t1 → GoesOnBy (λ log. IsSinceSaid path changed log None) t0 t1
  since_unsaid (Ok time) t0 t1 is asked = absurd (let never : ⊥ = cc in never)
  since_unsaid (Err reason) t0 t1 is asked = record { more = Undated (why reason) ∷ []; holds = inl (why reason, refl, refl); on = asked }

module _ (path : List ℕ) where
  -- the system gave when the file was changed
  pub age_said : (r : Result SystemTime Reason) (changed : SystemTime) (age : Option ℕ) (t0 t1 t2 : Option (List AtHost)) → result_ok r ≡ Some changed → GoesOn (dating_file path r ∷ []) t0 t1
      → GoesOnBy (λ log. IsSinceSaid path changed log age) t1 t2 → GoesOnBy (λ log. IsAgeSaid path log age) t0 t2
  age_said (Ok time) changed age t0 t1 t2 is asked said =
      let same : changed ≡ time = cc in
      record {
        more = FileDated path time ∷ said.more;
        holds = inr (time, said.more, subst (λ (n : SystemTime). IsSinceSaid path n said.more age) same said.holds, refl);
        on = goes_on (FileDated path time ∷ []) said.more t0 t1 t2 asked said.on;
      }
  age_said (Err reason) changed age t0 t1 t2 is asked said = absurd (let never : ⊥ = cc in never)

  -- it did not
  pub age_unsaid : (r : Result SystemTime Reason) (t0 t1 : Option (List AtHost)) → result_ok r ≡ None → GoesOn (dating_file path r ∷ []) t0 t1 → GoesOnBy (λ log. IsAgeSaid path log None) t0 t1
  age_unsaid (Ok time) t0 t1 is asked = absurd (let never : ⊥ = cc in never)
  age_unsaid (Err reason) t0 t1 is asked = record { more = FileUndated path (why reason) ∷ []; holds = inl (why reason, refl, refl); on = asked }

-- the age of a file was said, as a step
pub aged : (path own : List ℕ) (age : Option ℕ) (before after : Option (List AtHost)) → own ≡ path → GoesOnBy (λ log. IsAgeSaid own log age) before after
    → GoesOnBy (λ log. IsAge path log (let r : Result (Option ℕ) Failure = Ok age in r)) before after
aged path own age before after same said = subst (λ (p : List ℕ). GoesOnBy (λ log. IsAgeSaid p log age) before after) same said
