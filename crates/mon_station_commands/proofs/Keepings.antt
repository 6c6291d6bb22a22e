-- A station's file that was removed or replaced.
use Rattle.std.proofs.Common.{◌≡◌, ◌++◌, ◌∷◌, List, ℕ, [], Bool, false, refl, subst, true}
use Rattle.std.specs.Prelude.{IfErr, Option, Result, Ok, Err}
use Rattle.std.specs.declared.io.Error.{Error}
use Rattle.mon_console.specs.declared.failure.Failure.{Failure}
use Rattle.mon_host.specs.AtHost.{AtHost, finding_node}
use Rattle.mon_host.specs.Log.{GoesOn, GoesOnBy}
use Rattle.mon_host.specs.declared.level.Level.TheVariants as level
use Rattle.mon_host.specs.declared.reason.Reason.{Reason}
use Rattle.mon_host.proofs.Promised.{goes_on, weaker}
use Rattle.mon_station_commands.specs.Keeping.{IsFileKept, IsKeptBy, IsMoveSaid, IsNoFile, IsTaken, IsToldIf, found_by, moved_line, strayed_lines}
use Rattle.mon_file_commands.specs.Line.{AreNoted, stated}
use Rattle.mon_station_commands.specs.Quiet.{AreQuiet}
use Rattle.mon_station_commands.specs.declared.keeping.Found.{Found}
use Rattle.mon_station_commands.specs.declared.keeping.Found.TheVariants as found
use Rattle.mon_station_commands.proofs.Quiets.{are_noted, are_quiet_as, are_quiet_on, is_told_more}

node_quiet : (path : List ℕ) (at : Result (Option (ℕ × ℕ)) Reason) (rest : List AtHost) → AreQuiet rest → AreQuiet (finding_node path at ∷ rest)
node_quiet path (Ok found) rest quiet = quiet
node_quiet path (Err reason) rest quiet = quiet

told_quiet : (known : Bool) (failure : Failure) (log : List AtHost) → IsToldIf known failure log → AreQuiet log
told_quiet true failure log is = are_quiet_as [] log is refl
told_quiet false failure log is = are_quiet_as _ log is.log_is (is_told_more _ _ _ is.rest is.more)

module _ (round : ℕ) (path : List ℕ) (known : Bool) where
  move_quiet : (moved : Result Unit Failure) (log : List AtHost) (after : Bool) → IsMoveSaid round path known moved log after → AreQuiet log
  move_quiet (Ok done) log after is = are_noted (stated level.Notice (moved_line round path) ∷ []) log is.0
  move_quiet (Err failure) log after is = told_quiet known failure log is.0

  taken_quiet : (what : List ℕ) (log : List AtHost) (after : Bool) → IsTaken round path what known log after → AreQuiet log
  taken_quiet what log after is = are_quiet_as (is.begin ++ is.rest) log is.log_is
      (are_quiet_on is.begin is.rest (are_noted (strayed_lines round path what known) is.begin is.strayed) (move_quiet is.moved is.rest after is.said))

  kept_quiet : (f : Found) (log : List AtHost) (after : Bool) → IsKeptBy f round path known log after → AreQuiet log
  kept_quiet found.Own log after is = are_quiet_as [] log is.0 refl
  kept_quiet found.Nothing log after is = taken_quiet _ log after is
  kept_quiet found.Other log after is = taken_quiet _ log after is

  -- `AreQuiet` holds of a look at which file is there, and of what is done about it
  pub look_quiet : (after : Bool) (t0 t1 : Option (List AtHost)) → GoesOnBy (λ log. IsFileKept round path known log after) t0 t1 → GoesOnBy AreQuiet t0 t1
  look_quiet after t0 t1 = weaker (λ log. IsFileKept round path known log after) AreQuiet t0 t1
      (λ log is. are_quiet_as (finding_node path is.at ∷ is.rest) log is.log_is (node_quiet path is.at is.rest (kept_quiet (found_by is.at is.own) is.rest after is.done)))

  -- what became of a file, and then whether the windows are saved again
  pub taken : (what own own2 : List ℕ) (moved : Result Unit Failure) (after : Bool) (t0 t1 t2 : Option (List AtHost)) → own ≡ path → own2 ≡ path → IfErr moved (IsNoFile path)
      → GoesOnBy (AreNoted (strayed_lines round own what known)) t0 t1 → GoesOnBy (λ log. IsMoveSaid round own2 known moved log after) t1 t2
      → GoesOnBy (λ log. IsTaken round path what known log after) t0 t2
  taken what own own2 moved after t0 t1 t2 same same2 refused first second = record {
    more = first.more ++ second.more;
    holds = record {
      moved = moved;
      refused = refused;
      begin = first.more;
      strayed = subst (λ (p : List ℕ). AreNoted (strayed_lines round p what known) first.more) same first.holds;
      rest = second.more;
      said = subst (λ (p : List ℕ). IsMoveSaid round p known moved second.more after) same2 second.holds;
      log_is = refl;
    };
    on = goes_on first.more second.more t0 t1 t2 first.on second.on;
  }

  -- what the system says is at the path, and what is done about it
  pub looked : (own_path : List ℕ) (at : Result (Option (ℕ × ℕ)) Reason) (own : Result (ℕ × ℕ) Error) (f : Found) (after : Bool) (t0 t1 t2 : Option (List AtHost))
      → own_path ≡ path → f ≡ found_by at own → GoesOn (finding_node own_path at ∷ []) t0 t1 → GoesOnBy (λ log. IsKeptBy f round path known log after) t1 t2
      → GoesOnBy (λ log. IsFileKept round path known log after) t0 t2
  looked own_path at own f after t0 t1 t2 same is asked done = record {
    more = finding_node path at ∷ done.more;
    holds = record {
      at = at;
      own = own;
      rest = done.more;
      done = subst (λ (k : Found). IsKeptBy k round path known done.more after) is done.holds;
      log_is = refl;
    };
    on = goes_on (finding_node path at ∷ []) done.more t0 t1 t2 (subst (λ (p : List ℕ). GoesOn (finding_node p at ∷ []) t0 t1) same asked) done.on;
  }
