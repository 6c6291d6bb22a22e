-- The opening of a station.
use Rattle.std.proofs.Common.{◌≡◌, ◌++◌, List, ℕ, [], inl, inr, refl, subst, sym}
use Rattle.std.specs.Prelude.{IsErrAnd, Option, None, Result, Ok, Err}
use Rattle.std.specs.declared.alloc.AllocError.{AllocError}
use Rattle.std.specs.declared.net.socket_addr.SocketAddr.{SocketAddr}
use Rattle.mon_console.specs.Failure.{IsMemory}
use Rattle.mon_console.specs.declared.failure.Failure.{Failure}
use Rattle.mon_console.specs.declared.printing.Printing.{Printing}
use Rattle.mon_host.specs.AtHost.{AtHost}
use Rattle.mon_host.specs.Log.{GoesOnBy}
use Rattle.mon_host.proofs.Promised.{goes_on, stays, weaker}
use Rattle.mon_station.specs.State.{State}
use Rattle.mon_station_commands.specs.Opening.{IsNoStation}
use Rattle.mon_station_commands.specs.Steps.{only}
use Rattle.mon_file_commands.specs.Line.{AreNoted}
use Rattle.mon_station_commands.specs.Telling.{AreSaid, IsOpened, IsOpening, opened_to, raised_notes, start_lines}

module _ (number : ℕ) (at : SocketAddr) (file : List ℕ) (targets peers : ℕ) (printing : Printing) where
  pub unopened : {L : Type 0} → (f : L → State) (failure : Failure) (r : Result L Failure) (told : Option (List AtHost)) → r ≡ Err failure → IsNoStation failure
      → GoesOnBy (λ log. IsOpening number at file targets peers printing log (only f r)) told told
  unopened {L} f failure r told is why =
      subst (λ (e : Result L Failure). GoesOnBy (λ log. IsOpening number at file targets peers printing log (only f e)) told told) (sym is)
      record { more = []; holds = inl (refl, why); on = stays told }

  -- memory ran out before anything was said
  pub unwatched : {L : Type 0} → (f : L → State) (r : Result L Failure) (told : Option (List AtHost)) → IsErrAnd r IsMemory
      → GoesOnBy (λ log. IsOpening number at file targets peers printing log (only f r)) told told
  unwatched f (Ok value) told is = absurd is
  unwatched f (Err failure) told is = record { more = []; holds = inl (refl, inl is); on = stays told }

  pub opened : (state : State) (incarnation : ℕ) (told : Result Unit AllocError) (found : Option State) (before between after : Option (List AtHost)) → incarnation ≡ state.incarnation
      → found ≡ opened_to told state → GoesOnBy (AreNoted (start_lines number at incarnation file targets peers)) before between
      → GoesOnBy (λ log. AreSaid (raised_notes printing state.board) log told) between after
      → GoesOnBy (λ log. IsOpened number at file targets peers printing log found) before after
  opened state incarnation told found before between after same is lines raised =
      let begun = subst (λ (n : ℕ). AreNoted (start_lines number at n file targets peers) lines.more) same lines.holds in
      record {
        more = lines.more ++ raised.more;
        holds = record { state = state; told = told; begin = lines.more; begun = begun; rest = raised.more; raised = raised.holds; log_is = refl; found_is = is };
        on = goes_on lines.more raised.more before between after lines.on raised.on;
      }

  -- memory ran out after the first line
  pub half_opened : {L : Type 0} → (f : L → State) (r : Result L Failure) (before after : Option (List AtHost)) → IsErrAnd r IsMemory
      → GoesOnBy (λ log. IsOpened number at file targets peers printing log None) before after
      → GoesOnBy (λ log. IsOpening number at file targets peers printing log (only f r)) before after
  half_opened f (Ok value) before after is opening = absurd is
  half_opened f (Err failure) before after is opening =
      weaker (λ log. IsOpened number at file targets peers printing log None) (λ log. IsOpening number at file targets peers printing log (Err failure)) before after
      (λ log half. inr (half, is)) opening
