-- Serving an agent datagram by datagram, at its port and on standard error.
use Rattle.std.proofs.Common.{◌≡◌, ℕ, suc, ◌+◌, ◌<◌, List, [], ◌∷◌, ◌++◌, refl, sym, ap, ◌∙◌, subst, inl, inr, add-one}
use Rattle.std.specs.Prelude.{IsErrAnd, Option, Result, Ok, Err, option_map, string_bytes}
use Rattle.std.proofs.lemmas.List.{append-nil}
use Rattle.mon_agent.specs.declared.reply.Reply.{Reply}
use Rattle.mon_serving.proofs.Servings.{joined, nothing}
use Rattle.mon_serving.specs.AtPort.{AtPort, Happens}
use Rattle.mon_serving.specs.Served.{IsServed}
use Rattle.mon_app.specs.declared.fault.AppFault.{AppFault}
use Rattle.mon_app.specs.declared.fault.AppFault.TheVariants as faults
use Rattle.mon_app.specs.declared.fault.SocketFault.{SocketFault}
use Rattle.mon_serving.specs.declared.serving.Served.{Served}
use Rattle.mon_serving.specs.declared.serving.Served.TheVariants.{Untaken}
use Rattle.mon_commands.specs.Serving.{AreServed, IsCutOff, IsNextServed, IsServing, untaken_lines}
use Rattle.mon_console.specs.Failure.{IsMemory, IsPlain, IsTold, IsToldMore, first_line, is_memory}
use Rattle.mon_console.specs.declared.failure.Failure.{Failure}
use Rattle.mon_faults.specs.declared.fault.Fault.{Fault}
use Rattle.mon_faults.specs.declared.fault.Fault.TheVariants.{App}
use Rattle.mon_host.proofs.Promised.{goes_on, stays, weaker}
use Rattle.mon_host.specs.AtHost.{AtHost, Noted}
use Rattle.mon_host.specs.declared.level.Level.TheVariants as level
use Rattle.mon_host.specs.Log.{GoesOnBy}

-- what a port states, and what a host states
abbrev pub Port : Type 0
Port = Option (List AtPort)

abbrev pub Done : Type 0
Done = Option (List AtHost)

-- this happened at a port, and this was done meanwhile
abbrev pub Meanwhile : (List AtPort → List AtHost → Type 0) → (done more : Done) → (told_0 told_1 : Port) → (count_0 count_1 : ℕ) → Type 0
Meanwhile Holds done more told_0 told_1 count_0 count_1 = Happens (λ at_port. GoesOnBy (λ log. Holds at_port log) done more) told_0 told_1 count_0 count_1

-- what holds of one policy and settings holds of equal ones
pub moved : {P S : Type 0} → (Holds : P → S → Type 0) (policy other : P) (settings others : S) → policy ≡ other → settings ≡ others → Holds policy settings
    → Holds other others
moved Holds policy other settings others same alike holds = subst (λ s. Holds other s) alike (subst (λ p. Holds p settings) same holds)

-- a failure that says that memory ran out is reported in one line
pub told_of_memory : (failure : Failure) (done more : Done) → IsMemory failure → GoesOnBy (IsTold level.Warning failure) done more
    → GoesOnBy (λ log. log ≡ untaken_lines Untaken) done more
told_of_memory failure done more memory told =
    weaker (IsTold level.Warning failure) (λ log. log ≡ untaken_lines Untaken) done more (λ log is.
    let none : is.rest ≡ [] = subst (λ (f : Fault). IsToldMore level.Warning (is_memory f) (option_map string_bytes failure.more) is.rest) memory.0 is.more in
    is.log_is ∙ (ap (λ (f : Fault). Noted level.Warning (first_line f) ∷ is.rest) memory.0 ∙ ap (λ (l : List AtHost). Noted level.Warning (first_line (App faults.OutOfMemory)) ∷ l) none)) told

module _ {S : Type 0} (Answers : S → S → List ℕ → ℕ → Reply → Type 0) where
  -- the next datagram came, and what is said of it was said
  pub came : (before after : S) (served : Served) (done more : Done) (told_0 told_1 : Port) (count_0 count_1 : ℕ)
      → Happens (λ at_port. IsServed Answers before after at_port (Ok served)) told_0 told_1 count_0 count_1
      → GoesOnBy (λ log. log ≡ untaken_lines served) done more
      → Meanwhile (λ at_port log. IsNextServed Answers before after at_port log (Ok tt)) done more told_0 told_1 count_0 count_1
  came before after served done more told_0 told_1 count_0 count_1 turn said = record {
    more = turn.more;
    holds = weaker (λ log. log ≡ untaken_lines served) (λ log. IsNextServed Answers before after turn.more log (Ok tt)) done more (λ log is. (served, turn.holds, is)) said;
    told = turn.told;
    failures = turn.failures;
  }

  -- no datagram came
  pub none_came : (before after : S) (fault : SocketFault) (r : Result (Unit {0}) AppFault) (done : Done) (told_0 told_1 : Port) (count_0 count_1 : ℕ)
      → IsErrAnd r (λ f. f ≡ faults.SocketFault fault.reason) → Happens (λ at_port. IsServed Answers before after at_port (Err fault)) told_0 told_1 count_0 count_1
      → Meanwhile (λ at_port log. IsNextServed Answers before after at_port log r) done done told_0 told_1 count_0 count_1
  none_came before after fault (Ok value) done told_0 told_1 count_0 count_1 is turn = absurd is
  none_came before after fault (Err f) done told_0 told_1 count_0 count_1 is turn =
      subst (λ (x : AppFault). Meanwhile (λ at_port log. IsNextServed Answers before after at_port log (Err x)) done done told_0 told_1 count_0 count_1) (sym is) (record {
        more = turn.more;
        holds = record { more = []; holds = (turn.holds.0, turn.holds.1, refl); on = stays done };
        told = turn.told;
        failures = turn.failures;
      })

  -- nothing came yet
  pub none_served : (before : S) (done : Done) (told : Port) (count : ℕ) → Meanwhile (λ at_port log. AreServed Answers 0 before before at_port log) done done told told count count
  none_served before done told count = nothing (λ at_port. GoesOnBy (λ log. AreServed Answers 0 before before at_port log) done done) told count
      (record { more = []; holds = (refl, refl, refl); on = stays done })

  -- there was no memory to begin
  pub not_begun : (count : ℕ) (before : S) (r : Result (Unit {0}) Failure) (done : Done) (told : Port) (failures : ℕ) → IsErrAnd r IsMemory
      → Meanwhile (λ at_port log. IsServing Answers count before before at_port log r) done done told told failures failures
  not_begun count before (Ok value) done told failures is = absurd is
  not_begun count before (Err f) done told failures is = nothing (λ at_port. GoesOnBy (λ log. IsServing Answers count before before at_port log (Err f)) done done) told failures
      (record { more = []; holds = inl (record { memory = is; stays = refl; quiet = refl; unsaid = refl }); on = stays done })

  -- one datagram more
  pub one_served : (n : ℕ) (before between after : S) (done_0 done_1 done_2 : Done) (told_0 told_1 told_2 : Port) (count_0 count_1 count_2 : ℕ)
      → Meanwhile (λ at_port log. AreServed Answers n before between at_port log) done_0 done_1 told_0 told_1 count_0 count_1
      → Meanwhile (λ at_port log. IsNextServed Answers between after at_port log (Ok tt)) done_1 done_2 told_1 told_2 count_1 count_2
      → Meanwhile (λ at_port log. AreServed Answers (n + 1) before after at_port log) done_0 done_2 told_0 told_2 count_0 count_2
  one_served n before between after done_0 done_1 done_2 told_0 told_1 told_2 count_0 count_1 count_2 earlier turn =
      subst (λ (k : ℕ). Meanwhile (λ at_port log. AreServed Answers k before after at_port log) done_0 done_2 told_0 told_2 count_0 count_2) (sym (add-one n))
      (joined (λ at_port. GoesOnBy (λ log. AreServed Answers n before between at_port log) done_0 done_1)
      (λ at_port. GoesOnBy (λ log. IsNextServed Answers between after at_port log (Ok tt)) done_1 done_2)
      (λ at_port. GoesOnBy (λ log. AreServed Answers (suc n) before after at_port log) done_0 done_2)
      told_0 told_1 told_2 count_0 count_1 count_2 earlier turn (λ first last served one. record {
        more = served.more ++ one.more;
        holds = (between, first, last, served.more, one.more, served.holds, one.holds, refl, refl);
        on = goes_on served.more one.more done_0 done_1 done_2 served.on one.on;
      }))

  -- the port failed too often
  pub cut_off : (n count : ℕ) (before between after : S) (fault : AppFault) (r : Result (Unit {0}) Failure) (done_0 done_1 done_2 : Done)
      (told_0 told_1 told_2 : Port) (count_0 count_1 count_2 : ℕ) → n < count → IsErrAnd r (λ failure. IsPlain (App fault) failure)
      → Meanwhile (λ at_port log. AreServed Answers n before between at_port log) done_0 done_1 told_0 told_1 count_0 count_1
      → Meanwhile (λ at_port log. IsNextServed Answers between after at_port log (Err fault)) done_1 done_2 told_1 told_2 count_1 count_2
      → Meanwhile (λ at_port log. IsServing Answers count before after at_port log r) done_0 done_2 told_0 told_2 count_0 count_2
  cut_off n count before between after fault (Ok value) done_0 done_1 done_2 told_0 told_1 told_2 count_0 count_1 count_2 fewer is earlier ends = absurd is
  cut_off n count before between after fault (Err failure) done_0 done_1 done_2 told_0 told_1 told_2 count_0 count_1 count_2 fewer is earlier ends =
      joined (λ at_port. GoesOnBy (λ log. AreServed Answers n before between at_port log) done_0 done_1)
      (λ at_port. GoesOnBy (λ log. IsNextServed Answers between after at_port log (Err fault)) done_1 done_2)
      (λ at_port. GoesOnBy (λ log. IsServing Answers count before after at_port log (Err failure)) done_0 done_2)
      told_0 told_1 told_2 count_0 count_1 count_2 earlier ends (λ first last served end. record {
        more = served.more ++ end.more;
        holds = whole fault first served.more last end.more is served.holds end.holds;
        on = goes_on served.more end.more done_0 done_1 done_2 served.on end.on;
      })
    where
      whole : (f : AppFault) (first : List AtPort) (said : List AtHost) (last : List AtPort) (more : List AtHost) → IsPlain (App f) failure
          → AreServed Answers n before between first said → IsNextServed Answers between after last more (Err f)
          → IsServing Answers count before after (first ++ last) (said ++ more) (Err failure)
      whole (faults.SocketFault reason) first said last more plain served end = inr (
        reason,
        plain,
        record {
          taken = n;
          fewer = fewer;
          earlier = first;
          served = subst (λ (s : S). AreServed Answers n before s first (said ++ more)) (sym end.0)
              (subst (λ (l : List AtHost). AreServed Answers n before between first l) (sym (ap (λ (m : List AtHost). said ++ m) end.2 ∙ append-nil said)) served);
          last = last;
          end = end.1;
          at_port_is = refl;
        },
      )
      whole faults.OutOfMemory first said last more plain served end = absurd end
      whole faults.FileFault first said last more plain served end = absurd end
      whole faults.NotIncreasing first said last more plain served end = absurd end
      whole faults.Timeout first said last more plain served end = absurd end
      whole (faults.AgentStatus status index) first said last more plain served end = absurd end
      whole faults.BadText first said last more plain served end = absurd end
