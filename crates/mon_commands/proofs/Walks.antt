-- A walk that has no wire to its agent, and one from a name.
use Rattle.std.proofs.Common.{◌≡◌, arith, length, List, ℕ, [], ◌∷◌, refl, sym, ap, subst, inl, inr, slice_index_or}
use Rattle.std.specs.Prelude.{IsErrAnd, Option, Result, Ok, Err}
use Rattle.mon_app.specs.declared.fault.AppFault.{AppFault}
use Rattle.mon_client.specs.declared.fault.WalkFault.{WalkFault}
use Rattle.mon_client.specs.declared.fault.WalkFault.TheVariants.{App}
use Rattle.mon_client.specs.declared.walking.Stride.{Stride}
use Rattle.mon_client.specs.AtWire.{AtWire}
use Rattle.mon_client.specs.Network.{Agents, agents_by}
use Rattle.mon_app.specs.AppFault.{IsUnopened}
use Rattle.mon_client.specs.Walk.{IsWalk}
use Rattle.mon_commands.specs.Client.{shown_if}
use Rattle.mon_commands.specs.Walking.{IsShown, IsWalkAt, IsWalkOf, IsWalkWithout, next_question}
use Rattle.mon_commands.specs.declared.query.Query.{Query}
use Rattle.mon_console.specs.declared.failure.Failure.{Failure}
use Rattle.mon_host.proofs.Promised.{stays, weaker}
use Rattle.mon_host.specs.AtHost.{AtHost}
use Rattle.mon_host.specs.Log.{GoesOnBy}
use Rattle.mon_udp.specs.Told as wire
use Rattle.mon_udp.specs.declared.addr.Addr.{Addr}

-- nothing is done without a wire
pub without_wire : (agents : Agents) (at : Addr) (show : List ℕ → List ℕ) (stride : Stride) (community start : List ℕ) (r : Result (Unit {0}) WalkFault) (fault : AppFault)
    (log : Option (List AtHost)) → IsErrAnd r (λ f. f ≡ App fault) → agents.Unreached at fault → IsUnopened fault
    → GoesOnBy (λ log. IsWalkAt agents at show stride community start log r) log log
without_wire agents at show stride community start (Ok value) fault log is not why = absurd is
without_wire agents at show stride community start (Err f) fault log is not why =
    record { more = []; holds = inr (refl, subst (IsWalkWithout agents at) (sym is) (not, why)); on = stays log }

-- a walk by a wire that was opened to the agent
pub walked : {W : Type 0} (Opened : Addr → W → Type 0) (Failed : Addr → AppFault → Type 0) (told : W → Option (List AtWire)) (at : Addr) (show : List ℕ → List ℕ)
    (stride : Stride) (community start : List ℕ) (r : Result (Unit {0}) WalkFault) (before after : W) (log_0 log_1 : Option (List AtHost)) → Opened at before
    → wire.GoesOnBy (λ at_wire. GoesOnBy (λ log. IsWalk show (next_question stride community) start at_wire log r) log_0 log_1) (told before) (told after)
    → GoesOnBy (λ log. IsWalkAt (agents_by Opened Failed told) at show stride community start log r) log_0 log_1
walked Opened Failed told at show stride community start r before after log_0 log_1 opened walk = record {
  more = walk.holds.more;
  holds = inl (record {
    before = before;
    opened = opened;
    after = after;
    happened = record { more = walk.more; holds = walk.holds.holds; told = walk.told };
  });
  on = walk.holds.on;
}

-- a list of one has its first element
pub only_one : {A : Type 0} → (xs : List A) (x : A) → length xs ≡ 1 → x ≡ slice_index_or xs 0 x → xs ≡ x ∷ []
only_one [] x one is = absurd (omega (arith, one))
only_one (y ∷ []) x one is = ap (λ a. a ∷ []) (sym is)
only_one (y ∷ z ∷ zs) x one is = absurd (omega (arith, one))

-- what is printed from the one name of a query
pub walked_one : (agents : Agents) (query : Query) (stride : Stride) (names : List (List ℕ)) (start : List ℕ) (r : Result (Unit {0}) Failure) (before after : Option (List AtHost))
    → names ≡ start ∷ []
    → GoesOnBy (λ log. IsShown agents (shown_if query.prints_names query.known) query.agent stride query.community.now start log r) before after
    → GoesOnBy (λ log. IsWalkOf agents query stride names log r) before after
walked_one agents query stride names start r before after is shown =
    subst (λ (ns : List (List ℕ)). GoesOnBy (λ log. IsWalkOf agents query stride ns log r) before after) (sym is)
    (weaker (λ log. IsShown agents (shown_if query.prints_names query.known) query.agent stride query.community.now start log r)
    (λ log. IsWalkOf agents query stride (start ∷ []) log r) before after (λ log line. inr line) shown)
