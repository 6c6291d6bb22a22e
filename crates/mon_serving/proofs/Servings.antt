-- Serving a datagram, step by step, over plain logs.
use Rattle.std.proofs.Common.{◌≡◌, ℕ, ◌+◌, ◌<◌, arith, List, [], ◌∷◌, ◌++◌, take, refl, sym, ap, ◌∙◌, subst, inl, inr, length-append, append_assoc}
use Rattle.std.specs.Prelude.{Option, None, Result, Ok, Err}
use Rattle.std.proofs.lemmas.List.Elements.{All-append, All-cons, All-nil}
use Rattle.mon_udp.specs.Counts.{failed_after, next_count}
use Rattle.mon_udp.specs.Told.{extended}
use Rattle.mon_udp.proofs.Promised.{extended_by_none, extended_on}
use Rattle.mon_app.specs.declared.fault.SocketFault.{SocketFault}
use Rattle.mon_serving.specs.declared.port.Received.{Received as AnyReceived}
use Rattle.mon_serving.specs.AtPort.{AtPort, Received, Failed, Replied, Unsent, Happens, IsReplied, failures_in, receiving}
use Rattle.mon_serving.specs.Served.{AreFailures, IsAwaited, IsEnd, IsFailure, IsNext, IsTurn}

-- what a port states
abbrev pub Log : Type 0
Log = Option (List AtPort)

-- failures are counted one after another
failures_then : (earlier later : List AtPort) (count : ℕ) → failures_in (earlier ++ later) count ≡ failures_in later (failures_in earlier count)
failures_then [] later count = refl
failures_then (Received octets moment ∷ rest) later count = failures_then rest later count
failures_then (Failed reason ∷ rest) later count = failures_then rest later (next_count count)
failures_then (Replied octets ∷ rest) later count = failures_then rest later count
failures_then (Unsent octets ∷ rest) later count = failures_then rest later (next_count count)

-- nothing happened
pub nothing : (Holds : List AtPort → Type 0) (told : Log) (count : ℕ) → Holds [] → Happens Holds told told count count
nothing Holds told count holds = record { more = []; holds = holds; told = sym (extended_by_none told); failures = refl }

-- what happened, and what happened then
pub joined : (First Then Both : List AtPort → Type 0) (told_0 told_1 told_2 : Log) (count_0 count_1 count_2 : ℕ) → Happens First told_0 told_1 count_0 count_1
    → Happens Then told_1 told_2 count_1 count_2 → ((first later : List AtPort) → First first → Then later → Both (first ++ later)) → Happens Both told_0 told_2 count_0 count_2
joined First Then Both told_0 told_1 told_2 count_0 count_1 count_2 first later both = record {
  more = first.more ++ later.more;
  holds = both first.more later.more first.holds later.holds;
  told = extended_on told_0 told_1 told_2 first.more later.more first.told later.told;
  failures = later.failures ∙ (ap (failures_in later.more) first.failures ∙ sym (failures_then first.more later.more count_0));
}

-- a wait, as its contract has it
abbrev pub IsWait : List ℕ → Result AnyReceived SocketFault → Log → Log → ℕ → ℕ → Type 0
IsWait room result told_0 told_1 count_0 count_1 = (told_1 ≡ extended told_0 (receiving room result)) × (count_1 ≡ failed_after result count_0)

wait_happens : (room : List ℕ) (result : Result AnyReceived SocketFault) (told_0 told_1 : Log) (count_0 count_1 : ℕ) → IsWait room result told_0 told_1 count_0 count_1
    → Happens (λ log. log ≡ receiving room result) told_0 told_1 count_0 count_1
wait_happens room (Ok received) told_0 told_1 count_0 count_1 wait = record { more = receiving room (Ok received); holds = refl; told = wait.0; failures = wait.1 }
wait_happens room (Err fault) told_0 told_1 count_0 count_1 wait = record { more = receiving room (Err fault); holds = refl; told = wait.0; failures = wait.1 }

-- a sending over a socket, which states nothing and counts a failure
pub sent_over : {A F : Type 0} (octets : List ℕ) (result : Result A F) (count : ℕ) → Happens (IsReplied octets) None None count (failed_after result count)
sent_over octets (Ok done) count = record { more = Replied octets ∷ []; holds = inl refl; told = refl; failures = refl }
sent_over octets (Err fault) count = record { more = Unsent octets ∷ []; holds = inr refl; told = refl; failures = refl }

-- no wait has failed
pub none_failed : (told : Log) (count : ℕ) → Happens (AreFailures 0) told told count count
none_failed told count = nothing (AreFailures 0) told count (All-nil IsFailure, refl)

-- one wait more failed
pub one_failed : (room : List ℕ) (result : Result AnyReceived SocketFault) (n : ℕ) (told_0 told_1 told_2 : Log) (count_0 count_1 count_2 : ℕ) (fault : SocketFault)
    → Happens (AreFailures n) told_0 told_1 count_0 count_1 → IsWait room result told_1 told_2 count_1 count_2 → result ≡ Err fault
    → Happens (AreFailures (n + 1)) told_0 told_2 count_0 count_2
one_failed room result n told_0 told_1 told_2 count_0 count_1 count_2 fault failures wait is =
    joined (AreFailures n) (λ log. log ≡ receiving room (Err fault)) (AreFailures (n + 1)) told_0 told_1 told_2 count_0 count_1 count_2 failures
    (subst (λ (r : Result AnyReceived SocketFault). Happens (λ log. log ≡ receiving room r) told_1 told_2 count_1 count_2) is
    (wait_happens room result told_1 told_2 count_1 count_2 wait))
    (λ first later are one. subst (λ (l : List AtPort). AreFailures (n + 1) (first ++ l)) (sym one) (one_more first are))
  where
    one_more : (first : List AtPort) → AreFailures n first → AreFailures (n + 1) (first ++ Failed fault.reason ∷ [])
    one_more first are = (
      All-append IsFailure first (Failed fault.reason ∷ []) are.0 (All-cons IsFailure (Failed fault.reason) [] tt (All-nil IsFailure)),
      length-append first (Failed fault.reason ∷ []) ∙ ap (λ (k : ℕ). k + 1) are.1,
    )

-- a datagram came
pub came : (room : List ℕ) (result : Result AnyReceived SocketFault) (n : ℕ) (told_0 told_1 told_2 : Log) (count_0 count_1 count_2 : ℕ) (received : AnyReceived)
    → n < 16 → Happens (AreFailures n) told_0 told_1 count_0 count_1 → IsWait room result told_1 told_2 count_1 count_2 → result ≡ Ok received
    → Happens (IsNext room received) told_0 told_2 count_0 count_2
came room result n told_0 told_1 told_2 count_0 count_1 count_2 received few failures wait is =
    joined (AreFailures n) (λ log. log ≡ receiving room (Ok received)) (IsNext room received) told_0 told_1 told_2 count_0 count_1 count_2 failures
    (subst (λ (r : Result AnyReceived SocketFault). Happens (λ log. log ≡ receiving room r) told_1 told_2 count_1 count_2) is
    (wait_happens room result told_1 told_2 count_1 count_2 wait))
    (λ first later are one. record { count = n; few = few; failed = first; failures = are; log_is = ap (λ (l : List AtPort). first ++ l) one })

-- the last wait that may begin
pub last_wait : (room : List ℕ) (result : Result AnyReceived SocketFault) (told_0 told_1 told_2 : Log) (count_0 count_1 count_2 : ℕ)
    → Happens (AreFailures 15) told_0 told_1 count_0 count_1 → IsWait room result told_1 told_2 count_1 count_2
    → Happens (λ log. IsAwaited room log result) told_0 told_2 count_0 count_2
last_wait room (Ok received) told_0 told_1 told_2 count_0 count_1 count_2 failures wait =
    came room (Ok received) 15 told_0 told_1 told_2 count_0 count_1 count_2 received (omega arith) failures wait refl
last_wait room (Err fault) told_0 told_1 told_2 count_0 count_1 count_2 failures wait =
    joined (AreFailures 15) (λ log. log ≡ receiving room (Err fault)) (IsEnd fault.reason) told_0 told_1 told_2 count_0 count_1 count_2 failures
    (wait_happens room (Err fault) told_1 told_2 count_1 count_2 wait)
    (λ first later are one. record { failed = first; failures = are; log_is = ap (λ (l : List AtPort). first ++ l) one })

-- the datagram that came was taken
pub turned : (Taken : List ℕ → ℕ → List AtPort → Type 0) (Then : List AtPort → Type 0) (room : List ℕ) (received : AnyReceived) (told_0 told_1 told_2 : Log)
    (count_0 count_1 count_2 : ℕ) → Happens (IsNext room received) told_0 told_1 count_0 count_1 → Happens Then told_1 told_2 count_1 count_2
    → ((sent : List AtPort) → Then sent → Taken (take received.len room) received.moment sent) → Happens (IsTurn Taken) told_0 told_2 count_0 count_2
turned Taken Then room received told_0 told_1 told_2 count_0 count_1 count_2 next later taken =
    joined (IsNext room received) Then (IsTurn Taken) told_0 told_1 told_2 count_0 count_1 count_2 next later (λ first sent is then. record {
      count = is.count;
      few = is.few;
      failed = is.failed;
      failures = is.failures;
      datagram = take received.len room;
      moment = received.moment;
      sent = sent;
      taken = taken sent then;
      log_is = ap (λ (l : List AtPort). l ++ sent) is.log_is ∙ append_assoc is.failed (Received (take received.len room) received.moment ∷ []) sent;
    })
