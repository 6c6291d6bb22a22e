-- What is received in a wait, one thing after another, and what asking comes to, wait by wait.
use Rattle.std.proofs.Common.{◌≡◌, ◌≢◌, ℕ, true, false, ◌+◌, ◌^◌, ◌<◌, ◌≤◌, arith, List, [], ◌∷◌, ◌++◌, length, refl, sym, ap, ◌∙◌, subst, inl, inr, length-append, add-one}
use Rattle.std.specs.Prelude.{◌⊎◌, All, IfNone, IfOk, IfSome, IsErrAnd, Option, Some, None, Result, Ok, Err}
use Rattle.std.proofs.lemmas.List.Elements.{All-append, All-cons, All-nil}
use Rattle.std.specs.declared.alloc.AllocError.{AllocError}
use Rattle.mon_udp.specs.Told.{GoesOnBy, extended}
use Rattle.mon_udp.proofs.Promised.{extended_by_none, extended_on}
use Rattle.mon_pdu.specs.declared.fault.PduFault.{PduFault}
use Rattle.mon_pdu.specs.declared.fault.PduFault.TheVariants as pdu
use Rattle.mon_pdu.specs.declared.message.Message.{Message}
use Rattle.mon_pdu.specs.Grammar.{BeginsWithMessage}
use Rattle.mon_pdu.specs.Reading.{Fails, message_at}
use Rattle.mon_pdu.specs.Writing.{message_contents}
use Rattle.mon_app.specs.AppFault.{of_message}
use Rattle.mon_app.specs.declared.fault.AppFault.{AppFault}
use Rattle.mon_app.specs.declared.reason.SocketReason.{SocketReason}
use Rattle.mon_app.specs.declared.fault.AppFault.TheVariants as faults
use Rattle.mon_client.specs.declared.wire.Heard.{Heard as AnyHeard}
use Rattle.mon_client.specs.Asking.{AreUnanswered, HoldsNone, HoldsReply, IsAsked, IsStrange, IsWait, EndsWith, request_octets}
use Rattle.mon_client.specs.AtWire.{AtWire, Heard, Quiet, Sent, heard_as, hearing}
use Rattle.mon_client.specs.Question.{QuestionParts, is_reply, request_of}

-- what a wire states
abbrev pub Log : Type 0
Log = Option (List AtWire)

-- what a wire states of what it received
pub happened : {F : Type 0} → (before after : Log) (room : List ℕ) (r : Result AnyHeard F) (h heard : AnyHeard) → after ≡ extended before (hearing room r)
    → r ≡ Ok h → h ≡ heard → after ≡ extended before (heard_as room heard)
happened before after room r h heard told was is = told ∙ (ap (λ x. extended before (hearing room x)) was ∙ ap (λ x. extended before (heard_as room x)) is)

-- a fault that a `?` made
pub fault_is : {A F : Type 0} → (r : Result A F) (fault : F) → IsErrAnd r (λ f. f ≡ fault) → r ≡ Err fault
fault_is (Ok a) fault is = absurd is
fault_is (Err f) fault is = ap Err is

-- octets that could not be read hold no reply
fails_not : (m : Message) (fault : PduFault) → fault ≢ pdu.OutOfMemory → Fails fault (Ok m) → ⊥
fails_not m pdu.OutOfMemory not fails = absurd (not refl)
fails_not m pdu.Truncated not fails = cc
fails_not m pdu.BadTag not fails = cc
fails_not m pdu.BadLength not fails = cc
fails_not m pdu.OutOfRange not fails = cc
fails_not m pdu.BadOid not fails = cc
fails_not m (pdu.BadVersion v) not fails = cc
fails_not m (pdu.UnknownPdu t) not fails = cc

-- what was read is a reply, or it is none
pub holds_reply : (q : QuestionParts) (octets : List ℕ) (read : Message) (r : Option Message) → BeginsWithMessage octets read
    → IfSome r (λ m. (m ≡ read) × (is_reply q read ≡ true)) → IfSome r (HoldsReply q octets)
holds_reply q octets read None begins some = tt
holds_reply q octets read (Some m) begins some = subst (λ (n : Message). HoldsReply q octets n) (sym some.0) (begins, some.1)

module _ (again : (bytes : List ℕ) (m : Message) → BeginsWithMessage bytes m → message_at bytes ≡ Ok m) where
  pub holds_none : (q : QuestionParts) (octets : List ℕ) (read : Message) (r : Option Message) → BeginsWithMessage octets read
      → IfNone r (is_reply q read ≡ false) → IfNone r (HoldsNone q octets)
  holds_none q octets read None begins none = λ m holds.
      let same : m ≡ read = let given = again octets m holds.0 in let found = again octets read begins in cc in
      let not : is_reply q m ≡ false = ap (λ n. is_reply q n) same ∙ none in
      let yes_it_is : is_reply q m ≡ true = holds.1 in cc
  holds_none q octets read (Some m) begins none = tt

  pub unread_holds_none : (q : QuestionParts) (octets : List ℕ) (fault : PduFault) (r : Result (Option Message) AllocError) → Fails fault (message_at octets)
      → IfOk r (λ found. (found ≡ None) × (fault ≢ pdu.OutOfMemory)) → IfOk r (λ found. IfNone found (HoldsNone q octets))
  unread_holds_none q octets fault (Err e) fails is = tt
  unread_holds_none q octets fault (Ok None) fails is = λ m holds. fails_not m fault is.1 (subst (λ (r : Result Message PduFault). Fails fault r) (again octets m holds.0) fails)
  unread_holds_none q octets fault (Ok (Some m)) fails is = tt

-- of octets that could not be read no reply is given
pub unread_gives_none : (q : QuestionParts) (octets : List ℕ) (fault : PduFault) (r : Result (Option Message) AllocError)
    → IfOk r (λ found. (found ≡ None) × (fault ≢ pdu.OutOfMemory)) → IfOk r (λ found. IfSome found (HoldsReply q octets))
unread_gives_none q octets fault (Err e) is = tt
unread_gives_none q octets fault (Ok None) is = tt
unread_gives_none q octets fault (Ok (Some m)) is = let not : Some m ≡ None = is.0 in absurd (let never : ⊥ = cc in never)

-- this many were received, and none of them is a reply
pub record AreHeard (q : QuestionParts) (n : ℕ) (before after : Log) : Type 0 where
  pub strange : List AtWire
  pub none : All (IsStrange q) strange
  pub count : length strange ≡ n
  pub told : after ≡ extended before strange

pub nothing_heard : (q : QuestionParts) (told : Log) → AreHeard q 0 told told
nothing_heard q told = record { strange = []; none = All-nil (IsStrange q); count = refl; told = sym (extended_by_none told) }

-- one thing more
pub one_heard : (q : QuestionParts) (n : ℕ) (before between after : Log) (e : AtWire) → AreHeard q n before between → IsStrange q e
    → after ≡ extended between (e ∷ []) → AreHeard q (n + 1) before after
one_heard q n before between after e heard strange told = record {
  strange = heard.strange ++ e ∷ [];
  none = All-append (IsStrange q) heard.strange (e ∷ []) heard.none (All-cons (IsStrange q) e [] strange (All-nil (IsStrange q)));
  count = length-append heard.strange (e ∷ []) ∙ ap (λ (k : ℕ). k + 1) heard.count;
  told = extended_on before between after heard.strange (e ∷ []) heard.told told;
}

-- the wait's end
pub quiet : (q : QuestionParts) (n : ℕ) (before between after : Log) → AreHeard q n before between → n < 65 → after ≡ extended between (Quiet ∷ [])
    → GoesOnBy (λ log. IsWait q log (Ok None)) before after
quiet q n before between after heard few told = record {
  more = heard.strange ++ Quiet ∷ [];
  holds = record { strange = heard.strange; none = heard.none; ended = inl (omega (arith, heard.count), refl) };
  told = extended_on before between after heard.strange (Quiet ∷ []) heard.told told;
}

pub too_many : (q : QuestionParts) (before after : Log) → AreHeard q 65 before after → GoesOnBy (λ log. IsWait q log (Ok None)) before after
too_many q before after heard = record {
  more = heard.strange;
  holds = record { strange = heard.strange; none = heard.none; ended = inr (heard.count, refl) };
  told = heard.told;
}

-- the reply
pub reply_heard : (q : QuestionParts) (n : ℕ) (before between after : Log) (octets : List ℕ) (m : Message) → AreHeard q n before between → n < 65
    → HoldsReply q octets m → after ≡ extended between (Heard octets ∷ []) → GoesOnBy (λ log. IsWait q log (Ok (Some m))) before after
reply_heard q n before between after octets m heard few holds told = record {
  more = heard.strange ++ Heard octets ∷ [];
  holds = record { strange = heard.strange; passed_over = (heard.none, omega (arith, heard.count)); octets = octets; heard_is = refl; reply = holds };
  told = extended_on before between after heard.strange (Heard octets ∷ []) heard.told told;
}

-- no memory for the message
pub no_room : (q : QuestionParts) (n : ℕ) (before between after : Log) (octets : List ℕ) → AreHeard q n before between → n < 65
    → after ≡ extended between (Heard octets ∷ []) → GoesOnBy (λ log. IsWait q log (Err faults.OutOfMemory)) before after
no_room q n before between after octets heard few told = record {
  more = heard.strange ++ Heard octets ∷ [];
  holds = record { strange = heard.strange; passed_over = (heard.none, omega (arith, heard.count)); octets = octets; heard_is = refl };
  told = extended_on before between after heard.strange (Heard octets ∷ []) heard.told told;
}

-- a wire that failed
pub failed : (reason : SocketReason) (q : QuestionParts) (n : ℕ) (before between after : Log) → AreHeard q n before between → n < 65 → after ≡ extended between []
    → GoesOnBy (λ log. IsWait q log (Err (faults.SocketFault reason))) before after
failed reason q n before between after heard few told = record {
  more = heard.strange;
  holds = (heard.none, omega (arith, heard.count));
  told = told ∙ (extended_by_none between ∙ heard.told);
}

-- this many sendings were not answered
abbrev pub AreSent : QuestionParts → ℕ → Log → Log → Type 0
AreSent q n before after = GoesOnBy (AreUnanswered q n) before after

pub nothing_sent : (q : QuestionParts) (told : Log) → AreSent q 0 told told
nothing_sent q told = record { more = []; holds = refl; told = sym (extended_by_none told) }

-- a sending, and what was received after it
then_heard : (before between sent after : Log) (some heard : List AtWire) (octets : List ℕ) → between ≡ extended before some → sent ≡ extended between (Sent octets ∷ [])
    → after ≡ extended sent heard → after ≡ extended before (some ++ Sent octets ∷ heard)
then_heard before between sent after some heard octets first second third =
    extended_on before between after some (Sent octets ∷ heard) first (extended_on between sent after (Sent octets ∷ []) heard second third)

pub one_sent : (q : QuestionParts) (n : ℕ) (before between sent after : Log) (octets : List ℕ) → AreSent q n before between → octets ≡ request_octets q
    → sent ≡ extended between (Sent octets ∷ []) → GoesOnBy (λ log. IsWait q log (Ok None)) sent after → AreSent q (n + 1) before after
one_sent q n before between sent after octets earlier are told wait =
    let told_then : sent ≡ extended between (Sent (request_octets q) ∷ []) = subst (λ (o : List ℕ). sent ≡ extended between (Sent o ∷ [])) are told in
    subst (λ (k : ℕ). AreSent q k before after) (sym (add-one n)) (record {
      more = earlier.more ++ Sent (request_octets q) ∷ wait.more;
      holds = (earlier.more, wait.more, earlier.holds, wait.holds, refl);
      told = then_heard before between sent after earlier.more wait.more (request_octets q) earlier.told told_then wait.told;
    })

-- the last sending
pub last_sent : (q : QuestionParts) (n : ℕ) (before between sent after : Log) (octets : List ℕ) (last : Result (Option Message) AppFault) → AreSent q n before between → n < 3
    → octets ≡ request_octets q → sent ≡ extended between (Sent octets ∷ []) → GoesOnBy (λ log. IsWait q log last) sent after
    → GoesOnBy (λ log. EndsWith q log last) before after
last_sent q n before between sent after octets last earlier few are told wait =
    let told_then : sent ≡ extended between (Sent (request_octets q) ∷ []) = subst (λ (o : List ℕ). sent ≡ extended between (Sent o ∷ [])) are told in
    record {
      more = earlier.more ++ Sent (request_octets q) ∷ wait.more;
      holds = record { sendings = n; few = few; before = earlier.more; unanswered = earlier.holds; heard = wait.more; wait = wait.holds; log_is = refl };
      told = then_heard before between sent after earlier.more wait.more (request_octets q) earlier.told told_then wait.told;
    }

-- a fault of the last wait is that of asking
pub fault_of_wait : (q : QuestionParts) (before after : Log) (fault : AppFault) → GoesOnBy (λ log. EndsWith q log (Err fault)) before after
    → GoesOnBy (λ log. IsAsked q log (Err fault)) before after
fault_of_wait q before after fault wait = record { more = wait.more; holds = by_cases fault wait.more wait.holds; told = wait.told }
  where
    by_cases : (fault : AppFault) (log : List AtWire) → EndsWith q log (Err fault) → IsAsked q log (Err fault)
    by_cases (faults.SocketFault reason) log ends = inl ends
    by_cases faults.OutOfMemory log ends = inl ends
    by_cases faults.Timeout log ends = absurd ends.wait
    by_cases faults.FileFault log ends = absurd ends.wait
    by_cases faults.NotIncreasing log ends = absurd ends.wait
    by_cases (faults.AgentStatus status index) log ends = absurd ends.wait
    by_cases faults.BadText log ends = absurd ends.wait

-- a sending that failed
pub unsent : (reason : SocketReason) (q : QuestionParts) (n : ℕ) (before between after : Log) → AreSent q n before between → n < 3 → after ≡ extended between []
    → GoesOnBy (λ log. IsAsked q log (Err (faults.SocketFault reason))) before after
unsent reason q n before between after earlier few told = record {
  more = earlier.more;
  holds = inr (record { sendings = n; few = few; unanswered = earlier.holds });
  told = told ∙ (extended_by_none between ∙ earlier.told);
}

-- no memory for the request
pub no_request : (q : QuestionParts) (told : Log) → GoesOnBy (λ log. IsAsked q log (Err faults.OutOfMemory)) told told
no_request q told = record {
  more = [];
  holds = inr (record { sendings = 0; few = omega arith; unanswered = refl });
  told = sym (extended_by_none told);
}

-- no octets for the request
pub unwritable : (q : QuestionParts) (told : Log) (m : Message) (fault : PduFault) → m ≡ request_of q
    → (fault ≡ pdu.OutOfMemory) ⊎ ((fault ≡ pdu.BadLength) × (2 ^ 32 ≤ length (message_contents m))) → GoesOnBy (λ log. IsAsked q log (Err (of_message fault))) told told
unwritable q told m fault is (inl memory) =
    subst (λ (f : PduFault). GoesOnBy (λ log. IsAsked q log (Err (of_message f))) told told) (sym memory) (no_request q told)
unwritable q told m fault is (inr (long, most)) =
    subst (λ (f : PduFault). GoesOnBy (λ log. IsAsked q log (Err (of_message f))) told told) (sym long) (record {
      more = [];
      holds = (refl, subst (λ (n : Message). 2 ^ 32 ≤ length (message_contents n)) is most);
      told = sym (extended_by_none told);
    })
