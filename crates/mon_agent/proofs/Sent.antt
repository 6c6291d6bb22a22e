-- Sizes of responses, and what is sent of them.
use Rattle.std.proofs.Common.{◌≡◌, ◌≢◌, ◌↔◌, true, false, ℕ, ◌<◌, ◌≤◌, ◌^◌, ℤ, pos, negsuc, List, ◌∷◌, length, refl, sym, ap, subst, ◌∙◌, inl, inr, arith}
use Rattle.std.specs.Prelude.{Some, None, Result, Ok, Err, IfOk, All}
use Rattle.std.specs.declared.alloc.AllocError.{AllocError}
use Rattle.std.specs.Global.{Vec}
use Rattle.std.proofs.lemmas.Bool.{cases_eq}
use Rattle.std.proofs.lemmas.List.{length-append}
use Rattle.std.proofs.lemmas.List.Elements.{All-weaker}
use Rattle.mon_ber.specs.Writing.{element, length_octets}
use Rattle.mon_pdu.specs.declared.message.Binding.{Binding}
use Rattle.mon_pdu.specs.declared.message.Body.{Body}
use Rattle.mon_pdu.specs.declared.message.Body.TheVariants as bodies
use Rattle.mon_pdu.specs.declared.message.Message.{Message}
use Rattle.mon_pdu.specs.declared.message.PduKind.{PduKind}
use Rattle.mon_pdu.specs.declared.message.PduKind.TheVariants as kinds
use Rattle.mon_pdu.specs.Writing.{message_contents, written_message}
use Rattle.mon_pdu.specs.declared.fault.PduFault.{PduFault}
use Rattle.mon_pdu.specs.declared.fault.PduFault.TheVariants as faults
use Rattle.mon_pdu.specs.Grammar.{BeginsWithMessage, IsVersioned, bindings_of}
use Rattle.mon_pdu.specs.Reading.{Gives}
use Rattle.mon_vacm.specs.declared.view_type.ViewType.TheVariants.{Read, Write}
use Rattle.mon_vacm.specs.declared.denied.Denied.{Denied}
use Rattle.mon_vacm.specs.Access.{access_of}
use Rattle.mon_vacm.specs.Tables.{PolicyTables}
use Rattle.mon_vacm.specs.View.{IsInView}
use Rattle.mon_mib.specs.declared.change.Change.{Change}
use Rattle.mon_mib.specs.declared.commit.Commit.{Commit}
use Rattle.mon_mib.specs.declared.set_fault.SetFault.{SetFault}
use Rattle.mon_mib.specs.declared.set_fault.SetFault.TheVariants.{OutOfMemory, Refused}
use Rattle.mon_mib.specs.declared.set_status.SetStatus.{SetStatus}
use Rattle.mon_mib.specs.Commit.{IsCommitted, failures_by_then}
use Rattle.mon_mib.specs.declared.planned_change.PlannedChange.{PlannedChange}
use Rattle.mon_mib.specs.Assignment.{IsNumberedAssignment, IsSetPlan}
use Rattle.mon_mib.specs.Refusal.{IsAccepted, IsSetFault}
use Rattle.mon_mib.specs.SetStatus.{status_number}
use Rattle.mon_mib.specs.Held.{Held}
use Rattle.mon_mib.specs.Known.{Known}
use Rattle.mon_agent.specs.declared.fault.AgentFault.{AgentFault}
use Rattle.mon_agent.specs.declared.ready.Assigning.{Assigning}
use Rattle.mon_agent.specs.declared.ready.Ready.{Ready}
use Rattle.mon_agent.specs.declared.ready.Ready.TheVariants.{Answer, Assign}
use Rattle.mon_agent.specs.declared.reply.Reply.{Reply}
use Rattle.mon_agent.specs.declared.reply.Reply.TheVariants.{Send, Silent}
use Rattle.mon_agent.specs.declared.reply.Silence.{Silence}
use Rattle.mon_agent.specs.declared.reply.Silence.TheVariants.{BadMessage, BadVersion, BadCommunity, NotARequest, TooBigTwice}
use Rattle.mon_agent.specs.Answer.{IsAnswer, IsAnswered, IsGranted, IsKnown, IsResponseTo, IsSilenceOf, cause_of, is_answered, is_request, need_of, need_of_kind}
use Rattle.mon_agent.specs.Assigned.{greatest, returned, status_of, place_of}
use Rattle.mon_agent.specs.Ready.{IsAssigning, IsNumbered, IsReady, IsReadyFor, IsReadyToSet, IsReturned, IsRoomy, ready_of}
use Rattle.mon_agent.specs.Sent.{IsReadOut}
use Rattle.mon_agent.specs.Reply.{count_of, too_big, IsWithinLimit, IsAboveLimit, IsOut, IsSending, IsSent, IsDropped}

-- what is written is no shorter than its contents
pub longer : (m : Message) → length (message_contents m) ≤ length (written_message m)
unfolding written_message element
longer m = omega (arith, length-append (0x30 ∷ length_octets (length (message_contents m))) (message_contents m))

-- what needs a length of more than 4 octets is within no limit
pub too_long : (m : Message) (max_message_size : ℤ) → count_of max_message_size < 2 ^ 31 → 2 ^ 32 ≤ length (message_contents m) → IsWithinLimit max_message_size m → ⊥
too_long m max_message_size small le fits = omega (arith, longer m, small, le, fits)

-- what is sent of a response only depends on its request by community and request-id
sent_of : (m reply : Message) (max_message_size : ℤ) (octets : List ℕ) → too_big reply ≡ too_big m → IsSent max_message_size reply reply octets → IsSent max_message_size m reply octets
sent_of m reply max_message_size octets same (inl sent) = inl sent
sent_of m reply max_message_size octets same (inr sent) = inr (sent.0, subst (λ t. IsWithinLimit max_message_size t) same sent.1, sent.2 ∙ ap written_message same)

dropped_of : (m reply : Message) (max_message_size : ℤ) → too_big reply ≡ too_big m → IsDropped max_message_size reply reply → IsDropped max_message_size m reply
dropped_of m reply max_message_size same dropped = (dropped.0, subst (λ t. IsAboveLimit max_message_size t) same dropped.1)

-- what is granted to write is a request
kind_answers : (kind : PduKind) → need_of_kind kind ≡ Write → is_answered kind ≡ true
kind_answers kinds.Get e = absurd cc
kind_answers kinds.GetNext e = absurd cc
kind_answers kinds.Response e = absurd cc
kind_answers kinds.Set e = refl
kind_answers kinds.Inform e = absurd cc
kind_answers kinds.Trap e = absurd cc
kind_answers kinds.Report e = absurd cc

pub set_answers : (body : Body) → need_of body ≡ Write → is_request body ≡ true
set_answers (bodies.Pdu p) e = kind_answers p.kind e
set_answers (bodies.Bulk p) e = absurd cc

pub known_view : (policy : PolicyTables) (m : Message) (view : List ℕ) → access_of policy m.community (need_of m.body) ≡ Ok view → IsKnown policy m
known_view policy m view access unknown = absurd cc

module _ {D : Type 0} (held : D → Held) (failed : D → ℕ) (refuses : D → Change → Type 0) (policy : PolicyTables) (k : Known) where
  -- what becomes of a response answers its request
  pub out_answers : (before after : D) (m reply : Message) (r : Reply) → IsKnown policy m → is_request m.body ≡ true
      → IsResponseTo held failed refuses policy k before after m reply → too_big reply ≡ too_big m → IsOut k.settings.max_message_size reply reply r
      → IsAnswered held failed refuses policy k before after m r
  out_answers before after m reply (Send octets) known request right same out =
      (known, request, (reply, right, sent_of m reply k.settings.max_message_size octets.items same out))
  out_answers before after m reply (Silent TooBigTwice) known request right same out =
      (known, request, (reply, right, dropped_of m reply k.settings.max_message_size same out))
  out_answers before after m reply (Silent BadMessage) known request right same out = absurd out
  out_answers before after m reply (Silent BadVersion) known request right same out = absurd out
  out_answers before after m reply (Silent BadCommunity) known request right same out = absurd out
  out_answers before after m reply (Silent NotARequest) known request right same out = absurd out

  -- what follows from a Set of a community that may write follows from the message
  pub set_ready : (device : D) (m : Message) (view : List ℕ) (r : Result Ready AgentFault) → need_of m.body ≡ Write
      → access_of policy m.community (need_of m.body) ≡ Ok view
      → IfOk r (IsReadyToSet held failed refuses k (IsInView policy.families view) device m)
      → IfOk r (IsReadyFor held failed refuses policy k device m)
  set_ready device m view (Err e) set access ready = ready
  set_ready device m view (Ok (Assign a)) set access ready = record { view = view; set = set; access = access; planned = ready }
  set_ready device m view (Ok (Answer r)) set access ready =
      out_answers device device m ready.0 r (known_view policy m view access) (set_answers m.body set)
      (inr (view, access, subst (λ n. IsGranted held failed refuses n k (IsInView policy.families view) device device m ready.0) (sym set) ready.1))
      ready.2 ready.3

  -- a message that is not answered
  pub silent_ready : (device : D) (m : Message) (cause : Silence) → IsSilenceOf (access_of policy m.community (need_of m.body)) m.body cause
      → IsAnswered held failed refuses policy k device device m (Silent cause)
  silent_ready device m BadMessage is = absurd is
  silent_ready device m BadVersion is = absurd is
  silent_ready device m BadCommunity is = (is, refl)
  silent_ready device m NotARequest is = (is.0, is.1, refl)
  silent_ready device m TooBigTwice is = absurd is

  -- a request that is denied
  pub denied_ready : (device : D) (m reply : Message) (why : Denied) (max_message_size : ℤ) (sent : Result Reply AllocError) → IsKnown policy m
      → is_request m.body ≡ true → access_of policy m.community (need_of m.body) ≡ Err why → reply ≡ returned m (pos 16) (pos 0)
      → max_message_size ≡ k.settings.max_message_size → IfOk sent (IsOut max_message_size reply reply) → IfOk sent (λ r. IsReadyFor held failed refuses policy k device m (Answer r))
  denied_ready device m reply why max_message_size (Err e) known request access told is out = tt
  denied_ready device m reply why max_message_size (Ok r) known request access told is out =
      out_answers device device m reply r known request (inl (why, (λ e. known (access ∙ ap Err e)), access, refl, told)) (ap too_big told)
      (subst (λ (z : ℤ). IsOut z reply reply r) is out)

  -- a request to read that is granted in a view
  pub read_ready : (device : D) (m : Message) (view : List ℕ) (sent : Result Reply AllocError) → need_of m.body ≡ Read → is_request m.body ≡ true
      → access_of policy m.community (need_of m.body) ≡ Ok view → IfOk sent (IsReadOut k (IsInView policy.families view) m)
      → IfOk sent (λ r. IsReadyFor held failed refuses policy k device m (Answer r))
  read_ready device m view (Err e) read request access out = tt
  read_ready device m view (Ok r) read request access out =
      out_answers device device m out.0 r (known_view policy m view access) request
      (inr (view, access, subst (λ n. IsGranted held failed refuses n k (IsInView policy.families view) device device m out.0) (sym read) (refl, out.1)))
      out.2 out.3

  -- a Set that was assigned is answered
  pub assigned_answers : (before after : D) (datagram : List ℕ) (a : Assigning) (outcome : Commit) (octets : Vec ℕ)
      → IsReady held failed refuses policy k before datagram (Assign a)
      → IsCommitted held refuses a.plan (held before) (held after) outcome → failed after ≡ failures_by_then outcome (failed before)
      → octets.items ≡ written_message (returned a.response (status_of outcome) (pos (place_of outcome)))
      → length octets.items ≤ length (written_message a.response)
      → IsAnswer held failed refuses policy k before after datagram (Send octets)
  assigned_answers before after datagram a outcome octets ready committed failures written shorter =
      let m = ready.0 in
      let to = ready.2 in
      let reply = returned m (status_of outcome) (pos (place_of outcome)) in
      let is : octets.items ≡ written_message reply =
      written ∙ ap (λ (r : Message). written_message (returned r (status_of outcome) (pos (place_of outcome)))) to.planned.is in
      let fits : IsWithinLimit k.settings.max_message_size reply =
      omega (arith, ap length is, shorter, ap (λ (r : Message). length (written_message r)) to.planned.is, to.planned.fits) in
      let granted : IsGranted held failed refuses Write k (IsInView policy.families to.view) before after m reply = inr (inr (record {
        steps = a.plan;
        outcome = outcome;
        fits = to.planned.fits;
        accepted = to.planned.accepted;
        plan = to.planned.plan;
        committed = committed;
        failures = failures;
        is = refl;
      })) in (
        m,
        ready.1,
        (
          known_view policy m to.view to.access,
          set_answers m.body to.set,
          (
            reply,
            inr (to.view, to.access, subst (λ n. IsGranted held failed refuses n k (IsInView policy.families to.view) before after m reply) (sym to.set) granted),
            inl (fits, is),
          ),
        ),
      )

  -- a Set that was refused is answered
  pub refused_ready : (device : D) (sees : List ℕ → Type 0) (m response : Message) (fault : SetFault) (r : Reply)
      → ((status : SetStatus) (index : ℕ) → index ≤ length (bindings_of m.body)
      → length (written_message (returned (greatest m) (status_number status) (pos index))) ≤ length (written_message (greatest m)))
      → response ≡ greatest m → IsWithinLimit k.settings.max_message_size (greatest m) → IsSetFault k sees (bindings_of m.body) fault → IsReturned response fault r
      → IsReadyToSet held failed refuses k sees device m (Answer r)
  refused_ready device sees m response OutOfMemory r shorter is fits refused given = absurd given
  refused_ready device sees m response (Refused status index) (Silent cause) shorter is fits refused given = absurd given
  refused_ready device sees m response (Refused status index) (Send octets) shorter is fits refused given =
      let reply = returned m (status_number status) (pos index) in
      let below : index ≤ length (bindings_of m.body) = omega (arith, refused.number, refused.within) in (
        reply,
        inr (inl (record { status = status; index = index; fits = fits; refused = refused; stays = refl; is = refl })),
        refl,
        inl (
          omega (arith, shorter status index below, fits),
          given ∙ ap (λ (x : Message). written_message (returned x (status_number status) (pos index))) is,
        ),
      )

-- what is sent of a response that is within the limit, and of tooBig where the response is above it
pub sent_within : (max_message_size : ℤ) (m : Message) (sent : Result Reply AllocError) → IsWithinLimit max_message_size m → IfOk sent (IsSending m) → IfOk sent (IsOut max_message_size m m)
sent_within max_message_size m (Err e) fits is = tt
sent_within max_message_size m (Ok (Send octets)) fits is = inl (fits, is)
sent_within max_message_size m (Ok (Silent cause)) fits is = absurd is

pub sent_too_big : (max_message_size : ℤ) (m other : Message) (sent : Result Reply AllocError) → m ≡ too_big other → IsAboveLimit max_message_size other
    → IsWithinLimit max_message_size m → IfOk sent (IsSending m) → IfOk sent (IsOut max_message_size other other)
sent_too_big max_message_size m other (Err e) same above fits is = tt
sent_too_big max_message_size m other (Ok (Send octets)) same above fits is = inr (above, subst (IsWithinLimit max_message_size) same fits, is ∙ ap written_message same)
sent_too_big max_message_size m other (Ok (Silent cause)) same above fits is = absurd is

-- what is sent for a refused Set
pub returned_with : (m reply : Message) (status : SetStatus) (index : ℕ) (sent : Result Reply AllocError)
    → reply ≡ returned m (status_number status) (pos index) → IfOk sent (IsSending reply) → IfOk sent (IsReturned m (Refused status index))
returned_with m reply status index (Err e) told is = tt
returned_with m reply status index (Ok (Send octets)) told is = is ∙ ap written_message told
returned_with m reply status index (Ok (Silent cause)) told is = absurd is

-- what is ready where an answer is
pub ready_with : (P : Ready → Type 0) (reply : Result Reply AllocError) (result : Result Ready AgentFault) → result ≡ ready_of reply
    → IfOk reply (λ r. P (Answer r)) → IfOk result P
ready_with P (Ok r) result is given = subst (λ (x : Result Ready AgentFault). IfOk x P) (sym is) given
ready_with P (Err e) result is given = subst (λ (x : Result Ready AgentFault). IfOk x P) (sym is) tt

pub roomy_with : (reply : Result Reply AllocError) (result : Result Ready AgentFault) → result ≡ ready_of reply → IfOk result IsRoomy
roomy_with (Ok r) result is = subst (λ (x : Result Ready AgentFault). IfOk x IsRoomy) (sym is) tt
roomy_with (Err e) result is = subst (λ (x : Result Ready AgentFault). IfOk x IsRoomy) (sym is) tt

module _ {D : Type 0} (held : D → Held) (failed : D → ℕ) (refuses : D → Change → Type 0) (k : Known) (device : D) (sees : List ℕ → Type 0) (m : Message) where
  -- a Set that is above the limit is answered
  pub oversized : (n : Message) (max_message_size : ℤ) (reply : Result Reply AllocError) → max_message_size ≡ k.settings.max_message_size → too_big n ≡ too_big (greatest m)
      → IsAboveLimit k.settings.max_message_size (greatest m)
      → ((other : Message) → too_big n ≡ too_big other → IsAboveLimit max_message_size other → IfOk reply (IsOut max_message_size other other))
      → IfOk reply (λ r. IsReadyToSet held failed refuses k sees device m (Answer r))
  oversized n max_message_size (Err e) is same above out = tt
  oversized n max_message_size (Ok r) is same above out = (
    greatest m,
    inl (record { above = above; stays = refl; is = refl }),
    refl,
    subst (λ (z : ℤ). IsOut z (greatest m) (greatest m) r) is (out (greatest m) same (subst (λ (z : ℤ). IsAboveLimit z (greatest m)) (sym is) above)),
  )

  -- a Set of which no variable binding is refused must be assigned
  pub planned : (plan : List PlannedChange) (response : Message) (size : ℕ) (result : Result Ready AgentFault) → response ≡ greatest m
      → IsWithinLimit k.settings.max_message_size (greatest m) → All (IsAccepted k sees) (bindings_of m.body) → IsSetPlan k (bindings_of m.body) plan
      → IfOk result (IsAssigning plan response size) → IfOk result (IsReadyToSet held failed refuses k sees device m)
  planned plan response size (Err e) is fits accepted right made = tt
  planned plan response size (Ok (Answer r)) is fits accepted right made = absurd made
  planned plan response size (Ok (Assign a)) is fits accepted right made =
      record { fits = fits; accepted = accepted; plan = subst (IsSetPlan k (bindings_of m.body)) (sym made.0) right; is = made.1 ∙ is }

  -- a Set of which a variable binding is refused is answered
  pub refused : (policy : PolicyTables) (response : Message) (fault : SetFault) (reply : Result Reply AllocError)
      → ((status : SetStatus) (index : ℕ) → index ≤ length (bindings_of m.body)
      → length (written_message (returned (greatest m) (status_number status) (pos index))) ≤ length (written_message (greatest m)))
      → response ≡ greatest m → IsWithinLimit k.settings.max_message_size (greatest m) → IsSetFault k sees (bindings_of m.body) fault
      → IfOk reply (IsReturned response fault) → IfOk reply (λ r. IsReadyToSet held failed refuses k sees device m (Answer r))
  refused policy response fault (Err e) shorter is fits fault_is given = tt
  refused policy response fault (Ok r) shorter is fits fault_is given =
      refused_ready held failed refuses policy k device sees m response fault r shorter is fits fault_is given

-- the place of what is refused, and those of what is assigned, are among the variable bindings
pub numbered : (k : Known) (sees : List ℕ → Type 0) (bindings : List Binding) (fault : SetFault) → IsSetFault k sees bindings fault
    → IsNumbered (length bindings) fault
numbered k sees bindings OutOfMemory is = tt
numbered k sees bindings (Refused status index) is = omega (arith, is.number, is.within)

pub roomy : (k : Known) (m : Message) (plan : List PlannedChange) (response : Message) (size : ℕ) (result : Result Ready AgentFault) → response ≡ greatest m
    → length (bindings_of m.body) < 2 ^ 31 → IsSetPlan k (bindings_of m.body) plan → size ≡ length (written_message response) → size < 2 ^ 32
    → IfOk result (IsAssigning plan response size) → IfOk result IsRoomy
roomy k m plan response size (Err e) is few right size_is small made = tt
roomy k m plan response size (Ok (Answer r)) is few right size_is small made = absurd made
roomy k m plan response size (Ok (Assign a)) is few right size_is small made =
    let same : a.response ≡ greatest m = made.1 ∙ is in
    let within : (s : PlannedChange) → IsNumberedAssignment k (bindings_of m.body) s → s.index ≤ length (bindings_of m.body) = λ s at. omega (arith, at.number, at.last.within) in
    let long : length (written_message a.response) ≡ size = ap (λ (r : Message). length (written_message r)) made.1 ∙ sym size_is in
    record {
      greatest_is = same ∙ sym (ap greatest same);
      few = subst (λ (r : Message). length (bindings_of r.body) < 2 ^ 31) (sym same) few;
      numbers = subst (λ (r : Message). All (λ s. s.index ≤ length (bindings_of r.body)) a.plan) (sym same)
          (subst (All (λ s. s.index ≤ length (bindings_of m.body))) (sym made.0) (All-weaker (IsNumberedAssignment k (bindings_of m.body)) (λ s. s.index ≤ length (bindings_of m.body)) within plan right.each));
      small = omega (arith, long, small);
      empty = made.2;
      room = omega (arith, long, made.3);
    }

-- what becomes of a message only depends on it by its size, its community and its request-id
pub out_same : (max_message_size : ℤ) (m n : Message) (r : Reply) → too_big m ≡ too_big n → IsAboveLimit max_message_size m → IsAboveLimit max_message_size n → IsOut max_message_size m m r
    → IsOut max_message_size n n r
out_same max_message_size m n (Send octets) same above other (inl sent) = absurd (omega (arith, above, sent.0))
out_same max_message_size m n (Send octets) same above other (inr sent) = inr (other, subst (λ t. IsWithinLimit max_message_size t) same sent.1, sent.2 ∙ ap written_message same)
out_same max_message_size m n (Silent TooBigTwice) same above other out = (other, subst (λ t. IsAboveLimit max_message_size t) same out.1)
out_same max_message_size m n (Silent BadMessage) same above other out = absurd out
out_same max_message_size m n (Silent BadVersion) same above other out = absurd out
out_same max_message_size m n (Silent BadCommunity) same above other out = absurd out
out_same max_message_size m n (Silent NotARequest) same above other out = absurd out

err_is : (x y : PduFault) {r s : Result Message PduFault} → r ≡ Err x → s ≡ Err y → r ≡ s → x ≡ y
err_is x y a b c = cc

pos_is : {m n : ℕ} → pos m ≡ pos n → m ≡ n
pos_is e = cc

negative : {m n : ℕ} → negsuc m ≡ pos n → ⊥
negative e = cc

one : (v : ℤ) → ((v ≢ pos 1) → ⊥) → v ≡ pos 1
one (pos n) not_other = elim (cases_eq n 1) [ inl is ↦ ap pos is | inr other ↦ absurd (not_other (λ e. other (pos_is e))) ]
one (negsuc n) not_other = absurd (not_other (λ e. negative e))

pub not_true : {A : Type 0} → false ≡ true → A
not_true e = absurd cc

module _ {D : Type 0} (held : D → Held) (failed : D → ℕ) (refuses : D → Change → Type 0) (policy : PolicyTables) (k : Known) (device : D) where
  broken : (datagram : List ℕ) (r : Result Message PduFault) (e : PduFault) (cause : Silence) → r ≡ Err e
      → Some BadMessage ≡ Some cause → ((m : Message) → Gives (λ x. x) (Err e) (Ok m) → ⊥) → ((v : ℤ) → e ≢ faults.BadVersion v)
      → ((m : Message) → BeginsWithMessage datagram m → Gives (λ x. x) r (Ok m))
      → ((v : ℤ) → (r ≡ Err (faults.BadVersion v)) ↔ (IsVersioned datagram v × (v ≢ pos 1))) → IsAnswer held failed refuses policy k device device datagram (Silent cause)
  broken datagram r e cause is of fails other only version = subst (λ (x : Silence). IsAnswer held failed refuses policy k device device datagram (Silent x)) (some_is of) (
    λ m begins. fails m (subst (λ q. Gives (λ x. x) q (Ok m)) is (only m begins)),
    λ v versioned. one v (λ differs. other v (err_is e (faults.BadVersion v) is ((version v).1 (versioned, differs)) refl)),
    refl,
  )
    where
      some_is : {x y : Silence} → Some x ≡ Some y → x ≡ y
      some_is e = cc

  -- what could not be read begins with no message, and is of version 1 or of the other version that
  -- was named
  pub unread : (datagram : List ℕ) (r : Result Message PduFault) (e : PduFault) (cause : Silence) → r ≡ Err e
      → cause_of e ≡ Some cause → ((m : Message) → BeginsWithMessage datagram m → Gives (λ x. x) r (Ok m))
      → ((v : ℤ) → (r ≡ Err (faults.BadVersion v)) ↔ (IsVersioned datagram v × (v ≢ pos 1))) → IsAnswer held failed refuses policy k device device datagram (Silent cause)
  unread datagram r faults.OutOfMemory cause is of only version = absurd (never of)
    where
      never : {x : Silence} → None ≡ Some x → ⊥
      never e = cc
  unread datagram r (faults.BadVersion v) cause is of only version = subst (λ (x : Silence). IsAnswer held failed refuses policy k device device datagram (Silent x)) (some_is of) (v, ((version v).0 is).0, ((version v).0 is).1, refl)
    where
      some_is : {x y : Silence} → Some x ≡ Some y → x ≡ y
      some_is e = cc
  unread datagram r faults.Truncated cause is of only version = broken datagram r faults.Truncated cause is of (λ m given. cc) (λ v same. cc) only version
  unread datagram r faults.BadTag cause is of only version = broken datagram r faults.BadTag cause is of (λ m given. cc) (λ v same. cc) only version
  unread datagram r faults.BadLength cause is of only version = broken datagram r faults.BadLength cause is of (λ m given. cc) (λ v same. cc) only version
  unread datagram r faults.OutOfRange cause is of only version = broken datagram r faults.OutOfRange cause is of (λ m given. cc) (λ v same. cc) only version
  unread datagram r faults.BadOid cause is of only version = broken datagram r faults.BadOid cause is of (λ m given. cc) (λ v same. cc) only version
  unread datagram r (faults.UnknownPdu t) cause is of only version = broken datagram r (faults.UnknownPdu t) cause is of (λ m given. cc) (λ v same. cc) only version
