-- The instances of what is offered.
use Rattle.std.proofs.Common.{◌≡◌, ℕ, ◌<◌, List, [], ◌∷◌, length, sym, subst, arith, Result, Ok, Err, Option, Some, None, drop, inl, inr}
use Rattle.std.specs.Prelude.{All}
use Rattle.std.specs.Option.{option_map, option_to_list}
use Rattle.std.specs.Str.{bytes_eq}
use Rattle.std.proofs.lemmas.Bool.{cases_lt}
use Rattle.std.proofs.lemmas.List.{get_or_past}
use Rattle.std.proofs.lemmas.List.Elements.{All-append, All-cons, All-head, All-tail}
use Rattle.mon_pdu.specs.declared.message.Binding.{Binding}
use Rattle.mon_pdu.specs.declared.message.Message.{Message}
use Rattle.mon_pdu.specs.declared.message.Pdu.{Pdu}
use Rattle.mon_udp.specs.declared.addr.Addr.{Addr}
use Rattle.mon_poller.specs.declared.fault.ResponseFault.{ResponseFault}
use Rattle.mon_poller.specs.declared.fault.ResponseFault.TheVariants.{WrongNames, OtherEngine}
use Rattle.mon_poller.specs.declared.poller.Offered.{Offered}
use Rattle.mon_poller.specs.declared.target.Object.{Object}
use Rattle.mon_poller.specs.declared.target.Target.{Target}
use Rattle.mon_oid.specs.Steps.{◌>>=◌}
use Rattle.mon_poller.specs.Gives.{need}
use Rattle.mon_poller.specs.Polls.{Open, Poll}
use Rattle.mon_poller.specs.Target.{poll_names, no_target, target_at}
use Rattle.mon_poller.specs.Stamp.{Stamp}
use Rattle.mon_poller.specs.Verdict.{object_offers, sample_of, bindings_for, stamp_and_others, have_names, no_error, target_offers, poll_answer, awaited, response_verdict}

-- what two steps give, the first gave something
bind_ok : {A B : Type 0} (x : Result A ResponseFault) (f : A → Result B ResponseFault) (y : B) → x >>= f ≡ Ok y → (a : A) × (f a ≡ Ok y)
bind_ok (Ok a) f y e = (a, e)
bind_ok (Err fault) f y e = absurd (search_none fault y e)
  where
    search_none : {B : Type 0} (fault : ResponseFault) (y : B) → (let r : Result B ResponseFault = Err fault in r) ≡ Ok y → ⊥
    search_none fault y e = cc

one_value : (x y : Offered) → (let r : Result Offered ResponseFault = Ok x in r) ≡ Ok y → x ≡ y
one_value x y e = cc

-- what is offered of the target of this number by a response of this stamp
abbrev of_stamp : ℕ → Stamp → List (ℕ × ℕ) → Offered
of_stamp number stamp pairs = record { target = number; boots = stamp.boots; time = stamp.time; pairs = pairs }

module _ (n : ℕ) where
  abbrev AreBelow : List (ℕ × ℕ) → Type 0
  AreBelow pairs = All (λ (pair : ℕ × ℕ). pair.0 < n) pairs

  nothing_below : AreBelow []
  nothing_below = λ k d lt. absurd (omega arith)

  one_below : (i : ℕ) (s : Option ℕ) → i < n → AreBelow (option_to_list (option_map (λ (x : ℕ). (i, x)) s))
  one_below i None lt = nothing_below
  one_below i (Some x) lt = All-cons (λ (pair : ℕ × ℕ). pair.0 < n) (i, x) [] lt nothing_below

  offers_below : (stamp : Stamp) (objects : List Object) (bindings : List Binding) → All (λ (o : Object). o.instance < n) objects → AreBelow (object_offers stamp objects bindings)
  unfolding object_offers
  offers_below stamp [] bindings h = nothing_below
  offers_below stamp (o ∷ os) bindings h =
      All-append (λ (pair : ℕ × ℕ). pair.0 < n) (option_to_list (option_map (λ (x : ℕ). (o.instance, x)) (sample_of stamp o bindings))) (object_offers stamp os (drop (bindings_for o.discontinuity) bindings))
      (one_below o.instance (sample_of stamp o bindings) (All-head (λ (q : Object). q.instance < n) o os h))
      (offers_below stamp os (drop (bindings_for o.discontinuity) bindings) (All-tail (λ (q : Object). q.instance < n) o os h))

  offered_below : (number : ℕ) (t : Target) (bindings : List Binding) (offered : Offered) → All (λ (o : Object). o.instance < n) t.objects → target_offers number t bindings ≡ Ok offered → AreBelow offered.pairs
  unfolding target_offers
  offered_below number t bindings offered h e =
      let first = bind_ok {A = Stamp × List Binding} (stamp_and_others bindings) (λ s. need OtherEngine (bytes_eq s.0.engine t.engine) >>= λ known. Ok (of_stamp number s.0 (object_offers s.0 t.objects s.1))) offered e in
      let all = object_offers first.0.0 t.objects first.0.1 in
      let known = bind_ok {A = Unit {0}} (need OtherEngine (bytes_eq first.0.0.engine t.engine)) (λ known. Ok (of_stamp number first.0.0 all)) offered first.1 in
      subst (λ (o : Offered). AreBelow o.pairs) (one_value (of_stamp number first.0.0 all) offered known.1) (offers_below first.0.0 t.objects first.0.1 h)

  answer_below : (number : ℕ) (t : Target) (r : Pdu) (offered : Offered) → All (λ (o : Object). o.instance < n) t.objects → poll_answer number t r ≡ Ok offered → AreBelow offered.pairs
  unfolding poll_answer
  answer_below number t r offered h e =
      let fine = bind_ok {A = Unit {0}} (no_error r.error_status r.error_index) (λ fine. need WrongNames (have_names (poll_names t) r.bindings) >>= λ named. target_offers number t r.bindings) offered e in
      let named = bind_ok {A = Unit {0}} (need WrongNames (have_names (poll_names t) r.bindings)) (λ named. target_offers number t r.bindings) offered fine.1 in
      offered_below number t r.bindings offered h named.1

  target_below : (targets : List Target) (i : ℕ) → All (λ (t : Target). All (λ (o : Object). o.instance < n) t.objects) targets → All (λ (o : Object). o.instance < n) (target_at targets i).objects
  target_below targets i h = elim (cases_lt i (length targets)) [
    | inl lt ↦ h i no_target lt
    | inr ge ↦ subst (λ (t : Target). All (λ (o : Object). o.instance < n) t.objects) (sym (get_or_past targets i no_target ge)) (λ k d lt. absurd (omega arith))
  ]

  pub verdict_below : (targets : List Target) (polls : Open) (from : Addr) (read : Option Message) (o : Offered)
      → All (λ (t : Target). All (λ (q : Object). q.instance < n) t.objects) targets → response_verdict targets polls from read ≡ Ok o → AreBelow o.pairs
  unfolding response_verdict
  verdict_below targets polls from read o h e =
      let found = bind_ok {A = Poll × Pdu} (awaited targets polls from read) (λ found. poll_answer found.0.target (target_at targets found.0.target) found.1) o e in
      answer_below found.0.0.target (target_at targets found.0.0.target) found.0.1 o (target_below targets found.0.0.target h) found.1
