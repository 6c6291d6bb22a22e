-- What is sent for a request to read.
use Rattle.std.proofs.Common.{◌≡◌, ℕ, ◌<◌, ◌≤◌, ℤ, pos, true, List, [], ◌∷◌, ◌++◌, length, map, refl, sym, subst, ◌∙◌, arith, ap}
use Rattle.std.specs.Prelude.{Result, Ok, Err, IfOk}
use Rattle.std.proofs.lemmas.List.{append_assoc}
use Rattle.mon_pdu.specs.declared.message.Binding.{Binding}
use Rattle.mon_pdu.specs.declared.message.Body.{Body}
use Rattle.mon_pdu.specs.declared.message.Body.TheVariants as bodies
use Rattle.mon_pdu.specs.declared.message.Message.{Message}
use Rattle.mon_pdu.specs.declared.message.Pdu.{Pdu}
use Rattle.mon_pdu.specs.declared.message.PduKind.{PduKind}
use Rattle.mon_pdu.specs.declared.message.PduKind.TheVariants as kinds
use Rattle.mon_pdu.specs.Grammar.{first_of}
use Rattle.mon_pdu.specs.Sizes.{body_with, with_bindings}
use Rattle.mon_pdu.specs.Writing.{written_message}
use Rattle.mon_vacm.specs.declared.view_type.ViewType.TheVariants.{Read}
use Rattle.mon_mib.specs.Known.{Known}
use Rattle.mon_agent.specs.declared.reply.Reply.{Reply}
use Rattle.mon_agent.specs.Answer.{IsOfKind, is_answered, need_of_kind}
use Rattle.mon_agent.specs.Bulk.{names_of}
use Rattle.mon_agent.specs.ResponseBuilder.{IsCut}
use Rattle.mon_agent.specs.Reply.{count_of, answered, response_body, too_big, IsWithinLimit, IsAboveLimit, IsOut}
use Rattle.mon_agent.specs.Sent.{IsReadOut, IsSentFor}
use Rattle.mon_agent.specs.Step.{AreFor, IsNextAnswer}

pub if_ok : {A E : Type 0} {P Q : A → Type 0} (r : Result A E) → ((x : A) → P x → Q x) → IfOk r P → IfOk r Q
if_ok (Ok x) f p = f x p
if_ok (Err e) f p = p

-- a function that answers each name right answers all of them
for_all : (R : List ℕ → Binding → Type 0) (next : List ℕ → Binding) → ((name : List ℕ) → R name (next name)) → (asked : List Binding)
    → AreFor R asked (map next (names_of asked))
for_all R next each [] = tt
for_all R next each (a ∷ asked) = (each a.name, for_all R next each asked)

above : (n m : ℕ) → ¬ (n ≤ m) → m < n
above n m not_within = grind (arith, not_within)

-- a response whose beginning does not fit with what comes next is above the limit
pub cut_above : (max_message_size : ℤ) (head : Message) (all part : List Binding)
    → ((m : Message) (bindings more : List Binding)
    → length (written_message (with_bindings m bindings)) ≤ length (written_message (with_bindings m (bindings ++ more))))
    → IsCut (λ bindings. IsWithinLimit max_message_size (with_bindings head bindings)) all part → IsAboveLimit max_message_size (with_bindings head all)
cut_above max_message_size head all part grows cut =
    let short = part ++ cut.next ∷ [] in
    let whole : all ≡ short ++ cut.rest = cut.whole ∙ sym (append_assoc part (cut.next ∷ []) cut.rest) in
    let lt : count_of max_message_size < length (written_message (with_bindings head short)) =
    above (length (written_message (with_bindings head short))) (count_of max_message_size) cut.full in
    subst (λ l. IsAboveLimit max_message_size (with_bindings head l)) (sym whole) (omega (arith, lt, grows head short cut.rest))

first_same : (body : Body) (a b : List Binding) → first_of (body_with body a) ≡ first_of (body_with body b)
first_same (bodies.Pdu p) a b = refl
first_same (bodies.Bulk p) a b = refl

-- what is sent for a response that is too big has none of its variable bindings
pub same_head : (head : Message) (a b : List Binding) → too_big (with_bindings head a) ≡ too_big (with_bindings head b)
same_head head a b =
    ap (λ n. (let m : Message = record { community = head.community; body = response_body n (pos 1) (pos 0) [] } in m)) (first_same head.body a b)

module _ {E : Type 0} (max_message_size : ℤ) (R : List ℕ → Binding → Type 0) (head : Message) (next : List ℕ → Binding) (asked : List Binding)
    (each : (name : List ℕ) → R name (next name)) where
  pub sent_for : (m : Message) (r : Result Reply E) → m ≡ with_bindings head (map next (names_of asked)) → IfOk r (IsOut max_message_size m m)
      → IfOk r (IsSentFor max_message_size R head asked)
  sent_for m r is out = if_ok r (λ x gone. (map next (names_of asked), for_all R next each asked, subst (λ q. IsOut max_message_size q q x) is gone)) out

-- of the requests to read that only have names, one that is no Get is a GetNext
pub of_kind : (k : Known) (sees : List ℕ → Type 0) (kind : PduKind) (asked answers : List Binding) → is_answered kind ≡ true
    → need_of_kind kind ≡ Read → ¬ (kind ≡ kinds.Get) → AreFor (IsNextAnswer k sees) asked answers → IsOfKind k sees kind asked answers
of_kind k sees kinds.Get asked answers request read other each = absurd (other refl)
of_kind k sees kinds.GetNext asked answers request read other each = each
of_kind k sees kinds.Response asked answers request read other each = absurd cc
of_kind k sees kinds.Set asked answers request read other each = absurd cc
of_kind k sees kinds.Inform asked answers request read other each = absurd cc
of_kind k sees kinds.Trap asked answers request read other each = absurd cc
of_kind k sees kinds.Report asked answers request read other each = absurd cc

-- what is sent for the variable bindings of a request is sent for the request
pub read_out : {E : Type 0} (k : Known) (sees : List ℕ → Type 0) (community : List ℕ) (p : Pdu) (R : List ℕ → Binding → Type 0) (head : Message)
    (asked : List Binding) (r : Result Reply E) → head ≡ answered (record { community = community; body = bodies.Pdu p }) []
    → asked ≡ p.bindings → ((answers : List Binding) → AreFor R p.bindings answers → IsOfKind k sees p.kind p.bindings answers)
    → IfOk r (IsSentFor k.settings.max_message_size R head asked) → IfOk r (IsReadOut k sees (record { community = community; body = bodies.Pdu p }))
read_out k sees community p R head asked r is same kind out = if_ok r (λ x sent. (
  answered (record { community = community; body = bodies.Pdu p }) sent.0,
  (sent.0, kind sent.0 (subst (λ a. AreFor R a sent.0) same sent.1), refl),
  refl,
  subst (λ (h : Message). IsOut k.settings.max_message_size (with_bindings h sent.0) (with_bindings h sent.0) x) is sent.2,
)) out
