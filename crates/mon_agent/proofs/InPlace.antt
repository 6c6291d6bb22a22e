-- What is read of a request in place, and what is written for it.
use Rattle.std.proofs.Common.{◌≡◌, ℕ, true, List, [], ◌∷◌, ◌++◌, length, refl, sym, ap, subst, ◌∙◌, append_assoc, append-nil, arith, inl, inr}
use Rattle.std.specs.Global.{Vec}
use Rattle.std.specs.Prelude.{Option, Some, None, Result, Err, IfOk, Ok, ◌≤◌, ◌⊎◌}
use Rattle.mon_ber.specs.declared.value.Value.TheVariants.{Null}
use Rattle.mon_ber.specs.declared.value.Value.{Value}
use Rattle.mon_ber.specs.Grammar.{Spells, IsElement}
use Rattle.mon_ber.specs.Reading.{element_at, name_at}
use Rattle.mon_ber.proofs.Promised.{element_takes, name_at_takes}
use Rattle.mon_pdu.specs.declared.message.Binding.{Binding}
use Rattle.mon_pdu.specs.declared.message.PduKind.{PduKind}
use Rattle.mon_pdu.specs.declared.message.PduKind.TheVariants as kinds
use Rattle.mon_pdu.specs.declared.message.Message.{Message}
use Rattle.mon_pdu.specs.Grammar.{IsBinding}
use Rattle.mon_pdu.specs.Writing.{list_contents, written_binding, written_message}
use Rattle.mon_vacm.specs.declared.view_type.ViewType.TheVariants.{Read}
use Rattle.mon_vacm.specs.Access.{access_of}
use Rattle.mon_vacm.specs.Tables.{PolicyTables}
use Rattle.mon_vacm.specs.View.{IsInView}
use Rattle.mon_mib.specs.declared.change.Change.{Change}
use Rattle.mon_mib.specs.Held.{Held}
use Rattle.mon_mib.specs.declared.got.Got.TheVariants.{Found, NoObject, NoInstance}
use Rattle.mon_mib.specs.declared.shown.Shown.{Shown}
use Rattle.mon_mib.specs.declared.shown.Shown.TheVariants as shown
use Rattle.mon_mib.specs.Next.{IsNext}
use Rattle.mon_mib.specs.Objects.{objects}
use Rattle.mon_mib.specs.Shown.{IsNextShown}
use Rattle.mon_mib.specs.Known.{Known}
use Rattle.mon_agent.specs.declared.reply.Reply.TheVariants.{Send}
use Rattle.mon_agent.specs.Answer.{AreAnswers, IsAnswered, IsGranted, IsOfKind, is_answered, is_request, need_of, need_of_kind}
use Rattle.mon_agent.specs.InPlace.{ArePut, IsAnswerOf, IsPut, answer_at}
use Rattle.mon_agent.specs.Reply.{count_of, answered}
use Rattle.mon_agent.specs.Step.{AreFor, IsNextAnswer, at_end}
use Rattle.mon_agent.proofs.Sent.{known_view}

module _ (R : List ℕ → Binding → Type 0) where
  -- where no octets are left nothing more is written
  pub none_left : (octets now : List ℕ) → octets ≡ [] → ArePut R octets now now
  none_left octets now end = record { asked = []; answers = []; spelled = end; right = tt; put = sym (append-nil now) }

  -- one answer, and those that follow it
  pub put_first : (octets rest old now new : List ℕ) → IsPut R octets rest old now → ArePut R rest now new → ArePut R octets old new
  put_first octets rest old now new first others = record {
    asked = first.asked ∷ others.asked;
    answers = first.answer ∷ others.answers;
    spelled = (first.text, rest, first.whole, first.spelled, others.spelled);
    right = (first.right, others.right);
    put = others.put ∙ ap (λ t. t ++ list_contents others.answers) first.put ∙ append_assoc old (written_binding first.answer) (list_contents others.answers);
  }

-- what is written for what is left completes what is written for all
pub record IsLeft (R : List ℕ → Binding → Type 0) (octets old rest now : List ℕ) : Type 0 where
  pub others : (new : List ℕ) → ArePut R rest now new → ArePut R octets old new

-- one answer more
pub one_less : (R : List ℕ → Binding → Type 0) (octets old rest now after new : List ℕ) → IsLeft R octets old rest now → IsPut R rest after now new → IsLeft R octets old after new
one_less R octets old rest now after new left one = record { others = λ last put. left.others last (put_first R rest after now new last one put) }

null_spelled : Spells (5 ∷ 0 ∷ []) Null
null_spelled = record {
  contents = [];
  element = record { len = 0 ∷ []; spelled = inl (omega arith, refl, refl); whole = refl };
  value = refl;
}

-- what is read of a variable binding whose value is spelled as Null
pub asked_spelled : (octets contents after value oid : List ℕ) → element_at 0x30 octets ≡ Ok (contents, after) → name_at contents ≡ Ok (oid, value) → value ≡ 5 ∷ 0 ∷ []
    → (text : List ℕ) × (v : Value) × IsBinding text (record { name = oid; value = v }) × (octets ≡ text ++ after)
asked_spelled octets contents after value oid read named null =
    let e = element_takes 0x30 octets contents after read in
    let n = name_at_takes contents oid value named in (
      e.0,
      Null,
      record {
        name = n.0;
        value = 5 ∷ 0 ∷ [];
        element = subst (λ (t : List ℕ). IsElement 0x30 t e.0) (n.2 ∙ ap (λ (v : List ℕ). n.0 ++ v) null) e.1;
        spelled_name = n.1;
        spelled_value = null_spelled;
      },
      e.2,
    )

-- the answers of a kind
pub of_frame : (k : Known) (sees : List ℕ → Type 0) (kind : PduKind) (asked answers : List Binding) → (kind ≡ kinds.Get) ⊎ (kind ≡ kinds.GetNext)
    → AreFor (IsAnswerOf k sees kind) asked answers → IsOfKind k sees kind asked answers
of_frame k sees kinds.Get asked answers is each = each
of_frame k sees kinds.GetNext asked answers is each = each
of_frame k sees kinds.Response asked answers is each = absurd (elim is [ inl e ↦ cc | inr e ↦ cc ])
of_frame k sees kinds.Set asked answers is each = absurd (elim is [ inl e ↦ cc | inr e ↦ cc ])
of_frame k sees kinds.Inform asked answers is each = absurd (elim is [ inl e ↦ cc | inr e ↦ cc ])
of_frame k sees kinds.Trap asked answers is each = absurd (elim is [ inl e ↦ cc | inr e ↦ cc ])
of_frame k sees kinds.Report asked answers is each = absurd (elim is [ inl e ↦ cc | inr e ↦ cc ])

pub reads : (kind : PduKind) → (kind ≡ kinds.Get) ⊎ (kind ≡ kinds.GetNext) → (need_of_kind kind ≡ Read) × (is_answered kind ≡ true)
reads kind (inl e) = rw e (refl, refl)
reads kind (inr e) = rw e (refl, refl)

module _ {D : Type 0} (held : D → Held) (failed : D → ℕ) (refuses : D → Change → Type 0) (policy : PolicyTables) (k : Known) where
  -- a response that is written answers a request to read
  pub read_answered : (device : D) (m : Message) (view : List ℕ) (answers : List Binding) (octets : Vec ℕ) → need_of m.body ≡ Read → is_request m.body ≡ true
      → access_of policy m.community Read ≡ Ok view → AreAnswers k (IsInView policy.families view) m m.body answers
      → octets.items ≡ written_message (answered m answers) → length octets.items ≤ count_of k.settings.max_message_size
      → IsAnswered held failed refuses policy k device device m (Send octets)
  read_answered device m view answers octets need request access right written within =
      let may : access_of policy m.community (need_of m.body) ≡ Ok view = ap (access_of policy m.community) need ∙ access in
      let reply = answered m answers in (
        known_view policy m view may,
        request,
        (
          reply,
          inr (
            view,
            may,
            subst (λ n. IsGranted held failed refuses n k (IsInView policy.families view) device device m reply) (sym need) (refl, (answers, right, refl)),
          ),
          inl (subst (λ (o : List ℕ). length o ≤ count_of k.settings.max_message_size) written within, written),
        ),
      )

-- what a search shows of a name answers it in a GetNext
pub next_shown : (k : Known) (sees : List ℕ → Type 0) (x now : List ℕ) (found : Option Shown) → IsNextShown k sees x now found → IsNextAnswer k sees x (answer_at now found)
next_shown k sees x now None is = inr (is.0, ap at_end is.1)
next_shown k sees x now (Some (shown.Octets octets)) is = inl (subst (λ (v : Value). IsNext objects k sees x (Some (record { name = now; value = v }))) (sym (inside is.1)) is.2)
  where
    inside : {v w : Value} → Found v ≡ Found w → v ≡ w
    inside e = cc
next_shown k sees x now (Some (shown.Other (Found value))) is = inl (subst (λ (v : Value). IsNext objects k sees x (Some (record { name = now; value = v }))) (sym (inside is.1)) is.2)
  where
    inside : {v w : Value} → Found v ≡ Found w → v ≡ w
    inside e = cc
next_shown k sees x now (Some (shown.Other NoObject)) is = absurd (let e = is.1 in cc)
next_shown k sees x now (Some (shown.Other NoInstance)) is = absurd (let e = is.1 in cc)

pub on_ok : {A E : Type 0} (r : Result A E) (P Q : A → Type 0) → ((x : A) → P x → Q x) → IfOk r P → IfOk r Q
on_ok (Ok x) P Q f p = f x p
on_ok (Err e) P Q f p = tt
