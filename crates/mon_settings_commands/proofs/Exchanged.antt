-- Questions that are asked one after another.
use Rattle.std.proofs.Common.{◌≡◌, ◌∙◌, ◌++◌, ◌∷◌, ℕ, ℤ, pos, List, [], Option, Result, Ok, Err, ap, append_assoc, refl, subst, sym}
use Rattle.std.specs.Prelude.{IsErrAnd}
use Rattle.std.proofs.lemmas.List.{append-nil}
use Rattle.mon_client.specs.Asking.{IsAsked}
use Rattle.mon_client.specs.AtWire.{AtWire}
use Rattle.mon_client.specs.Printed.{IsQuestionAnswered, answer_of}
use Rattle.mon_client.specs.Question.{QuestionParts as Question}
use Rattle.mon_app.specs.declared.fault.AppFault.{AppFault}
use Rattle.mon_client.specs.declared.question.Asking.{Asking}
use Rattle.mon_console.specs.declared.failure.Failure.{Failure}
use Rattle.mon_host.specs.Then.{Quietly, Then}
use Rattle.mon_pdu.specs.declared.message.Binding.{Binding}
use Rattle.mon_pdu.specs.declared.message.Message.{Message}
use Rattle.mon_udp.specs.Told.{GoesOnBy}
use Rattle.mon_udp.proofs.Promised.{extended_by_none, extended_on}
use Rattle.mon_settings_commands.specs.Exchange.{AreExplained, AsksBy, Exchange, IsExchange, next_id, question_of}
use Rattle.mon_settings_commands.proofs.Turns.{failure_is}

-- what a wire states
abbrev pub Log : Type 0
Log = Option (List AtWire)

-- exchanges and then others are explained by what happened and then by more
pub explained_on : (community : List ℕ) (es fs : List Exchange) (id between last : ℕ) (log more : List AtWire) → AreExplained community id es between log
    → AreExplained community between fs last more → AreExplained community id (es ++ fs) last (log ++ more)
explained_on community [] fs id between last log more first second =
    subst (λ (l : List AtWire). AreExplained community id fs last (l ++ more)) (sym first.0) (subst (λ (n : ℕ). AreExplained community n fs last more) first.1 second)
explained_on community (e ∷ es) fs id between last log more (begin, rest, is, answered, others) second =
    (begin, rest ++ more, ap (λ (l : List AtWire). l ++ more) is ∙ append_assoc begin rest more, answered, explained_on community es fs (next_id id) between last rest more others second)

module _ (community : List ℕ) where
  -- questions, and then others
  pub asks_both : (P Q R : List Exchange → Type 0) (id between last : ℕ) (before middle after : Log) → ((es fs : List Exchange) → P es → Q fs → R (es ++ fs))
      → AsksBy P community id between before middle → AsksBy Q community between last middle after → AsksBy R community id last before after
  asks_both P Q R id between last before middle after join first second = record {
    exchanges = first.exchanges ++ second.exchanges;
    holds = join first.exchanges second.exchanges first.holds second.holds;
    explained = record {
      more = first.explained.more ++ second.explained.more;
      holds = explained_on community first.exchanges second.exchanges id between last first.explained.more second.explained.more first.explained.holds second.explained.holds;
      told = extended_on before middle after first.explained.more second.explained.more first.explained.told second.explained.told;
    };
  }

  -- what holds of what was asked gives something else that does
  pub asks_so : (P Q : List Exchange → Type 0) (id last : ℕ) (before after : Log) → ((es : List Exchange) → P es → Q es) → AsksBy P community id last before after
      → AsksBy Q community id last before after
  asks_so P Q id last before after gives asks = record { exchanges = asks.exchanges; holds = gives asks.exchanges asks.holds; explained = asks.explained }

  -- nothing is asked
  pub asks_none : (P : List Exchange → Type 0) (id : ℕ) (told : Log) → P [] → AsksBy P community id id told told
  asks_none P id told holds = record { exchanges = []; holds = holds; explained = record { more = []; holds = (refl, refl); told = sym (extended_by_none told) } }

  -- a step that asks nothing
  pub asks_quietly : {A : Type 0} → (Gives : Result A Failure → Type 0) (result : Result A Failure) (id : ℕ) (told : Log) → Gives result
      → AsksBy (λ log. Quietly Gives log result) community id id told told
  asks_quietly Gives result id told gives = asks_none (λ log. Quietly Gives log result) id told (refl, gives)

  -- a step, and then one that follows
  pub asks_then : {A B : Type 0} → (First : List Exchange → Result A Failure → Type 0) (Second : A → List Exchange → Result B Failure → Type 0) (value : A) (result : Result B Failure)
      (id between last : ℕ) (before middle after : Log) → AsksBy (λ log. First log (Ok value)) community id between before middle
      → AsksBy (λ log. Second value log result) community between last middle after → AsksBy (λ log. Then First Second log result) community id last before after
  asks_then First Second value result id between last before middle after first second =
      asks_both (λ log. First log (Ok value)) (λ log. Second value log result) (λ log. Then First Second log result) id between last before middle after
      (λ es fs one two. record { given = Ok value; begin = es; first = one; rest = fs; second = two; log_is = refl }) first second

  -- a step that failed, as a `?` hands it on
  pub asks_fail : {A B : Type 0} → (First : List Exchange → Result A Failure → Type 0) (Second : A → List Exchange → Result B Failure → Type 0) (failure : Failure) (result : Result B Failure)
      (id last : ℕ) (before after : Log) → IsErrAnd result (λ f. f ≡ failure) → AsksBy (λ log. First log (Err failure)) community id last before after
      → AsksBy (λ log. Then First Second log result) community id last before after
  asks_fail {B = B} First Second failure result id last before after is first =
      subst (λ (r : Result B Failure). AsksBy (λ log. Then First Second log r) community id last before after) (sym (failure_is result failure is))
      (asks_so (λ log. First log (Err failure)) (λ log. Then First Second log (Err failure)) id last before after
      (λ es one. record { given = Err failure; begin = es; first = one; rest = []; second = (refl, refl); log_is = sym (append-nil es) }) first)

-- a question with this request-id
abbrev pub asked_as : Asking → List (List ℕ) → List ℕ → ℤ → Question
asked_as asking names community id = record { asking = asking; request_id = id; community = community; names = names }

-- one question, and what it came to
pub one_exchange : (community : List ℕ) (asking : Asking) (names : List (List ℕ)) (id last : ℕ) (request : ℤ) (asked : Result Message AppFault) (result : Result (List Binding) AppFault)
    (before after : Log) → last ≡ next_id id → request ≡ pos last → GoesOnBy (λ log. IsAsked (asked_as asking names community request) log asked) before after
    → result ≡ answer_of asked → AsksBy (λ log. IsExchange asking names log result) community id last before after
one_exchange community asking names id last request asked result before after next is done same =
    let e : Exchange = record { asking = asking; names = names; answer = answer_of asked } in
    let answered : IsQuestionAnswered (question_of community (next_id id) e) done.more (answer_of asked) = record {
      asked = asked;
      asking = subst (λ (z : ℤ). IsAsked (asked_as asking names community z) done.more asked) (is ∙ ap (λ (n : ℕ). pos n) next) done.holds;
      answer_is = refl;
    } in
    subst (λ (r : Result (List Binding) AppFault). AsksBy (λ log. IsExchange asking names log r) community id last before after) (sym same) (record {
      exchanges = e ∷ [];
      holds = refl;
      explained = record { more = done.more; holds = (done.more, [], sym (append-nil done.more), answered, (refl, next)); told = done.told };
    })
