-- What a turn does.
use Rattle.std.proofs.Common.{◌≡◌, ◌∙◌, ap, refl, subst, ℕ, Bool, true, false, List, [], ◌∷◌, cond}
use Rattle.std.specs.Prelude.{Option, None, Result, Ok, Err}
use Rattle.std.specs.IoError.{error_kind}
use Rattle.std.specs.declared.io.Error.{Error}
use Rattle.std.specs.declared.io.ErrorKind.{ErrorKind}
use Rattle.mon_udp.specs.declared.addr.Addr.{Addr}
use Rattle.mon_courier.specs.Courier.{State, failed, prepared, taken_from, with_line, with_parts}
use Rattle.mon_courier.specs.Exchange.{AreSteps, Call, Parts, restarted}
use Rattle.mon_courier.specs.Plan.{failure_news}
use Rattle.mon_courier.specs.Turn.{Connecting, IsBeginning, IsConnecting, IsFlight, IsStart, IsTurn, IsTurnWith, fails, flies, line_of, settled, settled_news}
use Rattle.mon_courier.specs.declared.courier.Line.{Line}
use Rattle.mon_courier.specs.declared.exchange.Stop.{Stop}
use Rattle.mon_courier.specs.declared.news.Cause.TheVariants.{Connect}
use Rattle.mon_courier.specs.declared.news.News.{News}
use Rattle.mon_courier.specs.declared.plan.Plan.{Plan}

-- an attempt goes on
pub flown : {S : Type 0} (Wrote Read : Call S) (now : ℕ) (stream : S) (since : ℕ) (view old new : State S) (said : Option News)
    (after : S) (parts : Parts) (stop : Stop) → view ≡ old → AreSteps Wrote Read 32 stream view.parts after parts stop
    → new ≡ settled stop now (line_of after since) (with_parts parts view) → said ≡ settled_news stop now since view.plan.is_failing
    → IsFlight Wrote Read now stream since old new said
flown {S} Wrote Read now stream since view old new said after parts stop is steps state news =
    subst (λ (s : State S). IsFlight Wrote Read now stream since s new said) is (record {
      stream_after = after;
      parts_after = parts;
      stop = stop;
      steps = steps;
      state_is = state;
      news_is = news;
    })

-- making a request ready changes no address and no plan
taken_address : {S : Type 0} (waiting : List (List ℕ)) (s : State S) → State.address (taken_from waiting s) ≡ s.address
taken_address [] s = refl
taken_address (text ∷ rest) s = refl

taken_plan : {S : Type 0} (waiting : List (List ℕ)) (s : State S) → State.plan (taken_from waiting s) ≡ s.plan
taken_plan [] s = refl
taken_plan (text ∷ rest) s = refl

address_by : {S : Type 0} (b : Bool) (s : State S) → State.address (cond b (with_parts (restarted s.parts) s) (taken_from s.mail.waiting s)) ≡ s.address
address_by true s = refl
address_by false s = taken_address s.mail.waiting s

plan_by : {S : Type 0} (b : Bool) (s : State S) → State.plan (cond b (with_parts (restarted s.parts) s) (taken_from s.mail.waiting s)) ≡ s.plan
plan_by true s = refl
plan_by false s = taken_plan s.mail.waiting s

address_same : {S : Type 0} (s : State S) → State.address (prepared s) ≡ s.address
address_same s = address_by s.taken s

plan_same : {S : Type 0} (s : State S) → State.plan (prepared s) ≡ s.plan
plan_same s = plan_by s.taken s

-- an attempt begins over a stream
pub flies_off : {S : Type 0} (Connected : Connecting S) (Wrote Read : Call S) (now : ℕ) (old ready new : State S) (said : Option News) (stream : S)
    → ready ≡ prepared old → IsConnecting Connected ready.address (Ok stream) → IsFlight Wrote Read now stream now ready new said
    → IsBeginning Connected Wrote Read now old new said
flies_off {S} Connected Wrote Read now old ready new said stream same asked flight =
    flies stream
    (subst (λ (a : Addr). IsConnecting Connected a (let r : Result S Error = Ok stream in r)) (ap (λ (s : State S). s.address) same ∙ address_same old) asked)
    (subst (λ (s : State S). IsFlight Wrote Read now stream now s new said) same flight)

-- an attempt does not begin
pub fails_at_once : {S : Type 0} (Connected : Connecting S) (Wrote Read : Call S) (now : ℕ) (old ready new : State S) (said : Option News) (error : Error) (kind : ErrorKind)
    → ready ≡ prepared old → IsConnecting Connected ready.address (Err error) → kind ≡ error_kind error → new ≡ failed now ready
    → said ≡ failure_news (Connect kind) ready.plan.is_failing → IsBeginning Connected Wrote Read now old new said
fails_at_once {S} Connected Wrote Read now old ready new said error kind same asked is state news =
    fails error
    (subst (λ (a : Addr). IsConnecting Connected a (let r : Result S Error = Err error in r)) (ap (λ (s : State S). s.address) same ∙ address_same old) asked)
    (state ∙ ap (λ (s : State S). failed now s) same)
    (news ∙ (ap (λ (k : ErrorKind). failure_news (Connect k) ready.plan.is_failing) is
    ∙ ap (λ (p : Plan). failure_news (Connect (error_kind error)) p.is_failing) (ap (λ (s : State S). s.plan) same ∙ plan_same old)))

-- no attempt went on
pub turned : {S : Type 0} (Connected : Connecting S) (Wrote Read : Call S) (now : ℕ) (view old new : State S) (said : Option News) (line : Option (Line S))
    → view ≡ old → None ≡ view.line → line ≡ None → IsStart Connected Wrote Read now (with_line line view) new said
    → IsTurn Connected Wrote Read now old new said
turned {S} Connected Wrote Read now view old new said line is none after start =
    let same : IsStart Connected Wrote Read now view new said =
    subst (λ (l : Option (Line S)). IsStart Connected Wrote Read now (with_line l view) new said) (after ∙ none) start in
    subst (λ (s : State S). IsTurn Connected Wrote Read now s new said) is
    (subst (λ (l : Option (Line S)). IsTurnWith l Connected Wrote Read now view new said) none same)
