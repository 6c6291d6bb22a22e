use Rattle.std.proofs.Common.{◌≡◌, ◌⊎◌, ◌∙◌, ℕ, List, Bool, ◌++◌, ap, inl, inr, subst, sym}
use Rattle.std.proofs.lemmas.List.{append-nil}
use Rattle.std.specs.Prelude.{IsTrue, Result, Ok, Err}
use Rattle.mon_host.specs.AtHost.{AtHost}
use Rattle.mon_host.specs.Then.{Follows}
use Rattle.mon_host.proofs.laws.then_stops.Goals as goal

stops : (first : List AtHost → Result ℕ ℕ → Bool) (second : ℕ → List AtHost → Result ℕ ℕ → Bool) (given : Result ℕ ℕ) (begin rest log : List AtHost) (result : Result ℕ ℕ)
    → IsTrue (first begin given) → Follows (λ a l r. IsTrue (second a l r)) given rest result → log ≡ begin ++ rest
    → ((failure : ℕ) × IsTrue (first log (Err failure)) × (result ≡ Err failure))
    ⊎ ((value : ℕ) × (begin rest : List AtHost) × IsTrue (first begin (Ok value)) × IsTrue (second value rest result) × (log ≡ begin ++ rest))
stops first second (Ok value) begin rest log result is then whole = inr (value, begin, rest, is, then, whole)
stops first second (Err failure) begin rest log result is none whole =
    let same : log ≡ begin = whole ∙ (ap (λ r. begin ++ r) none.0 ∙ append-nil begin) in
    inl (failure, subst (λ (l : List AtHost). IsTrue (first l (Err failure))) (sym same) is, none.1)

pub returns : goal.returns
returns c = λ first second log result is. stops first second is.given is.begin is.rest log result is.first is.second is.log_is
