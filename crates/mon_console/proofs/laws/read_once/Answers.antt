use Rattle.std.proofs.Common.{◌≡◌, ◌⊎◌, ◌∙◌, List, ℕ, [], ◌∷◌, ◌++◌, ap, inl, inr}
use Rattle.std.specs.Global.{Global, Vec}
use Rattle.std.specs.Prelude.{Result, Ok, Err, String}
use Rattle.mon_console.specs.Files.{IsFile, IsTextOf}
use Rattle.mon_console.specs.declared.failure.Failure.{Failure}
use Rattle.mon_console.proofs.laws.read_once.Goals as goal
use Rattle.mon_host.specs.AtHost.{AtHost, FileRead, FileUnread}
use Rattle.mon_host.specs.Reason.{Why}
use Rattle.mon_host.specs.Then.{Follows, Quietly}

one : (path : List ℕ) (given : Result (Vec ℕ) Failure) (begin rest log : List AtHost) (result : Result (String Global) Failure) → IsFile path begin given
    → Follows (λ (octets : Vec ℕ). Quietly (IsTextOf path octets.items)) given rest result → log ≡ begin ++ rest
    → ((octets : List ℕ) × (log ≡ FileRead path octets ∷ [])) ⊎ ((why : Why) × (log ≡ FileUnread path why ∷ []))
one path (Ok octets) begin rest log result first second is = inl (octets.items, is ∙ (ap (λ b. b ++ rest) first ∙ ap (λ r. FileRead path octets.items ∷ r) second.0))
one path (Err failure) begin rest log result first none is = inr (first.0, is ∙ (ap (λ b. b ++ rest) first.1 ∙ ap (λ r. FileUnread path first.0 ∷ r) none.0))

pub returns : goal.returns
returns c = λ path log result is. one path is.given is.begin is.rest log result is.first is.second is.log_is
