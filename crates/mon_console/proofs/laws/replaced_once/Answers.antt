use Rattle.std.proofs.Common.{◌≡◌, ◌∙◌, List, ℕ, [], ◌∷◌, ◌++◌, ap, inl, inr}
use Rattle.std.specs.Prelude.{Result, Ok, Err, codes}
use Rattle.mon_console.specs.Files.{IsRename, IsReplacing, IsWrite}
use Rattle.mon_console.specs.declared.failure.Failure.{Failure}
use Rattle.mon_console.proofs.laws.replaced_once.Goals as goal
use Rattle.mon_host.specs.AtHost.{AtHost, Renamed, Written}
use Rattle.mon_host.specs.Then.{Follows}

both : (path octets new : List ℕ) (given : Result Unit Failure) (begin rest log : List AtHost) (done : Unit) → IsWrite new octets begin given
    → Follows (λ (u : Unit). IsRename new path) given rest (Ok done) → log ≡ begin ++ rest → log ≡ Written new octets ∷ Renamed new path ∷ []
both path octets new (Ok u) begin rest log done first second is = is ∙ (ap (λ b. b ++ rest) first ∙ ap (λ r. Written new octets ∷ r) second)
both path octets new (Err failure) begin rest log done first none is = absurd (let not : Ok done ≡ Err failure = none.1 in let never : ⊥ = cc in never)

replaced : (path octets : List ℕ) (log : List AtHost) (done : Unit) → IsReplacing path octets log (Ok done)
    → log ≡ Written (path ++ codes ".new") octets ∷ Renamed (path ++ codes ".new") path ∷ []
replaced path octets log done (inl undone) = absurd undone
replaced path octets log done (inr t) = both path octets (path ++ codes ".new") t.given t.begin t.rest log done t.first t.second t.log_is

pub returns : goal.returns
returns c = λ path octets log done is. replaced path octets log done is
