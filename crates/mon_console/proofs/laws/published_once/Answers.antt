use Rattle.std.proofs.Common.{◌≡◌, ◌∙◌, List, ℕ, [], ◌∷◌, ◌++◌, ap, inl, inr}
use Rattle.std.specs.Prelude.{Result, Ok, Err, codes}
use Rattle.mon_console.specs.Files.{IsPermit, IsPublicWrite, IsPublishing, IsRename, IsWrite}
use Rattle.mon_console.specs.declared.failure.Failure.{Failure}
use Rattle.mon_console.proofs.laws.published_once.Goals as goal
use Rattle.mon_host.specs.AtHost.{AtHost, Permitted, Renamed, Written}
use Rattle.mon_host.specs.Then.{Follows}

both : (octets new : List ℕ) (given : Result Unit Failure) (begin rest log : List AtHost) (done : Unit) → IsWrite new octets begin given
    → Follows (λ (u : Unit). IsPermit new) given rest (Ok done) → log ≡ begin ++ rest → log ≡ Written new octets ∷ Permitted new ∷ []
both octets new (Ok u) begin rest log done first second is = is ∙ (ap (λ b. b ++ rest) first ∙ ap (λ r. Written new octets ∷ r) second)
both octets new (Err failure) begin rest log done first none is = absurd (let not : Ok done ≡ Err failure = none.1 in let never : ⊥ = cc in never)

all : (path octets new : List ℕ) (given : Result Unit Failure) (begin rest log : List AtHost) (done : Unit) → IsPublicWrite new octets begin given
    → Follows (λ (u : Unit). IsRename new path) given rest (Ok done) → log ≡ begin ++ rest → log ≡ Written new octets ∷ Permitted new ∷ Renamed new path ∷ []
all path octets new (Ok u) begin rest log done first second is =
    let made = both octets new first.given first.begin first.rest begin u first.first first.second first.log_is in
    is ∙ (ap (λ b. b ++ rest) made ∙ ap (λ r. Written new octets ∷ Permitted new ∷ r) second)
all path octets new (Err failure) begin rest log done first none is = absurd (let not : Ok done ≡ Err failure = none.1 in let never : ⊥ = cc in never)

published : (path octets : List ℕ) (log : List AtHost) (done : Unit) → IsPublishing path octets log (Ok done)
    → log ≡ Written (path ++ codes ".new") octets ∷ Permitted (path ++ codes ".new") ∷ Renamed (path ++ codes ".new") path ∷ []
published path octets log done (inl undone) = absurd undone
published path octets log done (inr t) = all path octets (path ++ codes ".new") t.given t.begin t.rest log done t.first t.second t.log_is

pub returns : goal.returns
returns c = λ path octets log done is. published path octets log done is
