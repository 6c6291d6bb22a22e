-- What is in a response for a name that was asked for (RFC 3416 sections 4.2.1 and 4.2.2).
use Rattle.std.specs.Prelude.{◌≡◌, ℕ, List, [], ◌∷◌, Some, None, ◌⊎◌}
use Rattle.mon_ber.specs.declared.value.Value.{Value}
use Rattle.mon_ber.specs.declared.value.Value.TheVariants.{NoSuchObject, NoSuchInstance}
use Rattle.mon_ber.specs.declared.value.Value.TheVariants.{EndOfMibView}
use Rattle.mon_pdu.specs.declared.message.Binding.{Binding}
use Rattle.mon_mib.specs.declared.got.Got.{Got}
use Rattle.mon_mib.specs.declared.got.Got.TheVariants.{Found, NoObject, NoInstance}
use Rattle.mon_mib.specs.Known.{Known}
use Rattle.mon_mib.specs.Next.{IsGot, IsNext}
use Rattle.mon_mib.specs.Objects.{objects}

-- the value, or the exception in its place
abbrev pub got_value : Got → Value
got_value (Found value) = value
got_value NoObject = NoSuchObject
got_value NoInstance = NoSuchInstance

-- what a Get finds in a view: outside it there is no object
abbrev pub IsSeen : Known → (List ℕ → Type 0) → List ℕ → Value → Type 0
IsSeen k sees name value =
    (¬ (sees name) × (value ≡ NoSuchObject)) ⊎ (sees name × ((got : Got) × IsGot k name got
    × (value ≡ got_value got)))

-- the answer to a name in a Get: the name itself, with what is found
pub record IsGetAnswer (k : Known) (sees : List ℕ → Type 0) (name : List ℕ) (answer : Binding) :
    Type 0 where
  pub named : answer.name ≡ name
  pub found : IsSeen k sees name answer.value

-- the name with endOfMibView
abbrev pub at_end : List ℕ → Binding
at_end name = record { name = name; value = EndOfMibView }

-- the answer to a name in a GetNext: the least variable in view beyond it, or if there is none the
-- name with endOfMibView
abbrev pub IsNextAnswer : Known → (List ℕ → Type 0) → List ℕ → Binding → Type 0
IsNextAnswer k sees name answer = IsNext objects k sees name (Some answer)
    ⊎ (IsNext objects k sees name None × (answer ≡ at_end name))

-- one answer for each variable binding of the request, in their order
abbrev pub AreFor : (List ℕ → Binding → Type 0) → List Binding → List Binding → Type 0
AreFor R [] [] = Unit {0}
AreFor R (asked ∷ more) (answer ∷ answers) = R asked.name answer × AreFor R more answers
AreFor R [] (answer ∷ answers) = ⊥
AreFor R (asked ∷ more) [] = ⊥
