-- The response to a GetBulk as it is filled, within its limit.
use Rattle.std.specs.Prelude.{◌≡◌, ℕ, ◌≤◌, Bool, true, false, List, [], ◌∷◌, ◌++◌, length, map}
use Rattle.mon_ber.specs.Sequence.{AreSpelled}
use Rattle.mon_pdu.specs.declared.message.Binding.{Binding}
use Rattle.mon_pdu.specs.Framed.{framed}
use Rattle.mon_pdu.specs.Grammar.{IsBinding}
use Rattle.mon_pdu.specs.Writing.{list_contents, written_message}
use Rattle.mon_mib.specs.Known.{Known}
use Rattle.mon_agent.specs.declared.bulk_in_place.BulkPlan.{BulkPlan}
use Rattle.mon_agent.specs.declared.bulk_in_place.Round.{Round}
use Rattle.mon_agent.specs.declared.bulk_in_place.Round.TheVariants.{Full, Last, More}
use Rattle.mon_agent.specs.Bulk.{IsStepper, all_end_of_mib_view, names_of}
use Rattle.mon_agent.specs.ResponseBuilder.{IsCut, IsEnded}

-- with these variable bindings the response is within its limit
abbrev pub FitsIn : BulkPlan → List Binding → Type 0
FitsIn plan bindings = length (written_message (framed plan.head bindings)) ≤ plan.max_message_size

-- The octets, all of them, spell variable bindings. Their names were listed after those that were
-- there.
pub record AreNamed (octets : List ℕ) (old new : List (List ℕ)) : Type 0 where
  pub asked : List Binding
  pub spelled : AreSpelled IsBinding octets asked
  pub named : new ≡ old ++ names_of asked

-- one variable binding was written after those that were there, or it does not fit
abbrev pub IsOnePut : (List Binding → Type 0) → List Binding → Binding → Bool → List ℕ → Type 0
IsOnePut fits before b true octets = octets ≡ list_contents (before ++ b ∷ [])
IsOnePut fits before b false octets = (octets ≡ list_contents before) × ¬ (fits (before ++ b ∷ []))

-- what became of a round after the variable bindings that were there, and the names after it
abbrev pub IsRoundOf : (List Binding → Type 0) → Round → List Binding → List Binding → List Binding
    → List (List ℕ) → Type 0
IsRoundOf fits Full before round reply names = IsCut fits (before ++ round) reply
IsRoundOf fits Last before round reply names = (reply ≡ before ++ round)
    × (all_end_of_mib_view round ≡ true)
IsRoundOf fits More before round reply names = (reply ≡ before ++ round)
    × (all_end_of_mib_view round ≡ false) × (names ≡ names_of round)

-- A round of answers to the old names was put after the variable bindings that were there, and the
-- octets are all of them.
pub record IsRoundPut (k : Known) (sees : List ℕ → Type 0) (fits : List Binding → Type 0)
    (round : Round) (before : List Binding)
    (old new : List (List ℕ)) (octets : List ℕ) : Type 0 where
  pub reply : List Binding
  pub put : octets ≡ list_contents reply
  pub right : (next : List ℕ → Binding) → IsStepper k sees next
      → IsRoundOf fits round before (map next old) reply new

-- The octets are those of the full list, or of a beginning of it after which what comes next does
-- not fit.
pub record IsFilled (k : Known) (sees : List ℕ → Type 0) (fits : List Binding → Type 0)
    (full : (List ℕ → Binding) → List Binding)
    (octets : List ℕ) : Type 0 where
  pub reply : List Binding
  pub put : octets ≡ list_contents reply
  pub ended : (next : List ℕ → Binding) → IsStepper k sees next → IsEnded fits (full next) reply
