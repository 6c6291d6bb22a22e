-- The variable bindings of the response to a GetBulk (RFC 3416 section 4.2.3).
use Rattle.std.specs.Prelude.{◌≡◌, ℕ, zero, suc, ◌≤◌, ℤ, Bool, true, false, if◌then◌else◌, List, []}
use Rattle.std.specs.Prelude.{◌++◌, length, map, take, drop, ◌⊎◌}
use Rattle.std.specs.List.{list_all}
use Rattle.mon_ber.specs.declared.value.Value.{Value}
use Rattle.mon_ber.specs.declared.value.Value.TheVariants.{EndOfMibView}
use Rattle.mon_pdu.specs.declared.message.Binding.{Binding}
use Rattle.mon_pdu.specs.declared.message.Bulk.{Bulk}
use Rattle.mon_mib.specs.Known.{Known}
use Rattle.mon_agent.specs.Reply.{count_of}
use Rattle.mon_agent.specs.Step.{IsNextAnswer}

-- next answers each name
abbrev pub IsStepper : Known → (List ℕ → Type 0) → (List ℕ → Binding) → Type 0
IsStepper k sees next = (name : List ℕ) → IsNextAnswer k sees name (next name)

-- the names of variable bindings
abbrev pub names_of : List Binding → List (List ℕ)
names_of bindings = map (λ b. b.name) bindings

-- there is no variable at the name, nor beyond it
abbrev pub is_end : Value → Bool
is_end EndOfMibView = true
is_end other = false

-- all of a round are at the end
abbrev pub all_end_of_mib_view : List Binding → Bool
all_end_of_mib_view round = list_all (λ b. is_end b.value) round

-- This many rounds, each with the answers to the names before it; none follows one that is all at
-- the end.
unfoldable pub rounds : (List ℕ → Binding) → ℕ → List (List ℕ) → List Binding
rounds next zero names = []
rounds next (suc m) names =
    let round = map next names in
    round ++ (if all_end_of_mib_view round then [] else rounds next m (names_of round))

-- one answer for each of the first names, and then rounds of answers for the others
unfoldable pub full_list : (List ℕ → Binding) → ℤ → ℤ → List Binding → List Binding
full_list next non_repeaters max_repetitions asked =
    map next (names_of (take (count_of non_repeaters) asked))
    ++ rounds next (count_of max_repetitions) (names_of (drop (count_of non_repeaters) asked))

-- a beginning of a list
abbrev pub IsBeginning : List Binding → List Binding → Type 0
IsBeginning part all = (rest : List Binding) × (all ≡ part ++ rest)

-- the longest beginning that fits, or an empty one
pub record IsLongestPart (fits : List Binding → Type 0) (all part : List Binding) : Type 0 where
  pub begins : IsBeginning part all
  pub within : (part ≡ []) ⊎ fits part
  pub longest : (longer : List Binding) → IsBeginning longer all → fits longer
      → length longer ≤ length part

-- what a GetBulk is answered: the longest beginning of the full list whose response fits
abbrev pub IsBulk : Known → (List ℕ → Type 0) → (List Binding → Type 0) → Bulk → List Binding
    → Type 0
IsBulk k sees fits request answers = (next : List ℕ → Binding) → IsStepper k sees next
    → IsLongestPart fits (full_list next request.non_repeaters request.max_repetitions
    request.bindings) answers
