-- The variable bindings of a response as they grow.
use Rattle.std.specs.Prelude.{◌≡◌, ℕ, ◌-◌, ℤ, Bool, true, false, if◌then◌else◌, List, [], ◌∷◌, ◌++◌}
use Rattle.std.specs.Prelude.{length, drop, ◌⊎◌}
use Rattle.mon_ber.specs.Writing.{size_counted}
use Rattle.mon_pdu.specs.declared.message.Binding.{Binding}
use Rattle.mon_pdu.specs.declared.message.Message.{Message}
use Rattle.mon_pdu.specs.Sizes.{with_bindings}
use Rattle.mon_pdu.specs.Writing.{list_contents}
use Rattle.mon_agent.specs.Bulk.{names_of, all_end_of_mib_view, rounds}
use Rattle.mon_agent.specs.Reply.{IsWithinLimit}

-- a response without variable bindings, the limit, and the variable bindings so far
pub record Grown : Type 0 where
  pub head : Message
  pub max_message_size : ℤ
  pub bindings : List Binding

-- with these variable bindings it is within the limit
abbrev pub FitsWith : Grown → List Binding → Type 0
FitsWith grown bindings = IsWithinLimit grown.max_message_size (with_bindings grown.head bindings)

-- the list goes on after this beginning, and what comes next does not fit
pub record IsCut (fits : List Binding → Type 0) (all part : List Binding) : Type 0 where
  pub next : Binding
  pub rest : List Binding
  pub whole : all ≡ part ++ next ∷ rest
  pub full : ¬ (fits (part ++ next ∷ []))

-- all of the list, or a beginning of it after which what comes next does not fit
abbrev pub IsPut : (List Binding → Type 0) → List Binding → Bool → List Binding → Type 0
IsPut fits all true part = part ≡ all
IsPut fits all false part = IsCut fits all part

-- the last ones, this many
abbrev pub last : ℕ → List Binding → List Binding
last width bindings = drop (length bindings - width) bindings

-- what follows a round: nothing where all of it is at the end, else further rounds
unfoldable pub more_rounds : (List ℕ → Binding) → ℕ → List Binding → List Binding
more_rounds next m round = if all_end_of_mib_view round then [] else rounds next m (names_of round)

-- the octets that the variable bindings take are known, and the response is within the limit or has
-- none
pub record IsSized (head : Message) (max_message_size : ℤ) (bindings : List Binding) (list : ℕ) :
    Type 0 where
  pub size : list ≡ size_counted (length (list_contents bindings))
  pub within : (bindings ≡ []) ⊎ IsWithinLimit max_message_size (with_bindings head bindings)

-- all of the list is answered, or a beginning of it after which what comes next does not fit
abbrev pub IsEnded : (List Binding → Type 0) → List Binding → List Binding → Type 0
IsEnded fits all part = (part ≡ all) ⊎ IsCut fits all part
