-- What an agent answers of its engine, before and after its interfaces.
use Rattle.std.specs.Prelude.{◌≡◌, ◌≢◌, ◌⊎◌, ℕ, pos, List, [], ◌∷◌, Option, Some, None, Result, Ok}
use Rattle.std.specs.Prelude.{Err}
use Rattle.std.specs.Global.{Vec}
use Rattle.mon_client.specs.declared.question.Asking.TheVariants.{Get}
use Rattle.mon_ber.specs.declared.value.Value.{Value}
use Rattle.mon_ber.specs.declared.value.Value.TheVariants.{Integer}
use Rattle.mon_console.specs.Failure.{IsMemory}
use Rattle.mon_console.specs.declared.failure.Failure.{Failure}
use Rattle.mon_host.specs.Then.{Quietly, Then}
use Rattle.mon_pdu.specs.declared.message.Binding.{Binding}
use Rattle.mon_survey.specs.Engine.{IsEngine}
use Rattle.mon_survey.specs.declared.fault.SurveyFault.TheVariants.{EngineChanged, NoEngine}
use Rattle.mon_settings_commands.specs.Exchange.{Exchange, IsQuestion}
use Rattle.mon_settings_commands.specs.Source.{IsOfSurvey, OrMemory}
use Rattle.mon_settings_commands.specs.declared.asking.Head.{Head}

-- snmpEngineID.0, snmpEngineBoots.0 and snmpEngineTime.0 (RFC 3411 section 5), and ifNumber.0 (RFC
-- 2863 section 6)
abbrev pub first_names : List (List ℕ)
first_names = (1 ∷ 3 ∷ 6 ∷ 1 ∷ 6 ∷ 3 ∷ 10 ∷ 2 ∷ 1 ∷ 1 ∷ 0 ∷ [])
    ∷ (1 ∷ 3 ∷ 6 ∷ 1 ∷ 6 ∷ 3 ∷ 10 ∷ 2 ∷ 1 ∷ 2 ∷ 0 ∷ [])
    ∷ (1 ∷ 3 ∷ 6 ∷ 1 ∷ 6 ∷ 3 ∷ 10 ∷ 2 ∷ 1 ∷ 3 ∷ 0 ∷ [])
    ∷ (1 ∷ 3 ∷ 6 ∷ 1 ∷ 2 ∷ 1 ∷ 2 ∷ 1 ∷ 0 ∷ []) ∷ []

-- the agent is asked for these four, if memory is left for their names
abbrev pub IsFirstAsked : List ℕ → List Exchange → Result (Vec Binding) Failure → Type 0
IsFirstAsked agent = OrMemory (IsQuestion agent Get first_names)

-- the answers to the four names have this engine id
abbrev pub HasEngine : List Binding → List ℕ → Type 0
HasEngine (id ∷ boots ∷ time ∷ number ∷ []) engine = IsEngine id.value boots.value time.value engine
HasEngine _ engine = ⊥

-- they have none
abbrev pub HasNoEngine : List Binding → Type 0
HasNoEngine bindings = (engine : List ℕ) → ¬ (HasEngine bindings engine)

-- the number of an integer from 0 on; none of any other value
abbrev pub count_in : Value → Option ℕ
count_in (Integer (pos n)) = Some n
count_in _ = None

-- the ifNumber in the answers to the four names
abbrev pub number_in : List Binding → Option ℕ
number_in (id ∷ boots ∷ time ∷ number ∷ []) = count_in number.value
number_in _ = None

-- the engine id and the ifNumber in the answers; or they have no engine id, or memory ran out
abbrev pub IsHeadIn : List Binding → Result Head Failure → Type 0
IsHeadIn bindings (Ok head) = HasEngine bindings head.engine.items
    × (head.number ≡ number_in bindings)
IsHeadIn bindings (Err failure) = IsMemory failure ⊎ (HasNoEngine bindings
    × IsOfSurvey NoEngine failure)

-- the agent is asked for the four, and its engine id and its ifNumber are read
abbrev pub IsHead : List ℕ → List Exchange → Result Head Failure → Type 0
IsHead agent = Then (IsFirstAsked agent)
    (λ bindings. Quietly (IsHeadIn bindings.items))

-- the engine id is still this one; or there is none, or another one
abbrev pub IsEngineStill : List ℕ → List Binding → Result Unit Failure → Type 0
IsEngineStill engine bindings (Ok done) = HasEngine bindings engine
IsEngineStill engine bindings (Err failure) = (HasNoEngine bindings × IsOfSurvey NoEngine failure)
    ⊎ ((other : List ℕ) × HasEngine bindings other × (other ≢ engine)
    × IsOfSurvey EngineChanged failure)

-- the agent is asked for the four again, and its engine id must be the one before
abbrev pub IsSameEngine : List ℕ → List ℕ → List Exchange → Result Unit Failure → Type 0
IsSameEngine agent engine = Then (IsFirstAsked agent)
    (λ bindings. Quietly (IsEngineStill engine bindings.items))
