-- Reading a line of a script.
use Rattle.std.specs.Prelude.{ℕ, List, if◌then◌else◌, Option, Some, None, codes, true, false}
use Rattle.std.specs.Str.{bytes_eq}
use Rattle.mon_rehearsal.specs.declared.script.ScriptStep.{ScriptStep}
use Rattle.mon_rehearsal.specs.declared.script.ScriptStep.TheVariants.{StartPoll, AgentSays}
use Rattle.mon_rehearsal.specs.declared.script.ScriptStep.TheVariants.{Timeout, Share, Deliver}
use Rattle.mon_rehearsal.specs.declared.script.ScriptStep.TheVariants.{Save, Restart, Forge, Stop}
use Rattle.mon_rehearsal.specs.Fields.{and_then, cut, number_in, numbers_in, octets_in}

-- the step of a word with one number
unfoldable pub short_in : List ℕ → List ℕ → Option ScriptStep
short_in verb fields = and_then (number_in fields) (λ n.
    if bytes_eq verb (codes "deliver") then Some (Deliver n)
    else (if bytes_eq verb (codes "save") then Some (Save n)
    else (if bytes_eq verb (codes "restart") then Some (Restart n) else None)))

-- the step of a word with two numbers
unfoldable pub pair_in : List ℕ → List ℕ → Option ScriptStep
pair_in verb fields = and_then (numbers_in fields) (λ n.
    if bytes_eq verb (codes "poll") then Some (StartPoll n.0 n.1)
    else (if bytes_eq verb (codes "timeout") then Some (Timeout n.0 n.1)
    else (if bytes_eq verb (codes "share") then Some (Share n.0 n.1) else None)))

-- what the fields of `agent` say
unfoldable pub agent_in : List ℕ → Option ScriptStep
agent_in fields = and_then (cut 32 fields) (λ one. and_then (cut 32 one.1)
    (λ two. and_then (number_in one.0) (λ s. and_then (number_in two.0) (λ target.
    and_then (octets_in two.1) (λ octets. Some (AgentSays s target octets))))))

-- what the fields of `forge` say
unfoldable pub forge_in : List ℕ → Option ScriptStep
forge_in fields = and_then (cut 32 fields) (λ one. and_then (number_in one.0)
    (λ s. and_then (octets_in one.1) (λ octets. Some (Forge s octets))))

-- what the fields of `stop` say
unfoldable pub stop_in : List ℕ → Option ScriptStep
stop_in fields = and_then (cut 32 fields) (λ one. and_then (cut 32 one.1)
    (λ two. and_then (number_in one.0) (λ s. and_then (number_in two.0) (λ calls.
    if bytes_eq two.1 (codes "keep") then Some (Stop s calls true)
    else (if bytes_eq two.1 (codes "lose") then Some (Stop s calls false) else None)))))

-- what a word and its fields say
unfoldable pub fields_in : List ℕ → List ℕ → Option ScriptStep
fields_in verb fields =
    if bytes_eq verb (codes "agent") then agent_in fields else
    (if bytes_eq verb (codes "forge") then forge_in fields
    else (if bytes_eq verb (codes "stop") then stop_in fields
    else (if bytes_eq verb (codes "deliver") then short_in verb fields
    else (if bytes_eq verb (codes "save") then short_in verb fields
    else (if bytes_eq verb (codes "restart") then short_in verb fields
    else pair_in verb fields)))))

-- what a line says
unfoldable pub step_in : List ℕ → Option ScriptStep
step_in line = and_then (cut 32 line) (λ parts. fields_in parts.0 parts.1)
