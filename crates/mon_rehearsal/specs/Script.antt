-- What the lines of a script say.
use Rattle.std.specs.Prelude.{ℕ, ◌≡◌, ◌<◌, ◌+◌, ◌^◌, List, [], ◌∷◌, ◌++◌, ◌==◌, if◌then◌else◌, Ok}
use Rattle.std.specs.Prelude.{codes, decimal, length, true, false}
use Rattle.hex.specs.Hex.{decode_of}
use Rattle.mon_rehearsal.specs.declared.script.ScriptStep.{ScriptStep}
use Rattle.mon_rehearsal.specs.declared.script.ScriptStep.TheVariants.{StartPoll, AgentSays}
use Rattle.mon_rehearsal.specs.declared.script.ScriptStep.TheVariants.{Timeout, Share, Deliver}
use Rattle.mon_rehearsal.specs.declared.script.ScriptStep.TheVariants.{Save, Restart, Forge, Stop}

-- an octet at the front of the first line
abbrev pub onto_line : ℕ → List (List ℕ) → List (List ℕ)
onto_line c [] = (c ∷ []) ∷ []
onto_line c (line ∷ lines) = (c ∷ line) ∷ lines

-- the lines of a script: LF ends a line; after the last one it may be missing
abbrev pub lines_of : List ℕ → List (List ℕ)
lines_of [] = []
lines_of (c ∷ cs) = if c == 10 then [] ∷ lines_of cs else onto_line c (lines_of cs)

-- digits in either case spell these octets, at least one
pub record AreDigits (digits octets : List ℕ) : Type 0 where
  pub spelled : decode_of digits ≡ Ok octets
  pub some : 0 < length octets

-- a word and a number
pub record HasNumber (word : List ℕ) (n : ℕ) (line : List ℕ) : Type 0 where
  pub small : n < 2 ^ 32
  pub is : line ≡ word ++ 32 ∷ decimal n

-- a word and two numbers
pub record HasNumbers (word : List ℕ) (n m : ℕ) (line : List ℕ) : Type 0 where
  pub small : n < 2 ^ 32
  pub small_too : m < 2 ^ 32
  pub is : line ≡ word ++ 32 ∷ decimal n ++ 32 ∷ decimal m

-- What a line says: a word, and its fields with one blank before each. Numbers are decimal, below
-- 2^32 and without leading zeros.
abbrev pub Says : List ℕ → ScriptStep → Type 0
Says line (StartPoll s target) = HasNumbers (codes "poll") s target line
Says line (AgentSays s target octets) = (front digits : List ℕ)
    × HasNumbers (codes "agent") s target front × AreDigits digits octets
    × (line ≡ front ++ 32 ∷ digits)
Says line (Timeout s id) = HasNumbers (codes "timeout") s id line
Says line (Share s peer) = HasNumbers (codes "share") s peer line
Says line (Deliver d) = HasNumber (codes "deliver") d line
Says line (Save s) = HasNumber (codes "save") s line
Says line (Restart s) = HasNumber (codes "restart") s line
Says line (Forge s octets) = (front digits : List ℕ) × HasNumber (codes "forge") s front
    × AreDigits digits octets × (line ≡ front ++ 32 ∷ digits)
Says line (Stop s calls true) = (front : List ℕ) × HasNumbers (codes "stop") s calls front
    × (line ≡ front ++ codes " keep")
Says line (Stop s calls false) = (front : List ℕ) × HasNumbers (codes "stop") s calls front
    × (line ≡ front ++ codes " lose")

-- each line, read in this way, is its step
abbrev pub AreSteps : (List ℕ → ScriptStep → Type 0) → List (List ℕ) → List ScriptStep → Type 0
AreSteps says [] [] = Unit {0}
AreSteps says (line ∷ lines) (step ∷ steps) = says line step × AreSteps says lines steps
AreSteps says lines steps = ⊥

-- the line of this number, counted from 1, is the first that is no step, read in this way
pub record IsFirstBad (says : List ℕ → ScriptStep → Type 0) (lines : List (List ℕ)) (number : ℕ) :
    Type 0 where
  pub before : List (List ℕ)
  pub line : List ℕ
  pub after : List (List ℕ)
  pub steps : List ScriptStep
  pub are : lines ≡ before ++ line ∷ after
  pub said : AreSteps says before steps
  pub at : number ≡ length before + 1
  pub none : (step : ScriptStep) → ¬ (says line step)
