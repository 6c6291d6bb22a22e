-- Files next to a station's file.
use Rattle.std.specs.Prelude.{◌≡◌, ℕ, Bool, true, false, List, []}
use Rattle.std.specs.Prelude.{◌∷◌, ◌++◌, String, Result, Ok, Err, codes, string_bytes}
use Rattle.std.specs.Global.{Global}
use Rattle.mon_console.specs.Failure.{IsOfStream}
use Rattle.mon_console.specs.Files.{IsRename}
use Rattle.mon_console.specs.declared.failure.Failure.{Failure}
use Rattle.mon_file_commands.specs.Steps.{OrMemory}
use Rattle.mon_host.specs.AtHost.{AtHost, Found, Unfound}
use Rattle.mon_host.specs.Reason.{Why}
use Rattle.mon_host.specs.Then.{Quietly, Then}
use Rattle.mon_carry_commands.specs.declared.paths.Standing.{Standing}
use Rattle.mon_carry_commands.specs.declared.paths.Standing.TheVariants.{Absent, Between, There}

-- a text of these octets is made, or memory runs out for it
abbrev pub IsMade : List ℕ → List AtHost → Result (String Global) Failure → Type 0
IsMade octets = Quietly (OrMemory (λ (text : String Global). string_bytes text ≡ octets))

-- it was asked whether something is at a path; or that failed
abbrev pub IsFinding : List ℕ → List AtHost → Result Bool Failure → Type 0
IsFinding path log (Ok there) = log ≡ Found path there ∷ []
IsFinding path log (Err failure) = (why : Why) × (log ≡ Unfound path why ∷ [])
    × IsOfStream path why failure

-- what is there, by whether the new file is
abbrev pub beside : Bool → Standing
beside true = Between
beside false = Absent

-- the new file is looked for
abbrev pub IsStandingNew : List ℕ → List AtHost → Result Standing Failure → Type 0
IsStandingNew path = Then (IsMade (path ++ codes ".new")) (λ new.
    Then (IsFinding (string_bytes new)) (λ there. Quietly (λ result. result ≡ Ok (beside there))))

-- after the old file: the new one is looked for if that is there
abbrev pub IsStandingIf : Bool → List ℕ → List AtHost → Result Standing Failure → Type 0
IsStandingIf true path = IsStandingNew path
IsStandingIf false path = Quietly (λ result. result ≡ Ok Absent)

-- the old file is looked for, and then the new one
abbrev pub IsStandingBeside : List ℕ → List AtHost → Result Standing Failure → Type 0
IsStandingBeside path = Then (IsMade (path ++ codes ".previous")) (λ previous.
    Then (IsFinding (string_bytes previous)) (λ there. IsStandingIf there path))

-- after the station's file: the others are looked for if that is not there
abbrev pub IsStandingAfter : Bool → List ℕ → List AtHost → Result Standing Failure → Type 0
IsStandingAfter true path = Quietly (λ result. result ≡ Ok There)
IsStandingAfter false path = IsStandingBeside path

-- a station's file is looked for, and if it is not there the old and the new one next to it
abbrev pub IsStanding : List ℕ → List AtHost → Result Standing Failure → Type 0
IsStanding path = Then (IsFinding path) (λ there. IsStandingAfter there path)

-- the station's file gets this path, and then the new one is put at its path
abbrev pub IsSwapTo : (path new previous : List ℕ) → List AtHost → Result Unit Failure → Type 0
IsSwapTo path new previous =
    Then (IsRename path previous) (λ (done : Unit {0}). IsRename new path)

-- the station's file is kept next to its path, where the new one is put then
abbrev pub IsSwap : (path new : List ℕ) → List AtHost → Result Unit Failure → Type 0
IsSwap path new =
    Then (IsMade (path ++ codes ".previous")) (λ previous.
    IsSwapTo path new (string_bytes previous))

-- the new file is put at the path of the station's file
abbrev pub IsFinish : List ℕ → List AtHost → Result Unit Failure → Type 0
IsFinish path = Then (IsMade (path ++ codes ".new")) (λ new. IsRename (string_bytes new) path)
