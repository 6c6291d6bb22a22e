-- What `carry` prints.
use Rattle.std.specs.Prelude.{◌≡◌, ◌/◌, ◌%◌, ◌++◌, ℕ, List}
use Rattle.std.specs.Prelude.{String, Result, codes, decimal, if◌then◌else◌, nat_lt, string_bytes}
use Rattle.std.specs.Global.{Global}
use Rattle.mon_carry.specs.declared.counts.Carried.{Carried}
use Rattle.mon_console.specs.Files.{IsPrint}
use Rattle.mon_console.specs.declared.failure.Failure.{Failure}
use Rattle.mon_file_commands.specs.Steps.{OrMemory}
use Rattle.mon_host.specs.AtHost.{AtHost}
use Rattle.mon_host.specs.Then.{Quietly, Then}

-- a number below a million in decimal digits, with a comma before the last three if there are more
abbrev pub grouped : ℕ → List ℕ
grouped n = if nat_lt n 1000 then decimal n else
    (decimal (n / 1000) ++ (codes "," ++ (decimal (n / 100 % 10)
    ++ (decimal (n / 10 % 10) ++ decimal (n % 10)))))

-- the line of how much was carried, with this text of how many samples
abbrev pub carried_with : (samples : List ℕ) → Carried → List ℕ
carried_with samples c = codes "carried " ++ (decimal c.instances ++ (codes " of "
    ++ (decimal c.watched ++ (codes " instances, " ++ (samples ++ (codes " samples; "
    ++ (decimal c.added ++ (codes " new, " ++ (decimal c.gone ++ codes " gone\n")))))))))

-- the line of how much was carried
abbrev pub carried_line : Carried → List ℕ
carried_line c = carried_with (grouped c.samples) c

-- the line that nothing is carried, since nothing is at a path
abbrev pub absent_line : List ℕ → List ℕ
absent_line path = codes "nothing is carried: " ++ (path ++ codes " is not there\n")

-- the line that what an earlier run carried is at a path now
abbrev pub finished_line : List ℕ → List ℕ
finished_line path =
    codes "carried before: " ++ (path ++ (codes ".new becomes " ++ (path ++ codes "\n")))

-- a text was printed, unless memory ran out for it
abbrev pub IsTextPrint : List ℕ → List AtHost → Result Unit Failure → Type 0
IsTextPrint text =
    Then (Quietly (OrMemory (λ (line : String Global). string_bytes line ≡ text)))
    (λ line. IsPrint (string_bytes line))

-- it was printed how much was carried
abbrev pub IsCountsPrint : Carried → List AtHost → Result Unit Failure → Type 0
IsCountsPrint carried = IsTextPrint (carried_line carried)
