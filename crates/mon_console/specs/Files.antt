-- What commands print, read, write and replace, and how that fails.
use Rattle.std.specs.Prelude.{◌≡◌, ◌⊎◌, ℕ, List, [], ◌∷◌, ◌++◌, Result, Ok, Err, IsUtf8, String}
use Rattle.std.specs.Prelude.{codes, string_bytes}
use Rattle.std.specs.Global.{Global, Vec}
use Rattle.mon_console.specs.Failure.{IsMemory, IsOfStream, IsOfText}
use Rattle.mon_console.specs.declared.failure.Failure.{Failure}
use Rattle.mon_host.specs.AtHost.{AtHost, FileRead, FileUnread, InputRead, InputUnread, PartRead}
use Rattle.mon_host.specs.AtHost.{PartUnread, Permitted, Printed, Renamed, Unpermitted, Unprinted}
use Rattle.mon_host.specs.AtHost.{Unrenamed, Unwritten, Written}
use Rattle.mon_host.specs.Reason.{Why}
use Rattle.mon_host.specs.Then.{Quietly, Then}
use Rattle.mon_host.specs.declared.host.Part.{Part}

-- octets were printed; or that failed, which the failure says
abbrev pub IsPrint : List ℕ → List AtHost → Result Unit Failure → Type 0
IsPrint octets log (Ok done) = log ≡ Printed octets ∷ []
IsPrint octets log (Err failure) = (why : Why) × (log ≡ Unprinted octets why ∷ [])
    × IsOfStream (codes "standard output") why failure

-- octets were written to the file at a path; or that failed
abbrev pub IsWrite : List ℕ → List ℕ → List AtHost → Result Unit Failure → Type 0
IsWrite path octets log (Ok done) = log ≡ Written path octets ∷ []
IsWrite path octets log (Err failure) = (why : Why) × (log ≡ Unwritten path octets why ∷ [])
    × IsOfStream path why failure

-- all users were permitted to read the file at a path; or that failed
abbrev pub IsPermit : List ℕ → List AtHost → Result Unit Failure → Type 0
IsPermit path log (Ok done) = log ≡ Permitted path ∷ []
IsPermit path log (Err failure) = (why : Why) × (log ≡ Unpermitted path why ∷ [])
    × IsOfStream path why failure

-- octets were written to the file at a path, and then all users were permitted to read it
abbrev pub IsPublicWrite : List ℕ → List ℕ → List AtHost → Result Unit Failure → Type 0
IsPublicWrite path octets = Then (IsWrite path octets) (λ done. IsPermit path)

-- the file at a path got another one; or that failed, and the failure names the new path
abbrev pub IsRename : List ℕ → List ℕ → List AtHost → Result Unit Failure → Type 0
IsRename path other log (Ok done) = log ≡ Renamed path other ∷ []
IsRename path other log (Err failure) = (why : Why) × (log ≡ Unrenamed path other why ∷ [])
    × IsOfStream other why failure

-- memory ran out, and nothing was done
abbrev pub IsUndone : List AtHost → Result Unit Failure → Type 0
IsUndone log (Ok done) = ⊥
IsUndone log (Err failure) = (log ≡ []) × IsMemory failure

-- A file is replaced whole: a new one next to it is made so, and then renamed. Memory for its name
-- may run out.
abbrev pub IsReplacingBy : (List ℕ → List AtHost → Result Unit Failure → Type 0) → List ℕ
    → List AtHost → Result Unit Failure → Type 0
IsReplacingBy Makes path log result = IsUndone log result
    ⊎ Then (Makes (path ++ codes ".new")) (λ done. IsRename (path ++ codes ".new") path) log result

-- a file is replaced whole by a new one with these octets
abbrev pub IsReplacing : List ℕ → List ℕ → List AtHost → Result Unit Failure → Type 0
IsReplacing path octets = IsReplacingBy (λ new. IsWrite new octets) path

-- a file is replaced whole by a new one with these octets, which all users may read before it is
-- renamed
abbrev pub IsPublishing : List ℕ → List ℕ → List AtHost → Result Unit Failure → Type 0
IsPublishing path octets = IsReplacingBy (λ new. IsPublicWrite new octets) path

-- standard input was read to its end; or that failed
abbrev pub IsInput : List AtHost → Result (Vec ℕ) Failure → Type 0
IsInput log (Ok octets) = log ≡ InputRead octets.items ∷ []
IsInput log (Err failure) = (why : Why) × (log ≡ InputUnread why ∷ [])
    × IsOfStream (codes "standard input") why failure

-- the file at a path was read to its end; or that failed
abbrev pub IsFile : List ℕ → List AtHost → Result (Vec ℕ) Failure → Type 0
IsFile path log (Ok octets) = log ≡ FileRead path octets.items ∷ []
IsFile path log (Err failure) = (why : Why) × (log ≡ FileUnread path why ∷ [])
    × IsOfStream path why failure

-- a part of the file at a path was read; or that failed
abbrev pub IsPart : List ℕ → Part → List AtHost → Result (Vec ℕ) Failure → Type 0
IsPart path part log (Ok octets) = log ≡ PartRead path part octets.items ∷ []
IsPart path part log (Err failure) = (why : Why) × (log ≡ PartUnread path part why ∷ [])
    × IsOfStream path why failure

-- Octets in UTF-8 are a text. Any others are refused, and the failure says of which place.
abbrev pub IsTextOf : List ℕ → List ℕ → Result (String Global) Failure → Type 0
IsTextOf place octets (Ok text) = string_bytes text ≡ octets
IsTextOf place octets (Err failure) = ¬ (IsUtf8 octets)
    × IsOfText place (codes "text in UTF-8") failure

-- the text in the file at a path
abbrev pub IsText : List ℕ → List AtHost → Result (String Global) Failure → Type 0
IsText path = Then (IsFile path) (λ octets. Quietly (IsTextOf path octets.items))

-- the text on standard input
abbrev pub IsInputText : List AtHost → Result (String Global) Failure → Type 0
IsInputText = Then IsInput (λ octets. Quietly (IsTextOf (codes "standard input") octets.items))
