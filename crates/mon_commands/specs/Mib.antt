-- What `mib` does.
use Rattle.std.specs.Prelude.{◌≡◌, ◌⊎◌, ℕ, List, ◌++◌, Result, Ok, Err, String, string_bytes}
use Rattle.std.specs.Global.{Global}
use Rattle.mon_console.specs.Failure.{IsMemory}
use Rattle.mon_console.specs.Files.{IsPrint, IsText}
use Rattle.mon_console.specs.Naming.{AreKnown, IsUnjoined, IsUnnamed, IsUnread}
use Rattle.mon_console.specs.declared.failure.Failure.{Failure}
use Rattle.mon_host.specs.AtHost.{AtHost}
use Rattle.mon_host.specs.Then.{Quietly, Then}
use Rattle.mon_smi.specs.Grammar.{Derives}
use Rattle.mon_smi.specs.Listing.{IsFirstUnnamed, IsListing, names_in}
use Rattle.mon_smi.specs.declared.definition.Definition.{Definition}
use Rattle.mon_smi.specs.declared.fault.NamesFault.{NamesFault}

-- a name of a module means no identifier by all names that are known, as the failure says
pub record IsUnmeant (text : List ℕ) (known : List Definition) (failure : Failure) : Type 0 where
  pub module_name : List ℕ
  pub defs : List Definition
  pub derives : Derives text module_name defs
  pub name : List ℕ
  pub fault : NamesFault
  pub first : IsFirstUnnamed (known ++ defs) (names_in defs) name fault
  pub said : IsUnnamed (known ++ defs) name fault failure

-- the lines of the names that the module in a text defines
pub record AreLines (text : List ℕ) (known : List Definition) (lines : List ℕ) : Type 0 where
  pub module_name : List ℕ
  pub defs : List Definition
  pub derives : Derives text module_name defs
  pub listed : IsListing (known ++ defs) (names_in defs) lines

-- why a text has no lines: it is no module, its names cannot be added, or one means nothing
abbrev pub IsUnlisted : List ℕ → List Definition → Failure → Type 0
IsUnlisted text known failure = IsMemory failure ⊎ (IsUnread text failure
    ⊎ (IsUnjoined text known failure ⊎ IsUnmeant text known failure))

-- the lines of a text, with names that are known; or why there are none
abbrev pub IsListed : List ℕ → List Definition → Result (String Global) Failure → Type 0
IsListed text known (Ok lines) = AreLines text known (string_bytes lines)
IsListed text known (Err failure) = IsUnlisted text known failure

-- The file is read, then the files of the other modules in their order, and the lines of the file's
-- names are printed, by the names of all of them.
abbrev pub IsMib : List ℕ → List (List ℕ) → List AtHost → Result Unit Failure → Type 0
IsMib file modules = Then (IsText file) (λ text. Then (AreKnown modules)
    (λ known. Then (Quietly (IsListed (string_bytes text) known.names))
    (λ lines. IsPrint (string_bytes lines))))
