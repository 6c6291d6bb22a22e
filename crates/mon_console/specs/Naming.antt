-- Names by the modules in files.
use Rattle.std.specs.Prelude.{◌≡◌, ◌⊎◌, ℕ, List, [], ◌∷◌, ◌++◌, Bool, false, filter, not, Result}
use Rattle.std.specs.Prelude.{Ok, Err, String, codes, string_bytes}
use Rattle.std.specs.Global.{Global}
use Rattle.std.specs.List.{list_any}
use Rattle.std.specs.Str.{bytes_eq}
use Rattle.mon_console.specs.Failure.{IsMemory, IsOf, IsPlain, IsSaid}
use Rattle.mon_console.specs.Files.{IsText}
use Rattle.mon_console.specs.declared.failure.Failure.{Failure}
use Rattle.mon_console.specs.declared.naming.KnownNames.{KnownNames}
use Rattle.mon_faults.specs.declared.fault.Fault.TheVariants.{Names, Text}
use Rattle.mon_host.specs.AtHost.{AtHost}
use Rattle.mon_host.specs.Then.{Quietly, Then}
use Rattle.mon_smi.specs.BuiltIn.{built_in}
use Rattle.mon_smi.specs.Grammar.{Derives}
use Rattle.mon_smi.specs.ModuleFaults.{IsFaultOfModule}
use Rattle.mon_smi.specs.Names.{AreDistinct, EndsAt, EndsUndefined, IsFaultOfAdding, IsNamed}
use Rattle.mon_smi.specs.declared.definition.Definition.{Definition}
use Rattle.mon_smi.specs.declared.fault.NamesFault.{NamesFault}
use Rattle.mon_smi.specs.declared.fault.NamesFault.TheVariants.{OutOfMemory, Unknown}
use Rattle.mon_smi.specs.declared.text_fault.TextFault.{TextFault}

-- what a call left behind, or its failure
abbrev pub left : {A : Type 0} → A → Result Unit Failure → Result A Failure
left new (Ok done) = Ok new
left new (Err failure) = Err failure

-- the text is no module, as the failure says
pub record IsUnread (text : List ℕ) (failure : Failure) : Type 0 where
  pub why : TextFault
  pub fault : failure.fault ≡ Text why
  pub cause : IsFaultOfModule why text
  pub whole : failure.is_cut ≡ false

-- a module's definitions cannot follow these, as the failure says
pub record IsRefusedFor (names added : List Definition) (failure : Failure) : Type 0 where
  pub why : NamesFault
  pub fault : failure.fault ≡ Names why
  pub cause : IsFaultOfAdding why names added
  pub whole : failure.is_cut ≡ false

-- memory ran out, or a module's definitions cannot follow these
abbrev pub IsUnaddable : List Definition → List Definition → Failure → Type 0
IsUnaddable names added failure = IsMemory failure ⊎ IsRefusedFor names added failure

-- the text is a module that cannot join these names, as the failure says
pub record IsUnjoined (text : List ℕ) (names : List Definition) (failure : Failure) : Type 0 where
  pub module_name : List ℕ
  pub added : List Definition
  pub read : Derives text module_name added
  pub refused : IsRefusedFor names added failure

-- the text is a module whose definitions follow those that were known, all with distinct names
pub record IsJoined (text : List ℕ) (names more : List Definition) : Type 0 where
  pub module_name : List ℕ
  pub added : List Definition
  pub read : Derives text module_name added
  pub joined : more ≡ names ++ added
  pub distinct : AreDistinct more

-- these names and those of the module that a text is; or why there are none
abbrev pub AreJoined : List Definition → List ℕ → Result (List Definition) Failure → Type 0
AreJoined names text (Ok more) = IsJoined text names more
AreJoined names text (Err failure) =
    IsMemory failure ⊎ (IsUnread text failure ⊎ IsUnjoined text names failure)

-- these names and those of the module in a file
abbrev pub AreJoinedFrom : List Definition → List ℕ → List AtHost
    → Result (List Definition) Failure → Type 0
AreJoinedFrom names path = Then (IsText path)
    (λ text. Quietly (AreJoined names (string_bytes text)))

-- these names and those of the modules in files, which are read in order
abbrev pub AreJoinedFromAll : List Definition → List (List ℕ) → List AtHost
    → Result (List Definition) Failure → Type 0
AreJoinedFromAll names [] log result = (log ≡ []) × (result ≡ Ok names)
AreJoinedFromAll names (path ∷ paths) log result = Then (AreJoinedFrom names path)
    (λ more. AreJoinedFromAll more paths) log result

-- whether one of the files is this one
abbrev pub is_among : List (String Global) → List ℕ → Bool
is_among files path = list_any (λ file. bytes_eq (string_bytes file) path) files

-- the paths that are none of these files
abbrev pub others : List (String Global) → List (List ℕ) → List (List ℕ)
others files paths = filter (λ path. not (is_among files path)) paths

-- the names in `old` and those of the module in a file are the ones in `new`
abbrev pub IsAddedFile : List ℕ → List Definition → List Definition → List AtHost
    → Result Unit Failure → Type 0
IsAddedFile path old new log result = AreJoinedFrom old path log (left new result)

-- the built-in names, unless memory runs out
abbrev pub AreBuiltIn : Result (List Definition) Failure → Type 0
AreBuiltIn (Ok names) = names ≡ built_in
AreBuiltIn (Err failure) = IsPlain (Names OutOfMemory) failure

-- the built-in names and those of the modules in files, which are read in order
abbrev pub AreNames : List (List ℕ) → List AtHost → Result (List Definition) Failure → Type 0
AreNames paths = Then (Quietly AreBuiltIn) (λ names. AreJoinedFromAll names paths)

-- the names without which module defines which
abbrev pub names_in : Result KnownNames Failure → Result (List Definition) Failure
names_in (Ok known) = Ok known.names
names_in (Err failure) = Err failure

-- the built-in names and those of the modules in files, and which module defines which
abbrev pub AreKnown : List (List ℕ) → List AtHost → Result KnownNames Failure → Type 0
AreKnown paths log result = AreNames paths log (names_in result)

-- the name that a word lacks, where it means nothing since a name is not defined
abbrev pub Lacks : List Definition → List ℕ → List ℕ → Type 0
Lacks names word missing = ((w rest : List ℕ) → IsNamed word w rest → EndsAt names w missing)
    ⊎ ((missing ≡ word) × ((w rest : List ℕ) → IsNamed word w rest → ¬ (EndsUndefined names w)))

-- what a line says of a name that is not defined
abbrev pub undefined : List ℕ
undefined = codes " is not defined; --module FILE gives the names of a module"

-- the failure of a word that means no identifier: of a name that is not defined the line says so
abbrev pub IsUnnamed : List Definition → List ℕ → NamesFault → Failure → Type 0
IsUnnamed names word Unknown failure = (missing : List ℕ) × Lacks names word missing
    × IsSaid (Names Unknown) (word ++ codes ": " ++ missing ++ undefined) failure
IsUnnamed names word fault failure = IsOf (Names fault) failure
