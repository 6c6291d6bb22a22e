-- What names mean (RFC 2578 sections 3.1 and 3.5).
use Rattle.std.specs.Prelude.{◌⊎◌, ◌≡◌, ◌≢◌, ℕ, ◌<◌, ◌≤◌, ◌==◌, List, [], ◌∷◌, ◌++◌, length, take}
use Rattle.std.specs.Prelude.{slice_index, slice_index_or, Option, Some, None, if◌then◌else◌}
use Rattle.std.specs.List.{list_any}
use Rattle.mon_oid.specs.Oid.{IsOid, Spells}
use Rattle.mon_smi.specs.Words.{IsWord}
use Rattle.mon_smi.specs.declared.definition.Definition.{Definition}
use Rattle.mon_smi.specs.declared.fault.Clash.{Clash}
use Rattle.mon_smi.specs.declared.fault.FormFault.{FormFault}
use Rattle.mon_smi.specs.declared.fault.FormFault.TheVariants.{LeadingDot, Colon, Other}
use Rattle.mon_smi.specs.declared.fault.NamesFault.{NamesFault}
use Rattle.mon_smi.specs.declared.fault.NamesFault.TheVariants.{OutOfMemory, Duplicate, Formless}
use Rattle.mon_smi.specs.declared.fault.NamesFault.TheVariants.{Unknown, Cycle, TooDeep}
use Rattle.mon_smi.specs.declared.fault.NamesFault.TheVariants.{BadIdentifier}

-- the definition is at this place
abbrev pub IsAt : List Definition → ℕ → Definition → Type 0
IsAt defs i d = (i < length defs) × (d ≡ slice_index_or defs i d)

-- no two of them have one name
abbrev pub AreDistinct : List Definition → Type 0
AreDistinct defs = (i j : ℕ) (d e : Definition) → IsAt defs i d → IsAt defs j e → d.name ≡ e.name
    → i ≡ j

-- it is one of them
abbrev pub IsOneOf : List Definition → Definition → Type 0
IsOneOf defs d = (i : ℕ) × IsAt defs i d

-- none of them has this name
abbrev pub IsUndefined : List Definition → List ℕ → Type 0
IsUndefined defs w = (d : Definition) → IsOneOf defs d → d.name ≢ w

-- the chain of parents: the first definition is that of the word, each further one is of the parent
-- of the one before it, and the last one's parent is end
abbrev pub Leads : List Definition → Option (List ℕ) → List Definition → Option (List ℕ) → Type 0
Leads defs w [] end = w ≡ end
Leads defs None (d ∷ ds) end = ⊥
Leads defs (Some w) (d ∷ ds) end = IsOneOf defs d × (d.name ≡ w) × Leads defs d.parent ds end

-- the numbers of a chain: the parent's come first
abbrev pub chain_numbers : List Definition → List ℕ
chain_numbers [] = []
chain_numbers (d ∷ ds) = chain_numbers ds ++ d.numbers

-- the word means these numbers
abbrev pub StandsFor : List Definition → List ℕ → List ℕ → Type 0
StandsFor defs w q = (chain : List Definition) × Leads defs (Some w) chain None
    × (q ≡ chain_numbers chain)

-- the chain of the word's parents comes to this name, which no definition has
abbrev pub EndsAt : List Definition → List ℕ → List ℕ → Type 0
EndsAt defs w p = (chain : List Definition) × Leads defs (Some w) chain (Some p)
    × IsUndefined defs p

-- the chain of the word's parents comes to a name that no definition has
abbrev pub EndsUndefined : List Definition → List ℕ → Type 0
EndsUndefined defs w = (p : List ℕ) × EndsAt defs w p

-- the chain of the word's parents comes to a name that it has passed
abbrev pub IsCircular : List Definition → List ℕ → Type 0
IsCircular defs w = (chain : List Definition) × (d : Definition)
    × Leads defs (Some w) chain (Some d.name) × IsOneOf chain d

-- only a word, or a word and numbers after dots
abbrev pub IsNamed : List ℕ → List ℕ → List ℕ → Type 0
IsNamed text w rest = IsWord w × (((text ≡ w) × (rest ≡ []))
    ⊎ ((dotted : List ℕ) × (text ≡ w ++ 46 ∷ dotted) × Spells dotted rest))

-- a text means numbers: those that it spells with dots, or those of a name with the rest after them
abbrev pub MeansNumbers : List Definition → List ℕ → List ℕ → Type 0
MeansNumbers defs text q = Spells text q
    ⊎ ((w rest known : List ℕ) × IsNamed text w rest × StandsFor defs w known × (q ≡ known ++ rest))

-- a text that neither spells numbers nor is a name, with numbers after it or without
abbrev pub IsFormless : List ℕ → Type 0
IsFormless text = ((q : List ℕ) → Spells text q → ⊥) × ((w rest : List ℕ) → IsNamed text w rest → ⊥)

-- what is wrong with the form of such a text: a dot comes first, or a colon is in it, or neither
abbrev pub form_fault : List ℕ → FormFault
form_fault text = if slice_index text 0 == 46 then LeadingDot else if list_any (λ b. b == 58) text
    then Colon else Other

-- of definitions that are to join the known ones this is the first whose name an earlier one has,
-- and where that one is
pub record IsFirstClash (known defs : List Definition) (clash : Clash) : Type 0 where
  pub again : (d e : Definition) × IsAt defs clash.added d × IsAt (known ++ take clash.added defs)
      clash.earlier e × (e.name ≡ d.name)
  pub first : AreDistinct (known ++ take clash.added defs)

-- why the chain of a word has no numbers
abbrev pub IsFaultOfWord : NamesFault → List Definition → List ℕ → Type 0
IsFaultOfWord OutOfMemory defs w = Unit {0}
IsFaultOfWord (Duplicate clash) defs w = ⊥
IsFaultOfWord (Formless form) defs w = ⊥
IsFaultOfWord Unknown defs w = EndsUndefined defs w
IsFaultOfWord Cycle defs w = IsCircular defs w
IsFaultOfWord TooDeep defs w = ⊥
IsFaultOfWord BadIdentifier defs w = ⊥

-- why a word with these numbers after it means no identifier
abbrev pub IsFaultOfName : NamesFault → List Definition → List ℕ → List ℕ → Type 0
IsFaultOfName OutOfMemory defs w rest = Unit {0}
IsFaultOfName (Duplicate clash) defs w rest = ⊥
IsFaultOfName (Formless form) defs w rest = ⊥
IsFaultOfName Unknown defs w rest = EndsUndefined defs w
IsFaultOfName Cycle defs w rest = IsCircular defs w
IsFaultOfName TooDeep defs w rest = (known : List ℕ) × StandsFor defs w known
    × (128 < length (known ++ rest))
IsFaultOfName BadIdentifier defs w rest = (known : List ℕ) × StandsFor defs w known
    × (length (known ++ rest) ≤ 128) × ¬ (IsOid (known ++ rest))

-- why a text means no identifier
abbrev pub IsFaultOfNameText : NamesFault → List Definition → List ℕ → Type 0
IsFaultOfNameText OutOfMemory defs text = Unit {0}
IsFaultOfNameText (Duplicate clash) defs text = ⊥
IsFaultOfNameText (Formless form) defs text = IsFormless text × (form ≡ form_fault text)
IsFaultOfNameText Unknown defs text = (w rest : List ℕ) × IsNamed text w rest × EndsUndefined defs w
IsFaultOfNameText Cycle defs text = (w rest : List ℕ) × IsNamed text w rest × IsCircular defs w
IsFaultOfNameText TooDeep defs text = (q : List ℕ) × MeansNumbers defs text q × (128 < length q)
IsFaultOfNameText BadIdentifier defs text = (q : List ℕ) × MeansNumbers defs text q
    × (length q ≤ 128) × ¬ (IsOid q)

-- why definitions can't join those that are known
abbrev pub IsFaultOfAdding : NamesFault → List Definition → List Definition → Type 0
IsFaultOfAdding OutOfMemory known defs = Unit {0}
IsFaultOfAdding (Duplicate clash) known defs = IsFirstClash known defs clash
IsFaultOfAdding (Formless form) known defs = ⊥
IsFaultOfAdding Unknown known defs = ⊥
IsFaultOfAdding Cycle known defs = ⊥
IsFaultOfAdding TooDeep known defs = ⊥
IsFaultOfAdding BadIdentifier known defs = ⊥

-- a limit on the numbers of an identifier is the only fault of joining them
abbrev pub IsFaultOfJoining : NamesFault → List ℕ → Type 0
IsFaultOfJoining OutOfMemory q = Unit {0}
IsFaultOfJoining (Duplicate clash) q = ⊥
IsFaultOfJoining (Formless form) q = ⊥
IsFaultOfJoining Unknown q = ⊥
IsFaultOfJoining Cycle q = ⊥
IsFaultOfJoining TooDeep q = 128 < length q
IsFaultOfJoining BadIdentifier q = ⊥
