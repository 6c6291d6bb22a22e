-- What a client command asks, and why it asks nothing.
use Rattle.std.specs.Prelude.{◌≡◌, ◌≢◌, ◌⊎◌, ◌≤◌, ℕ, List, [], ◌∷◌, length, map, None, Some, Result}
use Rattle.std.specs.Prelude.{Ok, Err, codes}
use Rattle.std.specs.Global.{Vec}
use Rattle.mon_client.specs.Meaning.{IsFault, MeansValue, word_of}
use Rattle.mon_app.specs.declared.fault.AppFault.{AppFault}
use Rattle.mon_client.specs.declared.value.ValueKind.{ValueKind}
use Rattle.mon_ber.specs.declared.value.Value.{Value}
use Rattle.mon_cli.specs.declared.meaning.Request.{Request}
use Rattle.mon_commands.specs.declared.query.Query.{Query}
use Rattle.mon_commands.specs.declared.query.Whom.{Whom}
use Rattle.mon_console.specs.Failure.{IsMemory, IsOf, IsOfText}
use Rattle.mon_console.specs.Naming.{AreNames, IsUnnamed}
use Rattle.mon_console.specs.declared.failure.Failure.{Failure}
use Rattle.mon_faults.specs.declared.fault.Fault.TheVariants.{App, Names}
use Rattle.mon_host.specs.AtHost.{AtHost}
use Rattle.mon_host.specs.Then.{Quietly, Then}
use Rattle.mon_oid.specs.Oid.{IsOid}
use Rattle.mon_smi.specs.Names.{IsFaultOfNameText, MeansNumbers}
use Rattle.mon_smi.specs.declared.definition.Definition.{Definition}
use Rattle.mon_smi.specs.declared.fault.NamesFault.{NamesFault}
use Rattle.mon_udp.specs.Addr.{addr_of}

-- a community has 1 to 512 octets
abbrev pub IsCommunity : List ℕ → Type 0
IsCommunity word = (1 ≤ length word) × (length word ≤ 512)

-- the word is no address, as the failure says
abbrev pub IsNoAddress : List ℕ → Failure → Type 0
IsNoAddress word failure = (addr_of word ≡ None)
    × IsOfText word (codes "an address, a.b.c.d:port,") failure

-- the word is no community, as the failure says
abbrev pub IsNoCommunity : List ℕ → Failure → Type 0
IsNoCommunity word failure = ¬ (IsCommunity word)
    × IsOfText (codes "COMMUNITY") (codes "a text of 1 to 512 octets") failure

-- the agent and the community of the arguments; or one of them is of no form that is read
abbrev pub IsWhom : Request → Result Whom Failure → Type 0
IsWhom request (Ok whom) = (whom.agent.word.now ≡ request.address.now)
    × (addr_of request.address.now ≡ Some whom.agent.address)
    × (whom.community.now ≡ request.community.now) × IsCommunity request.community.now
IsWhom request (Err failure) = IsNoAddress request.address.now failure
    ⊎ IsNoCommunity request.community.now failure

-- each word means its identifier by the names
abbrev pub AreMeant : List Definition → List (List ℕ) → List (List ℕ) → Type 0
AreMeant known [] [] = Unit {0}
AreMeant known [] (oid ∷ oids) = ⊥
AreMeant known (word ∷ words) [] = ⊥
AreMeant known (word ∷ words) (oid ∷ oids) = IsOid oid × MeansNumbers known word oid
    × AreMeant known words oids

-- the word means no identifier by the names, as the failure says
pub record IsUnmeant (known : List Definition) (word : List ℕ) (failure : Failure) : Type 0 where
  pub fault : NamesFault
  pub why : IsFaultOfNameText fault known word
  pub is : failure.fault ≡ Names fault
  pub said : (other : NamesFault) × IsUnnamed known word other failure

-- the first word that means no identifier, as the failure says
abbrev pub IsFirstUnmeant : List Definition → List (List ℕ) → Failure → Type 0
IsFirstUnmeant known [] failure = ⊥
IsFirstUnmeant known (word ∷ words) failure = IsUnmeant known word failure
    ⊎ ((oid : List ℕ) × IsOid oid × MeansNumbers known word oid
    × IsFirstUnmeant known words failure)

-- the identifiers that words mean; or why one means none; or memory ran out
abbrev pub AreAsked : List Definition → List (List ℕ) → Result (Vec (List ℕ)) Failure → Type 0
AreAsked known words (Ok oids) = AreMeant known words oids.items
AreAsked known words (Err failure) = IsMemory failure ⊎ IsFirstUnmeant known words failure

-- what the arguments ask of an agent, by names
abbrev pub IsQueryBy : Request → Whom → List Definition → Result Query Failure → Type 0
IsQueryBy request whom known (Ok query) = (query.agent ≡ whom.agent)
    × (query.community ≡ whom.community) × (query.known ≡ known)
    × (query.prints_names ≡ request.named.shown)
    × AreAsked known (map (λ w. w.now) request.names.now) (Ok query.asked)
IsQueryBy request whom known (Err failure) =
    AreAsked known (map (λ w. w.now) request.names.now) (Err failure)

-- The agent and the community are read, then the files of the modules, and then the names.
abbrev pub IsQuery : Request → List AtHost → Result Query Failure → Type 0
IsQuery request = Then (Quietly (IsWhom request))
    (λ whom. Then (AreNames (map (λ f. f.now) request.named.modules.now))
    (λ known. Quietly (IsQueryBy request whom known)))

-- why a word is no value of a kind
pub record IsNoValue (kind word : List ℕ) (failure : Failure) : Type 0 where
  pub meant : ValueKind
  pub kind_is : kind ≡ word_of meant
  pub fault : AppFault
  pub said : IsOf (App fault) failure
  pub why : IsFault (MeansValue meant word) fault

-- the value that a word means for a kind; or why there is none
abbrev pub IsGivenValue : List ℕ → List ℕ → Result Value Failure → Type 0
IsGivenValue kind word (Ok value) = (meant : ValueKind) × (kind ≡ word_of meant)
    × MeansValue meant word value
IsGivenValue kind word (Err failure) = IsNoValue kind word failure
    ⊎ (IsOfText kind (codes "a kind of value") failure
    × ((meant : ValueKind) → kind ≢ word_of meant))
