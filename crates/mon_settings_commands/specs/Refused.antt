-- Why arguments of the command `settings` are refused, as failures say.
use Rattle.std.specs.Prelude.{◌≡◌, ◌≤◌, ◌⊎◌, ℕ, List, [], ◌∷◌, None, Some, codes, length}
use Rattle.mon_console.specs.Failure.{IsOfText}
use Rattle.mon_console.specs.declared.failure.Failure.{Failure}
use Rattle.mon_udp.specs.Addr.{addr_of}
use Rattle.mon_udp.specs.declared.addr.Addr.{Addr}

-- a word writes an address
abbrev pub IsAddress : List ℕ → Type 0
IsAddress word = (address : Addr) × (addr_of word ≡ Some address)

-- the word is no address, as the failure says
abbrev pub IsNoAddress : List ℕ → Failure → Type 0
IsNoAddress word failure = (addr_of word ≡ None)
    × IsOfText word (codes "an address, a.b.c.d:port,") failure

-- a community has 1 to 512 octets
abbrev pub IsCommunity : List ℕ → Type 0
IsCommunity word = (1 ≤ length word) × (length word ≤ 512)

-- the word is no community, as the failure says
abbrev pub IsNoCommunity : List ℕ → Failure → Type 0
IsNoCommunity word failure = ¬ (IsCommunity word)
    × IsOfText (codes "COMMUNITY") (codes "a text of 1 to 512 octets") failure

-- the first of some words that is bad, as the failure says; those before it are good
abbrev pub IsFirstBad : (List ℕ → Type 0) → (List ℕ → Failure → Type 0) → List (List ℕ) → Failure
    → Type 0
IsFirstBad Good Bad [] failure = ⊥
IsFirstBad Good Bad (word ∷ words) failure = Bad word failure
    ⊎ (Good word × IsFirstBad Good Bad words failure)

-- this is bad; or it is good, and what comes later is bad
abbrev pub OrLater : (bad good later : Type 0) → Type 0
OrLater bad good later = bad ⊎ (good × later)
