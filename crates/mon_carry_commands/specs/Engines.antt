-- Engine ids in hex digits.
use Rattle.std.specs.Prelude.{◌≡◌, ◌⊎◌, ℕ, List, Contains, Result, Ok, Err, codes, map}
use Rattle.std.specs.Borrow.{Bor}
use Rattle.std.specs.Global.{Vec}
use Rattle.hex.specs.Hex.{decode_of}
use Rattle.mon_console.specs.Failure.{IsMemory, IsOfText}
use Rattle.mon_console.specs.declared.failure.Failure.{Failure}

-- a text that writes no octets in hex digits is refused
abbrev pub IsNoEngine : List ℕ → Failure → Type 0
IsNoEngine text failure = ((octets : List ℕ) → decode_of text ≡ Ok octets → ⊥)
    × IsOfText text (codes "an engine id in hex digits") failure

-- the octets that a text writes in hex digits; or it writes none, or memory ran out
abbrev pub IsEngine : List ℕ → Result (List ℕ) Failure → Type 0
IsEngine text (Ok engine) = decode_of text ≡ Ok engine
IsEngine text (Err failure) = IsMemory failure ⊎ IsNoEngine text failure

-- the octets that each of these texts writes; or one writes none, or memory ran out
abbrev pub AreEngines : List (Bor (List ℕ)) → Result (Vec (List ℕ)) Failure → Type 0
AreEngines texts (Ok engines) = map (λ t. decode_of t.now) texts ≡ map (λ e. Ok e) engines.items
AreEngines texts (Err failure) = IsMemory failure
    ⊎ ((text : Bor (List ℕ)) × Contains texts text × IsNoEngine text.now failure)
