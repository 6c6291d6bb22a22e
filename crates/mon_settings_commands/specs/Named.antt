-- What the options of `settings` name: files and peers.
use Rattle.std.specs.Prelude.{◌≡◌, ◌<◌, ◌^◌, ℕ, ◌+◌, ◌==◌, List, ◌++◌, Option, Some, None, codes}
use Rattle.std.specs.Prelude.{decimal, if◌then◌else◌}
use Rattle.std.specs.Str.Parse.{IsNumeral, digits_value, without_leading_plus}
use Rattle.mon_console.specs.Failure.{IsOfText}
use Rattle.mon_console.specs.declared.failure.Failure.{Failure}
use Rattle.mon_settings_commands.specs.Refused.{IsFirstBad}

-- an option's text, or this one if it is left out
abbrev pub given_or : List ℕ → Option (List ℕ) → List ℕ
given_or other None = other
given_or other (Some text) = text

-- the name of the file of a station that is this many after the first: from the second on it ends
-- with the station's place
unfoldable pub file_name : (file : List ℕ) (up : ℕ) → List ℕ
file_name file up = if up == 0 then file else file ++ codes "-" ++ decimal (up + 1)

-- a text names a peer: the number of its station, after a plus or without one, an equals sign, and
-- its address
pub record NamesPeer (text : List ℕ) (station : ℕ) (address : List ℕ) : Type 0 where
  pub number : List ℕ
  pub joined : text ≡ number ++ codes "=" ++ address
  pub digits : IsNumeral 10 (without_leading_plus number)
  pub value : station ≡ digits_value 10 (without_leading_plus number)
  pub small : station < 2 ^ 32

-- a text names some peer
abbrev pub NamesSome : List ℕ → Type 0
NamesSome text = (station : ℕ) × (address : List ℕ) × NamesPeer text station address

-- the text names no peer, as the failure says
abbrev pub IsNoPeer : List ℕ → Failure → Type 0
IsNoPeer text failure = ¬ (NamesSome text)
    × IsOfText text (codes "a station's number and address, N=a.b.c.d:port,") failure

-- the first text that names no peer, as the failure says
abbrev pub IsFirstNoPeer : List (List ℕ) → Failure → Type 0
IsFirstNoPeer = IsFirstBad NamesSome IsNoPeer
