-- The kinds of counters that the option --only names.
use Rattle.std.specs.Prelude.{◌≡◌, ◌≢◌, ◌↔◌, ◌==◌, ℕ, List, All, Contains, Option, codes, true}
use Rattle.std.specs.List.{slice_split}
use Rattle.mon_console.specs.Failure.{IsOfText}
use Rattle.mon_console.specs.declared.failure.Failure.{Failure}
use Rattle.mon_survey.specs.Plan.{is_wanted}
use Rattle.mon_survey.specs.declared.choice.Kinds.{Kinds}
use Rattle.mon_survey.specs.declared.counter.Kind.{Kind}
use Rattle.mon_survey.specs.declared.counter.Kind.TheVariants.{Octets, Packets, Errors, Discards}
use Rattle.mon_settings_commands.specs.Named.{given_or}
use Rattle.mon_settings_commands.specs.Refused.{IsFirstBad}

-- the word for a kind of counters
abbrev pub kind_word : Kind → List ℕ
kind_word Octets = codes "octets"
kind_word Packets = codes "packets"
kind_word Errors = codes "errors"
kind_word Discards = codes "discards"

-- some kinds of counters, and this one
abbrev pub with_kind : Kind → Kinds → Kinds
with_kind Octets kinds = record kinds { octets = true }
with_kind Packets kinds = record kinds { packets = true }
with_kind Errors kinds = record kinds { errors = true }
with_kind Discards kinds = record kinds { discards = true }

-- the parts of a text between its commas; an empty text has one part, which is empty
abbrev pub words_in : List ℕ → List (List ℕ)
words_in text = slice_split (λ b. b == 44) text

-- the names in the option --only: `octets` and `errors` if it is left out
abbrev pub kind_words : Option (List ℕ) → List (List ℕ)
kind_words only = words_in (given_or (codes "octets,errors") only)

-- a word names a kind of counters
abbrev pub IsKindWord : List ℕ → Type 0
IsKindWord word = (kind : Kind) × (word ≡ kind_word kind)

-- each word names a kind, and exactly the kinds that are named are polled
pub record AreKinds (words : List (List ℕ)) (kinds : Kinds) : Type 0 where
  pub each : All IsKindWord words
  pub exactly : (kind : Kind) → (is_wanted kinds kind ≡ true) ↔ Contains words (kind_word kind)

-- the word names no kind, as the failure says
abbrev pub IsNoKind : List ℕ → Failure → Type 0
IsNoKind word failure = ((kind : Kind) → word ≢ kind_word kind)
    × IsOfText word (codes "octets, packets, errors or discards") failure

-- the first word that names no kind, as the failure says
abbrev pub IsFirstNoKind : List (List ℕ) → Failure → Type 0
IsFirstNoKind = IsFirstBad IsKindWord IsNoKind
