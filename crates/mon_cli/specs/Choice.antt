-- The names of commands.
use Rattle.std.specs.Prelude.{ℕ, List, [], ◌∷◌, codes}
use Rattle.mon_cli.specs.declared.choice.Choice.{Choice}
use Rattle.mon_cli.specs.declared.choice.Choice.TheVariants as commands

-- the word that names a command
abbrev pub word_of : Choice → List ℕ
word_of commands.Replay = codes "replay"
word_of commands.Get = codes "get"
word_of commands.Next = codes "next"
word_of commands.Bulk = codes "bulk"
word_of commands.Walk = codes "walk"
word_of commands.Set = codes "set"
word_of commands.Settings = codes "settings"
word_of commands.Agent = codes "agent"
word_of commands.Answer = codes "answer"
word_of commands.Mib = codes "mib"
word_of commands.Station = codes "station"
word_of commands.Report = codes "report"
word_of commands.Carry = codes "carry"
word_of commands.Healthz = codes "healthz"
word_of commands.SelfTest = codes "selftest"
word_of commands.Rehearse = codes "rehearse"

-- the commands, in the order of the list in help
abbrev pub choices : List Choice
choices = commands.Replay ∷ commands.Get ∷ commands.Next ∷ commands.Bulk ∷ commands.Walk
    ∷ commands.Set ∷ commands.Settings ∷ commands.Agent ∷ commands.Answer ∷ commands.Mib
    ∷ commands.Station ∷ commands.Report ∷ commands.Carry ∷ commands.Healthz ∷ commands.SelfTest
    ∷ commands.Rehearse ∷ []
