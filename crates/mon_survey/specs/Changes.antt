-- What changes if settings poll an agent's interfaces as they are now.
use Rattle.std.specs.Prelude.{◌==◌, ℕ, List, [], ◌∷◌, ◌++◌, Option, Some, None, map, codes, decimal}
use Rattle.std.specs.Prelude.{unwrap_or, if◌then◌else◌}
use Rattle.std.specs.List.{concat, flat_map}
use Rattle.mon_board.specs.declared.instance.Watched.{Watched}
use Rattle.mon_survey.specs.declared.changes.Change.{Change}
use Rattle.mon_survey.specs.declared.changes.Change.TheVariants.{Added, Gone, Moved}
use Rattle.mon_survey.specs.declared.choice.Choice.{Choice}
use Rattle.mon_survey.specs.Answers.{name_in}
use Rattle.mon_survey.specs.Labels.{indexes_after}
use Rattle.mon_survey.specs.Moved.{At, index_now, name_before}
use Rattle.mon_survey.specs.Text.{cleaned}
use Rattle.mon_survey.specs.Updated.{new_counters, polled}

-- an interface of this index is gone, or is now at another index, or nothing changes
abbrev pub change_to : ℕ → Option ℕ → List Change
change_to index None = Gone index ∷ []
change_to index (Some now) = if index == now then [] else Moved index now ∷ []

-- what became of the interface of an index
abbrev pub change_of : At → ℕ → List Change
change_of a index = change_to index (index_now a index)

-- what became of the interfaces that settings poll, and then each new one
abbrev pub changes_between : Choice → At → List Watched → List Change
changes_between choice a ws =
    flat_map (change_of a) (polled a.engine ws) ++ map (λ i. Added i)
    (indexes_after None (new_counters choice a ws))

-- ---- what is said of changes

-- an interface by its name, at most 64 octets of it as a comment shows them, or by its index if it
-- has no name
abbrev pub called : List ℕ → ℕ → List ℕ
called [] index = codes "index " ++ decimal index
called (b ∷ bs) index = cleaned (b ∷ bs)

-- the name that the interface of an index had; nothing if it is not known
abbrev pub old_name : At → ℕ → List ℕ
old_name a index = unwrap_or (name_before a.known index) []

-- the line of a change
abbrev pub change_line : At → Change → List ℕ
change_line a (Added index) = codes "+ " ++ called (name_in a.cells index) index ++ codes "\n"
change_line a (Gone index) = codes "- " ++ called (old_name a index) index ++ codes "\n"
change_line a (Moved index now) = concat (called (name_in a.cells now) index ∷ codes ": index "
    ∷ decimal index ∷ codes " is " ∷ decimal now ∷ codes " now\n" ∷ [])

-- the lines of all changes
abbrev pub change_lines : Choice → At → List Watched → List (List ℕ)
change_lines choice a ws = map (change_line a) (changes_between choice a ws)
