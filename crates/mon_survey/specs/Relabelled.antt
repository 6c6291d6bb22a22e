-- A file of labels with an agent's interfaces as they are now, and the names that it said before.
use Rattle.std.specs.Prelude.{◌≡◌, ◌⊎◌, ℕ, ℤ, pos, int_le, unsigned_abs, Bool, false, not, ◌&&◌}
use Rattle.std.specs.Prelude.{List, [], ◌∷◌, ◌++◌, Option, Some, None, codes, if◌then◌else◌}
use Rattle.std.specs.List.{AllZip}
use Rattle.std.specs.Str.{IsUtf8}
use Rattle.toml.specs.Data.{Data, Items, item, no_items}
use Rattle.mon_board.specs.declared.instance.Watched.{Watched}
use Rattle.mon_survey.specs.declared.answers.Cell.{Cell}
use Rattle.mon_survey.specs.declared.choice.Choice.{Choice}
use Rattle.mon_survey.specs.declared.fault.SurveyFault.{SurveyFault}
use Rattle.mon_survey.specs.declared.fault.SurveyFault.TheVariants as fault
use Rattle.mon_survey.specs.declared.moving.Known.{Known}
use Rattle.mon_survey.specs.Edited.{quoted, text_without}
use Rattle.mon_survey.specs.Labels.{IsLabels, IsNoLabels, IsSameInterface, indexes_after}
use Rattle.mon_survey.specs.Labels.{interfaces_in, is_of, number_at, text_at}
use Rattle.mon_survey.specs.Moved.{At}
use Rattle.mon_survey.specs.Plan.{has_part}
use Rattle.mon_survey.specs.Updated.{indexes_left, new_counters}

-- ---- the names that were known

-- whether a number is an ifIndex
abbrev pub is_index : ℤ → Bool
is_index z = int_le (pos 0) z && int_le z (pos 4294967295)

-- whether a name is known: an empty one names nothing, and U+FFFD is put in place of what is not
-- UTF-8
abbrev pub is_known : List ℕ → Bool
is_known [] = false
is_known (c ∷ cs) = not (has_part (239 ∷ 191 ∷ 189 ∷ []) (c ∷ cs))

-- a name at an index, if both are there and the name is known
abbrev pub known_by : Option ℤ → Option (List ℕ) → List Known
known_by (Some z) (Some name) = if is_index z && is_known name
    then (record { index = unsigned_abs z; name = name }) ∷ [] else []
known_by _ _ = []

-- the name that a table says of an interface, if it is one of this engine
abbrev pub known_at : List ℕ → Data → List Known
known_at engine d = if is_of engine (text_at (codes "engine") d)
    then known_by (number_at (codes "index") d) (text_at (codes "ifName") d) else []

-- the names that tables say of the interfaces of this engine
abbrev pub known_in : List ℕ → Items → List Known
known_in engine no_items = []
known_in engine (item d ds) = known_at engine d ++ known_in engine ds

-- these are the names that a text of labels says of the interfaces of this engine
abbrev pub AreKnownIn : (text engine : List ℕ) → List Known → Type 0
AreKnownIn text engine known = (items : Items) × (interfaces_in text ≡ Some items)
    × (known ≡ known_in engine items)

-- ---- the new file

-- the indexes of the interfaces that are left and of the new ones
abbrev pub indexes_then : Choice → At → List Watched → List ℕ
indexes_then choice a ws = indexes_left a ws ++ indexes_after None (new_counters choice a ws)

-- the tables of other engines
abbrev pub others : List ℕ → Items → List Data
others engine no_items = []
others engine (item d ds) = if is_of engine (text_at (codes "engine") d) then others engine ds
    else d ∷ others engine ds

-- the tables of a list
abbrev pub listed : Items → List Data
listed no_items = []
listed (item d ds) = d ∷ listed ds

-- tables are those of the old ones that are of other engines
abbrev pub AreRest : List ℕ → Items → Items → Type 0
AreRest engine olds news = AllZip IsSameInterface (others engine olds) (listed news)

-- a text is read as those of the old tables that are of other engines
abbrev pub ReadsRest : List ℕ → Items → List ℕ → Type 0
ReadsRest engine before text = (after : Items) × (interfaces_in text ≡ Some after)
    × AreRest engine before after

-- a text is read as those tables of another text that are of other engines
pub record IsRest (engine old rest : List ℕ) : Type 0 where
  pub before : Items
  pub old_read : interfaces_in old ≡ Some before
  pub read : ReadsRest engine before rest

-- The text of labels with the interfaces of an agent as they are now: the old text without its
-- blocks of this engine, of which the comments stay, and then the tables of the interfaces that are
-- left and of the new ones.
pub record IsRelabelled (old engine : List ℕ) (cells : List Cell) (indexes text : List ℕ) : Type 0
  where
    pub rest : IsRest engine old (text_without (quoted engine) old)
    pub labels : IsLabels (text_without (quoted engine) old) engine cells indexes text

-- what is left of the old text is not read as that: the old one is no file of labels, or the rest
-- is none, or says something else
abbrev pub IsNoRest : List ℕ → List ℕ → SurveyFault → Type 0
IsNoRest old engine e =
    ((e ≡ fault.BadLabels) × (interfaces_in old ≡ None))
    ⊎ ((e ≡ fault.Misread) × ((IsUtf8 (text_without (quoted engine) old)
    × IsRest engine old (text_without (quoted engine) old)) → ⊥))

-- why there are no such labels
abbrev pub IsNotRelabelled : List ℕ → List ℕ → List Cell → List ℕ → SurveyFault → Type 0
IsNotRelabelled old engine cells indexes e =
    (e ≡ fault.OutOfMemory) ⊎ (IsNoRest old engine e ⊎ IsNoLabels (text_without (quoted engine) old)
    engine cells indexes e)
