-- How a command shows names.
use Rattle.std.specs.Prelude.{ℕ, List, Option, Some, None}
use Rattle.mon_oid.specs.Oid.{dotted}
use Rattle.mon_smi.specs.declared.definition.Definition.{Definition}
use Rattle.mon_smi.specs.Labels.{name_text}

-- the text of an identifier: by the nearest of the names that are known, or in dotted numbers if
-- names are not asked for
abbrev pub shown_by : Option (List Definition) → List ℕ → List ℕ
shown_by None oid = dotted oid
shown_by (Some defs) oid = name_text defs oid
