-- How reports are printed, as the arguments ask for it.
use Rattle.std.specs.Prelude.{◌≡◌, ℕ, List, [], ◌∷◌, Bool, true, false, map, Option, Some, None}
use Rattle.std.specs.Prelude.{Result, Ok, Err, String, unwrap_or}
use Rattle.std.specs.Global.{Global, Vec}
use Rattle.mon_cli.specs.declared.meaning.Printed.{Printed}
use Rattle.mon_console.specs.Naming.{AreJoinedFromAll, others}
use Rattle.mon_console.specs.declared.failure.Failure.{Failure}
use Rattle.mon_console.specs.declared.printing.Printing.{Printing}
use Rattle.mon_formats.specs.declared.format.Format.TheVariants.{Columns}
use Rattle.mon_host.specs.AtHost.{AtHost, OutputAtTerminal}
use Rattle.mon_host.specs.Then.{Quietly, Then}
use Rattle.mon_page.specs.declared.extras.InstanceLabels.{InstanceLabels}
use Rattle.mon_page.specs.declared.extras.Presentation.{Presentation}
use Rattle.mon_page.specs.declared.extras.Sort.{Sort}
use Rattle.mon_page.specs.declared.extras.Sort.TheVariants.{Name}
use Rattle.mon_smi.specs.declared.definition.Definition.{Definition}

-- names are shown by those that are known, or not at all
abbrev pub shown_names : Bool → List Definition → Option (List Definition)
shown_names true names = Some names
shown_names false names = None

-- a table with rows in this order, or by name if none is given
abbrev pub presented : Option Sort → Presentation
presented sort = record {
  label = None;
  file_age = None;
  sort = unwrap_or sort Name;
  station = None;
}

-- reports in the format of the arguments, without labels
abbrev pub IsPrintingBy : Printed → List Definition → Result Printing Failure → Type 0
IsPrintingBy printed names (Ok printing) = (printing.format ≡ printed.format)
    × (printing.chosen ≡ printed.chosen)
    × (printing.names ≡ shown_names printed.named.shown names) × (printing.labels.items ≡ [])
    × (printing.presentation ≡ presented printed.sort)
IsPrintingBy printed names (Err failure) = ⊥

-- The modules of the arguments are read whose files were not read before. Then reports are printed
-- by all names.
abbrev pub IsPrinting : Printed → List Definition → List (String Global) → List AtHost
    → Result Printing Failure → Type 0
IsPrinting printed names files = Then
    (AreJoinedFromAll names (others files (map (λ path. path.now) printed.named.modules.now)))
    (λ all. Quietly (IsPrintingBy printed all))

-- reports with these labels of the instances, and with that of the station
abbrev pub with_labels : Vec InstanceLabels → Option (String Global) → Printing → Printing
with_labels labels label p = record p {
  labels = labels;
  presentation = record p.presentation
      { label = label };
}

-- reports in which each series of an instance has this number of a station as a label in
-- Prometheus' text, if there is one
abbrev pub numbered : Option ℕ → Printing → Printing
numbered number p = record p { presentation = record p.presentation { station = number } }

-- reports of a file whose last change is this old in seconds, if that is known
abbrev pub aged : Option ℕ → Printing → Printing
aged age p = record p { presentation = record p.presentation { file_age = age } }

-- reports as tables, if standard output is a terminal
abbrev pub fitted : (at : Bool) → Printing → Printing
fitted true p = record p { format = Columns }
fitted false p = p

-- it was asked whether standard output is a terminal, and reports are fitted to it, unless the
-- arguments name a format
abbrev pub IsFittedIf : (chosen : Bool) → (before after : Printing) → List AtHost → Type 0
IsFittedIf true before after log = (log ≡ []) × (after ≡ before)
IsFittedIf false before after log =
    (at : Bool) × (log ≡ OutputAtTerminal at ∷ []) × (after ≡ fitted at before)

-- reports are fitted to standard output, unless the arguments name a format
abbrev pub IsFitted : (before after : Printing) → List AtHost → Type 0
IsFitted before after = IsFittedIf before.chosen before after
