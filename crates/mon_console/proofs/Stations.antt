-- The steps in which the settings of a station are read.
use Rattle.std.proofs.Common.{List, ℕ, map, refl, string_bytes}
use Rattle.std.specs.Global.{Global, Vec}
use Rattle.std.specs.Prelude.{Option, Ok, Err, String}
use Rattle.mon_cli.specs.declared.meaning.Printed.{Printed}
use Rattle.mon_console.specs.Files.{IsText}
use Rattle.mon_console.specs.Labelled.{AreLabels, AreLabelled, IsLabelled, numbered_by}
use Rattle.mon_console.specs.Naming.{AreJoinedFromAll, AreNames, others}
use Rattle.mon_console.specs.Printing.{IsPrinting, IsPrintingBy}
use Rattle.mon_console.specs.Settings.{AreBoth, Both, AreModuleFiles, AreSettings, IsStationBy, IsStationFile, IsStationText}
use Rattle.mon_console.specs.declared.failure.Failure.{Failure}
use Rattle.mon_console.specs.declared.printing.Printing.{Printing}
use Rattle.mon_host.proofs.Promised.{quietly, then_fails, then_follows}
use Rattle.mon_host.specs.AtHost.{AtHost}
use Rattle.mon_host.specs.Log.{GoesOnBy}
use Rattle.mon_host.specs.Then.{Quietly, Then}
use Rattle.mon_labels.specs.declared.labels.Labels.{Labels}
use Rattle.mon_settings.specs.declared.station.StationSettings.{StationSettings}
use Rattle.mon_smi.specs.declared.definition.Definition.{Definition}

module _ (printed : Printed) where
  pub after_text : (path : List ℕ) (text : String Global) (result : Both) (before read after : Option (List AtHost))
      → GoesOnBy (λ log. IsText path log (Ok text)) before read
      → GoesOnBy (λ log. IsStationText (string_bytes text) printed log result) read after → GoesOnBy (λ log. IsStationFile path printed log result) before after
  after_text path text result before read after first second =
      then_follows (IsText path) (λ t. IsStationText (string_bytes t) printed) (Ok text) result before read after first second

  -- what follows the list of files
  abbrev pub Named : List ℕ → Vec (String Global) → List AtHost → Both → Type 0
  Named text files = Then (AreNames (map string_bytes files.items)) (IsStationBy text printed files.items)

  pub no_files : (text : List ℕ) (failure : Failure) (read : Option (List AtHost)) → AreModuleFiles text (Err failure)
      → GoesOnBy (λ log. IsStationText text printed log (Err failure)) read read
  no_files text failure read is = then_fails (Quietly (AreModuleFiles text)) (Named text) failure read read (quietly (AreModuleFiles text) (Err failure) read is)

  pub after_files : (text : List ℕ) (files : Vec (String Global)) (result : Both) (read after : Option (List AtHost)) → AreModuleFiles text (Ok files)
      → GoesOnBy (λ log. Named text files log result) read after → GoesOnBy (λ log. IsStationText text printed log result) read after
  after_files text files result read after is more =
      then_follows (Quietly (AreModuleFiles text)) (Named text) (Ok files) result read read after (quietly (AreModuleFiles text) (Ok files) read is) more

  pub no_names : (text : List ℕ) (files : Vec (String Global)) (failure : Failure) (read known : Option (List AtHost))
      → GoesOnBy (λ log. AreNames (map string_bytes files.items) log (Err failure)) read known → GoesOnBy (λ log. Named text files log (Err failure)) read known
  no_names text files failure read known done = then_fails (AreNames (map string_bytes files.items)) (IsStationBy text printed files.items) failure read known done

  pub after_names : (text : List ℕ) (files : Vec (String Global)) (names : List Definition) (result : Both) (read known after : Option (List AtHost))
      → GoesOnBy (λ log. AreNames (map string_bytes files.items) log (Ok names)) read known
      → GoesOnBy (λ log. IsStationBy text printed files.items names log result) known after → GoesOnBy (λ log. Named text files log result) read after
  after_names text files names result read known after first second =
      then_follows (AreNames (map string_bytes files.items)) (IsStationBy text printed files.items) (Ok names) result read known after first second

  -- what follows the settings
  abbrev pub Shown : List (String Global) → List Definition → StationSettings → List AtHost → Both → Type 0
  Shown files names settings = Then (IsPrinting printed names files) (λ printing. Quietly (AreBoth settings printing))

  pub no_settings : (text : List ℕ) (files : List (String Global)) (names : List Definition) (failure : Failure) (known : Option (List AtHost))
      → AreSettings text names (Err failure)
      → GoesOnBy (λ log. IsStationBy text printed files names log (Err failure)) known known
  no_settings text files names failure known is =
      then_fails (Quietly (AreSettings text names)) (Shown files names) failure known known (quietly (AreSettings text names) (Err failure) known is)

  pub after_settings : (text : List ℕ) (files : List (String Global)) (names : List Definition) (settings : StationSettings) (result : Both) (known after : Option (List AtHost))
      → AreSettings text names (Ok settings) → GoesOnBy (λ log. Shown files names settings log result) known after
      → GoesOnBy (λ log. IsStationBy text printed files names log result) known after
  after_settings text files names settings result known after is more = then_follows (Quietly (AreSettings text names)) (Shown files names) (Ok settings) result known known after
      (quietly (AreSettings text names) (Ok settings) known is) more

  pub no_printing : (files : List (String Global)) (names : List Definition) (settings : StationSettings) (failure : Failure) (known after : Option (List AtHost))
      → GoesOnBy (λ log. IsPrinting printed names files log (Err failure)) known after
      → GoesOnBy (λ log. Shown files names settings log (Err failure)) known after
  no_printing files names settings failure known after done = then_fails (IsPrinting printed names files) (λ printing. Quietly (AreBoth settings printing)) failure known after done

  pub after_printing : (files : List (String Global)) (names : List Definition) (settings : StationSettings) (printing : Printing) (known after : Option (List AtHost))
      → GoesOnBy (λ log. IsPrinting printed names files log (Ok printing)) known after
      → GoesOnBy (λ log. Shown files names settings log (Ok (settings, printing))) known after
  after_printing files names settings printing known after done = let both : Both = Ok (settings, printing) in
      then_follows (IsPrinting printed names files) (λ printing. Quietly (AreBoth settings printing)) (Ok printing) both known after after done
      (quietly (AreBoth settings printing) both after refl)

  pub printing_by : (names all : List Definition) (files : List (String Global)) (printing : Printing) (before after : Option (List AtHost))
      → GoesOnBy (λ log. AreJoinedFromAll names (others files (map (λ p. p.now) printed.named.modules.now)) log (Ok all)) before after
      → IsPrintingBy printed all (Ok printing)
      → GoesOnBy (λ log. IsPrinting printed names files log (Ok printing)) before after
  printing_by names all files printing before after done is =
      then_follows (AreJoinedFromAll names (others files (map (λ p. p.now) printed.named.modules.now))) (λ all. Quietly (IsPrintingBy printed all)) (Ok all) (Ok printing) before after after done
      (quietly (IsPrintingBy printed all) (Ok printing) after is)

  -- what follows the settings where instances get labels
  abbrev pub Labelled : Option (List ℕ) → StationSettings × Printing → List AtHost → Both → Type 0
  Labelled labels both = Then (AreLabels labels) (λ all. Quietly (AreLabelled both.0 (numbered_by printed both) all))

  pub no_labels : (path : List ℕ) (labels : Option (List ℕ)) (both : StationSettings × Printing) (failure : Failure) (before read after : Option (List AtHost))
      → GoesOnBy (λ log. IsStationFile path printed log (Ok both)) before read → GoesOnBy (λ log. AreLabels labels log (Err failure)) read after
      → GoesOnBy (λ log. IsLabelled path labels printed log (Err failure)) before after
  no_labels path labels both failure before read after first second =
      then_follows (IsStationFile path printed) (Labelled labels) (Ok both) (Err failure) before read after first
      (then_fails (AreLabels labels) (λ all. Quietly (AreLabelled both.0 (numbered_by printed both) all)) failure read after second)

  pub after_labels : (path : List ℕ) (labels : Option (List ℕ)) (both : StationSettings × Printing) (all : Labels) (result : Both) (before read after : Option (List AtHost))
      → GoesOnBy (λ log. IsStationFile path printed log (Ok both)) before read → GoesOnBy (λ log. AreLabels labels log (Ok all)) read after
      → AreLabelled both.0 (numbered_by printed both) all result
      → GoesOnBy (λ log. IsLabelled path labels printed log result) before after
  after_labels path labels both all result before read after first second is =
      then_follows (IsStationFile path printed) (Labelled labels) (Ok both) result before read after first
      (then_follows (AreLabels labels) (λ all. Quietly (AreLabelled both.0 (numbered_by printed both) all)) (Ok all) result read after after second
      (quietly (AreLabelled both.0 (numbered_by printed both) all) result after is))
