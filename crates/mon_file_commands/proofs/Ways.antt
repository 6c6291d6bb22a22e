-- How the report of a file is printed, read step after step.
use Rattle.std.proofs.Common.{◌≡◌, List, ℕ, [], refl, subst, sym}
use Rattle.std.specs.Prelude.{Err, Ok, Option, Result}
use Rattle.mon_cli.specs.declared.meaning.Printed.{Printed}
use Rattle.mon_console.specs.Labelled.{AreLabels}
use Rattle.mon_console.specs.Printing.{IsPrinting}
use Rattle.mon_console.specs.declared.failure.Failure.{Failure}
use Rattle.mon_console.specs.declared.naming.KnownNames.{KnownNames}
use Rattle.mon_console.specs.declared.printing.Printing.{Printing}
use Rattle.mon_host.specs.AtHost.{AtHost}
use Rattle.mon_host.specs.Log.{GoesOnBy}
use Rattle.mon_host.specs.Then.{Quietly, Then}
use Rattle.mon_host.proofs.Promised.{quietly, then_fails, then_follows}
use Rattle.mon_labels.specs.declared.labels.Labels.{Labels}
use Rattle.mon_file_commands.specs.Own.{IsBuiltIn, IsWayTo}

module _ (labels : Option (List ℕ)) (printed : Printed) where
  abbrev After : Printing → List AtHost → Result (Printing × Labels) Failure → Type 0
  After printing = Then (AreLabels labels) (λ (all : Labels). Quietly (λ (result : Result (Printing × Labels) Failure). result ≡ Ok (printing, all)))

  abbrev Named : KnownNames → List AtHost → Result (Printing × Labels) Failure → Type 0
  Named known = Then (IsPrinting printed known.names []) After

  -- there was no memory for the names
  pub unnamed : (failure : Failure) (r : Result (Printing × Labels) Failure) (told : Option (List AtHost)) → r ≡ Err failure → IsBuiltIn (Err failure) → GoesOnBy (λ log. IsWayTo labels printed log r) told told
  unnamed failure r told is why =
      subst (λ (e : Result (Printing × Labels) Failure). GoesOnBy (λ log. IsWayTo labels printed log e) told told) (sym is)
      (then_fails (Quietly IsBuiltIn) Named failure told told (quietly IsBuiltIn (Err failure) told why))

  -- the modules were read, and then what became of the labels
  named : (known : KnownNames) (printing : Printing) (r : Result (Printing × Labels) Failure) (start read end : Option (List AtHost)) → IsBuiltIn (Ok known)
      → GoesOnBy (λ log. IsPrinting printed known.names [] log (Ok printing)) start read → GoesOnBy (λ log. After printing log r) read end → GoesOnBy (λ log. IsWayTo labels printed log r) start end
  named known printing r start read end built first second =
      then_follows (Quietly IsBuiltIn) Named (Ok known) r start start end (quietly IsBuiltIn (Ok known) start built) (then_follows (IsPrinting printed known.names []) After (Ok printing) r start read end first second)

  -- the labels were not read
  pub unlabelled : (known : KnownNames) (printing : Printing) (failure : Failure) (r : Result (Printing × Labels) Failure) (start read end : Option (List AtHost)) → r ≡ Err failure → IsBuiltIn (Ok known)
      → GoesOnBy (λ log. IsPrinting printed known.names [] log (Ok printing)) start read → GoesOnBy (λ log. AreLabels labels log (Err failure)) read end
      → GoesOnBy (λ log. IsWayTo labels printed log r) start end
  unlabelled known printing failure r start read end is built first second =
      subst (λ (e : Result (Printing × Labels) Failure). GoesOnBy (λ log. IsWayTo labels printed log e) start end) (sym is)
      (named known printing (Err failure) start read end built first
      (then_fails (AreLabels labels) (λ (all : Labels). Quietly (λ (result : Result (Printing × Labels) Failure). result ≡ Ok (printing, all))) failure read end second))

  -- they were
  pub labelled : (known : KnownNames) (printing : Printing) (all : Labels) (start read end : Option (List AtHost)) → IsBuiltIn (Ok known)
      → GoesOnBy (λ log. IsPrinting printed known.names [] log (Ok printing)) start read → GoesOnBy (λ log. AreLabels labels log (Ok all)) read end
      → GoesOnBy (λ log. IsWayTo labels printed log (Ok (printing, all))) start end
  labelled known printing all start read end built first second =
      named known printing (Ok (printing, all)) start read end built first
      (then_follows (AreLabels labels) (λ (all : Labels). Quietly (λ (result : Result (Printing × Labels) Failure). result ≡ Ok (printing, all))) (Ok all) (Ok (printing, all)) read end end second
      (quietly (λ (result : Result (Printing × Labels) Failure). result ≡ Ok (printing, all)) (Ok (printing, all)) end refl))
