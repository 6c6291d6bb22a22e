-- How an input is read, and why it is not read to its end.
use Rattle.std.specs.Prelude.{◌≡◌, ℕ, zero, suc, ◌+◌, Result, Ok, Err, ◌⊎◌}
use Rattle.std.specs.declared.io.ErrorKind.{ErrorKind}
use Rattle.std.specs.declared.io.ErrorKind.TheVariants.{Interrupted}
use Rattle.mon_udp.specs.Counts.{next_count}
use Rattle.mon_app.specs.declared.counted.Reads.{Reads}
use Rattle.mon_app.specs.declared.fault.AppFault.{AppFault}
use Rattle.mon_app.specs.declared.fault.AppFault.TheVariants.{OutOfMemory, FileFault}

-- how often the end was found, after a read: it is where a read gives no octets
abbrev pub ends_after : {F : Type 0} → Result ℕ F → ℕ → ℕ
ends_after (Ok zero) count = next_count count
ends_after (Ok (suc n)) count = count
ends_after (Err fault) count = count

-- how often a read failed, after one that gave such an error: a signal that ends it is no failure
abbrev pub failures_by : ErrorKind → ℕ → ℕ
failures_by Interrupted count = count
failures_by kind count = next_count count

-- 1048576 reads were made, and none found the end
abbrev pub AreAllReads : Reads → Reads → Type 0
AreAllReads before after = (after.reads ≡ before.reads + 1048576) × (after.ends ≡ before.ends)

-- why an input was not read to its end: it was too long, or a read failed; or memory ran out
abbrev pub IsFaultOfInput : Reads → Reads → AppFault → Type 0
IsFaultOfInput before after FileFault = AreAllReads before after
    ⊎ (after.failures ≡ next_count before.failures)
IsFaultOfInput before after OutOfMemory = Unit {0}
IsFaultOfInput before after other = ⊥
