-- A command, what comes before it, and the end of the program after it.
use Rattle.std.proofs.Common.{◌≡◌, ◌∙◌, List, ℕ, [], ◌∷◌, ◌++◌, refl, sym, ap, subst, inr, codes}
use Rattle.std.specs.Prelude.{Bool, true, false, IsErrAnd, Option, Some, Result, Ok, Err}
use Rattle.mon_client.specs.Network.{Agents}
use Rattle.mon_serving.specs.Network.{Ports}
use Rattle.mon_carry_commands.specs.Saving.{Saved}
use Rattle.mon_health_commands.specs.Health.{Stations}
use Rattle.mon_cli.specs.declared.meaning.Invocation.{Invocation}
use Rattle.mon_console.specs.Failure.{IsMemory}
use Rattle.mon_console.specs.Files.{IsPrint}
use Rattle.mon_console.specs.declared.failure.Failure.{Failure}
use Rattle.mon_host.proofs.Promised.{goes_on, quietly, then_fails, then_follows}
use Rattle.mon_host.specs.AtHost.{AtHost, AtTerminal, IsNoted, Noted}
use Rattle.mon_host.specs.declared.level.Level.TheVariants as level
use Rattle.mon_host.specs.Log.{GoesOn, GoesOnBy}
use Rattle.mon_host.specs.Then.{Quietly}
use Rattle.snmpmon.specs.Start.{Does, Hints, IsBefore, IsEnd, IsRun, IsRunFor, IsShown, IsSomeText, is_station, reads_input}

pub ends : (station : Bool) (What : List AtHost → Result Unit Failure → Type 0) (given : Result Unit Failure) (status : ℕ)
    (before between after : Option (List AtHost)) → GoesOnBy (λ log. What log given) before between
    → GoesOnBy (λ log. IsEnd station given log status) between after → GoesOnBy (λ log. IsRun station What log status) before after
ends station What given status before between after done end = record {
  more = done.more ++ end.more;
  holds = record { given = given; begin = done.more; done = done.holds; rest = end.more; end = end.holds; log_is = refl };
  on = goes_on done.more end.more before between after done.on end.on;
}

pub runs : (agents : Agents) (ports : Ports) (saved : Saved) (stations : Stations) (asked : Invocation) (reads station : Bool) (given : Result Unit Failure) (status : ℕ) (start before between after : Option (List AtHost))
    → reads ≡ reads_input asked → station ≡ is_station asked → GoesOnBy (IsBefore reads) start before → GoesOnBy (λ log. Does agents ports saved stations asked log given) before between
    → GoesOnBy (λ log. IsEnd station given log status) between after → GoesOnBy (λ log. IsRunFor agents ports saved stations asked log status) start after
runs agents ports saved stations asked reads station given status start before between after is same first done end =
    let run = ends station (Does agents ports saved stations asked) given status before between after done end in
    record {
      more = first.more ++ run.more;
      holds = record {
        begin = first.more;
        before = subst (λ (b : Bool). IsBefore b first.more) is first.holds;
        rest = run.more;
        run = subst (λ (b : Bool). IsRun b (Does agents ports saved stations asked) run.more status) same run.holds;
        log_is = refl;
      };
      on = goes_on first.more run.more start before after first.on run.on;
    }

pub hints : (at : Bool) (before between after : Option (List AtHost)) → at ≡ true → GoesOn (AtTerminal at ∷ []) before between
    → GoesOnBy (IsNoted level.Info (Some (codes "snmpmon: reads lines from this terminal until Ctrl-D; see snmpmon --help\n"))) between after
    → GoesOnBy Hints before after
hints at before between after is looked said =
    let line = ap (λ (b : Bool). AtTerminal b ∷ said.more) is
    ∙ ap (λ (rest : List AtHost). AtTerminal true ∷ rest) (said.holds.2 ∙ ap (λ (o : List ℕ). Noted level.Info o ∷ []) said.holds.1) in
    record { more = AtTerminal at ∷ said.more; holds = inr line; on = goes_on (AtTerminal at ∷ []) said.more before between after looked said.on }

pub unshown : (r : Result Unit Failure) (told : Option (List AtHost)) → IsErrAnd r IsMemory → GoesOnBy (λ log. IsShown log r) told told
unshown (Ok done) told is = absurd is
unshown (Err failure) told is = then_fails (Quietly IsSomeText) (λ text. IsPrint text) failure told told (quietly IsSomeText (Err failure) told is)

pub shown : (octets : List ℕ) (r : Result Unit Failure) (before after : Option (List AtHost)) → GoesOnBy (λ log. IsPrint octets log r) before after
    → GoesOnBy (λ log. IsShown log r) before after
shown octets r before after done = then_follows (Quietly IsSomeText) (λ text. IsPrint text) (Ok octets) r before before after
    (quietly IsSomeText (Ok octets) before tt) done

-- a call, and what was done after it
pub called : (call : AtHost) (Holds Whole : List AtHost → Type 0) (before between after : Option (List AtHost)) → ((rest : List AtHost) → Holds rest → Whole (call ∷ rest))
    → GoesOn (call ∷ []) before between → GoesOnBy Holds between after → GoesOnBy Whole before after
called call Holds Whole before between after gives first done = record {
  more = call ∷ done.more;
  holds = gives done.more done.holds;
  on = goes_on (call ∷ []) done.more before between after first done.on;
}
