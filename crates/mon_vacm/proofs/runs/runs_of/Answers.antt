use Rattle.std.proofs.Common.{◌≡◌, ℕ, List, sym, subst, rules}
use Rattle.mon_vacm.specs.Runs.{AreRuns}
use Rattle.mon_vacm.proofs.Passing.{counted_so}
use Rattle.mon_vacm.proofs.runs.runs_of.Goals as goal

pub returns-then-is_err : goal.returns-then-is_err
returns-then-is_err c =
    let same : c.push.new.self.items ≡ c.loop-rest.runs.items = search rules in
    subst (λ (ns : List ℕ). AreRuns ns c.args.families.now) (sym same) (counted_so c.args.families.now c.loop-rest.runs.items c.loop-rest.rest.now c.loop-rest.invariant)

pub returns : goal.returns
returns c = counted_so c.args.families.now c.loop-rest.runs.items c.loop-rest.rest.now c.loop-rest.invariant
