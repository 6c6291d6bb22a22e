use Rattle.std.proofs.Common.{◌≡◌, take}
use Rattle.std.specs.Prelude.{All}
use Rattle.mon_vacm.proofs.runs.run_len.Given as goal

-- those so far are of the view
abbrev pub invariant-loop-family : goal.invariant-loop-family
invariant-loop-family l = record {
  count : l.len ≡ l.family-index;
  same : All (λ f. f.view_name ≡ l.view) (take l.family-index l.families);
}
