use Rattle.std.proofs.Common.{ℕ, length, subst, ap, ◌∙◌}
use Rattle.mon_sample.specs.Key.{IsSample}
use Rattle.mon_sample.specs.Record.{octets_of}
use Rattle.mon_saved.proofs.Moved.{last_is, moves_down, newest_of}
use Rattle.mon_saved.proofs.kept.move_records.Goals as goal

pub returns-clause-moved : goal.returns-clause-moved
returns-clause-moved c = λ front back rest oldest newest whole at is.
    moves_down c.args.octets.now front back rest oldest newest c.args.start (length c.args.items.now) _ _ whole at (last_is rest newest _ is)
    c.copy_within.ensures.after (c.copy_from_slice.ensures.after ∙ c.to_record.ensures.octets ∙ ap octets_of (newest_of rest newest _ _ is c.index-items-items.is))

pub returns-clause-sample : goal.returns-clause-sample
returns-clause-sample c = λ rest newest is. subst (λ (s : ℕ). IsSample s) (newest_of rest newest _ _ is c.index-items-items.is) c.to_record.ensures.sample
