use Rattle.std.proofs.Common.{◌≡◌, ◌∙◌, Bool, true, Result, Ok, Err, ap, sym, map, inr, if◌then◌else◌}
use Rattle.std.specs.List.{list_any}
use Rattle.mon_labels.specs.declared.fault.LabelsFault.{LabelsFault}
use Rattle.mon_labels.specs.declared.fault.LabelsFault.TheVariants.{Twice}
use Rattle.mon_labels.specs.Described.{Described, described, is_of}
use Rattle.mon_labels.proofs.Entries.{any_described}
use Rattle.mon_labels.proofs.reading.unless_twice.Goals as goal

pub returns-then-is_there : goal.returns-then-is_there
returns-then-is_there c =
    let d = described c.args.labels in
    let there : list_any (is_of d.engine d.index) (map described c.args.done.now) ≡ true =
    any_described d.engine d.index c.args.done.now
    ∙ ap (λ e. list_any (λ l. is_of e d.index (described l)) c.args.done.now) (sym c.as_slice.ensures.value)
    ∙ sym c.is_there.ensures ∙ c.if-is_there.true in
    inr (ap (λ (b : Bool). let r : Result Described LabelsFault = (if b then Err (Twice c.args.number) else Ok d) in r) there)
