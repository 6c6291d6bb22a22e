use Rattle.std.proofs.Common.{◌++◌, codes, refl, string_bytes}
use Rattle.mon_placing.specs.Network.{entries_of, entry, separator}
use Rattle.mon_placing.proofs.Pieces.{more_text, whole_text}
use Rattle.mon_placing.proofs.texts.put_entries.Goals as goal

pub loop-part-preserved : goal.loop-part-preserved
loop-part-preserved c =
    let n = c.args.network in
    let part = c.loop-part.part in
    more_text (entries_of n) (separator part (codes ",\n") ++ entry n part) part (string_bytes c.args.text.now) (string_bytes c.loop-part.text) (string_bytes c.put_entry.new.text)
    c.loop-part.invariant c.in_ok-put_entry.ensures refl

pub returns : goal.returns
returns c =
    whole_text (entries_of c.args.network) c.loop-part.part c.args.groups (string_bytes c.args.text.now) (string_bytes c.loop-part.text) c.loop-part.invariant
    c.loop-part-test.false c.loop-part.auto.part-end
