use Rattle.std.proofs.Common.{rules, arith, ◌≡◌, ◌<◌, ◌+◌, ◌-◌, sym, ◌∙◌, ap, List, length, take}
use Rattle.mon_disk.specs.Record.{restored, put_back}
use Rattle.mon_disk.proofs.TakenBack.{one_back}
use Rattle.mon_disk.proofs.memory.take_back.Goals as goal

pub loop-left-preserved : goal.loop-left-preserved
loop-left-preserved c =
    let l = c.loop-left in
    let all = c.args.replaced.now in
    let i = l.left - 1 in
    let more : i + 1 ≡ l.left = omega (arith, c.loop-left-test.true) in
    let within : i < length all = omega (arith, more, l.invariant.0) in
    let one = c.index-replaced-left.result in
    let new = c.take_one_back.new.file.items in
    let back : new ≡ put_back one l.file.items = search rules in (
      omega (arith, within),
      ap (λ (f : List _). restored f (take i all)) back
          ∙ sym (one_back l.file.items all i one within c.index-replaced-left.is)
          ∙ ap (λ n. restored l.file.items (take n all)) more
          ∙ l.invariant.1,
    )
