use Rattle.std.proofs.Common.{rules, ◌≡◌, ◌++◌, ◌≤◌, length, take, drop, sym, ap, ◌∙◌, arith, length-append}
use Rattle.std.specs.Int.{w64, to_be_bytes}
use Rattle.std.proofs.lemmas.List.{take_at, take-append-drop}
use Rattle.std.proofs.lemmas.Slice.{take-put_mid, drop-put_mid, drop-append-drop}
use borrow.Rule.Slice.PartMut.{put_mid}
use Rattle.mon_disk.specs.Keeper.{spelled}
use Rattle.mon_disk.proofs.keeper.write_head.Goals as goal

pub returns-clause-spelled : goal.returns-clause-spelled
unfolding spelled
returns-clause-spelled c =
    let o = c.args.octets.now in
    let body = drop 16 o in
    let first = c.copy_from_slice.new.self in
    let second = c.copy_from_slice-2.new.self in
    let xs = first ++ drop 8 o in
    let generation : first ≡ to_be_bytes w64 c.args.generation = search rules in
    let size : second ≡ to_be_bytes w64 (length body) = search rules in
    let eight : length first ≡ 8 = ap length generation in
    let eight_more : length second ≡ 8 = ap length size in
    let enough : 8 ≤ length xs = omega (arith, eight, length-append first (drop 8 o)) in
    let head : take 16 (put_mid 8 8 xs second) ≡ first ++ second = take-put_mid 8 8 xs second 16 (omega (arith, eight_more)) enough ∙ ap (λ l. l ++ second) (take_at first (drop 8 o) 8 eight) in
    let rest : drop 16 (put_mid 8 8 xs second) ≡ body = drop-put_mid 8 8 xs second 16 (omega arith) enough eight_more ∙ drop-append-drop 8 o first 16 (omega arith) eight in
    sym (take-append-drop 16 (put_mid 8 8 xs second)) ∙ (λ i. head i ++ rest i) ∙ (λ i. generation i ++ size i ++ body)

pub returns-clause-body : goal.returns-clause-body
returns-clause-body c =
    let o = c.args.octets.now in
    let first = c.copy_from_slice.new.self in
    let second = c.copy_from_slice-2.new.self in
    let generation : first ≡ to_be_bytes w64 c.args.generation = search rules in
    let size : second ≡ to_be_bytes w64 (length (drop 16 o)) = search rules in
    let eight : length first ≡ 8 = ap length generation in
    let enough : 8 ≤ length (first ++ drop 8 o) = omega (arith, eight, length-append first (drop 8 o)) in
    drop-put_mid 8 8 (first ++ drop 8 o) second 16 (omega arith) enough (ap length size) ∙ drop-append-drop 8 o first 16 (omega arith) eight
