use Rattle.std.proofs.Common.{◌≡◌, ◌+◌, ◌-◌, ◌∷◌, ◌++◌, [], set, drop, take, length-drop, arith, sym, ◌∙◌, length-set}
use Rattle.std.specs.Prelude.{decimal}
use Rattle.std.proofs.lemmas.Fmt.{length-decimal-le}
use Rattle.std.proofs.lemmas.List.{drop-set, take_all}
use Rattle.std.proofs.lemmas.Grind.{common_steps}
use Rattle.mon_formats.specs.Prometheus.{line_end}
use Rattle.mon_formats.proofs.prometheus.text.put_number_end.Goals as goal

pub write_digits-start-requires : goal.write_digits-start-requires
write_digits-start-requires c = (omega (arith, length-decimal-le 20 c.args.number (omega arith) (omega arith) (omega arith)), omega arith)

pub overflow_sub-end : goal.overflow_sub-end
overflow_sub-end c = omega (arith, length-decimal-le 20 c.args.number (omega arith) (omega arith) (omega arith))

pub overflow_sub-end-2 : goal.overflow_sub-end-2
overflow_sub-end-2 c = omega (arith, length-decimal-le 20 c.args.number (omega arith) (omega arith) (omega arith))

pub overflow_sub-start : goal.overflow_sub-start
overflow_sub-start c = omega (arith, length-decimal-le 20 c.args.number (omega arith) (omega arith) (omega arith))

pub returns : goal.returns
unfolding line_end
returns c =
    let n = c.args.number in
    let w = c.write_digits-start in
    let long = length-decimal-le 20 n (omega arith) (omega arith) (omega arith) in
    let one : w.result - 1 + 1 ≡ w.result = omega arith in
    let two : w.result - 2 + 1 ≡ w.result - 1 = omega arith in
    let begun = drop-set w.new.buf (w.result - 1) 32 (omega arith) in
    let whole = drop-set (set w.new.buf (w.result - 1) 32) (w.result - 2) 125 (omega (arith, length-set w.new.buf (w.result - 1) 32)) in
    let digits : drop (w.result - 1 + 1) w.new.buf ≡ decimal n ++ 10 ∷ [] = (λ i. drop (one i) w.new.buf) ∙ w.ensures.written in
    let first = set w.new.buf (w.result - 1) 32 in
    let end = set first (w.result - 2) 125 in
    let long_end = length-set first (w.result - 2) 125 in
    let is : take (23 - (w.result - 2)) (drop (w.result - 2) end) ≡ line_end (decimal n) =
    take_all (23 - (w.result - 2)) (drop (w.result - 2) end) (omega (arith, length-drop (w.result - 2) end, long_end, length-set w.new.buf (w.result - 1) 32))
    ∙ whole ∙ (λ i. 125 ∷ ((λ j. drop (two j) first) ∙ begun) i) ∙ (λ i. 125 ∷ 32 ∷ digits i) in
    rw (sym is) (grind (arith, common_steps))
