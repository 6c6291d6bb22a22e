use Rattle.std.proofs.Common.{rules, arith, ◌≡◌, ◌+◌, ◌-◌, ◌++◌, length, take, drop, replicate, min, ◌∙◌, length-drop}
use Rattle.std.proofs.lemmas.List.{take_all}
use Rattle.mon_disk.proofs.Recorded.{built}
use Rattle.mon_disk.proofs.memory.overwrite.Goals as goal

pub returns : goal.returns
returns c =
    let old = c.args.old.now in
    let at = c.args.at in
    let copied : c.in_ok-new.new.items ≡ take c.min.result old = search rules in
    let gap : c.resize.new.self.items ≡ take at c.in_ok-new.new.items ++ replicate (at - c.min.result) 0 = search rules in
    let more : c.extend_from_slice.new.self.items ≡ c.resize.new.self.items ++ c.args.octets.now = search rules in
    let least : c.min-2.result ≡ min (at + length c.args.octets.now) (length old) = search rules in
    let last : take (length old - c.min-2.result) (drop c.min-2.result old) ≡ drop c.min-2.result old = take_all (length old - c.min-2.result) (drop c.min-2.result old) (omega (arith, length-drop c.min-2.result old)) in
    let rest : c.extend_from_slice-2.new.self.items ≡ c.extend_from_slice.new.self.items ++ take (length old - c.min-2.result) (drop c.min-2.result old) = search rules in
    rest ∙ (λ i. c.extend_from_slice.new.self.items ++ last i) ∙ (λ i. more i ++ drop c.min-2.result old) ∙ (λ i. gap i ++ c.args.octets.now ++ drop c.min-2.result old)
    ∙ (λ i. take at (copied i) ++ replicate (at - c.min.result) 0 ++ c.args.octets.now ++ drop c.min-2.result old)
    ∙ built old c.args.octets.now at c.min.result c.min-2.result (search rules) least
