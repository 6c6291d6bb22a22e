use Rattle.std.proofs.Common.{◌≡◌, ℕ, List, ◌<◌, length, refl, replicate, ◌+◌, ◌-◌, ◌*◌, ◌/◌, ◌%◌, ◌∷◌, ◌++◌, [], ap, set, drop, take, length-drop, arith, append_assoc, sym, ◌∙◌, length-set}
use Rattle.std.specs.Prelude.{decimal, Some}
use Rattle.std.proofs.lemmas.Fmt.{length-decimal-le}
use Rattle.std.proofs.lemmas.Grind.{common_steps}
use Rattle.std.proofs.lemmas.List.{drop-set, take_all}
use Rattle.mon_report.specs.Report.{rate_text}
use Rattle.mon_formats.specs.Prometheus.{line_end}
use Rattle.mon_formats.proofs.prometheus.text.put_point_end.Goals as goal

pub write_digits-start-requires : goal.write_digits-start-requires
write_digits-start-requires c = (omega (arith, length-decimal-le 20 c.args.whole (omega arith) (omega arith) (omega arith)), omega arith)

pub overflow_sub-end : goal.overflow_sub-end
overflow_sub-end c = omega (arith, length-decimal-le 20 c.args.whole (omega arith) (omega arith) (omega arith))

pub overflow_sub-end-2 : goal.overflow_sub-end-2
overflow_sub-end-2 c = omega (arith, length-decimal-le 20 c.args.whole (omega arith) (omega arith) (omega arith))

pub overflow_sub-start : goal.overflow_sub-start
overflow_sub-start c = omega (arith, length-decimal-le 20 c.args.whole (omega arith) (omega arith) (omega arith))

module _ (whole below : ℕ) (small : below < 1000) where
  its_whole : (1000 * whole + below) / 1000 ≡ whole
  its_whole = omega (arith, small)

  hundreds : (1000 * whole + below) / 100 % 10 ≡ below / 100
  hundreds = omega (arith, small)

  tens : (1000 * whole + below) / 10 % 10 ≡ below / 10 % 10
  tens = omega (arith, small)

  ones : (1000 * whole + below) % 10 ≡ below % 10
  ones = omega (arith, small)

  -- the digits, and the end of the line behind them
  spelled : decimal whole ++ 46 ∷ (48 + below / 100) ∷ (48 + below / 10 % 10) ∷ (48 + below % 10) ∷ 10 ∷ [] ≡ rate_text (Some (1000 * whole + below)) ++ 10 ∷ []
  spelled =
      let behind = (48 + below / 100) ∷ (48 + below / 10 % 10) ∷ (48 + below % 10) ∷ [] in
      sym (append_assoc (decimal whole ++ 46 ∷ []) behind (10 ∷ []) ∙ append_assoc (decimal whole) (46 ∷ []) (behind ++ 10 ∷ []))
      ∙ (λ i. decimal (sym its_whole i) ++ 46 ∷ [] ++ ((48 + sym hundreds i) ∷ (48 + sym tens i) ∷ (48 + sym ones i) ∷ []) ++ 10 ∷ [])

-- what is behind the number in the array
behind : (buf : List ℕ) (h t o : ℕ) → length buf ≡ 27 → drop 26 buf ≡ 10 ∷ []
    → drop 22 (set (set (set (set buf 25 o) 24 t) 23 h) 22 46) ≡ 46 ∷ h ∷ t ∷ o ∷ 10 ∷ []
behind buf h t o long end =
    let a = set buf 25 o in
    let b = set a 24 t in
    let d = set b 23 h in
    let la = length-set buf 25 o in
    let lb = length-set a 24 t in
    let ld = length-set b 23 h in
    drop-set d 22 46 (omega (arith, la, lb, ld, long))
    ∙ (λ i. 46 ∷ drop-set b 23 h (omega (arith, la, lb, long)) i)
    ∙ (λ i. 46 ∷ h ∷ drop-set a 24 t (omega (arith, la, long)) i)
    ∙ (λ i. 46 ∷ h ∷ t ∷ drop-set buf 25 o (omega (arith, long)) i)
    ∙ (λ i. 46 ∷ h ∷ t ∷ o ∷ end i)

pub returns : goal.returns
unfolding line_end
returns c =
    let n = c.args.whole in
    let below = c.args.below in
    let w = c.write_digits-start in
    let long = length-decimal-le 20 n (omega arith) (omega arith) (omega arith) in
    let one : w.result - 1 + 1 ≡ w.result = omega arith in
    let two : w.result - 2 + 1 ≡ w.result - 1 = omega arith in
    let first = set w.new.buf (w.result - 1) 32 in
    let end = set first (w.result - 2) 125 in
    let begun = drop-set w.new.buf (w.result - 1) 32 (omega arith) in
    let whole = drop-set first (w.result - 2) 125 (omega (arith, length-set w.new.buf (w.result - 1) 32)) in
    let digits : drop (w.result - 1 + 1) w.new.buf ≡ rate_text (Some (1000 * n + below)) ++ 10 ∷ [] =
    (λ i. drop (one i) w.new.buf) ∙ w.ensures.written ∙ ap (λ b. decimal n ++ b) (behind (replicate 27 10) (48 + below / 100) (48 + below / 10 % 10) (48 + below % 10) refl refl) ∙ spelled n below c.requires in
    let long_end = length-set first (w.result - 2) 125 in
    let is : take (27 - (w.result - 2)) (drop (w.result - 2) end) ≡ line_end (rate_text (Some (1000 * n + below))) =
    take_all (27 - (w.result - 2)) (drop (w.result - 2) end) (omega (arith, length-drop (w.result - 2) end, long_end, length-set w.new.buf (w.result - 1) 32))
    ∙ whole ∙ (λ i. 125 ∷ ((λ j. drop (two j) first) ∙ begun) i) ∙ (λ i. 125 ∷ 32 ∷ digits i) in
    rw (sym is) (grind (arith, common_steps))
