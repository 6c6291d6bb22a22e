use Rattle.std.proofs.Common.{◌≡◌, ◌+◌, ◌-◌, ◌∙◌, ℕ, sym, ap, subst, get_or, arith}
use Rattle.std.proofs.lemmas.List.{get_or_default}
use Rattle.mon_sample.specs.Key.{boots_of}
use Rattle.mon_saved.proofs.Shared.{is_apart, is_close}
use Rattle.mon_saved.proofs.reading.fits_epoch.Goals as goal

pub returns-then-boots : goal.returns-then-boots
returns-then-boots c =
    let xs = c.args.samples.now in
    let m = c.args.epoch in
    let back : c.loop-i.i - m + m ≡ c.loop-i.i = omega arith in
    let same : boots_of c.index-samples-i.result ≡ boots_of c.index-samples-i-in-loop-i.result = grind arith in
    let here = ap (λ (s : ℕ). boots_of s) (c.index-samples-i.is ∙ get_or_default xs c.loop-i.i c.index-samples-i.result 0 (omega arith)) in
    let before = ap (λ (s : ℕ). boots_of s) (c.index-samples-i-in-loop-i.is ∙ get_or_default xs (c.loop-i.i - m) c.index-samples-i-in-loop-i.result 0 (omega arith)) in
    let close = sym here ∙ same ∙ before in
    sym (is_close m (c.loop-i.i - m) xs 0 c.requires.rising (omega (arith, back)) (subst (λ (j : ℕ). boots_of (get_or xs j 0) ≡ boots_of (get_or xs (c.loop-i.i - m) 0)) (sym back) close))

pub returns : goal.returns
returns c = sym (is_apart c.args.epoch c.args.samples.now 0 c.requires.rising (λ k lt same. c.loop-i.invariant k (omega (arith, lt, c.loop-i-test.false)) same))
