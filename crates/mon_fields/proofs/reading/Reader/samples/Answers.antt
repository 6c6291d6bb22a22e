use Rattle.std.proofs.Common.{rules, ◌≡◌, ◌<◌, ◌-◌, ◌∙◌, ◌++◌, ◌∷◌, [], Some, ap, sym, ℕ, true, false, length, arith}
use Rattle.std.proofs.lemmas.List.{length_push}
use Rattle.std.proofs.lemmas.Result.{err_from_is_err_and}
use Rattle.mon_fields.specs.Reading.{with_front, one_by_one, rises, sample_at, samples_at}
use Rattle.mon_fields.proofs.OneByOne.{is_done}
use Rattle.mon_fields.proofs.Samples.{ends_early, no_record, one_record, does_not_rise, goes_up}
use Rattle.mon_fields.proofs.reading.Reader.samples.Goals as goal

pub returns-in_err-record : goal.returns-in_err-record
returns-in_err-record c =
    let same : c.from-count.result ≡ c.args.count = search rules in
    let held : c.len.result ≡ length c.loop-last.samples.items = search rules in
    let some : 0 < c.from-count.result - length c.loop-last.samples.items = omega (arith, held, c.loop-last-test.true) in
    let p = err_from_is_err_and c.from_residual-in_err-record.result c.from_residual-in_err-record.ensures.1 in
    rw (p.1, p.2) (ends_early c.loop-last.samples.items c.loop-last.last _ c.loop-last.self _ (c.loop-last.invariant.1 ∙ ap (λ (n : ℕ). samples_at n c.args.self.now) same) some
    c.in_err-record.field-0.0 c.in_err-record.ensures.gives)

pub returns-in_err-sample : goal.returns-in_err-sample
returns-in_err-sample c =
    let same : c.from-count.result ≡ c.args.count = search rules in
    let held : c.len.result ≡ length c.loop-last.samples.items = search rules in
    let some : 0 < c.from-count.result - length c.loop-last.samples.items = omega (arith, held, c.loop-last-test.true) in
    let p = err_from_is_err_and c.from_residual-in_err-sample.result c.from_residual-in_err-sample.ensures.1 in
    rw (p.1, p.2) (no_record c.loop-last.samples.items c.loop-last.last _ c.loop-last.self _ (c.loop-last.invariant.1 ∙ ap (λ (n : ℕ). samples_at n c.args.self.now) same) some
    c.in_ok-record.record.now c.take.new.self c.in_ok-record.ensures.gives c.in_err-sample.field-0.0 c.in_err-sample.ensures.gives)

pub returns-then-not-rises : goal.returns-then-not-rises
returns-then-not-rises c =
    let same : c.from-count.result ≡ c.args.count = search rules in
    let held : c.len.result ≡ length c.loop-last.samples.items = search rules in
    let some : 0 < c.from-count.result - length c.loop-last.samples.items = omega (arith, held, c.loop-last-test.true) in
    let one = one_record c.loop-last.samples.items c.loop-last.last _ c.loop-last.self _ c.loop-last.invariant.1 some
    c.in_ok-record.record.now c.take.new.self c.in_ok-sample.sample c.in_ok-record.ensures.gives c.in_ok-sample.ensures.gives in
    let low : rises c.loop-last.last c.in_ok-sample.sample ≡ false = search rules in
    does_not_rise c.loop-last.samples.items c.loop-last.last _ c.loop-last.self _ (c.loop-last.invariant.1 ∙ ap (λ (n : ℕ). samples_at n c.args.self.now) same) some
    c.in_ok-sample.sample c.take.new.self one low

pub loop-last-preserved : goal.loop-last-preserved
loop-last-preserved c =
    let held : c.len.result ≡ length c.loop-last.samples.items = search rules in
    let some : 0 < c.from-count.result - length c.loop-last.samples.items = omega (arith, held, c.loop-last-test.true) in
    let one = one_record c.loop-last.samples.items c.loop-last.last _ c.loop-last.self _ c.loop-last.invariant.1 some
    c.in_ok-record.record.now c.take.new.self c.in_ok-sample.sample c.in_ok-record.ensures.gives c.in_ok-sample.ensures.gives in
    let high : rises c.loop-last.last c.in_ok-sample.sample ≡ true = search rules in
    let longer = length_push c.loop-last.samples.items c.in_ok-sample.sample in
    let next : c.from-count.result - length c.loop-last.samples.items - 1 ≡ c.from-count.result - length (c.loop-last.samples.items ++ c.in_ok-sample.sample ∷ []) = omega (arith, longer, some) in
    rw c.in_ok-push.ensures.items (
      omega (arith, longer, some),
      ap (λ (n : ℕ). with_front (c.loop-last.samples.items ++ c.in_ok-sample.sample ∷ []) (one_by_one sample_at (Some c.in_ok-sample.sample) n c.take.new.self)) (sym next)
          ∙ goes_up c.loop-last.samples.items c.loop-last.last _ c.loop-last.self _ c.loop-last.invariant.1 some c.in_ok-sample.sample c.take.new.self one high,
    )

pub returns : goal.returns
returns c =
    let same : c.from-count.result ≡ c.args.count = search rules in
    let held : c.len.result ≡ length c.loop-last.samples.items = search rules in
    let none : c.from-count.result - length c.loop-last.samples.items ≡ 0 = omega (arith, held, c.loop-last-test.false) in
    rw c.new.ensures (is_done sample_at c.loop-last.samples.items c.loop-last.last _ c.loop-last.self _ (c.loop-last.invariant.1 ∙ ap (λ (n : ℕ). samples_at n c.args.self.now) same) none)
