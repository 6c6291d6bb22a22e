use Rattle.std.proofs.Common.{◌≡◌, ◌+◌, ◌*◌, ◌^◌, ◌∙◌, true, refl, ap, sym, subst, arith}
use Rattle.std.proofs.lemmas.Grind.{common_steps}
use Rattle.std.specs.declared.cmp.Ordering.{Ordering}
use Rattle.std.specs.declared.cmp.Ordering.TheVariants.{Less, Equal, Greater}
use Rattle.std.specs.Ordering.{nat_cmp, ordering_then, is_ne}
use Rattle.std.proofs.lemmas.Bool.{true≢false}
use Rattle.mon_sample.specs.Digits.{tag_fits, value_below, is_sample}
use Rattle.mon_sample.specs.Key.{IsSample}
use Rattle.mon_sample.specs.Kind.{kind_tag}
use Rattle.mon_sample.proofs.Order.{by_fields, by_stamp, order, sample_below}
use Rattle.mon_sample.proofs.sample.Sample.compare.Goals as goal

-- what isn't tied is decided by the stamp
told : (r p q s : Ordering) → is_ne r ≡ true → r ≡ ordering_then (ordering_then (ordering_then r p) q) s
told Less p q s h = refl
told Equal p q s h = absurd (true≢false (sym h))
told Greater p q s h = refl

pub returns-then-is_ne : goal.returns-then-is_ne
returns-then-is_ne c =
    let s = c.self.inside in
    let t = c.other.inside in
    let f = c.self.invariant in
    let g = c.other.invariant in
    let rest : Ordering → Ordering = λ r. ordering_then (ordering_then (ordering_then r (nat_cmp s.discontinuity t.discontinuity)) (nat_cmp (kind_tag s.kind) (kind_tag t.kind))) (nat_cmp s.value t.value) in
    let numbers : c.cmp-order.result ≡ nat_cmp (s.boots * 2 ^ 32 + s.time) (t.boots * 2 ^ 32 + t.time) = grind (arith, common_steps) in
    let stamps : c.cmp-order.result ≡ ordering_then (nat_cmp s.boots t.boots) (nat_cmp s.time t.time) =
    numbers ∙ sym (by_stamp s.boots s.time t.boots t.time (omega (arith, f.time_fits)) (omega (arith, g.time_fits))) in
    let chain : c.cmp-order.result ≡ rest (ordering_then (nat_cmp s.boots t.boots) (nat_cmp s.time t.time)) =
    told c.cmp-order.result (nat_cmp s.discontinuity t.discontinuity) (nat_cmp (kind_tag s.kind) (kind_tag t.kind)) (nat_cmp s.value t.value) (sym c.is_ne.ensures ∙ c.if-is_ne.true) ∙ ap rest stamps in
    let by_number : c.cmp-order.result ≡ nat_cmp c.args.self.now c.args.other.now =
    chain
    ∙ by_fields s.boots s.time s.discontinuity (kind_tag s.kind) s.value t.boots t.time t.discontinuity (kind_tag t.kind) t.value
    (omega (arith, f.time_fits)) f.discontinuity_fits (tag_fits s.kind) (value_below s.kind s.value f.value_fits)
    (omega (arith, g.time_fits)) g.discontinuity_fits (tag_fits t.kind) (value_below t.kind t.value g.value_fits)
    ∙ (λ i. nat_cmp (c.self.view_is i) (c.other.view_is i)) in
    let is_s : IsSample c.args.self.now = subst IsSample c.self.view_is (is_sample s.boots s.time s.discontinuity s.kind s.value f) in
    let is_t : IsSample c.args.other.now = subst IsSample c.other.view_is (is_sample t.boots t.time t.discontinuity t.kind t.value g) in
    record {
      number = by_number;
      octets = by_number ∙ sym (order c.args.self.now c.args.other.now (sample_below c.args.self.now is_s) (sample_below c.args.other.now is_t));
    }

pub returns : goal.returns
returns c =
    let s = c.self.inside in
    let t = c.other.inside in
    let f = c.self.invariant in
    let g = c.other.invariant in
    let rest : Ordering → Ordering = λ r. ordering_then (ordering_then (ordering_then r (nat_cmp s.discontinuity t.discontinuity)) (nat_cmp (kind_tag s.kind) (kind_tag t.kind))) (nat_cmp s.value t.value) in
    let numbers : c.cmp-order.result ≡ nat_cmp (s.boots * 2 ^ 32 + s.time) (t.boots * 2 ^ 32 + t.time) = grind (arith, common_steps) in
    let stamps : c.cmp-order.result ≡ ordering_then (nat_cmp s.boots t.boots) (nat_cmp s.time t.time) =
    numbers ∙ sym (by_stamp s.boots s.time t.boots t.time (omega (arith, f.time_fits)) (omega (arith, g.time_fits))) in
    let chain : c.then-3.result ≡ rest (ordering_then (nat_cmp s.boots t.boots) (nat_cmp s.time t.time)) = (let steps : c.then-3.result ≡ rest c.cmp-order.result = grind (arith, common_steps) in steps) ∙ ap rest stamps in
    let by_number : c.then-3.result ≡ nat_cmp c.args.self.now c.args.other.now =
    chain
    ∙ by_fields s.boots s.time s.discontinuity (kind_tag s.kind) s.value t.boots t.time t.discontinuity (kind_tag t.kind) t.value
    (omega (arith, f.time_fits)) f.discontinuity_fits (tag_fits s.kind) (value_below s.kind s.value f.value_fits)
    (omega (arith, g.time_fits)) g.discontinuity_fits (tag_fits t.kind) (value_below t.kind t.value g.value_fits)
    ∙ (λ i. nat_cmp (c.self.view_is i) (c.other.view_is i)) in
    let is_s : IsSample c.args.self.now = subst IsSample c.self.view_is (is_sample s.boots s.time s.discontinuity s.kind s.value f) in
    let is_t : IsSample c.args.other.now = subst IsSample c.other.view_is (is_sample t.boots t.time t.discontinuity t.kind t.value g) in
    record {
      number = by_number;
      octets = by_number ∙ sym (order c.args.self.now c.args.other.now (sample_below c.args.self.now is_s) (sample_below c.args.other.now is_t));
    }
