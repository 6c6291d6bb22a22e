use Rattle.std.proofs.Common.{◌≡◌, ℕ, List, rules, sym, ap, ◌∙◌, subst, Ok}
use Rattle.mon_sample.specs.Key.{key, IsSample, HasTag, HasStamp, HasValue}
use Rattle.mon_sample.specs.Record.{octets_of, spelled}
use Rattle.mon_sample.proofs.Octets.{spelled-octets_of}
use Rattle.mon_sample.proofs.Order.{sample_below}
use Rattle.mon_sample.proofs.sample.Sample.from_record.Goals as goal

-- octets that are a sample's record spell a sample
spells : (octets : List ℕ) (s : ℕ) → IsSample s → octets ≡ octets_of s → spelled octets ≡ s
spells octets s is e = ap spelled e ∙ spelled-octets_of s (sample_below s is)

is_spelled : (octets : List ℕ) (s : ℕ) → IsSample s → octets ≡ octets_of s → IsSample (spelled octets)
is_spelled octets s is e = subst IsSample (sym (spells octets s is e)) is

pub returns-in_default-clause-only : goal.returns-in_default-clause-only
returns-in_default-clause-only c = λ s is e.
    let none : HasTag (spelled c.args.octets.now) → ⊥ = search rules in
    absurd (none (is_spelled c.args.octets.now s is e).tag)

pub returns-then-parts-ge-STAMP_LIMIT-clause-only : goal.returns-then-parts-ge-STAMP_LIMIT-clause-only
returns-then-parts-ge-STAMP_LIMIT-clause-only c = λ s is e.
    let none : HasStamp (spelled c.args.octets.now) → ⊥ = search rules in
    absurd (none (is_spelled c.args.octets.now s is e).stamp)

pub returns-then-not-holds-clause-only : goal.returns-then-not-holds-clause-only
returns-then-not-holds-clause-only c = λ s is e.
    let none : HasValue (spelled c.args.octets.now) → ⊥ = search rules in
    absurd (none (is_spelled c.args.octets.now s is e).value)

pub returns-clause-only : goal.returns-clause-only
returns-clause-only c = λ s is e.
    let p = c.digits_of-parts.result in
    ap (λ tag. Ok (key p.boots p.time p.discontinuity tag p.value)) c.in-Some.ensures.tag
    ∙ ap Ok (c.digits_of-parts.ensures.whole ∙ spells c.args.octets.now s is e)
