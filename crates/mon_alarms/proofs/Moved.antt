-- What is reported of an alarm whose window moved on by one sample.
use Rattle.std.proofs.Common.{◌≡◌, ℕ, Bool, true, false, List, [], ◌∷◌, ◌++◌, map, refl, sym, ap, ◌∙◌, Some, None, Option, append-nil}
use Rattle.std.specs.Prelude.{option_to_list}
use Rattle.std.specs.List.{last_or}
use Rattle.std.specs.Ordering.{match_ordering, nat_cmp}
use Rattle.std.specs.declared.cmp.Ordering.TheVariants.{Equal, Less}
use Rattle.std.specs.Cmp.{nat_cmp_is}
use Rattle.mon_alarms.specs.declared.change.AlarmEvent.{AlarmEvent}
use Rattle.mon_alarms.specs.Rule.{Rule}
use Rattle.mon_alarms.specs.Observed.{state_by}
use Rattle.mon_alarms.specs.Changes.{event_at, event_between, events_of, last_again, merge_with, merged, new_of, put_right, raised_after, raised_over, reported_between, reported_of, samples_of}
use Rattle.mon_alarms.proofs.Reported.{none_new}
use Rattle.mon_alarms.proofs.Stepping.{events-push, last-push, new-push, samples-push}

-- ---- the samples of both looks
abbrev pub known : List ℕ → List (ℕ × Bool)
known xs = map (λ x. (x, true)) xs

pub one_more : (xs : List ℕ) (y : ℕ) → merged xs (xs ++ y ∷ []) ≡ known xs ++ (y, false) ∷ []
one_more [] y = refl
one_more (x ∷ xs) y =
    ap (λ o. match_ordering o ((x, true) ∷ merged xs (x ∷ (xs ++ y ∷ []))) ((x, true) ∷ merged xs (xs ++ y ∷ [])) ((x, false) ∷ merge_with x (merged xs) (xs ++ y ∷ [])))
    (sym (nat_cmp_is x x Equal refl))
    ∙ ap (λ l. (x, true) ∷ l) (one_more xs y)

pub oldest_first : (x : ℕ) (xs : List ℕ) (z : ℕ) (zs : List ℕ) → nat_cmp x z ≡ Less → merged (x ∷ xs) (z ∷ zs) ≡ (x, true) ∷ merged xs (z ∷ zs)
oldest_first x xs z zs less =
    ap (λ o. match_ordering o ((x, true) ∷ merged xs (z ∷ zs)) ((x, true) ∷ merged xs zs) ((z, false) ∷ merge_with x (merged xs) zs)) less

samples-known : (xs : List ℕ) → samples_of (known xs) ≡ xs
samples-known [] = refl
samples-known (x ∷ xs) = ap (λ l. x ∷ l) (samples-known xs)

-- ---- what is reported
raised-between : (a b : Bool) (x : ℕ) → raised_after a (option_to_list (event_between a b x)) ≡ b
raised-between false false x = refl
raised-between false true x = refl
raised-between true false x = refl
raised-between true true x = refl

-- an event that is the last one and new does not come again
not_again : (rule : Rule) (seen : List (ℕ × Bool)) (y : ℕ) (o : Option AlarmEvent) → event_at rule seen (y, false) ≡ o
    → last_again (last_or None (option_to_list o)) (last_or None (events_of rule seen ++ map (λ e. (e, true)) (option_to_list o))) ≡ None
not_again rule seen y None is = refl
not_again rule seen y (Some e) is = ap (last_again (Some e)) (last-push None (events_of rule seen) (e, true))

reported-newest : (rule : Rule) (xs : List ℕ) (y : ℕ) → reported_of (events_of rule (known xs ++ (y, false) ∷ [])) ≡ option_to_list (event_at rule (known xs) (y, false))
reported-newest rule xs y =
    let e = event_at rule (known xs) (y, false) in
    let events : events_of rule (known xs ++ (y, false) ∷ []) ≡ events_of rule (known xs) ++ map (λ x. (x, true)) (option_to_list e) = events-push rule (known xs) (y, false) in
    let new : new_of (events_of rule (known xs ++ (y, false) ∷ [])) ≡ option_to_list e =
    new-push rule (known xs) (y, false) ∙ ap (λ l. l ++ option_to_list e) (none_new rule [] xs refl) in
    (λ i. new i ++ option_to_list (last_again (last_or None (new i)) (last_or None (events i))))
    ∙ ap (λ o. option_to_list e ++ option_to_list o) (not_again rule (known xs) y e refl)
    ∙ append-nil (option_to_list e)

pub reported_moved : (rule : Rule) (was is : List ℕ) (y : ℕ) → merged was is ≡ known was ++ (y, false) ∷ []
    → reported_between rule was is
    ≡ option_to_list (event_between (raised_over rule was) (raised_over rule (was ++ y ∷ [])) y) ++ option_to_list (put_right (raised_over rule (was ++ y ∷ [])) (state_by rule is))
reported_moved rule was is y both =
    let a = raised_over rule was in
    let b = raised_over rule (was ++ y ∷ []) in
    let all : samples_of (known was ++ (y, false) ∷ []) ≡ was ++ y ∷ [] = samples-push (known was) (y, false) ∙ ap (λ l. l ++ y ∷ []) (samples-known was) in
    let event : event_at rule (known was) (y, false) ≡ event_between a b y = (λ i. event_between (raised_over rule (samples-known was i)) (raised_over rule (all i)) y) in
    let reported : reported_of (events_of rule (merged was is)) ≡ option_to_list (event_between a b y) =
    ap (λ s. reported_of (events_of rule s)) both ∙ reported-newest rule was y ∙ ap option_to_list event in
    (λ i. reported i ++ option_to_list (put_right (raised_after a (reported i)) (state_by rule is)))
    ∙ ap (λ r. option_to_list (event_between a b y) ++ option_to_list (put_right r (state_by rule is))) (raised-between a b y)
