-- An alarm along samples, one more each time.
use Rattle.std.proofs.Common.{◌≡◌, ℕ, Bool, true, false, cond, not, ◌&&◌, List, [], ◌∷◌, ◌++◌, refl, sym, ap, ◌∙◌, Some, None, Option, append-nil, append_assoc}
use Rattle.std.specs.Prelude.{ℤ, ◌<ℤ◌, if◌then◌else◌, map, option_to_list}
use Rattle.std.specs.Int.Signed.{le_z}
use Rattle.std.specs.List.{filter, last_or}
use Rattle.std.proofs.lemmas.List.{map-append}
use Rattle.std.proofs.lemmas.List.Elements.{filter-append}
use Rattle.mon_sample.specs.Key.{boots_of, time_of}
use Rattle.mon_alarms.specs.declared.alarm.AlarmState.{AlarmState}
use Rattle.mon_alarms.specs.declared.alarm.AlarmState.TheVariants.{Clear, Raised}
use Rattle.mon_alarms.specs.declared.change.AlarmChange.{AlarmChange}
use Rattle.mon_alarms.specs.declared.change.AlarmEvent.{AlarmEvent}
use Rattle.mon_alarms.specs.Rule.{Rule}
use Rattle.mon_alarms.specs.Observed.{observed, Observation, with_level, observations_from, all_above, raised_by, state_by}
use Rattle.mon_alarms.specs.Changes.{changes_of, event_at, events_from, events_of, is_new, known_of, last_again, merged, new_of, put_right, raised_after, raised_over, reported_of, samples_of, with_rule}
use Rattle.mon_alarms.specs.Comparison.{after_level, after_sample}
use Rattle.mon_alarms.proofs.Walking.{hidden, observations-append}

module _ (rule : Rule) where
  abbrev over : List Observation → AlarmState
  over os = raised_by rule.rising rule.falling os

  -- an observation above the falling threshold leaves what all before it are
  above-push : (os : List Observation) (x : ℕ) (l : ℤ) → le_z l rule.falling ≡ false → all_above rule.falling (os ++ record { sample = x; level = l } ∷ []) ≡ all_above rule.falling os
  above-push [] x l high = ap (λ b. not b && true) high
  above-push (o ∷ os) x l high = ap (λ b. not (le_z o.level rule.falling) && b) (above-push os x l high)

  abbrev raised_or : AlarmState → AlarmState → AlarmState
  raised_or Clear other = other
  raised_or (Raised boots time) other = Raised boots time

  -- and leaves the alarm raised, if it was
  raised-push : (os : List Observation) (x : ℕ) (l : ℤ) → le_z l rule.falling ≡ false
      → over (os ++ record { sample = x; level = l } ∷ []) ≡ raised_or (over os) (cond (le_z rule.rising l) (Raised (boots_of x) (time_of x)) Clear)
  raised-push [] x l high = go (le_z rule.rising l)
    where
      go : (b : Bool) → cond (b && true) (Raised (boots_of x) (time_of x)) Clear ≡ cond b (Raised (boots_of x) (time_of x)) Clear
      go true = refl
      go false = refl
  raised-push (o ∷ os) x l high =
      ap (λ b. cond (le_z rule.rising o.level && b) (Raised (boots_of o.sample) (time_of o.sample)) (over (os ++ record { sample = x; level = l } ∷ []))) (above-push os x l high)
      ∙ go (le_z rule.rising o.level && all_above rule.falling os) (raised-push os x l high)
    where
      next : AlarmState
      next = cond (le_z rule.rising l) (Raised (boots_of x) (time_of x)) Clear

      go : (b : Bool) → over (os ++ record { sample = x; level = l } ∷ []) ≡ raised_or (over os) next
          → cond b (Raised (boots_of o.sample) (time_of o.sample)) (over (os ++ record { sample = x; level = l } ∷ [])) ≡ raised_or (cond b (Raised (boots_of o.sample) (time_of o.sample)) (over os)) next
      go true more = refl
      go false more = more

  after-level : (os : List Observation) (x : ℕ) (l : ℤ) → rule.falling <ℤ rule.rising → over (os ++ record { sample = x; level = l } ∷ []) ≡ after_level rule l x (over os)
  after-level os x l order = go (le_z l rule.falling) refl
    where
      -- below the rising threshold too
      low : (s : AlarmState) → le_z l rule.falling ≡ true → Clear ≡ after_level rule l x s
      low Clear is = below (le_z rule.rising l) refl
        where
          below : (b : Bool) → le_z rule.rising l ≡ b → Clear ≡ cond b (Raised (boots_of x) (time_of x)) Clear
          below true e = sym (hidden rule l x [] [] order is) ∙ ap (λ b. cond (b && true) (Raised (boots_of x) (time_of x)) Clear) e
          below false e = refl
      low (Raised boots time) is = sym (ap (λ b. cond b Clear (Raised boots time)) is)

      high : (s : AlarmState) → le_z l rule.falling ≡ false → raised_or s (cond (le_z rule.rising l) (Raised (boots_of x) (time_of x)) Clear) ≡ after_level rule l x s
      high Clear is = refl
      high (Raised boots time) is = sym (ap (λ b. cond b Clear (Raised boots time)) is)

      go : (b : Bool) → le_z l rule.falling ≡ b → over (os ++ record { sample = x; level = l } ∷ []) ≡ after_level rule l x (over os)
      go true e = hidden rule l x [] os order e ∙ low (over os) e
      go false e = raised-push os x l e ∙ high (over os) e

  after-observed : (os : List Observation) (o : Option ℤ) (x : ℕ) → rule.falling <ℤ rule.rising → over (os ++ with_level o x []) ≡ after_sample rule o x (over os)
  after-observed os None x order = ap over (append-nil os)
  after-observed os (Some l) x order = after-level os x l order

  -- the state over one sample more, by the state over those before it
  pub state-push : (xs : List ℕ) (x : ℕ) → rule.falling <ℤ rule.rising → state_by rule (xs ++ x ∷ []) ≡ after_sample rule (observed (last_or None xs) x) x (state_by rule xs)
  state-push xs x order = ap over (observations-append None xs (x ∷ [])) ∙ after-observed (observations_from None xs) (observed (last_or None xs) x) x order

-- ---- the last of a list
pub last-push : {A : Type 0} (before : Option A) (xs : List A) (x : A) → last_or before (xs ++ x ∷ []) ≡ Some x
last-push before [] x = refl
last-push before (y ∷ ys) x = last-push (Some y) ys x

-- ---- events, one sample more each time
pub samples-push : (seen : List (ℕ × Bool)) (s : ℕ × Bool) → samples_of (seen ++ s ∷ []) ≡ samples_of seen ++ s.0 ∷ []
samples-push seen s = map-append (λ x. x.0) seen (s ∷ [])

pub known-push : (seen : List (ℕ × Bool)) (s : ℕ × Bool) → known_of (seen ++ s ∷ []) ≡ known_of seen ++ (if s.1 then s.0 ∷ [] else [])
known-push seen s = ap (map (λ x. x.0)) (filter-append (λ x. x.1) seen (s ∷ [])) ∙ map-append (λ x. x.0) (filter (λ x. x.1) seen) (filter (λ x. x.1) (s ∷ [])) ∙ ap (λ l. known_of seen ++ l) (one s.1)
  where
    one : (b : Bool) → map (λ x. x.0) (cond b (s ∷ []) []) ≡ cond b (s.0 ∷ []) []
    one true = refl
    one false = refl

-- what one sample does
abbrev pub marked : Rule → List (ℕ × Bool) → ℕ × Bool → List (AlarmEvent × Bool)
marked rule seen s = map (λ e. (e, is_new rule seen s)) (option_to_list (event_at rule seen s))

from-push : (rule : Rule) (before seen : List (ℕ × Bool)) (s : ℕ × Bool) → events_from rule before (seen ++ s ∷ []) ≡ events_from rule before seen ++ marked rule (before ++ seen) s
from-push rule before [] s = append-nil _ ∙ ap (λ ys. marked rule ys s) (sym (append-nil before))
from-push rule before (y ∷ seen) s =
    ap (λ es. marked rule before y ++ es) (from-push rule (before ++ y ∷ []) seen s)
    ∙ ap (λ ys. marked rule before y ++ (events_from rule (before ++ y ∷ []) seen ++ marked rule ys s)) (append_assoc before (y ∷ []) seen)
    ∙ sym (append_assoc (marked rule before y) (events_from rule (before ++ y ∷ []) seen) (marked rule (before ++ y ∷ seen) s))

pub events-push : (rule : Rule) (seen : List (ℕ × Bool)) (s : ℕ × Bool) → events_of rule (seen ++ s ∷ []) ≡ events_of rule seen ++ marked rule seen s
events-push rule seen s = from-push rule [] seen s

pub new-append : (xs ys : List (AlarmEvent × Bool)) → new_of (xs ++ ys) ≡ new_of xs ++ new_of ys
new-append xs ys = ap (map (λ e. e.0)) (filter-append (λ e. e.1) xs ys) ∙ map-append (λ e. e.0) (filter (λ e. e.1) xs) (filter (λ e. e.1) ys)

pub new-marked : (o : Option AlarmEvent) (b : Bool) → new_of (map (λ e. (e, b)) (option_to_list o)) ≡ option_to_list (if b then o else None)
new-marked None true = refl
new-marked None false = refl
new-marked (Some e) true = refl
new-marked (Some e) false = refl

pub new-push : (rule : Rule) (seen : List (ℕ × Bool)) (s : ℕ × Bool)
    → new_of (events_of rule (seen ++ s ∷ [])) ≡ new_of (events_of rule seen) ++ option_to_list (if is_new rule seen s then event_at rule seen s else None)
new-push rule seen s =
    ap new_of (events-push rule seen s) ∙ new-append (events_of rule seen) (marked rule seen s) ∙ ap (λ l. new_of (events_of rule seen) ++ l) (new-marked (event_at rule seen s) (is_new rule seen s))

-- what is reported of one sample more
pub reported_more : (rule : Rule) (seen : List (ℕ × Bool)) (s : ℕ × Bool) (number : ℕ) (old before after : List AlarmChange) (event : Option AlarmEvent)
    → before ≡ old ++ with_rule number (new_of (events_of rule seen)) → event ≡ (if is_new rule seen s then event_at rule seen s else None)
    → after ≡ before ++ with_rule number (option_to_list event) → after ≡ old ++ with_rule number (new_of (events_of rule (seen ++ s ∷ [])))
reported_more rule seen s number old before after event so_far is more =
    let news = if is_new rule seen s then event_at rule seen s else None in
    more
    ∙ (λ i. so_far i ++ with_rule number (option_to_list (is i)))
    ∙ append_assoc old (with_rule number (new_of (events_of rule seen))) (with_rule number (option_to_list news))
    ∙ ap (λ l. old ++ l) (sym (map-append _ (new_of (events_of rule seen)) (option_to_list news)))
    ∙ ap (λ l. old ++ with_rule number l) (sym (new-push rule seen s))

-- what is reported of all samples, and at last
pub all_reported : (rule : Rule) (was is : List ℕ) (number : ℕ) (seen : List (ℕ × Bool)) (old some most all : List AlarmChange) (last right : Option AlarmEvent) → merged was is ≡ seen
    → some ≡ old ++ with_rule number (new_of (events_of rule seen)) → last ≡ last_again (last_or None (new_of (events_of rule seen))) (last_or None (events_of rule seen))
    → most ≡ some ++ with_rule number (option_to_list last)
    → right ≡ put_right (raised_after (raised_over rule was) (new_of (events_of rule seen) ++ option_to_list last)) (state_by rule is)
    → all ≡ most ++ with_rule number (option_to_list right) → all ≡ old ++ changes_of number rule was is
all_reported rule was is number seen old some most all last right of_both so_far is_last more is_right end =
    let new = new_of (events_of rule seen) in
    let reported = reported_of (events_of rule seen) in
    let events : new ++ option_to_list last ≡ reported = ap (λ o. new ++ option_to_list o) is_last in
    let at_last = put_right (raised_after (raised_over rule was) reported) (state_by rule is) in
    let right_is : right ≡ at_last = is_right ∙ ap (λ l. put_right (raised_after (raised_over rule was) l) (state_by rule is)) events in
    let whole : most ≡ old ++ with_rule number reported =
    more ∙ ap (λ l. l ++ with_rule number (option_to_list last)) so_far ∙ append_assoc old (with_rule number new) (with_rule number (option_to_list last))
    ∙ ap (λ l. old ++ l) (sym (map-append _ new (option_to_list last)) ∙ ap (with_rule number) events) in
    end
    ∙ (λ i. whole i ++ with_rule number (option_to_list (right_is i)))
    ∙ append_assoc old (with_rule number reported) (with_rule number (option_to_list at_last))
    ∙ ap (λ l. old ++ l) (sym (map-append _ reported (option_to_list at_last)))
    ∙ ap (λ s. old ++ with_rule number (reported_of (events_of rule s) ++ option_to_list (put_right (raised_after (raised_over rule was) (reported_of (events_of rule s))) (state_by rule is)))) (sym of_both)
