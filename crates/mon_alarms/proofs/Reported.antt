-- What the events of an alarm that are reported lead to.
use Rattle.std.proofs.Common.{◌≡◌, ◌≢◌, ℕ, Bool, true, false, not, ◌&&◌, cond, List, [], ◌∷◌, ◌++◌, map, refl, sym, ap, ◌∙◌, Some, None, Option, append-nil}
use Rattle.std.specs.Prelude.{if◌then◌else◌, option_map, option_to_list, unwrap_or}
use Rattle.std.specs.Bool.{beq}
use Rattle.std.specs.List.{filter, last_or}
use Rattle.std.specs.Ordering.{match_ordering}
use Rattle.std.specs.declared.cmp.Ordering.TheVariants.{Equal}
use Rattle.std.specs.Cmp.{nat_cmp_is}
use Rattle.mon_alarms.specs.declared.alarm.AlarmState.{AlarmState}
use Rattle.mon_alarms.specs.declared.alarm.AlarmState.TheVariants.{Clear, Raised}
use Rattle.mon_alarms.specs.declared.change.AlarmEvent.{AlarmEvent}
use Rattle.mon_alarms.specs.Rule.{Rule}
use Rattle.mon_alarms.specs.Observed.{state_by}
use Rattle.mon_alarms.specs.Changes.{event_at, event_of, events_from, events_of, is_new, is_raised, is_same, known_of, last_again, merge_with, merged, new_of, put_right, raised_after, raised_over, raises, reported_between, reported_of, samples_of}
use Rattle.mon_alarms.proofs.Stepping.{known-push, last-push, new-append, new-marked, samples-push}

-- ---- the state that they lead to
same : (a b : Bool) → beq a b ≡ true → a ≡ b
same true true e = refl
same false false e = refl
same true false e = absurd cc
same false true e = absurd cc

beq-refl : (b : Bool) → beq b b ≡ true
beq-refl true = refl
beq-refl false = refl

raises-event_of : (s : AlarmState) → raises (event_of s) ≡ is_raised s
raises-event_of Clear = refl
raises-event_of (Raised boots time) = refl

put_right-leads : (before : Bool) (events : List AlarmEvent) (now : AlarmState) → raised_after before (events ++ option_to_list (put_right (raised_after before events) now)) ≡ is_raised now
put_right-leads before events now = go (beq (raised_after before events) (is_raised now)) refl
  where
    go : (b : Bool) → beq (raised_after before events) (is_raised now) ≡ b → raised_after before (events ++ option_to_list (if b then None else Some (event_of now))) ≡ is_raised now
    go true e = ap (raised_after before) (append-nil events) ∙ same _ _ e
    go false e = ap (λ o. unwrap_or (option_map raises o) before) (last-push None events (event_of now)) ∙ raises-event_of now

pub leads_to_now : (rule : Rule) (was is : List ℕ) → raised_after (raised_over rule was) (reported_between rule was is) ≡ raised_over rule is
leads_to_now rule was is = put_right-leads (raised_over rule was) (reported_of (events_of rule (merged was is))) (state_by rule is)

-- ---- the last one
some-same : {A : Type 0} (d a b : A) → Some a ≡ Some b → a ≡ b
some-same d a b e = ap (λ o. unwrap_or o d) e

-- if the last of all is new, it is the last new one
last-new : (o : Option AlarmEvent) (p : Option (AlarmEvent × Bool)) (events : List (AlarmEvent × Bool)) (e : AlarmEvent) → (p ≡ Some (e, true) → o ≡ Some e) → last_or p events ≡ Some (e, true)
    → last_or o (new_of events) ≡ Some e
last-new o p [] e h is = h is
last-new o p (x ∷ events) e h is = go x.1 refl (λ k. last-new (Some x.0) (Some x) events e k is) (λ k. last-new o (Some x) events e k is)
  where
    go : (b : Bool) → x.1 ≡ b → ((Some x ≡ Some (e, true) → Some x.0 ≡ Some e) → last_or (Some x.0) (new_of events) ≡ Some e)
        → ((Some x ≡ Some (e, true) → o ≡ Some e) → last_or o (new_of events) ≡ Some e)
        → last_or o (map (λ y. y.0) (cond b (x ∷ filter (λ y. y.1) events) (filter (λ y. y.1) events))) ≡ Some e
    go true k here later = here (λ q. ap Some (ap (λ y. y.0) (some-same x x (e, true) q)))
    go false k here later = later (λ q. absurd (other (sym k ∙ ap (λ y. y.1) (some-same x x (e, true) q))))
      where
        other : false ≡ true → ⊥
        other r = cc

some_last : {A : Type 0} (b : A) (ys : List A) → last_or (Some b) ys ≡ None → ⊥
some_last b [] e = cc
some_last b (y ∷ ys) e = some_last y ys e

empty-last : {A : Type 0} (xs : List A) → last_or None xs ≡ None → xs ≡ []
empty-last [] e = refl
empty-last (x ∷ xs) e = absurd (some_last x xs e)

none-some : {A : Type 0} (a : A) → None ≡ Some a → ⊥
none-some a e = cc

pub names_the_last : (events : List (AlarmEvent × Bool)) → reported_of events ≢ [] → last_or None (reported_of events) ≡ option_map (λ e. e.0) (last_or None events)
names_the_last events some = go (last_or None (new_of events)) (last_or None events) refl refl
  where
    go : (n : Option AlarmEvent) (l : Option (AlarmEvent × Bool)) → last_or None (new_of events) ≡ n → last_or None events ≡ l
        → last_or None (new_of events ++ option_to_list (last_again n l)) ≡ option_map (λ e. e.0) l
    go None l p q =
        absurd
        (some
        (ap (λ o. new_of events ++ option_to_list (last_again o (last_or None events))) p ∙ append-nil (new_of events) ∙ empty-last (new_of events) p))
    go (Some n) None p q = absurd (none-some n (sym (ap (λ l. last_or None (new_of l)) (empty-last events q)) ∙ p))
    go (Some n) (Some l) p q = by l.1 refl
      where
        by : (b : Bool) → l.1 ≡ b → last_or None (new_of events ++ option_to_list (if b then None else Some l.0)) ≡ Some l.0
        by true k = ap (last_or None) (append-nil (new_of events)) ∙ last-new None None events l.0 (λ r. absurd (none-some _ r)) (q ∙ ap (λ b. Some (l.0, b)) k)
        by false k = last-push None (new_of events) l.0

-- ---- an equal window
all_known : (xs : List ℕ) → merged xs xs ≡ map (λ x. (x, true)) xs
all_known [] = refl
all_known (x ∷ xs) =
    ap (λ o. match_ordering o ((x, true) ∷ merged xs (x ∷ xs)) ((x, true) ∷ merged xs xs) ((x, false) ∷ merge_with x (merged xs) xs)) (sym (nat_cmp_is x x Equal refl))
    ∙ ap (λ l. (x, true) ∷ l) (all_known xs)

is_same-known : (rule : Rule) (seen : List (ℕ × Bool)) → known_of seen ≡ samples_of seen → is_same rule seen ≡ true
is_same-known rule seen all = ap (λ l. beq (raised_over rule l) (raised_over rule (samples_of seen))) all ∙ beq-refl (raised_over rule (samples_of seen))

pub none_new : (rule : Rule) (before : List (ℕ × Bool)) (xs : List ℕ) → known_of before ≡ samples_of before → new_of (events_from rule before (map (λ x. (x, true)) xs)) ≡ []
none_new rule before [] all = refl
none_new rule before (x ∷ xs) all =
    let s : ℕ × Bool = (x, true) in
    let next : known_of (before ++ s ∷ []) ≡ samples_of (before ++ s ∷ []) = known-push before s ∙ ap (λ l. l ++ x ∷ []) all ∙ sym (samples-push before s) in
    let known : is_new rule before s ≡ false = (λ i. not (is_same-known rule before all i && is_same-known rule (before ++ s ∷ []) next i)) in
    new-append (map (λ e. (e, is_new rule before s)) (option_to_list (event_at rule before s))) (events_from rule (before ++ s ∷ []) (map (λ y. (y, true)) xs))
    ∙ ap (λ l. l ++ new_of (events_from rule (before ++ s ∷ []) (map (λ y. (y, true)) xs)))
    (new-marked (event_at rule before s) (is_new rule before s) ∙ ap (λ b. option_to_list (if b then event_at rule before s else None)) known)
    ∙ none_new rule (before ++ s ∷ []) xs next

pub reports_once : (rule : Rule) (xs : List ℕ) → reported_between rule xs xs ≡ []
reports_once rule xs =
    let new : new_of (events_of rule (merged xs xs)) ≡ [] = ap (λ l. new_of (events_of rule l)) (all_known xs) ∙ none_new rule [] xs refl in
    let none : reported_of (events_of rule (merged xs xs)) ≡ [] = (λ i. new i ++ option_to_list (last_again (last_or None (new i)) (last_or None (events_of rule (merged xs xs))))) in
    (λ i. none i ++ option_to_list (put_right (raised_after (raised_over rule xs) (none i)) (state_by rule xs)))
    ∙ ap (λ b. option_to_list (if b then None else Some (event_of (state_by rule xs)))) (beq-refl (raised_over rule xs))
