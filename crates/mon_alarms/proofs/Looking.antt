-- What is announced of an alarm over many looks.
use Rattle.std.proofs.Common.{◌≡◌, ◌≢◌, ℕ, zero, suc, ◌+◌, ◌<◌, ◌≤◌, Bool, true, false, not, cond, List, [], ◌∷◌, ◌++◌, refl, sym, ap, ◌∙◌, subst, Some, None, Option, arith, append-nil, append_assoc}
use Rattle.std.specs.Prelude.{All, Contains, if◌then◌else◌, nat_lt, option_map, option_to_list, unwrap_or, ⊤}
use Rattle.std.specs.Bool.{beq}
use Rattle.std.specs.List.{flat_map, last_or}
use Rattle.std.proofs.lemmas.Bool.Decides.{nat_tests}
use Rattle.std.proofs.lemmas.List.Elements.{All-cons, All-head, All-nil, All-tail, Contains-append_left, Contains-append_right}
use Rattle.mon_alarms.specs.declared.alarm.AlarmState.{AlarmState}
use Rattle.mon_alarms.specs.declared.announcing.Pending.{Pending}
use Rattle.mon_alarms.specs.declared.change.AlarmEvent.{AlarmEvent}
use Rattle.mon_alarms.specs.declared.change.AlarmEvent.TheVariants.{Raised, Cleared, Lapsed}
use Rattle.mon_alarms.specs.Changes.{is_raised, raised_after, raises, state_after}
use Rattle.mon_alarms.specs.Announcing.{after_event, after_events, after_look, Alternates, announced_over, due, is_early, look_by, quiet, settled}
use Rattle.mon_alarms.proofs.Noting.{events-push}

raised-state : (e : AlarmEvent) → is_raised (state_after e) ≡ raises e
raised-state (Raised boots time) = refl
raised-state (Cleared boots time) = refl
raised-state Lapsed = refl

other : (a b : Bool) → beq a b ≡ false → a ≡ not b
other true false e = refl
other false true e = refl
other true true e = absurd cc
other false false e = absurd cc

another : (a b : Bool) → a ≡ not b → beq a b ≡ false
another true false e = refl
another false true e = refl
another true true e = absurd cc
another false false e = absurd cc

-- what an event leaves, by whether it leads back to what was announced
abbrev event_by : Bool → Pending → AlarmEvent → Pending
event_by b p e = if b then settled p.announced else record { announced = p.announced; since = Some e; held = 0 }

-- ---- an event announces nothing
announced-event : (p : Pending) (e : AlarmEvent) → (after_event p e).announced ≡ p.announced
announced-event p e = go (beq (raises e) (is_raised p.announced))
  where
    go : (b : Bool) → (event_by b p e).announced ≡ p.announced
    go true = refl
    go false = refl

announced-events : (p : Pending) (es : List AlarmEvent) → (after_events p es).announced ≡ p.announced
announced-events p [] = refl
announced-events p (e ∷ es) = announced-events (after_event p e) es ∙ announced-event p e

-- ---- what is pending is another state than what was announced
abbrev differs_by : AlarmState → Option AlarmEvent → Type 0
differs_by s None = ⊤
differs_by s (Some e) = raises e ≡ not (is_raised s)

abbrev Differs : Pending → Type 0
Differs p = differs_by p.announced p.since

differs-event : (p : Pending) (e : AlarmEvent) → Differs (after_event p e)
differs-event p e = go (beq (raises e) (is_raised p.announced)) refl
  where
    go : (b : Bool) → beq (raises e) (is_raised p.announced) ≡ b → Differs (event_by b p e)
    go true h = tt
    go false h = other _ _ h

differs-events : (p : Pending) (es : List AlarmEvent) → Differs p → Differs (after_events p es)
differs-events p [] h = h
differs-events p (e ∷ es) h = differs-events (after_event p e) es (differs-event p e)

-- ---- announcements alternate
-- what is announced at a look, and what it leaves, by what is pending and whether it is early
alternates-look : (after : ℕ) (q : Pending) (looks : List (List AlarmEvent)) (early : Bool) (o : Option AlarmEvent) → q.since ≡ o → differs_by q.announced o
    → ((r : Pending) → Differs r → Alternates (is_raised r.announced) (announced_over after r looks))
    → Alternates (is_raised q.announced) (option_to_list (if early then None else o) ++ announced_over after (look_by early q o) looks)
alternates-look after q looks true None is h rest = rest q (subst (differs_by q.announced) (sym is) h)
alternates-look after q looks false None is h rest = rest q (subst (differs_by q.announced) (sym is) h)
alternates-look after q looks true (Some e) is h rest = rest (record { announced = q.announced; since = Some e; held = q.held + 1 }) h
alternates-look after q looks false (Some e) is h rest =
    (h, subst (λ b. Alternates b (announced_over after (settled (state_after e)) looks)) (raised-state e) (rest (settled (state_after e)) tt))

alternates : (after : ℕ) (p : Pending) (looks : List (List AlarmEvent)) → Differs p → Alternates (is_raised p.announced) (announced_over after p looks)
alternates after p [] h = tt
alternates after p (es ∷ looks) h =
    let q = after_events p es in
    subst (λ s. Alternates (is_raised s) (announced_over after p (es ∷ looks))) (announced-events p es)
    (alternates-look after q looks (is_early after q) q.since refl (differs-events p es h) (λ r k. alternates after r looks k))

pub announcements_alternate : (after : ℕ) (s : AlarmState) (looks : List (List AlarmEvent)) → Alternates (is_raised s) (announced_over after (settled s) looks)
announcements_alternate after s looks = alternates after (settled s) looks tt

-- ---- what is announced happened
-- what is pending is one of these events
abbrev pending_in : List AlarmEvent → Option AlarmEvent → Type 0
pending_in seen None = ⊤
pending_in seen (Some e) = Contains seen e

abbrev all_of : List (List AlarmEvent) → List AlarmEvent
all_of looks = flat_map (λ es. es) looks

in-event : (seen : List AlarmEvent) (p : Pending) (e : AlarmEvent) → pending_in (seen ++ e ∷ []) (after_event p e).since
in-event seen p e = go (beq (raises e) (is_raised p.announced))
  where
    go : (b : Bool) → pending_in (seen ++ e ∷ []) (event_by b p e).since
    go true = tt
    go false = Contains-append_right seen (e ∷ []) e (0, omega arith, refl)

in-events : (seen : List AlarmEvent) (p : Pending) (es : List AlarmEvent) → pending_in seen p.since → pending_in (seen ++ es) (after_events p es).since
in-events seen p [] h = subst (λ l. pending_in l p.since) (sym (append-nil seen)) h
in-events seen p (e ∷ es) h =
    subst (λ l. pending_in l (after_events (after_event p e) es).since) (append_assoc seen (e ∷ []) es) (in-events (seen ++ e ∷ []) (after_event p e) es (in-event seen p e))

happened-look : (after : ℕ) (seen more : List AlarmEvent) (q : Pending) (looks : List (List AlarmEvent)) (early : Bool) (o : Option AlarmEvent) → q.since ≡ o → pending_in seen o
    → ((r : Pending) → pending_in seen r.since → All (Contains (seen ++ more)) (announced_over after r looks))
    → All (Contains (seen ++ more)) (option_to_list (if early then None else o) ++ announced_over after (look_by early q o) looks)
happened-look after seen more q looks true None is h rest = rest q (subst (pending_in seen) (sym is) h)
happened-look after seen more q looks false None is h rest = rest q (subst (pending_in seen) (sym is) h)
happened-look after seen more q looks true (Some e) is h rest = rest (record { announced = q.announced; since = Some e; held = q.held + 1 }) h
happened-look after seen more q looks false (Some e) is h rest =
    All-cons (Contains (seen ++ more)) e (announced_over after (settled (state_after e)) looks) (Contains-append_left seen more e h) (rest (settled (state_after e)) tt)

happened : (after : ℕ) (seen : List AlarmEvent) (p : Pending) (looks : List (List AlarmEvent)) → pending_in seen p.since
    → All (Contains (seen ++ all_of looks)) (announced_over after p looks)
happened after seen p [] h = All-nil (Contains (seen ++ []))
happened after seen p (es ∷ looks) h =
    let q = after_events p es in
    subst (λ l. All (Contains l) (announced_over after p (es ∷ looks))) (append_assoc seen es (all_of looks))
    (happened-look after (seen ++ es) (all_of looks) q looks (is_early after q) q.since refl (in-events seen p es h) (λ r k. happened after (seen ++ es) r looks k))

pub announced_happened : (after : ℕ) (s : AlarmState) (looks : List (List AlarmEvent)) → All (Contains (flat_map (λ es. es) looks)) (announced_over after (settled s) looks)
announced_happened after s looks = happened after [] (settled s) looks tt

-- ---- what is known after looks
pending_over : ℕ → Pending → List (List AlarmEvent) → Pending
pending_over after p [] = p
pending_over after p (es ∷ looks) = pending_over after (after_look after (after_events p es)) looks

over-append : (after : ℕ) (p : Pending) (xs ys : List (List AlarmEvent)) → announced_over after p (xs ++ ys) ≡ announced_over after p xs ++ announced_over after (pending_over after p xs) ys
unfolding pending_over
over-append after p [] ys = refl
over-append after p (es ∷ xs) ys =
    ap (λ l. option_to_list (due after (after_events p es)) ++ l) (over-append after (after_look after (after_events p es)) xs ys)
    ∙ sym (append_assoc (option_to_list (due after (after_events p es))) (announced_over after (after_look after (after_events p es)) xs) _)

any_before : (y : AlarmEvent) (ys : List AlarmEvent) (a b : Bool) → unwrap_or (option_map raises (last_or (Some y) ys)) a ≡ unwrap_or (option_map raises (last_or (Some y) ys)) b
any_before y [] a b = refl
any_before y (z ∷ ys) a b = any_before z ys a b

last-append : (o : Option AlarmEvent) (xs ys : List AlarmEvent) → last_or o (xs ++ ys) ≡ last_or (last_or o xs) ys
last-append o [] ys = refl
last-append o (x ∷ xs) ys = last-append (Some x) xs ys

after-last : (o : Option AlarmEvent) (ys : List AlarmEvent) (b : Bool) → unwrap_or (option_map raises (last_or o ys)) b ≡ raised_after (unwrap_or (option_map raises o) b) ys
after-last o [] b = refl
after-last o (y ∷ ys) b = any_before y ys b (unwrap_or (option_map raises o) b)

raised-append : (b : Bool) (xs ys : List AlarmEvent) → raised_after b (xs ++ ys) ≡ raised_after (raised_after b xs) ys
raised-append b xs ys = ap (λ o. unwrap_or (option_map raises o) b) (last-append None xs ys) ∙ after-last (last_or None xs) ys b

raised-look : (q : Pending) (early : Bool) (o : Option AlarmEvent) → is_raised (look_by early q o).announced ≡ raised_after (is_raised q.announced) (option_to_list (if early then None else o))
raised-look q true None = refl
raised-look q false None = refl
raised-look q true (Some e) = refl
raised-look q false (Some e) = raised-state e

-- the state that was announced last is that of the last announcement
known : (after : ℕ) (p : Pending) (looks : List (List AlarmEvent)) → is_raised (pending_over after p looks).announced ≡ raised_after (is_raised p.announced) (announced_over after p looks)
unfolding pending_over
known after p [] = refl
known after p (es ∷ looks) =
    let q = after_events p es in
    let now : is_raised (after_look after q).announced ≡ raised_after (is_raised p.announced) (option_to_list (due after q)) =
    raised-look q (is_early after q) q.since ∙ ap (λ s. raised_after (is_raised s) (option_to_list (due after q))) (announced-events p es) in
    known after (after_look after q) looks
    ∙ ap (λ b. raised_after b (announced_over after (after_look after q) looks)) now
    ∙ sym (raised-append (is_raised p.announced) (option_to_list (due after q)) (announced_over after (after_look after q) looks))

-- ---- what lasts
less : (a b : ℕ) → a < b → nat_lt a b ≡ true
less a b h = grind (arith, nat_tests)

not-less : (a b : ℕ) → b ≤ a → nat_lt a b ≡ false
not-less a b h = grind (arith, nat_tests)

from-less : (a b : ℕ) → nat_lt a b ≡ true → a < b
from-less a b h = grind (arith, nat_tests)

from-not-less : (a b : ℕ) → nat_lt a b ≡ false → b ≤ a
from-not-less a b h = grind (arith, nat_tests)

silent : (after n : ℕ) (s : AlarmState) → announced_over after (settled s) (quiet n) ≡ []
silent after zero s = refl
silent after (suc n) s = go (is_early after (settled s)) (silent after n s)
  where
    go : (early : Bool) → announced_over after (settled s) (quiet n) ≡ []
        → option_to_list {X = AlarmEvent} (if early then None else None) ++ announced_over after (look_by early (settled s) None) (quiet n) ≡ []
    go true rest = rest
    go false rest = rest

-- a change that has held in some looks, after n more
lasting : (after n h : ℕ) (s : AlarmState) (e : AlarmEvent) → h < after
    → announced_over after (record { announced = s; since = Some e; held = h }) (quiet n) ≡ cond (nat_lt (h + n) after) [] (e ∷ [])
lasting after zero h s e lt =
    let here : h + 0 < after = omega (arith, lt) in
    sym (ap (λ b. cond b [] (e ∷ [])) (less (h + 0) after here))
lasting after (suc n) h s e lt = go (nat_lt (h + 1) after) refl (λ more. lasting after n (h + 1) s e more)
  where
    q : Pending
    q = record { announced = s; since = Some e; held = h }

    go : (early : Bool) → nat_lt (h + 1) after ≡ early
        → (h + 1 < after → announced_over after (record { announced = s; since = Some e; held = h + 1 }) (quiet n) ≡ cond (nat_lt ((h + 1) + n) after) [] (e ∷ []))
        → option_to_list (if early then None else Some e) ++ announced_over after (look_by early q (Some e)) (quiet n) ≡ cond (nat_lt (h + suc n) after) [] (e ∷ [])
    go true is rest =
        let on : (h + 1) + n ≡ h + suc n = omega arith in
        rest (from-less (h + 1) after is) ∙ ap (λ m. cond (nat_lt m after) [] (e ∷ [])) on
    go false is rest =
        let held : after ≤ h + suc n = omega (arith, from-not-less (h + 1) after is) in
        ap (λ l. e ∷ l) (silent after n (state_after e)) ∙ sym (ap (λ b. cond b [] (e ∷ [])) (not-less (h + suc n) after held))

-- an event that begins another state
begun : (p : Pending) (e : AlarmEvent) → raises e ≡ not (is_raised p.announced) → after_event p e ≡ record { announced = p.announced; since = Some e; held = 0 }
begun p e h = ap (λ b. event_by b p e) (another _ _ h)

pub announced_lasting : (after n : ℕ) (s : AlarmState) (looks : List (List AlarmEvent)) (es : List AlarmEvent) (e : AlarmEvent) → 1 ≤ after
    → raises e ≡ not (raised_after (is_raised s) (announced_over after (settled s) looks))
    → announced_over after (settled s) (looks ++ (es ++ e ∷ []) ∷ quiet n) ≡ announced_over after (settled s) looks ++ (if nat_lt (suc n) after then [] else e ∷ [])
announced_lasting after n s looks es e some h =
    let p = pending_over after (settled s) looks in
    let q = after_events p es in
    let differs : raises e ≡ not (is_raised q.announced) = h ∙ ap not (sym (known after (settled s) looks)) ∙ ap (λ t. not (is_raised t)) (sym (announced-events p es)) in
    let from : after_events p (es ++ e ∷ []) ≡ record { announced = q.announced; since = Some e; held = 0 } = events-push p es e ∙ begun q e differs in
    let on : 0 + suc n ≡ suc n = omega arith in
    over-append after (settled s) looks ((es ++ e ∷ []) ∷ quiet n)
    ∙ ap (λ r. announced_over after (settled s) looks ++ announced_over after r ([] ∷ quiet n)) from
    ∙ ap (λ l. announced_over after (settled s) looks ++ l) (lasting after (suc n) 0 q.announced e (omega (arith, some)))
    ∙ ap (λ m. announced_over after (settled s) looks ++ cond (nat_lt m after) [] (e ∷ [])) on

last-raised : (b : Bool) (xs : List AlarmEvent) (e : AlarmEvent) → raised_after b (xs ++ e ∷ []) ≡ raises e
last-raised b xs e = raised-append b xs (e ∷ [])

same : (a b : Bool) → beq a b ≡ true → a ≡ b
same true true e = refl
same false false e = refl
same true false e = absurd cc
same false true e = absurd cc

same-test : (a b : Bool) → a ≡ b → beq a b ≡ true
same-test true true e = refl
same-test false false e = refl
same-test true false e = absurd cc
same-test false true e = absurd cc

-- an event that leads back to what was announced
ended : (p : Pending) (e : AlarmEvent) → raises e ≡ is_raised p.announced → after_event p e ≡ settled p.announced
ended p e h = ap (λ b. event_by b p e) (same-test _ _ h)

announced_back : (after n : ℕ) (s : AlarmState) (looks : List (List AlarmEvent)) (es : List AlarmEvent) (e : AlarmEvent)
    → raises e ≡ raised_after (is_raised s) (announced_over after (settled s) looks)
    → announced_over after (settled s) (looks ++ (es ++ e ∷ []) ∷ quiet n) ≡ announced_over after (settled s) looks
announced_back after n s looks es e h =
    let p = pending_over after (settled s) looks in
    let q = after_events p es in
    let back : raises e ≡ is_raised q.announced = h ∙ sym (known after (settled s) looks) ∙ ap is_raised (sym (announced-events p es)) in
    over-append after (settled s) looks ((es ++ e ∷ []) ∷ quiet n)
    ∙ ap (λ r. announced_over after (settled s) looks ++ announced_over after r ([] ∷ quiet n)) (events-push p es e ∙ ended q e back)
    ∙ ap (λ l. announced_over after (settled s) looks ++ l) (silent after (suc n) q.announced)
    ∙ append-nil (announced_over after (settled s) looks)

pub leads_to_lasting : (after n : ℕ) (s : AlarmState) (looks : List (List AlarmEvent)) (es : List AlarmEvent) (e : AlarmEvent) → 1 ≤ after → after ≤ n + 1
    → raised_after (is_raised s) (announced_over after (settled s) (looks ++ (es ++ e ∷ []) ∷ quiet n)) ≡ raises e
leads_to_lasting after n s looks es e some long = by (beq (raises e) (raised_after (is_raised s) (announced_over after (settled s) looks))) refl
  where
    by : (b : Bool) → beq (raises e) (raised_after (is_raised s) (announced_over after (settled s) looks)) ≡ b
        → raised_after (is_raised s) (announced_over after (settled s) (looks ++ (es ++ e ∷ []) ∷ quiet n)) ≡ raises e
    by true is =
        let back = same (raises e) (raised_after (is_raised s) (announced_over after (settled s) looks)) is in
        ap (raised_after (is_raised s)) (announced_back after n s looks es e back) ∙ sym back
    by false is =
        let late : after ≤ suc n = omega (arith, long) in
        ap (raised_after (is_raised s))
        (announced_lasting after n s looks es e some (other (raises e) (raised_after (is_raised s) (announced_over after (settled s) looks)) is)
        ∙ ap (λ b. announced_over after (settled s) looks ++ cond b [] (e ∷ [])) (not-less (suc n) after late))
        ∙ last-raised (is_raised s) (announced_over after (settled s) looks) e

-- ---- what changes between every two looks
held-event : (p : Pending) (e : AlarmEvent) → (after_event p e).held ≡ 0
held-event p e = go (beq (raises e) (is_raised p.announced))
  where
    go : (b : Bool) → (event_by b p e).held ≡ 0
    go true = refl
    go false = refl

held-events : (p : Pending) (es : List AlarmEvent) → p.held ≡ 0 → (after_events p es).held ≡ 0
held-events p [] h = h
held-events p (e ∷ es) h = held-events (after_event p e) es (held-event p e)

held-some : (p : Pending) (es : List AlarmEvent) → es ≢ [] → (after_events p es).held ≡ 0
held-some p [] some = absurd (some refl)
held-some p (e ∷ es) some = held-events (after_event p e) es (held-event p e)

restless : (after : ℕ) (p : Pending) (looks : List (List AlarmEvent)) → 2 ≤ after → All (λ es. es ≢ []) looks → announced_over after p looks ≡ []
restless after p [] many all = refl
restless after p (es ∷ looks) many all =
    let q = after_events p es in
    let none : q.held ≡ 0 = held-some p es (All-head (λ es. es ≢ []) es looks all) in
    let early : is_early after q ≡ true = less (q.held + 1) after (omega (arith, none, many)) in
    ap (λ b. option_to_list (if b then None else q.since) ++ announced_over after (after_look after q) looks) early
    ∙ restless after (after_look after q) looks many (All-tail (λ es. es ≢ []) es looks all)

pub announced_restless : (after : ℕ) (s : AlarmState) (looks : List (List AlarmEvent)) → 2 ≤ after → All (λ es. es ≢ []) looks → announced_over after (settled s) looks ≡ []
announced_restless after s looks many all = restless after (settled s) looks many all
