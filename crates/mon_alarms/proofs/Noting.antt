-- Rules after changes, one change more each time, and after a look, one rule more each time.
use Rattle.std.proofs.Common.{◌≡◌, ℕ, zero, suc, ◌+◌, ◌<◌, ◌≤◌, Bool, true, false, cond, List, [], ◌∷◌, ◌++◌, length, take, drop, get_or, set, map, refl, sym, ap, ◌∙◌, arith, append-nil, append_assoc, ◌==◌}
use Rattle.std.specs.Prelude.{filter}
use Rattle.std.proofs.lemmas.Bool.Decides.{nat_tests}
use Rattle.std.proofs.lemmas.List.{map-append, take_all, drop_all, drop_more, take_more_set, drop-set-lt, take_more}
use Rattle.std.proofs.lemmas.List.Elements.{filter-append}
use Rattle.mon_alarms.specs.declared.announcing.Pending.{Pending}
use Rattle.mon_alarms.specs.declared.change.AlarmChange.{AlarmChange}
use Rattle.mon_alarms.specs.declared.change.AlarmEvent.{AlarmEvent}
use Rattle.mon_alarms.specs.Announcing.{after_event, after_events, events_at, noted_from}

-- ---- one change more
pub events-push : (p : Pending) (es : List AlarmEvent) (e : AlarmEvent) → after_events p (es ++ e ∷ []) ≡ after_event (after_events p es) e
events-push p [] e = refl
events-push p (x ∷ es) e = events-push (after_event p x) es e

same-number : (i j : ℕ) → i ≡ j → (i == j) ≡ true
same-number i j e = grind (arith, nat_tests)

other-number : (i j : ℕ) → (i ≡ j → ⊥) → (i == j) ≡ false
other-number i j e = grind (arith, nat_tests)

own : (k : ℕ) (cs : List AlarmChange) (c : AlarmChange) → events_at k (cs ++ c ∷ []) ≡ events_at k cs ++ cond (c.rule == k) (c.event ∷ []) []
own k cs c =
    ap (map (λ x. x.event)) (filter-append (λ x. x.rule == k) cs (c ∷ []))
    ∙ map-append (λ x. x.event) (filter (λ x. x.rule == k) cs) (filter (λ x. x.rule == k) (c ∷ []))
    ∙ ap (λ l. events_at k cs ++ l) (one (c.rule == k))
  where
    one : (b : Bool) → map (λ x. x.event) (cond b (c ∷ []) []) ≡ cond b (c.event ∷ []) []
    one true = refl
    one false = refl

-- a change of this rule, and one of another
own-hit : (p : Pending) (k : ℕ) (cs : List AlarmChange) (c : AlarmChange) → c.rule ≡ k
    → after_events p (events_at k (cs ++ c ∷ [])) ≡ after_event (after_events p (events_at k cs)) c.event
own-hit p k cs c e =
    ap (after_events p) (own k cs c ∙ ap (λ b. events_at k cs ++ cond b (c.event ∷ []) []) (same-number c.rule k e)) ∙ events-push p (events_at k cs) c.event

own-miss : (k : ℕ) (cs : List AlarmChange) (c : AlarmChange) → (c.rule ≡ k → ⊥) → events_at k (cs ++ c ∷ []) ≡ events_at k cs
own-miss k cs c e =
    own k cs c ∙ ap (λ b. events_at k cs ++ cond b (c.event ∷ []) []) (other-number c.rule k e) ∙ append-nil (events_at k cs)

-- a change of a rule before all of these
missed : (ps : List Pending) (k : ℕ) (cs : List AlarmChange) (c : AlarmChange) → c.rule < k → noted_from k ps (cs ++ c ∷ []) ≡ noted_from k ps cs
missed [] k cs c lt = refl
missed (p ∷ ps) k cs c lt =
    let none : c.rule ≡ k → ⊥ = (λ e. absurd (omega (arith, e, lt))) in
    λ i. after_events p (own-miss k cs c none i) ∷ missed ps (k + 1) cs c (omega (arith, lt)) i

-- the rule at a place after an event
abbrev pub put_at : ℕ → AlarmEvent → List Pending → List Pending
put_at m e [] = []
put_at zero e (p ∷ ps) = after_event p e ∷ ps
put_at (suc m) e (p ∷ ps) = p ∷ put_at m e ps

found : (ps : List Pending) (k m : ℕ) (cs : List AlarmChange) (c : AlarmChange) → c.rule ≡ k + m
    → noted_from k ps (cs ++ c ∷ []) ≡ put_at m c.event (noted_from k ps cs)
found [] k zero cs c e = refl
found [] k (suc m) cs c e = refl
found (p ∷ ps) k zero cs c e =
    let here : c.rule ≡ k = omega (arith, e) in
    λ i. own-hit p k cs c here i ∷ missed ps (k + 1) cs c (omega (arith, e)) i
found (p ∷ ps) k (suc m) cs c e =
    let none : c.rule ≡ k → ⊥ = (λ h. absurd (omega (arith, e, h))) in
    let next : c.rule ≡ (k + 1) + m = omega (arith, e) in
    λ i. after_events p (own-miss k cs c none i) ∷ found ps (k + 1) m cs c next i

put_at-set : (ps : List Pending) (m : ℕ) (e : AlarmEvent) (d : Pending) → m < length ps → put_at m e ps ≡ set ps m (after_event (get_or ps m d) e)
put_at-set [] m e d lt = absurd (omega arith)
put_at-set (p ∷ ps) zero e d lt = refl
put_at-set (p ∷ ps) (suc m) e d lt = ap (λ l. p ∷ l) (put_at-set ps m e d (omega arith))

put_at-beyond : (ps : List Pending) (m : ℕ) (e : AlarmEvent) → length ps ≤ m → put_at m e ps ≡ ps
put_at-beyond [] zero e le = refl
put_at-beyond [] (suc m) e le = refl
put_at-beyond (p ∷ ps) zero e le = absurd (omega arith)
put_at-beyond (p ∷ ps) (suc m) e le = ap (λ l. p ∷ l) (put_at-beyond ps m e (omega arith))

-- all rules after one change more, whose rule is one of them or beyond the last
pub noted-push : (ps now : List Pending) (cs : List AlarmChange) (i : ℕ) (x : AlarmChange) (d next : Pending) → i < length cs
    → now ≡ noted_from 0 ps (take i cs) → (get_or cs i x).rule < length now → next ≡ after_event (get_or now (get_or cs i x).rule d) (get_or cs i x).event
    → set now (get_or cs i x).rule next ≡ noted_from 0 ps (take (i + 1) cs)
noted-push ps now cs i x d next lt so_far within step =
    let c = get_or cs i x in
    let at : c.rule ≡ 0 + c.rule = omega arith in
    ap (set now c.rule) step
    ∙ sym (put_at-set now c.rule c.event d within)
    ∙ ap (put_at c.rule c.event) so_far
    ∙ sym (found ps 0 c.rule (take i cs) c at)
    ∙ ap (noted_from 0 ps) (sym (take_more cs i x lt))

pub noted-beyond : (ps now : List Pending) (cs : List AlarmChange) (i : ℕ) (x : AlarmChange) → i < length cs
    → now ≡ noted_from 0 ps (take i cs) → length now ≤ (get_or cs i x).rule → now ≡ noted_from 0 ps (take (i + 1) cs)
noted-beyond ps now cs i x lt so_far beyond =
    let c = get_or cs i x in
    let at : c.rule ≡ 0 + c.rule = omega arith in
    sym (put_at-beyond now c.rule c.event beyond)
    ∙ ap (put_at c.rule c.event) so_far
    ∙ sym (found ps 0 c.rule (take i cs) c at)
    ∙ ap (noted_from 0 ps) (sym (take_more cs i x lt))

pub below-length : (i n m : ℕ) → i < n → n ≡ m → i < m
below-length i n m lt e = omega (arith, lt, e)

pub beyond-length : (i n m : ℕ) → n ≤ i → n ≡ m → m ≤ i
beyond-length i n m le e = omega (arith, le, e)

-- ---- no change, and one rule more
pub noted-none : (k : ℕ) (ps : List Pending) → noted_from k ps [] ≡ ps
noted-none k [] = refl
noted-none k (p ∷ ps) = ap (λ l. p ∷ l) (noted-none (k + 1) ps)

module _ {X : Type 0} (f : X → X) where
  -- a list of which the elements before this place are changed, and those behind it are not yet
  pub changed-more : (xs : List X) (n : ℕ) (d y : X) → n < length xs → y ≡ f (get_or xs n d)
      → take (n + 1) (set xs n y) ++ map f (drop (n + 1) (set xs n y)) ≡ take n xs ++ map f (drop n xs)
  changed-more xs n d y lt is =
      (λ i. take_more_set xs n y lt i ++ map f (drop-set-lt (n + 1) xs n y (omega arith) i))
      ∙ append_assoc (take n xs) (y ∷ []) (map f (drop (n + 1) xs))
      ∙ ap (λ z. take n xs ++ z ∷ map f (drop (n + 1) xs)) is
      ∙ ap (λ l. take n xs ++ map f l) (sym (drop_more xs n d lt))

  pub changed-all : (xs : List X) (n : ℕ) → length xs ≤ n → take n xs ++ map f (drop n xs) ≡ xs
  changed-all xs n le = (λ i. take_all n xs le i ++ map f (drop_all n xs le i)) ∙ append-nil xs
