-- Marks say what was said.
use Rattle.std.proofs.Common.{ℕ, ◌≡◌, ◌<◌, ◌≤◌, inl, inr, ⊎_elim, Bool, true, false, List, [], ◌∷◌, Option, Some, None, refl, sym, ◌∙◌, ap, subst, arith}
use Rattle.std.specs.Prelude.{◌==◌, not, ◌&&◌, ◌||◌}
use Rattle.std.specs.List.{AllByRecursion, list_any}
use Rattle.std.specs.FinSet.{contains, retain}
use Rattle.std.proofs.lemmas.Bool.{cases_Bool, cases_order, eqb-true, eq-eqb, ne_eqb, lt-ltb, le-ltb, and_parts, or_from, or_cases, and_left, and_right}
use Rattle.mon_window.specs.Window.{Samples, In}
use Rattle.mon_window.proofs.Promised.{retain_agrees}
use Rattle.mon_board.specs.Owed.{kept_marks, owed_in}
use Rattle.mon_board.specs.Windows.{Has, IsPartOf, window}
use Rattle.mon_board.proofs.Promised.{kept_stays}
use Rattle.mon_board.specs.Watch.{Watch}
use Rattle.mon_exchange.specs.Debts.{Heard, TellsDebts, WereTaken, has_said, is_owed, is_owed_at, latest_heard, said_of}
use Rattle.mon_exchange.specs.Peers.{is_claimed, latest, marked_by, noted_as}
use Rattle.mon_exchange.specs.declared.noted.Noted.{Noted}
use Rattle.mon_exchange.specs.declared.noted.Noted.TheVariants.{Counted, OlderIncarnation, NewIncarnation}

-- ---- booleans
true_right : (b : Bool) → (b && true) ≡ b
true_right true = refl
true_right false = refl

or_nothing : (b : Bool) → (b || false) ≡ b
or_nothing true = refl
or_nothing false = refl

or_turned : (a b : Bool) → (a || b) ≡ (b || a)
or_turned true true = refl
or_turned true false = refl
or_turned false true = refl
or_turned false false = refl

twice_not : (b : Bool) → not (not b) ≡ b
twice_not true = refl
twice_not false = refl

-- ---- what a claim has said
one_of : (P : Heard → Type 0) (test : Heard → Bool) (claims : List Heard) → AllByRecursion P claims → list_any test claims ≡ true → (c : Heard) × (test c ≡ true) × P c
one_of P test [] all is = absurd (let both : false ≡ true = is in cc)
one_of P test (c ∷ claims) all is = ⊎_elim (λ here. (c, here, all.0)) (λ there. one_of P test claims all.1 there) (or_cases (test c) (list_any test claims) is)

-- what a claim among these has said was taken
said_was_taken : (pairs : List (ℕ × ℕ)) (claims : List Heard) (y j i s : ℕ) → WereTaken pairs claims → list_any (has_said y j i s) claims ≡ true → Has pairs i s
said_was_taken pairs claims y j i s all is =
    let one = one_of (λ (d : Heard). (t : ℕ) → In t (said_of d) → Has pairs d.instance t) (has_said y j i s) claims all is in
    let c = one.0 in
    let first = and_parts (c.station == y) _ one.1 in
    let second = and_parts (c.incarnation == j) _ first.1 in
    let third = and_parts (i == c.instance) _ second.1 in
    subst (λ (k : ℕ). Has pairs k s) (sym (eqb-true i c.instance third.0)) (one.2 s third.1)

heard_own : (y : ℕ) (c : Heard) (claims : List Heard) → (c.station == y) ≡ true → latest_heard y (c ∷ claims) ≡ Some (latest (latest_heard y claims) c.incarnation)
heard_own y c claims is = rw is refl

heard_other : (y : ℕ) (c : Heard) (claims : List Heard) → (c.station == y) ≡ false → latest_heard y (c ∷ claims) ≡ latest_heard y claims
heard_other y c claims not = rw not refl

-- none of the claims names a station of which no incarnation is known
none_said : (y j i s : ℕ) (claims : List Heard) → latest_heard y claims ≡ None → list_any (has_said y j i s) claims ≡ false
none_said y j i s [] none = refl
none_said y j i s (c ∷ claims) none = elim (cases_Bool (c.station == y)) [
  | inl is ↦ absurd (let some : Some (latest (latest_heard y claims) c.incarnation) ≡ None = sym (heard_own y c claims is) ∙ none in cc)
  | inr not ↦
      let rest : latest_heard y claims ≡ None = sym (heard_other y c claims not) ∙ none in
      rw not (none_said y j i s claims rest)
]

not_of_station : (y j i s : ℕ) (c : Heard) → (c.station == y) ≡ false → has_said y j i s c ≡ false
not_of_station y j i s c not = rw not refl

not_of_incarnation : (y j i s : ℕ) (c : Heard) → (c.incarnation == j) ≡ false → has_said y j i s c ≡ false
not_of_incarnation y j i s c not = and_right (c.station == y) _ (and_left (c.incarnation == j) _ not)

abbrev IsAtMost : ℕ → Option ℕ → Type 0
IsAtMost k None = Unit {0}
IsAtMost k (Some j) = j ≤ k

both_at_most : (k j : ℕ) (o : Option ℕ) → latest o j ≤ k → (j ≤ k) × IsAtMost k o
both_at_most k j None h = (h, tt)
both_at_most k j (Some i) h = (omega (arith, h), omega (arith, h))

-- nothing was said in an incarnation beyond the latest
none_beyond : (y k j i s : ℕ) (claims : List Heard) → IsAtMost k (latest_heard y claims) → k < j → list_any (has_said y j i s) claims ≡ false
none_beyond y k j i s [] most lt = refl
none_beyond y k j i s (c ∷ claims) most lt = elim (cases_Bool (c.station == y)) [
  | inl is ↦
      let here : IsAtMost k (Some (latest (latest_heard y claims) c.incarnation)) = subst (IsAtMost k) (heard_own y c claims is) most in
      let parts = both_at_most k c.incarnation (latest_heard y claims) here in
      or_from _ _ (not_of_incarnation y j i s c (ne_eqb c.incarnation j (λ e. omega (arith, parts.0, e, lt)))) (none_beyond y k j i s claims parts.1 lt)
  | inr not ↦ or_from _ _ (not_of_station y j i s c not) (none_beyond y k j i s claims (subst (IsAtMost k) (heard_other y c claims not) most) lt)
]

told : (y j i s : ℕ) (claims : List Heard) → latest_heard y claims ≡ Some j → not (is_owed y claims i s) ≡ list_any (has_said y j i s) claims
told y j i s claims is = ap (λ (k : Option ℕ). not (is_owed_at y claims i s k)) is ∙ twice_not (list_any (has_said y j i s) claims)

-- ---- samples taken
pub still_told : (watch : Watch) (y : ℕ) (old new : List (ℕ × ℕ)) (claims : List Heard) (known : Option ℕ) (marked : ℕ → ℕ → Bool) → IsPartOf old new → WereTaken old claims
    → TellsDebts y (window watch old) claims known marked → TellsDebts y (window watch new) claims known (kept_marks (window watch old) (window watch new) marked)
still_told watch y old new claims known marked more all was = record {
  known_is = was.known_is;
  marked_is = λ i s h. ap (λ (b : Bool). (marked i s && contains (window watch old i) s) && b) h ∙ true_right _ ∙ at i s h;
}
  where
    -- what is new in the window was not said
    unsaid : (i s : ℕ) (k : Option ℕ) → In s (window watch new i) → contains (window watch old i) s ≡ false → not (is_owed_at y claims i s k) ≡ false
    unsaid i s None h gone = refl
    unsaid i s (Some j) h gone = elim (cases_Bool (list_any (has_said y j i s) claims)) [
      | inl said ↦ absurd (
          let back : contains (window watch old i) s ≡ true = kept_stays watch i _ _ s (said_was_taken old claims y j i s all said) (more i) h in
          let both : true ≡ false = sym back ∙ gone in cc)
      | inr silent ↦ rw silent refl
    ]

    at : (i s : ℕ) → In s (window watch new i) → (marked i s && contains (window watch old i) s) ≡ not (is_owed y claims i s)
    at i s h = elim (cases_Bool (contains (window watch old i) s)) [
      | inl here ↦ rw here (true_right (marked i s) ∙ was.marked_is i s here)
      | inr gone ↦ and_right (marked i s) _ gone ∙ sym (unsaid i s (latest_heard y claims) h gone)
    ]

-- ---- a claim noted
-- the claim has this sample of this instance
abbrev names : Heard → ℕ → ℕ → Bool
names c i s = (i == c.instance) && contains (said_of c) s

claimed_here : (c : Heard) (windows : ℕ → Samples) (i s : ℕ) → In s (windows i) → is_claimed c.instance c.samples windows i s ≡ names c i s
claimed_here c windows i s h = ap (λ (b : Bool). (i == c.instance) && (contains (said_of c) s && b)) h ∙ ap (λ (b : Bool). (i == c.instance) && b) (true_right (contains (said_of c) s))

says_names : (y j i s : ℕ) (c : Heard) → (c.station == y) ≡ true → (c.incarnation == j) ≡ true → has_said y j i s c ≡ names c i s
says_names y j i s c is now = rw (is, now) refl

module _ (y : ℕ) (windows : ℕ → Samples) (claims : List Heard) (known : Option ℕ) (marked : ℕ → ℕ → Bool) (c : Heard) (own : (c.station == y) ≡ true) (was : TellsDebts y windows claims known marked) where
  abbrev Noted_at : Option ℕ → Type 0
  Noted_at k = TellsDebts y windows (c ∷ claims) (Some (latest k c.incarnation)) (λ i s. marked_by (noted_as k c.incarnation) (is_claimed c.instance c.samples windows i s) (marked i s))

  now_known : (k : Option ℕ) → latest_heard y claims ≡ k → latest_heard y (c ∷ claims) ≡ Some (latest k c.incarnation)
  now_known k is = heard_own y c claims own ∙ ap (λ (o : Option ℕ). Some (latest o c.incarnation)) is

  told_by : (k : Option ℕ) (n : Noted) → latest_heard y claims ≡ k → noted_as k c.incarnation ≡ n
      → ((i s : ℕ) → In s (windows i) → marked_by n (is_claimed c.instance c.samples windows i s) (marked i s) ≡ not (is_owed y (c ∷ claims) i s)) → Noted_at k
  told_by k n is noted marks = record {
    known_is = sym (now_known k is);
    marked_is = λ i s h. ap (λ (m : Noted). marked_by m (is_claimed c.instance c.samples windows i s) (marked i s)) noted ∙ marks i s h;
  }

  -- a first or greater incarnation, of which nothing was said before
  fresh : (k : Option ℕ) → latest_heard y claims ≡ k → noted_as k c.incarnation ≡ NewIncarnation → latest k c.incarnation ≡ c.incarnation
      → ((i s : ℕ) → list_any (has_said y c.incarnation i s) claims ≡ false) → Noted_at k
  fresh k is noted greatest none = told_by k NewIncarnation is noted (λ i s h. claimed_here c windows i s h ∙ sym (
      told y c.incarnation i s (c ∷ claims) (now_known k is ∙ ap (λ (n : ℕ). Some n) greatest)
      ∙ ap (λ (b : Bool). b || list_any (has_said y c.incarnation i s) claims) (says_names y c.incarnation i s c own (eq-eqb c.incarnation c.incarnation refl))
      ∙ ap (λ (b : Bool). names c i s || b) (none i s) ∙ or_nothing (names c i s)))

  -- the known incarnation
  counted : (k : ℕ) → latest_heard y claims ≡ Some k → k ≡ c.incarnation → Noted_at (Some k)
  counted k is same =
      let noted : noted_as (Some k) c.incarnation ≡ Counted = rw (le-ltb k c.incarnation (omega (arith, same)), eq-eqb k c.incarnation same) refl in
      let now : latest_heard y (c ∷ claims) ≡ Some k = now_known (Some k) is ∙ ap (λ (n : ℕ). Some n) (omega (arith, same)) in
      told_by (Some k) Counted is noted (λ i s h.
      ap (λ (b : Bool). marked i s || b) (claimed_here c windows i s h) ∙ or_turned (marked i s) (names c i s) ∙ sym (
      told y k i s (c ∷ claims) now
      ∙ ap (λ (b : Bool). b || list_any (has_said y k i s) claims) (says_names y k i s c own (eq-eqb c.incarnation k (sym same)))
      ∙ ap (λ (b : Bool). names c i s || b) (sym (told y k i s claims is) ∙ sym (was.marked_is i s h))))

  -- an older one
  older : (k : ℕ) → latest_heard y claims ≡ Some k → c.incarnation < k → Noted_at (Some k)
  older k is lt =
      let noted : noted_as (Some k) c.incarnation ≡ OlderIncarnation = rw (le-ltb k c.incarnation (omega (arith, lt)), ne_eqb k c.incarnation (λ e. omega (arith, e, lt))) refl in
      let now : latest_heard y (c ∷ claims) ≡ Some k = now_known (Some k) is ∙ ap (λ (n : ℕ). Some n) (omega (arith, lt)) in
      told_by (Some k) OlderIncarnation is noted (λ i s h.
      was.marked_is i s h ∙ told y k i s claims is ∙ sym (
      told y k i s (c ∷ claims) now
      ∙ ap (λ (b : Bool). b || list_any (has_said y k i s) claims) (not_of_incarnation y k i s c (ne_eqb c.incarnation k (λ e. omega (arith, e, lt))))))

  by_known : (k : Option ℕ) → latest_heard y claims ≡ k → Noted_at k
  by_known None none = fresh None none refl refl (λ i s. none_said y c.incarnation i s claims none)
  by_known (Some k) is = elim (cases_order k c.incarnation) [
    | inl same ↦ counted k is same
    | inr (inl lt) ↦
        let noted : noted_as (Some k) c.incarnation ≡ NewIncarnation = rw (lt-ltb k c.incarnation lt) refl in
        fresh (Some k) is noted (omega (arith, lt)) (λ i s. none_beyond y k c.incarnation i s claims (subst (IsAtMost k) (sym is) (omega arith)) lt)
    | inr (inr gt) ↦ older k is gt
  ]

  pub now_told : Noted_at known
  now_told = subst Noted_at (sym was.known_is) (by_known (latest_heard y claims) refl)

-- a claim of another station says nothing of this one
pub other_told : (y : ℕ) (windows : ℕ → Samples) (claims : List Heard) (known : Option ℕ) (marked : ℕ → ℕ → Bool) (c : Heard) → (c.station == y) ≡ false
    → TellsDebts y windows claims known marked → TellsDebts y windows (c ∷ claims) known marked
other_told y windows claims known marked c not_own was = record {
  known_is = was.known_is ∙ sym skipped;
  marked_is = λ i s h. was.marked_is i s h ∙ ap (λ (b : Bool). not b) (same i s (latest_heard y claims) ∙ ap (λ (k : Option ℕ). is_owed_at y (c ∷ claims) i s k) (sym skipped));
}
  where
    skipped : latest_heard y (c ∷ claims) ≡ latest_heard y claims
    skipped = heard_other y c claims not_own

    same : (i s : ℕ) (k : Option ℕ) → is_owed_at y claims i s k ≡ is_owed_at y (c ∷ claims) i s k
    same i s None = refl
    same i s (Some j) = ap (λ (b : Bool). not (b || list_any (has_said y j i s) claims)) (sym (not_of_station y j i s c not_own))

-- what is not marked is what is owed
pub owed_as_told : (y : ℕ) (windows : ℕ → Samples) (claims : List Heard) (known : Option ℕ) (marked : ℕ → ℕ → Bool) → TellsDebts y windows claims known marked
    → (i : ℕ) → owed_in windows marked i ≡ retain (windows i) (λ s. is_owed y claims i s)
owed_as_told y windows claims known marked tells i =
    retain_agrees (λ s. not (marked i s)) (λ s. is_owed y claims i s) (windows i) (λ s h. ap (λ (b : Bool). not b) (tells.marked_is i s h) ∙ twice_not (is_owed y claims i s))
