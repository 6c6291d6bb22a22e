-- Restarts that are said, and the responses that show them.
use Rattle.std.proofs.Common.{◌≡◌, ℕ, ◌<◌, ◌≤◌, Bool, true, false, List, [], ◌∷◌, ◌++◌, refl, sym, ap, subst, arith, Option, Some, None, inl, inr}
use Rattle.std.specs.Prelude.{◌==◌, ◌&&◌, ◌⊎◌, nat_lt, filter, if◌then◌else◌}
use Rattle.std.specs.List.{fold}
use Rattle.std.specs.Option.{option_to_list}
use Rattle.std.proofs.lemmas.Bool.Decides.{nat_tests}
use Rattle.mon_station.specs.declared.event.TargetStamp.{TargetStamp}
use Rattle.mon_rounds.specs.Clock.{Follows, Happened, IsRestart, clock_after, clock_by, clock_with, or_before, responses_of, restart_after, restart_between}
use Rattle.mon_rounds.specs.declared.clock.Clock.{Clock}
use Rattle.mon_rounds.specs.declared.clock.Restart.{Restart}

-- restarts with the stamp of a response: the boots rose, or the time fell
abbrev risen : TargetStamp → Restart
risen s = record { boots = s.boots; time = s.time; until = None }

abbrev fallen : TargetStamp → ℕ → Restart
fallen s greatest = record { boots = s.boots; time = s.time; until = Some greatest }

one_restart : (r q : Restart) → (let x : Option Restart = Some r in x) ≡ Some q → r ≡ q
one_restart r q e = cc

no_restart : (q : Restart) → (let x : Option Restart = None in x) ≡ Some q → ⊥
no_restart q e = cc

less_of : (m n : ℕ) → nat_lt m n ≡ true → m < n
less_of m n is = grind (arith, nat_tests)

fallen_of : (m n k j : ℕ) → (m == n && nat_lt k j) ≡ true → (m ≡ n) × (k < j)
fallen_of m n k j is =
    let same : m ≡ n = grind (arith, nat_tests) in
    let less : k < j = grind (arith, nat_tests) in
    (same, less)

-- a restart is of this response, after that one
record IsShown (a b : TargetStamp) (q : Restart) : Type 0 where
  shows : IsRestart a b
  boots : q.boots ≡ b.boots
  time : q.time ≡ b.time

shown_by : (a b : TargetStamp) (greatest : ℕ) (q : Restart) (rose fell : Bool) → (rose ≡ true → a.boots < b.boots) → (fell ≡ true → (a.boots ≡ b.boots) × (b.time < a.time))
    → (if rose then Some (risen b) else (if fell then Some (fallen b greatest) else None)) ≡ Some q → IsShown a b q
shown_by a b greatest q true fell less both e =
    let is = one_restart (risen b) q e in record { shows = inl (less refl); boots = sym (ap (λ (r : Restart). r.boots) is); time = sym (ap (λ (r : Restart). r.time) is) }
shown_by a b greatest q false true less both e =
    let is = one_restart (fallen b greatest) q e in record { shows = inr (both refl); boots = sym (ap (λ (r : Restart). r.boots) is); time = sym (ap (λ (r : Restart). r.time) is) }
shown_by a b greatest q false false less both e = absurd (no_restart q e)

shown_between : (a b : TargetStamp) (greatest : ℕ) (q : Restart) → restart_between a greatest b ≡ Some q → IsShown a b q
shown_between a b greatest q e =
    shown_by a b greatest q (nat_lt a.boots b.boots) (a.boots == b.boots && nat_lt b.time a.time) (less_of a.boots b.boots) (fallen_of a.boots b.boots b.time a.time) e

-- of a last response and this one, where what is left follows
shown_first : (a b : TargetStamp) (rest : List TargetStamp) (r : Restart) (x before : Option Restart) → ((q : Restart) → x ≡ Some q → IsShown a b q) → or_before x before ≡ Some r
    → (before ≡ Some r) ⊎ Happened (a ∷ b ∷ rest) r
shown_first a b rest r None before shown e = inl e
shown_first a b rest r (Some q) before shown e =
    let s = shown r e in
    inr (record { before = a; after = b; follows = inl (refl, refl); shows = s.shows; boots = s.boots; time = s.time })

-- a restart after one response more: it was there before, or this one shows it
by_first : (b : TargetStamp) (rest : List TargetStamp) (r : Restart) (last : Option TargetStamp) (greatest : ℕ) (before : Option Restart) → restart_after last greatest b before ≡ Some r
    → (before ≡ Some r) ⊎ Happened (option_to_list last ++ b ∷ rest) r
by_first b rest r None greatest before e = inl e
by_first b rest r (Some a) greatest before e = shown_first a b rest r (restart_between a greatest b) before (shown_between a b greatest) e

-- what later responses show
by_others : (b : TargetStamp) (rest : List TargetStamp) (r : Restart) (last : Option TargetStamp) → Happened (b ∷ rest) r → Happened (option_to_list last ++ b ∷ rest) r
by_others b rest r None h = h
by_others b rest r (Some a) h = record { before = h.before; after = h.after; follows = inr h.follows; shows = h.shows; boots = h.boots; time = h.time }

module _ (number : ℕ) (r : Restart) where
  abbrev Said : Clock → List TargetStamp → Type 0
  Said clock responses = (clock.restart ≡ Some r) ⊎ Happened (option_to_list clock.last ++ responses) r

  abbrev own : List TargetStamp → List TargetStamp
  own answered = filter (λ (stamp : TargetStamp). stamp.target == number) answered

  after_one : (clock : Clock) (b : TargetStamp) (rest : List TargetStamp) → Said (clock_with clock b) rest → Said clock (b ∷ rest)
  after_one clock b rest (inl e) = by_first b rest r clock.last clock.greatest clock.restart e
  after_one clock b rest (inr h) = inr (by_others b rest r clock.last h)

  one_or_none : (clock : Clock) (b : TargetStamp) (rest : List TargetStamp) (its : Bool) → Said (if its then clock_with clock b else clock) rest → Said clock (if its then b ∷ rest else rest)
  one_or_none clock b rest true said = after_one clock b rest said
  one_or_none clock b rest false said = said

  over_all : (answered : List TargetStamp) (clock : Clock) → (fold (clock_by number) clock answered).restart ≡ Some r → Said clock (own answered)
  over_all [] clock e = inl e
  over_all (b ∷ answered) clock e = one_or_none clock b (own answered) (b.target == number) (over_all answered (clock_by number clock b) e)

  pub restart_happened : (answered : List TargetStamp) (clock : Clock) → (clock_after number answered clock).restart ≡ Some r → Happened (responses_of number clock answered) r
  restart_happened answered clock e = elim (over_all answered (record { last = clock.last; greatest = clock.greatest; restart = None }) e) [
    | inl none ↦ absurd (no_restart r none)
    | inr h ↦ h
  ]

unshown : (a b : TargetStamp) → (a.boots ≡ b.boots) × (a.time ≤ b.time) → IsRestart a b → ⊥
unshown a b same (inl less) = absurd (omega (arith, same.0, less))
unshown a b same (inr fell) = absurd (omega (arith, same.1, fell.1))

none_by : (x : Option Restart) → ((r : Restart) → x ≡ Some r → ⊥) → x ≡ None
none_by None not = refl
none_by (Some r) not = absurd (not r refl)

-- where each response has the boots of the one before and no lesser time, none is said
pub none_said : (number : ℕ) (answered : List TargetStamp) (clock : Clock) → ((a b : TargetStamp) → Follows a b (responses_of number clock answered) → (a.boots ≡ b.boots) × (a.time ≤ b.time))
    → (clock_after number answered clock).restart ≡ None
none_said number answered clock steady = none_by (clock_after number answered clock).restart
    (λ r e. let h = restart_happened number r answered clock e in unshown h.before h.after (steady h.before h.after h.follows) h.shows)
