-- What an opening finds after any openings, saves and stops.
use Rattle.std.proofs.Common.{ℕ, ◌≡◌, ◌<◌, ◌≤◌, length, true, List, [], ◌∷◌, Option, Some, None, refl, sym, ◌∙◌, subst, ⊎_elim, Contains, arith}
use Rattle.std.proofs.lemmas.List.Elements.{Contains-append_right}
use Rattle.mon_disk.specs.Disk.{Leaves}
use Rattle.mon_disk.specs.Keeper.{FindsAs, FindsBody, is_undamaged}
use Rattle.mon_disk.specs.History.{Event, FindsAgain, FindsOneOf, FindsRunning, GoesBack, Happens, IsHistory, found_after, last_disk, may_find, oldest}
use Rattle.mon_disk.proofs.Promised.{as_body_of, at_end}

-- the first of a list, and the others
newest : (bodies : List (Option (List ℕ))) (body : Option (List ℕ)) (c : List ℕ) → FindsBody body c → FindsOneOf (body ∷ bodies) c
newest bodies body c finds = (body, (0, omega arith, refl), finds)

older : (bodies : List (Option (List ℕ))) (body : Option (List ℕ)) (c : List ℕ) → FindsOneOf bodies c → FindsOneOf (body ∷ bodies) c
older bodies body c finds = (finds.0, Contains-append_right (body ∷ []) bodies finds.0 finds.1, finds.2)

as_one_of : (bodies : List (Option (List ℕ))) (outcomes : List ℕ → Type 0) → Leaves outcomes (FindsOneOf bodies) → (c : List ℕ) → FindsAs outcomes c → FindsOneOf bodies c
as_one_of bodies outcomes has c finds = let one = has finds.0 finds.1 in (one.0, one.1, as_body_of one.0 c finds.0 finds.2 one.2)

running : (bodies : List (Option (List ℕ))) (outcomes : List ℕ → Type 0) (body : List ℕ) → Leaves outcomes (FindsOneOf bodies) → (c : List ℕ) → FindsRunning (Some body) outcomes c → FindsOneOf (Some body ∷ bodies) c
running bodies outcomes body has c finds = ⊎_elim
    (λ old. older bodies (Some body) c (as_one_of bodies outcomes has c old))
    (λ new. newest bodies (Some body) c new)
    finds

-- the oldest is one of them
oldest_in : (bodies : List (Option (List ℕ))) → 0 < length bodies → Contains bodies (oldest bodies)
oldest_in [] some = absurd (omega (arith, some))
oldest_in (body ∷ []) some = (0, omega arith, refl)
oldest_in (body ∷ next ∷ bodies) some = Contains-append_right (body ∷ []) (next ∷ bodies) (oldest (next ∷ bodies)) (oldest_in (next ∷ bodies) (omega arith))

again : (bodies : List (Option (List ℕ))) (outcomes : List ℕ → Type 0) (body : Option (List ℕ)) (d : List ℕ) → outcomes d → body ≡ oldest bodies → Leaves outcomes (FindsOneOf bodies) → (c : List ℕ) → FindsAgain body outcomes c
    → FindsOneOf bodies c
again bodies outcomes body d some back has c finds = ⊎_elim
    (λ old. as_one_of bodies outcomes has c old)
    (λ last. (body, subst (Contains bodies) (sym back) (oldest_in bodies (omega (arith, (has d some).1.1))), last))
    finds

module _ {D : Type 0} (is_honest : D → Type 0) (seen : D → List ℕ) (may_leave : D → List ℕ → Type 0) (moment : D → ℕ) (left_since : D → ℕ → List ℕ → Type 0)
    (counts : (disk : D) (t : ℕ) (c : List ℕ) → is_honest disk → t ≤ moment disk → may_leave disk c → left_since disk t c) (seen_now : (disk : D) → is_honest disk → may_leave disk (seen disk)) where
  one_event : (bodies : List (Option (List ℕ))) (event : Event) (old new : D) → is_honest old → is_honest new → Leaves (may_leave old) (FindsOneOf bodies) → GoesBack bodies event
      → Happens is_honest seen may_leave moment left_since event old new → Leaves (may_leave new) (FindsOneOf (found_after bodies event))
  one_event bodies (Event.opened body) old new was honest has back is c left = newest [] body c (is.kept c left)
  one_event bodies Event.unopened old new was honest has back is c left =
      as_one_of bodies (may_leave old) has c (at_end moment left_since may_leave old new (FindsAs (may_leave old)) (λ t f. counts new t f honest) is c left)
  one_event bodies (Event.acknowledged body) old new was honest has back is c left = newest [] (Some body) c (is c left)
  one_event bodies (Event.unacknowledged body) old new was honest has back is c left =
      running bodies (may_leave old) body has c (at_end moment left_since may_leave old new (FindsRunning (Some body) (may_leave old)) (λ t f. counts new t f honest) is c left)
  one_event bodies (Event.reopened body) old new was honest has back is c left = newest [] body c (is c left)
  one_event bodies (Event.unreopened body) old new was honest has back is c left =
      again bodies (may_leave old) body (seen old) (seen_now old was) back has c (at_end moment left_since may_leave old new (FindsAgain body (may_leave old)) (λ t f. counts new t f honest) is c left)
  one_event bodies (Event.stopped None) old new was honest has back is c left =
      subst (FindsOneOf bodies) (sym (is.only c left)) (as_one_of bodies (may_leave old) has is.file (is.any_moment.each is.file is.left))
  one_event bodies (Event.stopped (Some body)) old new was honest has back is c left =
      subst (FindsOneOf (Some body ∷ bodies)) (sym (is.only c left)) (running bodies (may_leave old) body has is.file (is.any_moment.each is.file is.left))
  one_event bodies (Event.stopped_reopening body) old new was honest has back is c left =
      subst (FindsOneOf bodies) (sym (is.only c left)) (again bodies (may_leave old) body (seen old) (seen_now old was) back has is.file (is.any_moment.each is.file is.left))

  pub left_by : (first : D) (history : List (Event × D)) (bodies : List (Option (List ℕ))) → is_honest first → Leaves (may_leave first) (FindsOneOf bodies) → IsHistory is_honest seen may_leave moment left_since bodies first history
      → Leaves (may_leave (last_disk first history)) (FindsOneOf (may_find bodies history))
  left_by first [] bodies honest has is = has
  left_by first ((event, new) ∷ rest) bodies honest has is = left_by new rest (found_after bodies event) is.0 (one_event bodies event first new honest is.0 has is.1 is.2) is.3

  pub honest_after : (first : D) (history : List (Event × D)) (bodies : List (Option (List ℕ))) → is_honest first → IsHistory is_honest seen may_leave moment left_since bodies first history → is_honest (last_disk first history)
  honest_after first [] bodies honest is = honest
  honest_after first ((event, new) ∷ rest) bodies honest is = honest_after new rest (found_after bodies event) is.0 is.3

-- a file finds one body at most
pub finds_this : (bodies : List (Option (List ℕ))) (body : Option (List ℕ)) (c : List ℕ) → FindsBody body c → FindsOneOf bodies c → Contains bodies body
finds_this bodies body c this one = subst (Contains bodies) (sym one.2.body_is ∙ this.body_is) one.1

pub finds_undamaged : (bodies : List (Option (List ℕ))) (c : List ℕ) → FindsOneOf bodies c → is_undamaged c ≡ true
finds_undamaged bodies c one = one.2.undamaged
