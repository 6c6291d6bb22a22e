-- What a keeper knows of its file even after its disk failed, and how closing the spare slot's gate
-- mends it.
use Rattle.std.proofs.Common.{ℕ, ◌≡◌, ◌<◌, ◌≤◌, ◌+◌, ◌*◌, max, [], ◌∷◌, inl, inr, ⊎_elim, true, ◌&&◌, ◌==◌, nat_lt, Bool, List, length, refl, sym, ◌∙◌, ap, subst, if◌then◌else◌, Option, Some, None}
use Rattle.std.proofs.lemmas.Bool.{and_parts, and_from}
use Rattle.mon_disk.specs.Disk.{Follows, IsTorn, Leaves, LeavesSince, Only}
use Rattle.mon_disk.specs.File.{Saved, offset_of, slot_of, other, held, newer, found, head_of, is_sound_head, are_sound, is_sound, Finds, HoldsEither, IsBeside, IsShut, is_slot}
use Rattle.mon_disk.specs.History.{FindsAgain}
use Rattle.mon_disk.specs.Keeper.{has_generation, is_older, is_none, is_newest, is_last, spare, saved_body, found_body, is_undamaged, FindsBody, IsAs, IsHeld, IsKept, IsWhole}
use Rattle.mon_disk.specs.declared.file.Slot.{Slot}
use Rattle.mon_disk.specs.declared.file.Slot.TheVariants.{First, Second}
use Rattle.mon_disk.specs.declared.file.TheConstants.{SLOT_SIZE}
use Rattle.mon_disk.proofs.Gates.{closing}
use Rattle.mon_disk.proofs.Moments.{at_end}
use Rattle.mon_disk.proofs.Opened.{as_body}
use Rattle.mon_disk.proofs.Saves.{found_at, pick_none, sound_sides, sound_at, sides}

-- ---- the slot that is not spare
pub itself : (z : ℕ) (k : Slot) (file : List ℕ) → length file ≡ 2 * z → IsBeside z k file file
itself z k file whole = record { size = whole; rest = refl }

pub by_gate : (z : ℕ) (k : Slot) (file f : List ℕ) (a b : Option Saved) → HoldsEither z k file a b f → IsBeside z k file f
by_gate z k file f a b h = record { size = h.size; rest = h.rest }

pub by_slot : (z : ℕ) (k : Slot) (file f1 f2 octets : List ℕ) → IsBeside z k file f1 → is_slot z k f1 octets f2 → IsBeside z k file f2
by_slot z k file f1 f2 octets b s = record { size = s.0; rest = s.1 ∙ b.rest }

-- a step that writes only to the spare slot
pub steps_beside : {D : Type 0} (moment : D → ℕ) (left_since : D → ℕ → List ℕ → Type 0) (may_leave : D → List ℕ → Type 0) (z : ℕ) (k j : Slot) (file f : List ℕ) (a b : Option Saved) → k ≡ j → IsBeside z k file f
    → (d1 d2 : D) → ((t : ℕ) (c : List ℕ) → t ≤ moment d2 → may_leave d2 c → left_since d2 t c) → LeavesSince moment left_since d1 d2 (HoldsEither z k f a b) → Leaves (may_leave d2) (IsBeside z j file)
steps_beside moment left_since may_leave z k j file f a b same so_far d1 d2 counts run c left =
    let h = at_end moment left_since may_leave d1 d2 (HoldsEither z k f a b) counts run c left in
    let here : IsBeside z k file c = record { size = h.size; rest = h.rest ∙ so_far.rest } in
    subst (λ s. IsBeside z s file c) same here

-- ---- what is known of it
last_in : (z : ℕ) (newest : Option (Slot × ℕ)) (file : List ℕ) → is_newest z newest file ≡ true → is_last newest (held (slot_of z (other (spare newest)) file)) ≡ true
last_in z None file is = (and_parts (is_none (held (slot_of z First file))) (is_none (held (slot_of z Second file))) is).1
last_in z (Some (First, g)) file is = (and_parts (has_generation (held (slot_of z First file)) g) (is_older (held (slot_of z Second file)) g) is).0
last_in z (Some (Second, g)) file is = (and_parts (has_generation (held (slot_of z Second file)) g) (is_older (held (slot_of z First file)) g) is).0

pub kept_held : (z : ℕ) (newest : Option (Slot × ℕ)) (file : List ℕ) (outcomes : List ℕ → Type 0) → IsKept z newest file outcomes → IsHeld z newest file outcomes
kept_held z newest file outcomes kept = record {
  beside = λ c left. record { size = ap length (kept.durable c left) ∙ kept.whole; rest = ap (slot_of z (other (spare newest))) (kept.durable c left) };
  sound = (sound_sides z (spare newest) file kept.whole kept.sound).rest_is;
  last_is = last_in z newest file kept.newest_is;
}

-- what is found is what that slot holds
pub kept_last : (z : ℕ) (newest : Option (Slot × ℕ)) (file : List ℕ) (outcomes : List ℕ → Type 0) → IsKept z newest file outcomes → held (slot_of z (other (spare newest)) file) ≡ found z file
kept_last z newest file outcomes kept =
    let k = spare newest in
    sym (found_at z k file (held (slot_of z k file)) (held (slot_of z (other k) file)) kept.whole refl refl ∙ (sides z newest file kept.newest_is).finds (held (slot_of z k file)) (inr refl))

pub kept_body : (newest : Option (Slot × ℕ)) (file : List ℕ) (outcomes : List ℕ → Type 0) → IsKept SLOT_SIZE newest file outcomes → (body : Option (List ℕ)) → FindsBody body file
    → saved_body (held (slot_of SLOT_SIZE (other (spare newest)) file)) ≡ body
unfolding found_body
kept_body newest file outcomes kept body finds = ap saved_body (kept_last SLOT_SIZE newest file outcomes kept) ∙ finds.body_is

-- after calls that did not change it
pub still_held : (z : ℕ) (newest : Option (Slot × ℕ)) (file now : List ℕ) (outcomes later : List ℕ → Type 0) → IsHeld z newest file outcomes → Leaves later (IsBeside z (spare newest) file) → later now → IsHeld z newest now later
still_held z newest file now outcomes later was beside here =
    let b = beside now here in
    record {
      beside = λ c left. let at = beside c left in record { size = at.size; rest = at.rest ∙ sym b.rest };
      sound = ap (λ l. is_sound_head z (head_of (held l))) b.rest ∙ was.sound;
      last_is = ap (λ l. is_last newest (held l)) b.rest ∙ was.last_is;
    }

pub same_last : (z : ℕ) (newest : Option (Slot × ℕ)) (file now : List ℕ) (later : List ℕ → Type 0) → Leaves later (IsBeside z (spare newest) file) → later now
    → held (slot_of z (other (spare newest)) now) ≡ held (slot_of z (other (spare newest)) file)
same_last z newest file now later beside here = ap held (beside now here).rest

-- ---- closing a gate after a call that failed
-- not yet
pub not_shut : (z : ℕ) (k : Slot) (outcomes : List ℕ → Type 0) → Leaves outcomes (λ c. length c ≡ 2 * z) → Leaves outcomes (IsShut z k outcomes)
not_shut z k outcomes whole c left = (c, left, record { size = whole c left; rest = refl; either = inr refl })

-- by the write, whatever the slot holds
pub shut_by : (z : ℕ) → 0 < z → (k : Slot) (outcomes later : List ℕ → Type 0) (seen : List ℕ) (at : ℕ) → at ≡ offset_of z k → Leaves outcomes (λ c. length c ≡ 2 * z) → outcomes seen
    → Follows (IsTorn at (0 ∷ []) (max (length seen) (at + 1))) outcomes later → Leaves later (IsShut z k outcomes)
shut_by z some k outcomes later seen at place whole now crash c left =
    let from = crash c left in
    let size : length seen ≡ length from.0 = whole seen now ∙ sym (whole from.0 from.1) in
    let torn : IsTorn at (0 ∷ []) (max (length from.0) (at + 1)) from.0 c = subst (λ n. IsTorn at (0 ∷ []) (max n (at + 1)) from.0 c) size from.2 in
    (from.0, from.1, closing z some k from.0 c (whole from.0 from.1) at place torn)

-- ---- with the spare slot closed
newest_in : (z : ℕ) (newest : Option (Slot × ℕ)) (new : List ℕ) (last : Option Saved) → is_last newest last ≡ true → held (slot_of z (spare newest) new) ≡ None → held (slot_of z (other (spare newest)) new) ≡ last
    → is_newest z newest new ≡ true
newest_in z None new last is shut same = and_from _ _ (ap is_none shut) (ap is_none same ∙ is)
newest_in z (Some (First, g)) new last is shut same = and_from _ _ (ap (λ o. has_generation o g) same ∙ is) (ap (λ o. is_older o g) shut)
newest_in z (Some (Second, g)) new last is shut same = and_from _ _ (ap (λ o. has_generation o g) same ∙ is) (ap (λ o. is_older o g) shut)

finds_last : (z : ℕ) (k : Slot) (new : List ℕ) (last : Option Saved) → is_sound_head z (head_of last) ≡ true → length new ≡ 2 * z → held (slot_of z k new) ≡ None → held (slot_of z (other k) new) ≡ last → Finds z last new
finds_last z k new last sound size shut same = record {
  sound = sound_at z k new None last size shut same (record { mine_is = refl; rest_is = sound; apart = refl });
  finds = found_at z k new None last size shut same ∙ pick_none k last;
}

pub mended : (z : ℕ) (newest : Option (Slot × ℕ)) (file new : List ℕ) (outcomes later : List ℕ → Type 0) → IsHeld z newest file outcomes → HoldsEither z (spare newest) file None None new → Only new later
    → IsKept z newest new later
mended z newest file new outcomes later was closed durable =
    let shut : held (slot_of z (spare newest) new) ≡ None = ⊎_elim (λ a. a) (λ a. a) closed.either in
    record {
      whole = closed.size;
      sound = (finds_last z (spare newest) new _ was.sound closed.size shut (ap held closed.rest)).sound;
      durable = durable;
      newest_is = newest_in z newest new _ was.last_is shut (ap held closed.rest);
    }

-- ---- while it is closed
-- the one test of a file, by its size and what its slots hold
abbrev test : ℕ → ℕ → Option Saved → Option Saved → Bool
test z n a b = if nat_lt n (2 * z) then true else ((n == 2 * z) && are_sound z (head_of a) (head_of b))

abbrev find : ℕ → ℕ → Option Saved → Option Saved → Option Saved
find z n a b = if nat_lt n (2 * z) then None else newer a b

record IsAlike (z : ℕ) (c d : List ℕ) : Type 0 where
  size : length c ≡ length d
  first : held (slot_of z First c) ≡ held (slot_of z First d)
  second : held (slot_of z Second c) ≡ held (slot_of z Second d)

alike_at : (z : ℕ) (k : Slot) (c d : List ℕ) → length c ≡ length d → held (slot_of z k c) ≡ held (slot_of z k d) → held (slot_of z (other k) c) ≡ held (slot_of z (other k) d) → IsAlike z c d
alike_at z First c d size mine rest = record { size = size; first = mine; second = rest }
alike_at z Second c d size mine rest = record { size = size; first = rest; second = mine }

alike_tests : (z : ℕ) (c d : List ℕ) → IsAlike z c d → is_sound z c ≡ is_sound z d
unfolding is_sound
alike_tests z c d same = λ i. test z (same.size i) (same.first i) (same.second i)

alike_finds : (z : ℕ) (c d : List ℕ) → IsAlike z c d → found z c ≡ found z d
unfolding found
alike_finds z c d same = λ i. find z (same.size i) (same.first i) (same.second i)

alike_as : (c d : List ℕ) → IsAlike SLOT_SIZE c d → IsAs c d
unfolding found_body is_undamaged
alike_as c d same = record { undamaged = alike_tests SLOT_SIZE c d same; body_is = ap saved_body (alike_finds SLOT_SIZE c d same) }

-- an opening meets what it would have met before, or finds the last save
pub found_again : (newest : Option (Slot × ℕ)) (file : List ℕ) (outcomes : List ℕ → Type 0) → IsHeld SLOT_SIZE newest file outcomes → (c : List ℕ) → IsShut SLOT_SIZE (spare newest) outcomes c
    → FindsAgain (saved_body (held (slot_of SLOT_SIZE (other (spare newest)) file))) outcomes c
found_again newest file outcomes was c from =
    let k = spare newest in
    let before = was.beside from.0 from.1 in
    let h = from.2 in
    ⊎_elim
    (λ (shut : held (slot_of SLOT_SIZE k c) ≡ None).
    inr (as_body (held (slot_of SLOT_SIZE (other k) file)) c (finds_last SLOT_SIZE k c _ was.sound h.size shut (ap held (h.rest ∙ before.rest)))))
    (λ (same : held (slot_of SLOT_SIZE k c) ≡ held (slot_of SLOT_SIZE k from.0)).
    inl (from.0, from.1, alike_as c from.0 (alike_at SLOT_SIZE k c from.0 (h.size ∙ sym before.size) same (ap held h.rest))))
    h.either

-- the slot that is not spare stays
pub shut_beside : (z : ℕ) (newest : Option (Slot × ℕ)) (file : List ℕ) (outcomes : List ℕ → Type 0) → IsHeld z newest file outcomes → (c : List ℕ) → IsShut z (spare newest) outcomes c → IsBeside z (spare newest) file c
shut_beside z newest file outcomes was c from = record { size = from.2.size; rest = from.2.rest ∙ (was.beside from.0 from.1).rest }

-- what is found in a kept file
pub kept_finds : (newest : Option (Slot × ℕ)) (file : List ℕ) (outcomes : List ℕ → Type 0) → IsKept SLOT_SIZE newest file outcomes → FindsBody (saved_body (held (slot_of SLOT_SIZE (other (spare newest)) file))) file
kept_finds newest file outcomes kept = as_body _ file (record { sound = kept.sound; finds = sym (kept_last SLOT_SIZE newest file outcomes kept) })

pub kept_whole : (newest : Option (Slot × ℕ)) (file : List ℕ) (outcomes : List ℕ → Type 0) → IsKept SLOT_SIZE newest file outcomes → IsWhole file
unfolding is_undamaged
kept_whole newest file outcomes kept = record { two_slots = kept.whole; undamaged = kept.sound }
