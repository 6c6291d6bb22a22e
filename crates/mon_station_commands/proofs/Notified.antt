-- Notices that are put one after another, and turns between them.
use Rattle.std.proofs.Common.{◌≡◌, ◌∙◌, ◌+◌, ◌<◌, ◌++◌, ◌∷◌, List, ℕ, [], ap, get_or, inl, inr, length, refl, subst, sym, take}
use Rattle.std.proofs.lemmas.List.{take_more}
use Rattle.std.specs.Prelude.{Bool, true, false, OnErr, OnOk, Option, Some, None, Result, Ok, Err, slice_get}
use Rattle.std.specs.declared.alloc.AllocError.{AllocError}
use Rattle.mon_alarms.specs.declared.change.AlarmChange.{AlarmChange}
use Rattle.mon_board.specs.declared.board.Board.{Board}
use Rattle.mon_console.specs.Notices.{alarm_notice, device_notice}
use Rattle.mon_console.specs.declared.printing.Printing.{Printing}
use Rattle.mon_console.specs.declared.seen.Seen.{Seen}
use Rattle.mon_host.proofs.Promised.{weaker}
use Rattle.mon_host.specs.AtHost.{AtHost}
use Rattle.mon_host.specs.Log.{GoesOnBy}
use Rattle.mon_rounds.specs.declared.changes.Change.{Change}
use Rattle.mon_rounds.specs.declared.freshness.TargetAge.{TargetAge}
use Rattle.mon_station_commands.proofs.Quiets.{are_noted, are_quiet_as}
use Rattle.mon_station_commands.specs.Notifying.{Chain, Courier, HasTurn, IfCarried, IsAlarmPut, IsDevicePut, IsFilled, IsPut, IsPutIf, IsServed, IsTextPut, OrLost, is_silence, lost, news_lines}
use Rattle.mon_station_commands.specs.Quiet.{AreQuiet}

module _ {X : Type 0} (Step : X → Courier → Courier → Type 0) where
  chain_on : (xs : List X) (x : X) (before between after : Courier) → Chain Step xs before between → Step x between after → Chain Step (xs ++ x ∷ []) before after
  chain_on [] x before between after is step = (after, subst (λ (c : Courier). Step x c after) is step, refl)
  chain_on (first ∷ others) x before between after (mid, one, rest) step = (mid, one, chain_on others x mid between after rest step)

  -- the one at a place after those before it
  pub chain_next : (xs : List X) (i : ℕ) (d : X) (before between after : Courier) → i < length xs → Chain Step (take i xs) before between
      → Step (get_or xs i d) between after → Chain Step (take (i + 1) xs) before after
  chain_next xs i d before between after lt so_far step =
      subst (λ (ys : List X). Chain Step ys before after) (sym (take_more xs i d lt)) (chain_on (take i xs) (get_or xs i d) before between after so_far step)

on_ok : (P : Type 0) (r : Result Unit AllocError) → r ≡ Ok tt → OnOk r P → P
on_ok P r is given = subst (λ (e : Result Unit AllocError). OnOk e P) is given

module _ {X : Type 0} (Step : X → Courier → Courier → Type 0) (xs : List X) (i : ℕ) (d : X) (before between mid after : Courier) (put : Result Unit AllocError) where
  -- all so far, where none was lost
  pub all_next : (was done : Result Unit AllocError) → i < length xs → OnOk was (Chain Step (take i xs) before between) → OnOk put (Step (get_or xs i d) between mid)
      → OnOk put (after ≡ mid) → OnOk done ((put ≡ Ok tt) × (was ≡ Ok tt)) → OnOk done (Chain Step (take (i + 1) xs) before after)
  all_next was (Err error) lt so_far step same both = tt
  all_next was (Ok done) lt so_far step same (is_put, is_done) =
      chain_next Step xs i d before between after lt (on_ok (Chain Step (take i xs) before between) was is_done so_far)
      (subst (λ (c : Courier). Step (get_or xs i d) between c) (sym (on_ok (after ≡ mid) put is_put same)) (on_ok (Step (get_or xs i d) between mid) put is_put step))

-- each so far, put or lost
pub each_next : {X : Type 0} → (Step : X → Courier → Courier → Type 0) (xs : List X) (i : ℕ) (d : X) (before between mid after : Courier) (put : Result Unit AllocError) → i < length xs
    → Chain (OrLost Step) (take i xs) before between → OnOk put (Step (get_or xs i d) between mid) → OnErr put (mid ≡ between) → OnOk put (after ≡ mid) → OnErr put (after ≡ lost mid)
    → Chain (OrLost Step) (take (i + 1) xs) before after
each_next {X} Step xs i d before between mid after (Ok done) lt so_far step same kept gone =
    chain_next (OrLost Step) xs i d before between after lt so_far (inl (subst (λ (c : Courier). Step (get_or xs i d) between c) (sym kept) step))
each_next {X} Step xs i d before between mid after (Err error) lt so_far step same kept gone =
    chain_next (OrLost Step) xs i d before between after lt so_far (inr (gone ∙ ap lost same))

turn_is_quiet : (now : ℕ) (before after : Option Courier) (log : List AtHost) → HasTurn now before after log → AreQuiet log
turn_is_quiet now None after log (same, is) = are_quiet_as [] log is refl
turn_is_quiet now (Some before) None log is = absurd is
turn_is_quiet now (Some before) (Some after) log (said, turn, noted) = are_noted (news_lines said) log noted

-- a turn prints nothing
pub turn_quiet : (now : ℕ) (before after : Option Courier) (t0 t1 : Option (List AtHost)) → GoesOnBy (HasTurn now before after) t0 t1 → GoesOnBy AreQuiet t0 t1
turn_quiet now before after t0 t1 = weaker (HasTurn now before after) AreQuiet t0 t1 (turn_is_quiet now before after)

-- more after what was done
chain_append : {X : Type 0} → (Step : X → Courier → Courier → Type 0) (xs ys : List X) (a b c : Courier) → Chain Step xs a b → Chain Step ys b c → Chain Step (xs ++ ys) a c
chain_append {X} Step [] ys a b c is rest = subst (λ (q : Courier). Chain Step ys q c) is rest
chain_append {X} Step (x ∷ xs) ys a b c (mid, one, more) rest = (mid, one, chain_append Step xs ys mid b c more rest)

filled_on : (a b c : Courier) → IsFilled a b → IsFilled b c → IsFilled a c
filled_on a b c (xs, one) (ys, two) = (xs ++ ys, chain_append (OrLost IsTextPut) xs ys a b c one two)

module _ {X : Type 0} (Step : X → Courier → Courier → Type 0) (fills : (x : X) (a b : Courier) → Step x a b → IsFilled a b) where
  step_fills : (x : X) (a b : Courier) → OrLost Step x a b → IsFilled a b
  step_fills x a b (inl step) = fills x a b step
  step_fills x a b (inr gone) = ([] ∷ [], (b, inr gone, refl))

  chain_fills : (xs : List X) (a b : Courier) → Chain (OrLost Step) xs a b → IsFilled a b
  chain_fills [] a b is = ([], is)
  chain_fills (x ∷ xs) a b (mid, one, rest) = filled_on a mid b (step_fills x a mid one) (chain_fills xs mid b rest)

  all_fill : (xs : List X) (a b : Option Courier) → IfCarried (Chain (OrLost Step) xs) a b → IfCarried IsFilled a b
  all_fill xs None b is = is
  all_fill xs (Some a) None is = absurd is
  all_fill xs (Some a) (Some b) is = chain_fills xs a b is

-- nothing was done
pub unfilled : (a : Option Courier) → IfCarried IsFilled a a
unfilled None = refl
unfilled (Some a) = ([], refl)

pub filled_more : (a b c : Option Courier) → IfCarried IsFilled a b → IfCarried IsFilled b c → IfCarried IsFilled a c
filled_more None b c is rest = subst (λ (q : Option Courier). IfCarried IsFilled q c) is rest
filled_more (Some a) None c is rest = absurd is
filled_more (Some a) (Some b) None is rest = absurd rest
filled_more (Some a) (Some b) (Some c) is rest = filled_on a b c is rest

-- by equal ones
pub filled_as : (a b c d : Option Courier) → b ≡ a → d ≡ c → IfCarried IsFilled b c → IfCarried IsFilled a d
filled_as a b c d first last is = subst (λ (q : Option Courier). IfCarried IsFilled q d) first (subst (λ (q : Option Courier). IfCarried IsFilled b q) (sym last) is)

-- what is put of alarms
pub alarms_fill : (printing : Printing) (board : Board) (seen : Seen) (changes : List AlarmChange) (a b : Option Courier)
    → IfCarried (Chain (OrLost (IsAlarmPut printing board seen)) changes) a b → IfCarried IsFilled a b
alarms_fill printing board seen changes a b =
    all_fill (IsAlarmPut printing board seen) (λ x before after is. (alarm_notice printing board seen x ∷ [], (after, inl is, refl))) changes a b

device_fills : (printing : Printing) (seen : Seen) (is_down : Bool) (target : Option TargetAge) (a b : Courier) → IsDevicePut printing seen is_down target a b → IsFilled a b
device_fills printing seen is_down None a b is = ([], is)
device_fills printing seen is_down (Some target) a b (line, text, is) = (device_notice printing seen (record { target = target.address; is_down = is_down }) line ∷ [], (b, inl is, refl))

change_fills : (is_silent : Bool) (printing : Printing) (seen : Seen) (targets : List TargetAge) (change : Change) (a b : Courier) → IsPutIf is_silent printing seen targets change a b → IsFilled a b
change_fills true printing seen targets change a b = device_fills printing seen change.begins (slice_get targets change.number) a b
change_fills false printing seen targets change a b = λ is. ([], is)

-- what is put of devices
pub devices_fill : (printing : Printing) (seen : Seen) (targets : List TargetAge) (changes : List Change) (a b : Option Courier)
    → IfCarried (Chain (OrLost (IsPut printing seen targets)) changes) a b → IfCarried IsFilled a b
devices_fill printing seen targets changes a b =
    all_fill (IsPut printing seen targets) (λ x before after is. change_fills (is_silence x.trouble) printing seen targets x before after is) changes a b

-- no turn yet
pub unserved : (was : ℕ) (a : Option Courier) → IsServed was was a a
unserved was a = ([], refl, refl)

-- a turn after those before it
pub served_next : (was before now ended : ℕ) (a b filled after : Option Courier) (t0 t1 : Option (List AtHost)) → IsServed was before a b → IfCarried IsFilled b filled
    → GoesOnBy (HasTurn now filled after) t0 t1 → ended ≡ now → IsServed was ended a after
served_next was before now ended a b filled after t0 t1 (times, so_far, is) more turn same = (now ∷ times, (b, filled, turn.more, so_far, more, turn.holds), same)
