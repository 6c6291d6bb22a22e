-- What stations do not owe each other was taken, and where they owe nothing they agree.
use Rattle.std.proofs.Common.{ℕ, ◌≡◌, ◌≤◌, ◌∙◌, inl, inr, Bool, List, ◌∷◌, ◌++◌, Option, Some, length, sym, subst}
use Rattle.std.specs.Prelude.{◌≢◌, not}
use Rattle.std.specs.FinSet as set
use Rattle.std.proofs.lemmas.Bool.{cases_Bool, cases_lt}
use Rattle.mon_window.specs.Keep.{keep}
use Rattle.mon_window.specs.Top.{rising}
use Rattle.mon_window.specs.Window.{Samples, In}
use Rattle.mon_window.proofs.Promised.{to_retain}
use Rattle.mon_board.specs.Board.{is_marked, window_of}
use Rattle.mon_board.specs.Owed.{kept_marks, owed_in}
use Rattle.mon_board.specs.Watch.{IsWatch, Watch}
use Rattle.mon_board.specs.Windows.{IsPartOf, joined, window, kept_by}
use Rattle.mon_board.specs.declared.instance.Instance.{Instance}
use Rattle.mon_exchange.specs.Debts.{Heard, TellsDebts, WereTaken, is_owed}
use Rattle.mon_exchange.specs.Peers.{is_claimed, latest, marked_by, noted_as}
use Rattle.mon_saved.specs.declared.image.Image.{Image}
use Rattle.mon_saved.specs.Image.{SpellsImage}
use Rattle.mon_config.specs.StationCore.{Core}
use Rattle.mon_station.specs.Alike.{WindowsAreOfTaken}
use Rattle.mon_station.specs.Lived.{entries_of, last_state}
use Rattle.mon_station.specs.State.{State, known_of, owed_count, owed_to, setting_of}
use Rattle.mon_station.specs.Taken.{taken}
use Rattle.mon_station.specs.Verdict.{slot_of}
use Rattle.mon_world.specs.Debts.{heard_in, owed_by}
use Rattle.mon_world.specs.Moves.{AreMoves, AreUnforged, Move, lives_of}
use Rattle.mon_world.specs.Places.{setting_at}
use Rattle.mon_world.proofs.Agree.{has_slot, no_window, nothing_owed, windows_meet}
use Rattle.mon_world.proofs.Heard.{paid}
use Rattle.mon_world.proofs.Lives.{setting_is}
use Rattle.mon_world.proofs.Tells.{Knows, knows}

module _ (taking : (watch : Watch) (y : ℕ) (old new : List (ℕ × ℕ)) (claims : List Heard) (known : Option ℕ) (marked : ℕ → ℕ → Bool) → IsPartOf old new → WereTaken old claims
    → TellsDebts y (window watch old) claims known marked → TellsDebts y (window watch new) claims known (kept_marks (window watch old) (window watch new) marked))
    (noting_own : (y : ℕ) (windows : ℕ → Samples) (claims : List Heard) (known : Option ℕ) (marked : ℕ → ℕ → Bool) (c : Heard) → c.station ≡ y → TellsDebts y windows claims known marked
    → TellsDebts y windows (c ∷ claims) (Some (latest known c.incarnation)) (λ i s. marked_by (noted_as known c.incarnation) (is_claimed c.instance c.samples windows i s) (marked i s)))
    (noting_other : (y : ℕ) (windows : ℕ → Samples) (claims : List Heard) (known : Option ℕ) (marked : ℕ → ℕ → Bool) (c : Heard) → c.station ≢ y → TellsDebts y windows claims known marked → TellsDebts y windows (c ∷ claims) known marked)
    (owing : (y : ℕ) (windows : ℕ → Samples) (claims : List Heard) (known : Option ℕ) (marked : ℕ → ℕ → Bool) → TellsDebts y windows claims known marked
    → (i : ℕ) → owed_in windows marked i ≡ set.retain (windows i) (λ s. is_owed y claims i s))
    (joined_windows : (watch : Watch) (taken pairs : List (ℕ × ℕ)) (i : ℕ) → joined watch (window watch taken) pairs i ≡ window watch (taken ++ pairs) i)
    (one_image : (octets : List ℕ) (instances : List Instance) (a b : Image) → SpellsImage octets instances a → SpellsImage octets instances b → a ≡ b)
    (windows_taken : WindowsAreOfTaken)
    (keep_few : (epoch : ℕ → ℕ) (n m : ℕ) (a : Samples) → set.len (keep epoch n m a) ≤ n) (member_count : (a : Samples) → set.len a ≡ length (rising a))
    (core : Core) (count : ℕ) (moves : List Move) (are : AreMoves (setting_at core count) moves) where
  module _ (x y slot : ℕ) (s : State) (is : last_state (lives_of x moves) ≡ Some s) (has : slot_of (setting_of s).peers y ≡ Some slot) where
    same_setting : setting_of s ≡ setting_at core count x
    same_setting = setting_is (setting_at core count x) (lives_of x moves) (are.lived x) (are.lives x) s is

    pub its_slot : slot_of (setting_at core count x).peers y ≡ Some slot
    its_slot = (λ j. slot_of (sym same_setting j).peers y) ∙ has

    pub known_debts : Knows taking noting_own noting_other joined_windows (setting_at core count x) y slot its_slot s (heard_in (lives_of x moves))
    known_debts = knows taking noting_own noting_other joined_windows (setting_at core count x) y slot its_slot (lives_of x moves) (are.lived x) (are.lives x) s is

    -- what is not marked is what no claim has said
    pub owed_is : (i : ℕ) → owed_to s slot i ≡ owed_by s (lives_of x moves) y i
    owed_is i =
        (λ j. set.retain (known_debts.windows i j) (λ k. not (is_marked s.board slot i k)))
        ∙ owing y (window core.watch known_debts.pairs) (heard_in (lives_of x moves)) (known_of s y) (is_marked s.board slot) known_debts.tells i
        ∙ (λ j. set.retain (sym (known_debts.windows i) j) (λ k. is_owed y (heard_in (lives_of x moves)) i k))

  module _ (are_watch : IsWatch core.watch) (unforged : AreUnforged moves) where
    pub paid_for : (x y : ℕ) (s t : State) → last_state (lives_of x moves) ≡ Some s → last_state (lives_of y moves) ≡ Some t → known_of s y ≡ Some t.incarnation
        → (i k : ℕ) → In k (window_of s.board i) → ¬ (In k (owed_by s (lives_of x moves) y i)) → In k (taken (entries_of (lives_of y moves)) i)
    paid_for x y s t is as_well known i k there free = elim (cases_Bool (is_owed y (heard_in (lives_of x moves)) i k)) [
      | inl owed ↦ absurd (free (to_retain (λ q. is_owed y (heard_in (lives_of x moves)) i q) k (window_of s.board i) there owed))
      | inr no_debt ↦
          let slot = has_slot s y t.incarnation known in
          let debts = known_debts x y slot.0 s is slot.1 in
          paid one_image windows_taken core count are_watch moves are unforged x y i k t as_well (sym debts.tells.known_is ∙ known) no_debt
    ]

    -- if nothing is owed, all that is in the windows
    module _ (x y : ℕ) (s t : State) (is : last_state (lives_of x moves) ≡ Some s) (as_well : last_state (lives_of y moves) ≡ Some t) (known : known_of s y ≡ Some t.incarnation)
        (nothing : owed_count s (slot_of (setting_of s).peers y) ≡ 0) where
      pub all_paid : (i k : ℕ) → In k (window_of s.board i) → In k (taken (entries_of (lives_of y moves)) i)
      all_paid i k there = elim (cases_lt i (length s.board.watch.instances)) [
        | inl lt ↦
            let slot = has_slot s y t.incarnation known in
            paid_for x y s t is as_well known i k there (λ owed. nothing_owed s slot.0 i k ((λ j. owed_count s (sym slot.1 j)) ∙ nothing) lt
            (subst (λ (a : Samples). In k a) (sym (owed_is x y slot.0 s is slot.1 i)) owed))
        | inr beyond ↦ absurd (no_window keep_few member_count s.board.watch i k (taken (entries_of (lives_of x moves)) i) beyond
            (subst (λ (a : Samples). In k a) (windows_taken (lives_of x moves) s (are.lived x) is i) there))
      ]

    pub agree : (x y : ℕ) (s t : State) → last_state (lives_of x moves) ≡ Some s → last_state (lives_of y moves) ≡ Some t → known_of s y ≡ Some t.incarnation → known_of t x ≡ Some s.incarnation
        → owed_count s (slot_of (setting_of s).peers y) ≡ 0 → owed_count t (slot_of (setting_of t).peers x) ≡ 0 → (i : ℕ) → window_of s.board i ≡ window_of t.board i
    agree x y s t is as_well known known_too nothing nothing_too i =
        windows_meet core.watch i (window_of s.board i) (window_of t.board i) (taken (entries_of (lives_of x moves)) i) (taken (entries_of (lives_of y moves)) i)
        (windows_taken (lives_of x moves) s (are.lived x) is i ∙ (λ j. kept_by (setting_is (setting_at core count x) (lives_of x moves) (are.lived x) (are.lives x) s is j).watch i (taken (entries_of (lives_of x moves)) i)))
        (windows_taken (lives_of y moves) t (are.lived y) as_well i ∙ (λ j. kept_by (setting_is (setting_at core count y) (lives_of y moves) (are.lived y) (are.lives y) t as_well j).watch i (taken (entries_of (lives_of y moves)) i)))
        (all_paid x y s t is as_well known nothing i) (all_paid y x t s as_well is known_too nothing_too i)
