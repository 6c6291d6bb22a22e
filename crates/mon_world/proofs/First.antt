-- The first lives of the stations of a world.
use Rattle.std.proofs.Common.{ℕ, zero, suc, ◌≡◌, ◌<◌, ◌+◌, ◌∙◌, inl, inr, false, List, [], ◌∷◌, ◌++◌, length, map, Option, Some, None, refl, sym, ap, subst, arith}
use Rattle.std.specs.Prelude.{◌==◌, slice_get}
use Rattle.std.proofs.lemmas.Bool.{cases_Bool, eq-eqb, eqb-true, ne_eqb}
use Rattle.mon_disk.specs.declared.disk.Disk.{Ghosts}
use Rattle.mon_disk.specs.declared.memory.MemoryDisk.{MemoryDisk}
use Rattle.mon_config.specs.StationCore.{Core}
use Rattle.mon_station.specs.declared.station.Station.{Station}
use Rattle.mon_station.specs.Lived.{IsLived, last_state}
use Rattle.mon_station.specs.State.{State}
use Rattle.mon_station.specs.Taken.{Entry, Nothing, Restart}
use Rattle.mon_station.specs.Verdict.{Setting}
use Rattle.mon_world.specs.declared.sending.Datagram.{Datagram}
use Rattle.mon_world.specs.Moves.{AreLives, Move, letters_by, lives_of, sent_in}
use Rattle.mon_world.specs.Outcome.{life_begins, first_lives}
use Rattle.mon_world.specs.Places.{HasNumber, setting_at}
use Rattle.mon_world.proofs.Letters.{at_lives, other_lives}
use Rattle.mon_world.proofs.Lives.{not_some, some_same}
use Rattle.mon_world.specs.Shows.{AreFirst, AreSent, IsFirst, Shows, Stands, state_in}

no_letters : (o : Option State) (w : Setting) → letters_by o (Restart Nothing w) ≡ []
no_letters None w = refl
no_letters (Some s) w = refl

is_last : (x k : ℕ) → x ≡ k + 0 → k ≡ x
is_last x k is = omega (arith, is)

is_past : (x k : ℕ) → k ≡ x → x < k + 1
is_past x k is = omega (arith, is)

is_other : (x k j : ℕ) → x ≡ k + suc j → k ≡ x → ⊥
is_other x k j is e = omega (arith, is, e)

is_later : (x k j : ℕ) → x ≡ k + suc j → x ≡ (k + 1) + j
is_later x k j is = omega (arith, is)

module _ {G : Ghosts MemoryDisk} (core : Core) (count : ℕ) where
  abbrev first_of : ℕ → List (Station MemoryDisk G) → List Move
  first_of k stations = first_lives (setting_at core count) k (map state_in stations)

  below : (x k : ℕ) (stations : List (Station MemoryDisk G)) → x < k → lives_of x (first_of k stations) ≡ []
  below x k [] lt = refl
  below x k (t ∷ stations) lt =
      let other : (k == x) ≡ false = ne_eqb k x (λ e. omega (arith, lt, e)) in
      rw other (below x (k + 1) stations (omega (arith, lt)))

  abbrev AreFrom : ℕ → List (Station MemoryDisk G) → Type 0
  AreFrom k stations = (j : ℕ) (t : Station MemoryDisk G) → slice_get stations j ≡ Some t → IsFirst core count (k + j) t

  head : (k : ℕ) (t : Station MemoryDisk G) (stations : List (Station MemoryDisk G)) → AreFrom k (t ∷ stations) → IsFirst core count k t
  head k t stations are = let same : k + 0 ≡ k = omega arith in subst (λ x. IsFirst core count x t) same (are 0 t refl)

  tail : (k : ℕ) (t : Station MemoryDisk G) (stations : List (Station MemoryDisk G)) → AreFrom k (t ∷ stations) → AreFrom (k + 1) stations
  tail k t stations are j u is = let same : k + suc j ≡ (k + 1) + j = omega arith in subst (λ x. IsFirst core count x u) same (are (suc j) u is)

  first_lived : (x k : ℕ) (stations : List (Station MemoryDisk G)) → AreFrom k stations → IsLived (lives_of x (first_of k stations)) × AreLives (setting_at core count x) (lives_of x (first_of k stations))
  first_lived x k [] are = (tt, tt)
  first_lived x k (t ∷ stations) are = elim (cases_Bool (k == x)) [
    | inl is ↦
        let same : k ≡ x = eqb-true k x is in
        let none : lives_of x (first_of (k + 1) stations) ≡ [] = below x (k + 1) stations (omega (arith, same)) in
        rw (is, none) (((head k t stations are).begun, tt), (ap (setting_at core count) same, tt, tt))
    | inr not ↦ rw not (first_lived x (k + 1) stations (tail k t stations are))
  ]

  -- the first of the stations, and those after it
  at_first : (x k : ℕ) (t : Station MemoryDisk G) (stations : List (Station MemoryDisk G)) → k ≡ x → lives_of x (first_of k (t ∷ stations)) ≡ (Restart Nothing (setting_at core count x), state_in t) ∷ []
  at_first x k t stations same =
      at_lives x (life_begins k Nothing (setting_at core count k) (state_in t)) (first_of (k + 1) stations) (eq-eqb k x same)
      ∙ (λ i. (Restart Nothing (setting_at core count (same i)), state_in t) ∷ below x (k + 1) stations (is_past x k same) i)

  at_other : (x k : ℕ) (t : Station MemoryDisk G) (stations : List (Station MemoryDisk G)) → (k ≡ x → ⊥) → lives_of x (first_of k (t ∷ stations)) ≡ lives_of x (first_of (k + 1) stations)
  at_other x k t stations other = other_lives x (life_begins k Nothing (setting_at core count k) (state_in t)) (first_of (k + 1) stations) (ne_eqb k x other)

  abbrev IsFirstLife : ℕ → Station MemoryDisk G → List (Entry × State) → Type 0
  IsFirstLife x t lives = lives ≡ (Restart Nothing (setting_at core count x), state_in t) ∷ []

  first_at : (x k j : ℕ) (stations : List (Station MemoryDisk G)) (t : Station MemoryDisk G) → x ≡ k + j → slice_get stations j ≡ Some t → IsFirstLife x t (lives_of x (first_of k stations))
  first_at x k j [] t number is = absurd (not_some is)
  first_at x k zero (u ∷ stations) t number is = subst (λ v. IsFirstLife x v (lives_of x (first_of k (u ∷ stations)))) (some_same is) (at_first x k u stations (is_last x k number))
  first_at x k (suc j) (u ∷ stations) t number is =
      subst (IsFirstLife x t) (sym (at_other x k u stations (is_other x k j number))) (first_at x (k + 1) j stations t (is_later x k j number) is)

  first_sent : (k : ℕ) (stations : List (Station MemoryDisk G)) → sent_in (first_of k stations) ≡ []
  first_sent k [] = refl
  first_sent k (t ∷ stations) = (λ i. first_sent (k + 1) stations i ++ no_letters (last_state (lives_of k (first_of (k + 1) stations))) (setting_at core count k) i)

  -- this many stations on their first disks, before any step
  pub first_shown : (stations : List (Station MemoryDisk G)) (sent : List Datagram) → sent ≡ [] → length stations ≡ count → AreFirst core count stations → Shows core stations sent (first_of 1 stations)
  first_shown stations sent none counted first = record {
    shown = record {
      are = record {
        lived = λ x. subst (λ n. IsLived (lives_of x (first_of 1 stations))) counted (first_lived x 1 stations are).0;
        lives = λ x. subst (λ n. AreLives (setting_at core n x) (lives_of x (first_of 1 stations))) (sym counted) (first_lived x 1 stations are).1;
      };
      stand = stand;
    };
    letters = subst (λ l. AreSent l (sent_in (first_of 1 stations))) (sym none) (subst (AreSent []) (sym (first_sent 1 stations)) (record { parcels = refl; claims = tt }));
  }
    where
      are : AreFrom 1 stations
      are j t is = let same : suc j ≡ 1 + j = omega arith in subst (λ x. IsFirst core count x t) same (first (suc j) t is)

      lives_at : (j : ℕ) (t : Station MemoryDisk G) → slice_get stations j ≡ Some t → lives_of (suc j) (first_of 1 stations) ≡ (Restart Nothing (setting_at core count (suc j)), state_in t) ∷ []
      lives_at j t is = first_at (suc j) 1 j stations t (omega arith) is

      stand : (x : ℕ) (t : Station MemoryDisk G) → HasNumber stations x t → Stands t (lives_of x (first_of 1 stations))
      stand zero t here = absurd here
      stand (suc j) t here = subst (Stands t) (sym (lives_at j t here)) (record {
        state = refl;
        disk = λ c left. record { later = 0; state = state_in t; may = refl; there = refl; finds = (first (suc j) t here).kept c left };
      })
