-- What a station offers and confirms it has taken.
use Rattle.std.proofs.Common.{ℕ, zero, suc, ◌≡◌, ◌≤◌, ◌<◌, ◌+◌, inl, inr, List, [], ◌∷◌, ◌++◌, Option, Some, None, length, map, drop, refl, sym, ap, subst, arith}
use Rattle.std.specs.Prelude.{Bool, not}
use Rattle.std.specs.FinSet as set
use Rattle.std.specs.List.{AllByRecursion}
use Rattle.std.specs.Ordering.{nat_cmp}
use Rattle.std.specs.Cmp.{nat_cmp_total}
use Rattle.std.specs.FinSet.{nat_cmp-IsAntisymmetric}
use Rattle.std.proofs.lemmas.Bool.{eq-eqb}
use Rattle.std.proofs.lemmas.List.{length-map}
use Rattle.mon_window.specs.Top.{rising}
use Rattle.mon_window.specs.Window.{Samples, In}
use Rattle.mon_window.proofs.Promised.{from_list-rising, in_cons, in_drop, in_head, in_none, in_retain, in_tail, in_take}
use Rattle.mon_board.specs.Board.{is_marked, window_of}
use Rattle.mon_board.specs.Instance.{instances_of}
use Rattle.mon_board.specs.Owed.{owed_in}
use Rattle.mon_board.specs.declared.instance.Watched.{Watched}
use Rattle.mon_board.specs.Windows.{Has, paired, samples_of}
use Rattle.mon_board.specs.Watch.{Watch, IsWatch}
use Rattle.mon_exchange.specs.declared.claim.Claim.{Claim}
use Rattle.mon_exchange.specs.declared.claim.ClaimKind.{ClaimKind}
use Rattle.mon_exchange.specs.declared.claim.ClaimKind.TheVariants.{Offer, Confirm}
use Rattle.mon_exchange.specs.declared.sharing.Portion.{Portion}
use Rattle.mon_exchange.specs.Peers.{IsWatchedAs, peer_numbers}
use Rattle.mon_exchange.specs.Portions.{or_empty, pieces_by, portion, portions_from, portions_of, serial_after}
use Rattle.mon_station.specs.ReadEvent.{IsNumbered}
use Rattle.mon_station.specs.State.{State, owed_to, shared_in, shared_with}
use Rattle.mon_station.specs.Told.{confirms, instance_at, offers_from}
use Rattle.mon_station.specs.Verdict.{claim_pairs, slot_of}
use Rattle.mon_world.proofs.Instances.{number_of, one_number}

pub all_append : {A : Type 0} (P : A → Type 0) (xs ys : List A) → AllByRecursion P xs → AllByRecursion P ys → AllByRecursion P (xs ++ ys)
all_append P [] ys all more = more
all_append P (x ∷ xs) ys all more = (all.0, all_append P xs ys all.1 more)

pub all_map : {A : Type 0} (P Q : A → Type 0) (xs : List A) → ((x : A) → P x → Q x) → AllByRecursion P xs → AllByRecursion Q xs
all_map P Q [] f all = tt
all_map P Q (x ∷ xs) f all = (f x all.0, all_map P Q xs f all.1)

pub has_paired : (i k : ℕ) (samples : List ℕ) → In k (set.from_list {R = nat_cmp} samples) → Has (paired i samples) i k
has_paired i k [] h = h
has_paired i k (t ∷ samples) h =
    let same = eq-eqb i i refl in
    rw same (elim (in_cons k t samples h) [
      | inl e ↦ subst (λ u. In k (set.from_list {R = nat_cmp} (u ∷ samples_of i (paired i samples)))) e (in_head k (samples_of i (paired i samples)))
      | inr there ↦ in_tail k t (samples_of i (paired i samples)) (has_paired i k samples there)
    ])

-- ---- portions
-- what a portion holds is in the window of its instance, which is one of these
abbrev pub IsFrom : (ℕ → Samples) → ℕ → Portion → Type 0
IsFrom windows n p = (k : ℕ) → In k (set.from_list {R = nat_cmp} p.samples) → (p.instance < n) × In k (windows p.instance)

pieces_from : (windows : ℕ → Samples) (n i many : ℕ) (xs : List ℕ) → i < n → ((k : ℕ) → In k (set.from_list {R = nat_cmp} xs) → In k (windows i)) → AllByRecursion (IsFrom windows n) (map (portion i) (pieces_by many xs))
pieces_from windows n i zero xs lt from = tt
pieces_from windows n i (suc many) [] lt from = tt
pieces_from windows n i (suc many) (y ∷ ys) lt from = (
  (λ k h. (lt, from k (in_take 40 k (y ∷ ys) h))),
  pieces_from windows n i many (drop 40 (y ∷ ys)) lt (λ k h. from k (in_drop 40 k (y ∷ ys) h)),
)

owed_from : (windows : ℕ → Samples) (marked : ℕ → ℕ → Bool) (n i more : ℕ) → i + more ≤ n → AllByRecursion (IsFrom windows n) (portions_from (owed_in windows marked) i more)
owed_from windows marked n i zero le = tt
owed_from windows marked n i (suc more) le =
    let owed = owed_in windows marked in
    all_append (IsFrom windows n) (portions_of owed i) (portions_from owed (i + 1) more)
    (pieces_from windows n i (length (rising (owed i))) (rising (owed i)) (omega (arith, le))
    (λ k h. (in_retain (λ s. not (marked i s)) k (windows i) (subst (λ (a : Samples). In k a) (from_list-rising nat_cmp_total nat_cmp-IsAntisymmetric (owed i)) h)).0))
    (owed_from windows marked n (i + 1) more (omega (arith, le)))

or_empty_from : (windows : ℕ → Samples) (n : ℕ) (ps : List Portion) → AllByRecursion (IsFrom windows n) ps → AllByRecursion (IsFrom windows n) (or_empty ps)
or_empty_from windows n [] all = ((λ k h. absurd (in_none k h)), tt)
or_empty_from windows n (p ∷ ps) all = all

shared_from : (s : State) (slot : Option ℕ) → AllByRecursion (IsFrom (window_of s.board) (length s.board.watch.instances)) (shared_in s slot)
shared_from s None = tt
shared_from s (Some slot) =
    or_empty_from (window_of s.board) (length s.board.watch.instances) (portions_from (owed_to s slot) 0 (length s.board.watch.instances))
    (owed_from (window_of s.board) (is_marked s.board slot) (length s.board.watch.instances) 0 (length s.board.watch.instances) (omega arith))

-- ---- claims
module _ (watch : Watch) (are : IsWatch watch) (P : ℕ → ℕ → Type 0) (own incarnation : ℕ) where
  -- the claim is of this station in this incarnation, and P holds of each of its samples, by the
  -- number of its instance
  pub record Claims (c : Claim) : Type 0 where
    pub station : c.station ≡ own
    pub incarnation_is : c.incarnation ≡ incarnation
    pub samples : (i : ℕ) → IsWatchedAs watch c.engine c.name i → (k : ℕ) → In k (set.from_list {R = nat_cmp} c.samples) → P i k

  module _ (s : State) (same_watch : s.board.watch ≡ watch) (same_own : s.peers.own ≡ own) (same_incarnation : s.incarnation ≡ incarnation) where
    offer_claims : (windows : (i k : ℕ) → In k (window_of s.board i) → P i k) (serial : ℕ) (ps : List Portion)
        → AllByRecursion (IsFrom (window_of s.board) (length s.board.watch.instances)) ps → AllByRecursion Claims (offers_from s serial ps)
    offer_claims windows serial [] all = tt
    offer_claims windows serial (p ∷ ps) all = (
      record {
        station = same_own;
        incarnation_is = same_incarnation;
        samples = λ i watched k h.
            let from = all.0 k h in
            let lt : p.instance < length (instances_of watch.instances) = omega (arith, from.0, length-map watch.instances (λ (w : Watched). w.instance), ap (λ (v : Watch). length v.instances) same_watch) in
            let numbered : IsWatchedAs watch (instance_at s.board.watch p.instance).engine (instance_at s.board.watch p.instance).name p.instance =
            subst (λ (v : Watch). IsWatchedAs watch (instance_at v p.instance).engine (instance_at v p.instance).name p.instance) (sym same_watch) (number_of watch p.instance lt) in
            let same : p.instance ≡ i = one_number watch are (instance_at s.board.watch p.instance).engine (instance_at s.board.watch p.instance).name p.instance i numbered watched in
            subst (λ j. P j k) same (windows p.instance k from.1);
      },
      offer_claims windows (serial_after serial) ps all.1,
    )

    pub share_claims : (windows : (i k : ℕ) → In k (window_of s.board i) → P i k) (y : ℕ) → AllByRecursion Claims (offers_from s s.serial (shared_with s y))
    share_claims windows y = offer_claims windows s.serial (shared_with s y) (shared_from s (slot_of (peer_numbers s.peers.peers) y))

    pub confirm_claims : (c : Claim) (n : Option ℕ) → IsNumbered watch c n → ((i k : ℕ) → Has (claim_pairs n c.samples) i k → P i k) → (kind : ClaimKind) → AllByRecursion Claims (confirms s kind c)
    confirm_claims c n numbered pairs Confirm = tt
    confirm_claims c None numbered pairs Offer = (record { station = same_own; incarnation_is = same_incarnation; samples = λ i watched k h. absurd (numbered i watched) }, tt)
    confirm_claims c (Some n) numbered pairs Offer = (
      record {
        station = same_own;
        incarnation_is = same_incarnation;
        samples = λ i watched k h.
            let same : n ≡ i = one_number watch are c.engine c.name n i numbered watched in
            subst (λ j. P j k) same (pairs n k (has_paired n k c.samples h));
      },
      tt,
    )
