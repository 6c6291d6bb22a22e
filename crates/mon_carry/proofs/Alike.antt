-- The laws of what is carried.
use Rattle.std.proofs.Common.{◌≡◌, ℕ, ◌<◌, ◌≤◌, ◌∷◌, get_or, Bool, true, false, cond, List, [], length, refl, sym, ap, subst, ◌∙◌, Option, Some, None, Contains, arith}
use Rattle.std.specs.Prelude.{slice_get, nat_lt}
use Rattle.std.specs.Cmp.{nat_cmp_total}
use Rattle.std.specs.FinSet as set
use Rattle.std.specs.FinSet.{nat_cmp-IsAntisymmetric}
use Rattle.std.specs.List.Sorted.{IsStrictlySortedBy}
use Rattle.std.proofs.lemmas.Bool.{lt-ltb, ltb-true}
use Rattle.std.proofs.lemmas.List.Elements.{Contains-get_or}
use Rattle.std.proofs.lemmas.Option.{get_or_from_slice_get, slice_get-get_or, slice_get_within}
use Rattle.mon_sample.specs.Key.{boots_of}
use Rattle.mon_window.specs.Keep.{keep, newest_each, with_boots}
use Rattle.mon_window.specs.Top.{above, top}
use Rattle.mon_window.specs.Window.{In, Samples}
use Rattle.mon_window.proofs.Promised.{in_retain, to_retain}
use Rattle.mon_board.specs.Board.{Board, window_of}
use Rattle.mon_board.specs.Instance.{instance_cmp, instances_of}
use Rattle.mon_board.specs.Watch.{Watch, epoch_of, size_of}
use Rattle.mon_board.specs.Windows.{IsWhole, kept_by}
use Rattle.mon_board.specs.declared.instance.Instance.{Instance}
use Rattle.mon_saved.specs.Image.{SpellsImage}
use Rattle.mon_saved.specs.Restored.{IsRestored}
use Rattle.mon_saved.specs.Written.{image_of, written_image}
use Rattle.mon_carry.specs.Carried.{carried_window, is_dropped, source_of, watched_at, window_at, window_there}
use Rattle.mon_carry.specs.Files.{FindsImage, IsBoardIn, IsFoundIn}
use Rattle.mon_carry.proofs.Places.{own_place}

-- the window that is carried to a place, from a place
from_place : (old : Board) (watch : Watch) (i j : ℕ) (x : Instance) → slice_get (instances_of watch.instances) i ≡ Some x → watched_at old.watch x ≡ Some j
    → carried_window old watch [] i ≡ kept_by watch i (window_of old j)
from_place old watch i j x is there =
    ap (λ (o : Option Instance). kept_by watch i (window_there old (source_of old [] o))) is
    ∙ ap (λ (o : Option ℕ). kept_by watch i (window_there old o)) there

pub same_watch : (old : Board) (i : ℕ) → IsStrictlySortedBy instance_cmp (instances_of old.watch.instances) → IsWhole old.watch (window_of old) i → i < length (instances_of old.watch.instances)
    → carried_window old old.watch [] i ≡ window_of old i
same_watch old i rising whole lt = at (slice_get (instances_of old.watch.instances) i) refl
  where
    all : List Instance
    all = instances_of old.watch.instances

    beyond : slice_get all i ≡ None → ⊥
    beyond none = not_beyond all i lt none
      where
        not_beyond : (xs : List Instance) (k : ℕ) → k < length xs → slice_get xs k ≡ None → ⊥
        not_beyond [] k lt none = omega (arith, lt)
        not_beyond (x ∷ xs) k lt none = absurd (let two : Some (get_or (x ∷ xs) k x) ≡ None = sym (slice_get-get_or (x ∷ xs) k x lt) ∙ none in cc)

    at : (o : Option Instance) → slice_get all i ≡ o → carried_window old old.watch [] i ≡ window_of old i
    at None is = absurd (beyond is)
    at (Some x) is = from_place old old.watch i i x is (own_place all rising x i is) ∙ whole

-- ---- larger sizes
same_sets : (a b : Samples) → ((s : ℕ) → In s a → In s b) → ((s : ℕ) → In s b → In s a) → a ≡ b
same_sets a b f g = set.same_set nat_cmp_total nat_cmp-IsAntisymmetric a b (λ q. both (set.contains a q) (set.contains b q) (f q) (g q))
  where
    both : (s t : Bool) → (s ≡ true → t ≡ true) → (t ≡ true → s ≡ true) → s ≡ t
    both true t f g = sym (f refl)
    both false true f g = g refl
    both false false f g = refl

-- the test of a sample's boots number
abbrev is_new : ℕ → Samples → ℕ → Bool
is_new m w s = nat_lt (set.len (above (with_boots boots_of (boots_of s) w) s)) m

in_newest : (n m : ℕ) (w : Samples) → keep boots_of n m w ≡ w → (s : ℕ) → In s w → is_new m w s ≡ true
unfolding keep newest_each top
in_newest n m w kept s there =
    let inner = in_retain _ s (newest_each boots_of m w) (subst (In s) (sym kept) there) in
    (in_retain (is_new m w) s w inner.0).1

all_newest : (m : ℕ) (w : Samples) → ((s : ℕ) → In s w → is_new m w s ≡ true) → newest_each boots_of m w ≡ w
unfolding newest_each
all_newest m w passes = same_sets (newest_each boots_of m w) w (λ s there. (in_retain (is_new m w) s w there).0) (λ s there. to_retain (is_new m w) s w there (passes s there))

module _ (top_all : (n : ℕ) (a : Samples) → set.len a ≤ n → top n a ≡ a) (few : (boots : ℕ → ℕ) (n m : ℕ) (a : Samples) → set.len (keep boots n m a) ≤ n) where
  kept_larger : (n m more most : ℕ) (w : Samples) → keep boots_of n m w ≡ w → n ≤ more → m ≤ most → keep boots_of more most w ≡ w
  unfolding keep
  kept_larger n m more most w kept le_n le_m =
      let passes : (s : ℕ) → In s w → is_new most w s ≡ true = λ s there.
      let less = ltb-true _ m (in_newest n m w kept s there) in lt-ltb _ most (omega (arith, less, le_m)) in
      let small : set.len w ≤ more = omega (arith, few boots_of n m w, ap (λ (a : Samples). set.len a) kept, le_n) in
      ap (top more) (all_newest most w passes) ∙ top_all more w small

  pub nothing_lost : (old : Board) (watch : Watch) (i j : ℕ) (x : Instance) → slice_get (instances_of watch.instances) i ≡ Some x
      → watched_at old.watch x ≡ Some j → IsWhole old.watch (window_of old) j → size_of old.watch j ≤ size_of watch i → epoch_of old.watch j ≤ epoch_of watch i
      → carried_window old watch [] i ≡ window_of old j
  nothing_lost old watch i j x is there whole sizes epochs =
      from_place old watch i j x is there
      ∙ kept_larger (size_of old.watch j) (epoch_of old.watch j) (size_of watch i) (epoch_of watch i) (window_of old j) whole sizes epochs

-- ---- boards of other instances
pub carry_alike : (a b : Board) (watch : Watch) (dropped : List (List ℕ)) → ((x : Instance) → Contains (instances_of watch.instances) x → window_at a x ≡ window_at b x)
    → (i : ℕ) → carried_window a watch dropped i ≡ carried_window b watch dropped i
carry_alike a b watch dropped alike i = at (slice_get all i) refl
  where
    all : List Instance
    all = instances_of watch.instances

    there : (x : Instance) → slice_get all i ≡ Some x → Contains all x
    there x is = subst (Contains all) (get_or_from_slice_get all i x x is) (Contains-get_or all i x (slice_get_within all i x is))

    given : (x : Instance) → window_at a x ≡ window_at b x → (t : Bool)
        → window_there a (cond t None (watched_at a.watch x)) ≡ window_there b (cond t None (watched_at b.watch x))
    given x same true = refl
    given x same false = same

    at : (o : Option Instance) → slice_get all i ≡ o → kept_by watch i (window_there a (source_of a dropped (slice_get all i))) ≡ kept_by watch i (window_there b (source_of b dropped (slice_get all i)))
    at None is = (λ j. kept_by watch i (window_there a (source_of a dropped (is j)))) ∙ sym (λ j. kept_by watch i (window_there b (source_of b dropped (is j))))
    at (Some x) is = (λ j. kept_by watch i (window_there a (source_of a dropped (is j))))
        ∙ ap (kept_by watch i) (given x (alike x (there x is)) (is_dropped dropped x.engine))
        ∙ sym (λ j. kept_by watch i (window_there b (source_of b dropped (is j))))

-- ---- files
pub found_again : ((board again : Board) (incarnation read : ℕ) → ((i : ℕ) → IsWhole board.watch (window_of board) i)
    → SpellsImage (written_image board incarnation) (instances_of board.watch.instances) (image_of board incarnation)
    → IsRestored board.watch (written_image board incarnation) again read → (read ≡ incarnation) × ((i : ℕ) → window_of again i ≡ window_of board i))
    → (board again : Board) (incarnation read : ℕ) (file : List ℕ) → ((i : ℕ) → IsWhole board.watch (window_of board) i)
    → FindsImage board incarnation file → IsFoundIn board.watch file again read → (read ≡ incarnation) × ((i : ℕ) → window_of again i ≡ window_of board i)
found_again back board again incarnation read file whole finds found =
    back board again incarnation read whole finds.spells (subst (λ (body : Option (List ℕ)). IsBoardIn board.watch body again read) finds.body.body_is found.held)
