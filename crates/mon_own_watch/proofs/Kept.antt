-- What a watch keeps of the samples of an image that names it: all.
use Rattle.std.proofs.Common.{◌≡◌, ℕ, zero, suc, ◌+◌, ◌<◌, List, [], ◌∷◌, ◌++◌, length, map, refl, sym, ap, subst, ◌∙◌, arith, inl}
use Rattle.std.specs.Prelude.{slice_index_or}
use Rattle.std.specs.Cmp.{nat_cmp_total}
use Rattle.std.specs.FinSet.{nat_cmp-IsAntisymmetric}
use Rattle.std.specs.FinSet as set
use Rattle.std.specs.List.{AllByRecursion}
use Rattle.std.specs.List.Sorted.{IsStrictlySortedBy}
use Rattle.std.specs.Ordering.{nat_cmp}
use Rattle.std.proofs.lemmas.Bool.{eq-eqb, ne_eqb}
use Rattle.std.proofs.lemmas.List.{append-nil, length-map}
use Rattle.std.proofs.lemmas.List.Elements.{All-from_recursion, recursion_from_All}
use Rattle.mon_sample.specs.Key.{boots_of}
use Rattle.mon_window.specs.Keep.{keep}
use Rattle.mon_window.specs.Leaving.{Fits}
use Rattle.mon_window.specs.Window.{Samples}
use Rattle.mon_window.proofs.Leaving.{keep-fits}
use Rattle.mon_board.specs.Board.{Board, window_of}
use Rattle.mon_board.specs.declared.instance.Instance.{Instance}
use Rattle.mon_board.specs.declared.instance.Watched.{Watched}
use Rattle.mon_board.specs.Instance.{AreInstances, IsEngine, instance_cmp, instances_of}
use Rattle.mon_board.specs.Watch.{IsWatch, Watch, epoch_of, size_of}
use Rattle.mon_board.specs.Windows.{paired, samples_of, set_of, window}
use Rattle.mon_saved.specs.declared.fault.ImageFault.{ImageFault}
use Rattle.mon_saved.specs.declared.fault.ImageFault.TheVariants.{OutOfMemory}
use Rattle.mon_saved.specs.declared.image.Entry.{Entry}
use Rattle.mon_saved.specs.declared.image.Image.{Image}
use Rattle.mon_saved.specs.Image.{IsEntry, SpellsImage}
use Rattle.mon_saved.specs.Restored.{IsRestored, pairs_from, saved_pairs}
use Rattle.mon_saved.specs.Written.{entries_from, image_of, written_image}
use Rattle.mon_own_watch.specs.Named.{IsUnnamed}
use Rattle.mon_own_watch.specs.Own.{HasName, IsOwnBoard, NamesWatch, all_by, bare, bare_watch}

own_samples : (i : ℕ) (xs : List ℕ) (rest : List (ℕ × ℕ)) → samples_of i (paired i xs ++ rest) ≡ xs ++ samples_of i rest
own_samples i [] rest = refl
own_samples i (x ∷ xs) rest = rw (eq-eqb i i refl) (ap (λ (v : List ℕ). x ∷ v) (own_samples i xs rest))

other_samples : (i k : ℕ) (xs : List ℕ) (rest : List (ℕ × ℕ)) → (k ≡ i → ⊥) → samples_of i (paired k xs ++ rest) ≡ samples_of i rest
other_samples i k [] rest differ = refl
other_samples i k (x ∷ xs) rest differ = rw (ne_eqb k i differ) (other_samples i k xs rest differ)

before_all : (i k : ℕ) (entries : List Entry) → i < k → samples_of i (pairs_from k entries) ≡ []
before_all i k [] lt = refl
before_all i k (e ∷ entries) lt =
    other_samples i k e.samples (pairs_from (k + 1) entries) (λ same. omega (arith, same, lt)) ∙ before_all i (k + 1) entries (omega (arith, lt))

-- the sizes of the entry at a place
abbrev window_at : List Watched → ℕ → ℕ
window_at ws j = slice_index_or (map (λ (w : Watched). w.window) ws) j 0

abbrev epoch_at : List Watched → ℕ → ℕ
epoch_at ws j = slice_index_or (map (λ (w : Watched). w.epoch) ws) j 0

-- samples that fit sizes rise, and no size is too small for them
pub record AreFitting (size epoch : ℕ) (samples : List ℕ) : Type 0 where
  pub rising : IsStrictlySortedBy nat_cmp samples
  pub fits : Fits boots_of size epoch samples

none_fit : (size epoch : ℕ) → AreFitting size epoch []
unfolding IsStrictlySortedBy
none_fit size epoch = record { rising = tt; fits = record { few = omega arith; epochs = λ e. omega arith } }

entry_fits : (e : Entry) → IsEntry e → AreFitting e.window e.epoch e.samples
entry_fits e is = record { rising = is.samples.rising; fits = record { few = is.few; epochs = is.epochs } }

-- of each instance the image's samples fit
all_fit : (k j : ℕ) (instances : List Instance) (es : List Entry) → length es ≡ length instances → AllByRecursion IsEntry es
    → AreFitting (window_at (all_by instances es) j) (epoch_at (all_by instances es) j) (samples_of (k + j) (pairs_from k es))
all_fit k j [] [] same are = none_fit (window_at [] j) (epoch_at [] j)
all_fit k j [] (e ∷ es) same are = absurd (omega (arith, same))
all_fit k j (i ∷ instances) [] same are = absurd (omega (arith, same))
all_fit k zero (i ∷ instances) (e ∷ es) same are =
    let here : k ≡ k + 0 = omega arith in
    let own : e.samples ≡ samples_of (k + 0) (pairs_from k (e ∷ es)) =
    sym (append-nil e.samples) ∙ ap (λ (v : List ℕ). e.samples ++ v) (sym (before_all k (k + 1) es (omega arith))) ∙ sym (own_samples k e.samples (pairs_from (k + 1) es))
    ∙ ap (λ (n : ℕ). samples_of n (pairs_from k (e ∷ es))) here in
    subst (λ (v : List ℕ). AreFitting e.window e.epoch v) own (entry_fits e are.0)
all_fit k (suc j) (i ∷ instances) (e ∷ es) same are =
    let next : k + 1 + j ≡ k + suc j = omega arith in
    let others = all_fit (k + 1) j instances es (omega (arith, same)) are.1 in
    let skipped : samples_of (k + 1 + j) (pairs_from (k + 1) es) ≡ samples_of (k + suc j) (pairs_from k (e ∷ es)) =
    ap (λ (n : ℕ). samples_of n (pairs_from (k + 1) es)) next ∙ sym (other_samples (k + suc j) k e.samples (pairs_from (k + 1) es) (λ is. omega (arith, is))) in
    subst (λ (v : List ℕ). AreFitting (window_at (all_by instances es) j) (epoch_at (all_by instances es) j) v) skipped others

fitting_kept : (size epoch : ℕ) (samples : List ℕ) → AreFitting size epoch samples → keep boots_of size epoch (set.from_list {R = nat_cmp} samples) ≡ set.from_list samples
fitting_kept size epoch samples are = keep-fits nat_cmp_total nat_cmp-IsAntisymmetric boots_of size epoch samples are.rising are.fits

module _ (one_image : (octets : List ℕ) (instances : List Instance) (a b : Image) → SpellsImage octets instances a → SpellsImage octets instances b → a ≡ b) where
  pub all_kept : (octets : List ℕ) (watch : Watch) (image : Image) → NamesWatch octets watch → SpellsImage octets (instances_of watch.instances) image
      → (i : ℕ) → window watch (saved_pairs image) i ≡ set_of i (saved_pairs image)
  all_kept octets watch image is spelled i =
      let instances = instances_of watch.instances in
      let same = one_image octets instances is.image image is.spelled spelled in
      let own : watch.instances ≡ all_by instances image.entries = is.watched ∙ ap (λ (m : Image). all_by instances m.entries) same in
      let fit = all_fit 0 i instances image.entries spelled.valid.number spelled.valid.entries in
      let none : 0 + i ≡ i = omega arith in
      let here = subst (λ (n : ℕ). AreFitting (window_at (all_by instances image.entries) i) (epoch_at (all_by instances image.entries) i) (samples_of n (pairs_from 0 image.entries))) none fit in
      fitting_kept (size_of watch i) (epoch_of watch i) (samples_of i (saved_pairs image))
      (subst (λ (ws : List Watched). AreFitting (window_at ws i) (epoch_at ws i) (samples_of i (saved_pairs image))) (sym own) here)

  pub all_restored : (octets : List ℕ) (watch : Watch) (board : Board) (incarnation : ℕ) → NamesWatch octets watch → (read : IsRestored watch octets board incarnation)
      → (i : ℕ) → window_of board i ≡ set_of i (saved_pairs read.image)
  all_restored octets watch board incarnation is read i = read.windows i ∙ all_kept octets watch read.image is read.spelled i

-- ---- a board by its own watch
-- what is restored by the own watch is the own board
pub own_restored : (octets : List ℕ) (watch : Watch) (board : Board) (incarnation : ℕ)
    → ((read : IsRestored watch octets board incarnation) → (i : ℕ) → window_of board i ≡ set_of i (saved_pairs read.image))
    → NamesWatch octets watch → IsRestored watch octets board incarnation → IsOwnBoard octets board
own_restored octets watch board incarnation all is read = record {
  watch = subst (λ (w : Watch). NamesWatch octets w) (sym read.watch_is) is;
  image = read.image;
  spelled = subst (λ (w : Watch). SpellsImage octets (instances_of w.instances) read.image) (sym read.watch_is) read.spelled;
  windows = all read;
  unmarked = read.unmarked;
}

-- a fault for memory is one of an image that names no watch
pub memory_unnamed : (octets : List ℕ) (e : ImageFault) → e ≡ OutOfMemory → IsUnnamed octets e
memory_unnamed octets e is = subst (λ (f : ImageFault). IsUnnamed octets f) (sym is) (inl tt)

-- ---- what is written
same_instances : (ws : List Watched) → instances_of (map bare ws) ≡ instances_of ws
same_instances [] = refl
same_instances (w ∷ ws) = ap (λ (v : List Instance). w.instance ∷ v) (same_instances ws)

same_entries : (windows : ℕ → Samples) (i : ℕ) (ws : List Watched) → map bare ws ≡ all_by (instances_of ws) (entries_from windows i ws)
same_entries windows i [] = refl
same_entries windows i (w ∷ ws) = ap (λ (v : List Watched). bare w ∷ v) (same_entries windows (i + 1) ws)

same_names : (ws : List Watched) → AllByRecursion HasName ws → AllByRecursion HasName (map bare ws)
same_names [] names = tt
same_names (w ∷ ws) names = (names.0, same_names ws names.1)

same_engines : (ws : List Watched) → AllByRecursion (λ (w : Watched). IsEngine w.instance.engine) ws → AllByRecursion (λ (w : Watched). IsEngine w.instance.engine) (map bare ws)
same_engines [] engines = tt
same_engines (w ∷ ws) engines = (engines.0, same_engines ws engines.1)

same_listed : (ws : List Watched) → AreInstances ws → AreInstances (map bare ws)
same_listed ws are =
    let count : length (map bare ws) ≡ length ws = length-map ws bare in
    record {
      some = omega (arith, count, are.some);
      few = omega (arith, count, are.few);
      engines = All-from_recursion (λ (w : Watched). IsEngine w.instance.engine) (map bare ws) (same_engines ws (recursion_from_All (λ (w : Watched). IsEngine w.instance.engine) ws are.engines));
      rising = subst (λ (v : List Instance). IsStrictlySortedBy instance_cmp v) (sym (same_instances ws)) are.rising;
    }

pub is_written : (board : Board) (incarnation : ℕ) → IsWatch board.watch → AllByRecursion HasName board.watch.instances
    → SpellsImage (written_image board incarnation) (instances_of board.watch.instances) (image_of board incarnation) → NamesWatch (written_image board incarnation) (bare_watch board.watch)
is_written board incarnation valid names spelled =
    let ws = board.watch.instances in
    let same = same_instances ws in
    let entries = entries_from (window_of board) 0 ws in
    record {
      image = image_of board incarnation;
      spelled = subst (λ (v : List Instance). SpellsImage (written_image board incarnation) v (image_of board incarnation)) (sym same) spelled;
      watched = same_entries (window_of board) 0 ws ∙ ap (λ (v : List Instance). all_by v entries) (sym same);
      names = same_names ws names;
      listed = same_listed ws valid.listed;
      unruled = refl;
    }
