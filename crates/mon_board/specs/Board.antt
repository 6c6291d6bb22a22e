-- What a board holds.
use Rattle.std.specs.Prelude.{◌≡◌, ℕ, ◌<◌, List, [], Bool, length, map, slice_index_or, IsTrue}
use Rattle.std.specs.Prelude.{refl}
use Rattle.std.specs.FinSet as set
use Rattle.std.specs.Coded.{Coded, code_by, coded×, coded_ℕ, coded_list}
use Rattle.mon_sample.specs.contracts.sample.Sample as sample
use Rattle.mon_sample.specs.Key.{boots_of}
use Rattle.mon_window.specs.Keep.{keep}
use Rattle.mon_window.specs.Window.{Samples, Window, In}
use Rattle.mon_board.specs.contracts.watch.Watch as watch
use Rattle.mon_board.specs.Marks.{Marks, AreMarks, marked_in}
use Rattle.mon_board.specs.Owed.{kept_marks}
use Rattle.mon_board.specs.Watch.{Watch}

-- the watch, and of each of its instances the window and the marked samples with their bits
pub record Board : Type 0 where
  pub watch : Watch
  pub windows : List Samples
  pub marks : List (List (ℕ × ℕ))

-- a board as a pair
abbrev pub board_code : Coded Board
board_code =
    code_by (Watch × (List Samples × List (List (ℕ × ℕ))))
    (coded× (watch.the_row).coded (coded× (coded_list (set.code (sample.the_row).coded))
    (coded_list (coded_list (coded× coded_ℕ coded_ℕ)))))
    (λ b. (b.watch, (b.windows, b.marks))) (λ p. record {
      watch = p.0;
      windows = p.1.0;
      marks =
          p.1.1;
    }) (λ _. refl)

-- the window of the instance of this number; a number of no instance has an empty one
abbrev pub window_of : Board → ℕ → Samples
window_of b i = slice_index_or b.windows i set.empty

-- whether a sample of an instance is marked for a slot
abbrev pub is_marked : Board → ℕ → ℕ → ℕ → Bool
is_marked b slot i s = marked_in slot s (slice_index_or b.marks i [])

-- only samples in a window are marked
abbrev pub MarksEntries : Board → Type 0
MarksEntries b = (slot i s : ℕ) → IsTrue (is_marked b slot i s) → In s (window_of b i)

-- after samples were taken: for each slot an entry keeps its mark while it stays, and a new one has
-- none
abbrev pub KeepsMarks : Board → Board → Type 0
KeepsMarks old new = (slot : ℕ) → is_marked new slot ≡ kept_marks (window_of old) (window_of new)
    (is_marked old slot)

-- the lists of marks
abbrev pub marks_of : List Marks → List (List (ℕ × ℕ))
marks_of marks = map (λ m. m.items) marks

-- marks for each window, of n i samples at the place i
pub record AreAllMarks (n : ℕ → ℕ) (windows : List Samples) (marks : List Marks) : Type 0 where
  pub number : length marks ≡ length windows
  pub each : (i : ℕ) (d : Marks) → i < length windows → AreMarks (n i)
      (slice_index_or windows i set.empty) (slice_index_or marks i d)

-- the sets that windows hold
abbrev pub sets_of : List Window → List Samples
sets_of windows = map (λ w. w.items) windows

-- windows for n i samples, m i of one boots number, at each place i of this many; they hold no more
-- than they keep
pub record AreWindows (n m : ℕ → ℕ) (many : ℕ) (windows : List Window) : Type 0 where
  pub number : length windows ≡ many
  pub sized : (i : ℕ) (d : Window) → i < many → (slice_index_or windows i d).size ≡ n i
  pub epochs : (i : ℕ) (d : Window) → i < many → (slice_index_or windows i d).epoch ≡ m i
  pub whole : (i : ℕ) → keep boots_of (n i) (m i) (slice_index_or (sets_of windows) i set.empty)
      ≡ slice_index_or (sets_of windows) i set.empty
