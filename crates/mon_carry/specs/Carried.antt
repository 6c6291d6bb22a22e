-- What a new watch keeps of the windows of an old board.
use Rattle.std.specs.Prelude.{ℕ, ◌+◌, Bool, List, [], ◌∷◌, length, if◌then◌else◌}
use Rattle.std.specs.Prelude.{suc, zero, nat_eq, slice_get, Option, Some, None, option_map}
use Rattle.std.specs.Cmp.Lexicographic.{pointwise}
use Rattle.std.specs.FinSet as set
use Rattle.std.specs.List.{filter, list_any}
use Rattle.std.specs.Option.{is_none, is_some}
use Rattle.std.specs.Ordering.{eq_by_cmp}
use Rattle.mon_window.specs.Top.{rising}
use Rattle.mon_window.specs.Window.{Samples}
use Rattle.mon_board.specs.Board.{Board, window_of}
use Rattle.mon_board.specs.Instance.{instance_cmp, instances_of}
use Rattle.mon_board.specs.Watch.{Watch}
use Rattle.mon_board.specs.Windows.{kept_by}
use Rattle.mon_board.specs.declared.instance.Instance.{Instance}

-- the place of an instance in a list, if it is in it
abbrev pub place_of : Instance → List Instance → Option ℕ
place_of x [] = None
place_of x (y ∷ ys) = if eq_by_cmp instance_cmp x y then Some 0 else option_map suc (place_of x ys)

-- the place of an instance among those that a watch names
abbrev pub watched_at : Watch → Instance → Option ℕ
watched_at watch x = place_of x (instances_of watch.instances)

-- the window at a place of a board; at no place an empty one
abbrev pub window_there : Board → Option ℕ → Samples
window_there board None = set.empty
window_there board (Some i) = window_of board i

-- the window of an instance, which is named by its engine and its name; of one that is not watched,
-- an empty one
abbrev pub window_at : Board → Instance → Samples
window_at board x = window_there board (watched_at board.watch x)

-- the engine is one of which nothing is carried
abbrev pub is_dropped : List (List ℕ) → List ℕ → Bool
is_dropped dropped engine = list_any (λ d. pointwise nat_eq d engine) dropped

-- the place in the old board of the window that an instance is given: none if its engine is
-- dropped, or if the old watch does not name it
abbrev pub source_of : Board → List (List ℕ) → Option Instance → Option ℕ
source_of old dropped None = None
source_of old dropped (Some x) =
    if is_dropped dropped x.engine then None else watched_at old.watch x

-- the windows of the new watch, by place: what it keeps of the old window of the instance that it
-- has there
abbrev pub carried_window : Board → Watch → List (List ℕ) → ℕ → Samples
carried_window old watch dropped i =
    kept_by watch i (window_there old
    (source_of old dropped (slice_get (instances_of watch.instances) i)))

-- how many instances of a watch the other board does not have, or are of a dropped engine
abbrev pub apart_count : Watch → Board → List (List ℕ) → ℕ
apart_count watch other dropped =
    length (filter (λ w. is_none (source_of other dropped (Some w.instance))) watch.instances)

-- how many instances of the new watch are given an old window
abbrev pub carried_count : Board → Watch → List (List ℕ) → ℕ
carried_count old watch dropped =
    length (filter (λ w. is_some (source_of old dropped (Some w.instance))) watch.instances)

-- how many samples the windows of the first n places have
abbrev pub samples_before : (ℕ → Samples) → ℕ → ℕ
samples_before windows zero = 0
samples_before windows (suc n) = samples_before windows n + length (rising (windows n))
