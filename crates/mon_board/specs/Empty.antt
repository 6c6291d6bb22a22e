-- What a board starts with.
use Rattle.std.specs.Prelude.{[]}
use Rattle.std.specs.FinSet as set
use Rattle.mon_window.specs.Window.{Window}
use Rattle.mon_board.specs.declared.instance.Watched.{Watched}
use Rattle.mon_board.specs.Marks.{Marks}

-- the empty window of an instance
abbrev pub empty_window_of : Watched → Window
empty_window_of w = record { size = w.window; epoch = w.epoch; items = set.empty }

-- no marks, with capacity for those of the instance's window
abbrev pub no_marks_of : Watched → Marks
no_marks_of w = record { room = w.window; items = [] }
