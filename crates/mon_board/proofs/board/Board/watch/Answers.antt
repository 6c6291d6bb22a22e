use Rattle.std.proofs.Common.{subst}
use Rattle.mon_board.specs.Board.{MarksEntries}
use Rattle.mon_board.specs.Watch.{size_of}
use Rattle.mon_board.proofs.Marked.{entries_marked}
use Rattle.mon_board.proofs.board.Board.watch.Goals as goal

pub returns-clause-entries : goal.returns-clause-entries
returns-clause-entries c =
    subst MarksEntries c.self.view_is (entries_marked (size_of c.self.inside.watch) c.self.inside.windows.items c.self.inside.marks.items c.self.invariant.1)
