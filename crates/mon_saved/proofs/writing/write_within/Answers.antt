use Rattle.std.proofs.Common.{refl}
use Rattle.mon_board.specs.Board.{window_of}
use Rattle.mon_saved.specs.Image.{Two}
use Rattle.mon_saved.proofs.Loops.{entries_length, entries_sized}
use Rattle.mon_saved.proofs.writing.write_within.Goals as goal

pub returns-clause-spells : goal.returns-clause-spells
returns-clause-spells c =
    let b = c.args.board.now in
    record {
      version = Two;
      spelled = refl;
      valid = record {
        version = tt;
        positive = c.requires.positive;
        fits = c.ranges.incarnation.fits;
        number = entries_length (window_of b) 0 b.watch.instances;
        entries = c.put_entries.ensures.valid;
        sizes = entries_sized (window_of b) 0 b.watch.instances;
      };
    }
