use Rattle.mon_file_commands.proofs.saved.+read_saved.Given as goal

abbrev pub decreases-read_saved : goal.decreases-read_saved
decreases-read_saved g l = l.more
