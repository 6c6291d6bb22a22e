use Rattle.mon_station.proofs.Mended.{is_mended, not_mended}
use Rattle.mon_station.proofs.mending.reopen_and_save.Goals as goal

pub returns-in-Ok-clause-save : goal.returns-in-Ok-clause-save
returns-in-Ok-clause-save g c = is_mended _ c.args.keeper.now c.reopen.new.self c.save_in_place.new.self c.in-Ok.ensures.reopen c.requires.fits c.save_in_place.result c.save_in_place.ensures.save c.save_in_place.ensures.fault

pub returns-in-Err-clause-save : goal.returns-in-Err-clause-save
returns-in-Err-clause-save g c = not_mended _ c.args.keeper.now c.reopen.new.self c.in-Err.fault c.in-Err.ensures.reopen
