use Rattle.clap.specs.Walk.{rows_of}
use Rattle.clap.specs.Matches.{found_of}
use Rattle.mon_cli.proofs.Commands.{command_allowed, command_there, is_command, none_allowed}
use Rattle.mon_cli.proofs.matches.read_command.Goals as goal

pub asked_by-requires-clause-allowed : goal.asked_by-requires-clause-allowed
asked_by-requires-clause-allowed c =
    command_allowed c.args.matches.now c.requires c.in-Some.name.now (rows_of (found_of c.in-Some.below.now)) c.in-Some.ensures.name c.in-Some.ensures.rows
    c.in-Some-from_word.choice c.in-Some-from_word.ensures.found

pub asked_by-requires-clause-there : goal.asked_by-requires-clause-there
asked_by-requires-clause-there c =
    command_there c.args.matches.now c.requires c.in-Some.name.now (rows_of (found_of c.in-Some.below.now)) c.in-Some.ensures.name c.in-Some.ensures.rows
    c.in-Some-from_word.choice c.in-Some-from_word.ensures.found

pub unreachable-requires : goal.unreachable-requires
unreachable-requires c =
    is_command c.args.matches.now c.requires c.in-Some.name.now (rows_of (found_of c.in-Some.below.now)) c.in-Some.ensures.name c.in-Some.ensures.rows
    c.in-None-from_word.ensures.none

pub replay-requires : goal.replay-requires
replay-requires c = none_allowed c.args.matches.now c.requires
