use Rattle.std.proofs.Common.{lit<}
use Rattle.std.proofs.lemmas.Str.Pattern.{strip_suffix_char}
use Rattle.mon_settings_commands.proofs.Percentages.{if_none, marked_none, unmarked_none}
use Rattle.mon_settings_commands.proofs.words.percentage.Goals as goal

pub returns-in-Some-clause-none : goal.returns-in-Some-clause-none
returns-in-Some-clause-none c =
    let front = rw c.in-Some.is at (strip_suffix_char 37 c.args.text.now c.strip_suffix.result c.strip_suffix.ensures.cases (lit< tt)) in
    if_none c.number_to_100.result (marked_none c.args.text.now _ front) c.number_to_100.ensures.none

pub returns-in-None-clause-none : goal.returns-in-None-clause-none
returns-in-None-clause-none c =
    let lacks = rw c.in-None.is at (strip_suffix_char 37 c.args.text.now c.strip_suffix.result c.strip_suffix.ensures.cases (lit< tt)) in
    if_none c.number_to_100-in-None.result (unmarked_none c.args.text.now lacks) c.number_to_100-in-None.ensures.none
