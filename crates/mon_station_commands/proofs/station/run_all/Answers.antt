use Rattle.std.proofs.Common.{◌∙◌, false, inl, inr, refl, suc, true}
use Rattle.mon_station_commands.proofs.Quiets.{still}
use Rattle.mon_station_commands.proofs.Rounding.{all_run_as, cut_at_once, cut_on, ended_by, from_zero, look_on, none_yet, one_more, one_on, stopped, within, within_less, within_one}
use Rattle.mon_station_commands.proofs.Steps.{failure_is}
use Rattle.mon_station_commands.proofs.station.run_all.Goals as goal

pub loop-number-init : goal.loop-number-init
loop-number-init g c =
    let words = c.args.words in
    let live = c.args.live.now in
    let after = c.start_pace.new.live in
    let paths = live.reports.paths in
    let first = live.kept in
    let start = g.H.Host.log c.args.host.now in (
      0,
      refl,
      inr refl,
      none_yet words live.reports.printing paths first c.date_settings.new.live.kept after.kept start (g.H.Host.log c.date_settings.new.host) (g.H.Host.log c.start_pace.new.host)
          c.start_pace.ensures.kept c.date_settings.ensures.kept c.date_settings.ensures.dated c.in_ok-pace.ensures.quiet,
      c.start_pace.ensures.printing ∙ (λ i. (c.date_settings.ensures.reports i).printing),
      c.start_pace.ensures.paths ∙ (λ i. (c.date_settings.ensures.reports i).paths),
    )

pub loop-number-preserved : goal.loop-number-preserved
loop-number-preserved g c =
    let words = c.args.words in
    let rounds = c.args.words.timing.rounds in
    let live = c.args.live.now in
    let first = live.kept in
    let start = g.H.Host.log c.args.host.now in
    let inv = c.loop-number.invariant in
    let n = inv.0 in
    let before = g.H.Host.log c.loop-number.host in
    let ran = g.H.Host.log c.run_round-in-loop-number.new.host in
    let told = g.H.Host.log c.print_due.new.host in
    let end = g.H.Host.log c.wait_for_next.new.host in
    let one = c.loop-number.live in
    let two = c.run_round-in-loop-number.new.live in
    let three = c.print_due.new.live in
    let four = c.wait_for_next.new.live in
    let looked = c.look_at_settings.new.live in
    let seen = g.H.Host.log c.look_at_settings.new.host in
    let same = c.look_at_settings.ensures.reports in
    let look = look_on words c.loop-number.number one.kept looked.kept c.look_at_settings.result false before seen c.if-look_at_settings.false
    c.look_at_settings.ensures.kept c.look_at_settings.ensures.looked in
    let print_at = (λ i. (same i).printing) ∙ inv.4 in
    let paths_at = (λ i. (same i).paths) ∙ inv.5 in
    let format = c.run_round-in-loop-number.ensures.printing ∙ print_at in
    let more = one_more words live.reports.printing live.reports.paths first n c.loop-number.number c.is_due.result looked.reports.printing two.reports.printing looked.reports.paths
    one.kept looked.kept two.kept three.kept four.kept c.in_ok-run_round.field-0 start before seen ran told end inv.1 print_at paths_at format
    c.wait_for_next.ensures.kept c.is_due.ensures inv.3 look c.in_ok-run_round.ensures.run c.print_due.ensures.run c.in_ok-pace-2.ensures.quiet in (
      suc n,
      one_on n c.loop-number.number inv.1,
      inl (within_one n c.loop-number.number rounds inv.1 c.loop-number-test.true),
      more,
      c.wait_for_next.ensures.printing ∙ (c.print_due.ensures.printing ∙ format),
      c.wait_for_next.ensures.paths ∙ (c.print_due.ensures.paths ∙ (c.run_round-in-loop-number.ensures.paths ∙ paths_at)),
    )

pub returns-then-look_at_settings-clause-run : goal.returns-then-look_at_settings-clause-run
returns-then-look_at_settings-clause-run g c =
    let words = c.args.words in
    let live = c.args.live.now in
    let start = g.H.Host.log c.args.host.now in
    let inv = c.loop-number.invariant in
    let one = c.loop-number.live in
    let before = g.H.Host.log c.loop-number.host in
    let looked = c.look_at_settings.new.live in
    let seen = g.H.Host.log c.look_at_settings.new.host in
    let same = c.look_at_settings.ensures.reports in
    let look = look_on words c.loop-number.number one.kept looked.kept c.look_at_settings.result true before seen c.if-look_at_settings.true
    c.look_at_settings.ensures.kept c.look_at_settings.ensures.looked in
    ended_by words live.reports.printing live.reports.paths live.kept inv.0 c.loop-number.number looked.reports.printing looked.reports.paths one.kept looked.kept
    c.run_round.new.live.kept c.run_round.result start before seen (g.H.Host.log c.run_round.new.host) inv.1 c.loop-number-test.true
    ((λ i. (same i).printing) ∙ inv.4) ((λ i. (same i).paths) ∙ inv.5) inv.3 look c.run_round.ensures.run

pub returns-in_err-run_round-clause-run : goal.returns-in_err-run_round-clause-run
returns-in_err-run_round-clause-run g c =
    let words = c.args.words in
    let rounds = c.args.words.timing.rounds in
    let live = c.args.live.now in
    let paths = live.reports.paths in
    let start = g.H.Host.log c.args.host.now in
    let inv = c.loop-number.invariant in
    let n = inv.0 in
    let one = c.loop-number.live in
    let two = c.run_round-in-loop-number.new.live in
    let before = g.H.Host.log c.loop-number.host in
    let ran = g.H.Host.log c.run_round-in-loop-number.new.host in
    let failure = c.in_err-run_round.field-0.0 in
    let r = c.from_residual-in_err-run_round.result in
    let looked = c.look_at_settings.new.live in
    let seen = g.H.Host.log c.look_at_settings.new.host in
    let look = look_on words c.loop-number.number one.kept looked.kept c.look_at_settings.result false before seen c.if-look_at_settings.false
    c.look_at_settings.ensures.kept c.look_at_settings.ensures.looked in
    stopped words live.reports.printing paths live.kept n one.kept two.kept failure r
    start before ran (failure_is r failure c.from_residual-in_err-run_round.ensures.1) (within n c.loop-number.number rounds inv.1 c.loop-number-test.true) inv.3
    (cut_on words live.reports.printing paths live.kept n c.loop-number.number one.kept looked.kept failure before seen ran inv.1 look c.in_err-run_round.ensures.run)

pub returns-in_err-pace-2-clause-run : goal.returns-in_err-pace-2-clause-run
returns-in_err-pace-2-clause-run g c =
    let words = c.args.words in
    let rounds = c.args.words.timing.rounds in
    let live = c.args.live.now in
    let paths = live.reports.paths in
    let first = live.kept in
    let start = g.H.Host.log c.args.host.now in
    let inv = c.loop-number.invariant in
    let n = inv.0 in
    let before = g.H.Host.log c.loop-number.host in
    let ran = g.H.Host.log c.run_round-in-loop-number.new.host in
    let told = g.H.Host.log c.print_due.new.host in
    let end = g.H.Host.log c.wait_for_next.new.host in
    let one = c.loop-number.live in
    let two = c.run_round-in-loop-number.new.live in
    let three = c.print_due.new.live in
    let four = c.wait_for_next.new.live in
    let looked = c.look_at_settings.new.live in
    let seen = g.H.Host.log c.look_at_settings.new.host in
    let same = c.look_at_settings.ensures.reports in
    let look = look_on words c.loop-number.number one.kept looked.kept c.look_at_settings.result false before seen c.if-look_at_settings.false
    c.look_at_settings.ensures.kept c.look_at_settings.ensures.looked in
    let print_at = (λ i. (same i).printing) ∙ inv.4 in
    let format = c.run_round-in-loop-number.ensures.printing ∙ print_at in
    let more = one_more words live.reports.printing live.reports.paths first n c.loop-number.number c.is_due.result looked.reports.printing two.reports.printing looked.reports.paths
    one.kept looked.kept two.kept three.kept three.kept c.in_ok-run_round.field-0 start before seen ran told told inv.1 print_at ((λ i. (same i).paths) ∙ inv.5) format
    refl c.is_due.ensures inv.3 look c.in_ok-run_round.ensures.run c.print_due.ensures.run (still told) in
    let failure = c.in_err-pace-2.field-0.0 in
    let r = c.from_residual-in_err-pace-2.result in
    stopped words live.reports.printing paths first (suc n) three.kept four.kept failure r start told end
    (failure_is r failure c.from_residual-in_err-pace-2.ensures.1) (within_less n c.loop-number.number rounds inv.1 c.loop-number-test.true) more
    (cut_at_once words live.reports.printing paths first (suc (suc n)) three.kept failure told end c.in_err-pace-2.ensures.quiet)

pub returns-clause-run : goal.returns-clause-run
returns-clause-run g c =
    let words = c.args.words in
    let rounds = c.args.words.timing.rounds in
    let live = c.args.live.now in
    let start = g.H.Host.log c.args.host.now in
    let inv = c.loop-number.invariant in
    let n = inv.0 in
    let one = c.loop-number.live in
    let two = c.run_last.new.live in
    let before = g.H.Host.log c.loop-number.host in
    let end = g.H.Host.log c.run_last.new.host in
    all_run_as words live.reports.printing live.reports.paths live.kept n c.loop-number.number one.reports.printing one.reports.paths
    one.kept two.kept c.run_last.result start before end inv.1 inv.2 c.loop-number-test.false inv.4 inv.5
    inv.3 c.run_last.ensures.run

pub returns-then-look_at_settings-clause-printing : goal.returns-then-look_at_settings-clause-printing
returns-then-look_at_settings-clause-printing g c = c.run_round.ensures.printing ∙ ((λ i. (c.look_at_settings.ensures.reports i).printing) ∙ c.loop-number.invariant.4)

pub returns-then-look_at_settings-clause-paths : goal.returns-then-look_at_settings-clause-paths
returns-then-look_at_settings-clause-paths g c = c.run_round.ensures.paths ∙ ((λ i. (c.look_at_settings.ensures.reports i).paths) ∙ c.loop-number.invariant.5)

pub returns-in_err-run_round-clause-printing : goal.returns-in_err-run_round-clause-printing
returns-in_err-run_round-clause-printing g c = c.run_round-in-loop-number.ensures.printing ∙ ((λ i. (c.look_at_settings.ensures.reports i).printing) ∙ c.loop-number.invariant.4)

pub returns-in_err-run_round-clause-paths : goal.returns-in_err-run_round-clause-paths
returns-in_err-run_round-clause-paths g c = c.run_round-in-loop-number.ensures.paths ∙ ((λ i. (c.look_at_settings.ensures.reports i).paths) ∙ c.loop-number.invariant.5)

pub returns-in_err-pace-2-clause-printing : goal.returns-in_err-pace-2-clause-printing
returns-in_err-pace-2-clause-printing g c = c.wait_for_next.ensures.printing ∙ (c.print_due.ensures.printing ∙ (c.run_round-in-loop-number.ensures.printing ∙ ((λ i. (c.look_at_settings.ensures.reports i).printing) ∙ c.loop-number.invariant.4)))

pub returns-clause-printing : goal.returns-clause-printing
returns-clause-printing g c = c.run_last.ensures.printing ∙ c.loop-number.invariant.4

pub returns-in_err-pace-2-clause-paths : goal.returns-in_err-pace-2-clause-paths
returns-in_err-pace-2-clause-paths g c = c.wait_for_next.ensures.paths ∙ (c.print_due.ensures.paths ∙ (c.run_round-in-loop-number.ensures.paths ∙ ((λ i. (c.look_at_settings.ensures.reports i).paths) ∙ c.loop-number.invariant.5)))

pub returns-clause-paths : goal.returns-clause-paths
returns-clause-paths g c = c.run_last.ensures.paths ∙ c.loop-number.invariant.5

pub returns-in_err-pace-clause-run : goal.returns-in_err-pace-clause-run
returns-in_err-pace-clause-run g c =
    let live = c.args.live.now in
    let after = c.start_pace.new.live in
    let first = live.kept in
    let words = c.args.words in
    let paths = live.reports.paths in
    let start = g.H.Host.log c.args.host.now in
    let failure = c.in_err-pace.field-0.0 in
    let r = c.from_residual.result in
    let dated = g.H.Host.log c.date_settings.new.host in
    let known = c.date_settings.new.live.kept in
    stopped words live.reports.printing paths first 0 known after.kept failure r start dated
    (g.H.Host.log c.start_pace.new.host) (failure_is r failure c.from_residual.ensures.1) (from_zero c.args.words.timing.rounds)
    (none_yet words live.reports.printing paths first known known start dated dated refl c.date_settings.ensures.kept c.date_settings.ensures.dated (still dated))
    (cut_at_once words live.reports.printing paths first 1 known failure dated (g.H.Host.log c.start_pace.new.host) c.in_err-pace.ensures.quiet)
