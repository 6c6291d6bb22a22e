use Rattle.std.proofs.Common.{◌∙◌, ◌++◌, ap, length}
use Rattle.mon_board.specs.Watch.{Watch}
use Rattle.mon_station_commands.specs.Limits.{interval_line, kept_lines, round_line, sample_lines, samples_of, target_lines, turn_lines}
use Rattle.mon_station_commands.proofs.Texts.{six_texts}
use Rattle.mon_station_commands.proofs.limits.limits.Goals as goal

pub returns : goal.returns
returns c =
    let time = c.round_time-time.ensures in
    let s = c.args.settings.now in
    let interval = c.args.interval in
    let instances = c.instances-instances.ensures.instances ∙ ap (λ (w : Watch). w.instances) c.watch.ensures.watch in
    let samples = c.samples_of-samples.ensures ∙ ap samples_of instances in
    six_texts _ _ _ _ _ _ _ _ _ _ _ _ _ c.new-text.ensures.bytes c.in_ok-put_round.ensures c.in_ok-put_interval.ensures c.in_ok-put_turns.ensures
    c.in_ok-put_samples.ensures c.in_ok-put_targets.ensures c.in_ok-put_kept.ensures
    ∙ (λ i. round_line (time.least i) (time.silent i) (time.most i) s.wait_ms ++ interval_line (time.most i) interval
    ++ turn_lines (time.silent i) interval (length (c.peers.ensures.peers i)) ++ sample_lines interval (length (c.peers-2.ensures.peers i)) ++ target_lines 1 (c.targets.ensures.targets i)
    ++ kept_lines (length (instances i)) (samples i) (c.deref.ensures i))
