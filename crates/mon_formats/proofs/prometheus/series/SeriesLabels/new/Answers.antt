use Rattle.std.proofs.Common.{◌∙◌, sym, ap, map}
use Rattle.mon_board.specs.Instance.{named}
use Rattle.mon_formats.proofs.Series.{same_labels}
use Rattle.mon_formats.proofs.prometheus.series.SeriesLabels.new.Goals as goal

pub returns : goal.returns
returns g c =
    let shown = g.S.NameTexts.shown c.args.names.now in
    let given = c.args.given.now in
    let bare = c.as_slice.result.now in
    record {
      instances = c.in_ok-instances.ensures;
      labels = λ entries are.
          same_labels c.args.station shown given entries bare
          (are ∙ c.in_ok-instances.ensures ∙ sym c.in_ok-entries.ensures ∙ ap (map (λ e. named e.engine e.name)) (sym c.as_slice.ensures.value))
          ∙ c.in_ok-texts.ensures.texts.texts_are;
    }
