use Rattle.std.proofs.Common.{List, ap, arith, subst, sym, ◌∙◌}
use Rattle.std.proofs.lemmas.Grind.{common_steps}
use Rattle.mon_board.specs.declared.instance.Watched.{Watched}
use Rattle.toml.specs.View.{table_view}
use Rattle.mon_settings.specs.declared.station_tables.PeerRow.{PeerRow}
use Rattle.mon_settings.specs.declared.station_tables.TargetRow.{TargetRow}
use Rattle.mon_settings.specs.StationAccepted.{Scalars, core_from}
use Rattle.mon_settings.specs.Placing.{instances_of_rows}
use Rattle.mon_settings.specs.Resolving.{resolution}
use Rattle.mon_settings.specs.Station.{rules_at, scalars_view, station_of}
use Rattle.mon_config.specs.StationCore.{IsCore}
use Rattle.mon_settings.proofs.ForCores.{core_read}
use Rattle.mon_settings.proofs.station.read_tree.Goals as goal

pub core_from-requires-clause-core : goal.core_from-requires-clause-core
core_from-requires-clause-core c =
    let tree = table_view c.args.reader.now.table.now in
    let find = resolution c.args.names.now in
    let scalars : Scalars = scalars_view c.in-Ok-read_scalars.value in
    let targets = c.in-Ok-rows.value.items in
    let instances = c.in-Ok-instances_of.value.items in
    let peers = c.in-Ok-peers_at.value.items in
    let rules = c.in-Ok-rules_at.value.items in
    let read = core_read find tree scalars targets instances peers rules c.in-Ok-read_scalars.ensures.station c.in-Ok-read_scalars.ensures.gives c.in-Ok-rows.ensures
    (ap instances_of_rows (sym c.as_slice.ensures.value) ∙ c.in-Ok-instances_of.ensures.gives) c.in-Ok-peers_at.ensures.others
    (ap (λ (l : List Watched). rules_at find scalars.sizes l tree) (sym c.as_slice-3.ensures.value) ∙ c.in-Ok-rules_at.ensures) in
    subst (λ (l : List PeerRow). IsCore (core_from scalars.station c.as_slice-6.result.now l instances rules)) (sym c.as_slice-7.ensures.value)
    (subst (λ (l : List TargetRow). IsCore (core_from scalars.station l peers instances rules)) (sym c.as_slice-6.ensures.value) read)

pub returns : goal.returns
unfolding station_of
returns c = grind (arith, common_steps)
