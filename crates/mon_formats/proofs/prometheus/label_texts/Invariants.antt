use Rattle.std.proofs.Common.{◌≡◌, map, take}
use Rattle.mon_page.specs.Labelled.{labelled}
use Rattle.mon_formats.specs.Prometheus.{instance_labels}
use Rattle.mon_formats.proofs.prometheus.label_texts.Given as goal

-- the texts of the instances so far
abbrev pub invariant-loop-place : goal.invariant-loop-place
invariant-loop-place g l = map (λ t. t.items) l.texts.items ≡ map (instance_labels l.station (g.S.NameTexts.shown l.names)) (take l.place (labelled l.labels l.entries))
