use Rattle.std.proofs.Common.{◌≡◌, ◌++◌, drop, false, option_map}
use Rattle.serde_json.specs.Data.{array}
use Rattle.serde_json.specs.View.{items_of}
use Rattle.serde_json.specs.Written.{items_text}
use Rattle.mon_formats.specs.Json.{entries_data}
use Rattle.mon_formats.specs.Sound.{IsSound}
use Rattle.mon_formats.proofs.as_json.put_instances.Given as goal

-- with the instances that are left, the text and what is sound are those of all
abbrev pub invariant-loop-place : goal.invariant-loop-place
invariant-loop-place g l = record {
  text : l.text.items ++ items_text l.later (items_of (entries_data (g.S.NameTexts.shown l.names) (option_map (λ f. f.now) l.station) l.place (drop l.place l.entries)))
      ≡ l.initial.text.items ++ items_text false (items_of (entries_data (g.S.NameTexts.shown l.names) (option_map (λ f. f.now) l.station) 0 l.entries));
  sound : IsSound (array (items_of (entries_data (g.S.NameTexts.shown l.names) (option_map (λ f. f.now) l.station) l.place (drop l.place l.entries))))
      → IsSound (array (items_of (entries_data (g.S.NameTexts.shown l.names) (option_map (λ f. f.now) l.station) 0 l.entries)));
}
