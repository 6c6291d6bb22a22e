use Rattle.mon_settings.specs.Leaf.{texts_of}
use Rattle.std.proofs.Common.{◌≡◌, map, drop, option_map, ◌++◌, string_bytes}
use Rattle.toml.specs.View.{items_view}
use Rattle.mon_settings.proofs.modules.texts_of.Given as goal

-- what is left follows what was read
abbrev pub invariant-loop-value : goal.invariant-loop-value
invariant-loop-value l = texts_of (items_view l.values) ≡ option_map (λ rest. map string_bytes l.texts.items ++ rest) (texts_of (items_view (drop l.value-index l.values)))
