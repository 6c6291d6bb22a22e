use Rattle.std.proofs.Common.{◌≡◌, ◌++◌, codes, drop, false, map}
use Rattle.serde_json.specs.Data.{array}
use Rattle.serde_json.specs.View.{items_of}
use Rattle.serde_json.specs.Written.{items_text}
use Rattle.mon_formats.specs.Json.{sample_data}
use Rattle.mon_formats.specs.Sound.{IsSound}
use Rattle.mon_formats.proofs.as_json.put_samples.Given as goal

-- with the samples that are left, the text and what is sound are those of all
abbrev pub invariant-loop-sample : goal.invariant-loop-sample
invariant-loop-sample l = record {
  text : l.text.items ++ items_text l.later (items_of (map sample_data (drop l.sample-index l.samples)))
      ≡ l.fn.text.items ++ (codes ",\"samples\":[" ++ items_text false (items_of (map sample_data l.samples)));
  sound : IsSound (array (items_of (map sample_data (drop l.sample-index l.samples)))) → IsSound (array (items_of (map sample_data l.samples)));
}
