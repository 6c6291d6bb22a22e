use Rattle.std.proofs.Common.{◌≡◌, ◌*◌, length, take}
use Rattle.std.specs.List.{AllByRecursion}
use Rattle.mon_sample.specs.Key.{IsSample}
use Rattle.mon_fields.specs.Layout.{samples_octets}
use Rattle.mon_fields.proofs.writing.write_records.Given as goal

-- the octets so far are the records of the samples so far
abbrev pub invariant-loop-sample : goal.invariant-loop-sample
invariant-loop-sample l = record {
  at : l.at ≡ 21 * l.sample-index;
  len : length l.octets ≡ 21 * length l.samples;
  front : take l.at l.octets ≡ samples_octets (take l.sample-index l.samples);
  samples : AllByRecursion IsSample (take l.sample-index l.samples);
}
