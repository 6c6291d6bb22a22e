-- The number that a counter's value means is written as the value.
use Rattle.std.proofs.Common.{◌≡◌, ℕ, true, refl}
use Rattle.std.specs.Prelude.{decimal}
use Rattle.std.specs.Fmt.{signed_decimal}
use Rattle.mon_sample.specs.Key.{kind_of, sample_value}
use Rattle.mon_sample.specs.Kind.{number_of}
use Rattle.mon_sample.specs.declared.kind.Kind.{Kind}
use Rattle.mon_sample.specs.declared.kind.Kind.TheVariants.{Integer, Counter32, Gauge32, TimeTicks, Counter64}
use Rattle.mon_rates.specs.Part.{is_counter}
use Rattle.mon_page.specs.Cells.{value_of}

counted : (kind : Kind) (value : ℕ) → is_counter kind ≡ true → signed_decimal (number_of kind value) ≡ decimal value
counted Integer value counter = absurd cc
counted Counter32 value counter = refl
counted Gauge32 value counter = absurd cc
counted TimeTicks value counter = absurd cc
counted Counter64 value counter = refl

pub of_counter : (sample : ℕ) → is_counter (kind_of sample) ≡ true → signed_decimal (value_of sample) ≡ decimal (sample_value sample)
of_counter sample counter = counted (kind_of sample) (sample_value sample) counter
