-- The names of formats, as arguments have them.
use Rattle.std.specs.Prelude.{ℕ, List, codes}
use Rattle.mon_formats.specs.declared.format.Format.{Format}
use Rattle.mon_formats.specs.declared.format.Format.TheVariants.{Text, Json, Prometheus}
use Rattle.mon_formats.specs.declared.format.Format.TheVariants.{OpenMetrics, Columns, Html}

-- the word that names a format
abbrev pub format_word : Format → List ℕ
format_word Text = codes "text"
format_word Json = codes "json"
format_word Prometheus = codes "prometheus"
format_word OpenMetrics = codes "openmetrics"
format_word Columns = codes "columns"
format_word Html = codes "html"
