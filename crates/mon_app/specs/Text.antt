-- How windows are printed.
use Rattle.std.specs.Prelude.{ℕ, List, ◌++◌, codes, decimal, length, sum_by}
use Rattle.std.specs.Fmt.{signed_decimal}
use Rattle.std.specs.Int.{w64, cast_signed}
use Rattle.std.specs.List.{flat_map}
use Rattle.hex.specs.Hex.{encode_lower}
use Rattle.mon_oid.specs.Oid.{dotted}
use Rattle.mon_sample.specs.declared.kind.Kind.{Kind}
use Rattle.mon_sample.specs.declared.kind.Kind.TheVariants.{Integer, Counter32, Gauge32, TimeTicks}
use Rattle.mon_sample.specs.declared.kind.Kind.TheVariants.{Counter64}
use Rattle.mon_sample.specs.Kind.{kind_name}
use Rattle.mon_sample.specs.Key.{boots_of, time_of, discontinuity_of, kind_of, sample_value}
use Rattle.mon_window.specs.Top.{rising}
use Rattle.mon_board.specs.declared.instance.Instance.{Instance}
use Rattle.mon_app.specs.declared.refusal.Refusal.{Refusal}
use Rattle.mon_app.specs.declared.table.Row.{Row}
use Rattle.mon_app.specs.Refusal.{number_of, name_of}

-- an Integer with its sign, which the 64 bits have
abbrev pub value_text : Kind → ℕ → List ℕ
value_text Integer n = signed_decimal (cast_signed w64 n)
value_text Counter32 n = decimal n
value_text Gauge32 n = decimal n
value_text TimeTicks n = decimal n
value_text Counter64 n = decimal n

-- two blanks, and boots, time, discontinuity, kind and value
unfoldable pub sample_line : ℕ → List ℕ
sample_line s =
    codes "  " ++ decimal (boots_of s) ++ codes " " ++ decimal (time_of s) ++ codes " "
    ++ decimal (discontinuity_of s) ++ codes " "
    ++ kind_name (kind_of s) ++ codes " " ++ value_text (kind_of s) (sample_value s) ++ codes "\n"

-- the engine id in hex digits, and the name
unfoldable pub instance_line : Instance → List ℕ
instance_line i = encode_lower i.engine ++ codes " " ++ dotted i.name ++ codes "\n"

-- an instance, and its samples from the least on
unfoldable pub row_text : Row → List ℕ
row_text r = instance_line r.instance ++ flat_map sample_line (rising r.window.items)

-- a refused line: its number, and the refusal with its number
unfoldable pub refused_line : ℕ → Refusal → List ℕ
refused_line k e = codes "line " ++ decimal k ++ codes ": refused " ++ decimal (number_of e)
    ++ codes " " ++ name_of e ++ codes "\n"

-- the counts of instances, samples and refused lines
unfoldable pub end_line : ℕ → ℕ → ℕ → List ℕ
end_line instances samples refused =
    codes "end " ++ decimal instances ++ codes " instances " ++ decimal samples ++ codes " samples "
    ++ decimal refused ++ codes " refused\n"

-- how many samples the rows hold
abbrev pub samples_in : List Row → ℕ
samples_in rows = sum_by (λ r. length (rising r.window.items)) rows
