-- The plot of a window: a path of 240 by 40 units through what was observed at each sample, the
-- newest at the right edge. How far samples are apart is by the agent's clock.
use Rattle.std.specs.Prelude.{
  ℕ,
  ℤ,
  pos,
  nat_abs,
  int_lt,
  int_div,
  ◌+ℤ◌,
  ◌+◌,
  ◌-◌,
  ◌*◌,
  ◌/◌,
  ◌%◌,
  ◌^◌,
  min,
  max,
  nat_lt,
  Bool,
  false,
  not,
  ◌&&◌,
  ◌==◌,
  List,
  [],
  ◌∷◌,
  ◌++◌,
  Option,
  Some,
  None,
  codes,
  decimal,
  length,
  slice_get,
  if◌then◌else◌,
}
use Rattle.mon_sample.specs.Key.{boots_of, discontinuity_of, kind_of, sample_value, time_of}
use Rattle.mon_rates.specs.Part.{is_counter}
use Rattle.mon_rates.specs.Totals.{between as part_between, thousandths}
use Rattle.std.specs.List.{flat_map}
use Rattle.mon_alarms.specs.Rule.{Rule}
use Rattle.mon_display.specs.Interface.{column_of}
use Rattle.mon_display.specs.declared.interface.Column.{Column}
use Rattle.mon_page.specs.Cells.{newest_of}
use Rattle.mon_page.specs.declared.plot.Frame.{Frame}
use Rattle.mon_page.specs.declared.plot.Scale.{Scale}
use Rattle.mon_page.specs.declared.plot.Spot.{Spot}
use Rattle.mon_page.specs.Between.{between}
use Rattle.mon_page.specs.Rows.{Row}
use Rattle.mon_page.specs.Words.{is_counted, level_words, now_words}

-- ---- levels
-- a counter's rate from the sample before, in thousandths, if there is one
abbrev pub rate_after : Option ℕ → ℕ → Option ℕ
rate_after None x = None
rate_after (Some a) x = thousandths (part_between a x)

-- what is plotted of a sample: of a counter its rate, else its value, moved up so that none is
-- below 0
abbrev pub level : Option ℕ → ℕ → Option ℕ
level before x = if is_counter (kind_of x) then rate_after before x
    else Some ((sample_value x + 2 ^ 63) % 2 ^ 64)

-- the sample before a place
abbrev pub before_at : ℕ → List ℕ → Option ℕ
before_at place items = if place == 0 then None else slice_get items (place - 1)

-- the lowest and the highest level
abbrev pub widened : Scale → Option ℕ → Scale
widened s None = s
widened s (Some n) = record { low = min s.low n; high = max s.high n }

-- those of the samples from a place on, and of what came before
abbrev pub scale_from : List ℕ → Scale → ℕ → List ℕ → Scale
scale_from items s place [] = s
scale_from items s place (x ∷ xs) = scale_from items (widened s (level (before_at place items) x))
    (place + 1) xs

-- the scale of no sample: of a counter it begins at 0
abbrev pub no_scale : Bool → Scale
no_scale counted = record { low = if counted then 0 else 2 ^ 128 - 1; high = 0 }

-- that of all samples
abbrev pub scale_of : Bool → List ℕ → Scale
scale_of counted items = scale_from items (no_scale counted) 0 items

-- ---- places
-- how many seconds a sample is after the one before: by the difference of the agent's time, and
-- after other boots by its time
abbrev pub distance : Option ℕ → ℕ → ℕ
distance None x = 0
distance (Some a) x = if boots_of a == boots_of x then time_of x - time_of a else time_of x

-- seconds and seconds more; of more than 2^63 seconds those of 2^63
abbrev pub later : ℕ → ℕ → ℕ
later elapsed seconds = min elapsed (2 ^ 63) + seconds

-- how many seconds after the first sample the last one is
abbrev pub span_from : List ℕ → ℕ → ℕ → List ℕ → ℕ
span_from items elapsed place [] = elapsed
span_from items elapsed place (x ∷ xs) = span_from items (later elapsed
    (distance (before_at place items) x)) (place + 1) xs

-- that of all samples
abbrev pub span_of : List ℕ → ℕ
span_of items = span_from items 0 0 items

-- how far from the left a sample is that is this many seconds after the first: the newest is at 240
abbrev pub across : ℕ → ℕ → ℕ
across span elapsed = 240 - min ((span - elapsed) * 240 / max span 1) 240

-- how far from the top a level is
abbrev pub below_top : Scale → ℕ → ℕ
below_top s n = 40 - min (min (n - s.low) (2 ^ 100) * 40 / max (s.high - s.low) 1) 40

-- the point of a sample, if something is plotted of it
abbrev pub spot_of : Frame → ℕ → Option ℕ → Option Spot
spot_of f elapsed None = None
spot_of f elapsed (Some n) = Some (record { x = across f.span elapsed; y = below_top f.scale n })

-- ---- lines
-- rounds were missed: the distance is more than twice the mean of all
abbrev pub is_missed : Frame → ℕ → Bool
is_missed f seconds = nat_lt (2 * f.span) (seconds * f.pairs)

-- a line goes on from the sample before: neither the agent's boots nor the discontinuity value
-- changed, and no rounds were missed
abbrev pub joins : Frame → Option ℕ → ℕ → Bool
joins f None x = false
joins f (Some a) x = (boots_of a == boots_of x) && ((discontinuity_of a == discontinuity_of x)
    && not (is_missed f (distance (Some a) x)))

-- where a line goes on from
abbrev pub start_of : Frame → Option ℕ → ℕ → Option Spot → Option Spot
start_of f before x spot = if joins f before x then spot else None

-- how far down a line goes, or up
abbrev pub down_text : ℕ → ℕ → List ℕ
down_text y down = if nat_lt down y then codes "-" ++ decimal (y - down)
    else codes " " ++ decimal (down - y)

-- a line from one point to another
unfoldable pub line_text : Spot → Spot → List ℕ
line_text a b = codes "l" ++ decimal (b.x - a.x) ++ down_text a.y b.y

-- a dot
unfoldable pub dot_text : Spot → List ℕ
dot_text b = codes "M" ++ decimal b.x ++ codes " " ++ decimal b.y ++ codes "h0"

-- a line to a point, or a dot there; nothing if nothing is plotted
abbrev pub stroke_text : Option Spot → Option Spot → List ℕ
stroke_text start None = []
stroke_text None (Some b) = dot_text b
stroke_text (Some a) (Some b) = line_text a b

-- the strokes of the samples from a place on
abbrev pub points_from : List ℕ → Frame → Option Spot → ℕ → ℕ → List ℕ → List ℕ
points_from items f spot elapsed place [] = []
points_from items f spot elapsed place (x ∷ xs) =
    stroke_text (start_of f (before_at place items) x spot) (spot_of f
    (later elapsed (distance (before_at place items) x)) (level (before_at place items) x))
    ++ points_from items f (spot_of f (later elapsed (distance (before_at place items) x))
    (level (before_at place items) x))
    (later elapsed (distance (before_at place items) x)) (place + 1) xs

-- ---- thresholds
-- a threshold in thousandths as a level: of a counter a rate, else a value, moved up as values are
abbrev pub limit_level : Bool → ℤ → ℕ
limit_level counted t = if counted then (if int_lt t (pos 0) then 0 else nat_abs t)
    else nat_abs (int_div t (pos 1000) +ℤ pos (2 ^ 63))

-- the scale with the thresholds of a rule
abbrev pub with_rule : Bool → Scale → Rule → Scale
with_rule counted s rule = widened (widened s (Some (limit_level counted rule.rising)))
    (Some (limit_level counted rule.falling))

-- the scale with the thresholds of all rules
abbrev pub with_rules : Bool → Scale → List Rule → Scale
with_rules counted s [] = s
with_rules counted s (rule ∷ rules) = with_rules counted (with_rule counted s rule) rules

-- a line across the plot
unfoldable pub limit_line : Scale → ℕ → List ℕ
limit_line s n = between (codes "M0 ") (decimal (below_top s n)) (codes "h240")

-- the lines of a rule
unfoldable pub rule_lines : Bool → Scale → Rule → List ℕ
rule_lines counted s rule = limit_line s (limit_level counted rule.rising)
    ++ limit_line s (limit_level counted rule.falling)

-- the path of the thresholds
unfoldable pub limit_path : Bool → Scale → List Rule → List ℕ
limit_path counted s rules = codes "<path class=\"limit\" d=\""
    ++ flat_map (rule_lines counted s) rules ++ codes "\"/>"

-- that path, if there are rules
abbrev pub limits_text : Bool → Scale → List Rule → List ℕ
limits_text counted s rules = if length rules == 0 then [] else limit_path counted s rules

-- ---- below it
-- the greatest level, unless it is 0
abbrev pub greatest_words : Column → Bool → ℕ → List ℕ
greatest_words c counted n = if n == 0 then [] else codes "max " ++ level_words c counted n

-- the rising threshold of a rule
abbrev pub limit_words : Column → Bool → Rule → List ℕ
limit_words c counted rule = level_words c counted (limit_level counted rule.rising)

-- that threshold below the plot
unfoldable pub limit_note : Column → Bool → Rule → List ℕ
limit_note c counted rule = codes " limit " ++ limit_words c counted rule

-- what is said below a plot: the greatest level, and the rising thresholds
unfoldable pub notes_text : Column → Bool → ℕ → List Rule → List ℕ
notes_text c counted high rules = greatest_words c counted high
    ++ flat_map (limit_note c counted) rules

-- ---- the plot
-- the frame of the plot of samples in this scale
abbrev pub frame_of : Scale → List ℕ → Frame
frame_of s items = record { scale = s; span = span_of items; pairs = length items - 1 }

-- the plot of samples of this scale of their own, with these rules: a picture whose label is the
-- value now, and what is said below it
unfoldable pub drawing_text : Row → Bool → Scale → List ℕ → List Rule → List ℕ
drawing_text r counted own items rules =
    codes
    "<svg viewBox=\"0 -2 240 44\" preserveAspectRatio=\"none\" role=\"img\" aria-label=\""
    ++ now_words r ++ codes "\"><path d=\"" ++ points_from items
    (frame_of (with_rules counted own rules) items) None 0 0 items ++ codes "\"/>"
    ++ limits_text counted (with_rules counted own rules) rules ++ codes "</svg><small>"
    ++ notes_text (column_of r.entry.name) counted own.high rules
    ++ codes "</small>"

-- the plot of an instance
abbrev pub plot_of : Row → List ℕ
plot_of r =
    drawing_text r (is_counted (newest_of r.entry.items)) (scale_of
    (is_counted (newest_of r.entry.items)) r.entry.items) r.entry.items r.entry.rules
