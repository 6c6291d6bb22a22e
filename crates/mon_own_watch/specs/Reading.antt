-- Reading what an image names, from left to right, with the first fault that is met.
use Rattle.std.specs.Prelude.{ℕ, Bool, List, length, slice_index, Option, None, Result, Ok, Err}
use Rattle.std.specs.Prelude.{nat_lt, ◌==◌, ◌||◌, ◌&&◌, if◌then◌else◌}
use Rattle.std.specs.Int.{w16, from_be_bytes}
use Rattle.mon_oid.specs.Steps.{◌>>=◌}
use Rattle.mon_board.specs.declared.instance.Watched.{Watched}
use Rattle.mon_board.specs.Instance.{named}
use Rattle.mon_fields.specs.declared.fault.LayoutFault.{LayoutFault}
use Rattle.mon_fields.specs.Reading.{field_at, u32_at, one_by_one}
use Rattle.mon_saved.specs.declared.fault.ImageFault.{ImageFault}
use Rattle.mon_saved.specs.declared.fault.ImageFault.TheVariants.{BadVersion, BadImage}
use Rattle.mon_saved.specs.Reading.{lifted, octet_within, magic_at, incarnation_at, window_at}
use Rattle.mon_saved.specs.Reading.{sizes_at, saved_at}

-- an engine id after its length, and what follows it
unfoldable pub engine_at : List ℕ → Result (List ℕ × List ℕ) ImageFault
engine_at octets = do
  len ← octet_within 5 32 BadImage octets
  lifted (field_at len.0 len.1)

-- a number of four octets, whatever was read before it
abbrev pub next_number : Option ℕ → List ℕ → Result (ℕ × List ℕ) LayoutFault
next_number last octets = u32_at octets

-- n numbers of four octets each, and what follows them
unfoldable pub numbers_at : ℕ → List ℕ → Result (List ℕ × List ℕ) LayoutFault
numbers_at n octets = one_by_one next_number None n octets

-- whether the first two numbers are out of the range of an identifier's (RFC 2578 section 3.5)
unfoldable pub is_unrooted : List ℕ → Bool
is_unrooted parts = nat_lt 2 (slice_index parts 0) || (nat_lt (slice_index parts 0) 2
    && nat_lt 39 (slice_index parts 1))

-- an identifier after the count of its numbers, and what follows it
unfoldable pub name_at : List ℕ → Result (List ℕ × List ℕ) ImageFault
name_at octets = do
  count ← octet_within 2 128 BadImage octets
  parts ← lifted (numbers_at count.0 count.1)
  if is_unrooted parts.0 then Err BadImage else Ok parts

-- an instance as its entry says it is watched, and what follows the entry
unfoldable pub watched_at : ℕ → List ℕ → Result (Watched × List ℕ) ImageFault
watched_at window octets = do
  sizes ← sizes_at window octets
  engine ← engine_at sizes.1
  name ← name_at engine.1
  samples ← saved_at sizes.0 name.1
  Ok (
    record {
      instance = named engine.0 name.0;
      discontinuity = None;
      window = sizes.0.0;
      epoch =
          sizes.0.1;
    },
    samples.1,
  )

-- a watched instance, whatever was read before it
abbrev pub next_watched : ℕ → Option Watched → List ℕ → Result (Watched × List ℕ) ImageFault
next_watched window last octets = watched_at window octets

-- n watched instances, and what follows their entries
unfoldable pub all_at : ℕ → ℕ → List ℕ → Result (List Watched × List ℕ) ImageFault
all_at window n octets = one_by_one (next_watched window) None n octets

-- a number of instances is 1 to 256
abbrev pub within_many : ℕ × List ℕ → Result (ℕ × List ℕ) ImageFault
within_many many = if nat_lt many.0 1 || nat_lt 256 many.0 then Err BadImage else Ok many

-- how many instances there are, 1 to 256, and what follows
unfoldable pub many_at : List ℕ → Result (ℕ × List ℕ) ImageFault
many_at octets = do
  field ← lifted (field_at 2 octets)
  within_many (from_be_bytes w16 field.0, field.1)

-- how many instances an image has and its one window, 0 in version 2, and what follows
unfoldable pub head_at : List ℕ → Result ((ℕ × ℕ) × List ℕ) ImageFault
head_at octets = do
  mark ← magic_at octets
  version ← octet_within 1 2 BadVersion mark
  incarnation ← incarnation_at version.1
  window ← window_at version.0 incarnation.1
  many ← many_at window.1
  Ok ((many.0, window.0), many.1)

-- the watched instances that all of the octets name
unfoldable pub named_at : List ℕ → Result (List Watched) ImageFault
named_at octets = do
  head ← head_at octets
  all ← all_at head.0.1 head.0.0 head.1
  if length all.1 == 0 then Ok all.0 else Err BadImage
