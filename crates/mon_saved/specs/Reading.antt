-- Reading images of given instances from left to right, with the first fault that is met.
use Rattle.std.specs.Prelude.{◌≡◌, ℕ, Bool, List, [], ◌∷◌, length, Result, Ok, Err, nat_lt, ◌==◌}
use Rattle.std.specs.Prelude.{◌||◌, if◌then◌else◌, not}
use Rattle.std.specs.Int.{w16, w32, to_be_bytes}
use Rattle.std.specs.Cmp.Lexicographic.{pointwise}
use Rattle.std.specs.Prelude.{nat_eq}
use Rattle.std.specs.List.{list_all}
use Rattle.mon_oid.specs.Steps.{◌>>=◌}
use Rattle.mon_sample.specs.Key.{boots_of}
use Rattle.mon_board.specs.declared.instance.Instance.{Instance}
use Rattle.mon_fields.specs.declared.fault.LayoutFault.{LayoutFault}
use Rattle.mon_fields.specs.Reading.{octet_at, field_at, u32_at, samples_at}
use Rattle.mon_saved.specs.declared.fault.ImageFault.{ImageFault}
use Rattle.mon_saved.specs.declared.fault.ImageFault.TheVariants.{OutOfMemory, Truncated}
use Rattle.mon_saved.specs.declared.fault.ImageFault.TheVariants.{BadVersion, OtherWatch, BadImage}
use Rattle.mon_saved.specs.declared.image.Entry.{Entry}
use Rattle.mon_saved.specs.declared.image.Image.{Image}
use Rattle.mon_saved.specs.Fault.{image_fault}
use Rattle.mon_saved.specs.Image.{of_boots}

-- a call that failed so failed as reading does, unless memory ran out
abbrev pub Fails : {Y : Type 0} → ImageFault → Result Y ImageFault → Type 0
Fails OutOfMemory read = Unit {0}
Fails Truncated read = read ≡ Err Truncated
Fails BadVersion read = read ≡ Err BadVersion
Fails OtherWatch read = read ≡ Err OtherWatch
Fails BadImage read = read ≡ Err BadImage

-- what a call returned, seen by view, is what reading gives, unless memory ran out
abbrev pub Gives : {X Y : Type 0} → (X → Y) → Result X ImageFault → Result Y ImageFault → Type 0
Gives view (Ok x) read = read ≡ Ok (view x)
Gives view (Err e) read = Fails e read

-- what reading fields gives, with the faults of images
abbrev pub lifted : {A : Type 0} → Result A LayoutFault → Result A ImageFault
lifted (Ok x) = Ok x
lifted (Err e) = Err (image_fault e)

-- an octet from least to most, else the fault; and what follows it
unfoldable pub octet_within : ℕ → ℕ → ImageFault → List ℕ → Result (ℕ × List ℕ) ImageFault
octet_within least most fault octets = do
  b ← lifted (octet_at octets)
  if nat_lt b.0 least || nat_lt most b.0 then Err fault else Ok b

-- the letters MI, and what follows them
unfoldable pub magic_at : List ℕ → Result (List ℕ) ImageFault
magic_at octets = do
  m ← octet_within 77 77 BadImage octets
  i ← octet_within 73 73 BadImage m.1
  Ok i.1

-- an incarnation, which is not 0, and what follows it
unfoldable pub incarnation_at : List ℕ → Result (ℕ × List ℕ) ImageFault
incarnation_at octets = do
  n ← lifted (u32_at octets)
  if n.0 == 0 then Err BadImage else Ok n

-- the one window of version 1, 0 in version 2, and what follows it
unfoldable pub window_at : ℕ → List ℕ → Result (ℕ × List ℕ) ImageFault
window_at version octets = if version == 1 then octet_within 1 64 BadImage octets
    else Ok (0, octets)

-- these octets, and what follows them
unfoldable pub expected_at : List ℕ → List ℕ → Result (List ℕ) ImageFault
expected_at wanted octets = do
  field ← lifted (field_at (length wanted) octets)
  if pointwise nat_eq field.0 wanted then Ok field.1 else Err OtherWatch

-- these numbers, four octets each, and what follows them
unfoldable pub numbers_are : List ℕ → List ℕ → Result (List ℕ) ImageFault
numbers_are [] octets = Ok octets
numbers_are (n ∷ numbers) octets = expected_at (to_be_bytes w32 n) octets >>= numbers_are numbers

-- this instance, and what follows it
unfoldable pub instance_is : Instance → List ℕ → Result (List ℕ) ImageFault
instance_is i octets = do
  a ← expected_at (length i.engine ∷ []) octets
  b ← expected_at i.engine a
  c ← expected_at (length i.name ∷ []) b
  numbers_are i.name c

-- the window and the epoch of an instance: the one window, or two octets where that is 0; and what
-- follows
unfoldable pub sizes_at : ℕ → List ℕ → Result ((ℕ × ℕ) × List ℕ) ImageFault
sizes_at window octets = if nat_lt 0 window then Ok ((window, window), octets) else
    (octet_within 1 64 BadImage octets >>= λ w. octet_within 1 w.0 BadImage w.1 >>= λ e. Ok
    ((w.0, e.0), e.1))

-- whether no boots number has more than this many of the samples
abbrev pub fits_epoch : ℕ → List ℕ → Bool
fits_epoch epoch samples = list_all (λ s. not (nat_lt epoch (of_boots (boots_of s) samples)))
    samples

-- samples that fit the window and the epoch, and what follows them
unfoldable pub saved_at : ℕ × ℕ → List ℕ → Result (List ℕ × List ℕ) ImageFault
saved_at sizes octets = do
  count ← octet_within 0 sizes.0 BadImage octets
  samples ← lifted (samples_at count.0 count.1)
  if fits_epoch sizes.1 samples.0 then Ok samples else Err BadImage

-- the entry_of of an instance, and what follows it
unfoldable pub entry_at : ℕ → Instance → List ℕ → Result (Entry × List ℕ) ImageFault
entry_at window i octets = do
  sizes ← sizes_at window octets
  rest ← instance_is i sizes.1
  samples ← saved_at sizes.0 rest
  Ok (record { window = sizes.0.0; epoch = sizes.0.1; samples = samples.0 }, samples.1)

-- an entry_of for each instance, and what follows them
unfoldable pub entries_at : ℕ → List Instance → List ℕ → Result (List Entry × List ℕ) ImageFault
entries_at window [] octets = Ok ([], octets)
entries_at window (i ∷ instances) octets = entry_at window i octets >>= λ e. entries_at window
    instances e.1 >>= λ es. Ok (e.0 ∷ es.0, es.1)

-- the incarnation and the one window, 0 in version 2, of an image of this many instances, and what
-- follows them
unfoldable pub header_at : ℕ → List ℕ → Result ((ℕ × ℕ) × List ℕ) ImageFault
header_at many octets = do
  mark ← magic_at octets
  version ← octet_within 1 2 BadVersion mark
  incarnation ← incarnation_at version.1
  window ← window_at version.0 incarnation.1
  rest ← expected_at (to_be_bytes w16 many) window.1
  Ok ((incarnation.0, window.0), rest)

-- an entry_of for each instance, all of the octets
unfoldable pub all_entries : ℕ → List Instance → List ℕ → Result (List Entry) ImageFault
all_entries window instances octets = do
  entries ← entries_at window instances octets
  if length entries.1 == 0 then Ok entries.0 else Err BadImage

-- the image of these instances that all of the octets spell
unfoldable pub image_at : List Instance → List ℕ → Result Image ImageFault
image_at instances octets = do
  head ← header_at (length instances) octets
  entries ← all_entries head.0.1 instances head.1
  Ok (record { incarnation = head.0.0; entries = entries })
