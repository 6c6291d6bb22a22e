-- Reading fields from left to right, with the first fault that is met.
use Rattle.std.specs.Prelude.{◌≡◌, ℕ, zero, suc, Bool, true, List, [], ◌∷◌, ◌++◌, length, take}
use Rattle.std.specs.Prelude.{drop, Option, Some, None, Result, Ok, Err, nat_lt, if◌then◌else◌}
use Rattle.std.specs.Prelude.{get_or, ◌<◌}
use Rattle.std.specs.Int.{w32, from_be_bytes}
use Rattle.mon_oid.specs.Steps.{◌>>=◌}
use Rattle.mon_sample.specs.Record.{spelled}
use Rattle.mon_fields.specs.declared.fault.LayoutFault.{LayoutFault}
use Rattle.mon_fields.specs.declared.fault.LayoutFault.TheVariants.{OutOfMemory, Truncated}
use Rattle.mon_fields.specs.declared.fault.LayoutFault.TheVariants.{BadSample, NotRising}
use Rattle.mon_fields.specs.Layout.{is_sample_number}

-- a call that failed so failed as reading does, unless memory ran out
abbrev pub Fails : {Y : Type 0} → LayoutFault → Result Y LayoutFault → Type 0
Fails OutOfMemory read = Unit {0}
Fails Truncated read = read ≡ Err Truncated
Fails BadSample read = read ≡ Err BadSample
Fails NotRising read = read ≡ Err NotRising

-- what a call returned, seen by view, is what reading gives, unless memory ran out
abbrev pub Gives : {X Y : Type 0} → (X → Y) → Result X LayoutFault → Result Y LayoutFault → Type 0
Gives view (Ok x) read = read ≡ Ok (view x)
Gives view (Err e) read = Fails e read

-- one octet, and what follows it
unfoldable pub octet_at : List ℕ → Result (ℕ × List ℕ) LayoutFault
octet_at [] = Err Truncated
octet_at (b ∷ bs) = Ok (b, bs)

-- the first n octets, and what follows them
unfoldable pub field_at : ℕ → List ℕ → Result (List ℕ × List ℕ) LayoutFault
field_at n octets = if nat_lt (length octets) n then Err Truncated
    else Ok (take n octets, drop n octets)

-- each is an octet; what is read past the end is 0
abbrev pub AreOctets : List ℕ → Type 0
AreOctets octets = (i : ℕ) → get_or octets i 0 < 256

-- a number of four octets, and what follows it
unfoldable pub u32_at : List ℕ → Result (ℕ × List ℕ) LayoutFault
u32_at octets = do
  field ← field_at 4 octets
  Ok (from_be_bytes w32 field.0, field.1)

-- n things, each read after the one before it, and what follows them
unfoldable pub one_by_one : {A E : Type 0} → (Option A → List ℕ → Result (A × List ℕ) E) → Option A
    → ℕ → List ℕ → Result (List A × List ℕ) E
one_by_one read last zero octets = Ok ([], octets)
one_by_one read last (suc n) octets = read last octets >>= λ x. one_by_one read (Some x.0) n x.1 >>=
    λ xs. Ok (x.0 ∷ xs.0, xs.1)

-- what was read before, in front of what is still read
abbrev pub with_front : {A E : Type 0} → List A → Result (List A × List ℕ) E
    → Result (List A × List ℕ) E
with_front front read = read >>= λ xs. Ok (front ++ xs.0, xs.1)

-- the sample that a record spells
unfoldable pub sample_of : List ℕ → Result ℕ LayoutFault
sample_of octets = if is_sample_number (spelled octets) then Ok (spelled octets) else Err BadSample

-- a sample, and what follows it
unfoldable pub record_at : List ℕ → Result (ℕ × List ℕ) LayoutFault
record_at octets = do
  field ← field_at 21 octets
  s ← sample_of field.0
  Ok (s, field.1)

-- whether a sample exceeds the one before it, where there is one
abbrev pub rises : Option ℕ → ℕ → Bool
rises None s = true
rises (Some last) s = nat_lt last s

-- a sample that exceeds the one before it, and what follows it
unfoldable pub sample_at : Option ℕ → List ℕ → Result (ℕ × List ℕ) LayoutFault
sample_at last octets = do
  s ← record_at octets
  if rises last s.0 then Ok s else Err NotRising

-- n rising samples, and what follows them
unfoldable pub samples_at : ℕ → List ℕ → Result (List ℕ × List ℕ) LayoutFault
samples_at n octets = one_by_one sample_at None n octets
