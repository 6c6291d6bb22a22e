-- How long layouts are, and what loops over them keep.
use Rattle.std.proofs.Common.{◌≡◌, ℕ, ◌+◌, ◌*◌, ◌<◌, List, [], ◌∷◌, ◌++◌, length, get_or, take, refl, ap, subst, ◌∙◌, arith}
use Rattle.std.specs.List.{AllByRecursion}
use Rattle.std.specs.Int.{w32, to_be_bytes}
use Rattle.std.proofs.lemmas.List.{length-append, take_more}
use Rattle.std.proofs.lemmas.List.Concat.{flat_map-cons}
use Rattle.mon_sample.specs.Key.{IsSample}
use Rattle.mon_sample.specs.Record.{octets_of}
use Rattle.mon_fields.specs.Layout.{numbers_octets, instance_octets, samples_octets}
use Rattle.mon_fields.proofs.Fields.{length-octets_of}

pub length-numbers : (numbers : List ℕ) → length (numbers_octets numbers) ≡ 4 * length numbers
length-numbers [] = refl
length-numbers (n ∷ numbers) =
    ap (λ (v : List ℕ). length v) (flat_map-cons (to_be_bytes w32) n numbers)
    ∙ omega (arith, length-append (to_be_bytes w32 n) (numbers_octets numbers), length-numbers numbers)

pub length-samples : (samples : List ℕ) → length (samples_octets samples) ≡ 21 * length samples
length-samples [] = refl
length-samples (s ∷ samples) =
    ap (λ (v : List ℕ). length v) (flat_map-cons octets_of s samples)
    ∙ omega (arith, length-append (octets_of s) (samples_octets samples), length-octets_of s, length-samples samples)

pub length-instance : (engine name : List ℕ) → length (instance_octets engine name) ≡ 2 + length engine + 4 * length name
unfolding instance_octets
length-instance engine name = omega (arith, length-append engine (length name ∷ numbers_octets name), length-numbers name)

pub samples_more : (samples : List ℕ) (i s : ℕ) → i < length samples → s ≡ get_or samples i s → AllByRecursion IsSample (take i samples) → IsSample s → AllByRecursion IsSample (take (i + 1) samples)
samples_more samples i s lt is all one = rw (take_more samples i s lt) (pushed (take i samples) (get_or samples i s) all (subst (λ (x : ℕ). IsSample x) is one))
  where
    pushed : (xs : List ℕ) (x : ℕ) → AllByRecursion IsSample xs → IsSample x → AllByRecursion IsSample (xs ++ x ∷ [])
    pushed [] x all one = (one, tt)
    pushed (y ∷ xs) x all one = (all.0, pushed xs x all.1 one)
