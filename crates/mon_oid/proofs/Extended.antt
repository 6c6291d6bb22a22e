-- An identifier with more behind it.
use Rattle.std.proofs.Common.{ℕ, ◌+◌, ◌^◌, ◌<◌, ◌≤◌, List, [], ◌∷◌, ◌++◌, length, arith}
use Rattle.std.specs.Prelude.{All}
use Rattle.std.proofs.lemmas.List.{length-append}
use Rattle.std.proofs.lemmas.List.Elements.{All-append, All-cons, All-nil}
use Rattle.mon_oid.specs.Oid.{IsRooted, IsOid}

rooted-append : (xs ys : List ℕ) → 2 ≤ length xs → IsRooted xs → IsRooted (xs ++ ys)
rooted-append [] ys h is = absurd (omega arith)
rooted-append (a ∷ []) ys h is = absurd (omega arith)
rooted-append (a ∷ b ∷ rest) ys h is = record { first = is.first; second = is.second }

pub extended : (oid more : List ℕ) → IsOid oid → length oid + length more ≤ 128 → All (λ part. part < 2 ^ 32) more → IsOid (oid ++ more)
extended oid more is few small = record {
  long = omega (arith, length-append oid more, is.long);
  short = omega (arith, length-append oid more, few);
  rooted = rooted-append oid more is.long is.rooted;
  small = All-append (λ part. part < 2 ^ 32) oid more is.small small;
}

pub pushed : (oid : List ℕ) (part : ℕ) → IsOid oid → length oid < 128 → part < 2 ^ 32 → IsOid (oid ++ part ∷ [])
pushed oid part is lt small = extended oid (part ∷ []) is (omega (arith, lt)) (All-cons (λ part. part < 2 ^ 32) part [] small (All-nil (λ part. part < 2 ^ 32)))
