use Rattle.std.proofs.Common.{ℕ, List, [], ◌∷◌, sym, subst, arith}
use Rattle.std.specs.List.Sorted.{IsStrictlySortedBy}
use Rattle.std.specs.Ordering.{nat_cmp}
use Rattle.mon_ber.proofs.Promised.{IsBytes, IsBytes-after}
use Rattle.mon_fields.proofs.Promised.{samples_takes}
use Rattle.mon_saved.specs.declared.fault.ImageFault.TheVariants.{BadImage}
use Rattle.mon_saved.proofs.Images.{within_takes}
use Rattle.mon_saved.proofs.reading.saved_at.Goals as goal

pub fits_epoch-requires : goal.fits_epoch-requires
fits_epoch-requires c =
    let bytes : IsBytes c.args.reader.now = c.in_ok-count.ensures.octets in
    let first : List ℕ = c.in_ok-count.count ∷ [] in
    let counted = within_takes 0 _ BadImage c.args.reader.now c.in_ok-count.count c.octet_within.new.reader c.in_ok-count.ensures.gives in
    let taken = samples_takes c.in_ok-count.count c.octet_within.new.reader c.in_ok-samples.samples c.samples.new.self (IsBytes-after c.args.reader.now first c.octet_within.new.reader bytes counted.0) c.in_ok-samples.ensures in
    record { rising = subst (λ (v : List ℕ). IsStrictlySortedBy nat_cmp v) (sym c.as_slice.ensures) taken.2.rising }
