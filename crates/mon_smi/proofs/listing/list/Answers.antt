use Rattle.std.proofs.Common.{List, map, subst, sym, ap, ◌∙◌}
use Rattle.std.specs.List.{flat_map}
use Rattle.std.specs.List.Sorted.{IsPermutation}
use Rattle.std.proofs.lemmas.List.Sorted.{IsPermutation-trans}
use Rattle.mon_smi.specs.Listing.{names_in, row_line, seen}
use Rattle.mon_smi.proofs.Listings.{Lent, Name, fault_moved, is_listing}
use Rattle.mon_smi.proofs.listing.list.Goals as goal

pub returns-in-Err : goal.returns-in-Err
returns-in-Err c =
    let names = names_in c.args.definitions.now in
    let moved : IsPermutation names (map (λ (n : Name). n.now) c.as_slice.result.now) =
    subst (λ (l : List Name). IsPermutation names (map (λ (n : Name). n.now) l)) (sym c.as_slice.ensures.value) c.in_ok-names.ensures.same in
    record { lines = tt; fault = fault_moved c.args.known.now names _ c.in-Err.fault moved c.in-Err.ensures.fault }

pub returns-clause-lines : goal.returns-clause-lines
returns-clause-lines c =
    let names = names_in c.args.definitions.now in
    let moved : IsPermutation names (map (λ (n : Name). n.now) c.as_slice.result.now) =
    subst (λ (l : List Name). IsPermutation names (map (λ (n : Name). n.now) l)) (sym c.as_slice.ensures.value) c.in_ok-names.ensures.same in
    is_listing c.args.known.now names c.in-Ok.rows.items _ (IsPermutation-trans names _ (map (λ (r : Lent). r.1.now) c.in-Ok.rows.items) moved c.in-Ok.ensures.same) c.in-Ok.ensures.meant c.in-Ok.ensures.order
    (c.in_ok-lines_of.ensures ∙ ap (λ (l : List Lent). flat_map (λ (r : Lent). row_line (seen r)) l) c.as_slice-2.ensures.value)
