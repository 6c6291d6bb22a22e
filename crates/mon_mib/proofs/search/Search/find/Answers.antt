use Rattle.std.proofs.Common.{List, ℕ, ◌++◌, ◌≡◌, ◌∙◌, ap, refl, subst}
use Rattle.std.specs.Option.{option_map}
use Rattle.std.specs.List.{AllWithin}
use Rattle.std.specs.declared.cmp.Ordering.TheVariants.{Less}
use Rattle.mon_mib.specs.Objects.{objects, prefix_of}
use Rattle.mon_mib.specs.Known.{variable}
use Rattle.mon_mib.specs.Order.{name_cmp}
use Rattle.mon_mib.specs.Search.{known_in}
use Rattle.mon_mib.proofs.Candidates.{starts, goes_on_from, stops_from, ends_from}
use Rattle.mon_mib.proofs.Gapped.{moved_found, there_found}
use Rattle.mon_mib.proofs.search.Search.find.Goals as goal

pub loop-object-init : goal.loop-object-init
loop-object-init g c = record {
  stays = refl;
  none = starts _ _ _ c.find_place-place.result c.find_place-place.ensures.within
      (subst (λ name. AllWithin (λ o. (rest : List ℕ) → name_cmp (prefix_of o ++ rest) name ≡ Less) objects 0 c.find_place-place.result) c.parts.ensures.parts c.find_place-place.ensures.earlier);
}

pub returns-in-Some-clause-next : goal.returns-in-Some-clause-next
returns-in-Some-clause-next g c =
    let known = known_in g.D.Device.held c.args.self.now in
    stops_from _ _ _ c.all_objects.result.now c.find_place-place.result c.loop-object.object-index _ (option_map (variable known _) c.in_ok-found.found) _
    c.loop-object-test.true c.all_objects.ensures c.loop-object.invariant.none (ap (option_map (variable known _)) c.in-Some.is)
    (moved_found g.D.Device.held _ _ c.loop-object.invariant.stays _ c.args.name.now _ c.in_ok-found.found c.in_ok-found.ensures.next)

pub returns-in-Some-clause-there : goal.returns-in-Some-clause-there
returns-in-Some-clause-there g c =
    there_found g.D.Device.held _ _ c.loop-object.invariant.stays _ c.args.name.now c.in_ok-found.found c.in-Some.instance c.in_ok-found.ensures.next c.in-Some.is c.in_ok-found.ensures.there

pub loop-object-preserved : goal.loop-object-preserved
loop-object-preserved g c =
    let known = known_in g.D.Device.held c.args.self.now in
    record {
      stays = c.find_of.ensures.stays ∙ c.loop-object.invariant.stays;
      none = goes_on_from _ _ _ c.all_objects.result.now c.find_place-place.result c.loop-object.object-index _ (option_map (variable known _) c.in_ok-found.found)
          c.loop-object-test.true c.all_objects.ensures c.loop-object.invariant.none (ap (option_map (variable known _)) c.in_default.is)
          (moved_found g.D.Device.held _ _ c.loop-object.invariant.stays _ c.args.name.now _ c.in_ok-found.found c.in_ok-found.ensures.next);
    }

pub returns-clause-next : goal.returns-clause-next
returns-clause-next g c = ends_from _ _ _ c.all_objects.result.now c.find_place-place.result c.loop-object.object-index
    c.loop-object-test.false c.all_objects.ensures c.loop-object.invariant.none
