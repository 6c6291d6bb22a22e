use Rattle.std.proofs.Common.{◌≡◌, ◌-◌, refl, sym, ap, ◌∙◌, subst, arith, Some, None}
use Rattle.std.specs.List.{insert, remove}
use Rattle.std.specs.FinSet as set
use Rattle.std.specs.Ordering.{nat_cmp}
use Rattle.mon_window.specs.Plan.{IsPlan, IsDone, IsJoining, IsReplacing}
use Rattle.mon_window.specs.Top.{rising}
use Rattle.mon_window.specs.declared.window.Inserted.TheVariants.{Added, Known, TooOld}
use Rattle.mon_window.proofs.Planned.{same-sizes, known-inserted, too_old-inserted, joined-within, joined-few, joined-sorted, joined-fits, joined-inserted, joined-done, replaced-within, replaced-sorted, replaced-fits, replaced-inserted, replaced-done}
use Rattle.mon_window.proofs.window.Window.carry_out.Goals as goal

-- ---- it was there
pub returns-in-Known-clause-inserted : goal.returns-in-Known-clause-inserted
returns-in-Known-clause-inserted c =
    known-inserted c.self.inside.size c.self.inside.epoch c.args.sample c.self.inside.items.items c.args.self.now c.self.view_is c.self.invariant.rising c.self.invariant.fits (subst (IsPlan c.args.self.now c.args.sample) c.in-Known.is c.requires)

-- ---- it would leave
pub returns-in-TooOld-clause-inserted : goal.returns-in-TooOld-clause-inserted
returns-in-TooOld-clause-inserted c =
    too_old-inserted c.self.inside.size c.self.inside.epoch c.args.sample c.self.inside.items.items c.args.self.now c.self.view_is c.self.invariant.rising c.self.invariant.fits (subst (IsPlan c.args.self.now c.args.sample) c.in-TooOld.is c.requires)

-- ---- the window is not full
pub insert-requires-clause-place : goal.insert-requires-clause-place
insert-requires-clause-place c =
    let j : IsJoining c.args.self.now c.args.sample c.in-Joins.at = subst (IsPlan c.args.self.now c.args.sample) c.in-Joins.is c.requires in
    let within = joined-within c.self.inside.size c.self.inside.epoch c.args.sample c.self.inside.items.items c.args.self.now c.self.view_is c.self.invariant.rising c.self.invariant.fits c.in-Joins.at j (insert c.self.inside.items.items c.in-Joins.at c.args.sample) refl in
    omega arith

pub insert-requires-clause-room : goal.insert-requires-clause-room
insert-requires-clause-room c =
    let j : IsJoining c.args.self.now c.args.sample c.in-Joins.at = subst (IsPlan c.args.self.now c.args.sample) c.in-Joins.is c.requires in
    let few = joined-few c.self.inside.size c.self.inside.epoch c.args.sample c.self.inside.items.items c.args.self.now c.self.view_is c.self.invariant.rising c.self.invariant.fits c.in-Joins.at j (insert c.self.inside.items.items c.in-Joins.at c.args.sample) refl in
    omega (arith, c.self.invariant.room)

pub invariant_of-self : goal.invariant_of-self
invariant_of-self c =
    let j : IsJoining c.args.self.now c.args.sample c.in-Joins.at = subst (IsPlan c.args.self.now c.args.sample) c.in-Joins.is c.requires in
    let xs = c.self.inside.items.items in
    let is : c.insert.new.self.items ≡ insert xs c.in-Joins.at c.args.sample = c.insert.ensures.items in
    record {
      sizes = c.self.invariant.sizes;
      rising = joined-sorted c.self.inside.size c.self.inside.epoch c.args.sample c.self.inside.items.items c.args.self.now c.self.view_is c.self.invariant.rising c.self.invariant.fits c.in-Joins.at j c.insert.new.self.items is;
      fits = joined-fits c.self.inside.size c.self.inside.epoch c.args.sample c.self.inside.items.items c.args.self.now c.self.view_is c.self.invariant.rising c.self.invariant.fits c.in-Joins.at j c.insert.new.self.items is;
      room = omega (arith, c.insert.ensures.room, c.self.invariant.room);
    }

pub returns-in-Joins-clause-inserted : goal.returns-in-Joins-clause-inserted
returns-in-Joins-clause-inserted c =
    let j : IsJoining c.args.self.now c.args.sample c.in-Joins.at = subst (IsPlan c.args.self.now c.args.sample) c.in-Joins.is c.requires in
    let xs = c.self.inside.items.items in
    let is : c.insert.new.self.items ≡ insert xs c.in-Joins.at c.args.sample = c.insert.ensures.items in
    joined-inserted c.self.inside.size c.self.inside.epoch c.args.sample c.self.inside.items.items c.args.self.now c.self.view_is c.self.invariant.rising c.self.invariant.fits c.in-Joins.at j c.insert.new.self.items is

pub returns-in-Joins-clause-done : goal.returns-in-Joins-clause-done
returns-in-Joins-clause-done c =
    let j : IsJoining c.args.self.now c.args.sample c.in-Joins.at = subst (IsPlan c.args.self.now c.args.sample) c.in-Joins.is c.requires in
    let xs = c.self.inside.items.items in
    let is : c.insert.new.self.items ≡ insert xs c.in-Joins.at c.args.sample = c.insert.ensures.items in
    subst (λ p. IsDone c.args.sample p (Added c.in-Joins.at None) (rising c.args.self.now.items) (rising (set.from_list {R = nat_cmp} c.insert.new.self.items))) (sym c.in-Joins.is) (record { place = tt; items = joined-done c.self.inside.size c.self.inside.epoch c.args.sample c.self.inside.items.items c.args.self.now c.self.view_is c.self.invariant.rising c.self.invariant.fits c.in-Joins.at j c.insert.new.self.items is })

pub returns-in-Joins-clause-sizes : goal.returns-in-Joins-clause-sizes
returns-in-Joins-clause-sizes c = same-sizes c.self.inside.size c.self.inside.epoch c.args.sample c.self.inside.items.items c.args.self.now c.self.view_is c.self.invariant.rising c.self.invariant.fits c.insert.new.self.items

-- ---- another leaves
pub remove-dropped-requires : goal.remove-dropped-requires
remove-dropped-requires c =
    let j : IsReplacing c.args.self.now c.args.sample c.in-Replaces.at c.in-Replaces.out = subst (IsPlan c.args.self.now c.args.sample) c.in-Replaces.is c.requires in
    let within = replaced-within c.self.inside.size c.self.inside.epoch c.args.sample c.self.inside.items.items c.args.self.now c.self.view_is c.self.invariant.rising c.self.invariant.fits c.in-Replaces.at c.in-Replaces.out j in
    let before = j.before in
    omega arith

pub insert-requires-in-Replaces-clause-place : goal.insert-requires-in-Replaces-clause-place
insert-requires-in-Replaces-clause-place c =
    let j : IsReplacing c.args.self.now c.args.sample c.in-Replaces.at c.in-Replaces.out = subst (IsPlan c.args.self.now c.args.sample) c.in-Replaces.is c.requires in
    let within = replaced-within c.self.inside.size c.self.inside.epoch c.args.sample c.self.inside.items.items c.args.self.now c.self.view_is c.self.invariant.rising c.self.invariant.fits c.in-Replaces.at c.in-Replaces.out j in
    let before = j.before in
    omega (arith, c.remove-dropped.ensures.len)

pub invariant_of-self-in-Replaces : goal.invariant_of-self-in-Replaces
invariant_of-self-in-Replaces c =
    let j : IsReplacing c.args.self.now c.args.sample c.in-Replaces.at c.in-Replaces.out = subst (IsPlan c.args.self.now c.args.sample) c.in-Replaces.is c.requires in
    let is : c.insert-in-Replaces.new.self.items ≡ insert (remove c.self.inside.items.items c.in-Replaces.out) (c.in-Replaces.at - 1) c.args.sample =
    c.insert-in-Replaces.ensures.items ∙ ap (λ ys. insert ys (c.in-Replaces.at - 1) c.args.sample) c.remove-dropped.ensures.items in
    record {
      sizes = c.self.invariant.sizes;
      rising = replaced-sorted c.self.inside.size c.self.inside.epoch c.args.sample c.self.inside.items.items c.args.self.now c.self.view_is c.self.invariant.rising c.self.invariant.fits c.in-Replaces.at c.in-Replaces.out j c.insert-in-Replaces.new.self.items is;
      fits = replaced-fits c.self.inside.size c.self.inside.epoch c.args.sample c.self.inside.items.items c.args.self.now c.self.view_is c.self.invariant.rising c.self.invariant.fits c.in-Replaces.at c.in-Replaces.out j c.insert-in-Replaces.new.self.items is;
      room = omega (arith, c.insert-in-Replaces.ensures.room, c.remove-dropped.ensures.room, c.self.invariant.room);
    }

pub returns-in-Replaces-clause-inserted : goal.returns-in-Replaces-clause-inserted
returns-in-Replaces-clause-inserted c =
    let j : IsReplacing c.args.self.now c.args.sample c.in-Replaces.at c.in-Replaces.out = subst (IsPlan c.args.self.now c.args.sample) c.in-Replaces.is c.requires in
    let is : c.insert-in-Replaces.new.self.items ≡ insert (remove c.self.inside.items.items c.in-Replaces.out) (c.in-Replaces.at - 1) c.args.sample =
    c.insert-in-Replaces.ensures.items ∙ ap (λ ys. insert ys (c.in-Replaces.at - 1) c.args.sample) c.remove-dropped.ensures.items in
    replaced-inserted c.self.inside.size c.self.inside.epoch c.args.sample c.self.inside.items.items c.args.self.now c.self.view_is c.self.invariant.rising c.self.invariant.fits c.in-Replaces.at c.in-Replaces.out j c.insert-in-Replaces.new.self.items is c.remove-dropped.result c.remove-dropped.ensures.value

pub returns-in-Replaces-clause-done : goal.returns-in-Replaces-clause-done
returns-in-Replaces-clause-done c =
    let j : IsReplacing c.args.self.now c.args.sample c.in-Replaces.at c.in-Replaces.out = subst (IsPlan c.args.self.now c.args.sample) c.in-Replaces.is c.requires in
    let is : c.insert-in-Replaces.new.self.items ≡ insert (remove c.self.inside.items.items c.in-Replaces.out) (c.in-Replaces.at - 1) c.args.sample =
    c.insert-in-Replaces.ensures.items ∙ ap (λ ys. insert ys (c.in-Replaces.at - 1) c.args.sample) c.remove-dropped.ensures.items in
    subst (λ p. IsDone c.args.sample p (Added (c.in-Replaces.at - 1) (Some c.remove-dropped.result)) (rising c.args.self.now.items) (rising (set.from_list {R = nat_cmp} c.insert-in-Replaces.new.self.items))) (sym c.in-Replaces.is) (let done = replaced-done c.self.inside.size c.self.inside.epoch c.args.sample c.self.inside.items.items c.args.self.now c.self.view_is c.self.invariant.rising c.self.invariant.fits c.in-Replaces.at c.in-Replaces.out j c.insert-in-Replaces.new.self.items is c.remove-dropped.result c.remove-dropped.ensures.value in record { place = done.0; items = done.1 })

pub returns-in-Known-clause-done : goal.returns-in-Known-clause-done
returns-in-Known-clause-done c =
    subst (λ p. IsDone c.args.sample p Known (rising c.args.self.now.items) (rising c.args.self.now.items)) (sym c.in-Known.is) (record { place = tt; items = refl })

pub returns-in-TooOld-clause-done : goal.returns-in-TooOld-clause-done
returns-in-TooOld-clause-done c =
    subst (λ p. IsDone c.args.sample p TooOld (rising c.args.self.now.items) (rising c.args.self.now.items)) (sym c.in-TooOld.is) (record { place = tt; items = refl })

pub returns-in-Replaces-clause-sizes : goal.returns-in-Replaces-clause-sizes
returns-in-Replaces-clause-sizes c = same-sizes c.self.inside.size c.self.inside.epoch c.args.sample c.self.inside.items.items c.args.self.now c.self.view_is c.self.invariant.rising c.self.invariant.fits c.insert-in-Replaces.new.self.items
