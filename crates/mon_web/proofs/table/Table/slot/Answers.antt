use Rattle.std.proofs.Common.{◌≡◌, ◌∙◌, ap, inl, List, set-set}
use Rattle.std.specs.Prelude.{slice_set}
use Rattle.mon_web.specs.Slot.{free_slot, slot_in}
use Rattle.mon_web.specs.declared.slot.Slot.{Slot}
use Rattle.mon_web.specs.declared.slot.Stage.TheVariants.{Asking}
use Rattle.mon_web.proofs.table.Table.slot.Goals as goal

-- the place that was freed first is taken
pub returns-in-Ok-clause-slots : goal.returns-in-Ok-clause-slots
returns-in-Ok-clause-slots g c =
    let old = c.args.self.now.slots.items in
    let slot = slot_in Asking c.args.now in
    inl (c.set_slot.ensures.slots
    ∙ ap (λ (xs : List Slot). slice_set xs c.args.place c.slot_in.result) (c.set_client.ensures.slots ∙ c.clear.ensures.slots)
    ∙ ap (λ (s : Slot). slice_set (slice_set old c.args.place free_slot) c.args.place s) c.slot_in.ensures
    ∙ set-set old c.args.place free_slot slot)
