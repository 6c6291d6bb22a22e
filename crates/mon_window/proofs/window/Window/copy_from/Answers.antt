use Rattle.std.proofs.Common.{◌≡◌, sym, ap, ◌∙◌, subst, arith}
use Rattle.std.specs.FinSet as set
use Rattle.std.specs.List.Sorted.{IsStrictlySortedBy}
use Rattle.std.specs.Ordering.{nat_cmp}
use Rattle.mon_sample.specs.Key.{boots_of}
use Rattle.mon_window.specs.Leaving.{Fits}
use Rattle.mon_window.specs.Window.{Window}
use Rattle.mon_window.proofs.window.Window.copy_from.Goals as goal

pub invariant_of-self : goal.invariant_of-self
invariant_of-self c =
    let size : c.other.inside.size ≡ c.self.inside.size = ap (λ (w : Window). w.size) c.other.view_is ∙ c.requires.size ∙ sym (ap (λ (w : Window). w.size) c.self.view_is) in
    let epoch : c.other.inside.epoch ≡ c.self.inside.epoch = ap (λ (w : Window). w.epoch) c.other.view_is ∙ c.requires.epoch ∙ sym (ap (λ (w : Window). w.epoch) c.self.view_is) in
    let items = sym (c.replace.ensures.items ∙ c.as_slice.ensures) in
    record {
      sizes = c.self.invariant.sizes;
      rising = subst (IsStrictlySortedBy nat_cmp) items c.other.invariant.rising;
      fits = subst (λ l. Fits boots_of c.self.inside.size c.self.inside.epoch l) items
          (subst (λ n. Fits boots_of n c.self.inside.epoch c.other.inside.items.items) size
          (subst (λ m. Fits boots_of c.other.inside.size m c.other.inside.items.items) epoch c.other.invariant.fits));
      room = omega (arith, c.self.invariant.room, c.replace.ensures.room);
    }

pub returns : goal.returns
returns c =
    let size : c.self.inside.size ≡ c.other.inside.size = ap (λ (w : Window). w.size) c.self.view_is ∙ sym c.requires.size ∙ sym (ap (λ (w : Window). w.size) c.other.view_is) in
    let epoch : c.self.inside.epoch ≡ c.other.inside.epoch = ap (λ (w : Window). w.epoch) c.self.view_is ∙ sym c.requires.epoch ∙ sym (ap (λ (w : Window). w.epoch) c.other.view_is) in
    let items = c.replace.ensures.items ∙ c.as_slice.ensures in
    (λ i. let w : Window = record { size = size i; epoch = epoch i; items = set.from_list (items i) } in w) ∙ c.other.view_is
