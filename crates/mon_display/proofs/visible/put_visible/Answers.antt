use Rattle.std.proofs.Common.{◌++◌, ◌∙◌, List, ℕ, ap, sym, flat_map, map-id, string_bytes}
use Rattle.std.proofs.lemmas.Iterator.{YieldsList-from_chars}
use Rattle.std.proofs.lemmas.Iterator.Consumers.{YieldsList-end}
use Rattle.mon_display.specs.Visible.{visible_char}
use Rattle.mon_display.proofs.visible.put_visible.Goals as goal

pub returns : goal.returns
returns c =
    let end = YieldsList-end (YieldsList-from_chars c.args.given.now c.utf8.given cc) c.loop-c.yielded _ c.loop-c.yielded_by _ _ c.in-None.is c.next.ensures.steps in
    c.loop-c.invariant ∙ ap (λ (l : List ℕ). string_bytes c.args.text.now ++ flat_map visible_char l) (sym (map-id c.loop-c.yielded) ∙ end.0)
