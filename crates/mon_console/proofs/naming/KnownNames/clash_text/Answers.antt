use Rattle.std.proofs.Common.{◌∙◌, ◌++◌, ◌<◌, ◌≤◌, Bor, List, ℕ, ap, length, subst, sym}
use Rattle.std.specs.Prelude.{Option, codes, option_map}
use Rattle.mon_console.proofs.Clashes.{end_none, end_other, end_twice, line_with}
use Rattle.mon_console.specs.Clashing.{name_at, owner_of}
use Rattle.mon_smi.specs.declared.definition.Definition.{Definition}
use Rattle.mon_console.proofs.naming.KnownNames.clash_text.Goals as goal

pub returns-then-clash-definitions : goal.returns-then-clash-definitions
returns-then-clash-definitions c =
    let known = length c.args.self.now.names in
    let place = c.args.clash.earlier in
    let owner = owner_of c.args.self.now.ends.items place in
    line_with c.format.result c.args.path.now c.as_str-own.result.now c.name_at-name.result.now _ _ _ (codes " twice") c.as_str-own.ensures
    (c.name_at-name.ensures ∙ ap (λ ds. name_at ds c.args.clash.added) c.as_slice.ensures)
    (end_twice known place owner (subst (λ (ds : List Definition). length ds ≤ place) c.definitions.ensures c.if-clash-definitions.true)) c.format.ensures.ok

pub returns-in-Some : goal.returns-in-Some
returns-in-Some c =
    let known = length c.args.self.now.names in
    let place = c.args.clash.earlier in
    let owner = owner_of c.args.self.now.ends.items place in
    let other = c.in-Some.other.now in
    let is = ap (λ (o : Option (Bor (List ℕ))). option_map (λ b. b.now) o) (sym c.in-Some.is) ∙ (c.owner_of.ensures ∙ ap (λ es. owner_of es place) c.as_slice-2.ensures.value) in
    line_with c.format-in-Some.result c.args.path.now c.as_str-own.result.now c.name_at-name.result.now _ _ _ (codes ", which " ++ (other ++ codes " defines too")) c.as_str-own.ensures
    (c.name_at-name.ensures ∙ ap (λ ds. name_at ds c.args.clash.added) c.as_slice.ensures)
    (end_other known place owner other (subst (λ (ds : List Definition). place < length ds) c.definitions.ensures c.if-clash-definitions.false) is) c.format-in-Some.ensures.ok

pub returns-in-None : goal.returns-in-None
returns-in-None c =
    let known = length c.args.self.now.names in
    let place = c.args.clash.earlier in
    let owner = owner_of c.args.self.now.ends.items place in
    let is = ap (λ (o : Option (Bor (List ℕ))). option_map (λ b. b.now) o) (sym c.in-None.is) ∙ (c.owner_of.ensures ∙ ap (λ es. owner_of es place) c.as_slice-2.ensures.value) in
    line_with c.format-in-None.result c.args.path.now c.as_str-own.result.now c.name_at-name.result.now _ _ _ (codes ", which is a built-in name") c.as_str-own.ensures
    (c.name_at-name.ensures ∙ ap (λ ds. name_at ds c.args.clash.added) c.as_slice.ensures)
    (end_none known place owner (subst (λ (ds : List Definition). place < length ds) c.definitions.ensures c.if-clash-definitions.false) is) c.format-in-None.ensures.ok
