use Rattle.std.proofs.Common.{◌≡◌, ◌≢◌, ◌<◌, false, length, ap, sym, ◌∙◌, arith, rules}
use Rattle.std.specs.Prelude.{Contains}
use Rattle.std.proofs.lemmas.List.{nil_from_length}
use Rattle.std.specs.Str.{bytes_eq}
use Rattle.mon_vacm.specs.declared.family.ViewTreeFamily.{ViewTreeFamily}
use Rattle.mon_vacm.proofs.Passing.{none_applies, none_in_none, not_named, passed}
use Rattle.mon_vacm.proofs.policy.strongest_of_view.Goals as goal

pub returns-then-is_empty : goal.returns-then-is_empty
returns-then-is_empty c = λ families is.
    let own = c.args.own.now in
    let none : length own ≡ 0 = grind arith in
    passed families own c.args.view.now c.args.name.now (none_in_none own c.args.view.now c.args.name.now (nil_from_length own none)) c.args.best is

pub returns-then-not-is_named : goal.returns-then-not-is_named
returns-then-not-is_named c = λ families is.
    let own = c.args.own.now in
    let view = c.args.view.now in
    let first = c.index-own-0.result in
    let some : 0 < length own = grind arith in
    let listed : Contains own first = (0, some, sym c.index-own-0.is) in
    let differs : c.is_named.result ≡ false = search rules in
    let other : first.view_name ≢ view = not_named first.view_name view c.is_named.result (c.is_named.ensures ∙ ap (λ (f : ViewTreeFamily). bytes_eq f.view_name view) (sym c.index-own-0.is)) differs in
    passed families own view c.args.name.now (none_applies own view c.args.name.now first c.requires listed other) c.args.best is
