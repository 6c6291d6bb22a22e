use Rattle.std.proofs.Common.{ℕ, List, [], length, ◌==◌, sym, ap, ◌∙◌, arith}
use Rattle.std.proofs.lemmas.Bool.{eqb-true}
use Rattle.std.proofs.lemmas.List.{nil_from_length}
use Rattle.mon_ber.specs.declared.fault.BerFault.{BerFault}
use Rattle.mon_ber.proofs.Promised.{pair_is}
use Rattle.mon_ber.specs.Reading.{element_at, value_at}
use Rattle.mon_pdu.proofs.Frames.{some_given, none_given, ok_given, named_again, contents_are, name_begins, value_behind, named_takes}
use Rattle.mon_pdu.proofs.frame.named_value.Goals as goal

pub returns-in_err-contents-clause-inline : goal.returns-in_err-contents-clause-inline
returns-in_err-contents-clause-inline c = λ text rest spelled v is spells small whole.
    absurd (none_given _ c.element_at.result (element_at 0x30 c.args.octets.now) _ c.in_err-contents.ensures.value c.element_at.ensures.no_memory c.element_at.ensures.gives (named_again c.args.octets.now c.args.name.now spelled text rest is whole))

pub returns-in_err-rest-clause-inline : goal.returns-in_err-rest-clause-inline
returns-in_err-rest-clause-inline c = λ text rest spelled v is spells small whole.
    let read = some_given _ c.element_at.result (element_at 0x30 c.args.octets.now) _ c.in_ok-contents.ensures.value c.element_at.ensures.gives in
    let same = contents_are c.args.octets.now c.args.name.now spelled text rest c.in_ok-contents.contents.now c.in_ok-contents.after.now is whole read in
    absurd (name_begins c.args.name.now spelled c.in_ok-contents.contents.now same c.in_err-rest.ensures.cases)

pub returns-in_err-value-clause-inline : goal.returns-in_err-value-clause-inline
returns-in_err-value-clause-inline c = λ text rest spelled v is spells small whole.
    let read = some_given _ c.element_at.result (element_at 0x30 c.args.octets.now) _ c.in_ok-contents.ensures.value c.element_at.ensures.gives in
    let same = contents_are c.args.octets.now c.args.name.now spelled text rest c.in_ok-contents.contents.now c.in_ok-contents.after.now is whole read in
    let value = value_behind c.args.name.now spelled c.in_ok-contents.contents.now c.in_ok-rest.rest.now v same c.in_ok-rest.ensures.cases.1 spells in
    let yes = c.value_at.ensures.inline v [] value small in
    absurd (ok_given c.value_at.result yes c.in_err-value.ensures.value)

pub returns-then-not-is_empty-clause-inline : goal.returns-then-not-is_empty-clause-inline
returns-then-not-is_empty-clause-inline c = λ text rest spelled v is spells small whole.
    let read = some_given _ c.element_at.result (element_at 0x30 c.args.octets.now) _ c.in_ok-contents.ensures.value c.element_at.ensures.gives in
    let same = contents_are c.args.octets.now c.args.name.now spelled text rest c.in_ok-contents.contents.now c.in_ok-contents.after.now is whole read in
    let value = value_behind c.args.name.now spelled c.in_ok-contents.contents.now c.in_ok-rest.rest.now v same c.in_ok-rest.ensures.cases.1 spells in
    let got = some_given _ c.value_at.result (value_at c.in_ok-rest.rest.now) _ c.in_ok-value.ensures.value c.value_at.ensures.gives in
    c.if-not-is_empty.ensures ∙ ap (λ (w : List ℕ). length w == 0) (pair_is {E = BerFault} c.in_ok-value.value c.in_ok-value.rest.now v [] (sym got ∙ value)).1

pub returns-clause-found : goal.returns-clause-found
returns-clause-found c = λ oid spelled.
    let read = some_given _ c.element_at.result (element_at 0x30 c.args.octets.now) _ c.in_ok-contents.ensures.value c.element_at.ensures.gives in
    let got = some_given _ c.value_at.result (value_at c.in_ok-rest.rest.now) _ c.in_ok-value.ensures.value c.value_at.ensures.gives in
    named_takes c.args.octets.now c.args.name.now c.in_ok-contents.contents.now c.in_ok-contents.after.now c.in_ok-rest.rest.now c.in_ok-value.rest.now c.in_ok-value.value (λ i. omega (arith, c.type_inv.octets i)) read c.in_ok-rest.ensures.cases.0 c.in_ok-rest.ensures.cases.1 got (nil_from_length c.in_ok-value.rest.now (eqb-true (length c.in_ok-value.rest.now) 0 (sym c.if-not-is_empty.ensures))) oid spelled
