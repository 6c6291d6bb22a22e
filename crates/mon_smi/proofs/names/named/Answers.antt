use Rattle.std.proofs.Common.{ℕ, List, sym, refl, subst, inl}
use Rattle.mon_oid.specs.Oid.{Spells}
use Rattle.mon_smi.specs.Words.{IsWord}
use Rattle.mon_smi.proofs.Meanings.{alone_formless, cut_named, is_named, faults_named, found_named}
use Rattle.mon_smi.proofs.names.named.Goals as goal

pub returns-then-not-is_word-clause-fault : goal.returns-then-not-is_word-clause-fault
returns-then-not-is_word-clause-fault c =
    ((c.requires.no_numbers, alone_formless c.args.text.now c.split_once.result c.split_once.ensures.cases c.in_default.is (λ word. let yes = c.is_word.ensures.1 word in absurd (cc))), c.form_fault.ensures)

pub returns-in_default-clause-fault : goal.returns-in_default-clause-fault
returns-in_default-clause-fault c =
    faults_named c.identifier_of.result c.args.defs.now c.args.text.now c.args.text.now _ (c.is_word.ensures.0 (cc), inl (refl, refl)) c.identifier_of.ensures.fault

pub returns-then-not-is_word-2-clause-fault : goal.returns-then-not-is_word-2-clause-fault
returns-then-not-is_word-2-clause-fault c = (
  (
    c.requires.no_numbers,
    λ w rest named.
        let is = cut_named c.args.text.now c.split_once.result _ c.split_once.ensures.cases c.in-Some.is w rest named in
        let yes = c.is_word-2.ensures.1 (subst IsWord (sym is.0) named.0) in absurd (cc),
  ),
  c.form_fault-then-not-is_word-2.ensures,
)

pub returns-in-Ok-clause-found : goal.returns-in-Ok-clause-found
returns-in-Ok-clause-found c =
    found_named c.identifier_of-in-Ok.result c.args.defs.now c.args.text.now c.in-Some.word.now c.as_slice.result.now
    (is_named c.args.text.now c.split_once.result _ c.split_once.ensures.cases c.in-Some.is (c.is_word-2.ensures.0 (cc)) c.as_slice.result.now (subst (λ (l : List ℕ). Spells c.in-Some.rest.now l) (sym c.as_slice.ensures.value) c.in-Ok.ensures.found))
    c.identifier_of-in-Ok.ensures.found

pub returns-in-Ok-clause-fault : goal.returns-in-Ok-clause-fault
returns-in-Ok-clause-fault c =
    faults_named c.identifier_of-in-Ok.result c.args.defs.now c.args.text.now c.in-Some.word.now c.as_slice.result.now
    (is_named c.args.text.now c.split_once.result _ c.split_once.ensures.cases c.in-Some.is (c.is_word-2.ensures.0 (cc)) c.as_slice.result.now (subst (λ (l : List ℕ). Spells c.in-Some.rest.now l) (sym c.as_slice.ensures.value) c.in-Ok.ensures.found))
    c.identifier_of-in-Ok.ensures.fault

pub returns-in-Err-BadText-clause-fault : goal.returns-in-Err-BadText-clause-fault
returns-in-Err-BadText-clause-fault c =
    let none = rw c.in-Err-BadText.field-0-is at c.in-Err-BadText.ensures.fault in
    ((c.requires.no_numbers, λ w rest named. none rest (cut_named c.args.text.now c.split_once.result _ c.split_once.ensures.cases c.in-Some.is w rest named).1), c.form_fault-in-Err-BadText.ensures)
