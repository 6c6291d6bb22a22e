use Rattle.std.proofs.Common.{◌≡◌, ◌≤◌, List, ℕ, length, get_or, Ok, ◌∙◌, ap, subst}
use Rattle.std.proofs.lemmas.Result.{err_from_is_err_and}
use Rattle.mon_smi.specs.declared.token.Token.{Token}
use Rattle.mon_smi.specs.Lexemes.{Lexeme, lexemes, lexeme_at}
use Rattle.mon_smi.specs.Reading.{Fails, module_at}
use Rattle.mon_smi.proofs.ForText.{no_tokens, no_module, tokens_stand, derived, found_there, fault_there}
use Rattle.std.specs.Prelude.{IfErr}
use Rattle.std.proofs.lemmas.List.{length-map}
use Rattle.mon_smi.specs.ModuleFaults.{AllBegin, IsTwice, IsFaultOfTokensRead}
use Rattle.mon_smi.proofs.Begun.{all_len, all_within}
use Rattle.mon_smi.proofs.modules.module_of.Goals as goal

pub returns-in_err-tokens-clause-fault : goal.returns-in_err-tokens-clause-fault
returns-in_err-tokens-clause-fault c =
    let p = err_from_is_err_and c.from_residual.result c.from_residual.ensures.1 in
    rw (p.1, p.2) (no_tokens c.args.text.now c.in_err-tokens.field-0.0 c.in_err-tokens.ensures.fault)

pub lexemes-requires : goal.lexemes-requires
lexemes-requires c = rw (c.as_bytes.ensures.value, c.as_slice.ensures.value) (tokens_stand c.args.text.now c.in_ok-tokens.tokens.items c.in_ok-tokens.ensures.found)

pub returns-in_err-read-clause-fault : goal.returns-in_err-read-clause-fault
returns-in_err-read-clause-fault c =
    let is : c.as_slice-3.result.now ≡ lexemes c.args.text.now c.in_ok-tokens.tokens.items =
    c.as_slice-3.ensures.value ∙ c.in_ok-lexemes.ensures ∙ ap (λ (t : List ℕ). lexemes t c.as_slice.result.now) c.as_bytes.ensures.value ∙ ap (λ (l : List Token). lexemes c.args.text.now l) c.as_slice.ensures.value in
    let p = err_from_is_err_and c.from_residual-in_err-read.result c.from_residual-in_err-read.ensures.1 in
    let fault = subst (λ (l : List Token). IsFaultOfTokensRead c.in_err-read.field-0.0 l c.as_slice-3.result.now) c.as_slice-2.ensures.value c.in_err-read.ensures.fault in
    rw (p.1, p.2) (no_module c.args.text.now c.in_ok-tokens.tokens.items fault.0 c.in_err-read.field-0.0 c.in_ok-tokens.ensures.found (subst (λ (l : List Lexeme). Fails fault.0 (module_at l)) is fault.1) fault.2)

pub returns-clause-found : goal.returns-clause-found
returns-clause-found c =
    let is : c.as_slice-3.result.now ≡ lexemes c.args.text.now c.in_ok-tokens.tokens.items =
    c.as_slice-3.ensures.value ∙ c.in_ok-lexemes.ensures ∙ ap (λ (t : List ℕ). lexemes t c.as_slice.result.now) c.as_bytes.ensures.value ∙ ap (λ (l : List Token). lexemes c.args.text.now l) c.as_slice.ensures.value in
    let read : module_at (lexemes c.args.text.now c.in_ok-tokens.tokens.items) ≡ Ok (c.in_ok-read.read.name, c.in_ok-read.read.defs) = subst (λ (l : List Lexeme). module_at l ≡ Ok (c.in_ok-read.read.name, c.in_ok-read.read.defs)) is c.in_ok-read.ensures.gives in
    found_there c.args.text.now c.distinct.result c.in_ok-read.read (derived c.args.text.now c.in_ok-tokens.tokens.items c.in_ok-read.read.name c.in_ok-read.read.defs c.in_ok-tokens.ensures.found read) c.distinct.ensures.found

pub returns-clause-fault : goal.returns-clause-fault
returns-clause-fault c =
    let is : c.as_slice-3.result.now ≡ lexemes c.args.text.now c.in_ok-tokens.tokens.items =
    c.as_slice-3.ensures.value ∙ c.in_ok-lexemes.ensures ∙ ap (λ (t : List ℕ). lexemes t c.as_slice.result.now) c.as_bytes.ensures.value ∙ ap (λ (l : List Token). lexemes c.args.text.now l) c.as_slice.ensures.value in
    let read : module_at (lexemes c.args.text.now c.in_ok-tokens.tokens.items) ≡ Ok (c.in_ok-read.read.name, c.in_ok-read.read.defs) = subst (λ (l : List Lexeme). module_at l ≡ Ok (c.in_ok-read.read.name, c.in_ok-read.read.defs)) is c.in_ok-read.ensures.gives in
    let begin : AllBegin (lexemes c.args.text.now c.in_ok-tokens.tokens.items) c.in_ok-read.starts.items c.in_ok-read.read.defs = subst (λ (l : List Lexeme). AllBegin l c.in_ok-read.starts.items c.in_ok-read.read.defs) is c.in_ok-read.ensures.starts in
    let fault = subst (λ (l : List Token). IfErr c.distinct.result (λ e. IsTwice e l c.as_slice-4.result.now c.in_ok-read.read.defs)) c.as_slice-5.ensures.value c.distinct.ensures.fault in
    fault_there c.args.text.now c.in_ok-tokens.tokens.items c.in_ok-read.starts.items c.distinct.result c.in_ok-read.read c.in_ok-tokens.ensures.found begin (derived c.args.text.now c.in_ok-tokens.tokens.items c.in_ok-read.read.name c.in_ok-read.read.defs c.in_ok-tokens.ensures.found read)
    (subst (λ (l : List ℕ). IfErr c.distinct.result (λ e. IsTwice e c.in_ok-tokens.tokens.items l c.in_ok-read.read.defs)) c.as_slice-4.ensures.value fault)

pub distinct-requires-clause-len : goal.distinct-requires-clause-len
distinct-requires-clause-len c = rw c.as_slice-4.ensures.value (all_len c.as_slice-3.result.now c.in_ok-read.starts.items c.in_ok-read.read.defs c.in_ok-read.ensures.starts)

pub distinct-requires-clause-within : goal.distinct-requires-clause-within
distinct-requires-clause-within c = λ i lt.
    let is : c.as_slice-3.result.now ≡ lexemes c.args.text.now c.in_ok-tokens.tokens.items =
    c.as_slice-3.ensures.value ∙ c.in_ok-lexemes.ensures ∙ ap (λ (t : List ℕ). lexemes t c.as_slice.result.now) c.as_bytes.ensures.value ∙ ap (λ (l : List Token). lexemes c.args.text.now l) c.as_slice.ensures.value in
    let size : length c.as_slice-3.result.now ≡ length c.in_ok-tokens.tokens.items = ap (λ (l : List Lexeme). length l) is ∙ length-map c.in_ok-tokens.tokens.items (lexeme_at c.args.text.now) in
    let found = all_within c.as_slice-3.result.now c.in_ok-read.starts.items c.in_ok-read.read.defs c.in_ok-read.ensures.starts i lt in
    rw (c.as_slice-4.ensures.value, c.as_slice-5.ensures.value) (found.0, subst (λ n. get_or c.in_ok-read.starts.items i 0 ≤ n) size found.1)
