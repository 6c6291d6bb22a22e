-- Texts of modules: their tokens have texts, and a text derives one module at most.
use Rattle.std.proofs.Common.{◌≡◌, ℕ, zero, suc, ◌+◌, ◌-◌, ◌<◌, ◌≤◌, true, List, [], ◌∷◌, ◌++◌, length, get_or, take, drop, Option, Some, None, Result, Ok, Err, rules, sym, refl, ap, ◌∙◌, subst, arith, length-drop, IsUtf8, ⊎_elim, inl, inr}
use Rattle.std.specs.Prelude.{IfOk, IfErr, IsOkUnless}
use Rattle.std.specs.Char.{is_ascii_digit}
use Rattle.std.proofs.lemmas.Str.{IsUtf8-from_ascii}
use Rattle.std.proofs.lemmas.List.{drop-drop, get_or_past, take_more, take_all}
use Rattle.std.proofs.lemmas.Bool.Decides.{nat_tests}
use Rattle.std.proofs.str.Laws.{order}
use Rattle.mon_smi.specs.declared.kind.TokenKind.{TokenKind}
use Rattle.mon_smi.specs.declared.kind.TokenKind.TheVariants as kinds
use Rattle.mon_smi.specs.declared.token.Token.{Token}
use Rattle.mon_smi.specs.declared.token.Piece.{Piece}
use Rattle.mon_smi.specs.declared.definition.Definition.{Definition}
use Rattle.mon_smi.specs.declared.definition.Module.{Module}
use Rattle.mon_smi.specs.declared.text_fault.TextFault.{TextFault}
use Rattle.mon_smi.specs.declared.text_fault.TextFault.TheVariants.{OutOfMemory, Unclosed, Unexpected, Duplicate}
use Rattle.mon_smi.specs.Words.{is_part, IsWord}
use Rattle.mon_smi.specs.Names.{AreDistinct, IsUndefined}
use Rattle.mon_smi.specs.Tokens.{AreAll, AreDigits, IsNumberToken, IsSpelled, IsPieceOf, IsTokenized, token_of, tokens_of, AreTokens, IsFaultOfTokens, RisesFrom}
use Rattle.mon_smi.specs.Lexemes.{Lexeme, AreTokensOf, lexemes}
use Rattle.mon_smi.specs.declared.read_fault.ReadFault.{ReadFault}
use Rattle.mon_smi.specs.declared.read_fault.ReadFault.TheVariants as read
use Rattle.mon_smi.specs.Reading.{Fails, module_at}
use Rattle.mon_smi.specs.Grammar.{Derives}
use Rattle.mon_smi.specs.ModuleFaults.{AllBegin, IsNoModule, IsBrokenOff, IsFaultOfReading, IsFaultOfModule, IsTwice}
use Rattle.mon_smi.proofs.ByPieces.{one_cut, not_stuck, piece_some, again}
use Rattle.mon_smi.proofs.Chains.{distinct_push, again_twice}
use Rattle.mon_smi.proofs.ForValues.{pair_parts}
use Rattle.mon_smi.proofs.ForModules.{module_takes, module_again}
use Rattle.mon_smi.proofs.Begun.{twice_at}

-- ---- words and numbers are ASCII

part_below : (b : ℕ) → is_part b ≡ true → b < 128
part_below b is = grind (arith, nat_tests)

digit_below : (b : ℕ) → is_ascii_digit b ≡ true → b < 128
digit_below b is = grind (arith, nat_tests)

pub word_utf8 : (w : List ℕ) → IsWord w → IsUtf8 w
word_utf8 w word = IsUtf8-from_ascii w each
  where
    each : (i : ℕ) → get_or w i 0 < 128
    each i =
        ⊎_elim
        (λ lt. ⊎_elim (λ part. part_below (get_or w i 0) part) (λ hyphen. let is : get_or w i 0 ≡ 45 = hyphen.0 in omega arith) (word.goes_on i lt))
        (λ le. let is : get_or w i 0 ≡ 0 = get_or_past w i 0 le in omega arith)
        (order i (length w))

digits_ascii : (digits : List ℕ) → AreAll is_ascii_digit digits → (i : ℕ) → get_or digits i 0 < 128
digits_ascii [] all i = omega arith
digits_ascii (b ∷ bs) all zero = digit_below b all.0
digits_ascii (b ∷ bs) all (suc i) = digits_ascii bs all.1 i

signed_ascii : (digits : List ℕ) → AreAll is_ascii_digit digits → (i : ℕ) → get_or (45 ∷ digits) i 0 < 128
signed_ascii digits all zero = omega arith
signed_ascii digits all (suc i) = digits_ascii digits all i

pub number_utf8 : (text : List ℕ) → IsNumberToken text → IsUtf8 text
number_utf8 text number =
    ⊎_elim (λ (digits : AreDigits text). IsUtf8-from_ascii text (digits_ascii text digits.1))
    (λ (signed : (digits : List ℕ) × (text ≡ 45 ∷ digits) × AreDigits digits). subst IsUtf8 (sym signed.1) (IsUtf8-from_ascii (45 ∷ signed.0) (signed_ascii signed.0 signed.2.1)))
    number

-- ---- tokens are in the text

piece_within : (kind : Option TokenKind) (n : ℕ) (rest : List ℕ) → IsPieceOf kind n rest → n ≤ length rest
piece_within None n rest piece = piece.0
piece_within (Some kind) n rest piece = piece.within

tokens_at : (text : List ℕ) (ps : List Piece) (start : ℕ) (rest : List ℕ) → rest ≡ drop start text → start ≤ length text → IsTokenized ps rest [] → AreTokensOf text (tokens_of start ps)
tokens_at text [] start rest is within read = tt
tokens_at text (p ∷ ps) start rest is within read =
    let below : p.len ≤ length rest = piece_within p.kind p.len rest read.0 in
    let lens : length rest ≡ length text - start = ap (λ (l : List ℕ). length l) is ∙ length-drop start text in
    let others : AreTokensOf text (tokens_of (start + p.len) ps) = tokens_at text ps (start + p.len) (drop p.len rest) (ap (λ (l : List ℕ). drop p.len l) is ∙ drop-drop p.len start text) (omega arith) read.1 in
    go p.kind read.0 others
  where
    go : (kind : Option TokenKind) → IsPieceOf kind p.len rest → AreTokensOf text (tokens_of (start + p.len) ps) → AreTokensOf text (token_of start p.len kind ++ tokens_of (start + p.len) ps)
    go None piece others = others
    go (Some kind) piece others =
        let below : p.len ≤ length rest = piece.within in
        let lens : length rest ≡ length text - start = ap (λ (l : List ℕ). length l) is ∙ length-drop start text in
        let size : p.len ≡ start + p.len - start = omega arith in (
          record {
            begun = omega arith;
            within = omega arith;
            spelled = subst (λ n. IsSpelled kind (take n (drop start text))) size (subst (λ (l : List ℕ). IsSpelled kind (take p.len l)) is piece.spelled);
          },
          others,
        )

pub tokens_stand : (text : List ℕ) (tokens : List Token) → AreTokens text tokens → AreTokensOf text tokens
tokens_stand text tokens are = subst (λ (l : List Token). AreTokensOf text l) (sym are.2) (tokens_at text are.0 0 text refl (omega arith) are.1)

rises : (ps : List Piece) (at start : ℕ) (rest : List ℕ) → at ≤ start → IsTokenized ps rest [] → RisesFrom at (tokens_of start ps)
rises [] at start rest le read = tt
rises (p ∷ ps) at start rest le read =
    let some : 0 < p.len = piece_some rest p (again rest p read.0) in
    go p.kind some (rises ps at (start + p.len) (drop p.len rest) (omega arith) read.1) (rises ps (start + p.len) (start + p.len) (drop p.len rest) (omega arith) read.1)
  where
    go : (kind : Option TokenKind) → 0 < p.len → RisesFrom at (tokens_of (start + p.len) ps) → RisesFrom (start + p.len) (tokens_of (start + p.len) ps) → RisesFrom at (token_of start p.len kind ++ tokens_of (start + p.len) ps)
    go None some passed behind = passed
    go (Some kind) some passed behind = (le, omega arith, behind)

pub tokens_rise : (text : List ℕ) (tokens : List Token) → AreTokens text tokens → RisesFrom 0 tokens
tokens_rise text tokens are = subst (λ (l : List Token). RisesFrom 0 l) (sym are.2) (rises are.0 0 0 text (omega arith) are.1)

-- ---- modules

pub derived : (text : List ℕ) (tokens : List Token) (name : List ℕ) (defs : List Definition) → AreTokens text tokens → module_at (lexemes text tokens) ≡ Ok (name, defs) → Derives text name defs
derived text tokens name defs are is = record { tokens = tokens; cut = are; is_module = module_takes (lexemes text tokens) name defs is }

read_of : (text : List ℕ) (tokens : List Token) (name : List ℕ) (defs : List Definition) → AreTokens text tokens → Derives text name defs → module_at (lexemes text tokens) ≡ Ok (name, defs)
read_of text tokens name defs are is =
    ap (λ (l : List Token). module_at (lexemes text l)) (one_cut text tokens is.tokens are is.cut) ∙ module_again (lexemes text is.tokens) name defs is.is_module

pub one_module : (text : List ℕ) (v w : List ℕ) (a b : List Definition) → Derives text v a → Derives text w b → (v ≡ w) × (a ≡ b)
one_module text v w a b one other =
    pair_parts v w a b (sym (read_of text one.tokens v a one.cut one) ∙ read_of text one.tokens w b one.cut other)

-- a text that is not cut into tokens, or whose tokens are no module, derives none
pub no_tokens : (text : List ℕ) (e : TextFault) → IsFaultOfTokens e text → IsFaultOfModule e text
no_tokens text OutOfMemory fault = tt
no_tokens text Unclosed fault = ((λ name defs is. not_stuck text is.tokens fault.0 fault.1 is.cut fault.2), inl fault)
no_tokens text (Unexpected span) fault = ((λ name defs is. not_stuck text is.tokens span.start fault.0 is.cut fault.1), inl fault)
no_tokens text (Duplicate span) fault = absurd fault

none_derived : (text : List ℕ) (tokens : List Token) (rest : List Lexeme) → AreTokens text tokens → module_at (lexemes text tokens) ≡ Err rest → IsNoModule text
none_derived text tokens rest are is = λ name defs derives. let read = read_of text tokens name defs are derives in absurd (cc)

pub broken : (text : List ℕ) (tokens : List Token) (rest : List Lexeme) (e : TextFault) → AreTokens text tokens → module_at (lexemes text tokens) ≡ Err rest → IsBrokenOff e tokens (length rest) → IsFaultOfModule e text
broken text tokens rest OutOfMemory are is off = absurd off
broken text tokens rest Unclosed are is off = (none_derived text tokens rest are is, inr (tokens, rest, are, is, off))
broken text tokens rest (Unexpected span) are is off = (none_derived text tokens rest are is, inr (tokens, rest, are, is, off))
broken text tokens rest (Duplicate span) are is off = absurd off

-- what reading gives is the module's fault
pub no_module : (text : List ℕ) (tokens : List Token) (f : ReadFault) (e : TextFault) → AreTokens text tokens → Fails f (module_at (lexemes text tokens)) → IsFaultOfReading e tokens f → IsFaultOfModule e text
no_module text tokens read.OutOfMemory e are fails is = subst (λ x. IsFaultOfModule x text) (sym is) tt
no_module text tokens (read.BrokenOff rest) e are fails is = broken text tokens rest.now e are fails is

pub twice_there : (text name : List ℕ) (tokens : List Token) (starts : List ℕ) (defs : List Definition) (e : TextFault) → AreTokens text tokens → AllBegin (lexemes text tokens) starts defs → Derives text name defs → IsTwice e tokens starts defs → IsFaultOfModule e text
twice_there text name tokens starts defs OutOfMemory are begin is fault = fault
twice_there text name tokens starts defs Unclosed are begin is fault = absurd fault
twice_there text name tokens starts defs (Unexpected span) are begin is fault = absurd fault
twice_there text name tokens starts defs (Duplicate span) are begin is fault = twice_at text name tokens starts defs span are is begin fault

-- a text that derives distinct definitions has no other fault than out of memory
pub no_fault : {V : Type 0} (text name : List ℕ) (defs : List Definition) (r : Result V TextFault) → IfErr r (λ e. IsFaultOfModule e text) → Derives text name defs → AreDistinct defs → IsOkUnless r OutOfMemory
no_fault text name defs (Ok v) fault is distinct = search rules
no_fault text name defs (Err OutOfMemory) fault is distinct = search rules
no_fault text name defs (Err Unclosed) fault is distinct = absurd (fault.0 name defs is)
no_fault text name defs (Err (Unexpected span)) fault is distinct = absurd (fault.0 name defs is)
no_fault text name defs (Err (Duplicate span)) fault is distinct =
    let same = one_module text name fault.0 defs fault.1 is fault.4 in
    absurd (again_twice fault.1 fault.2 fault.3 fault.5 (subst AreDistinct same.1 distinct))

pub word_slice : (kind : TokenKind) (slice text : List ℕ) → kind ≡ kinds.Word → slice ≡ text → IsSpelled kind text → IsUtf8 slice
word_slice kind slice text is same spelled = subst IsUtf8 (sym same) (word_utf8 text (subst (λ (k : TokenKind). IsSpelled k text) is spelled))

pub number_slice : (kind : TokenKind) (slice text : List ℕ) → kind ≡ kinds.Number → slice ≡ text → IsSpelled kind text → IsUtf8 slice
number_slice kind slice text is same spelled = subst IsUtf8 (sym same) (number_utf8 text (subst (λ (k : TokenKind). IsSpelled k text) is spelled))

-- ---- distinct names

pub more_distinct : (defs : List Definition) (i : ℕ) (d : Definition) (w : List ℕ) → i < length defs → d ≡ get_or defs i d → AreDistinct (take i defs) → w ≡ d.name → IsUndefined (take i defs) w → AreDistinct (take (i + 1) defs)
more_distinct defs i d w lt is distinct named undefined =
    let more : take i defs ++ d ∷ [] ≡ take (i + 1) defs = ap (λ (y : Definition). take i defs ++ y ∷ []) is ∙ sym (take_more defs i d lt) in
    subst AreDistinct more (distinct_push (take i defs) d distinct (subst (λ (v : List ℕ). IsUndefined (take i defs) v) named undefined))

pub all_distinct : (defs : List Definition) (i : ℕ) → length defs ≤ i → AreDistinct (take i defs) → AreDistinct defs
all_distinct defs i le distinct = subst AreDistinct (take_all i defs le) distinct

pub found_there : (text : List ℕ) (r : Result Module TextFault) (read : Module) → Derives text read.name read.defs → IfOk r (λ m. (m ≡ read) × AreDistinct m.defs) → IfOk r (λ m. Derives text m.name m.defs × AreDistinct m.defs)
found_there text (Ok m) read is found = (subst (λ (x : Module). Derives text x.name x.defs) (sym found.0) is, found.1)
found_there text (Err e) read is found = tt

pub fault_there : (text : List ℕ) (tokens : List Token) (starts : List ℕ) (r : Result Module TextFault) (read : Module) → AreTokens text tokens → AllBegin (lexemes text tokens) starts read.defs → Derives text read.name read.defs → IfErr r (λ e. IsTwice e tokens starts read.defs) → IfErr r (λ e. IsFaultOfModule e text)
fault_there text tokens starts (Ok m) read are begin is fault = tt
fault_there text tokens starts (Err e) read are begin is fault = twice_there text read.name tokens starts read.defs e are begin is fault
