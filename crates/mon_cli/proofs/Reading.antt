-- What is read of matches.
use Rattle.std.proofs.Common.{◌≡◌, ◌∙◌, ℕ, ℤ, List, [], Option, Some, None, Result, Ok, Err, refl, sym, subst, ap, option_map, unwrap_or}
use Rattle.std.specs.Borrow.{Bor}
use Rattle.std.specs.Prelude.{OkIff}
use Rattle.std.specs.Option.{UnwrapsOrElse}
use Rattle.clap.specs.Words.{ReadsOne, Text, all_of, first_of, found_of, one_of, one_text, rows_of, first_value, raw_values, matched_of}
use Rattle.clap.specs.Walk.{texts}
use Rattle.clap.proofs.WalkLemmas.{first_value-rows, one_text-rows, raw_values-rows}
use Rattle.clap.specs.declared.parser.matches.ArgMatches.{ArgMatches}
use Rattle.std.specs.Str.Parse.{ParsesSigned, ParsesUnsigned}
use Rattle.std.specs.Int.{w32}
use Rattle.mon_cli.specs.Invocation.{IsIf, IsInteger, IsNumber}

-- what a text that `from_str` reads gives
pub spelled : {T E : Type 0} (G : List ℕ → Result T E → Type 0) (P : Type 0) (v : T) (t : Text) (r : Option T)
    → ((u : Result T E) → G t u → OkIff u P v) → ReadsOne G t r → IsIf P v r
spelled G P v t (Some x) means reads = means (Ok x) reads
spelled G P v t None means reads = means (Err reads.0) reads.1

-- and where there may be no text
module _ (m : ArgMatches) (id : Text) where
  pub first_read : (r : Option (Bor Text)) → option_map (λ x. x.now) r ≡ first_value (found_of m) id → first_of id (rows_of (found_of m)) ≡ option_map (λ x. x.now) r
  first_read r e = sym (e ∙ first_value-rows (found_of m) id)

  pub all_read : (r : Option (Bor (List (Bor Text)))) → option_map (λ s. texts s.now) r ≡ option_map raw_values (matched_of (found_of m) id)
      → all_of id (rows_of (found_of m)) ≡ option_map (λ s. texts s.now) r
  all_read r e = sym (e ∙ raw_values-rows (found_of m) id)

  pub number_read : {E : Type 0} (B C : List ℕ → Result ℕ E → Type 0) (bits : ℕ) (r : Option ℕ) → (one_text (found_of m) id ≡ None → r ≡ None)
      → ((t : Text) → one_text (found_of m) id ≡ Some t → ReadsOne (λ bs u. ParsesUnsigned bits 10 bs u × B bs u × C bs u) t r)
      → IsNumber bits (one_of id (rows_of (found_of m))) r
  number_read {E} B C bits r none value = subst (λ (o : Option Text). IsNumber bits o r) (one_text-rows (found_of m) id) (go (one_text (found_of m) id) none value)
    where
      go : (o : Option Text) → (o ≡ None → r ≡ None) → ((t : Text) → o ≡ Some t → ReadsOne {E = E} (λ bs u. ParsesUnsigned bits 10 bs u × B bs u × C bs u) t r) → IsNumber bits o r
      go None none value = none refl
      go (Some t) none value = spelled {E = E} (λ bs u. ParsesUnsigned bits 10 bs u × B bs u × C bs u) _ _ t r (λ u given. given.0) (value t refl)

  pub integer_read : {E : Type 0} (B C : List ℕ → Result ℤ E → Type 0) (r : Option ℤ) → (one_text (found_of m) id ≡ None → r ≡ None)
      → ((t : Text) → one_text (found_of m) id ≡ Some t → ReadsOne (λ bs u. ParsesSigned w32 10 bs u × B bs u × C bs u) t r)
      → IsInteger (one_of id (rows_of (found_of m))) r
  integer_read {E} B C r none value = subst (λ (o : Option Text). IsInteger o r) (one_text-rows (found_of m) id) (go (one_text (found_of m) id) none value)
    where
      go : (o : Option Text) → (o ≡ None → r ≡ None) → ((t : Text) → o ≡ Some t → ReadsOne {E = E} (λ bs u. ParsesSigned w32 10 bs u × B bs u × C bs u) t r) → IsInteger o r
      go None none value = none refl
      go (Some t) none value = spelled {E = E} (λ bs u. ParsesSigned w32 10 bs u × B bs u × C bs u) _ _ t r (λ u given. given.0) (value t refl)

pub all_or : (r : Option (Bor (List (Bor Text)))) (s : Bor (List (Bor Text))) → UnwrapsOrElse r (λ x. x.now ≡ []) s
    → texts s.now ≡ unwrap_or (option_map (λ x. texts x.now) r) []
all_or (Some x) s is = ap (λ (y : Bor (List (Bor Text))). texts y.now) is
all_or None s none = ap texts none

pub text_or : (r : Option (Bor Text)) (s : Bor Text) → UnwrapsOrElse r (λ x. x.now ≡ []) s → s.now ≡ unwrap_or (option_map (λ x. x.now) r) []
text_or (Some x) s is = ap (λ (y : Bor Text). y.now) is
text_or None s none = none
