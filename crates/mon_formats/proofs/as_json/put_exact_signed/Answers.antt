use Rattle.std.proofs.Common.{◌≡◌, ℕ, List, ◌∙◌, ◌++◌, ap, sym, append_assoc, arith, codes}
use Rattle.std.proofs.lemmas.Int.{to_z-of_z}
use Rattle.std.specs.Fmt.{signed_decimal}
use Rattle.std.specs.Int.{w128}
use Rattle.std.specs.Prelude.{unsigned_abs}
use Rattle.mon_formats.proofs.Pushed.{when_added}
use Rattle.mon_formats.proofs.Samples.{large_text}
use Rattle.mon_formats.proofs.as_json.put_exact_signed.Goals as goal

-- digits between quotes, after the text before them
between : (old before quote digits : List ℕ) → ((old ++ before) ++ (quote ++ digits)) ++ quote ≡ old ++ (before ++ (quote ++ (digits ++ quote)))
between old before quote digits = simp append_assoc

pub returns : goal.returns
returns c =
    let number = c.args.number in
    let old = c.args.text.now.items in
    let before = c.args.before.now in
    let same = to_z-of_z w128 number c.ranges.number in
    let size : c.unsigned_abs.result ≡ unsigned_abs number = c.unsigned_abs.ensures.value ∙ ap unsigned_abs same in
    let text = large_text number (omega (arith, size, c.if-unsigned_abs-from.false, c.from.ensures)) (omega (arith, size, c.unsigned_abs.ensures.bound)) in
    let digits = c.in_ok-put_digits.ensures ∙ ap (λ z. c.extend_from_slice.new.self.items ++ (codes "\"" ++ signed_decimal z)) same in
    when_added _ c.extend_from_slice-2.result _ _ _ c.extend_from_slice-2.ensures.items
    (λ end.
    end
    ∙ ap (λ l. l ++ codes "\"") (digits ∙ ap (λ l. l ++ (codes "\"" ++ signed_decimal number)) c.in_ok-extend_from_slice.ensures.items)
    ∙ between old before (codes "\"") (signed_decimal number)
    ∙ ap (λ l. old ++ (before ++ l)) (sym text))
