use Rattle.std.proofs.Common.{List, ℕ, ◌≡◌, ◌++◌, string_bytes, ap, sym, subst, ◌∙◌, append_assoc, ◌-◌, length, take, drop}
use Rattle.std.specs.Prelude.{OnOk}
use Rattle.mon_smi.specs.Nearest.{dotted_after}
use Rattle.mon_smi.proofs.Labelled.{dotted_front}
use Rattle.mon_smi.proofs.labels.put_dotted.Goals as goal

pub returns : goal.returns
returns c =
    subst (λ (t : List ℕ). OnOk c.put_numbers.result (string_bytes c.put_numbers.new.text ≡ t))
    (ap (λ (t : List ℕ). t ++ dotted_after (take (length c.args.numbers.now - 1) (drop 1 c.args.numbers.now))) (c.in_ok-push_str.ensures.bytes ∙ ap (λ (t : List ℕ). string_bytes c.args.text.now ++ t) c.format.ensures.text)
    ∙ append_assoc (string_bytes c.args.text.now) _ _
    ∙ ap (λ (t : List ℕ). string_bytes c.args.text.now ++ t) (sym (dotted_front c.args.numbers.now c.in-len1-up.len_at_least)))
    c.put_numbers.ensures
