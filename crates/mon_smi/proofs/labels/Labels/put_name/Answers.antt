use Rattle.std.proofs.Common.{◌≡◌, List, ℕ, Option, Bor, ap, sym, refl, subst, ◌∙◌, string_bytes}
use Rattle.std.specs.Prelude.{OnOk}
use Rattle.std.specs.Option.{option_map}
use Rattle.mon_smi.proofs.Labelled.{with_name, without_name}
use Rattle.mon_smi.proofs.labels.Labels.put_name.Goals as goal

pub returns-in_ok-push_str-in-Some-clause-text : goal.returns-in_ok-push_str-in-Some-clause-text
returns-in_ok-push_str-in-Some-clause-text c =
    subst (λ (t : List ℕ). OnOk c.put_numbers.result (string_bytes c.put_numbers.new.text ≡ t))
    (with_name c.args.self.now c.args.oid.now c.parts-parts.result.now c.in-Some.name.now (string_bytes c.args.text.now) (string_bytes c.push_str.new.self) c.in-Some.len c.parts-parts.ensures.parts
    (sym c.nearest.ensures.longest ∙ ap (λ (r : Option (Bor (List ℕ) × ℕ)). option_map (λ (b : Bor (List ℕ) × ℕ). (b.0.now, b.1)) r) c.in-Some.is) c.in_ok-push_str-in-Some.ensures.bytes)
    c.put_numbers.ensures

pub returns-in-None-clause-text : goal.returns-in-None-clause-text
returns-in-None-clause-text c =
    subst (λ (t : List ℕ). OnOk c.put_dotted.result (string_bytes c.put_dotted.new.text ≡ t))
    (without_name c.args.self.now c.args.oid.now c.parts-parts.result.now (string_bytes c.args.text.now) c.parts-parts.ensures.parts
    (sym c.nearest.ensures.longest ∙ ap (λ (r : Option (Bor (List ℕ) × ℕ)). option_map (λ (b : Bor (List ℕ) × ℕ). (b.0.now, b.1)) r) c.in-None.is))
    c.put_dotted.ensures

pub returns-in_err-push_str-in-Some-clause-name : goal.returns-in_err-push_str-in-Some-clause-name
returns-in_err-push_str-in-Some-clause-name c = (c.one_text.ensures c.args.self.now c.args.oid.now _ c.nearest.ensures.distinct c.parts-parts.ensures.oid).0 refl

pub returns-in_ok-push_str-in-Some-clause-name : goal.returns-in_ok-push_str-in-Some-clause-name
returns-in_ok-push_str-in-Some-clause-name c = (c.one_text.ensures c.args.self.now c.args.oid.now _ c.nearest.ensures.distinct c.parts-parts.ensures.oid).0 refl

pub returns-in-None-clause-name : goal.returns-in-None-clause-name
returns-in-None-clause-name c = (c.one_text.ensures c.args.self.now c.args.oid.now _ c.nearest.ensures.distinct c.parts-parts.ensures.oid).0 refl
