use Rattle.std.proofs.Common.{◌≡◌, sym, ◌∙◌}
use Rattle.std.specs.Prelude.{map, string_bytes}
use Rattle.std.specs.List.{AllZip}
use Rattle.mon_survey.proofs.Steps.{moved}
use Rattle.mon_survey.proofs.kept.are_kept_others.Goals as goal

pub returns : goal.returns
returns c = (
  λ t. record {
    modules = moved (λ a b. AllZip (λ x y. x ≡ y) (map string_bytes a) (map string_bytes b)) c.as_slice.ensures.value c.as_slice-2.ensures.value (c.are_same_texts.ensures.0 c.if-not-are_same_texts.false);
    peers = sym c.peers.ensures.peers ∙ (c.are_same_numbers.ensures.0 c.if-not-are_same_numbers.false ∙ c.peers-2.ensures.peers);
    addresses = moved (λ a b. AllZip (λ x y. x ≡ y) a b) c.as_slice-3.ensures.value c.as_slice-4.ensures.value (c.are_same_addresses.ensures.0 t);
  },
  λ kept. c.are_same_addresses.ensures.1 (moved (λ a b. AllZip (λ x y. x ≡ y) a b) (sym c.as_slice-3.ensures.value) (sym c.as_slice-4.ensures.value) kept.addresses),
)
