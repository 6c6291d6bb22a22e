-- A variable binding that is written in two parts: up to its value, and its value.
use Rattle.std.proofs.Common.{◌≡◌, ℕ, ◌+◌, List, ◌∷◌, ◌++◌, length, sym, ap, ◌∙◌, arith}
use Rattle.mon_ber.specs.declared.value.Value.{Value}
use Rattle.mon_ber.specs.declared.value.Value.TheVariants.{Name}
use Rattle.mon_ber.specs.Writing.{contents_of, length_octets, name_octets, size_for, written}
use Rattle.mon_ber.proofs.Promised.{written_size}
use Rattle.mon_pdu.specs.declared.message.Binding.{Binding}
use Rattle.mon_pdu.specs.Writing.{written_binding}
use Rattle.mon_pdu.proofs.Lengths.{behind_header, binding_sum, binding_text}

pub header_length : (n : ℕ) → length (0x30 ∷ length_octets n) + n ≡ size_for n
unfolding size_for
header_length n = omega arith

-- the size of a value whose contents are counted
pub summed : (v : Value) (n m : ℕ) → n ≡ length (contents_of v) → m ≡ size_for n → m ≡ length (written v)
summed v n m counted is = is ∙ ap size_for counted ∙ sym (written_size v)

pub both_parts : (b : Binding) (n : ℕ) (old head last : List ℕ) → n ≡ length (contents_of b.value)
    → head ≡ (old ++ (0x30 ∷ length_octets (size_for (length (name_octets b.name)) + size_for n))) ++ written (Name b.name)
    → last ≡ head ++ written b.value → last ≡ old ++ written_binding b
both_parts b n old head last counted first second =
    let k = size_for (length (name_octets b.name)) + size_for (length (contents_of b.value)) in
    second
    ∙ ap (λ t. t ++ written b.value) (first ∙ ap (λ m. (old ++ (0x30 ∷ length_octets (size_for (length (name_octets b.name)) + size_for m))) ++ written (Name b.name)) counted)
    ∙ behind_header old (0x30 ∷ length_octets k) (written (Name b.name)) (written b.value)
    ∙ ap (λ t. old ++ t) (binding_text b k (sym (binding_sum b)))
