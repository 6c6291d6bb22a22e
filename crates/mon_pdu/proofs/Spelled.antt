-- What is written for a message is one of its spellings.
use Rattle.std.proofs.Common.{◌≡◌, ℕ, ◌+◌, ◌<◌, ◌≤◌, ◌^◌, pos, List, [], ◌∷◌, ◌++◌, length, Ok, refl, subst, ◌∙◌, append_assoc, arith}
use Rattle.std.specs.Prelude.{FitsSigned}
use Rattle.std.specs.Int.{w32}
use Rattle.std.specs.List.{AllByRecursion}
use Rattle.std.proofs.lemmas.List.{length-append}
use Rattle.mon_ber.specs.declared.value.Value.{Value}
use Rattle.mon_ber.specs.declared.value.Value.TheVariants.{Integer, Octets, Name}
use Rattle.mon_ber.specs.Grammar.{IsElement}
use Rattle.mon_ber.specs.Sequence.{AreSpelled}
use Rattle.mon_ber.specs.Writing.{contents_of, element, written}
use Rattle.mon_ber.proofs.Promised.{written_size, size_longer, element_written, value_written}
use Rattle.mon_pdu.specs.declared.message.Binding.{Binding}
use Rattle.mon_pdu.specs.declared.message.Body.{Body}
use Rattle.mon_pdu.specs.declared.message.Message.{Message}
use Rattle.mon_pdu.specs.Grammar.{tag_of, first_of, second_of, third_of, bindings_of, IsBinding, IsList, IsBody, IsMessage}
use Rattle.mon_pdu.specs.Reading.{message_at}
use Rattle.mon_pdu.specs.Writing.{binding_contents, written_binding, list_contents, written_list, leading_integers, body_contents, written_body, message_contents, written_message, HasLength, IsValidBinding, IsValid}
use Rattle.mon_pdu.proofs.Lengths.{binding_length, binding_total, numbers_total, message_total, list_fits, body_fits, flat_length}
use Rattle.mon_pdu.proofs.Whole.{message_again}

-- a value of at most n octets has a length
within : (v : Value) (n : ℕ) → length (written v) ≤ n → n < 2 ^ 32 → length (contents_of v) < 2 ^ 32
within v n le lt = omega (arith, written_size v, size_longer (length (contents_of v)), le, lt)

binding_spelled : (b : Binding) → IsValidBinding b → length (binding_contents b) < 2 ^ 32 → IsBinding (written_binding b) b
unfolding written_binding
binding_spelled b is fits =
    let total = binding_total b in
    record {
      name = written (Name b.name);
      value = written b.value;
      element = element_written 0x30 (binding_contents b) fits;
      spelled_name = value_written (Name b.name) is.name (within (Name b.name) (length (binding_contents b)) (omega (arith, total)) fits);
      spelled_value = value_written b.value is.value (within b.value (length (binding_contents b)) (omega (arith, total)) fits);
    }

each_spelled : (bs : List Binding) → AllByRecursion IsValidBinding bs → length (list_contents bs) < 2 ^ 32 → AreSpelled IsBinding (list_contents bs) bs
each_spelled [] is fits = refl
each_spelled (b ∷ bs) is fits =
    let total = flat_length b bs in
    let inside : length (binding_contents b) < 2 ^ 32 = omega (arith, total, binding_length b, size_longer (length (binding_contents b)), fits) in
    let others : length (list_contents bs) < 2 ^ 32 = omega (arith, total, fits) in
    (written_binding b, list_contents bs, refl, binding_spelled b is.0 inside, each_spelled bs is.1 others)

list_spelled : (bs : List Binding) → AllByRecursion IsValidBinding bs → length (list_contents bs) < 2 ^ 32 → IsList (written_list bs) bs
unfolding written_list
list_spelled bs is fits = record { contents = list_contents bs; element = element_written 0x30 (list_contents bs) fits; each = each_spelled bs is fits }

body_spelled : (m : Message) → IsValid m → length (body_contents m.body) < 2 ^ 32 → IsBody (written_body m.body) m.body
unfolding written_body
body_spelled m is fits =
    let body : Body = m.body in
    let n : ℕ = length (body_contents body) in
    let total : n ≡ length (leading_integers body) + length (written_list (bindings_of body)) = length-append (leading_integers body) (written_list (bindings_of body)) in
    let numbers = numbers_total body in
    let a : List ℕ = written (Integer (first_of body)) in
    let b : List ℕ = written (Integer (second_of body)) in
    let c : List ℕ = written (Integer (third_of body)) in
    let list : List ℕ = written_list (bindings_of body) in
    let grouped : body_contents body ≡ a ++ (b ++ (c ++ list)) = append_assoc (a ++ b) c list ∙ append_assoc a b (c ++ list) in
    record {
      first = a;
      second = b;
      third = c;
      list = list;
      element = subst (λ (w : List ℕ). IsElement (tag_of body) w (element (tag_of body) (body_contents body))) grouped (element_written (tag_of body) (body_contents body) fits);
      spelled_first = value_written (Integer (first_of body)) is.first (within (Integer (first_of body)) n (omega (arith, total, numbers)) fits);
      spelled_second = value_written (Integer (second_of body)) is.second (within (Integer (second_of body)) n (omega (arith, total, numbers)) fits);
      spelled_third = value_written (Integer (third_of body)) is.third (within (Integer (third_of body)) n (omega (arith, total, numbers)) fits);
      spelled_list = list_spelled (bindings_of body) is.bindings (list_fits body fits);
    }

pub message_spelled : (m : Message) → IsValid m → HasLength m → IsMessage (written_message m) m
unfolding written_message
message_spelled m is fits =
    let inside = body_fits m fits in
    let one : FitsSigned w32 (pos 1) = record { sfits = omega arith } in
    let n : ℕ = length (message_contents m) in
    record {
      version = written (Integer (pos 1));
      community = written (Octets m.community);
      body = written_body m.body;
      element = element_written 0x30 (message_contents m) fits;
      spelled_version = value_written (Integer (pos 1)) one (within (Integer (pos 1)) n (omega (arith, message_total m)) fits);
      spelled_community = value_written (Octets m.community) tt inside.1;
      spelled_body = body_spelled m is inside.0;
    }

pub message_read_back : (m : Message) (rest : List ℕ) → IsValid m → HasLength m → message_at (written_message m ++ rest) ≡ Ok m
message_read_back m rest is fits = message_again (written_message m) m rest (message_spelled m is fits)
