-- A poll within its limits is far shorter than what can be written.
use Rattle.std.proofs.Common.{◌≡◌, ℕ, ◌+◌, ◌≤◌, ◌<◌, ◌^◌, Bool, true, false, ℤ, pos, negsuc, List, [], ◌∷◌, ◌++◌, length, ap, ◌∙◌, arith}
use Rattle.std.specs.Prelude.{nat_lt, if◌then◌else◌}
use Rattle.std.specs.Int.{bytes_high_first, cast_unsigned, w128}
use Rattle.std.proofs.lemmas.List.{length-append}
use Rattle.std.proofs.lemmas.List.Concat.{flat_map-append}
use Rattle.mon_ber.specs.declared.value.Value.TheVariants.{Integer, Octets, Null, Name}
use Rattle.mon_ber.specs.Writing.{length_octets, length_width, number_octets, octets_for, size_for, width, written}
use Rattle.mon_ber.proofs.Promised.{length-element, length-high_first, written_size}
use Rattle.mon_pdu.specs.declared.message.Binding.{Binding}
use Rattle.mon_pdu.specs.declared.message.Message.{Message}
use Rattle.mon_pdu.specs.Grammar.{bindings_of, first_of, second_of, third_of, tag_of}
use Rattle.mon_pdu.specs.Writing.{binding_contents, body_contents, list_contents, message_contents, leading_integers, written_binding, written_body, written_list}
use Rattle.mon_poller.specs.declared.target.Target.{Target}
use Rattle.mon_poller.specs.Target.{IsAsked, IsTarget, poll_message}

either : (c : Bool) (a b k : ℕ) → a ≤ k → b ≤ k → (if c then a else b) ≤ k
either true a b k p q = p
either false a b k p q = q

either_list : (c : Bool) (a b : List ℕ) (k : ℕ) → length a ≤ k → length b ≤ k → length (if c then a else b) ≤ k
either_list true a b k p q = p
either_list false a b k p q = q

octets_few : (n : ℕ) → octets_for n ≤ 9
octets_few n =
    either (nat_lt n (2 ^ 7)) _ _ 9 (omega arith) (either (nat_lt n (2 ^ 15)) _ _ 9 (omega arith) (either (nat_lt n (2 ^ 23)) _ _ 9 (omega arith)
    (either (nat_lt n (2 ^ 31)) _ _ 9 (omega arith) (either (nat_lt n (2 ^ 39)) _ _ 9 (omega arith) (either (nat_lt n (2 ^ 47)) _ _ 9 (omega arith)
    (either (nat_lt n (2 ^ 55)) _ _ 9 (omega arith) (either (nat_lt n (2 ^ 63)) _ _ 9 (omega arith) (omega arith))))))))

width_few : (z : ℤ) → width z ≤ 9
width_few (pos n) = octets_few n
width_few (negsuc n) = octets_few n

number_few : (z : ℤ) → length (number_octets z) ≤ 9
unfolding number_octets
number_few z = omega (arith, width_few z, length-high_first (width z) (cast_unsigned w128 z))

length_few : (n : ℕ) → length_width n ≤ 4
length_few n = either (nat_lt n (2 ^ 8)) _ _ 4 (omega arith) (either (nat_lt n (2 ^ 16)) _ _ 4 (omega arith) (either (nat_lt n (2 ^ 24)) _ _ 4 (omega arith) (omega arith)))

header_few : (n : ℕ) → length (length_octets n) ≤ 5
unfolding length_octets
header_few n = either_list (nat_lt n 128) (n ∷ []) ((128 + length_width n) ∷ bytes_high_first (length_width n) n) 5 (omega arith)
    (omega (arith, length_few n, length-high_first (length_width n) n))

size_few : (n : ℕ) → size_for n ≤ n + 6
unfolding size_for
size_few n = omega (arith, header_few n)

integer_few : (z : ℤ) → length (written (Integer z)) ≤ 15
integer_few z = omega (arith, written_size (Integer z), size_few (length (number_octets z)), number_few z)

null_few : length (written Null) ≤ 6
null_few = omega (arith, written_size Null, size_few 0)

binding_size : (b : Binding) → length (written_binding b) ≡ size_for (length (binding_contents b))
unfolding written_binding
binding_size b = length-element 0x30 (binding_contents b)

-- a binding with a short name and no value
pub binding_few : (name : List ℕ) → length (written (Name name)) ≤ 651 → length (written_binding (record { name = name; value = Null })) ≤ 663
binding_few name short =
    let b : Binding = record { name = name; value = Null } in
    omega (arith, binding_size b, size_few (length (binding_contents b)), length-append (written (Name name)) (written Null), null_few, short)

-- one binding more
pub one_more : (bs : List Binding) (b : Binding) (n : ℕ) → length (written_binding b) ≤ 663 → length (list_contents bs) ≤ n → length (list_contents (bs ++ b ∷ [])) ≤ n + 663
one_more bs b n short before =
    let parts : length (list_contents (bs ++ b ∷ [])) ≡ length (list_contents bs) + length (written_binding b) =
    ap length (flat_map-append written_binding bs (b ∷ [])) ∙ length-append (list_contents bs) (written_binding b ++ []) ∙ ap (λ k. length (list_contents bs) + k) (length-append (written_binding b) [] ∙ omega arith) in
    omega (arith, parts, short, before)

list_size : (bs : List Binding) → length (written_list bs) ≡ size_for (length (list_contents bs))
unfolding written_list
list_size bs = length-element 0x30 (list_contents bs)

-- a message with a short community and short bindings
module _ (m : Message) (community : length m.community ≤ 512) (list : length (list_contents (bindings_of m.body)) ≤ 100000) where
  numbers_few : length (leading_integers m.body) ≤ 45
  numbers_few =
      let a = written (Integer (first_of m.body)) in
      let b = written (Integer (second_of m.body)) in
      let c = written (Integer (third_of m.body)) in
      omega (arith, length-append (a ++ b) c, length-append a (b ++ c), length-append a b, length-append b c, integer_few (first_of m.body), integer_few (second_of m.body), integer_few (third_of m.body))

  body_size : length (written_body m.body) ≡ size_for (length (body_contents m.body))
  unfolding written_body
  body_size = length-element (tag_of m.body) (body_contents m.body)

  body_few : length (written_body m.body) ≤ 100057
  body_few =
      omega (arith, body_size, size_few (length (body_contents m.body)), length-append (leading_integers m.body) (written_list (bindings_of m.body)), numbers_few, list_size (bindings_of m.body), size_few (length (list_contents (bindings_of m.body))), list)

  pub message_few : length (message_contents m) < 2 ^ 32
  message_few =
      let version = written (Integer (pos 1)) in
      let octets = written (Octets m.community) in
      omega (arith, length-append version (octets ++ written_body m.body), length-append octets (written_body m.body), integer_few (pos 1), written_size (Octets m.community), size_few (length m.community), community, body_few)

-- a poll of a target within its limits
pub poll_few : (t : Target) (id : ℕ) → IsTarget t → {list : List ℕ} → IsAsked t list → length (message_contents (poll_message t id)) < 2 ^ 32
poll_few t id within asked =
    message_few (poll_message t id) within.community.1 (omega (arith, ap length asked.asked, asked.few))
