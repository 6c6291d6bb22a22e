-- The size of a message by the size of its variable bindings.
use Rattle.std.proofs.Common.{◌≡◌, ℕ, ◌+◌, ◌<◌, ◌≤◌, ℤ, pos, negsuc, List, [], ◌∷◌, ◌++◌, length, ap, ◌∙◌, arith}
use Rattle.std.specs.Int.{w128, cast_unsigned}
use Rattle.std.proofs.lemmas.List.{length-append}
use Rattle.std.proofs.lemmas.Grind.{flat_map-append}
use Rattle.std.proofs.lemmas.Bool.Decides.{nat_tests}
use Rattle.mon_ber.specs.declared.value.Value.TheVariants.{Integer}
use Rattle.mon_ber.specs.Writing.{written, size_for, size_counted, length_octets, number_octets, octets_for, width}
use Rattle.mon_ber.proofs.Promised.{length-high_first, written_size, size_longer}
use Rattle.mon_pdu.specs.declared.message.Binding.{Binding}
use Rattle.mon_pdu.specs.declared.message.Body.{Body}
use Rattle.mon_pdu.specs.declared.message.Body.TheVariants.{Pdu, Bulk}
use Rattle.mon_pdu.specs.declared.message.Message.{Message}
use Rattle.mon_pdu.specs.declared.message.Pdu.{Pdu as AnyPdu}
use Rattle.mon_pdu.specs.Grammar.{bindings_of, first_of, second_of, third_of}
use Rattle.mon_pdu.specs.Sizes.{body_with, with_bindings, with_error}
use Rattle.mon_pdu.specs.Writing.{binding_contents, written_binding, list_contents, leading_integers, body_contents, message_contents, written_message}
use Rattle.mon_pdu.proofs.Lengths.{body_total, message_total, message_length, binding_length, flat_length, numbers_total}

-- the variable bindings come after the numbers, which stay
pub body_size : (body : Body) (bindings : List Binding)
    → length (body_contents (body_with body bindings)) ≡ length (leading_integers body) + size_for (length (list_contents bindings))
body_size (Pdu p) bindings = body_total (body_with (Pdu p) bindings)
body_size (Bulk p) bindings = body_total (body_with (Bulk p) bindings)

-- the size of the message from the inside out
pub whole_size : (m : Message) (bindings : List Binding) → length (written_message (with_bindings m bindings))
    ≡ size_for (length (written (Integer (pos 1))) + size_for (length m.community) + size_for (length (leading_integers m.body) + size_for (length (list_contents bindings))))
whole_size m bindings =
    message_length (with_bindings m bindings)
    ∙ ap size_for (message_total (with_bindings m bindings)
    ∙ ap (λ n. length (written (Integer (pos 1))) + size_for (length m.community) + size_for n) (body_size m.body bindings))

-- an element with more contents takes more
pub size_grows : (m n : ℕ) → m ≤ n → size_for m ≤ size_for n
unfolding size_for length_octets
size_grows m n le = grind (arith, nat_tests, length-high_first)

pub message_grows : (m : Message) (bindings more : List Binding)
    → length (written_message (with_bindings m bindings)) ≤ length (written_message (with_bindings m (bindings ++ more)))
message_grows m bindings more =
    let longer : length (list_contents bindings) ≤ length (list_contents (bindings ++ more)) =
    omega (arith, ap length (flat_map-append written_binding bindings more), length-append (list_contents bindings) (list_contents more)) in
    let list : size_for (length (list_contents bindings)) ≤ size_for (length (list_contents (bindings ++ more))) = size_grows _ _ longer in
    let body : size_for (length (leading_integers m.body) + size_for (length (list_contents bindings)))
    ≤ size_for (length (leading_integers m.body) + size_for (length (list_contents (bindings ++ more)))) = size_grows _ _ (omega arith) in
    rw (whole_size m bindings, whole_size m (bindings ++ more)) (size_grows _ _ (omega arith))

-- a size by numbers that are as great as they may be
size_small : (n : ℕ) → size_for n ≤ n + 6
unfolding size_for length_octets
size_small n = grind (arith, nat_tests, length-high_first)

octets_few : (n : ℕ) → octets_for n ≤ 9
octets_few n = grind (arith, nat_tests)

width_few : (z : ℤ) → width z ≤ 9
width_few (pos n) = octets_few n
width_few (negsuc n) = octets_few n

number_few : (z : ℤ) → length (number_octets z) ≤ 9
unfolding number_octets
number_few z = omega (arith, width_few z, length-high_first (width z) (cast_unsigned w128 z))

integer_few : (z : ℤ) → length (written (Integer z)) ≤ 15
integer_few z = omega (arith, written_size (Integer z), number_few z, size_small (length (number_octets z)))

pub bounded : (m : Message) (bindings : List Binding) (list : ℕ) → list ≡ size_counted (length (list_contents bindings))
    → size_counted (length (written_message (with_bindings m bindings))) ≤ length m.community + 100 + list
bounded m bindings list is =
    let first = length (written (Integer (pos 1))) in
    let numbers = length (leading_integers m.body) in
    let inner = length (list_contents bindings) in
    omega (
      arith,
      is,
      whole_size m bindings,
      size_small inner,
      size_small (numbers + size_for inner),
      size_small (length m.community),
      size_small (first + size_for (length m.community) + size_for (numbers + size_for inner)),
      integer_few (pos 1),
      numbers_total m.body,
      integer_few (first_of m.body),
      integer_few (second_of m.body),
      integer_few (third_of m.body),
    )

-- an element takes an octet at least
some : (n : ℕ) → 1 ≤ size_for n
unfolding size_for
some n = omega arith

-- and so does each variable binding
each_counts : (bindings : List Binding) → length bindings ≤ length (list_contents bindings)
each_counts [] = omega arith
each_counts (b ∷ bindings) =
    omega (arith, each_counts bindings, flat_length b bindings, binding_length b, some (length (binding_contents b)))

pub all_count : (m : Message) → length (bindings_of m.body) ≤ length (written_message m)
all_count m =
    let list = length (list_contents (bindings_of m.body)) in
    let body = length (body_contents m.body) in
    omega (
      arith,
      each_counts (bindings_of m.body),
      size_longer list,
      body_total m.body,
      size_longer body,
      message_total m,
      message_length m,
      size_longer (length (message_contents m)),
    )

-- a number takes as many octets as it has to
number_size : (n : ℕ) → length (written (Integer (pos n))) ≡ size_for (octets_for n)
unfolding number_octets
number_size n = written_size (Integer (pos n)) ∙ ap size_for (length-high_first (octets_for n) _)

no_wider : (m n : ℕ) → m ≤ n → octets_for m ≤ octets_for n
no_wider m n le = grind (arith, nat_tests)

one_octet : (m n : ℕ) → m < 128 → octets_for m ≤ octets_for n
one_octet m n lt = grind (arith, nat_tests)

pub error_shrinks : (community : List ℕ) (p : AnyPdu) (status index other most : ℕ) → status < 128 → index ≤ most
    → length (written_message (with_error community p (pos status) (pos index))) ≤ length (written_message (with_error community p (pos other) (pos most)))
error_shrinks community p status index other most small le =
    let m = with_error community p (pos status) (pos index) in
    let n = with_error community p (pos other) (pos most) in
    let first : size_for (octets_for status) ≤ size_for (octets_for other) = size_grows _ _ (one_octet status other small) in
    let second : size_for (octets_for index) ≤ size_for (octets_for most) = size_grows _ _ (no_wider index most le) in
    let numbers : length (leading_integers m.body) ≤ length (leading_integers n.body) =
    omega (arith, numbers_total m.body, numbers_total n.body, number_size status, number_size other, number_size index, number_size most, first, second) in
    let bodies : size_for (length (body_contents m.body)) ≤ size_for (length (body_contents n.body)) =
    size_grows _ _ (omega (arith, body_total m.body, body_total n.body, numbers)) in
    rw (message_length m, message_length n) (size_grows _ _ (omega (arith, message_total m, message_total n, bodies)))
