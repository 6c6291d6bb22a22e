-- A message around the octets of its variable bindings: its lengths, and that it is the one that is
-- written.
use Rattle.std.proofs.Common.{◌≡◌, ℕ, ◌+◌, ◌<◌, ◌≤◌, ◌^◌, ◌∙◌, leb, pos, List, ◌++◌, length, refl, ap, sym, arith}
use Rattle.std.specs.Prelude.{IsTrue}
use Rattle.std.proofs.lemmas.Bool.{leb-true, le-leb}
use Rattle.std.proofs.lemmas.List.{length-append}
use Rattle.mon_ber.specs.declared.value.Value.TheVariants.{Integer, Octets}
use Rattle.mon_ber.specs.Writing.{element, written, size_for, size_counted}
use Rattle.mon_ber.proofs.Promised.{length-element, written_size, size_longer}
use Rattle.mon_pdu.proofs.Lengths.{counted_twice}
use Rattle.mon_pdu.specs.declared.message.Binding.{Binding}
use Rattle.mon_pdu.specs.declared.message.Body.{Body}
use Rattle.mon_pdu.specs.declared.message.Body.TheVariants.{Pdu, Bulk}
use Rattle.mon_pdu.specs.declared.message.Message.{Message}
use Rattle.mon_pdu.specs.Grammar.{bindings_of, tag_of}
use Rattle.mon_pdu.specs.Around.{contents_of_body, body_around, contents_of_message, message_around}
use Rattle.mon_pdu.specs.Sizes.{body_with, with_bindings}
use Rattle.mon_pdu.specs.Writing.{body_contents, leading_integers, list_contents, message_contents, written_body, written_list, written_message}

pub body_total : (body : Body) (list : List ℕ) → length (contents_of_body body list) ≡ length (leading_integers body) + size_for (length list)
body_total body list = omega (arith, length-append (leading_integers body) (element 0x30 list), length-element 0x30 list)

pub body_length : (body : Body) (list : List ℕ) → length (body_around body list) ≡ size_for (length (contents_of_body body list))
unfolding body_around
body_length body list = length-element (tag_of body) (contents_of_body body list)

pub message_total : (m : Message) (list : List ℕ)
    → length (contents_of_message m list) ≡ length (written (Integer (pos 1))) + size_for (length m.community) + size_for (length (contents_of_body m.body list))
message_total m list =
    let version = written (Integer (pos 1)) in
    let community = written (Octets m.community) in
    omega (arith, length-append version (community ++ body_around m.body list), length-append community (body_around m.body list), written_size (Octets m.community), body_length m.body list)

pub message_length : (m : Message) (list : List ℕ) → length (message_around m list) ≡ size_for (length (contents_of_message m list))
unfolding message_around
message_length m list = length-element 0x30 (contents_of_message m list)

-- what is inside is no longer
pub inside_fits : (m : Message) (list : List ℕ) → length (contents_of_message m list) < 2 ^ 32
    → (length (contents_of_body m.body list) < 2 ^ 32) × (length m.community < 2 ^ 32) × (length list < 2 ^ 32)
inside_fits m list h = (
  omega (arith, message_total m list, size_longer (length (contents_of_body m.body list)), h),
  omega (arith, message_total m list, size_longer (length m.community), h),
  omega (arith, message_total m list, size_longer (length (contents_of_body m.body list)), body_total m.body list, size_longer (length list), h),
)

-- around the octets of bindings is the body with these bindings
pub body_is : (body : Body) (bindings : List Binding) → written_body (body_with body bindings) ≡ body_around body (list_contents bindings)
unfolding written_body written_list body_around
body_is (Pdu p) bindings = refl
body_is (Bulk p) bindings = refl

pub contents_are : (m : Message) (bindings : List Binding) → message_contents (with_bindings m bindings) ≡ contents_of_message m (list_contents bindings)
contents_are m bindings = ap (λ text. written (Integer (pos 1)) ++ (written (Octets m.community) ++ text)) (body_is m.body bindings)

pub message_is : (m : Message) (bindings : List Binding) → written_message (with_bindings m bindings) ≡ message_around m (list_contents bindings)
unfolding written_message message_around
message_is m bindings = ap (element 0x30) (contents_are m bindings)

-- and so does the body with its own
pub own_inside_is : (body : Body) → body_contents body ≡ contents_of_body body (list_contents (bindings_of body))
unfolding written_list
own_inside_is body = refl

pub own_body_is : (body : Body) → written_body body ≡ body_around body (list_contents (bindings_of body))
unfolding written_body written_list body_around
own_body_is (Pdu p) = refl
own_body_is (Bulk p) = refl

pub own_contents_are : (m : Message) → message_contents m ≡ contents_of_message m (list_contents (bindings_of m.body))
own_contents_are m = ap (λ text. written (Integer (pos 1)) ++ (written (Octets m.community) ++ text)) (own_body_is m.body)

pub own_message_is : (m : Message) → written_message m ≡ message_around m (list_contents (bindings_of m.body))
unfolding written_message message_around
own_message_is m = ap (element 0x30) (own_contents_are m)

pub list_length : (octets : List ℕ) → length (element 0x30 octets) ≡ size_for (length octets)
list_length octets = length-element 0x30 octets

pub list_fits : (body : Body) (list : List ℕ) → length (contents_of_body body list) < 2 ^ 32 → length list < 2 ^ 32
list_fits body list h = omega (arith, body_total body list, size_longer (length list), h)

-- the size follows from what is counted of the contents
pub around_counts : (m : Message) (octets : List ℕ) (size contents : ℕ) → size ≡ size_counted (size_for contents) → contents ≡ size_counted (length (contents_of_message m octets))
    → size ≡ size_counted (length (message_around m octets))
around_counts m octets size contents is counted =
    is ∙ ap (λ n. size_counted (size_for n)) counted ∙ counted_twice (length (contents_of_message m octets)) ∙ ap size_counted (sym (message_length m octets))

pub size_counts : (m : Message) (bindings : List Binding) (size contents : ℕ) → size ≡ size_counted (size_for contents) → contents ≡ size_counted (length (contents_of_message m (list_contents bindings)))
    → size ≡ size_counted (length (written_message (with_bindings m bindings)))
size_counts m bindings size contents is counted =
    around_counts m (list_contents bindings) size contents is counted ∙ ap (λ t. size_counted (length t)) (sym (message_is m bindings))

-- a size that is counted is within a limit of 32 bits if it is without counting
pub within_counted : (n limit size : ℕ) → limit < 2 ^ 32 → size ≡ size_counted n → (IsTrue (leb size limit) → n ≤ limit) × (n ≤ limit → IsTrue (leb size limit))
within_counted n limit size small is = (λ yes. omega (arith, leb-true size limit yes, is, small), λ le. le-leb size limit (omega (arith, le, is)))

-- a message is longer than its contents
pub message_longer : (m : Message) (list : List ℕ) → length (contents_of_message m list) ≤ length (message_around m list)
message_longer m list = omega (arith, message_length m list, size_longer (length (contents_of_message m list)))
