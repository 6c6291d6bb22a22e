-- No spelling is shorter than what is written.
use Rattle.std.proofs.Common.{◌≡◌, ℕ, zero, suc, ◌+◌, ◌<◌, ◌≤◌, ◌^◌, ltb, cond, pos, List, [], ◌∷◌, ◌++◌, length, refl, sym, ap, subst, arith, inl, inr}
use Rattle.std.specs.Prelude.{All}
use Rattle.std.proofs.lemmas.List.Elements.{All-from_get_or}
use Rattle.std.specs.List.{AllByRecursion}
use Rattle.std.proofs.lemmas.Bool.{cases_lt, lt-ltb, le-ltb}
use Rattle.std.proofs.lemmas.List.{length-append, get_or_append_left, get_or_past, append-nil}
use Rattle.mon_ber.specs.declared.value.Value.{Value}
use Rattle.mon_ber.specs.declared.value.Value.TheVariants.{Integer, Octets, Null, Name, IpAddress, Counter32, Gauge32, TimeTicks, Opaque, Counter64, NoSuchObject, NoSuchInstance, EndOfMibView}
use Rattle.mon_ber.specs.Grammar.{IsLength, IsElement, Spells}
use Rattle.mon_ber.specs.Sequence.{AreSpelled}
use Rattle.mon_ber.specs.Writing.{length_width, length_octets, size_for, written, IsValid as IsValidValue}
use Rattle.mon_ber.proofs.Promised.{IsBytes, big_endian_below, power_of_four, length-high_first, written_size, IsBytes-after, IsBytes-inside}
use Rattle.mon_pdu.specs.declared.message.Binding.{Binding}
use Rattle.mon_pdu.specs.declared.message.Body.{Body}
use Rattle.mon_pdu.specs.declared.message.Message.{Message}
use Rattle.mon_pdu.specs.Grammar.{tag_of, first_of, second_of, third_of, bindings_of, IsBinding, IsList, IsBody, IsMessage}
use Rattle.mon_pdu.specs.Writing.{binding_contents, written_binding, list_contents, written_list, leading_integers, body_contents, written_body, message_contents, written_message, HasLength, IsValidBinding, IsValid}
use Rattle.mon_pdu.proofs.Lengths.{binding_length, list_length, body_length, message_length, binding_total, numbers_total, flat_length}

-- ---- octets in parts

octets_left : (x y : List ℕ) → IsBytes (x ++ y) → IsBytes x
octets_left x y h i =
    elim (cases_lt i (length x)) [
      | inl lt ↦ subst (λ (n : ℕ). n < 256) (get_or_append_left x y 0 i lt) (h i)
      | inr le ↦ rw (get_or_past x i 0 le) (omega arith)
    ]

pub bytes_all : (bytes : List ℕ) → IsBytes bytes → All (λ octet. octet < 256) bytes
bytes_all bytes fits = All-from_get_or (λ octet. octet < 256) bytes 0 (λ i lt. fits i)

octets_right : (x y : List ℕ) → IsBytes (x ++ y) → IsBytes y
octets_right x y h = IsBytes-after (x ++ y) x y h refl

-- ---- lengths

width_grows : (n m : ℕ) → n ≤ m → length_width n ≤ length_width m
width_grows n m le = grind arith

length_of_length : (n : ℕ) → length (length_octets n) ≡ cond (ltb n 128) 1 (1 + length_width n)
unfolding length_octets
length_of_length n =
    elim (cases_lt n 128) [
      | inl lt ↦ rw (lt-ltb n 128 lt) refl
      | inr le ↦ rw (le-ltb n 128 le) (omega (arith, length-high_first (length_width n) n))
    ]

-- shorter contents take no longer element
size_grows : (n m : ℕ) → n ≤ m → size_for n ≤ size_for m
unfolding size_for
size_grows n m le =
    let w = width_grows n m le in
    rw (length_of_length n, length_of_length m) (elim (cases_lt m 128) [
      | inl lt ↦ rw (lt-ltb m 128 lt, lt-ltb n 128 (omega (arith, le, lt))) (omega (arith, le))
      | inr high ↦ rw (le-ltb m 128 high) (elim (cases_lt n 128) [
        | inl lt ↦ rw (lt-ltb n 128 lt) (omega (arith, le))
        | inr low ↦ rw (le-ltb n 128 low) (omega (arith, le, w))
      ])
    ])

-- what a length says is below the limit
length_below : (len : List ℕ) (n : ℕ) → IsBytes len → IsLength len n → n < 2 ^ 32
length_below [] n fits is = absurd is
length_below (b ∷ bs) n fits (inl is) = omega (arith, is.0, is.2)
length_below (b ∷ bs) n fits (inr is) = omega (arith, big_endian_below bs (λ i. fits (suc i)), power_of_four (length bs) is.2, is.3)

octets_of_length : (tag : ℕ) (contents bytes : List ℕ) → IsBytes bytes → (is : IsElement tag contents bytes) → IsBytes is.len
octets_of_length tag contents bytes fits is =
    octets_left is.len contents (octets_right (tag ∷ []) (is.len ++ contents) (subst (λ (w : List ℕ). IsBytes w) is.whole fits))

element_fits : (tag : ℕ) (contents bytes : List ℕ) → IsBytes bytes → IsElement tag contents bytes → length contents < 2 ^ 32
element_fits tag contents bytes fits is = length_below is.len (length contents) (octets_of_length tag contents bytes fits is) is.spelled

octets_inside : (tag : ℕ) (contents bytes : List ℕ) → IsBytes bytes → IsElement tag contents bytes → IsBytes contents
octets_inside tag contents bytes fits is = IsBytes-inside tag bytes contents bytes [] fits (sym (append-nil bytes)) is

-- ---- values

value_valid : (text : List ℕ) (v : Value) → Spells text v → IsValidValue v
value_valid text (Integer z) is = (let value = is.value in value.1)
value_valid text (Octets o) is = tt
value_valid text Null is = tt
value_valid text (Name o) is = (let value = is.value in value.valid)
value_valid text (IpAddress a) is = (let value = is.value in value.1)
value_valid text (Counter32 n) is = (let value = is.value in value.1)
value_valid text (Gauge32 n) is = (let value = is.value in value.1)
value_valid text (TimeTicks n) is = (let value = is.value in value.1)
value_valid text (Opaque o) is = tt
value_valid text (Counter64 n) is = (let value = is.value in value.1)
value_valid text NoSuchObject is = tt
value_valid text NoSuchInstance is = tt
value_valid text EndOfMibView is = tt

-- ---- the parts of a message, over what is known of values

module _ (value_shortest : (bytes : List ℕ) (v : Value) → IsBytes bytes → Spells bytes v → length (written v) ≤ length bytes) where
  -- an element takes no less than one that is written for shorter contents, since an OCTET STRING
  -- of these contents does
  element_shortest : (tag : ℕ) (contents bytes : List ℕ) (n : ℕ) → IsBytes bytes → IsElement tag contents bytes → n ≤ length contents → size_for n ≤ length bytes
  element_shortest tag contents bytes n fits is le =
      let text : List ℕ = 4 ∷ is.len ++ contents in
      let all : IsBytes (tag ∷ is.len ++ contents) = subst (λ (w : List ℕ). IsBytes w) is.whole fits in
      let spelled : Spells text (Octets contents) = record { contents = contents; element = record { len = is.len; spelled = is.spelled; whole = refl }; value = refl } in
      let least = value_shortest text (Octets contents) (other_first tag 4 (is.len ++ contents) (omega arith) all) spelled in
      let same : length bytes ≡ length text = ap (λ (w : List ℕ). length w) is.whole in
      omega (arith, least, written_size (Octets contents), size_grows n (length contents) le, same)
    where
      other_first : (a b : ℕ) (xs : List ℕ) → b < 256 → IsBytes (a ∷ xs) → IsBytes (b ∷ xs)
      other_first a b xs lt fits zero = lt
      other_first a b xs lt fits (suc i) = fits (suc i)

  binding_shortest : (bytes : List ℕ) (b : Binding) → IsBytes bytes → IsBinding bytes b → length (written_binding b) ≤ length bytes
  binding_shortest bytes b fits is =
      let inside = octets_inside 0x30 (is.name ++ is.value) bytes fits is.element in
      let name = value_shortest is.name (Name b.name) (octets_left is.name is.value inside) is.spelled_name in
      let value = value_shortest is.value b.value (octets_right is.name is.value inside) is.spelled_value in
      let le : length (binding_contents b) ≤ length (is.name ++ is.value) = omega (arith, binding_total b, length-append is.name is.value, name, value) in
      rw (binding_length b) (element_shortest 0x30 (is.name ++ is.value) bytes (length (binding_contents b)) fits is.element le)

  each_shortest : (bytes : List ℕ) (bs : List Binding) → IsBytes bytes → AreSpelled IsBinding bytes bs → length (list_contents bs) ≤ length bytes
  each_shortest bytes [] fits is = omega arith
  each_shortest bytes (b ∷ bs) fits is =
      let all : IsBytes (is.0 ++ is.1) = subst (λ (w : List ℕ). IsBytes w) is.2 fits in
      let first = binding_shortest is.0 b (octets_left is.0 is.1 all) is.3 in
      let others = each_shortest is.1 bs (octets_right is.0 is.1 all) is.4 in
      omega (arith, flat_length b bs, ap (λ (w : List ℕ). length w) is.2, length-append is.0 is.1, first, others)

  list_shortest : (bytes : List ℕ) (bs : List Binding) → IsBytes bytes → IsList bytes bs → length (written_list bs) ≤ length bytes
  list_shortest bytes bs fits is =
      let le = each_shortest is.contents bs (octets_inside 0x30 is.contents bytes fits is.element) is.each in
      rw (list_length bs) (element_shortest 0x30 is.contents bytes (length (list_contents bs)) fits is.element le)

  body_shortest : (bytes : List ℕ) (body : Body) → IsBytes bytes → IsBody bytes body → length (written_body body) ≤ length bytes
  body_shortest bytes body fits is =
      let contents : List ℕ = is.first ++ (is.second ++ (is.third ++ is.list)) in
      let others : List ℕ = is.second ++ (is.third ++ is.list) in
      let inside : IsBytes contents = octets_inside (tag_of body) contents bytes fits is.element in
      let inside2 : IsBytes others = octets_right is.first others inside in
      let inside3 : IsBytes (is.third ++ is.list) = octets_right is.second (is.third ++ is.list) inside2 in
      let a = value_shortest is.first (Integer (first_of body)) (octets_left is.first others inside) is.spelled_first in
      let b = value_shortest is.second (Integer (second_of body)) (octets_left is.second (is.third ++ is.list) inside2) is.spelled_second in
      let c = value_shortest is.third (Integer (third_of body)) (octets_left is.third is.list inside3) is.spelled_third in
      let list = list_shortest is.list (bindings_of body) (octets_right is.third is.list inside3) is.spelled_list in
      let lengths : length contents ≡ length is.first + (length is.second + (length is.third + length is.list)) =
      omega (arith, length-append is.first others, length-append is.second (is.third ++ is.list), length-append is.third is.list) in
      let total : length (body_contents body) ≡ length (leading_integers body) + length (written_list (bindings_of body)) = length-append (leading_integers body) (written_list (bindings_of body)) in
      let le : length (body_contents body) ≤ length contents = omega (arith, total, numbers_total body, a, b, c, list, lengths) in
      rw (body_length body) (element_shortest (tag_of body) contents bytes (length (body_contents body)) fits is.element le)

  -- the contents of a message
  contents_shortest : (bytes : List ℕ) (m : Message) → IsBytes bytes → (is : IsMessage bytes m) → length (message_contents m) ≤ length (is.version ++ (is.community ++ is.body))
  contents_shortest bytes m fits is =
      let others : List ℕ = is.community ++ is.body in
      let inside : IsBytes (is.version ++ others) = octets_inside 0x30 (is.version ++ others) bytes fits is.element in
      let inside2 : IsBytes others = octets_right is.version others inside in
      let a = value_shortest is.version (Integer (pos 1)) (octets_left is.version others inside) is.spelled_version in
      let b = value_shortest is.community (Octets m.community) (octets_left is.community is.body inside2) is.spelled_community in
      let c = body_shortest is.body m.body (octets_right is.community is.body inside2) is.spelled_body in
      let community : List ℕ = written (Octets m.community) in
      omega (arith, length-append is.version others, length-append is.community is.body, length-append (written (Integer (pos 1))) (community ++ written_body m.body), length-append community (written_body m.body), a, b, c)

  pub message_shortest : (bytes : List ℕ) (m : Message) → IsBytes bytes → IsMessage bytes m → length (written_message m) ≤ length bytes
  message_shortest bytes m fits is =
      rw (message_length m) (element_shortest 0x30 (is.version ++ (is.community ++ is.body)) bytes (length (message_contents m)) fits is.element (contents_shortest bytes m fits is))

  pub message_rewritable : (bytes : List ℕ) (m : Message) → IsBytes bytes → IsMessage bytes m → IsValid m × HasLength m
  message_rewritable bytes m fits is =
      let body = is.spelled_body in
      let contents : List ℕ = is.version ++ (is.community ++ is.body) in
      let le = contents_shortest bytes m fits is in
      let below = element_fits 0x30 contents bytes fits is.element in (
        record {
          first = value_valid body.first (Integer (first_of m.body)) body.spelled_first;
          second = value_valid body.second (Integer (second_of m.body)) body.spelled_second;
          third = value_valid body.third (Integer (third_of m.body)) body.spelled_third;
          bindings = each_valid body.spelled_list.contents (bindings_of m.body) body.spelled_list.each;
        },
        omega (arith, le, below),
      )
    where
      each_valid : (bytes : List ℕ) (bs : List Binding) → AreSpelled IsBinding bytes bs → AllByRecursion IsValidBinding bs
      each_valid bytes [] is = tt
      each_valid bytes (b ∷ bs) is = (
        (let one = is.3 in record { name = value_valid one.name (Name b.name) one.spelled_name; value = value_valid one.value b.value one.spelled_value }),
        each_valid is.1 bs is.4,
      )
