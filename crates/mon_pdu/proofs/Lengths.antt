-- How long what is written is.
use Rattle.std.proofs.Common.{◌≡◌, ℕ, zero, suc, ◌+◌, ◌<◌, ◌^◌, ℤ, pos, List, [], ◌∷◌, ◌++◌, length, get_or, take, inl, inr, sym, ap, subst, ◌∙◌, arith}
use Rattle.std.specs.Prelude.{FitsSigned}
use Rattle.std.specs.List.{AllByRecursion}
use Rattle.std.specs.Int.{w32, cast_signed, cast_unsigned}
use Rattle.std.proofs.lemmas.Int.{to_z-of_z}
use Rattle.std.proofs.lemmas.Bool.{cases_lt}
use Rattle.std.proofs.lemmas.List.{length-append, append_assoc, take_more, flat_map_more}
use Rattle.mon_ber.specs.declared.value.Value.TheVariants.{Integer, Octets, Name}
use Rattle.mon_ber.specs.Writing.{contents_of, name_octets, length_octets, element, written, size_for, size_counted}
use Rattle.mon_ber.proofs.Promised.{length-element, written_size, size_longer}
use Rattle.mon_pdu.specs.declared.message.Binding.{Binding}
use Rattle.mon_pdu.specs.declared.message.Body.{Body}
use Rattle.mon_pdu.specs.declared.message.Message.{Message}
use Rattle.mon_pdu.specs.Grammar.{tag_of, first_of, second_of, third_of, bindings_of}
use Rattle.mon_pdu.specs.Writing.{binding_contents, written_binding, list_contents, written_list, leading_integers, body_contents, written_body, message_contents, written_message, IsValidBinding}

-- counting further than the limit makes no difference
pub counted_twice : (n : ℕ) → size_counted (size_for (size_counted n)) ≡ size_counted (size_for n)
counted_twice n =
    elim (cases_lt n (2 ^ 32)) [
      | inl lt ↦ (let is : size_counted n ≡ n = omega arith in ap (λ (k : ℕ). size_counted (size_for k)) is)
      | inr le ↦ (
          let is : size_counted n ≡ 2 ^ 32 = omega arith in
          ap (λ (k : ℕ). size_counted (size_for k)) is ∙ omega (arith, le, size_longer n, size_longer (2 ^ 32)))
    ]

pub binding_length : (b : Binding) → length (written_binding b) ≡ size_for (length (binding_contents b))
unfolding written_binding
binding_length b = length-element 0x30 (binding_contents b)

pub list_length : (bs : List Binding) → length (written_list bs) ≡ size_for (length (list_contents bs))
unfolding written_list
list_length bs = length-element 0x30 (list_contents bs)

pub body_length : (body : Body) → length (written_body body) ≡ size_for (length (body_contents body))
unfolding written_body
body_length body = length-element (tag_of body) (body_contents body)

pub message_length : (m : Message) → length (written_message m) ≡ size_for (length (message_contents m))
unfolding written_message
message_length m = length-element 0x30 (message_contents m)

pub binding_total : (b : Binding) → length (binding_contents b) ≡ length (written (Name b.name)) + length (written b.value)
binding_total b = length-append (written (Name b.name)) (written b.value)

-- and by the contents of both
pub binding_sum : (b : Binding) → length (binding_contents b) ≡ size_for (length (name_octets b.name)) + size_for (length (contents_of b.value))
binding_sum b = omega (arith, binding_total b, written_size (Name b.name), written_size b.value)

pub sum_is : (b : Binding) (n m name value : ℕ) → n ≡ length (name_octets b.name) → m ≡ length (contents_of b.value) → name ≡ size_for n → value ≡ size_for m
    → name + value ≡ length (binding_contents b)
sum_is b n m name value own others is also = omega (arith, binding_sum b, ap size_for own, ap size_for others, is, also)

-- a header of the length of what is inside, and the name and the value
pub binding_text : (b : Binding) (n : ℕ) → n ≡ length (binding_contents b) → (0x30 ∷ length_octets n) ++ binding_contents b ≡ written_binding b
unfolding written_binding element
binding_text b n is = ap (λ (k : ℕ). (0x30 ∷ length_octets k) ++ binding_contents b) is

pub behind_header : (front header name value : List ℕ) → ((front ++ header) ++ name) ++ value ≡ front ++ (header ++ (name ++ value))
behind_header front header name value = append_assoc (front ++ header) name value ∙ append_assoc front header (name ++ value)

pub binding_parts : (b : Binding) (n : ℕ) → n ≡ length (binding_contents b)
    → length (written_binding b) ≡ length (0x30 ∷ length_octets n) + length (written (Name b.name)) + length (written b.value)
binding_parts b n is =
    omega (arith, ap length (binding_text b n is), length-append (0x30 ∷ length_octets n) (binding_contents b), binding_total b)

pub body_total : (body : Body) → length (body_contents body) ≡ length (leading_integers body) + size_for (length (list_contents (bindings_of body)))
body_total body = omega (arith, length-append (leading_integers body) (written_list (bindings_of body)), list_length (bindings_of body))

pub message_total : (m : Message) → length (message_contents m) ≡ length (written (Integer (pos 1))) + size_for (length m.community) + size_for (length (body_contents m.body))
message_total m = total (written (Integer (pos 1))) (written (Octets m.community)) (written_body m.body) (size_for (length m.community)) (size_for (length (body_contents m.body))) (written_size (Octets m.community)) (body_length m.body)
  where
    total : (a b c : List ℕ) (n k : ℕ) → length b ≡ n → length c ≡ k → length (a ++ (b ++ c)) ≡ length a + n + k
    total a b c n k e f = simp length-append (omega arith)

-- ---- what is inside is no longer

pub flat_length : (b : Binding) (bs : List Binding) → length (list_contents (b ∷ bs)) ≡ length (written_binding b) + length (list_contents bs)
flat_length b bs = length-append (written_binding b) (list_contents bs)

pub value_fits : (b : Binding) → length (binding_contents b) < 2 ^ 32 → length (contents_of b.value) < 2 ^ 32
value_fits b h = omega (arith, binding_total b, written_size b.value, size_longer (length (contents_of b.value)), h)

pub list_fits : (body : Body) → length (body_contents body) < 2 ^ 32 → length (list_contents (bindings_of body)) < 2 ^ 32
list_fits body h = omega (arith, body_total body, size_longer (length (list_contents (bindings_of body))), h)

pub body_fits : (m : Message) → length (message_contents m) < 2 ^ 32 → (length (body_contents m.body) < 2 ^ 32) × (length m.community < 2 ^ 32)
body_fits m h = (omega (arith, message_total m, size_longer (length (body_contents m.body)), h), omega (arith, message_total m, size_longer (length m.community), h))

pub each_fits : (bs : List Binding) (i : ℕ) (d : Binding) → i < length bs → length (list_contents bs) < 2 ^ 32 → length (binding_contents (get_or bs i d)) < 2 ^ 32
each_fits [] i d lt h = absurd (omega arith)
each_fits (b ∷ bs) zero d lt h = omega (arith, h, flat_length b bs, binding_length b, size_longer (length (binding_contents b)))
each_fits (b ∷ bs) (suc i) d lt h = each_fits bs i d (omega arith) (omega (arith, h, flat_length b bs))

-- a step of the loop that counts the bindings
pub one_more : (bs : List Binding) (i len : ℕ) (b : Binding) (inside outside new : ℕ) → i < length bs → b ≡ get_or bs i b → len ≡ size_counted (length (list_contents (take i bs)))
    → inside ≡ size_counted (length (binding_contents b)) → outside ≡ size_counted (size_for inside) → new ≡ size_counted (len + outside) → new ≡ size_counted (length (list_contents (take (i + 1) bs)))
one_more bs i len b inside outside new lt is so_far e f g =
    let more : list_contents (take (i + 1) bs) ≡ list_contents (take i bs) ++ written_binding b =
    ap list_contents (take_more bs i b lt) ∙ sym (flat_map_more written_binding [] (take i bs) (get_or bs i b)) ∙ ap (λ (x : Binding). list_contents (take i bs) ++ written_binding x) (sym is) in
    let size : outside ≡ size_counted (length (written_binding b)) = f ∙ ap (λ (n : ℕ). size_counted (size_for n)) e ∙ counted_twice (length (binding_contents b)) ∙ ap size_counted (sym (binding_length b)) in
    rw more (omega (arith, length-append (list_contents (take i bs)) (written_binding b), so_far, size, g))

-- a signed number that is passed to a call is read through its bits
pub passed : (z : ℤ) → FitsSigned w32 z → cast_signed w32 (cast_unsigned w32 z) ≡ z
passed z fits = to_z-of_z w32 z fits

pub numbers_total : (body : Body) → length (leading_integers body) ≡ length (written (Integer (first_of body))) + length (written (Integer (second_of body))) + length (written (Integer (third_of body)))
numbers_total body = omega (arith, length-append (written (Integer (first_of body)) ++ written (Integer (second_of body))) (written (Integer (third_of body))), length-append (written (Integer (first_of body))) (written (Integer (second_of body))))

-- three numbers that are passed on, behind what was there
pub three_total : (a b c : List ℕ) → length (a ++ b ++ c) ≡ length a + length b + length c
three_total a b c = simp length-append (omega arith)

pub three_passed : (front text : List ℕ) (x y z : ℤ) → FitsSigned w32 x → FitsSigned w32 y → FitsSigned w32 z
    → text ≡ front ++ written (Integer (cast_signed w32 (cast_unsigned w32 x))) ++ written (Integer (cast_signed w32 (cast_unsigned w32 y))) ++ written (Integer (cast_signed w32 (cast_unsigned w32 z)))
    → text ≡ front ++ (written (Integer x) ++ written (Integer y) ++ written (Integer z))
three_passed front text x y z one two three is =
    subst (λ n. text ≡ front ++ (written (Integer n) ++ written (Integer y) ++ written (Integer z))) (passed x one)
    (subst (λ n. text ≡ front ++ (written (Integer (cast_signed w32 (cast_unsigned w32 x))) ++ written (Integer n) ++ written (Integer z))) (passed y two)
    (subst (λ n. text ≡ front ++ (written (Integer (cast_signed w32 (cast_unsigned w32 x))) ++ written (Integer (cast_signed w32 (cast_unsigned w32 y))) ++ written (Integer n))) (passed z three)
    (is ∙ behind front _ _ _)))
  where
    behind : (front a b c : List ℕ) → front ++ a ++ b ++ c ≡ front ++ (a ++ b ++ c)
    behind front a b c = ap (λ t. t ++ c) (append_assoc front a b) ∙ append_assoc front (a ++ b) c

-- one binding more is valid
pub valid_more : (bs : List Binding) (i : ℕ) (b : Binding) → i < length bs → b ≡ get_or bs i b → AllByRecursion IsValidBinding (take i bs) → IsValidBinding b → AllByRecursion IsValidBinding (take (i + 1) bs)
valid_more bs i b lt is all one = rw (take_more bs i b lt) (pushed (take i bs) (get_or bs i b) all (subst (λ (x : Binding). IsValidBinding x) is one))
  where
    pushed : (bs : List Binding) (b : Binding) → AllByRecursion IsValidBinding bs → IsValidBinding b → AllByRecursion IsValidBinding (bs ++ b ∷ [])
    pushed [] b all one = (one, tt)
    pushed (x ∷ bs) b all one = (all.0, pushed bs b all.1 one)
