-- The texts of IPv4 addresses.
use Rattle.std.proofs.Common.{◌≡◌, ◌∷◌, ◌==◌, ℕ, List, [], false, append-nil, arith, length, lit≤, refl, sym, subst, ◌∙◌}
use Rattle.std.proofs.lemmas.Bool.Decides.{nat_tests}
use Rattle.std.proofs.NetLemmas.Ipv4.{read_ipv4_complete, read_ipv4_sound}
use Rattle.std.specs.Net.Grammar.{IsDotted}
use Rattle.std.specs.Net.Reader.{Read, read_ipv4, whole_value}
use Rattle.std.specs.Prelude.{Option, Some, None}
use Rattle.mon_placing.specs.Machines.{octets_of}

pub octets_complete : (text octets : List ℕ) → IsDotted text octets → octets_of text ≡ Some octets
octets_complete text octets h = rw (← append-nil text, read_ipv4_complete text octets [] h (lit≤ tt)) refl

whole : (text : List ℕ) (r : Read (List ℕ)) (octets : List ℕ) → read_ipv4 text ≡ r → whole_value r ≡ Some octets → IsDotted text octets
whole text None octets is e = absurd cc
whole text (Some (read, c ∷ rest)) octets is e =
    let more : (length (c ∷ rest) == 0) ≡ false = grind (arith, nat_tests) in
    let nothing : None ≡ Some octets = rw more at e in
    absurd cc
whole text (Some (read, [])) octets is e =
    let same : read ≡ octets = cc in
    let (front, split, written) = read_ipv4_sound text read [] is in
    subst (λ (o : List ℕ). IsDotted text o) same (subst (λ t. IsDotted t read) (sym (split ∙ append-nil front)) written)

none : (o : Option (List ℕ)) → ((octets : List ℕ) → o ≡ Some octets → ⊥) → o ≡ None
none None h = refl
none (Some octets) h = absurd (h octets refl)

-- a text that is no address's writes none
pub octets_none : (text : List ℕ) → ((octets : List ℕ) → IsDotted text octets → ⊥) → octets_of text ≡ None
octets_none text h = none (octets_of text) (λ octets e. h octets (whole text (read_ipv4 text) octets refl e))
