-- Octets without one that gets a backslash stay as they are.
use Rattle.std.proofs.Common.{◌≡◌, ◌∙◌, ℕ, List, [], ◌∷◌, ◌++◌, Bool, true, false, ap, refl, sym, Result, Ok, Err}
use Rattle.std.specs.Prelude.{◌==◌, ◌&&◌, not, OnOk}
use Rattle.std.specs.List.{flat_map, list_all}
use Rattle.mon_formats.specs.Prometheus.{escaped, is_plain}

not_true : (b : Bool) → not b ≡ true → b ≡ false
not_true true e = cc
not_true false e = refl

and_true : (b c : Bool) → (b && c) ≡ true → (b ≡ true) × (c ≡ true)
and_true true c e = (refl, e)
and_true false c e = cc

one : (c : ℕ) → is_plain c ≡ true → escaped c ≡ c ∷ []
one c e =
    let (back, others) = and_true (not (c == 92)) (not (c == 34) && not (c == 10)) e in
    let (quote, feed) = and_true (not (c == 34)) (not (c == 10)) others in
    rw (not_true (c == 92) back, not_true (c == 34) quote, not_true (c == 10) feed) refl

pub stays : (octets : List ℕ) → list_all is_plain octets ≡ true → flat_map escaped octets ≡ octets
stays [] e = refl
stays (c ∷ octets) e =
    let (first, rest) = and_true (is_plain c) (list_all is_plain octets) e in
    (λ i. one c first i ++ stays octets rest i)

-- octets that are added as they are, are added escaped
pub added : {A E : Type 0} (r : Result A E) (new old octets : List ℕ) → list_all is_plain octets ≡ true → OnOk r (new ≡ old ++ octets)
    → OnOk r (new ≡ old ++ flat_map escaped octets)
added (Ok x) new old octets plain e = e ∙ ap (λ l. old ++ l) (sym (stays octets plain))
added (Err x) new old octets plain e = tt
