-- A label's value is read as the text that was escaped.
use Rattle.std.proofs.Common.{◌≡◌, ℕ, List, [], ◌∷◌, ◌++◌, Bool, true, false, Some, refl, ap, ◌∙◌, append_assoc}
use Rattle.std.specs.Prelude.{◌==◌}
use Rattle.std.specs.List.{flat_map}
use Rattle.std.specs.Option.{option_map}
use Rattle.std.proofs.lemmas.Bool.{eqb-true}
use Rattle.mon_formats.specs.Prometheus.{escaped, read_value}

-- a character before what is read as a value is a character before that value
one_more : (c : ℕ) (value text rest : List ℕ) → read_value text ≡ Some (value, rest) → read_value (escaped c ++ text) ≡ Some (c ∷ value, rest)
one_more c value text rest read = by_case (c == 92) refl
  where
    plain : (text : List ℕ) → (c == 92) ≡ false → (c == 34) ≡ false → read_value text ≡ Some (value, rest) → read_value (c ∷ text) ≡ Some (c ∷ value, rest)
    plain [] back quote read = absurd cc
    plain (d ∷ more) back quote read = rw (quote, back) (ap (option_map (λ r. (c ∷ r.0, r.1))) read)

    by_feed : (b : Bool) → (c == 10) ≡ b → (c == 92) ≡ false → (c == 34) ≡ false → read_value (escaped c ++ text) ≡ Some (c ∷ value, rest)
    by_feed true feed back quote = rw (back, quote, feed, eqb-true c 10 feed) (ap (option_map (λ r. (10 ∷ r.0, r.1))) read)
    by_feed false feed back quote = rw (back, quote, feed) (plain text back quote read)

    by_quote : (b : Bool) → (c == 34) ≡ b → (c == 92) ≡ false → read_value (escaped c ++ text) ≡ Some (c ∷ value, rest)
    by_quote true quote back = rw (back, quote, eqb-true c 34 quote) (ap (option_map (λ r. (34 ∷ r.0, r.1))) read)
    by_quote false quote back = by_feed (c == 10) refl back quote

    by_case : (b : Bool) → (c == 92) ≡ b → read_value (escaped c ++ text) ≡ Some (c ∷ value, rest)
    by_case true back = rw (back, eqb-true c 92 back) (ap (option_map (λ r. (92 ∷ r.0, r.1))) read)
    by_case false back = by_quote (c == 34) refl back

pub read_back : (value rest : List ℕ) → read_value (flat_map escaped value ++ 34 ∷ rest) ≡ Some (value, rest)
read_back [] [] = refl
read_back [] (d ∷ rest) = refl
read_back (c ∷ value) rest = ap read_value (append_assoc (escaped c) (flat_map escaped value) (34 ∷ rest)) ∙ one_more c value (flat_map escaped value ++ 34 ∷ rest) rest (read_back value rest)
