-- How a text is written between tags and in quoted values of attributes, and how it is read there
-- (HTML Living Standard, sections 13.1.4 and 13.2.5.72 on).
use Rattle.std.specs.Prelude.{◌≡◌, ℕ, false, List, [], ◌∷◌, ◌++◌, Option, Some, None, All, codes}
use Rattle.std.specs.Prelude.{◌==◌, bytes_eq, if◌then◌else◌}

-- an octet: `<`, `>`, `&` and `"` are written as character references
abbrev pub escaped : ℕ → List ℕ
escaped octet =
    if octet == 60 then codes "&lt;" else if octet == 62 then codes "&gt;" else if octet == 38
    then codes "&amp;"
    else if octet == 34 then codes "&quot;" else octet ∷ []

-- the octets that a reference of this name means
abbrev pub meant_by : List ℕ → List ℕ
meant_by name =
    if bytes_eq name (codes "lt") then codes "<" else if bytes_eq name (codes "gt") then codes ">"
    else if bytes_eq name (codes "amp") then codes "&"
    else if bytes_eq name (codes "quot") then codes "\"" else []

-- the text that is read. A reference is what is between `&` and `;`; `name` has its octets so far,
-- None outside of one
abbrev pub text_read : Option (List ℕ) → List ℕ → List ℕ
text_read name [] = []
text_read None (octet ∷ octets) = if octet == 38 then text_read (Some []) octets
    else octet ∷ text_read None octets
text_read (Some name) (octet ∷ octets) =
    if octet == 59 then meant_by name ++ text_read None octets
    else text_read (Some (name ++ octet ∷ [])) octets

-- an octet that is no `<`, no `>` and no `"`
abbrev pub IsPlain : ℕ → Type 0
IsPlain octet = (octet == 60) ≡ false × (octet == 62) ≡ false × (octet == 34) ≡ false

-- a `div` whose content has no `<`, `>` or `"`, and is read as this text
abbrev pub IsLineOf : List ℕ → List ℕ → Type 0
IsLineOf line text =
    (content : List ℕ) × (line ≡ codes "<div style=\"max-width:20rem\">" ++ content
    ++ codes "</div>") × All IsPlain content
    × (text_read None content ≡ text)
