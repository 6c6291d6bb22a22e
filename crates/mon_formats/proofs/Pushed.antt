-- What is added to a list, unless memory ran out.
use Rattle.std.proofs.Common.{◌≡◌, ◌∙◌, List, [], ◌∷◌, ◌++◌, ap, append_assoc, map, Result, Ok, Err}
use Rattle.std.specs.Prelude.{ℕ, OnOk, if◌then◌else◌, is_ok}
use Rattle.std.proofs.lemmas.List.{map_push}
use Rattle.serde_json.specs.Data.{Data}
use Rattle.serde_json.specs.Written.{compact_text}
use Rattle.serde_json.specs.View.{view}
use Rattle.serde_json.specs.declared.value.Value.{Value}

-- what the list holds then, unless it failed
pub pushed : {A E : Type 0} (r : Result A E) (old new : List Value) (v : Value) (d : Data) → view v ≡ d → OnOk r (new ≡ old ++ v ∷ [])
    → OnOk r (map view new ≡ map view old ++ d ∷ [])
pushed (Ok x) old new v d same added = ap (map view) added ∙ map_push view old v ∙ ap (λ e. map view old ++ e ∷ []) same
pushed (Err x) old new v d same added = tt

-- what follows from the octets that were added, unless it failed
pub when_added : {A E : Type 0} (P : Type 0) (r : Result A E) (new all old : List ℕ) → new ≡ (if is_ok r then all else old) → (new ≡ all → P) → OnOk r P
when_added P (Ok x) new all old added f = f added
when_added P (Err x) new all old added f = tt

-- a key, a value's text and what follows it, after the earlier text
pub behind : (new old key : List ℕ) (d e : Data) (rest : List ℕ) → d ≡ e → new ≡ old ++ (key ++ compact_text d) → new ++ rest ≡ old ++ (key ++ (compact_text e ++ rest))
behind new old key d e rest same added =
    ap (λ l. l ++ rest) added
    ∙ append_assoc old (key ++ compact_text d) rest
    ∙ ap (λ l. old ++ l) (append_assoc key (compact_text d) rest)
    ∙ ap (λ x. old ++ (key ++ (compact_text x ++ rest))) same
