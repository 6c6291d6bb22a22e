-- The names of error statuses (RFC 3416 section 3).
use Rattle.std.specs.Prelude.{ℕ, ℤ, pos, negsuc, List, [], ◌∷◌, Option, None, codes}
use Rattle.std.specs.List.{slice_get}

-- from 0 on
abbrev pub status_names : List (List ℕ)
status_names =
    codes "noError"
    ∷ codes "tooBig"
    ∷ codes "noSuchName"
    ∷ codes "badValue"
    ∷ codes "readOnly"
    ∷ codes "genErr"
    ∷ codes "noAccess"
    ∷ codes "wrongType"
    ∷ codes "wrongLength"
    ∷ codes "wrongEncoding"
    ∷ codes "wrongValue"
    ∷ codes "noCreation"
    ∷ codes "inconsistentValue"
    ∷ codes "resourceUnavailable"
    ∷ codes "commitFailed"
    ∷ codes "undoFailed"
    ∷ codes "authorizationError"
    ∷ codes "notWritable"
    ∷ codes "inconsistentName"
    ∷ []

-- the name of a status, if it has one
abbrev pub status_name : ℤ → Option (List ℕ)
status_name (pos n) = slice_get status_names n
status_name (negsuc n) = None
