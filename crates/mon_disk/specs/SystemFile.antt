-- What a disk asks the system for, and what it makes of the answers.
use Rattle.std.specs.Prelude.{◌≡◌, true, ◌∷◌, [], ℕ, ◌+◌, ◌-◌, ◌^◌, min, List, Option, Some, None}
use Rattle.std.specs.Prelude.{Result, Ok, Err, IsErr}
use Rattle.std.specs.Fs.{new_options, with_read, with_write, with_create}
use Rattle.std.specs.Path.{path_parent, cur_dir}
use Rattle.std.specs.declared.io.Error.{Error}
use Rattle.std.specs.declared.fs.options.OpenOptions.{OpenOptions}

-- The system's answer to a disk's one call, as the disk passes it on. An error is counted, up to
-- 2^64 - 1, and kept as the last one.
abbrev pub IsPassedOn : {T E : Type 0} → Result T Error → ℕ → ℕ
    → Option Error → Option Error → Result T E → Type 0
IsPassedOn (Ok value) count counts last lasts result =
    (result ≡ Ok value) × (counts ≡ count) × (lasts ≡ last)
IsPassedOn (Err error) count counts last lasts result =
    IsErr result × (counts ≡ min (count + 1) (2 ^ 64 - 1)) × (lasts ≡ Some error)

-- a file is read and written; what it holds stays, and it is not made if there is none
abbrev pub existing : OpenOptions
existing = with_write (with_read new_options true) true

-- a file is read and written; what it holds stays, and an empty one is made if there is none
abbrev pub created : OpenOptions
created = with_create existing true

-- the folder of a path, from the path's parent: `.` if the path has none, or an empty one
abbrev pub folder_in : Option (List ℕ) → List ℕ
folder_in None = cur_dir
folder_in (Some []) = cur_dir
folder_in (Some (b ∷ bs)) = b ∷ bs

-- the folder in which a path's file is
abbrev pub folder_of : List ℕ → List ℕ
folder_of path = folder_in (path_parent path)
