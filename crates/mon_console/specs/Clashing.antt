-- The line of a module that defines a name which is defined already.
use Rattle.std.specs.Prelude.{ℕ, nat_lt, List, ◌++◌, Bool, true, false, Option, Some, None, String}
use Rattle.std.specs.Prelude.{codes, find, option_map, slice_get, string_bytes, unwrap_or}
use Rattle.std.specs.Global.{Global}
use Rattle.mon_smi.specs.declared.definition.Definition.{Definition}

-- the module of the definition at a place: the first one that ends after it; none if it is built in
abbrev pub owner_of : List (String Global × ℕ) → ℕ → Option (List ℕ)
owner_of ends place = option_map (λ e. string_bytes e.0) (find (λ e. nat_lt place e.1) ends)

-- the name of the definition at a place
abbrev pub name_at : List Definition → ℕ → List ℕ
name_at defs place = unwrap_or (option_map (λ d. d.name) (slice_get defs place)) (codes "a name")

-- where a name is defined already: in the module itself, or by that module, or it is built in
abbrev pub clash_end : Bool → Option (List ℕ) → List ℕ
clash_end true owner = codes " twice"
clash_end false None = codes ", which is a built-in name"
clash_end false (Some other) = codes ", which " ++ other ++ codes " defines too"

-- the line of a module that defines a name which is defined already
abbrev pub clash_line : List ℕ → List ℕ → List ℕ → List ℕ → List ℕ
clash_line path own name end = path ++ codes ": " ++ own ++ codes " defines " ++ name ++ end
