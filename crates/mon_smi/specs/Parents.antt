-- The numbers of a word by its chain of parents, as a function.
use Rattle.std.specs.Prelude.{ℕ, zero, suc, List, [], ◌∷◌, ◌++◌, length, Option, Some, None}
use Rattle.std.specs.Prelude.{option_map, option_and_then, if◌then◌else◌}
use Rattle.std.specs.Str.{bytes_eq}
use Rattle.mon_smi.specs.declared.definition.Definition.{Definition}

-- the first definition of this name
abbrev pub definition_of : List Definition → List ℕ → Option Definition
definition_of [] w = None
definition_of (d ∷ ds) w = if bytes_eq d.name w then Some d else definition_of ds w

-- the numbers of a word by at most n definitions, or none if there is no word
abbrev pub numbers_up : ℕ → List Definition → Option (List ℕ) → Option (List ℕ)
numbers_up zero defs None = Some []
numbers_up zero defs (Some w) = None
numbers_up (suc n) defs None = Some []
numbers_up (suc n) defs (Some w) = option_and_then (λ d. option_map (λ above. above ++ d.numbers)
    (numbers_up n defs d.parent)) (definition_of defs w)

-- the numbers that a word means: a chain of parents with an end has each definition at most once
unfoldable pub numbers_of : List Definition → List ℕ → Option (List ℕ)
numbers_of defs w = numbers_up (length defs) defs (Some w)
