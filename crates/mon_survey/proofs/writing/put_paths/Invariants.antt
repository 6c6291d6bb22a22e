use Rattle.std.proofs.Common.{◌≡◌, ◌++◌, take, string_bytes}
use Rattle.std.specs.List.{flat_map}
use Rattle.mon_survey.specs.Text.{module_text}
use Rattle.mon_survey.proofs.writing.put_paths.Given as goal

-- the lines so far
abbrev pub invariant-loop-path : goal.invariant-loop-path
invariant-loop-path l = string_bytes l.text ≡ string_bytes l.initial.text ++ flat_map (λ m. module_text m.now) (take l.path-index l.paths)
