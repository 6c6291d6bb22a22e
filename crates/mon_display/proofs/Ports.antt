-- An address without its port.
use Rattle.std.proofs.Common.{◌≡◌, ◌≢◌, ◌∙◌, ℕ, ◌+◌, ◌-◌, ◌≤◌, Bool, true, false, List, ◌++◌, length, take, drop, codes, ap, sym, refl, arith}
use Rattle.std.specs.Prelude.{if◌then◌else◌}
use Rattle.std.specs.Str.{bytes_eq}
use Rattle.std.proofs.lemmas.List.{take-append-drop}
use Rattle.std.proofs.lemmas.Slice.Eq.{bytes_eq-Decides}
use Rattle.mon_display.specs.Naming.{without_port}

-- an address that does not end with the port
pub bare : (s : List ℕ) → ((front : List ℕ) → s ≢ front ++ codes ":161") → s ≡ without_port s
bare s lacks = by (bytes_eq (drop (length s - 4) s) (codes ":161")) refl where
  by : (b : Bool) → bytes_eq (drop (length s - 4) s) (codes ":161") ≡ b → s ≡ (if b then take (length s - 4) s else s)
  by true e = elim (lacks (take (length s - 4) s)
      (sym (take-append-drop (length s - 4) s) ∙ ap (λ (d : List ℕ). take (length s - 4) s ++ d) ((bytes_eq-Decides _ _).0 e))) [ ]
  by false e = refl
