use Rattle.std.proofs.Common.{◌≡◌, ℕ, List, [], ◌∷◌, ◌<◌, ◌≤◌, length, get_or, refl, subst, string_bytes, arith}
use Rattle.std.specs.Prelude.{IfOk}
use Rattle.mon_client.specs.Printed.{address_text}
use Rattle.mon_client.proofs.printed.address_text.Goals as goal

four : (xs : List ℕ) → 4 ≤ length xs → length xs < 5 → get_or xs 0 0 ∷ get_or xs 1 0 ∷ get_or xs 2 0 ∷ get_or xs 3 0 ∷ [] ≡ xs
four [] l u = absurd (omega arith)
four (a ∷ []) l u = absurd (omega arith)
four (a ∷ b ∷ []) l u = absurd (omega arith)
four (a ∷ b ∷ c ∷ []) l u = absurd (omega arith)
four (a ∷ b ∷ c ∷ d ∷ []) l u = refl
four (a ∷ b ∷ c ∷ d ∷ e ∷ es) l u = absurd (omega arith)

pub returns-in-len4 : goal.returns-in-len4
unfolding address_text
returns-in-len4 c =
    let e = four c.args.address.now (omega arith) (omega arith) in
    subst (λ xs. IfOk c.quad_text.result (λ text. string_bytes text ≡ address_text xs)) e c.quad_text.ensures
