-- Texts that are added one after another.
use Rattle.std.proofs.Common.{◌≡◌, ◌∙◌, ◌++◌, List, ℕ, [], ap, append_assoc, refl}

pub six_texts : (a b c d e f t0 t1 t2 t3 t4 t5 t6 : List ℕ) → t0 ≡ [] → t1 ≡ t0 ++ a → t2 ≡ t1 ++ b → t3 ≡ t2 ++ c → t4 ≡ t3 ++ d → t5 ≡ t4 ++ e
    → t6 ≡ t5 ++ f → t6 ≡ a ++ b ++ c ++ d ++ e ++ f
six_texts a b c d e f t0 t1 t2 t3 t4 t5 t6 p0 p1 p2 p3 p4 p5 p6 =
    let q1 : t1 ≡ a = p1 ∙ ap (λ t. t ++ a) p0 in
    let q2 : t2 ≡ a ++ b = p2 ∙ ap (λ t. t ++ b) q1 in
    let q3 : t3 ≡ (a ++ b) ++ c = p3 ∙ ap (λ t. t ++ c) q2 in
    let q4 : t4 ≡ ((a ++ b) ++ c) ++ d = p4 ∙ ap (λ t. t ++ d) q3 in
    let q5 : t5 ≡ (((a ++ b) ++ c) ++ d) ++ e = p5 ∙ ap (λ t. t ++ e) q4 in
    p6 ∙ ap (λ t. t ++ f) q5

-- eight pieces, however they are put together
pub eight_pieces : (a b c d e f g h rest : List ℕ) → a ++ (b ++ (c ++ (d ++ (e ++ (f ++ (g ++ (h ++ rest))))))) ≡ a ++ b ++ c ++ d ++ e ++ f ++ g ++ h ++ rest
eight_pieces a b c d e f g h rest = simp append_assoc refl
