-- How many samples windows have.
use Rattle.std.proofs.Common.{◌≡◌, ℕ, ◌+◌, ◌<◌, ◌≤◌, List, [], ◌∷◌, length, map, get_or, suc, ap, ◌∙◌, arith}
use Rattle.std.proofs.lemmas.List.{get_or-map}
use Rattle.std.proofs.lemmas.List.Elements.{All-get_or}
use Rattle.mon_window.specs.Top.{rising}
use Rattle.mon_window.specs.Window.{AreSizes, Samples}
use Rattle.mon_board.specs.Instance.{AreSized}
use Rattle.mon_board.specs.Watch.{IsWatch, Watch, size_of}
use Rattle.mon_board.specs.declared.instance.Watched.{Watched}
use Rattle.mon_carry.specs.Carried.{samples_before}

-- the samples of one window more
pub counted : (windows : ℕ → Samples) (n samples : ℕ) (xs : List ℕ) → samples ≡ samples_before windows n → xs ≡ rising (windows n)
    → samples + length xs ≡ samples_before windows (n + 1)
counted windows n samples xs is own =
    let next : suc n ≡ n + 1 = omega arith in
    (λ j. is j + length (own j)) ∙ ap (λ (k : ℕ). samples_before windows k) next

-- a window has at most 64
small : (ws : List Watched) (i : ℕ) → AreSized ws → i < length ws → get_or (map (λ (w : Watched). w.window) ws) i 0 ≤ 64
small [] i sized lt = absurd (omega (arith, lt))
small (w ∷ ws) i sized lt =
    let sizes = All-get_or (λ (v : Watched). AreSizes v.window v.epoch) (w ∷ ws) i w lt sized in
    omega (arith, get_or-map (λ (v : Watched). v.window) (w ∷ ws) i w 0 lt, sizes.small)

pub few : (watch : Watch) (i n : ℕ) → IsWatch watch → i < length watch.instances → n ≤ size_of watch i → n ≤ 64
few watch i n is_watch lt le = omega (arith, le, small watch.instances i is_watch.sized lt)
