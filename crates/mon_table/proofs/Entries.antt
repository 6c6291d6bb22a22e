-- Samples of entries.
use Rattle.std.proofs.Common.{◌≡◌, ℕ, ◌+◌, ◌<◌, List, [], ◌∷◌, length, take, get_or, ap, ◌∙◌, arith}
use Rattle.std.proofs.lemmas.List.{take_more}
use Rattle.std.proofs.lemmas.List.Sums.{sum_by-append}
use Rattle.mon_report.specs.Report.{Entry, samples_in}

-- the samples of one entry more
pub samples-more : (es : List Entry) (i : ℕ) (e : Entry) → i < length es → samples_in (take (i + 1) es) ≡ samples_in (take i es) + length (get_or es i e).items
samples-more es i e lt =
    let alone : 0 + length (get_or es i e).items ≡ length (get_or es i e).items = omega arith in
    ap samples_in (take_more es i e lt) ∙ sum_by-append (λ x. length x.items) (take i es) (get_or es i e ∷ []) ∙ ap (λ n. samples_in (take i es) + n) alone
