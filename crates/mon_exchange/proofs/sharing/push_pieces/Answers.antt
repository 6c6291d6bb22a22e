use Rattle.std.proofs.Common.{◌≡◌, ◌<◌, ◌≤◌, ◌++◌, ◌∷◌, [], ℕ, List, length, map, take, sym, ap, subst, ◌∙◌, arith, rules}
use Rattle.std.specs.Prelude.{All}
use Rattle.std.specs.List.Sorted.{IsStrictlySortedBy}
use Rattle.std.specs.Ordering.{nat_cmp}
use Rattle.std.proofs.lemmas.List.{length-drop, length-take}
use Rattle.std.proofs.lemmas.List.Elements.{All-push}
use Rattle.mon_exchange.specs.declared.sharing.Portion.{Portion}
use Rattle.mon_exchange.specs.Portions.{IsPortion, pieces, portion}
use Rattle.mon_exchange.proofs.Above.{sorted_drop, sorted_take}
use Rattle.mon_exchange.proofs.Pieces.{piece_more}
use Rattle.mon_exchange.proofs.sharing.push_pieces.Goals as goal

pub loop-rest-preserved : goal.loop-rest-preserved
loop-rest-preserved c =
    let i = c.args.instance in
    let done = c.loop-rest.portions.items in
    let rest = c.loop-rest.rest.now in
    let more = c.split_piece.result.1.now in
    let so_far = c.loop-rest.invariant in
    let samples = c.new-samples.result in
    let some : 0 < length rest = search rules in
    let piece : samples ≡ take 40 rest = c.new-samples.ensures ∙ c.in_ok-from_slice.ensures.items ∙ c.split_piece.ensures.piece in
    let pushed : c.push.new.self.items ≡ done ++ portion i samples ∷ [] = c.in_ok-push.ensures.items in
    let few : length samples ≤ 40 = omega (arith, ap length piece, length-take 40 rest) in
    record {
      rising = subst (λ (l : List ℕ). IsStrictlySortedBy nat_cmp l) (sym c.split_piece.ensures.others) (sorted_drop 40 rest so_far.rising);
      portions = ap (λ (l : List Portion). l ++ map (portion i) (pieces more)) pushed ∙ piece_more i done rest samples more some piece c.split_piece.ensures.others ∙ so_far.portions;
      each = λ many within all. subst (λ (l : List Portion). All (IsPortion many) l) (sym pushed)
          (All-push (IsPortion many) done (portion i samples) (so_far.each many within all)
          (record { instance = within; few = few; rising = subst (λ (l : List ℕ). IsStrictlySortedBy nat_cmp l) (sym piece) (sorted_take 40 rest so_far.rising) }));
    }

pub loop-rest-smaller : goal.loop-rest-smaller
loop-rest-smaller c =
    let rest = c.loop-rest.rest.now in
    let some : 0 < length rest = search rules in
    omega (arith, ap length c.split_piece.ensures.others, length-drop 40 rest, some)
