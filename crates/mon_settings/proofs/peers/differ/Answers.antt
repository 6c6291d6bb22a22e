use Rattle.std.proofs.Common.{◌≡◌, ◌≢◌, AllPairs, ℕ, get_or, refl, sym, ◌∙◌, subst}
use Rattle.std.proofs.lemmas.Bool.{false≢true}
use Rattle.std.proofs.lemmas.List.{take_all, get_or_default}
use Rattle.mon_settings.proofs.Distinct.{pairs_more, twins}
use Rattle.mon_settings.proofs.peers.differ.Goals as goal

abbrev Same : ℕ → ℕ → Type 0
Same a b = a ≡ b

pub returns-then-stands_in : goal.returns-then-stands_in
returns-then-stands_in c =
    let twin = c.stands_in.ensures.0 c.if-stands_in.true in
    let own = get_or c.args.numbers.now c.loop-i.i 0 in
    ((λ lie. absurd (false≢true lie)), (λ distinct. absurd (twins Same c.args.numbers.now c.loop-i.i own c.loop-i-test.true (get_or_default c.args.numbers.now c.loop-i.i 0 own c.loop-i-test.true) twin distinct)))

pub loop-i-preserved : goal.loop-i-preserved
loop-i-preserved c =
    let own = get_or c.args.numbers.now c.loop-i.i 0 in
    pairs_more Same c.args.numbers.now c.loop-i.i own c.loop-i-test.true (get_or_default c.args.numbers.now c.loop-i.i 0 own c.loop-i-test.true) c.loop-i.invariant
    (λ twin. false≢true (sym c.if-stands_in.false ∙ c.stands_in.ensures.1 twin))

pub returns : goal.returns
returns c =
    let all = take_all c.loop-i.i c.args.numbers.now c.loop-i-test.false in
    ((λ _. subst (AllPairs (λ a b. a ≢ b)) all c.loop-i.invariant), (λ _. refl))
