use Rattle.std.proofs.Common.{All, Bor, List, ℕ, ◌∷◌, [], length, lit<, map, subst, sym}
use Rattle.std.proofs.lemmas.Iterator.Consumers.{YieldsList-end, YieldsList-so_far, YieldsList-turn}
use Rattle.std.proofs.lemmas.Iterator.Splits.{YieldsList-from_str_split}
use Rattle.std.proofs.lemmas.List.{map-append}
use Rattle.mon_settings_commands.specs.Kinds.{AreKinds, IsKindWord, IsNoKind, words_in}
use Rattle.mon_settings_commands.proofs.Refusals.{first_bad}
use Rattle.mon_settings_commands.proofs.Wanted.{one_kind}
use Rattle.mon_settings_commands.proofs.words.kinds_in.Goals as goal

pub returns-then-not-add_kind-clause-refused : goal.returns-then-not-add_kind-clause-refused
returns-then-not-add_kind-clause-refused c =
    let so_far = YieldsList-so_far (YieldsList-from_str_split 44 c.args.text.now (lit< tt) (cc) (cc) (cc)) c.loop-word.yielded _ c.loop-word.yielded_by in
    let turn = YieldsList-turn (YieldsList-from_str_split 44 c.args.text.now (lit< tt) (cc) (cc) (cc)) c.loop-word.yielded _ c.loop-word.yielded_by _ _ c.in-Some.word c.in-Some.is
    c.next.ensures.steps in
    first_bad IsKindWord IsNoKind (words_in c.args.text.now) (length c.loop-word.yielded) c.in-Some.word.now c.text.result turn.0 turn.1
    (subst (λ (words : List (List ℕ)). All IsKindWord words) so_far c.loop-word.invariant.each) (c.add_kind.ensures.unknown c.if-not-add_kind.true, c.text.ensures)

pub loop-word-preserved : goal.loop-word-preserved
loop-word-preserved c =
    let named = c.add_kind.ensures.named c.if-not-add_kind.false in
    subst (λ (words : List (List ℕ)). AreKinds words c.add_kind.new.kinds) (sym (map-append (λ (word : Bor (List ℕ)). word.now) c.loop-word.yielded (c.in-Some.word ∷ [])))
    (one_kind (map (λ (word : Bor (List ℕ)). word.now) c.loop-word.yielded) c.in-Some.word.now named.0 c.loop-word.kinds c.add_kind.new.kinds named.1 named.2 c.loop-word.invariant)

pub returns-clause-kinds : goal.returns-clause-kinds
returns-clause-kinds c =
    let all = YieldsList-end (YieldsList-from_str_split 44 c.args.text.now (lit< tt) (cc) (cc) (cc)) c.loop-word.yielded _ c.loop-word.yielded_by _ _ c.in-None.is c.next.ensures.steps in
    subst (λ (words : List (List ℕ)). AreKinds words c.loop-word.kinds) all.0 c.loop-word.invariant
