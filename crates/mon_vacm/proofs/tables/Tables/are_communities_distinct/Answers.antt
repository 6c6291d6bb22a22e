use Rattle.std.proofs.Common.{◌≡◌, take, Any, List, ℕ, refl, sym, ◌∙◌, subst}
use Rattle.std.proofs.lemmas.Bool.{false≢true}
use Rattle.std.proofs.lemmas.List.{take_all}
use Rattle.mon_vacm.specs.declared.community.Community.{Community}
use Rattle.mon_vacm.specs.Tables.{AreCommunitiesDistinct}
use Rattle.mon_vacm.proofs.Distinct.{pairs_more, twins}
use Rattle.mon_vacm.proofs.tables.Tables.are_communities_distinct.Goals as goal

abbrev Alike : Community → Community → Type 0
Alike a b = a.name ≡ b.name

pub returns-then-has_community : goal.returns-then-has_community
returns-then-has_community c =
    let xs = c.as_slice-communities.result.now in
    let at = c.loop-i.i in
    let own = c.index-communities-i.result in
    let twin = subst (λ (name : List ℕ). Any (λ (a : Community). a.name ≡ name) (take at xs)) c.as_slice.ensures (c.has_community.ensures.0 c.if-has_community.true) in
    ((λ lie. absurd (false≢true lie)), (λ distinct. absurd (twins Alike xs at own c.loop-i-test.true c.index-communities-i.is twin (subst AreCommunitiesDistinct (sym c.as_slice-communities.ensures.value) distinct))))

pub loop-i-preserved : goal.loop-i-preserved
loop-i-preserved c =
    let xs = c.as_slice-communities.result.now in
    let at = c.loop-i.i in
    pairs_more Alike xs at c.index-communities-i.result c.loop-i-test.true c.index-communities-i.is c.loop-i.invariant
    (λ twin. false≢true (sym c.if-has_community.false ∙ c.has_community.ensures.1 (subst (λ (name : List ℕ). Any (λ (a : Community). a.name ≡ name) (take at xs)) (sym c.as_slice.ensures) twin)))

pub returns : goal.returns
returns c =
    let all = take_all c.loop-i.i c.as_slice-communities.result.now c.loop-i-test.false ∙ c.as_slice-communities.ensures.value in
    ((λ _. subst AreCommunitiesDistinct all c.loop-i.invariant), (λ _. refl))
