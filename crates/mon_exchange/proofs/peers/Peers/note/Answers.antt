use Rattle.std.proofs.Common.{◌≡◌, ℕ, Option, Some, get_or, sym, ap, ◌∙◌}
use Rattle.std.specs.FinSet as set
use Rattle.mon_board.specs.Board.{is_marked, window_of}
use Rattle.mon_exchange.specs.Peers.{known_incarnation, marks_after, noted_as}
use Rattle.mon_exchange.proofs.Noting.{taken_and_marked}
use Rattle.mon_exchange.proofs.Slots.{by_latest, known_at}
use Rattle.mon_exchange.proofs.peers.Peers.note.Goals as goal

some_is : (x y : ℕ) → Some x ≡ Some y → x ≡ y
some_is x y e = cc

pub returns-clause-known : goal.returns-clause-known
returns-clause-known c =
    by_latest c.args.self.now.peers c.hear-noted.new.self.peers c.hear-noted.ensures.numbers c.args.claim.now.station c.in-Some.slot c.args.claim.now.incarnation (sym c.in-Some.ensures.slot) c.hear-noted.ensures.known

pub returns-clause-marks : goal.returns-clause-marks
returns-clause-marks c = λ slot number is_slot is_number k i s.
    let old = c.args.board.now in
    let taken = c.take_all.new.self in
    let new = c.mark_noted.new.board in
    let peers = c.args.self.now.peers in
    let j = c.args.claim.now.incarnation in
    let same_slot : c.in-Some.slot ≡ slot = some_is _ _ (c.in-Some.ensures.slot ∙ is_slot) in
    let same_number : c.in-Some-number_of.instance ≡ number = some_is _ _ (c.in-Some-number_of.ensures.only number is_number) in
    let noted : c.hear-noted.result ≡ noted_as (known_incarnation peers c.args.claim.now.station) j =
    c.hear-noted.ensures.noted ∙ ap (λ (o : Option ℕ). noted_as o j) (sym (known_at peers c.args.claim.now.station c.in-Some.slot (sym c.in-Some.ensures.slot))) in
    taken_and_marked c.hear-noted.result c.in-Some.slot c.in-Some-number_of.instance c.as_slice-samples.result.now (window_of old) (window_of taken) (is_marked old) (is_marked taken) (is_marked new)
    c.take_all.ensures.marks c.mark_noted.ensures.marks k i s
    ∙ (λ t. marks_after (noted t) (same_slot t) (same_number t) (c.as_slice-samples.ensures t) (window_of old) (λ n. get_or (sym c.mark_noted.ensures.windows t) n set.empty) (is_marked old) k i s)
