use Rattle.std.proofs.Common.{◌≡◌, ◌+◌, ◌<◌, ◌≤◌, ◌^◌, length, Some, None, arith, rules}
use Rattle.mon_smi.specs.Scan.{piece_at}
use Rattle.mon_smi.proofs.ByPieces.{piece_within, next_smaller, next_of, stuck_at}
use Rattle.mon_smi.proofs.lexer.tokens_of.Goals as goal

pub returns-in_default-clause-fault : goal.returns-in_default-clause-fault
returns-in_default-clause-fault c =
    let some : 0 < length c.loop-rest.rest.now = grind arith in
    let none : piece_at c.loop-rest.rest.now ≡ None = search rules in
    stuck_at c.args.text.now c.loop-rest.tokens.items c.loop-rest.start c.loop-rest.rest.now c.fault_at.result c.loop-rest.invariant some none c.fault_at.ensures

pub keep-requires : goal.keep-requires
keep-requires c =
    let found : piece_at c.loop-rest.rest.now ≡ Some c.in-Some.piece = search rules in
    let below : c.in-Some.piece.len ≤ length c.loop-rest.rest.now = piece_within c.loop-rest.rest.now c.in-Some.piece found in
    let within : c.loop-rest.start + length c.loop-rest.rest.now ≡ length c.args.text.now = c.loop-rest.invariant.within in
    let fits : length c.args.text.now < 2 ^ 64 = search rules in
    omega arith

pub behind-rest-requires : goal.behind-rest-requires
behind-rest-requires c =
    let found : piece_at c.loop-rest.rest.now ≡ Some c.in-Some.piece = search rules in
    piece_within c.loop-rest.rest.now c.in-Some.piece found

pub overflow_add-start : goal.overflow_add-start
overflow_add-start c =
    let found : piece_at c.loop-rest.rest.now ≡ Some c.in-Some.piece = search rules in
    let below : c.in-Some.piece.len ≤ length c.loop-rest.rest.now = piece_within c.loop-rest.rest.now c.in-Some.piece found in
    let within : c.loop-rest.start + length c.loop-rest.rest.now ≡ length c.args.text.now = c.loop-rest.invariant.within in
    let fits : length c.args.text.now < 2 ^ 64 = search rules in
    omega arith

pub loop-rest-smaller : goal.loop-rest-smaller
loop-rest-smaller c =
    let found : piece_at c.loop-rest.rest.now ≡ Some c.in-Some.piece = search rules in
    rw c.behind-rest.ensures (next_smaller c.loop-rest.rest.now c.in-Some.piece found)

pub loop-rest-preserved : goal.loop-rest-preserved
loop-rest-preserved c =
    let found : piece_at c.loop-rest.rest.now ≡ Some c.in-Some.piece = search rules in
    rw c.behind-rest.ensures (next_of c.args.text.now c.loop-rest.tokens.items c.loop-rest.start c.loop-rest.rest.now c.in-Some.piece _ c.loop-rest.invariant found c.in_ok-keep.ensures.kept)
