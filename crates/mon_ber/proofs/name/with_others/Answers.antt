use Rattle.std.proofs.Common.{◌≡◌, ◌<◌, ◌^◌, ◌≤◌, ◌++◌, ◌∷◌, [], Err, length, ap, ◌∙◌, refl, arith}
use Rattle.std.proofs.lemmas.List.{length_push}
use Rattle.std.proofs.lemmas.Result.{err_from_is_err_and}
use Rattle.mon_ber.proofs.Names.{goes_on, fails, too_large, full, done, behind_longer}
use Rattle.mon_ber.proofs.Steps.{fails_never}
use Rattle.mon_ber.proofs.name.with_others.Goals as goal

pub returns-then-len-eq-MAX_PARTS-clause-gives : goal.returns-then-len-eq-MAX_PARTS-clause-gives
returns-then-len-eq-MAX_PARTS-clause-gives c =
    let some : 0 < length c.loop-rest.rest.now = grind arith in
    full c.loop-rest.parts.items c.loop-rest.rest.now _ c.loop-rest.invariant.so_far (omega arith) some

pub returns-in_err-number-clause-gives : goal.returns-in_err-number-clause-gives
returns-in_err-number-clause-gives c =
    let some : 0 < length c.loop-rest.rest.now = grind arith in
    let lt : length c.loop-rest.parts.items < 128 = omega (arith, c.loop-rest.invariant.valid.short) in
    let p = err_from_is_err_and c.from_residual.result c.from_residual.ensures.1 in
    rw (p.1, p.2) (fails c.loop-rest.parts.items c.loop-rest.rest.now _ c.loop-rest.invariant.so_far c.in_err-number.field-0.0 lt some c.in_err-number.ensures.gives)

pub returns-in_default-clause-gives : goal.returns-in_default-clause-gives
returns-in_default-clause-gives c =
    let some : 0 < length c.loop-rest.rest.now = grind arith in
    let lt : length c.loop-rest.parts.items < 128 = omega (arith, c.loop-rest.invariant.valid.short) in
    let large : 2 ^ 32 ≤ c.in_ok-number.number = grind arith in
    too_large c.loop-rest.parts.items c.loop-rest.rest.now _ c.loop-rest.invariant.so_far c.in_ok-number.number c.in_ok-number.after.now lt some c.in_ok-number.ensures.gives large

pub loop-rest-preserved : goal.loop-rest-preserved
loop-rest-preserved c =
    let some : 0 < length c.loop-rest.rest.now = grind arith in
    let lt : length c.loop-rest.parts.items < 128 = omega (arith, c.loop-rest.invariant.valid.short) in
    let same : c.in-Ok.part ≡ c.in_ok-number.number = grind arith in
    let fits : c.in_ok-number.number < 2 ^ 32 = grind arith in
    let longer = c.in_ok-push.ensures.ok in
    record {
      so_far = goes_on c.loop-rest.parts.items c.loop-rest.rest.now _ c.loop-rest.invariant.so_far c.push.new.self.items c.in_ok-number.number c.in_ok-number.after.now (rw (← same) longer) lt some c.in_ok-number.ensures.gives fits;
      valid = rw longer (c.pushed.ensures c.loop-rest.parts.items c.in-Ok.part c.loop-rest.invariant.valid lt (omega arith));
      room = omega (arith, c.loop-rest.invariant.room, c.in_ok-push.ensures.capacity);
    }

pub returns-clause-gives : goal.returns-clause-gives
returns-clause-gives c =
    let none : length c.loop-rest.rest.now ≡ 0 = grind arith in
    done c.loop-rest.parts.items c.loop-rest.rest.now _ c.loop-rest.invariant.so_far none

pub returns-in_err-number-clause-inline : goal.returns-in_err-number-clause-inline
returns-in_err-number-clause-inline c = λ all room few read.
    let some : 0 < length c.loop-rest.rest.now = grind arith in
    let lt : length c.loop-rest.parts.items < 128 = omega (arith, c.loop-rest.invariant.valid.short) in
    let e = c.in_err-number.field-0.0 in
    let failed = fails c.loop-rest.parts.items c.loop-rest.rest.now _ c.loop-rest.invariant.so_far e lt some c.in_err-number.ensures.gives in
    absurd (fails_never e _ all failed (λ same. c.in_err-number.ensures.no_memory (ap Err same)) read)

pub returns-in_default-clause-inline : goal.returns-in_default-clause-inline
returns-in_default-clause-inline c = λ all room few read.
    let some : 0 < length c.loop-rest.rest.now = grind arith in
    let lt : length c.loop-rest.parts.items < 128 = omega (arith, c.loop-rest.invariant.valid.short) in
    let large : 2 ^ 32 ≤ c.in_ok-number.number = grind arith in
    let bad = too_large c.loop-rest.parts.items c.loop-rest.rest.now _ c.loop-rest.invariant.so_far c.in_ok-number.number c.in_ok-number.after.now lt some c.in_ok-number.ensures.gives large in
    absurd cc

-- one more fits, since all that are read do
pub returns-in_err-push-clause-inline : goal.returns-in_err-push-clause-inline
returns-in_err-push-clause-inline c = λ all room few read.
    let front = c.loop-rest.parts.items in
    let n = c.in_ok-number.number in
    let some : 0 < length c.loop-rest.rest.now = grind arith in
    let lt : length front < 128 = omega (arith, c.loop-rest.invariant.valid.short) in
    let fits : n < 2 ^ 32 = grind arith in
    let one = goes_on front c.loop-rest.rest.now _ c.loop-rest.invariant.so_far (front ++ n ∷ []) n c.in_ok-number.after.now refl lt some c.in_ok-number.ensures.gives fits in
    let longer = behind_longer (front ++ n ∷ []) _ all (one ∙ read) in
    let yes = c.in_err-push.ensures.succeeds (omega (arith, longer, length_push front n, few, room, c.loop-rest.invariant.room)) in
    absurd cc
