use Rattle.std.proofs.Common.{rules, ◌≡◌, ◌<◌, ◌-◌, ◌∙◌, ◌++◌, ◌∷◌, [], None, ap, sym, ℕ, length, arith}
use Rattle.std.proofs.lemmas.List.{length_push}
use Rattle.std.proofs.lemmas.Result.{err_from_is_err_and}
use Rattle.mon_fields.specs.Reading.{with_front, one_by_one}
use Rattle.mon_fields.proofs.Promised.{is_done}
use Rattle.mon_own_watch.specs.Reading.{next_watched}
use Rattle.mon_own_watch.proofs.Watches.{fails, one_more}
use Rattle.mon_own_watch.proofs.reading.all_at.Goals as goal

pub returns-in_err-watched : goal.returns-in_err-watched
returns-in_err-watched c =
    let held : c.len.result ≡ length c.loop-alloc.all.items = search rules in
    let bound : c.from.result ≡ c.args.many = search rules in
    let some : 0 < c.args.many - length c.loop-alloc.all.items = omega (arith, held, bound, c.loop-alloc-test.true) in
    let p = err_from_is_err_and c.from_residual-in_err-watched.result c.from_residual-in_err-watched.ensures.1 in
    rw (p.1, p.2) (fails c.args.window c.loop-alloc.all.items _ c.loop-alloc.reader _ c.loop-alloc.invariant.1 some c.in_err-watched.field-0.0 c.in_err-watched.ensures)

pub loop-alloc-preserved : goal.loop-alloc-preserved
loop-alloc-preserved c =
    let held : c.len.result ≡ length c.loop-alloc.all.items = search rules in
    let bound : c.from.result ≡ c.args.many = search rules in
    let some : 0 < c.args.many - length c.loop-alloc.all.items = omega (arith, held, bound, c.loop-alloc-test.true) in
    let longer = length_push c.loop-alloc.all.items c.in_ok-watched.watched in
    let next : c.args.many - length c.loop-alloc.all.items - 1 ≡ c.args.many - length (c.loop-alloc.all.items ++ c.in_ok-watched.watched ∷ []) = omega (arith, longer, some) in
    rw c.in_ok-push.ensures.items (
      omega (arith, longer, some),
      ap (λ (n : ℕ). with_front (c.loop-alloc.all.items ++ c.in_ok-watched.watched ∷ []) (one_by_one (next_watched c.args.window) None n c.watched_at.new.reader)) (sym next)
          ∙ one_more c.args.window c.loop-alloc.all.items _ c.loop-alloc.reader _ c.loop-alloc.invariant.1 some c.in_ok-watched.watched c.watched_at.new.reader c.in_ok-watched.ensures,
    )

pub returns : goal.returns
returns c =
    let held : c.len.result ≡ length c.loop-alloc.all.items = search rules in
    let bound : c.from.result ≡ c.args.many = search rules in
    let none : c.args.many - length c.loop-alloc.all.items ≡ 0 = omega (arith, held, bound, c.loop-alloc-test.false) in
    is_done (next_watched c.args.window) c.loop-alloc.all.items None _ c.loop-alloc.reader _ c.loop-alloc.invariant.1 none
