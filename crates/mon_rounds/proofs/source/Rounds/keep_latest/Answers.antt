use Rattle.std.proofs.Common.{◌≤◌, sym, subst}
use Rattle.mon_reasons.specs.declared.newest_datagrams.Datagram.{Datagram}
use Rattle.mon_rounds.proofs.Few.{keeps_few, kept_or_refused, most_within}
use Rattle.mon_rounds.specs.Kept.{count_at, kept_in}
use Rattle.mon_rounds.proofs.source.Rounds.keep_latest.Goals as goal

pub invariant_of-self : goal.invariant_of-self
invariant_of-self g c =
    let r = c.args.self.now.round in
    let old = c.args.self.now.latest in
    let most = c.most_kept-most.result in
    let d : Datagram = record { from = c.args.from; octets = c.as_slice.result.now } in
    let le = subst (λ n. n ≤ count_at r.targets c.args.from) (sym c.most_kept-most.ensures) (most_within r c.args.from) in
    let keeps = kept_or_refused c.keep.result most d old c.keep.new.self c.if-most-gt0.true c.keep.ensures.kept c.keep.ensures.refused c.keep.ensures.unkept in
    record { few = keeps_few c.newest_stay.ensures.own r.targets most d (kept_in old) (kept_in c.keep.new.self) le keeps c.args.self.now.few }
