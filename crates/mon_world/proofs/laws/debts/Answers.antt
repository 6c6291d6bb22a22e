use Rattle.std.proofs.Common.{ℕ, ◌≡◌, ◌∙◌, Some, ap, sym, subst}
use Rattle.mon_report.specs.Report.{report}
use Rattle.mon_station.specs.Lived.{entries_of, last_state}
use Rattle.mon_station.specs.State.{State}
use Rattle.mon_station.specs.Taken.{taken}
use Rattle.mon_station.specs.Verdict.{Setting}
use Rattle.mon_window.specs.Window.{In}
use Rattle.mon_world.specs.Moves.{lives_of}
use Rattle.mon_world.specs.Places.{setting_at}
use Rattle.mon_world.proofs.Lives.{setting_is}
use Rattle.mon_world.proofs.Offered.{all_offered}
use Rattle.mon_world.proofs.Squared.{agree, owed_is, paid_for}
use Rattle.mon_world.proofs.laws.debts.Goals as goal
use Rattle.mon_board.proofs.Promised.{kept_within}

pub returns-clause-owed : goal.returns-clause-owed
returns-clause-owed c core count x y slot moves s watch are is has =
    owed_is c.taking.ensures c.noting.ensures.own c.noting.ensures.other c.owing.ensures c.joined_windows.ensures c.one_image.ensures c.taken.ensures.windows c.bound.ensures.keep_few c.rising_list.ensures.count
    core count moves are x y slot s is has

pub returns-clause-states : goal.returns-clause-states
returns-clause-states c core count moves watch are unforged =
    let same = agree c.taking.ensures c.noting.ensures.own c.noting.ensures.other c.owing.ensures c.joined_windows.ensures c.one_image.ensures c.taken.ensures.windows c.bound.ensures.keep_few c.rising_list.ensures.count
    core count moves are watch unforged in
    let its_watch : (x : ℕ) (s : State) → last_state (lives_of x moves) ≡ Some s → s.board.watch ≡ core.watch =
    λ x s is. ap (λ (w : Setting). w.watch) (setting_is (setting_at core count x) (lives_of x moves) (are.lived x) (are.lives x) s is) in
    let all = all_offered c.one_image.ensures c.taken.ensures.windows core count watch moves are unforged in
    record {
      paid = paid_for c.taking.ensures c.noting.ensures.own c.noting.ensures.other c.owing.ensures c.joined_windows.ensures c.one_image.ensures c.taken.ensures.windows c.bound.ensures.keep_few c.rising_list.ensures.count
          core count moves are watch unforged;
      equal = λ x y s t is as_well square. same x y s t is as_well square.known square.known_back square.nothing square.nothing_back;
      reports = λ x y s t is as_well square j. report ((its_watch x s is ∙ sym (its_watch y t as_well)) j)
          (λ i. same x y s t is as_well square.known square.known_back square.nothing square.nothing_back i j);
      offered = λ x s is i k there. (all.pasts x).taken_so i k (kept_within s.board.watch i (taken (entries_of (lives_of x moves)) i) k
          (subst (λ a. In k a) (c.taken.ensures.windows (lives_of x moves) s (are.lived x) is i) there));
    }
