-- When the next attempt is due, what was counted, and what is said.
use Rattle.std.specs.Prelude.{ℕ, ◌+◌, ◌-◌, ◌*◌, ◌^◌, Bool, true, false, min, Option, Some, None}
use Rattle.std.specs.Prelude.{if◌then◌else◌}
use Rattle.mon_udp.specs.Counts.{next_count}
use Rattle.mon_courier.specs.declared.news.Cause.{Cause}
use Rattle.mon_courier.specs.declared.news.News.{News}
use Rattle.mon_courier.specs.declared.news.News.TheVariants.{Fails, Again}
use Rattle.mon_courier.specs.declared.plan.Plan.{Plan}

-- nothing was tried yet: the first pause is one second
abbrev pub first_plan : Plan
first_plan = record { due = 0; pause = 1000; is_failing = false; lost = 0; refused = 0 }

-- the pause after the one that follows this pause: twice as long, at most one minute
abbrev pub pause_after : ℕ → ℕ
pause_after pause = min (2 * pause) 60000

-- an attempt failed: the next is due after a pause
abbrev pub after_failure : ℕ → Plan → Plan
after_failure now p = record {
  due = min (now + p.pause) (2 ^ 64 - 1);
  pause = pause_after p.pause;
  is_failing = true;
  lost = p.lost;
  refused = p.refused;
}

-- a text was delivered: the next is due at once, and the next pause is one second
abbrev pub after_delivery : ℕ → Plan → Plan
after_delivery now p = record {
  due = now;
  pause = 1000;
  is_failing = false;
  lost = p.lost;
  refused = p.refused;
}

-- the receiver refused a text for good: that is counted, and the next is due at once
abbrev pub after_refusal : ℕ → Plan → Plan
after_refusal now p = record {
  due = now;
  pause = p.pause;
  is_failing = p.is_failing;
  lost = p.lost;
  refused = next_count p.refused;
}

-- a text could not be made: that is counted
abbrev pub after_loss : Plan → Plan
after_loss p = record {
  due = p.due;
  pause = p.pause;
  is_failing = p.is_failing;
  lost = next_count p.lost;
  refused = p.refused;
}

-- what is said after an attempt failed, by whether the one before it did
abbrev pub failure_news : Cause → Bool → Option News
failure_news cause failing = if failing then None else Some (Fails cause)

-- what is said after a delivery, by whether the attempt before it failed
abbrev pub delivery_news : Bool → Option News
delivery_news failing = if failing then Some Again else None
