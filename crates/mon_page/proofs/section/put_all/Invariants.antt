use Rattle.std.proofs.Common.{◌≡◌, ◌++◌, drop, length, option_map}
use Rattle.mon_page.specs.Page.{sections_from}
use Rattle.mon_page.proofs.section.put_all.Given as goal

-- what is written, and the sections that are left, are all
abbrev pub invariant-loop-place : goal.invariant-loop-place
invariant-loop-place g l = l.text.items ++ sections_from (g.S.NameTexts.shown l.names) (option_map (λ f. f.now) l.page.station) (length l.page.devices.now) l.place (drop l.place l.page.devices.now)
    ≡ l.fn.text.items ++ sections_from (g.S.NameTexts.shown l.names) (option_map (λ f. f.now) l.page.station) (length l.page.devices.now) 0 l.page.devices.now
