use Rattle.std.proofs.Common.{◌≡◌, ◌++◌, ◌∙◌, ap, subst, sym}
use Rattle.std.specs.Cmp.{unsigned_Decides}
use Rattle.std.proofs.lemmas.Slice.Eq.{strip_prefix_is}
use Rattle.mon_mib.specs.Order.{start_of}
use Rattle.mon_mib.proofs.Finding.{IsStripped}
use Rattle.mon_mib.proofs.Starts.{behind_prefix}
use Rattle.mon_mib.proofs.start.find_start.Goals as goal

pub returns-in-Some : goal.returns-in-Some
returns-in-Some c =
    let prefix = c.args.prefix.now in
    let rest = c.in-Some.rest.now in
    let is : c.args.name.now ≡ prefix ++ rest =
    subst (IsStripped c.args.name.now prefix) c.in-Some.is (strip_prefix_is unsigned_Decides c.args.name.now prefix c.strip_prefix.result c.strip_prefix.ensures.cases) in
    c.start_behind.ensures ∙ (sym (behind_prefix prefix rest) ∙ ap (start_of prefix) (sym is))
