use Rattle.std.proofs.Common.{List, ℕ, [], Vec, String, Global, map}
use Rattle.std.specs.Prelude.{string_bytes}
use Rattle.toml.specs.View.{table_view}
use Rattle.mon_settings.specs.Leaf.{texts_in}
use Rattle.mon_settings.specs.Accepted.{HoldsOr}
use Rattle.mon_settings.specs.Station.{modules_at}
use Rattle.mon_settings.specs.declared.fault.SettingsFault.TheVariants.{NotToml}
use Rattle.mon_settings.specs.declared.key.Key.TheVariants.{Modules}
use Rattle.mon_settings.proofs.StationFaults.{modules-told}
use Rattle.mon_settings.proofs.Steps.{default_from, default_to}
use Rattle.mon_settings.proofs.Texts.{said, refused, unsaid, unread}
use Rattle.mon_settings.proofs.modules.module_files.Goals as goal

abbrev texts : Vec (String Global) Global → List (List ℕ)
texts v = map string_bytes v.items

pub returns-in-Ok-clause-accepted : goal.returns-in-Ok-clause-accepted
returns-in-Ok-clause-accepted c =
    said texts modules_at c.args.text.now (table_view c.in-Ok.table) c.in-Ok.ensures.tree (HoldsOr Modules [] texts_in)
    (λ t l. (default_from Modules texts_in t l [], default_to Modules texts_in t l [])) c.modules_at.result c.modules_at.ensures

pub returns-in-Ok-clause-refused : goal.returns-in-Ok-clause-refused
returns-in-Ok-clause-refused c =
    let tree = table_view c.in-Ok.table in
    refused texts modules_at c.args.text.now tree c.in-Ok.ensures.tree (λ from h. modules-told tree (NotToml from) h) c.modules_at.result c.modules_at.ensures

pub returns-in-Err-clause-accepted : goal.returns-in-Err-clause-accepted
returns-in-Err-clause-accepted c = unsaid texts modules_at c.args.text.now (HoldsOr Modules [] texts_in) c.in-Err.fault c.in-Err.ensures.unread

pub returns-in-Err-clause-refused : goal.returns-in-Err-clause-refused
returns-in-Err-clause-refused c = unread texts modules_at c.args.text.now c.in-Err.fault c.in-Err.ensures.unread
