use Rattle.std.proofs.Common.{rules, ◌≡◌, ◌++◌, length, drop, ap, ◌∙◌}
use Rattle.std.proofs.lemmas.List.{drop_at}
use Rattle.mon_disk.proofs.keeper.behind_room.Goals as goal

pub returns-clause-body : goal.returns-clause-body
returns-clause-body c =
    let room = c.extend_from_slice.new.self.items in
    let sixteen : length room ≡ 16 = search rules in
    let all : c.extend_from_slice-2.new.self.items ≡ room ++ c.args.body.now = search rules in
    ap (λ l. drop 16 l) all ∙ drop_at room c.args.body.now 16 sixteen
