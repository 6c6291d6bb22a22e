use Rattle.std.proofs.Common.{◌++◌, ◌∙◌, ◌+◌, ◌<◌, ◌^◌, List, ℕ, ap, arith, string_bytes, subst}
use Rattle.std.specs.Prelude.{Ok}
use Rattle.mon_settings_commands.specs.Named.{file_name}
use Rattle.mon_settings_commands.specs.Texts.{IsCounted}
use Rattle.mon_settings_commands.proofs.Counting.{counted}
use Rattle.mon_settings_commands.proofs.Made.{put}
use Rattle.mon_settings_commands.proofs.settings.texts_of.Goals as goal

pub returns-clause-texts : goal.returns-clause-texts
returns-clause-texts c =
    let words = c.args.words.now in
    let up = c.args.up in
    let listen = subst (λ (w : List ℕ). IsCounted w up (string_bytes c.put_address.new.place)) c.given_or.ensures
    (counted c.given_or.result.now up (string_bytes c.new-texts.result.listen) (string_bytes c.put_address.new.place) c.new-texts.ensures.listen c.in_ok-put_address.ensures.kept c.in_ok-put_address.ensures.moved) in
    let fits : up + 1 < 2 ^ 32 = omega (arith, c.requires) in
    let file = c.in_ok-put_file.ensures fits ∙ (ap (λ b. b ++ file_name c.given_or-2.result.now up) c.new-texts.ensures.file ∙ ap (λ (f : List ℕ). file_name f up) c.given_or-2.ensures) in
    put words up (record { listen = c.put_address.new.place; file = c.put_file.new.place; peers = c.put_peers.new.peers }) c.new-texts.result.peers.items (Ok c.in_ok-put_peers.field-0) listen file c.new-texts.ensures.peers c.in_ok-put_peers.ensures.put
