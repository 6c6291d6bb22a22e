use Rattle.std.proofs.Common.{◌≡◌, ◌++◌, ℕ, List, subst, string_bytes}
use Rattle.std.specs.Prelude.{OnOk}
use Rattle.mon_survey.specs.Text.{peer_at}
use Rattle.mon_survey.proofs.writing.put_peer.Goals as goal

pub returns : goal.returns
unfolding peer_at
returns c =
    subst (λ (a : List ℕ). OnOk c.write.result (string_bytes c.write.new.self ≡ string_bytes c.args.text.now ++ peer_at c.args.peer.now.station a)) c.as_str-address.ensures.value c.write.ensures.bytes
