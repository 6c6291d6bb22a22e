use Rattle.std.proofs.Common.{◌≡◌, ℕ, List, ◌∙◌, ap, subst}
use Rattle.std.specs.Prelude.{IfOk}
use Rattle.hex.specs.Hex.{encode_lower}
use Rattle.mon_board.specs.declared.instance.Watched.{Watched}
use Rattle.mon_survey.specs.declared.editing.Spelled.{Spelled}
use Rattle.mon_survey.specs.Edited.{edited_text, quoted, spellings}
use Rattle.mon_survey.specs.Moved.{at_of}
use Rattle.mon_survey.proofs.updating.kept_octets.Goals as goal

pub returns : goal.returns
returns g c =
    let a = at_of c.args.spelling.now.places in
    let shown = g.S.NameTexts.shown c.args.spelling.now.names.now in
    let ws = c.args.existing.now.station.now.core.watch.instances in
    let watched : c.instances-instances.result.now ≡ ws = c.instances-instances.ensures.instances ∙ ap (λ w. w.instances) c.watch.ensures.watch in
    let names : c.deref.result.now ≡ spellings shown a ws = c.deref.ensures.value ∙ c.in_ok-names.ensures ∙ ap (λ (l : List Watched). spellings shown a l) watched in
    let own : c.as_slice.result.now ≡ quoted (encode_lower c.args.spelling.now.places.engine.now) =
    c.as_slice.ensures ∙ c.in_ok-own.ensures ∙ ap (λ (t : List ℕ). quoted t) (c.as_str.ensures.value ∙ c.in_ok-digits.ensures) in
    subst (λ (l : List Spelled). IfOk c.edited.result (λ v. v.items ≡ edited_text l (quoted (encode_lower c.args.spelling.now.places.engine.now)) c.args.existing.now.text.now)) names
    (subst (λ (o : List ℕ). IfOk c.edited.result (λ v. v.items ≡ edited_text c.deref.result.now o c.args.existing.now.text.now)) own
    (subst (λ (t : List ℕ). IfOk c.edited.result (λ v. v.items ≡ edited_text c.deref.result.now c.as_slice.result.now t)) c.as_bytes.ensures.value c.edited.ensures))
