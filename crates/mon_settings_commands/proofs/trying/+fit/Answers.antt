use Rattle.std.proofs.Common.{◌∙◌, sym}
use Rattle.mon_client.specs.Network.{agents_by}
use Rattle.mon_settings_commands.specs.Fitting.{IsDraft}
use Rattle.mon_settings_commands.specs.Source.{source_in}
use Rattle.mon_settings_commands.proofs.Sizes.{fits, goes_on, no_draft, refused, too_big}
use Rattle.mon_settings_commands.proofs.trying.+fit.Goals as goal

pub returns-in_err-drafted : goal.returns-in_err-drafted
returns-in_err-drafted g t c =
    let agents = agents_by (g.N.Opens.has_opened c.args.net.now) (g.N.Opens.has_failed c.args.net.now) g.N.Wire.Wire.log in
    let asked = c.args.input.now.asked in
    no_draft agents asked (IsDraft (source_in c.args.input.now) c.args.wish) c.args.size c.in_err-drafted.field-0.0 c.from_residual.result c.from_residual.ensures.1 c.in_err-drafted.ensures

pub returns-in_default : goal.returns-in_default
returns-in_default g t c =
    let agents = agents_by (g.N.Opens.has_opened c.args.net.now) (g.N.Opens.has_failed c.args.net.now) g.N.Wire.Wire.log in
    let asked = c.args.input.now.asked in
    fits agents asked (IsDraft (source_in c.args.input.now) c.args.wish) c.args.size c.in_ok-drafted.drafted c.as_slice.result.now c.in_default.field-0 c.as_slice.ensures.value c.in_ok-drafted.ensures c.in_default.ensures

pub returns-then-not-is_too_big : goal.returns-then-not-is_too_big
returns-then-not-is_too_big g t c =
    let agents = agents_by (g.N.Opens.has_opened c.args.net.now) (g.N.Opens.has_failed c.args.net.now) g.N.Wire.Wire.log in
    let asked = c.args.input.now.asked in
    refused agents asked (IsDraft (source_in c.args.input.now) c.args.wish) c.args.size c.in_ok-drafted.drafted c.as_slice.result.now c.in-Err.failure c.as_slice.ensures.value c.in_ok-drafted.ensures c.in-Err.ensures
    (sym c.is_too_big.ensures ∙ c.if-not-is_too_big.true)

pub returns-in-Some : goal.returns-in-Some
returns-in-Some g t c =
    let agents = agents_by (g.N.Opens.has_opened c.args.net.now) (g.N.Opens.has_failed c.args.net.now) g.N.Wire.Wire.log in
    let asked = c.args.input.now.asked in
    goes_on agents asked (IsDraft (source_in c.args.input.now) c.args.wish) c.args.size c.in_ok-drafted.drafted c.as_slice.result.now c.in-Err.failure c.in-Some.less c.fit.result c.as_slice.ensures.value c.in_ok-drafted.ensures
    c.in-Err.ensures (sym c.is_too_big.ensures ∙ c.if-not-is_too_big.false) (sym c.half.ensures ∙ c.in-Some.is) c.fit.ensures

pub returns : goal.returns
returns g t c =
    let agents = agents_by (g.N.Opens.has_opened c.args.net.now) (g.N.Opens.has_failed c.args.net.now) g.N.Wire.Wire.log in
    let asked = c.args.input.now.asked in
    too_big agents asked (IsDraft (source_in c.args.input.now) c.args.wish) c.args.size c.in_ok-drafted.drafted c.as_slice.result.now c.in-Err.failure c.as_slice.ensures.value c.in_ok-drafted.ensures c.in-Err.ensures
    (sym c.half.ensures ∙ c.in-None.is)
