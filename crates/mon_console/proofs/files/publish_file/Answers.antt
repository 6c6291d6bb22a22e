use Rattle.std.proofs.Common.{◌∙◌}
use Rattle.mon_console.specs.Files.{IsPublicWrite}
use Rattle.mon_console.proofs.Steps.{replaced}
use Rattle.mon_console.proofs.files.publish_file.Goals as goal

pub returns : goal.returns
returns g c = replaced (λ new. IsPublicWrite new c.args.octets.now) c.args.path.now c.as_str.result.now c.as_str-2.result.now c.in_ok-write_public.field-0 c.rename.result (g.H.Host.log c.args.host.now)
    (g.H.Host.log c.write_public.new.host) (g.H.Host.log c.rename.new.host) (c.as_str.ensures.value ∙ c.in_ok-fresh.ensures.ok) (c.as_str-2.ensures.value ∙ c.in_ok-fresh.ensures.ok)
    c.in_ok-write_public.ensures c.rename.ensures
