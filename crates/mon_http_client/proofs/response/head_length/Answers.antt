use Rattle.std.proofs.Common.{◌≡◌, ◌∙◌, ap, sym, subst, ℕ, length, get_or, ◌==◌, ◌&&◌, true}
use native.Mathlib.Omega.{arith}
use Rattle.mon_http_client.specs.Scan.{IsScanned}
use Rattle.mon_http_client.proofs.Fronts.{scanned_end, scanned_all}
use Rattle.mon_http_client.proofs.response.head_length.Goals as goal

pub returns-then-is_blank-clause-end : goal.returns-then-is_blank-clause-end
returns-then-is_blank-clause-end c =
    let found : ((get_or c.args.octets.now c.loop-i.i 0 == 10) && c.loop-i.is_blank) ≡ true =
    ap (λ (n : ℕ). (n == 10) && c.loop-i.is_blank) c.if-octet-eq10.true ∙ c.if-is_blank.true in
    sym (scanned_end c.args.octets.now c.loop-i.i c.loop-i.is_blank c.loop-i-test.true found c.loop-i.invariant)

pub returns-clause-end : goal.returns-clause-end
returns-clause-end c =
    let here : c.loop-i.i ≡ length c.args.octets.now = omega arith in
    sym (scanned_all c.args.octets.now c.loop-i.is_blank (subst (λ (n : ℕ). IsScanned c.args.octets.now n c.loop-i.is_blank) here c.loop-i.invariant))
