use Rattle.std.proofs.Common.{◌≡◌, ◌≤◌, ◌∙◌, ap, sym, subst, ℕ, List, length, ◌++◌, rules}
use Rattle.std.specs.Prelude.{vec_len, ◌+◌}
use Rattle.mon_http.specs.Conversation.{Conversation}
use Rattle.mon_http.specs.Front.{skip_line_ends}
use Rattle.mon_http.specs.Scan.{IsScanned}
use Rattle.mon_http.proofs.Fronts.{skip_again, scanned_received, length_received, bound_received}
use Rattle.mon_http.proofs.connection.Connection.receive.Goals as goal

pub invariant_of-self : goal.invariant_of-self
invariant_of-self c =
    let items = c.add_octets.new.input.items in
    let old = c.self.inside.input.items in
    let octets = c.args.octets.now in
    let rest : items ≡ skip_line_ends (old ++ octets) = c.add_octets.ensures.octets in
    let new_len : vec_len c.add_octets.new.input ≡ length items = search rules in
    let old_len : vec_len c.self.inside.input ≡ length old = search rules in
    let unread : length c.args.self.now.unread ≡ length old = ap (λ (s : Conversation). length s.unread) (sym c.self.view_is) in
    let bound = bound_received old octets 8192 (subst (λ (n : ℕ). n + length octets ≤ 8192) unread c.requires) in
    let here = subst (λ (n : ℕ). c.self.inside.scanned ≤ n) old_len c.self.invariant.3 in
    let there = length_received old octets c.self.inside.scanned c.self.invariant.4 here in (
      subst (λ (n : ℕ). n ≤ 8192) (sym new_len) (subst (λ (s : List ℕ). length s ≤ 8192) (sym rest) bound),
      c.add_octets.ensures.capacity,
      c.self.invariant.2,
      subst (λ (n : ℕ). c.self.inside.scanned ≤ n) (sym new_len) (subst (λ (s : List ℕ). c.self.inside.scanned ≤ length s) (sym rest) there),
      ap skip_line_ends rest ∙ skip_again (old ++ octets) ∙ sym rest,
      subst (λ (s : List ℕ). IsScanned s c.self.inside.scanned c.self.inside.is_blank) (sym rest)
          (scanned_received old octets c.self.inside.scanned c.self.inside.is_blank c.self.invariant.4 here c.self.invariant.5),
    )
