-- The part that was put is the longest that fits.
use Rattle.std.proofs.Common.{◌≡◌, ◌≤◌, List, [], ◌∷◌, ◌++◌, length, sym, ap, subst, ◌∙◌, ◌⊎◌, inl, inr, arith}
use Rattle.std.proofs.lemmas.List.{length-append, append-nil, append_assoc}
use Rattle.mon_pdu.specs.declared.message.Binding.{Binding}
use Rattle.mon_agent.specs.Bulk.{IsLongestPart}
use Rattle.mon_agent.specs.ResponseBuilder.{IsEnded}

module _ (fits : List Binding → Type 0) (shrinks : (bindings more : List Binding) → fits (bindings ++ more) → fits bindings) where
  -- a beginning is either no longer than the part, or it has the next one too
  either : (part : List Binding) (next : Binding) (rest longer after : List Binding) → part ++ next ∷ rest ≡ longer ++ after
      → (length longer ≤ length part) ⊎ ((more : List Binding) × (longer ≡ part ++ next ∷ more))
  either part next rest [] after e = inl (omega arith)
  either [] next rest (x ∷ longer) after e = inr (longer, heads next x rest (longer ++ after) longer e)
    where
      heads : (a b : Binding) (xs ys zs : List Binding) → a ∷ xs ≡ b ∷ ys → b ∷ zs ≡ a ∷ zs
      heads a b xs ys zs e = cc
  either (p ∷ part) next rest (x ∷ longer) after e = elim (either part next rest longer after (tails e)) [
    | inl le ↦ inl (omega (arith, le))
    | inr found ↦ inr (found.0, both e found.1)
  ]
    where
      tails : {a b : Binding} {xs ys : List Binding} → a ∷ xs ≡ b ∷ ys → xs ≡ ys
      tails e = cc

      both : {a b : Binding} {xs ys ls ms : List Binding} → a ∷ xs ≡ b ∷ ys → ls ≡ ms → b ∷ ls ≡ a ∷ ms
      both e f = cc

  pub longest : (all part : List Binding) → (part ≡ []) ⊎ fits part → IsEnded fits all part → IsLongestPart fits all part
  longest all part within (inl is) = record {
    begins = ([], sym (append-nil part ∙ is));
    within = within;
    longest = λ longer begins small. omega (arith, ap length is, ap length begins.1, length-append longer begins.0);
  }
  longest all part within (inr cut) = record {
    begins = (cut.next ∷ cut.rest, cut.whole);
    within = within;
    longest = λ longer begins small. elim (either part cut.next cut.rest longer begins.0 (sym cut.whole ∙ begins.1)) [
      | inl le ↦ le
      | inr found ↦ absurd (cut.full (shrinks (part ++ cut.next ∷ []) found.0
          (subst fits (found.1 ∙ sym (append_assoc part (cut.next ∷ []) found.0)) small)))
    ];
  }
