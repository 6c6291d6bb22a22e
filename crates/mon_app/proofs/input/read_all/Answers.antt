use Rattle.std.proofs.Common.{◌≡◌, ℕ, ◌<◌, arith, List, [], ◌++◌, ap, length, subst, sym, take, ◌∙◌}
use Rattle.std.specs.Prelude.{IfSome, Option, Some, None, Result, Ok}
use Rattle.std.specs.Io.KnownBytes.{Consumes, IsAtEnd, ReadConsumes}
use Rattle.std.proofs.lemmas.List.{append-nil}
use Rattle.std.proofs.lemmas.Grind.{common_steps}
use Rattle.mon_app.proofs.input.read_all.Goals as goal

-- where a read gives nothing, what was read before is all
whole : {F : Type 0} → (before between after : Option (List ℕ)) (octets room : List ℕ) (r : Result ℕ F) (n : ℕ) → Consumes before between octets → n ≡ 0
    → r ≡ Ok n → ReadConsumes between after r room → 0 < length room → IfSome before (λ all. octets ≡ all)
whole None between after octets room r n read none is bytes some = tt
whole (Some all) None after octets room r n read none is bytes some = absurd read
whole {F = F} (Some all) (Some rest) after octets room r n read none is bytes some = sym (read ∙ (ap (λ l. octets ++ l) (no_rest rest after n none given some) ∙ append-nil octets))
  where
    given : Consumes (Some rest) after (take n room) × (n ≡ 0 → 0 < length room → IsAtEnd after)
    given = subst (λ (x : Result ℕ F). ReadConsumes (Some rest) after x room) is bytes

    no_rest : (rest : List ℕ) (after : Option (List ℕ)) (n : ℕ) → n ≡ 0 → Consumes (Some rest) after (take n room) × (n ≡ 0 → 0 < length room → IsAtEnd after) → 0 < length room → rest ≡ []
    no_rest rest None n none given some = absurd given.0
    no_rest rest (Some later) n none given some =
        given.0 ∙ (ap (λ (k : ℕ). take k room ++ later) none ∙ given.1 none some)

pub returns-in-Ok-eq0-clause-whole : goal.returns-in-Ok-eq0-clause-whole
returns-in-Ok-eq0-clause-whole g c =
    whole (g.R.Read.remaining c.args.reader.now.reader) (g.R.Read.remaining c.loop.reader.reader) (g.R.Read.remaining c.read.new.self.reader) c.loop.octets.items
    c.read.new.room c.read.result c.in-Ok-eq0.field-0 c.loop.invariant.read c.in-Ok-eq0.field-0-test c.in-Ok-eq0.is c.read.ensures.bytes
    (omega (arith, c.read.auto.room, ap length c.as_mut_slice.ensures.value, c.loop.invariant.room))

pub loop-preserved : goal.loop-preserved
loop-preserved g c = grind (arith, common_steps)

pub slice_bounds-extend_from_slice-end : goal.slice_bounds-extend_from_slice-end
slice_bounds-extend_from_slice-end g c = grind (arith, common_steps)

pub returns-then-ne-clause-fault : goal.returns-then-ne-clause-fault
returns-then-ne-clause-fault g c = grind (arith, common_steps)
