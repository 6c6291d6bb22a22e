use Rattle.std.proofs.Common.{◌≡◌, ◌+◌, ◌-◌, [], ◌∷◌, length, take, drop, rules, arith, sym, ap, ◌∙◌, add-one}
use Rattle.std.proofs.lemmas.List.{take_rest}
use Rattle.mon_http.specs.Accept.{parts, parts_if, parts_left}
use Rattle.mon_http.proofs.Accepts.{parts_at, parts_whole}
use Rattle.mon_http.proofs.accept.PartsIterator.next.Goals.{After-trim, After-trim-in-None}
use Rattle.mon_http.proofs.accept.PartsIterator.next.Goals as goal

-- the part ends at the first such octet
at_end_octet : (c : After-trim) → parts_left c.args.self.now ≡ c.trim.result.now ∷ parts c.args.self.now.end (take (length c.in_ok-rest.rest.now - (c.in-Some.place + 1)) (drop (c.in-Some.place + 1) c.in_ok-rest.rest.now))
at_end_octet c =
    let rest = c.in_ok-rest.rest.now in
    let at = c.in-Some.place in
    let split = parts_at c.args.self.now.end rest at (search rules) (search rules) (search rules) in
    let part = c.trim.ensures in
    ap (parts_if c.args.self.now.end) c.in_ok-rest.was ∙ split ∙ simp (take_rest, add-one, part)

at_end : (c : After-trim-in-None) → parts_left c.args.self.now ≡ c.trim-in-None.result.now ∷ []
at_end c =
    ap (parts_if c.args.self.now.end) c.in_ok-rest.was ∙ parts_whole c.args.self.now.end c.in_ok-rest.rest.now (search rules) ∙ ap (λ x. x ∷ []) (sym c.trim-in-None.ensures)

pub returns-in-Some-clause-steps : goal.returns-in-Some-clause-steps
returns-in-Some-clause-steps c = at_end_octet c

pub returns-in-Some-clause-goes : goal.returns-in-Some-clause-goes
returns-in-Some-clause-goes c =
    record { on = λ _. (tt, tt, omega (arith, ap length (at_end_octet c))); keeps = tt; rests = λ _. tt }

pub returns-in-None-clause-steps : goal.returns-in-None-clause-steps
returns-in-None-clause-steps c = at_end c

pub returns-in-None-clause-goes : goal.returns-in-None-clause-goes
returns-in-None-clause-goes c =
    record { on = λ _. (tt, tt, omega (arith, ap length (at_end c))); keeps = tt; rests = λ _. tt }
