use native.Mathlib.Omega.{arith}
use Rattle.std.proofs.Common.{◌≡◌, ◌+◌, subst, ℕ, List, take, drop, Some, None, false}
use Rattle.std.proofs.lemmas.List.{length-drop, length-take}
use Rattle.mon_http_client.specs.Front.{head_length}
use Rattle.mon_http_client.specs.declared.response.Head.TheVariants.{Interim, Final, Bad}
use Rattle.mon_http_client.specs.declared.response.Progress.TheVariants.{More, Response, Refused}
use Rattle.mon_http_client.specs.Response.{ReadsFrom, waits, overflows, fails, ends}
use Rattle.mon_http_client.proofs.Reading.{after_interim, end_is, head_is, looked_at, no_end}
use Rattle.mon_http_client.proofs.response.read_response.Goals as goal

pub loop-n-preserved : goal.loop-n-preserved
loop-n-preserved c =
    let seen : List ℕ = take c.min.result c.args.octets.now in
    after_interim seen c.loop-n.past c.in-Some.n c.loop-n.invariant.0
    (end_is seen c.loop-n.past c.head_length.result (Some c.in-Some.n) c.head_length.ensures.end c.in-Some.is)
    (head_is seen c.loop-n.past c.in-Some.n c.judge.result Interim c.judge.ensures c.in-Interim.is) c.loop-n.invariant.1

pub returns-in-Final : goal.returns-in-Final
returns-in-Final c =
    let seen : List ℕ = take c.min.result c.args.octets.now in
    let p = Response c.in-Final.status (c.loop-n.past + c.in-Some.n) in
    subst (λ (s : List ℕ). ReadsFrom 0 s p) (looked_at c.args.octets.now c.min.result (grind arith) (grind arith))
    (c.loop-n.invariant.1 p (ends c.loop-n.past (drop c.loop-n.past seen) c.in-Some.n c.in-Final.status
    (end_is seen c.loop-n.past c.head_length.result (Some c.in-Some.n) c.head_length.ensures.end c.in-Some.is)
    (head_is seen c.loop-n.past c.in-Some.n c.judge.result (Final c.in-Final.status) c.judge.ensures c.in-Final.is)))

pub returns-in-Bad : goal.returns-in-Bad
returns-in-Bad c =
    let seen : List ℕ = take c.min.result c.args.octets.now in
    subst (λ (s : List ℕ). ReadsFrom 0 s Refused) (looked_at c.args.octets.now c.min.result (grind arith) (grind arith))
    (c.loop-n.invariant.1 Refused (fails c.loop-n.past (drop c.loop-n.past seen) c.in-Some.n
    (end_is seen c.loop-n.past c.head_length.result (Some c.in-Some.n) c.head_length.ensures.end c.in-Some.is)
    (head_is seen c.loop-n.past c.in-Some.n c.judge.result Bad c.judge.ensures c.in-Bad.is)))

pub returns-then-octets-lt-MAX_OCTETS : goal.returns-then-octets-lt-MAX_OCTETS
returns-then-octets-lt-MAX_OCTETS c =
    let seen : List ℕ = take c.min.result c.args.octets.now in
    let none : head_length false (drop c.loop-n.past seen) ≡ None =
    end_is seen c.loop-n.past c.head_length.result None c.head_length.ensures.end (no_end c.head_length.result c.in_default.not-Some) in
    subst (λ (s : List ℕ). ReadsFrom 0 s More) (looked_at c.args.octets.now c.min.result (grind arith) (grind arith))
    (c.loop-n.invariant.1 More (waits c.loop-n.past (drop c.loop-n.past seen) none
    (omega (arith, length-drop c.loop-n.past seen, length-take c.min.result c.args.octets.now))))

pub returns-else-octets-lt-MAX_OCTETS : goal.returns-else-octets-lt-MAX_OCTETS
returns-else-octets-lt-MAX_OCTETS c =
    let seen : List ℕ = take c.min.result c.args.octets.now in
    let none : head_length false (drop c.loop-n.past seen) ≡ None =
    end_is seen c.loop-n.past c.head_length.result None c.head_length.ensures.end (no_end c.head_length.result c.in_default.not-Some) in
    subst (λ (s : List ℕ). ReadsFrom 0 s Refused) (looked_at c.args.octets.now c.min.result (grind arith) (grind arith))
    (c.loop-n.invariant.1 Refused (overflows c.loop-n.past (drop c.loop-n.past seen) none
    (omega (arith, length-drop c.loop-n.past seen, length-take c.min.result c.args.octets.now))))
