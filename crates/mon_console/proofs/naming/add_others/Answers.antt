use Rattle.std.proofs.Common.{◌∙◌, ◌+◌, map, subst, sym}
use Rattle.std.specs.Prelude.{Result}
use Rattle.mon_console.specs.Naming.{AreJoinedFromAll, names_in, others}
use Rattle.mon_console.specs.declared.failure.Failure.{Failure}
use Rattle.mon_console.specs.declared.naming.KnownNames.{KnownNames}
use Rattle.mon_host.specs.Log.{GoesOnBy}
use Rattle.mon_console.proofs.Added.{Leads, failure_is, no_other_left, other_added, other_failed, other_passed, rest}
use Rattle.mon_console.proofs.naming.add_others.Goals as goal
use Rattle.mon_console.proofs.naming.add_others.Goals.{then-not-is_among+in_ok-add_file, else-not-is_among}

pub returns-in_err-add_file : goal.returns-in_err-add_file
returns-in_err-add_file g c =
    let files = c.args.files.now in
    let all = others files (map (λ p. p.now) c.args.paths.now) in
    let start = c.args.known.names in
    let before = g.H.Host.log c.args.host.now in
    let after = g.H.Host.log c.add_file.new.host in
    let is = failure_is c.from_residual.result c.in_err-add_file.field-0.0 c.from_residual.ensures.1 in
    subst (λ (r : Result KnownNames Failure). GoesOnBy (λ log. AreJoinedFromAll start all log (names_in r)) before after) (sym is)
    (other_failed files start all c.args.paths.now c.loop-path.path-index _ c.loop-path.known.names c.add_file.new.self.names
    c.in_err-add_file.field-0.0 before (g.H.Host.log c.loop-path.host) after c.loop-path-test.true (sym c.is_among.ensures ∙ c.if-not-is_among.true)
    c.loop-path.invariant c.in_err-add_file.ensures)

pub loop-path-preserved : goal.loop-path-preserved
loop-path-preserved g c =
    let files = c.args.files.now in
    let paths = c.args.paths.now in
    let all = others files (map (λ p. p.now) paths) in
    let start = c.args.known.names in
    let before = g.H.Host.log c.args.host.now in
    let left_now = rest files start all paths (c.loop-path.path-index + 1) in
    elim c.if-not-is_among.branch [
      | then-not-is_among+in_ok-add_file w ↦
          let step = other_added files start all paths c.loop-path.path-index _ c.loop-path.known.names w.add_file.new.self.names w.in_ok-add_file.field-0 before
          (g.H.Host.log c.loop-path.host) (g.H.Host.log w.add_file.new.host) c.loop-path-test.true (sym c.is_among.ensures ∙ w.if-not-is_among.true) c.loop-path.invariant w.in_ok-add_file.ensures in
          let named = subst (λ (k : KnownNames). Leads start k.names all left_now before (g.H.Host.log w.add_file.new.host)) (sym w.known-is) step in
          subst (λ h. Leads start c.if-not-is_among.known.names all left_now before (g.H.Host.log h)) (sym w.host-is) named
      | else-not-is_among w ↦
          let step = other_passed files start all paths c.loop-path.path-index _ c.loop-path.known.names before (g.H.Host.log c.loop-path.host) c.loop-path-test.true
          (sym c.is_among.ensures ∙ w.if-not-is_among.false) c.loop-path.invariant in
          let named = subst (λ (k : KnownNames). Leads start k.names all left_now before (g.H.Host.log c.loop-path.host)) (sym w.known-is) step in
          subst (λ h. Leads start c.if-not-is_among.known.names all left_now before (g.H.Host.log h)) (sym w.host-is) named
    ]

pub returns : goal.returns
returns g c = no_other_left c.args.files.now c.args.known.names (others c.args.files.now (map (λ p. p.now) c.args.paths.now)) c.args.paths.now c.loop-path.path-index c.loop-path.known.names
    (g.H.Host.log c.args.host.now) (g.H.Host.log c.loop-path.host) c.loop-path-test.false c.loop-path.invariant
