use Rattle.std.proofs.Common.{rules, ◌≡◌, ◌≤◌, ◌<◌, ◌⊎◌, Bor, List, ℕ, inr, length, map, subst}
use Rattle.std.proofs.lemmas.Iterator.Consumers.{map_from_collect}
use Rattle.std.proofs.lemmas.Iterator.Splits.{YieldsList-from_lines}
use Rattle.std.specs.Prelude.{Err, Ok}
use Rattle.std.specs.declared.alloc.AllocError.{AllocError}
use Rattle.mon_placing.specs.Machines.{enough, listed, machines_in}
use Rattle.mon_placing.specs.declared.fault.MachinesFault.{MachinesFault}
use Rattle.mon_placing.specs.declared.fault.MachinesFault.TheVariants.{OutOfMemory}
use Rattle.mon_placing.specs.declared.machines.Machine.{Machine}
use Rattle.mon_placing.proofs.Reading.{all_read, line_read, lines_gave, past_texts, refused_by, still, text_at}
use Rattle.mon_placing.proofs.machines.machines_in.Goals as goal

pub returns-in_err-add_line-clause-refused : goal.returns-in_err-add_line-clause-refused
returns-in_err-add_line-clause-refused c =
    let ls = c.in_ok-lines.lines.items in
    let texts = map (λ (l : Bor (List ℕ)). l.now) ls in
    let are = map_from_collect {E = AllocError} (Ok c.in_ok-lines.lines) c.in_ok-lines.ensures.ran (YieldsList-from_lines c.args.text.now c.lines.ensures.rest) in
    let inside : c.loop-place.place < length ls = search (rules) in
    let line = c.index.result.now in
    let at = text_at ls c.loop-place.place line inside c.index.ensures in
    let before = map listed c.loop-place.machines.items in
    let fault = c.in_err-add_line.field-0.0 in
    let Wrong = λ (f : MachinesFault). (f ≡ OutOfMemory) ⊎ (machines_in c.args.text.now c.args.stations ≡ Err f) in
    still Wrong fault c.from_residual-in_err-add_line.result c.from_residual-in_err-add_line.ensures.1
    (refused_by c.args.text.now c.args.stations texts c.loop-place.place line.now before fault are at.0 at.1 c.loop-place.invariant c.in_err-add_line.ensures.refused)

pub loop-place-preserved : goal.loop-place-preserved
loop-place-preserved c =
    let ls = c.in_ok-lines.lines.items in
    let texts = map (λ (l : Bor (List ℕ)). l.now) ls in
    let inside : c.loop-place.place < length ls = search (rules) in
    let line = c.index.result.now in
    let at = text_at ls c.loop-place.place line inside c.index.ensures in
    line_read texts c.loop-place.place line.now (map listed c.loop-place.machines.items) (Ok (map listed c.add_line.new.machines.items)) at.0 at.1 c.loop-place.invariant c.in_ok-add_line.ensures.added

pub returns-in_err-require_enough-clause-refused : goal.returns-in_err-require_enough-clause-refused
returns-in_err-require_enough-clause-refused c =
    let texts = map (λ (l : Bor (List ℕ)). l.now) c.in_ok-lines.lines.items in
    let are = map_from_collect {E = AllocError} (Ok c.in_ok-lines.lines) c.in_ok-lines.ensures.ran (YieldsList-from_lines c.args.text.now c.lines.ensures.rest) in
    let past : length c.in_ok-lines.lines.items ≤ c.loop-place.place = search (rules) in
    let read = all_read texts c.loop-place.place (map listed c.loop-place.machines.items) (past_texts c.in_ok-lines.lines.items c.loop-place.place past) c.loop-place.invariant in
    let fault = c.in_err-require_enough.field-0.0 in
    let said = subst (λ (ms : List Machine). enough c.args.stations (map listed ms) ≡ Err fault) c.as_slice.ensures.value c.in_err-require_enough.ensures.refused in
    still (λ f. (f ≡ OutOfMemory) ⊎ (machines_in c.args.text.now c.args.stations ≡ Err f)) fault c.from_residual-in_err-require_enough.result c.from_residual-in_err-require_enough.ensures.1
    (inr (lines_gave c.args.text.now c.args.stations texts (map listed c.loop-place.machines.items) (Err fault) are read said))

pub returns-clause-listed : goal.returns-clause-listed
returns-clause-listed c =
    let texts = map (λ (l : Bor (List ℕ)). l.now) c.in_ok-lines.lines.items in
    let are = map_from_collect {E = AllocError} (Ok c.in_ok-lines.lines) c.in_ok-lines.ensures.ran (YieldsList-from_lines c.args.text.now c.lines.ensures.rest) in
    let past : length c.in_ok-lines.lines.items ≤ c.loop-place.place = search (rules) in
    let read = all_read texts c.loop-place.place (map listed c.loop-place.machines.items) (past_texts c.in_ok-lines.lines.items c.loop-place.place past) c.loop-place.invariant in
    let said = subst (λ (ms : List Machine). enough c.args.stations (map listed ms) ≡ Ok (map listed ms)) c.as_slice.ensures.value c.in_ok-require_enough.ensures.enough in
    lines_gave c.args.text.now c.args.stations texts (map listed c.loop-place.machines.items) (Ok (map listed c.loop-place.machines.items)) are read said
