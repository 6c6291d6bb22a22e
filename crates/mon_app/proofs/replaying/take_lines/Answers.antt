use Rattle.std.proofs.Common.{◌≡◌, ◌+◌, ◌<◌, ◌≤◌, ◌∷◌, List, ℕ, Bor, Option, Some, None, length, string_bytes, refl, sym, ap, ◌∙◌, subst, arith}
use Rattle.std.specs.Option.{option_map}
use Rattle.std.specs.Prelude.{IfSome}
use Rattle.mon_app.specs.declared.table.Row.{Row}
use Rattle.mon_app.specs.Replay.{lines_of, lines_left}
use Rattle.mon_app.proofs.Lines.{SoFar, started, skipped, taken_in, turned_away}
use Rattle.mon_app.proofs.replaying.take_lines.Invariants.{left}
use Rattle.mon_app.proofs.replaying.take_lines.Goals as goal

abbrev seen : Option (Bor (List ℕ)) → Option (List ℕ)
seen rest = option_map (λ r. r.now) rest

-- what is left shrinks with the first line
left_less : (text : List ℕ) (rest : Option (Bor (List ℕ))) → IfSome rest (λ r. length r.now < length text) → left rest + 1 ≤ length text + 1
left_less text None h = omega arith
left_less text (Some r) h = omega arith

-- where some octets are left, they begin with the first line
begun : (n k count : ℕ) (lines : List (List ℕ)) (rest : Option (Bor (List ℕ))) (text : Bor (List ℕ)) (line : List ℕ) (after : List (List ℕ)) (rows : List Row) (before written : List ℕ)
    → rest ≡ Some text → lines_of text.now ≡ line ∷ after → SoFar n lines (lines_left (seen rest)) k rows before written count
    → SoFar n lines (line ∷ after) k rows before written count
begun n k count lines rest text line after rows before written is cut s =
    subst (λ ls. SoFar n lines ls k rows before written count) (ap (λ r. lines_left (seen r)) is ∙ cut) s

pub loop-rest-init : goal.loop-rest-init
loop-rest-init c = record {
  size = refl;
  so_far = started c.args.table.now.size (lines_of c.args.input.now) c.args.table.now.rows.items (string_bytes c.args.text.now) c.requires;
  bounded = omega arith;
  fewer = omega arith;
}

pub loop-rest-preserved-then-is_empty : goal.loop-rest-preserved-then-is_empty
loop-rest-preserved-then-is_empty c =
    let line = c.first_line.result.0.now in
    let rest = c.first_line.result.1 in
    let s = begun _ _ _ (lines_of c.args.input.now) c.loop-rest.rest c.in-Some.octets line (lines_left (seen rest)) c.loop-rest.table.rows.items _ _ c.in-Some.is c.first_line.ensures.lines c.loop-rest.invariant.so_far in
    let empty : length line ≡ 0 = grind arith in
    let less = left_less c.in-Some.octets.now rest c.first_line.ensures.shorter in
    let had : left c.loop-rest.rest ≡ length c.in-Some.octets.now + 1 = ap left c.in-Some.is in
    record {
      size = c.loop-rest.invariant.size;
      so_far = skipped s empty;
      bounded = omega arith;
      fewer = omega arith;
    }

pub loop-rest-preserved-in-Ok : goal.loop-rest-preserved-in-Ok
loop-rest-preserved-in-Ok c =
    let line = c.first_line.result.0.now in
    let rest = c.first_line.result.1 in
    let lines = lines_of c.args.input.now in
    let before = string_bytes c.args.text.now in
    let had : SoFar c.args.table.now.size lines (line ∷ lines_left (seen rest)) c.loop-rest.number c.loop-rest.table.rows.items before (string_bytes c.loop-rest.text) c.loop-rest.refused =
    begun _ _ _ lines c.loop-rest.rest c.in-Some.octets line (lines_left (seen rest)) c.loop-rest.table.rows.items before _ c.in-Some.is c.first_line.ensures.lines c.loop-rest.invariant.so_far in
    let s : SoFar c.loop-rest.table.size lines (line ∷ lines_left (seen rest)) c.loop-rest.number c.loop-rest.table.rows.items before (string_bytes c.loop-rest.text) c.loop-rest.refused =
    subst (λ n. SoFar n lines (line ∷ lines_left (seen rest)) c.loop-rest.number c.loop-rest.table.rows.items before (string_bytes c.loop-rest.text) c.loop-rest.refused) (sym c.loop-rest.invariant.size) had in
    let some : 0 < length line = grind arith in
    let less = left_less c.in-Some.octets.now rest c.first_line.ensures.shorter in
    let was : left c.loop-rest.rest ≡ length c.in-Some.octets.now + 1 = ap left c.in-Some.is in
    record {
      size = c.take_line.ensures.size ∙ c.loop-rest.invariant.size;
      so_far = subst (λ n. SoFar n lines (lines_left (seen rest)) (c.loop-rest.number + 1) c.take_line.new.table.rows.items before (string_bytes c.loop-rest.text) c.loop-rest.refused) c.loop-rest.invariant.size
          (taken_in s c.take_line.new.table.rows.items some (c.in-Ok.ensures.ok s.taken s.rows_are));
      bounded = omega arith;
      fewer = omega arith;
    }

pub loop-rest-preserved : goal.loop-rest-preserved
loop-rest-preserved c =
    let line = c.first_line.result.0.now in
    let rest = c.first_line.result.1 in
    let lines = lines_of c.args.input.now in
    let before = string_bytes c.args.text.now in
    let had : SoFar c.args.table.now.size lines (line ∷ lines_left (seen rest)) c.loop-rest.number c.loop-rest.table.rows.items before (string_bytes c.loop-rest.text) c.loop-rest.refused =
    begun _ _ _ lines c.loop-rest.rest c.in-Some.octets line (lines_left (seen rest)) c.loop-rest.table.rows.items before _ c.in-Some.is c.first_line.ensures.lines c.loop-rest.invariant.so_far in
    let s : SoFar c.loop-rest.table.size lines (line ∷ lines_left (seen rest)) c.loop-rest.number c.loop-rest.table.rows.items before (string_bytes c.loop-rest.text) c.loop-rest.refused =
    subst (λ n. SoFar n lines (line ∷ lines_left (seen rest)) c.loop-rest.number c.loop-rest.table.rows.items before (string_bytes c.loop-rest.text) c.loop-rest.refused) (sym c.loop-rest.invariant.size) had in
    let some : 0 < length line = grind arith in
    let less = left_less c.in-Some.octets.now rest c.first_line.ensures.shorter in
    let was : left c.loop-rest.rest ≡ length c.in-Some.octets.now + 1 = ap left c.in-Some.is in
    let other = c.in_default-refusal.not-OutOfMemory in
    record {
      size = c.take_line.ensures.size ∙ c.loop-rest.invariant.size;
      so_far = subst (λ n. SoFar n lines (lines_left (seen rest)) (c.loop-rest.number + 1) c.take_line.new.table.rows.items before (string_bytes c.put_refused_line.new.text) (c.loop-rest.refused + 1)) c.loop-rest.invariant.size
          (turned_away s c.in-Err.refusal c.take_line.new.table.rows.items (string_bytes c.put_refused_line.new.text) some other
          (c.in-Err.ensures.err s.taken s.rows_are) (c.in-Err.ensures.same other) c.in_ok-put_refused_line-in-Err.ensures);
      bounded = omega arith;
      fewer = omega arith;
    }
