use Rattle.std.proofs.Common.{sym, subst, arith}
use Rattle.std.specs.Prelude.{decimal}
use Rattle.std.specs.Str.{IsUtf8}
use Rattle.std.proofs.lemmas.Str.{IsUtf8-from_ascii}
use Rattle.std.proofs.lemmas.Fmt.{IsAscii-decimal}
use Rattle.mon_rehearsal.proofs.Numbers.{number_none}
use Rattle.mon_rehearsal.proofs.field.number.Goals as goal

pub returns-in-Err : goal.returns-in-Err
returns-in-Err c = sym (number_none c.args.text.now (λ n small is.
    absurd (c.in-Err.ensures.cases.0 (subst IsUtf8 (sym is) (IsUtf8-from_ascii (decimal n) (IsAscii-decimal n (omega arith)))))))
