use Rattle.std.proofs.Common.{◌∙◌, ◌++◌, ap, subst, sym}
use Rattle.std.specs.Prelude.{codes}
use Rattle.mon_console.specs.Naming.{IsUnnamed, undefined}
use Rattle.mon_console.specs.Failure.{IsSaid}
use Rattle.mon_console.proofs.Lines.{has_line, of_4, reads_as}
use Rattle.mon_console.proofs.Missing.{lacking}
use Rattle.mon_faults.specs.declared.fault.Fault.TheVariants.{Names}
use Rattle.mon_smi.specs.declared.fault.NamesFault.{NamesFault}
use Rattle.mon_smi.specs.declared.fault.NamesFault.TheVariants.{Unknown}
use Rattle.mon_console.proofs.naming.name_failure.Goals as goal

pub returns-in-Unknown-clause-more : goal.returns-in-Unknown-clause-more
returns-in-Unknown-clause-more c =
    let word = c.args.word.now in
    let missing = c.unwrap_or-missing.result.now in
    let text = word ++ codes ": " ++ missing ++ undefined in
    let said : IsSaid (Names Unknown) text c.said.result = record {
      fault = c.said.ensures.fault ∙ ap Names c.in-Unknown.is;
      more = has_line c.format.result text c.said.result.more
          (reads_as c.format.result (word ++ (codes ": " ++ (missing ++ undefined))) text c.format.ensures.ok (of_4 word (codes ": ") missing undefined)) c.said.ensures.more;
      whole = c.said.ensures.whole;
    } in
    let lacks = lacking c.args.names.now c.args.word c.missing.result c.unwrap_or-missing.result c.unwrap_or-missing.ensures c.missing.ensures.some c.missing.ensures.none in
    subst (λ (f : NamesFault). IsUnnamed c.args.names.now word f c.said.result) (sym c.in-Unknown.is) (missing, lacks, said)
