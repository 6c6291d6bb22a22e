use Rattle.std.proofs.Common.{◌≡◌, ◌≤◌, length, take, sym, subst, ◌∙◌, arith}
use Rattle.std.proofs.lemmas.List.{take_all}
use Rattle.std.proofs.lemmas.Bool.{eqb-true, eq-eqb}
use Rattle.mon_smi.specs.Words.{IsWord}
use Rattle.mon_smi.proofs.text.is_word.Goals as goal

pub returns : goal.returns
returns c =
    let whole : length c.as_bytes-bytes.result.now ≤ c.word_len.result → take c.word_len.result c.as_bytes-bytes.result.now ≡ c.args.text.now = λ all. take_all c.word_len.result c.as_bytes-bytes.result.now all ∙ c.as_bytes-bytes.ensures.value in
    let all : take (length c.as_bytes-bytes.result.now) c.as_bytes-bytes.result.now ≡ c.args.text.now = take_all (length c.as_bytes-bytes.result.now) c.as_bytes-bytes.result.now (omega arith) ∙ c.as_bytes-bytes.ensures.value in (
      λ same. subst IsWord (let same_len = eqb-true _ _ same in whole (omega (arith, same_len))) c.word_len.ensures.word,
      λ word. let least = c.word_len.ensures.longest (length c.as_bytes-bytes.result.now) (omega arith) (subst IsWord (sym all) word) in eq-eqb _ _ (omega (arith, least, c.word_len.ensures.within)),
    )
