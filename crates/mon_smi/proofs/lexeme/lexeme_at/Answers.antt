use Rattle.mon_smi.proofs.ForText.{word_slice, number_slice}
use Rattle.mon_smi.proofs.lexeme.lexeme_at.Goals as goal

pub text_of-text-requires : goal.text_of-text-requires
text_of-text-requires c = word_slice c.args.token.kind _ _ c.in-Word.is c.slice_of-slice.ensures c.requires.spelled

pub text_of-text-requires-in-Number : goal.text_of-text-requires-in-Number
text_of-text-requires-in-Number c = number_slice c.args.token.kind _ _ c.in-Number.is c.slice_of-slice.ensures c.requires.spelled
