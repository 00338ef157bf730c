use Rattle.std.proofs.Common.{[]}
use Rattle.std.proofs.lemmas.Result.{err_from_is_err_and}
use Rattle.command_head.specs.Grammar.{DerivesAlone}
use Rattle.command_head.proofs.PartsRead.{word_read}
use Rattle.command_head.proofs.Forms.{form_word}
use Rattle.command_head.proofs.RunHeads.{alone_form, alone_result}
use Rattle.command_head.proofs.run_heads.word_alone.Goals as goal

pub returns-in_err-rest : goal.returns-in_err-rest
returns-in_err-rest c =
    let p = err_from_is_err_and c.from_residual.result c.from_residual.ensures.1 in
    rw (p.1, p.2, c.in_err-rest.ensures.1) (form_word (DerivesAlone c.args.word.now) c.args.word.now [] c.args.text.now (alone_form c.args.word.now) c.requires c.in_err-rest.ensures.0)

pub returns : goal.returns
returns c = alone_result c.args.word.now c.args.text.now _ _ _ c.at_end.result (word_read c.args.text.now c.args.word.now _ _ _ c.in_ok-rest.ensures.0 c.in_ok-rest.ensures.1 c.in_ok-rest.ensures.2 c.in_ok-rest.ensures.3) c.at_end.ensures
