use Rattle.std.proofs.Common.{ℕ, List, [], ◌∷◌, refl, sym, subst, codes}
use Rattle.std.proofs.lemmas.Result.{err_from_is_err_and}
use Rattle.command_head.specs.Grammar.{DerivesLoad}
use Rattle.command_head.proofs.PartShape.{IsAscii-name}
use Rattle.command_head.proofs.PartsRead.{word_read, part_read, all_read}
use Rattle.command_head.proofs.FileNames.{file_some}
use Rattle.command_head.proofs.Forms.{This, AFile, form_word, form_part, form_end}
use Rattle.command_head.proofs.RunHeads.{load_kinds, load_form, load_read, load_result}
use Rattle.command_head.proofs.run_heads.load_name.Goals as goal

pub returns-in_err-rest : goal.returns-in_err-rest
returns-in_err-rest c =
    let p = err_from_is_err_and c.from_residual.result c.from_residual.ensures.1 in
    rw (p.1, p.2, c.in_err-rest.ensures.1) (form_word DerivesLoad (codes "load") (AFile ∷ []) c.args.text.now load_form refl c.in_err-rest.ensures.0)

pub returns-in_err-name : goal.returns-in_err-name
returns-in_err-name c =
    let p = err_from_is_err_and c.from_residual-in_err-name.result c.from_residual-in_err-name.ensures.1 in
    let read_0 = word_read c.args.text.now (codes "load") _ _ _ c.in_ok-rest.ensures.0 c.in_ok-rest.ensures.1 c.in_ok-rest.ensures.2 c.in_ok-rest.ensures.3 in
    rw (p.1, p.2, c.in_err-name.ensures.1)
    (form_part DerivesLoad (This (codes "load") ∷ []) AFile [] c.args.text.now (codes "load" ∷ []) _ _ _ _ _ load_form tt (refl, tt) read_0
    c.first_part-file.ensures.at c.first_part-file.ensures.bytes (λ takes. c.in_err-name.ensures.0 takes.0 takes.1))

pub returns-in_err-at_end : goal.returns-in_err-at_end
returns-in_err-at_end c =
    let p = err_from_is_err_and c.from_residual-in_err-at_end.result c.from_residual-in_err-at_end.ensures.1 in
    let read_0 = word_read c.args.text.now (codes "load") _ _ _ c.in_ok-rest.ensures.0 c.in_ok-rest.ensures.1 c.in_ok-rest.ensures.2 c.in_ok-rest.ensures.3 in
    let read_1 = part_read c.args.text.now (codes "load" ∷ []) _ _ _ _ _ _ _ read_0 (file_some _ _ c.in_ok-name.ensures) c.first_part-file.ensures.bytes c.first_part-file.ensures.whole c.first_part-file.ensures.blank c.first_part-file.ensures.rest in
    rw (p.1, p.2, c.in_err-at_end.ensures.1)
    (form_end DerivesLoad load_kinds c.args.text.now (codes "load" ∷ c.first_part-file.result.bytes.now ∷ []) _ _ _ load_form (refl, ((c.in_ok-name.name.now, c.in_ok-name.ensures), tt)) read_1 c.in_err-at_end.ensures.0)

pub name_of-requires : goal.name_of-requires
name_of-requires c = IsAscii-name c.in_ok-name.name.now c.in_ok-name.ensures.named

pub returns : goal.returns
returns c =
    let read_0 = word_read c.args.text.now (codes "load") _ _ _ c.in_ok-rest.ensures.0 c.in_ok-rest.ensures.1 c.in_ok-rest.ensures.2 c.in_ok-rest.ensures.3 in
    let read_1 = part_read c.args.text.now (codes "load" ∷ []) _ _ _ _ _ _ _ read_0 (file_some _ _ c.in_ok-name.ensures) c.first_part-file.ensures.bytes c.first_part-file.ensures.whole c.first_part-file.ensures.blank c.first_part-file.ensures.rest in
    let all = all_read c.args.text.now (codes "load" ∷ c.first_part-file.result.bytes.now ∷ []) _ _ _ read_1 c.in_ok-at_end.ensures in
    load_result c.args.text.now c.in_ok-name.name.now c.name_of.result
    (subst (λ (parts : List (List ℕ)). DerivesLoad parts c.in_ok-name.name.now) (sym all) (load_read c.first_part-file.result.bytes.now c.in_ok-name.name.now c.in_ok-name.ensures)) c.name_of.ensures
