use Rattle.std.proofs.Common.{◌≡◌, arith, [], ◌∷◌, refl, ◌∙◌, ap}
use Rattle.std.proofs.lemmas.Result.{err_from_is_err_and}
use Rattle.command_head.specs.Parts.{first_word_of, is_name}
use Rattle.command_head.specs.Grammar.{DerivesLanguages}
use Rattle.command_head.proofs.PartShape.{IsAscii-name}
use Rattle.command_head.proofs.PartsRead.{word_read, part_read}
use Rattle.command_head.proofs.Expecting.{refused_syntax, word_syntax}
use Rattle.command_head.proofs.Forms.{refuted, not_empty}
use Rattle.command_head.proofs.LanguageHeads.{first_expects, first_long, name_expects, name_long, word_unended}
use Rattle.command_head.proofs.Listing.{none_of, some_of}
use Rattle.command_head.proofs.NameListing.{names_more, names_refused, names_head}
use Rattle.command_head.proofs.language_heads.languages_parts.Goals as goal
use Rattle.command_head.proofs.language_heads.languages_parts.Goals.{then-is_empty, else-is_empty+then-not-is_empty}

pub returns-in_err-suffix : goal.returns-in_err-suffix
returns-in_err-suffix c =
    let p = err_from_is_err_and c.from_residual.result c.from_residual.ensures.1 in
    rw (p.1, p.2, c.in_err-suffix.ensures.1) (word_syntax (DerivesLanguages c.args.word.now) _ c.args.text.now (first_expects c.args.word.now) c.in_err-suffix.ensures.0 (first_long c.args.word.now (first_word_of c.args.text.now) c.requires))

pub returns-in_err-name : goal.returns-in_err-name
returns-in_err-name c =
    let p = err_from_is_err_and c.from_residual-in_err-name.result c.from_residual-in_err-name.ensures.1 in
    let read = word_read c.args.text.now c.args.word.now _ _ _ c.in_ok-suffix.ensures.0 c.in_ok-suffix.ensures.1 c.in_ok-suffix.ensures.2 c.in_ok-suffix.ensures.3 in
    rw (p.1, p.2, c.in_err-name.ensures.1)
    (refused_syntax (DerivesLanguages c.args.word.now) (c.args.word.now ∷ []) _ c.args.text.now _ _ _ c.first_part-first.result.bytes.now _ (name_expects c.args.word.now) (λ none. word_unended c.args.word.now) read
    c.first_part-first.ensures.at c.first_part-first.ensures.bytes (refuted _ c.in_err-name.ensures.0) (name_long c.first_part-first.result.bytes.now))

pub languages-init : goal.languages-init
languages-init c =
    let before = word_read c.args.text.now c.args.word.now _ _ _ c.in_ok-suffix.ensures.0 c.in_ok-suffix.ensures.1 c.in_ok-suffix.ensures.2 c.in_ok-suffix.ensures.3 in
    let read = part_read c.args.text.now (c.args.word.now ∷ []) _ _ _ _ _ c.first_part-first.result.bytes.now _ before (not_empty is_name _ refl c.in_ok-name.ensures.1) c.first_part-first.ensures.bytes c.first_part-first.ensures.whole c.first_part-first.ensures.blank c.first_part-first.ensures.rest in
    rw (c.new-languages.ensures.items, c.in_ok-name.ensures.0) (record { read = read; each = tt })

pub returns-in_err-language : goal.returns-in_err-language
returns-in_err-language c =
    let p = err_from_is_err_and c.from_residual-in_err-language.result c.from_residual-in_err-language.ensures.1 in
    let unended : c.languages.rest.bytes.now ≡ [] → c.languages.languages.items ≡ [] = λ none. elim c.if-is_empty.branch [
      | then-is_empty w ↦ none_of c.languages.languages.items c.languages.languages.len c.is_empty.result (omega (arith, c.languages.languages.ok)) c.is_empty.ensures w.if-is_empty.true
      | else-is_empty+then-not-is_empty w ↦ absurd (some_of c.languages.rest.bytes.now _ w.is_empty-else-is_empty.result refl w.is_empty-else-is_empty.ensures w.if-not-is_empty.true none)
    ] in
    rw (p.1, p.2, c.in_err-language.ensures.1)
    (names_refused c.args.text.now c.args.word.now c.in_ok-name.name.now c.languages.languages.items _ _ _ c.first_part-part.result.bytes.now c.first_part-part.result.at (ap is_name c.in_ok-name.ensures.0 ∙ c.in_ok-name.ensures.1) c.languages.invariant
    unended c.first_part-part.ensures.at c.first_part-part.ensures.bytes c.in_err-language.ensures.0)

pub languages-smaller : goal.languages-smaller
languages-smaller c =
    (names_more c.args.text.now c.args.word.now c.in_ok-name.name.now c.languages.languages.items _ _ _ _ _ c.first_part-part.result.bytes.now _ c.languages.invariant
    c.first_part-part.ensures.bytes c.first_part-part.ensures.whole c.first_part-part.ensures.blank c.first_part-part.ensures.rest c.in_ok-language.ensures.1).less

pub languages-preserved : goal.languages-preserved
languages-preserved c =
    rw (c.in_ok-push.ensures.items, c.in_ok-name_of.ensures, c.in_ok-language.ensures.0)
    (names_more c.args.text.now c.args.word.now c.in_ok-name.name.now c.languages.languages.items _ _ _ _ _ c.first_part-part.result.bytes.now _ c.languages.invariant
    c.first_part-part.ensures.bytes c.first_part-part.ensures.whole c.first_part-part.ensures.blank c.first_part-part.ensures.rest c.in_ok-language.ensures.1).listed

pub name_of-requires : goal.name_of-requires
name_of-requires c = IsAscii-name c.in_ok-language.language.now (ap is_name c.in_ok-language.ensures.0 ∙ c.in_ok-language.ensures.1)

pub name_of-requires-2 : goal.name_of-requires-2
name_of-requires-2 c = IsAscii-name c.in_ok-name.name.now (ap is_name c.in_ok-name.ensures.0 ∙ c.in_ok-name.ensures.1)

pub returns : goal.returns
returns c =
    rw c.in_ok-name_of-2.ensures
    (names_head c.args.text.now c.args.word.now c.in_ok-name.name.now c.languages.languages.items _ _ _ (ap is_name c.in_ok-name.ensures.0 ∙ c.in_ok-name.ensures.1) c.languages.invariant
    (none_of c.languages.rest.bytes.now _ c.is_empty-else-is_empty.result refl c.is_empty-else-is_empty.ensures c.if-not-is_empty.false)
    (some_of c.languages.languages.items c.languages.languages.len c.is_empty.result (omega (arith, c.languages.languages.ok)) c.is_empty.ensures c.if-is_empty.false))
