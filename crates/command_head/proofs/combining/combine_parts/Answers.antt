use Rattle.std.proofs.Common.{◌≡◌, arith, [], ◌∷◌, map, refl, ◌∙◌, ap, codes}
use Rattle.std.proofs.lemmas.Result.{err_from_is_err_and}
use Rattle.command_head.specs.Parts.{first_word_of, is_word}
use Rattle.command_head.specs.Grammar.{DerivesCombine}
use Rattle.command_head.specs.HeadViews.{valued_view}
use Rattle.command_head.proofs.PartShape.{IsAscii-word}
use Rattle.command_head.proofs.PartsRead.{word_read, part_read}
use Rattle.command_head.proofs.Expecting.{refused_syntax, word_syntax}
use Rattle.command_head.proofs.Forms.{refuted, not_empty}
use Rattle.command_head.proofs.CombineHeads.{first_expects, first_long, word_expects, word_long, word_unended}
use Rattle.command_head.proofs.Listing.{listing_first, listing_more, listing_refused, listing_head, none_of, some_of, some_mapped, map_more}
use Rattle.command_head.proofs.combining.combine_parts.Goals as goal
use Rattle.command_head.proofs.combining.combine_parts.Goals.{then-is_empty, else-is_empty+then-not-is_empty}

pub returns-in_err-suffix-clause-head : goal.returns-in_err-suffix-clause-head
returns-in_err-suffix-clause-head c =
    let p = err_from_is_err_and c.from_residual.result c.from_residual.ensures.1 in
    rw (p.1, p.2, c.in_err-suffix.ensures.1) (word_syntax DerivesCombine _ c.args.text.now first_expects c.in_err-suffix.ensures.0 (first_long (first_word_of c.args.text.now)))

pub returns-in_err-word-clause-head : goal.returns-in_err-word-clause-head
returns-in_err-word-clause-head c =
    let p = err_from_is_err_and c.from_residual-in_err-word.result c.from_residual-in_err-word.ensures.1 in
    let read = word_read c.args.text.now (codes "combine") _ _ _ c.in_ok-suffix.ensures.0 c.in_ok-suffix.ensures.1 c.in_ok-suffix.ensures.2 c.in_ok-suffix.ensures.3 in
    rw (p.1, p.2, c.in_err-word.ensures.1)
    (refused_syntax DerivesCombine (codes "combine" ∷ []) _ c.args.text.now _ _ _ c.first_part-first.result.bytes.now _ word_expects (λ none. word_unended) read
    c.first_part-first.ensures.at c.first_part-first.ensures.bytes (refuted _ c.in_err-word.ensures.0) (word_long c.first_part-first.result.bytes.now))

pub automata-init : goal.automata-init
automata-init c =
    let before = word_read c.args.text.now (codes "combine") _ _ _ c.in_ok-suffix.ensures.0 c.in_ok-suffix.ensures.1 c.in_ok-suffix.ensures.2 c.in_ok-suffix.ensures.3 in
    let read = part_read c.args.text.now (codes "combine" ∷ []) _ _ _ _ _ c.first_part-first.result.bytes.now _ before (not_empty is_word _ refl c.in_ok-word.ensures.1) c.first_part-first.ensures.bytes c.first_part-first.ensures.whole c.first_part-first.ensures.blank c.first_part-first.ensures.rest in
    rw (c.new-automata.ensures.items, c.in_ok-word.ensures.0)
    (listing_first c.args.text.now c.first_part-first.result.bytes.now _ _ _ _ read c.in_ok-suffix.ensures.3 c.first_part-first.ensures.blank c.first_part-first.ensures.rest)

pub returns-in_err-valued_name-clause-head : goal.returns-in_err-valued_name-clause-head
returns-in_err-valued_name-clause-head c =
    let p = err_from_is_err_and c.from_residual-in_err-valued_name.result c.from_residual-in_err-valued_name.ensures.1 in
    let unended : c.automata.rest.bytes.now ≡ [] → map valued_view c.automata.automata.items ≡ [] = λ none. elim c.if-is_empty.branch [
      | then-is_empty w ↦ ap (map valued_view) (none_of c.automata.automata.items c.automata.automata.len c.is_empty.result (omega (arith, c.automata.automata.ok)) c.is_empty.ensures w.if-is_empty.true)
      | else-is_empty+then-not-is_empty w ↦ absurd (some_of c.automata.rest.bytes.now _ w.is_empty-else-is_empty.result refl w.is_empty-else-is_empty.ensures w.if-not-is_empty.true none)
    ] in
    rw (p.1, p.2)
    (listing_refused c.args.text.now c.in_ok-word.word.now (map valued_view c.automata.automata.items) _ _ _ c.first_part-part.result.bytes.now c.first_part-part.result.at _ (ap is_word c.in_ok-word.ensures.0 ∙ c.in_ok-word.ensures.1) c.automata.invariant
    unended c.first_part-part.ensures.at c.first_part-part.ensures.bytes c.in_err-valued_name.ensures)

pub automata-smaller : goal.automata-smaller
automata-smaller c =
    (listing_more c.args.text.now c.in_ok-word.word.now (map valued_view c.automata.automata.items) _ _ _ _ _ c.first_part-part.result.bytes.now _ (valued_view c.in_ok-valued_name.field-0) c.automata.invariant
    c.first_part-part.ensures.bytes c.first_part-part.ensures.whole c.first_part-part.ensures.blank c.first_part-part.ensures.rest c.in_ok-valued_name.ensures).less

pub automata-preserved : goal.automata-preserved
automata-preserved c =
    rw (c.in_ok-push.ensures.items, map_more valued_view c.automata.automata.items c.in_ok-valued_name.field-0)
    (listing_more c.args.text.now c.in_ok-word.word.now (map valued_view c.automata.automata.items) _ _ _ _ _ c.first_part-part.result.bytes.now _ (valued_view c.in_ok-valued_name.field-0) c.automata.invariant
    c.first_part-part.ensures.bytes c.first_part-part.ensures.whole c.first_part-part.ensures.blank c.first_part-part.ensures.rest c.in_ok-valued_name.ensures).listing

pub name_of-requires : goal.name_of-requires
name_of-requires c = IsAscii-word c.in_ok-word.word.now (ap is_word c.in_ok-word.ensures.0 ∙ c.in_ok-word.ensures.1)

pub returns-clause-head : goal.returns-clause-head
returns-clause-head c =
    rw c.in_ok-name_of.ensures
    (listing_head c.args.text.now c.in_ok-word.word.now (map valued_view c.automata.automata.items) _ _ _ (ap is_word c.in_ok-word.ensures.0 ∙ c.in_ok-word.ensures.1) c.automata.invariant
    (none_of c.automata.rest.bytes.now _ c.is_empty-else-is_empty.result refl c.is_empty-else-is_empty.ensures c.if-not-is_empty.false)
    (some_mapped valued_view c.automata.automata.items (some_of c.automata.automata.items c.automata.automata.len c.is_empty.result (omega (arith, c.automata.automata.ok)) c.is_empty.ensures c.if-is_empty.false)))
