use Rattle.std.proofs.Common.{List, ℕ, get_or, refl, ap, ◌∙◌, ◌++◌, arith}
use Rattle.std.specs.List.{flat_map}
use Rattle.std.proofs.lemmas.List.{take_all}
use Rattle.digit_tuple.specs.Letters.{product}
use Rattle.dfa_text.specs.RelationText.{tuple_of}
use Rattle.dfa_text.proofs.Joins.{pieces_more}
use Rattle.listings.specs.WordLines.{letter_text}
use Rattle.listings.proofs.WordLineLemmas.{letter_within}
use Rattle.listings.proofs.word_line.push_letters.Goals as goal

pub push_letter-requires-clause-letter : goal.push_letter-requires-clause-letter
push_letter-requires-clause-letter c = letter_within (product c.args.alphabet.now) c.args.word.now c.loop-letter.letter-index c.requires.word c.loop-letter-test.true

pub loop-letter-preserved : goal.loop-letter-preserved
loop-letter-preserved c =
    pieces_more (λ letter. letter_text (tuple_of c.args.sets.now letter)) c.args.out.now.items c.loop-letter.out.items c.push_letter.new.out.items c.args.word.now c.loop-letter.letter-index (get_or c.args.word.now c.loop-letter.letter-index 0) 0 (omega arith) refl c.loop-letter.invariant c.in_ok-push_letter.ensures

pub returns : goal.returns
returns c =
    c.loop-letter.invariant
    ∙ ap (λ (word : List ℕ). c.args.out.now.items ++ flat_map (λ letter. letter_text (tuple_of c.args.sets.now letter)) word) (take_all c.loop-letter.letter-index c.args.word.now (omega arith))
