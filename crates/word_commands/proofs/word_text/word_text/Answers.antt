use Rattle.std.proofs.Common.{◌≡◌, sym, ap, ◌∙◌}
use Rattle.digit_tuple.specs.Sets.{sizes_of}
use Rattle.digit_tuple.specs.Systems.{digit_sets}
use Rattle.word_output.specs.LetterFunctions.{LetterFunctionValue}
use Rattle.command_parts.specs.WordPrinting.{tracks_named}
use Rattle.command_parts.proofs.NamedTracks.{sizes_named}
use Rattle.word_commands.proofs.word_text.word_text.Goals as goal

pub print_word_within-requires-clause-sizes : goal.print_word_within-requires-clause-sizes
print_word_within-requires-clause-sizes c =
    let tracks : c.in_ok-tracks_of.field-0 ≡ tracks_named c.args.names.now c.args.word.now.systems = rw c.systems.ensures.value at c.in_ok-tracks_of.ensures in
    ap (λ d. d.sizes) c.dfa.ensures.value ∙ ap (λ (f : LetterFunctionValue). f.automaton.sizes) c.function-function.ensures.value ∙ c.function-function.ensures.word.sizes ∙ sym (sizes_named c.args.names.now c.args.word.now.systems c.requires.count) ∙ ap (λ ts. sizes_of (digit_sets ts)) (sym tracks)
