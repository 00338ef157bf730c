use Rattle.std.proofs.Common.{refl}
use Rattle.std.proofs.lemmas.List.{take_rest}
use Rattle.text_grammar.specs.declared.class.Class.TheVariants.{Blank}
use Rattle.text_grammar.proofs.PrefixLemmas.{prefix_stops_at}
use Rattle.text_grammar.proofs.SpotLemmas.{spots_prefix_at}
use Rattle.regex_build.specs.Spots.{lexing}
use Rattle.regex_build.proofs.lexing.blanks_end.Goals as goal

pub returns-clause-spots : goal.returns-clause-spots
returns-clause-spots c = λ m. spots_prefix_at lexing Blank (λ b. refl) m c.args.text.now c.args.start c.prefix_len.result (rw take_rest at c.prefix_len.ensures.len)

pub returns-clause-stops : goal.returns-clause-stops
returns-clause-stops c = λ h. prefix_stops_at Blank c.args.text.now c.args.start c.prefix_len.result (rw take_rest at c.prefix_len.ensures.len) h
