use Rattle.std.proofs.Common.{◌∙◌, ap, List, Option, Some}
use Rattle.std.specs.Option.{option_map}
use Rattle.formula_parse.specs.Tokens.{Name}
use Rattle.formula_resolve.specs.Headers.{Headers, Named, with_automaton}
use Rattle.formula_resolve.specs.HeaderViews.{words_view}
use Rattle.formula_resolve.proofs.MapLemmas.{view_inserted}
use Rattle.formula_resolve.proofs.headers.Headers.add_automaton.Goals as goal

abbrev with_words : Named (Option (List Name)) → Named (List Name) → Headers
with_words a w = record { automata = a; words = w }

pub returns-clause-ok : goal.returns-clause-ok
returns-clause-ok c =
    ap (λ (a : Named (Option (List Name))). with_words a (words_view c.self.inside.words.entries))
    (view_inserted (option_map (λ tracks. tracks.items)) c.self.inside.automata.entries c.insert.new.self.entries c.in_ok-key.key (Some c.in_ok-tracks.tracks) c.in_ok-insert.ensures.entries)
    ∙ (λ i. with_automaton (c.self.view_is i) ((c.in_ok-key.ensures.items ∙ c.as_bytes.ensures) i) (Some (c.in_ok-tracks.ensures i)))
