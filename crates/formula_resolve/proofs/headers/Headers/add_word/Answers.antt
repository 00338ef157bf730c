use Rattle.std.proofs.Common.{◌∙◌, ap}
use Rattle.formula_resolve.specs.Headers.{Headers, Named, with_word}
use Rattle.formula_parse.specs.Tokens.{Name}
use Rattle.std.proofs.Common.{List, Option}
use Rattle.formula_resolve.specs.HeaderViews.{automata_view}
use Rattle.formula_resolve.proofs.MapLemmas.{view_inserted}
use Rattle.formula_resolve.proofs.headers.Headers.add_word.Goals as goal

abbrev with_words : Named (Option (List Name)) → Named (List Name) → Headers
with_words a w = record { automata = a; words = w }

pub returns-clause-ok : goal.returns-clause-ok
returns-clause-ok c =
    ap (λ (w : Named (List Name)). with_words (automata_view c.self.inside.automata.entries) w)
    (view_inserted (λ tracks. tracks.items) c.self.inside.words.entries c.insert.new.self.entries c.in_ok-key.key c.in_ok-tracks.tracks c.in_ok-insert.ensures.entries)
    ∙ (λ i. with_word (c.self.view_is i) ((c.in_ok-key.ensures.items ∙ c.as_bytes.ensures) i) (c.in_ok-tracks.ensures i))
