use Rattle.std.proofs.Common.{sym, ap, ◌∙◌, Option, Vec}
use Rattle.std.specs.Option.{option_map, option_copied}
use Rattle.std.specs.Borrow.{Bor}
use Rattle.std.specs.declared.alloc.Global.{Global}
use Rattle.formula_parse.specs.Tokens.{Name}
use Rattle.formula_resolve.specs.Headers.{known}
use Rattle.formula_resolve.proofs.MapLemmas.{bytes_looked}
use Rattle.formula_resolve.proofs.headers.Headers.word_tracks.Goals as goal

pub returns-in-Some : goal.returns-in-Some
returns-in-Some c =
    c.deref.ensures.value
    ∙ sym (ap (λ (o : Option (Bor (Vec Name Global))). known (option_map (λ tracks. tracks.items) (option_copied o))) c.in-Some.is)
    ∙ ap known (bytes_looked (λ tracks. tracks.items) c.self.inside.words.entries c.args.self.now.words c.as_bytes.result.now c.args.name.now c.get.result (ap (λ h. h.words) c.self.view_is) c.get.ensures.value c.as_bytes.ensures)

pub returns-in-None : goal.returns-in-None
returns-in-None c =
    sym (ap (λ (o : Option (Bor (Vec Name Global))). known (option_map (λ tracks. tracks.items) (option_copied o))) c.in-None.is)
    ∙ ap known (bytes_looked (λ tracks. tracks.items) c.self.inside.words.entries c.args.self.now.words c.as_bytes.result.now c.args.name.now c.get.result (ap (λ h. h.words) c.self.view_is) c.get.ensures.value c.as_bytes.ensures)
