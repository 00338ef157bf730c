use Rattle.std.proofs.Common.{sym, ap, ◌∙◌, Option, Vec, List}
use Rattle.std.specs.Option.{option_map, option_copied}
use Rattle.std.specs.Borrow.{Bor}
use Rattle.std.specs.declared.alloc.Global.{Global}
use Rattle.formula_parse.specs.Tokens.{Name}
use Rattle.formula_resolve.specs.Headers.{known, known_systems}
use Rattle.formula_resolve.proofs.MapLemmas.{bytes_looked}
use Rattle.formula_resolve.proofs.headers.Headers.automaton_tracks.Goals as goal

abbrev tracks_seen : Option (Bor (Option (Vec Name Global))) → List Name
tracks_seen o = known_systems (option_map (option_map (λ tracks. tracks.items)) (option_copied o))

pub returns-in_default : goal.returns-in_default
returns-in_default c =
    sym (ap tracks_seen c.in_default.is)
    ∙ ap known_systems (bytes_looked (option_map (λ tracks. tracks.items)) c.self.inside.automata.entries c.args.self.now.automata c.as_bytes.result.now c.args.name.now c.get.result (ap (λ h. h.automata) c.self.view_is) c.get.ensures.value c.as_bytes.ensures)

pub returns-in-Some-tracks : goal.returns-in-Some-tracks
returns-in-Some-tracks c =
    c.deref.ensures.value
    ∙ sym (ap (λ o. known (option_map (λ tracks. tracks.items) o)) c.in-Some-tracks.is)
    ∙ sym (ap tracks_seen c.in-Some.is)
    ∙ ap known_systems (bytes_looked (option_map (λ tracks. tracks.items)) c.self.inside.automata.entries c.args.self.now.automata c.as_bytes.result.now c.args.name.now c.get.result (ap (λ h. h.automata) c.self.view_is) c.get.ensures.value c.as_bytes.ensures)

pub returns-in-None : goal.returns-in-None
returns-in-None c =
    sym (ap (λ o. known (option_map (λ tracks. tracks.items) o)) c.in-None.is)
    ∙ sym (ap tracks_seen c.in-Some.is)
    ∙ ap known_systems (bytes_looked (option_map (λ tracks. tracks.items)) c.self.inside.automata.entries c.args.self.now.automata c.as_bytes.result.now c.args.name.now c.get.result (ap (λ h. h.automata) c.self.view_is) c.get.ensures.value c.as_bytes.ensures)
