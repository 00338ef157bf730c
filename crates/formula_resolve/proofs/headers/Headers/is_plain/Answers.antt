use Rattle.std.proofs.Common.{◌≡◌, sym, ap, refl, ◌∙◌, Bool, true, false, not, Option, Some, None, is_some, Vec}
use Rattle.std.proofs.lemmas.Bool.{false≢true}
use Rattle.std.specs.Option.{option_map, option_copied}
use Rattle.std.specs.Borrow.{Bor}
use Rattle.std.specs.declared.alloc.Global.{Global}
use Rattle.formula_parse.specs.Tokens.{Name}
use Rattle.formula_resolve.specs.Headers.{is_over_sets}
use Rattle.formula_resolve.proofs.MapLemmas.{bytes_looked}
use Rattle.formula_resolve.proofs.headers.Headers.is_plain.Goals as goal

none_is : (o : Option (Vec Name Global)) (r : Bool) → not r ≡ is_some o → r ≡ is_over_sets (Some (option_map (λ tracks. tracks.items) o))
none_is None true same = refl
none_is None false same = absurd (false≢true (sym same))
none_is (Some tracks) true same = absurd (false≢true same)
none_is (Some tracks) false same = refl

pub returns-in-Some : goal.returns-in-Some
returns-in-Some c =
    none_is c.in-Some.tracks.now c.is_none.result (sym c.is_none.ensures)
    ∙ sym (ap (λ (o : Option (Bor (Option (Vec Name Global)))). is_over_sets (option_map (option_map (λ tracks. tracks.items)) (option_copied o))) c.in-Some.is)
    ∙ ap is_over_sets (bytes_looked (option_map (λ tracks. tracks.items)) c.self.inside.automata.entries c.args.self.now.automata c.as_bytes.result.now c.args.name.now c.get.result (ap (λ h. h.automata) c.self.view_is) c.get.ensures.value c.as_bytes.ensures)

pub returns-in-None : goal.returns-in-None
returns-in-None c =
    sym (ap (λ (o : Option (Bor (Option (Vec Name Global)))). is_over_sets (option_map (option_map (λ tracks. tracks.items)) (option_copied o))) c.in-None.is)
    ∙ ap is_over_sets (bytes_looked (option_map (λ tracks. tracks.items)) c.self.inside.automata.entries c.args.self.now.automata c.as_bytes.result.now c.args.name.now c.get.result (ap (λ h. h.automata) c.self.view_is) c.get.ensures.value c.as_bytes.ensures)
