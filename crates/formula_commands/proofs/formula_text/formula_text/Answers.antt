use Rattle.std.proofs.Common.{◌≡◌, List, ℕ, sym, ap, ◌∙◌, subst}
use Rattle.digit_tuple.specs.Sets.{sizes_of}
use Rattle.digit_tuple.specs.Systems.{digit_sets}
use Rattle.command_parts.specs.FormulaLoads.{tracks_over, variable_systems}
use Rattle.command_parts.specs.WordPrinting.{HaveNames, tracks_named}
use Rattle.command_parts.proofs.NamedTracks.{sizes_named}
use Rattle.formula_commands.proofs.formula_text.formula_text.Goals as goal

pub tracks_of-requires : goal.tracks_of-requires
tracks_of-requires c = rw c.systems.ensures.value (subst (λ (ns : List (List ℕ)). HaveNames ns c.args.relation.now.systems) (sym (c.deref.ensures.value ∙ c.in_ok-names.ensures)) c.requires)

pub print_within-requires : goal.print_within-requires
print_within-requires c =
    let names = variable_systems c.args.variables.now in
    let systems = c.args.relation.now.systems in
    let made : c.in_ok-tracks_of.field-0 ≡ tracks_named c.deref.result.now systems = rw c.systems.ensures.value at c.in_ok-tracks_of.ensures in
    let tracks : c.in_ok-tracks_of.field-0 ≡ tracks_over c.args.variables.now systems = made ∙ ap (λ (ns : List (List ℕ)). tracks_named ns systems) (c.deref.ensures.value ∙ c.in_ok-names.ensures) in
    ap (λ d. d.sizes) c.dfa.ensures.value ∙ c.dfa.ensures.relation.closed.sizes ∙ sym (sizes_named names systems c.requires.count) ∙ ap (λ ts. sizes_of (digit_sets ts)) (sym tracks)
