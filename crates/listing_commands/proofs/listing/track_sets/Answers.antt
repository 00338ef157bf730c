use Rattle.std.proofs.Common.{◌≡◌, ℕ, ℤ, List, map, sym, ap, ◌∙◌, subst}
use Rattle.std.specs.Prelude.{IfOk}
use Rattle.std.specs.Rc.{rc_value}
use Rattle.digit_tuple.specs.Systems.{digit_sets}
use Rattle.dfa_reading.specs.HeaderViews.{header_view}
use Rattle.dfa_reading.specs.Headers.{Header}
use Rattle.num_system.specs.Sealed.{SystemValue}
use Rattle.listing_commands.specs.ListingMakes.{HaveHeader, sets_below}
use Rattle.command_parts.specs.WordPrinting.{HaveNames, tracks_named}
use Rattle.listing_commands.proofs.listing.track_sets.Goals as goal

pub tracks_of-requires : goal.tracks_of-requires
tracks_of-requires c =
    let found : List SystemValue = map rc_value c.args.systems.now in
    let names = c.deref-in-Systems.ensures.value ∙ (c.in_ok-names-in-Systems.ensures ∙ c.deref.ensures.value) in
    subst (λ (ns : List (List ℕ)). HaveNames ns found) (sym names) (subst (λ (h : Header). HaveHeader h found) (ap header_view c.in-Systems.is) c.requires)

pub returns-in_ok-tracks-in-Systems : goal.returns-in_ok-tracks-in-Systems
returns-in_ok-tracks-in-Systems c =
    let found : List SystemValue = map rc_value c.args.systems.now in
    let names = c.deref-in-Systems.ensures.value ∙ (c.in_ok-names-in-Systems.ensures ∙ c.deref.ensures.value) in
    let same = ap digit_sets (c.in_ok-tracks-in-Systems.ensures ∙ ap (λ (ns : List (List ℕ)). tracks_named ns found) names) ∙ sym (ap (λ (h : Header). sets_below h found) (ap header_view c.in-Systems.is)) in
    subst (λ (there : List (List ℤ)). IfOk c.digit_sets.result (λ sets. sets ≡ there)) same c.digit_sets.ensures
