use Rattle.std.proofs.Common.{List, [], ◌∷◌, sym, ap, ◌∙◌, subst}
use Rattle.std.proofs.lemmas.List.{map-append}
use Rattle.system_files.specs.SystemTexts.{FoundText, AreInSomeFolder}
use Rattle.system_files.specs.TextViews.{found_view, texts_in}
use Rattle.system_files.specs.Looks.{IsNew}
use Rattle.system_files.proofs.FoundLemmas.{in_some_folder_more}
use Rattle.system_files.proofs.texts.SystemTexts.add.Goals as goal

pub invariant_of-self-2 : goal.invariant_of-self-2
invariant_of-self-2 c =
    let new = subst (λ (found : List FoundText). IsNew found c.args.found.name) (sym c.self.view_is) c.requires.new in
    subst AreInSomeFolder (sym (ap texts_in c.in_ok-push.ensures.items ∙ map-append found_view c.self.inside.found.items (c.args.found ∷ [])))
    (in_some_folder_more (texts_in c.self.inside.found.items) (found_view c.args.found) new c.requires.found c.self.invariant)
