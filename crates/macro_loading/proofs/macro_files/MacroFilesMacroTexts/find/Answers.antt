use Rattle.std.proofs.Common.{◌≡◌, refl, sym, ◌∙◌, ap, subst, ℕ, List, None, rules}
use Rattle.wal_outside.specs.Answers.{Finds}
use Rattle.wal_outside.specs.declared.folder.Folder.TheVariants.{Macros}
use Rattle.wal_outside.specs.declared.store.Found.TheVariants as answers
use Rattle.macro_expand.specs.Texts.{text_in}
use Rattle.macro_loading.proofs.ReadTexts.{still_so, on_ok, there_is, added_there, added_so_goes_on, kept_so}
use Rattle.macro_loading.proofs.macro_files.MacroFilesMacroTexts.find.Goals as goal

pub returns-in-Found-clause-kept : goal.returns-in-Found-clause-kept
returns-in-Found-clause-kept g c =
    let none : text_in c.args.self.now.texts c.args.name.now ≡ None = search rules in
    kept_so c.args.self.now.texts c.as_bytes-in-Found.result.now c.deref.result.now c.add.result c.add.new.self (ap (text_in c.args.self.now.texts) c.as_bytes-in-Found.ensures ∙ none) c.add.ensures.ok c.add.ensures.err

pub returns-in-Found-clause-ok : goal.returns-in-Found-clause-ok
returns-in-Found-clause-ok g c =
    let first : c.args.self.now.want ≡ None = search rules in
    on_ok c.add.result _ _
    (λ added. there_is (text_in c.add.new.self c.args.name.now) c.deref.result.now _ _
    (ap (text_in c.add.new.self) (sym c.as_bytes-in-Found.ensures) ∙ (ap (λ texts. text_in texts c.as_bytes-in-Found.result.now) added ∙ added_there c.args.self.now.texts c.as_bytes-in-Found.result.now c.deref.result.now)) (
      refl,
      added_so_goes_on c.args.self.now.texts c.args.name.now c.read.new.into.items c.as_bytes-in-Found.result.now c.deref.result.now c.add.new.self (g.T.Store.view c.args.self.now.store.now) (g.T.Store.view c.read.new.self) c.args.self.now.want
          added c.as_bytes-in-Found.ensures c.deref.ensures.value (subst (λ (n : List ℕ). Finds (g.T.Store.view c.args.self.now.store.now).files Macros n answers.Found c.read.new.into.items) c.as_str.ensures c.in-Found.ensures.answer) c.in-Found.ensures.size c.in-Found.ensures.unchanged c.in-Found.ensures.faults c.in-Found.ensures.place,
      still_so _ _ first,
    )) c.add.ensures.ok
