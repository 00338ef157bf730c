use Rattle.std.proofs.Common.{◌≡◌, ◌∙◌, ℕ, List, None, refl, sym, subst}
use Rattle.std.proofs.lemmas.Result.{err_from_is_err_and}
use Rattle.dfa_loading.specs.Headers.{headers_of}
use Rattle.named_systems.specs.NamedSystems.{NamedSystem}
use Rattle.formula_resolve.specs.Headers.{Headers}
use Rattle.system_files.specs.SystemFiles.{Custom}
use Rattle.definitions.specs.Trees.{custom_of}
use Rattle.command_parts.specs.Checks.{Fails, Pure}
use Rattle.word_commands.specs.CombineMakes.{AreListedNames, AreStepsOver, automata_in, automata_of, first_names, head_of}
use Rattle.word_commands.specs.CombineOutcomes.{PlainAnswers, ShapeAnswers, HaveSystemsOfFirst, first_plain, listed_names, listed_systems}
use Rattle.command_parts.specs.FormulaLoads.{HasSystems}
use Rattle.command_parts.specs.WordPrinting.{HaveNames, Keeps}
use Rattle.word_commands.proofs.CombineChains.{list_plain, list_unlike, list_stopped, list_combined}
use Rattle.word_commands.proofs.CombineCheckNames.{combine_success}
use Rattle.command_parts.proofs.StoringTexts.{kept_text}
use Rattle.word_commands.proofs.CombineTexts.{first_tracks, stored_text_is, word_names, word_tracks_are}
use Rattle.word_commands.proofs.combine.combined.Goals as goal

pub returns-in_err-none_plain : goal.returns-in_err-none_plain
returns-in_err-none_plain c =
    let p = err_from_is_err_and c.from_residual.result c.from_residual.ensures.1 in
    let fault = c.in_err-none_plain.field-0.0 in
    let read = c.args.read.now in
    let names = c.args.named.names in
    let tables = read.mentioned.tables.items in
    let automata = automata_of read in
    let h : Headers = headers_of tables in
    let refused : Fails (Pure (PlainAnswers h (listed_names automata))) fault =
    subst (λ (g : Headers). Fails (Pure (PlainAnswers g (listed_names automata))) fault) c.requires.named.1.headers (subst (λ xs. Fails (Pure (PlainAnswers names.headers (listed_names (automata_in xs)))) fault) c.deref.ensures.value c.in_err-none_plain.ensures) in
    λ custom named ledger files word stores same listed. rw (p.1, p.2) (list_plain ledger (head_of word read) tables c.args.named.steps fault refused)

pub returns-in_err-have_one_shape : goal.returns-in_err-have_one_shape
returns-in_err-have_one_shape c =
    let p = err_from_is_err_and c.from_residual-in_err-have_one_shape.result c.from_residual-in_err-have_one_shape.ensures.1 in
    let fault = c.in_err-have_one_shape.field-0.0 in
    let read = c.args.read.now in
    let names = c.args.named.names in
    let tables = read.mentioned.tables.items in
    let automata = automata_of read in
    let h : Headers = headers_of tables in
    let plain : first_plain h (listed_names automata) ≡ None = subst (λ (g : Headers). first_plain g (listed_names automata) ≡ None) c.requires.named.1.headers (subst (λ xs. first_plain names.headers (listed_names (automata_in xs)) ≡ None) c.deref.ensures.value c.in_ok-none_plain.ensures) in
    let refused : Fails (Pure (ShapeAnswers h (listed_names automata))) fault =
    subst (λ (g : Headers). Fails (Pure (ShapeAnswers g (listed_names automata))) fault) c.requires.named.1.headers (subst (λ xs. Fails (Pure (ShapeAnswers names.headers (listed_names (automata_in xs)))) fault) c.deref-2.ensures.value c.in_err-have_one_shape.ensures) in
    λ custom named ledger files word stores same listed. rw (p.1, p.2) (list_unlike ledger (head_of word read) tables c.args.named.steps plain fault refused)

pub combined_word-requires : goal.combined_word-requires
combined_word-requires c =
    let read = c.args.read.now in
    let names = c.args.named.names in
    let tables = read.mentioned.tables.items in
    let automata = automata_of read in
    let h : Headers = headers_of tables in
    let plain : first_plain h (listed_names automata) ≡ None = subst (λ (g : Headers). first_plain g (listed_names automata) ≡ None) c.requires.named.1.headers (subst (λ xs. first_plain names.headers (listed_names (automata_in xs)) ≡ None) c.deref.ensures.value c.in_ok-none_plain.ensures) in
    let shape : HaveSystemsOfFirst h (listed_names automata) = subst (λ (g : Headers). HaveSystemsOfFirst g (listed_names automata)) c.requires.named.1.headers (subst (λ xs. HaveSystemsOfFirst names.headers (listed_names (automata_in xs))) c.deref-2.ensures.value c.in_ok-have_one_shape.ensures) in
    record { read_list = c.requires.read; named = c.requires.named; plain = plain; shape = shape }

pub returns-in_err-word : goal.returns-in_err-word
returns-in_err-word c =
    let p = err_from_is_err_and c.from_residual-in_err-word.result c.from_residual-in_err-word.ensures.1 in
    let fault = c.in_err-word.field-0.0 in
    let read = c.args.read.now in
    let names = c.args.named.names in
    let tables = read.mentioned.tables.items in
    let automata = automata_of read in
    let h : Headers = headers_of tables in
    let plain : first_plain h (listed_names automata) ≡ None = subst (λ (g : Headers). first_plain g (listed_names automata) ≡ None) c.requires.named.1.headers (subst (λ xs. first_plain names.headers (listed_names (automata_in xs)) ≡ None) c.deref.ensures.value c.in_ok-none_plain.ensures) in
    let shape : HaveSystemsOfFirst h (listed_names automata) = subst (λ (g : Headers). HaveSystemsOfFirst g (listed_names automata)) c.requires.named.1.headers (subst (λ xs. HaveSystemsOfFirst names.headers (listed_names (automata_in xs))) c.deref-2.ensures.value c.in_ok-have_one_shape.ensures) in
    λ custom named ledger files word stores same listed.
    let here : AreListedNames read (custom_of ledger) names = subst (λ (k : Custom). AreListedNames read k names) (sym same) named in
    rw (p.1, p.2) (list_stopped ledger (head_of word read) tables c.args.named.steps plain shape c.args.shown fault (c.in_err-word.ensures (custom_of ledger) here))

pub word_made-requires : goal.word_made-requires
word_made-requires c =
    let read = c.args.read.now in
    let names = c.args.named.names in
    let tables = read.mentioned.tables.items in
    let automata = automata_of read in
    let h : Headers = headers_of tables in
    let plain : first_plain h (listed_names automata) ≡ None = subst (λ (g : Headers). first_plain g (listed_names automata) ≡ None) c.requires.named.1.headers (subst (λ xs. first_plain names.headers (listed_names (automata_in xs)) ≡ None) c.deref.ensures.value c.in_ok-none_plain.ensures) in
    let shape : HaveSystemsOfFirst h (listed_names automata) = subst (λ (g : Headers). HaveSystemsOfFirst g (listed_names automata)) c.requires.named.1.headers (subst (λ xs. HaveSystemsOfFirst names.headers (listed_names (automata_in xs))) c.deref-2.ensures.value c.in_ok-have_one_shape.ensures) in
    let tracks : c.first_tracks-tracks.result.now ≡ first_names h (listed_names automata) = c.first_tracks-tracks.ensures ∙ (λ i. first_names (c.requires.named.1.headers i) (listed_names (automata_in (c.deref-3.ensures.value i)))) in
    let word = c.in_ok-word.word in
    let lines = c.combined_word.new.steps.lines in
    let has = λ (custom : Custom) (over : AreStepsOver c.args.named.steps custom names.systems read word lines). subst (λ (ss : List NamedSystem). HasSystems (listed_systems tables automata) ss) (sym over.systems_are) c.requires.named.1.systems in
    let custom = c.requires.named.0 in
    let over = c.in_ok-word.ensures custom c.requires.named.1 in
    subst (λ (ns : List (List ℕ)). HaveNames ns word.systems) (sym tracks) (word_names automata tables c.requires.read.loaded.0 c.requires.read.loaded.1.listed plain shape custom c.args.named.steps word lines over.steps (has custom over))

pub returns : goal.returns
returns c =
    let read = c.args.read.now in
    let names = c.args.named.names in
    let tables = read.mentioned.tables.items in
    let automata = automata_of read in
    let h : Headers = headers_of tables in
    let plain : first_plain h (listed_names automata) ≡ None = subst (λ (g : Headers). first_plain g (listed_names automata) ≡ None) c.requires.named.1.headers (subst (λ xs. first_plain names.headers (listed_names (automata_in xs)) ≡ None) c.deref.ensures.value c.in_ok-none_plain.ensures) in
    let shape : HaveSystemsOfFirst h (listed_names automata) = subst (λ (g : Headers). HaveSystemsOfFirst g (listed_names automata)) c.requires.named.1.headers (subst (λ xs. HaveSystemsOfFirst names.headers (listed_names (automata_in xs))) c.deref-2.ensures.value c.in_ok-have_one_shape.ensures) in
    let tracks : c.first_tracks-tracks.result.now ≡ first_names h (listed_names automata) = c.first_tracks-tracks.ensures ∙ (λ i. first_names (c.requires.named.1.headers i) (listed_names (automata_in (c.deref-3.ensures.value i)))) in
    let word = c.in_ok-word.word in
    let lines = c.combined_word.new.steps.lines in
    let has = λ (custom : Custom) (over : AreStepsOver c.args.named.steps custom names.systems read word lines). subst (λ (ss : List NamedSystem). HasSystems (listed_systems tables automata) ss) (sym over.systems_are) c.requires.named.1.systems in
    let result = c.word_made.result in
    let keeps = subst (λ (ns : List (List ℕ)). Keeps ns word c.args.shown lines result) tracks c.word_made.ensures in
    λ custom named ledger files name stores same listed.
    let here : AreListedNames read (custom_of ledger) names = subst (λ (k : Custom). AreListedNames read k names) (sym same) named in
    let over = c.in_ok-word.ensures (custom_of ledger) here in
    let own = has (custom_of ledger) over in
    let text = stored_text_is ledger automata tables files stores listed plain shape c.args.named.steps word lines over.steps own c.letters_fit.ensures in
    let found = first_tracks h (listed_names automata) word in
    list_combined ledger (head_of name read) tables c.args.named.steps plain shape lines (word, over.steps) found
    (word_tracks_are automata tables files listed plain shape (custom_of ledger) c.args.named.steps word lines over.steps own) c.args.shown result
    (kept_text (custom_of ledger) (combine_success ledger (head_of name read) found lines) (first_names h (listed_names automata)) word c.args.shown result refl text keeps)
