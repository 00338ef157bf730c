use Rattle.std.proofs.Common.{◌≡◌, ◌∙◌, ℕ, List, [], length, get_or, Ok, Err, sym, ap, subst}
use Rattle.std.specs.Rc.{rc_value}
use Rattle.std.proofs.lemmas.Result.{err_from_is_err_and}
use Rattle.dfa_loading.specs.Headers.{headers_of}
use Rattle.formula_build.specs.Solutions.{direction_named}
use Rattle.formula_resolve.specs.Headers.{Headers, word_tracks}
use Rattle.num_system.specs.Tracks.{direction_of}
use Rattle.word_images.specs.ImageWords.{IsImageWord}
use Rattle.word_output.specs.Words.{WordValue}
use Rattle.system_files.specs.SystemFiles.{Custom}
use Rattle.definitions.specs.Trees.{custom_of}
use Rattle.command_parts.specs.Checks.{Fails, Pure}
use Rattle.word_commands.specs.ImageFaults.{fault_of_imaging}
use Rattle.word_commands.specs.ImageMakes.{head_of, old_system_of, old_tracks_of}
use Rattle.word_commands.specs.ImageOutcomes.{OneTrackAnswers}
use Rattle.word_commands.specs.ImageSteps.{DoesImage}
use Rattle.word_commands.specs.OldWordMakes.{AreOldNames}
use Rattle.command_parts.specs.TrackSystems.{fault_of}
use Rattle.command_parts.specs.WordPrinting.{HaveNames, Keeps}
use Rattle.word_commands.proofs.ImageChains.{tracks_refused, lengths_refused}
use Rattle.word_commands.proofs.ImageWrites.{image_kept, image_unmade}
use Rattle.word_commands.proofs.ImageTexts.{image_names}
use Rattle.word_commands.proofs.ImagedSteps.{imaged_here, steps_unimaged, unread_old}
use Rattle.word_commands.proofs.OldWords.{old_direction, old_single}
use Rattle.word_commands.proofs.image.made_over.Goals as goal

pub returns-in_err-has_one_track : goal.returns-in_err-has_one_track
returns-in_err-has_one_track c =
    let p = err_from_is_err_and c.from_residual.result c.from_residual.ensures.1 in
    let fault = c.in_err-has_one_track.field-0.0 in
    let read = c.args.read.now in
    let tables = read.old.mentioned.tables.items in
    let refused : Fails (Pure (OneTrackAnswers (headers_of tables) read.old.name)) fault = subst (λ (h : Headers). Fails (Pure (OneTrackAnswers h read.old.name)) fault) c.requires.named.1.headers c.in_err-has_one_track.ensures in
    λ custom named ledger files word morphism stores same listed. rw (p.1, p.2) (tracks_refused ledger (head_of word morphism read) read.morphism tables c.args.named.steps fault refused)

pub returns-in_err-has_one_length : goal.returns-in_err-has_one_length
returns-in_err-has_one_length c =
    let p = err_from_is_err_and c.from_residual-in_err-has_one_length.result c.from_residual-in_err-has_one_length.ensures.1 in
    let fault = c.in_err-has_one_length.field-0.0 in
    let read = c.args.read.now in
    let one : length (old_tracks_of read) ≡ 1 = subst (λ (h : Headers). length (word_tracks h read.old.name) ≡ 1) c.requires.named.1.headers c.in_ok-has_one_track.ensures in
    λ custom named ledger files word morphism stores same listed. rw (p.1, p.2) (lengths_refused ledger (head_of word morphism read) read.morphism read.old.mentioned.tables.items c.args.named.steps one fault c.in_err-has_one_length.ensures)

pub returns-in_err-old : goal.returns-in_err-old
returns-in_err-old c =
    let p = err_from_is_err_and c.from_residual-in_err-old.result c.from_residual-in_err-old.ensures.1 in
    let fault = c.in_err-old.field-0.0 in
    let read = c.args.read.now in
    let one : length (old_tracks_of read) ≡ 1 = subst (λ (h : Headers). length (word_tracks h read.old.name) ≡ 1) c.requires.named.1.headers c.in_ok-has_one_track.ensures in
    λ custom named ledger files word morphism stores same listed.
    let here = subst (λ (k : Custom). AreOldNames read.old k c.args.named.names) (sym same) named in
    rw (p.1, p.2) (image_unmade ledger files stores read listed one c.in_ok-has_one_length.ensures word morphism c.args.named.steps c.args.named.names.systems here.meant here.systems (fault_of fault)
    (unread_old c.args.named.steps (custom_of ledger) read.old.mentioned.tables.items read.old.name (old_system_of read) read.morphism fault (c.in_err-old.ensures (custom_of ledger) here)))

pub old_system-system-requires : goal.old_system-system-requires
old_system-system-requires c = c.in_ok-has_one_track.ensures

pub image-requires-clause-track : goal.image-requires-clause-track
image-requires-clause-track c =
    let read = c.args.read.now in
    let one : length (old_tracks_of read) ≡ 1 = subst (λ (h : Headers). length (word_tracks h read.old.name) ≡ 1) c.requires.named.1.headers c.in_ok-has_one_track.ensures in
    let is = c.in_ok-old.ensures c.requires.named.0 c.requires.named.1 in
    subst (λ (w : WordValue). length w.systems ≡ 1) (sym c.as_ref.ensures)
    (old_single read.old.name read.old.mentioned.tables.items c.requires.old.0 c.requires.old.1.listed is.systems is.sealed c.requires.named.0 is.meant is.has is.reads c.args.named.steps c.read_old.new.steps is.read (rc_value c.in_ok-old.old) is.word_is one)

pub image-requires-clause-direction : goal.image-requires-clause-direction
image-requires-clause-direction c =
    let read = c.args.read.now in
    let one : length (old_tracks_of read) ≡ 1 = subst (λ (h : Headers). length (word_tracks h read.old.name) ≡ 1) c.requires.named.1.headers c.in_ok-has_one_track.ensures in
    let system : c.old_system-system.result.now ≡ old_system_of read = c.old_system-system.ensures ∙ ap (λ (h : Headers). get_or (word_tracks h read.old.name) 0 []) c.requires.named.1.headers in
    let is = c.in_ok-old.ensures c.requires.named.0 c.requires.named.1 in
    subst (λ (w : WordValue). direction_of w.systems ≡ direction_named c.old_system-system.result.now) (sym c.as_ref.ensures)
    (subst (λ (s : List ℕ). direction_of (rc_value c.in_ok-old.old).systems ≡ direction_named s) (sym system)
    (old_direction read.old.name read.old.mentioned.tables.items c.requires.old.0 c.requires.old.1.listed is.systems is.sealed c.requires.named.0 is.meant is.has is.reads c.args.named.steps c.read_old.new.steps is.read (rc_value c.in_ok-old.old) is.word_is one))

pub returns-in_err-word : goal.returns-in_err-word
returns-in_err-word c =
    let p = err_from_is_err_and c.from_residual-in_err-word.result c.from_residual-in_err-word.ensures.1 in
    let fault = c.in_err-word.field-0.0 in
    let read = c.args.read.now in
    let one : length (old_tracks_of read) ≡ 1 = subst (λ (h : Headers). length (word_tracks h read.old.name) ≡ 1) c.requires.named.1.headers c.in_ok-has_one_track.ensures in
    let system : c.old_system-system.result.now ≡ old_system_of read = c.old_system-system.ensures ∙ ap (λ (h : Headers). get_or (word_tracks h read.old.name) 0 []) c.requires.named.1.headers in
    let uniform = c.in_ok-has_one_length.ensures in
    let refused = subst (λ (w : WordValue). DoesImage read.morphism w (old_system_of read) c.read_old.new.steps (Err fault) c.image.new.steps) c.as_ref.ensures
    (subst (λ (s : List ℕ). DoesImage read.morphism c.as_ref.result.now s c.read_old.new.steps (Err fault) c.image.new.steps) system c.in_err-word.ensures.steps) in
    λ custom named ledger files word morphism stores same listed.
    let here = subst (λ (k : Custom). AreOldNames read.old k c.args.named.names) (sym same) named in
    rw (p.1, p.2) (image_unmade ledger files stores read listed one uniform word morphism c.args.named.steps c.args.named.names.systems here.meant here.systems (fault_of_imaging fault)
    (steps_unimaged (c.in_ok-old.ensures (custom_of ledger) here) uniform.0 uniform.1 fault c.image.new.steps refused))

pub word_made-requires : goal.word_made-requires
word_made-requires c =
    let read = c.args.read.now in
    let one : length (old_tracks_of read) ≡ 1 = subst (λ (h : Headers). length (word_tracks h read.old.name) ≡ 1) c.requires.named.1.headers c.in_ok-has_one_track.ensures in
    let tracks : c.word_tracks-tracks.result.now ≡ old_tracks_of read = c.word_tracks-tracks.ensures ∙ ap (λ (h : Headers). word_tracks h read.old.name) c.requires.named.1.headers in
    let system : c.old_system-system.result.now ≡ old_system_of read = c.old_system-system.ensures ∙ ap (λ (h : Headers). get_or (word_tracks h read.old.name) 0 []) c.requires.named.1.headers in
    let word = c.in_ok-word.word in
    let done = subst (λ (w : WordValue). DoesImage read.morphism w (old_system_of read) c.read_old.new.steps (Ok word) c.image.new.steps) c.as_ref.ensures
    (subst (λ (s : List ℕ). DoesImage read.morphism c.as_ref.result.now s c.read_old.new.steps (Ok word) c.image.new.steps) system c.in_ok-word.ensures.steps) in
    let letters = subst (λ (w : WordValue). IsImageWord read.morphism w word) c.as_ref.ensures c.in_ok-word.ensures.image in
    let made = λ (custom : Custom) (named : AreOldNames read.old custom c.args.named.names). imaged_here (c.in_ok-old.ensures custom named) word c.image.new.steps done letters in
    subst (λ (ns : List (List ℕ)). HaveNames ns word.systems) (sym tracks)
    (image_names read c.requires.old.0 c.requires.old.1.listed one c.requires.named.0 c.args.named.steps word c.image.new.steps.lines (made c.requires.named.0 c.requires.named.1))

pub returns : goal.returns
returns c =
    let read = c.args.read.now in
    let one : length (old_tracks_of read) ≡ 1 = subst (λ (h : Headers). length (word_tracks h read.old.name) ≡ 1) c.requires.named.1.headers c.in_ok-has_one_track.ensures in
    let tracks : c.word_tracks-tracks.result.now ≡ old_tracks_of read = c.word_tracks-tracks.ensures ∙ ap (λ (h : Headers). word_tracks h read.old.name) c.requires.named.1.headers in
    let system : c.old_system-system.result.now ≡ old_system_of read = c.old_system-system.ensures ∙ ap (λ (h : Headers). get_or (word_tracks h read.old.name) 0 []) c.requires.named.1.headers in
    let word = c.in_ok-word.word in
    let done = subst (λ (w : WordValue). DoesImage read.morphism w (old_system_of read) c.read_old.new.steps (Ok word) c.image.new.steps) c.as_ref.ensures
    (subst (λ (s : List ℕ). DoesImage read.morphism c.as_ref.result.now s c.read_old.new.steps (Ok word) c.image.new.steps) system c.in_ok-word.ensures.steps) in
    let letters = subst (λ (w : WordValue). IsImageWord read.morphism w word) c.as_ref.ensures c.in_ok-word.ensures.image in
    let made = λ (custom : Custom) (named : AreOldNames read.old custom c.args.named.names). imaged_here (c.in_ok-old.ensures custom named) word c.image.new.steps done letters in
    let keeps = subst (λ (ns : List (List ℕ)). Keeps ns word c.args.shown c.image.new.steps.lines c.word_made.result) tracks c.word_made.ensures in
    λ custom named ledger files name morphism stores same listed.
    let here = subst (λ (k : Custom). AreOldNames read.old k c.args.named.names) (sym same) named in
    image_kept ledger files stores read listed one c.in_ok-has_one_length.ensures name morphism c.args.named.steps word c.image.new.steps.lines (made (custom_of ledger) here) c.letters_fit.ensures c.args.shown c.word_made.result keeps
