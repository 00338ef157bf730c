-- An `image` has one outcome.
use Rattle.std.proofs.Common.{◌≡◌, ◌≢◌, ◌⊎◌, ℕ, Bool, true, false, List, [], ◌∷◌, length, if◌then◌else◌, Some, Result, Ok, Err, bytes_eq, codes, inl, inr, refl, sym, ap, ◌∙◌, subst}
use Rattle.std.proofs.lemmas.Option.{none-some}
use Rattle.wal_outside.specs.Files.{Files}
use Rattle.wal_outside.specs.declared.folder.Folder.TheVariants.{Words}
use Rattle.command_head.specs.Grammar.{DerivesImage}
use Rattle.command_head.proofs.OneFault.{one_head}
use Rattle.command_head.proofs.WordHeads.{one_image}
use Rattle.digit_tuple.specs.Steps.{StepLog}
use Rattle.digit_tuple.specs.declared.step_fault.StepFault.TheVariants as steps
use Rattle.digit_tuple.specs.declared.steps.StepLine.{StepLine}
use Rattle.dfa_loading.specs.Headers.{headers_of}
use Rattle.dfa_loading.specs.Loading.{AreListedBy}
use Rattle.dfa_loading.specs.declared.loaded.Loaded.{Loaded}
use Rattle.plan_relations.specs.Libraries.{NamedWord, AreWords, word_named}
use Rattle.formula_resolve.specs.Arity.{kept_count}
use Rattle.formula_resolve.specs.FirstMentions.{first_files, first_systems}
use Rattle.formula_resolve.specs.Headers.{Headers, word_tracks}
use Rattle.formula_resolve.specs.declared.file.File.{File}
use Rattle.morph_words.specs.Rules.{Rules, IsMorphism}
use Rattle.morph_words.specs.Uniform.{HasLength, IsImageLength, IsLengthRefused}
use Rattle.morph_words.specs.declared.morphism_kind.MorphismKind.{MorphismKind}
use Rattle.morph_words.proofs.MorphismShape.{derives_morphisms}
use Rattle.morph_words.proofs.UniformLemmas.{one_lengths}
use Rattle.automaton_steps.proofs.AnswerCases.{memory_alone, one_value, same_fault}
use Rattle.automaton_steps.specs.OneAnswers.{HasOneAnswer}
use Rattle.word_commands.specs.ImageSteps.{DoesImage}
use Rattle.word_commands.specs.OneImage.{ImagesHaveOneOutcome}
use Rattle.word_commands.specs.declared.image_fault.ImageFault.{ImageFault}
use Rattle.word_commands.specs.declared.image_fault.ImageFault.TheVariants as images
use Rattle.word_output.specs.Words.{IsWordValue, WordValue}
use Rattle.system_files.specs.SystemFiles.{Custom}
use Rattle.definitions.proofs.NameLemmas.{one_meaning}
use Rattle.definitions.proofs.TableRelations.{table_holds}
use Rattle.definitions.specs.Named.{IsSystemNamed}
use Rattle.definitions.specs.Trees.{Entry, Ledger, custom_of}
use Rattle.command_parts.specs.declared.shape_refusal.ShapeRefusal.TheVariants as shape_refusals
use Rattle.command_parts.specs.declared.word_refusal.WordRefusal.TheVariants as word_refusals
use Rattle.command_parts.specs.declared.refusal.Refusal.{Refusal}
use Rattle.command_parts.specs.declared.refusal.Refusal.TheVariants as refusals
use Rattle.command_parts.specs.Accepting.{stored}
use Rattle.command_parts.specs.Checks.{Pure, IsSingle}
use Rattle.command_parts.specs.FileChecks.{files_loaded}
use Rattle.command_parts.specs.HeadAnswers.{HeadAnswers}
use Rattle.word_commands.specs.ImageFaults.{fault_of_imaging}
use Rattle.command_parts.specs.TrackSystems.{fault_of}
use Rattle.word_commands.specs.ImageOutcomes.{WordTrack, IsOldWordRead, AreImageSteps, IsImagingStopped, OneTrackAnswers, LengthsAnswers, ImagedAnswers, old_mentions, after_old_systems, after_old_table, after_image_head, image_checks}
use Rattle.word_commands.specs.MorphismChecks.{morphism_loaded}
use Rattle.command_parts.specs.SystemChecks.{systems_known}
use Rattle.command_parts.specs.TableReads.{TableRead, words_in}
use Rattle.word_commands.proofs.ImageCheckNames.{TrackAnswers, OldAnswers, image_success, after_image_steps, after_track, after_lengths, after_one_track, after_image_morphism}
use Rattle.command_parts.proofs.CheckSteps.{then_single, single_so}
use Rattle.word_commands.proofs.ImageLaws.{one_image_outcome}
use Rattle.word_commands.proofs.ImagedSteps.{of_one_kind}
use Rattle.command_parts.proofs.OneHeads.{head_single}
use Rattle.command_parts.proofs.OneLoadings.{files_single}
use Rattle.command_parts.proofs.OneMeantReadings.{IsStopped, stopped_by, same_reading, were_readable, read_stopped, both_stopped}
use Rattle.command_parts.proofs.OneSystems.{systems_single}
use Rattle.command_parts.proofs.OneTexts.{stored_single}
use Rattle.command_parts.proofs.TableFits.{are_words}
use Rattle.word_commands.proofs.OnePromotes.{loading_single}
use Rattle.command_parts.proofs.RefusingSteps.{no_memory, refusing_single}
use Rattle.command_parts.specs.RefusingChecks.{Refusing}
use Rattle.digit_tuple.specs.declared.step_fault.StepFault.{StepFault}

-- the word has one track, or another number of them
abbrev IsTrackAnswer : Headers → List ℕ → Result (Unit {0}) Refusal → Type 0
IsTrackAnswer h old r = ((length (word_tracks h old) ≡ 1) × (r ≡ Ok tt)) ⊎ ((length (word_tracks h old) ≢ 1) × (r ≡ Err (refusals.Shape (shape_refusals.Arity old (kept_count (length (word_tracks h old))) 1))))

track_is : (h : Headers) (old : List ℕ) (r : Result (Unit {0}) Refusal) → OneTrackAnswers h old r → IsTrackAnswer h old r
track_is h old (Ok one) a = inl (a, refl)
track_is h old (Err refusal) (other, is) = inr (other, ap (λ (why : Refusal). let x : Result (Unit {0}) Refusal = Err why in x) is)

one_track_single : (h : Headers) (old : List ℕ) → IsSingle (Pure (OneTrackAnswers h old))
one_track_single h old r s a b = by (track_is h old r a) (track_is h old s b)
  where
    by : IsTrackAnswer h old r → IsTrackAnswer h old s → r ≡ s
    by (inl (one, is)) (inl (one', is')) = is ∙ sym is'
    by (inl (one, is)) (inr (other, is')) = absurd (other one)
    by (inr (other, is)) (inl (one, is')) = absurd (other one)
    by (inr (other, is)) (inr (other', is')) = is ∙ sym is'

-- all images have one length, or the first kind decides
abbrev IsLengthAnswer : Rules → Result (Unit {0}) Refusal → Type 0
IsLengthAnswer rules r = ((k : ℕ) × HasLength IsImageLength rules k × (r ≡ Ok tt)) ⊎ ((kind : MorphismKind) × IsLengthRefused IsImageLength rules kind × (r ≡ Err (refusals.Word (word_refusals.Morphism kind))))

length_is : (rules : Rules) (r : Result (Unit {0}) Refusal) → LengthsAnswers rules r → IsLengthAnswer rules r
length_is rules (Ok uniform) (k, has) = inl (k, has, refl)
length_is rules (Err refusal) (kind, is, a) = inr (kind, a, ap (λ (why : Refusal). let x : Result (Unit {0}) Refusal = Err why in x) is)

lengths_single : (rules : Rules) → IsMorphism rules → IsSingle (Pure (LengthsAnswers rules))
lengths_single rules morphism r s a b = by (length_is rules r a) (length_is rules s b)
  where
    by : IsLengthAnswer rules r → IsLengthAnswer rules s → r ≡ s
    by (inl (k, has, is)) (inl (j, has', is')) = is ∙ sym is'
    by (inl (k, has, is)) (inr (kind, refused, is')) = absurd (of_one_kind rules k kind has refused)
    by (inr (kind, refused, is)) (inl (k, has, is')) = absurd (of_one_kind rules k kind has refused)
    by (inr (kind, refused, is)) (inr (other, refused', is')) =
        is ∙ (ap (λ (x : MorphismKind). let r : Result (Unit {0}) Refusal = Err (refusals.Word (word_refusals.Morphism x)) in r) ((one_lengths 1 40 rules morphism).one_kind kind other refused refused') ∙ sym is')

-- the system of the track is what its name means
abbrev IsOverTrack : Custom → Headers → List ℕ → Result WordTrack Refusal → Type 0
IsOverTrack custom h old r = (track : WordTrack) × TrackAnswers custom h old (Ok track) × (r ≡ Ok track)

over_is : (custom : Custom) (h : Headers) (old : List ℕ) (r : Result WordTrack Refusal) → TrackAnswers custom h old r → IsOverTrack custom h old r
over_is custom h old (Ok track) a = (track, a, refl)
over_is custom h old (Err fault) a = absurd a

first_same : (a b : List ℕ) → a ∷ [] ≡ b ∷ [] → a ≡ b
first_same a b same = cc

one_track_over : (custom : Custom) (h : Headers) (old : List ℕ) (t u : WordTrack) → TrackAnswers custom h old (Ok t) → TrackAnswers custom h old (Ok u) → t ≡ u
one_track_over custom h old t u (is, meant) (is', meant') =
    let names : t.system.name ≡ u.system.name = first_same t.system.name u.system.name (sym is ∙ is') in
    let there : IsSystemNamed custom u.system.name t.direction t.system.system = subst (λ (n : List ℕ). IsSystemNamed custom n t.direction t.system.system) names meant in
    let one = one_meaning custom u.system.name t.direction u.direction t.system.system u.system.system there meant' in
    λ i. record { direction = one.0 i; system = record { name = names i; system = one.1 i } }

tracks_single : (custom : Custom) (h : Headers) (old : List ℕ) → IsSingle (Pure (TrackAnswers custom h old))
tracks_single custom h old r s a b =
    let p : IsOverTrack custom h old r = over_is custom h old r a in
    let q : IsOverTrack custom h old s = over_is custom h old s b in
    p.2 ∙ (ap (λ (t : WordTrack). let x : Result WordTrack Refusal = Ok t in x) (one_track_over custom h old p.0 q.0 p.1 q.1) ∙ sym q.2)

-- one entry is under the name
abbrev IsEntry : Ledger → List ℕ → Result Entry Refusal → Type 0
IsEntry ledger old r = (entry : Entry) × (ledger Words old ≡ Some entry) × (r ≡ Ok entry)

entry_is : (ledger : Ledger) (old : List ℕ) (r : Result Entry Refusal) → OldAnswers ledger old r → IsEntry ledger old r
entry_is ledger old (Ok entry) a = (entry, a, refl)
entry_is ledger old (Err fault) a = absurd a

some_same : (a b : Entry) → Some a ≡ Some b → a ≡ b
some_same a b same = cc

pub old_single : (ledger : Ledger) (old : List ℕ) → IsSingle (Pure (OldAnswers ledger old))
old_single ledger old r s a b =
    let p : IsEntry ledger old r = entry_is ledger old r a in
    let q : IsEntry ledger old s = entry_is ledger old s b in
    p.2 ∙ (ap (λ (e : Entry). let x : Result Entry Refusal = Ok e in x) (some_same p.0 q.0 (sym p.1 ∙ q.1)) ∙ sym q.2)

record IsImageMade (admitted : StepLog) (custom : Custom) (tables : List Loaded) (old name : List ℕ) (rules : Rules) (r : Result (List StepLine) ImageFault) : Type 0 where
  word : WordValue
  lines : List StepLine
  done : AreImageSteps admitted custom tables old name rules word lines
  is : r ≡ Ok lines

record IsImageStoppedBy (admitted : StepLog) (custom : Custom) (tables : List Loaded) (old name : List ℕ) (rules : Rules) (r : Result (List StepLine) ImageFault) : Type 0 where
  fault : ImageFault
  not_memory : fault ≢ images.Step steps.Memory
  stops : IsImagingStopped admitted custom tables old name rules fault
  is : r ≡ Err fault

-- the table is not read
abbrev IsUnread : StepLog → Custom → List Loaded → Result (List StepLine) ImageFault → Type 0
IsUnread admitted custom tables r = (fault : StepFault) × IsStopped admitted custom tables (Err fault) × (r ≡ Err (images.Step fault))

-- the image is made, or refused, or the table is not read
abbrev IsOutcome : StepLog → Custom → List Loaded → List ℕ → List ℕ → Rules → Result (List StepLine) ImageFault → Type 0
IsOutcome admitted custom tables old name rules r = IsImageMade admitted custom tables old name rules r ⊎ (IsImageStoppedBy admitted custom tables old name rules r ⊎ IsUnread admitted custom tables r)

imaged_is : (admitted : StepLog) (custom : Custom) (tables : List Loaded) (old name : List ℕ) (rules : Rules) (r : Result (List StepLine) Refusal) → ImagedAnswers admitted custom tables old name rules r → (Refusing fault_of_imaging (IsOutcome admitted custom tables old name rules)).answers r
imaged_is admitted custom tables old name rules (Ok lines) (word, a) = inl (record { word = word; lines = lines; done = a; is = refl })
imaged_is admitted custom tables old name rules (Err refusal) (images.Morphism kind, is, a) = absurd a
imaged_is admitted custom tables old name rules (Err refusal) (images.Missing letter, is, a) = (images.Missing letter, is, inr (inl (record { fault = images.Missing letter; not_memory = λ same. cc; stops = a; is = refl })))
imaged_is admitted custom tables old name rules (Err refusal) (images.Step fault, is, inl a) = (images.Step fault, is, inr (inr (fault, stopped_by admitted custom tables fault (no_memory fault_of steps.Memory refl fault refusal is) a, refl)))
imaged_is admitted custom tables old name rules (Err refusal) (images.Step fault, is, inr a) =
    (images.Step fault, is, inr (inl (record { fault = images.Step fault; not_memory = no_memory fault_of_imaging (images.Step steps.Memory) refl (images.Step fault) refusal is; stops = a; is = refl })))

-- a word under a name is one
found_word : (words : List NamedWord) (name : List ℕ) (v : WordValue) → AreWords words → word_named words name ≡ Some v → IsWordValue v
found_word [] name v are found = absurd (none-some v found)
found_word (w ∷ words) name v are found = by (bytes_eq w.name name) (λ (there : word_named words name ≡ Some v). found_word words name v are.1 there) found
  where
    by : (b : Bool) → (word_named words name ≡ Some v → IsWordValue v) → (if b then Some w.word else word_named words name) ≡ Some v → IsWordValue v
    by true rest is = let same : w.word ≡ v = cc in subst IsWordValue same are.0
    by false rest is = rest is

module _ (law : ImagesHaveOneOutcome) (admitted : StepLog) (custom : Custom) (tables : List Loaded) (old name : List ℕ) (rules : Rules) (morphism : IsMorphism rules) (files : Files) (named : List File) (listed : AreListedBy files named tables) where
  -- one word is read, and so one image is made
  one_at : (a : IsOldWordRead admitted custom tables old) → HasOneAnswer (images.Step steps.Memory) (DoesImage rules a.word name)
  one_at a =
      let readable = were_readable admitted custom tables files named listed a.systems a.reading a.reads a.meant a.read in
      law rules a.word name morphism (found_word (words_in a.reads) old a.word (are_words table_holds a.systems a.sealed tables a.reads admitted a.reading readable a.read) a.word_is)

  word_same : (u v : WordValue) → Some u ≡ Some v → u ≡ v
  word_same u v same = cc

  same_before : (a b : IsOldWordRead admitted custom tables old) → (a.reading ≡ b.reading) × (a.word ≡ b.word)
  same_before a b =
      let read : (a.reads ≡ b.reads) × (a.reading ≡ b.reading) =
      same_reading admitted custom tables files named listed a.systems b.systems a.reading b.reading a.reads b.reads a.sealed a.meant b.sealed b.meant a.read b.read in
      (read.1, word_same a.word b.word (sym a.word_is ∙ (ap (λ (rs : List TableRead). word_named (words_in rs) old) read.0 ∙ b.word_is)))

  -- what is said of the one word that is read holds of the other
  moved : (P : StepLog → WordValue → Type 0) (a b : IsOldWordRead admitted custom tables old) → P b.reading b.word → P a.reading a.word
  moved P a b p =
      let same = same_before a b in
      subst (λ (w : WordValue). P a.reading w) (sym same.1) (subst (λ (l : StepLog). P l b.word) (sym same.0) p)

  both_made : (r s : Result (List StepLine) ImageFault) → IsImageMade admitted custom tables old name rules r → IsImageMade admitted custom tables old name rules s → r ≡ s
  both_made r s p q =
      let a = p.done.before in
      let there = moved (λ l w. DoesImage rules w name l (Ok q.word) q.done.log) a q.done.before q.done.done in
      let same : p.done.log ≡ q.done.log = (one_value (images.Step steps.Memory) p.done.log q.done.log p.word q.word (one_at a a.reading p.done.log q.done.log (Ok p.word) (Ok q.word) p.done.done there)).1 in
      let lines : p.lines ≡ q.lines = p.done.lines_are ∙ (ap (λ (log : StepLog). log.lines) same ∙ sym q.done.lines_are) in
      p.is ∙ (ap (λ (ls : List StepLine). let x : Result (List StepLine) ImageFault = Ok ls in x) lines ∙ sym q.is)

  made_refused : (r s : Result (List StepLine) ImageFault) → IsImageMade admitted custom tables old name rules r → IsImageStoppedBy admitted custom tables old name rules s → ⊥
  made_refused r s p q =
      let a = p.done.before in
      let there = moved (λ l w. DoesImage rules w name l (Err q.fault) q.stops.log) a q.stops.before q.stops.refused in
      q.not_memory (memory_alone (images.Step steps.Memory) p.done.log q.stops.log p.word q.fault (one_at a a.reading p.done.log q.stops.log (Ok p.word) (Err q.fault) p.done.done there))

  both_refused : (r s : Result (List StepLine) ImageFault) → IsImageStoppedBy admitted custom tables old name rules r → IsImageStoppedBy admitted custom tables old name rules s → r ≡ s
  both_refused r s p q =
      let a = p.stops.before in
      let there = moved (λ l w. DoesImage rules w name l (Err q.fault) q.stops.log) a q.stops.before q.stops.refused in
      let same : p.fault ≡ q.fault = same_fault (images.Step steps.Memory) p.stops.log q.stops.log p.fault q.fault (one_at a a.reading p.stops.log q.stops.log (Err p.fault) (Err q.fault) p.stops.refused there) p.not_memory q.not_memory in
      p.is ∙ (ap (λ (f : ImageFault). let x : Result (List StepLine) ImageFault = Err f in x) same ∙ sym q.is)

  not_both : (a : IsOldWordRead admitted custom tables old) (s : Result (List StepLine) ImageFault) → IsUnread admitted custom tables s → ⊥
  not_both a s (fault, q, is) = read_stopped admitted custom tables files named listed a.systems a.reading a.reads (Err fault) a.sealed a.meant a.read q

  same_step : (f g : StepFault) → (let r : Result (List StepLine) StepFault = Err f in r ≡ Err g) → f ≡ g
  same_step f g same = cc

  both_unread : (r s : Result (List StepLine) ImageFault) → IsUnread admitted custom tables r → IsUnread admitted custom tables s → r ≡ s
  both_unread r s (f, p, is) (g, q, also) =
      let same : f ≡ g = same_step f g (both_stopped admitted custom tables files named listed (Err f) (Err g) p q) in
      is ∙ (ap (λ (x : StepFault). let y : Result (List StepLine) ImageFault = Err (images.Step x) in y) same ∙ sym also)

  imaged_one : (r s : Result (List StepLine) ImageFault) → IsOutcome admitted custom tables old name rules r → IsOutcome admitted custom tables old name rules s → r ≡ s
  imaged_one r s (inl p) (inl q) = both_made r s p q
  imaged_one r s (inl p) (inr (inl q)) = absurd (made_refused r s p q)
  imaged_one r s (inl p) (inr (inr q)) = absurd (not_both p.done.before s q)
  imaged_one r s (inr (inl p)) (inl q) = absurd (made_refused s r q p)
  imaged_one r s (inr (inl p)) (inr (inl q)) = both_refused r s p q
  imaged_one r s (inr (inl p)) (inr (inr q)) = absurd (not_both p.stops.before s q)
  imaged_one r s (inr (inr p)) (inl q) = absurd (not_both q.done.before r p)
  imaged_one r s (inr (inr p)) (inr (inl q)) = absurd (not_both q.stops.before r p)
  imaged_one r s (inr (inr p)) (inr (inr q)) = both_unread r s p q

  imaged_single : IsSingle (Pure (ImagedAnswers admitted custom tables old name rules))
  imaged_single =
      single_so (Pure (ImagedAnswers admitted custom tables old name rules)) (Refusing fault_of_imaging (IsOutcome admitted custom tables old name rules)) (imaged_is admitted custom tables old name rules)
      (refusing_single fault_of_imaging (IsOutcome admitted custom tables old name rules) imaged_one)

pub image_single : (limit : ℕ) (ledger : Ledger) (text : List ℕ) → IsSingle (image_checks limit ledger text)
image_single limit ledger text =
    let custom : Custom = custom_of ledger in
    then_single (Pure (HeadAnswers (DerivesImage (codes "image")) text)) (λ head. after_image_head limit ledger head) (head_single (DerivesImage (codes "image")) (one_head (DerivesImage (codes "image")) (one_image (codes "image"))) text) (λ head spells.
    then_single (morphism_loaded ledger head.mapping) (λ rules. after_image_morphism limit ledger head rules) (loading_single ledger head.mapping) (λ rules read.
    then_single (files_loaded ledger (first_files (old_mentions head.old))) (λ ts. after_old_table limit ledger head rules ts) (files_single ledger (first_files (old_mentions head.old))) (λ ts there.
    then_single (systems_known limit custom (first_systems (headers_of ts) (old_mentions head.old))) (λ admitted. after_old_systems ledger head rules ts admitted) (systems_single limit custom (first_systems (headers_of ts) (old_mentions head.old))) (λ admitted known.
    then_single (Pure (OneTrackAnswers (headers_of ts) head.old)) (λ one. after_one_track ledger head rules ts admitted) (one_track_single (headers_of ts) head.old) (λ one has.
    then_single (Pure (LengthsAnswers rules)) (λ uniform. after_lengths ledger head rules ts admitted) (lengths_single rules (derives_morphisms read.2.text rules read.2.derives)) (λ uniform lengths.
    then_single (Pure (TrackAnswers custom (headers_of ts) head.old)) (λ track. after_track ledger head rules ts admitted track) (tracks_single custom (headers_of ts) head.old) (λ track over.
    then_single (Pure (ImagedAnswers admitted custom ts head.old track.system.name rules)) (λ lines. after_image_steps ledger head rules track lines)
    (imaged_single one_image_outcome admitted custom ts head.old track.system.name rules (derives_morphisms read.2.text rules read.2.derives) there.0 (first_files (old_mentions head.old)) there.2) (λ lines imaged.
    then_single (Pure (OldAnswers ledger head.old)) (λ entry. stored custom (image_success head track rules entry lines)) (old_single ledger head.old) (λ entry is_old.
    stored_single custom (image_success head track rules entry lines))))))))))
