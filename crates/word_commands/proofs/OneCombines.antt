-- A `combine` has one outcome.
use Rattle.std.proofs.Common.{◌≡◌, ◌≢◌, ◌⊎◌, ℕ, suc, List, [], ◌∷◌, length, pos, None, Some, Result, Ok, Err, inl, inr, refl, sym, ap, ◌∙◌, subst, arith}
use Rattle.std.specs.List.{AllByRecursion}
use Rattle.wal_outside.specs.Files.{Files}
use Rattle.combinations.specs.Combined.{AreSystemsFor}
use Rattle.automaton_steps.proofs.AnswerCases.{memory_alone, one_value, same_fault}
use Rattle.automaton_steps.specs.Makings.{DoesStep}
use Rattle.combinations.specs.CombineSteps.{combine_step}
use Rattle.combinations.specs.Parts.{PartValue}
use Rattle.combinations.proofs.OutcomeLemmas.{step_outcome}
use Rattle.command_head.specs.Grammar.{DerivesCombine}
use Rattle.command_head.specs.Heads.{ValuedName}
use Rattle.command_head.proofs.CombineHeads.{one_combine}
use Rattle.command_head.proofs.OneFault.{one_head}
use Rattle.digit_tuple.specs.Steps.{StepLog}
use Rattle.digit_tuple.specs.declared.direction.Direction.{Direction}
use Rattle.digit_tuple.specs.declared.step_fault.StepFault.{StepFault}
use Rattle.digit_tuple.specs.declared.step_fault.StepFault.TheVariants as steps
use Rattle.digit_tuple.specs.declared.steps.StepLine.{StepLine}
use Rattle.dfa_loading.specs.Headers.{headers_of}
use Rattle.dfa_loading.specs.Loading.{AreListedBy}
use Rattle.dfa_loading.specs.declared.loaded.Loaded.{Loaded}
use Rattle.plan_relations.specs.Libraries.{NamedRelation}
use Rattle.formula_resolve.specs.Headers.{Headers, automaton_tracks}
use Rattle.formula_resolve.specs.declared.file.File.{File}
use Rattle.num_system.specs.Sealed.{SystemValue}
use Rattle.system_files.specs.SystemFiles.{Custom}
use Rattle.word_output.specs.Words.{WordValue}
use Rattle.definitions.proofs.NameLemmas.{one_meaning}
use Rattle.definitions.specs.Named.{AreNamed, IsSystemNamed}
use Rattle.definitions.specs.Tracks as tracks
use Rattle.definitions.specs.Tracks.{names_of}
use Rattle.definitions.specs.Trees.{Ledger, custom_of}
use Rattle.command_parts.specs.declared.shape_refusal.ShapeRefusal.TheVariants as shape_refusals
use Rattle.command_parts.specs.declared.refusal.Refusal.{Refusal}
use Rattle.command_parts.specs.declared.refusal.Refusal.TheVariants as refusals
use Rattle.command_parts.specs.Accepting.{stored}
use Rattle.command_parts.specs.Checks.{Pure, IsSingle}
use Rattle.word_commands.specs.CombineOutcomes.{WordTracks, PlainAnswers, ShapeAnswers, CombinedAnswers, AreTracksOfFirst, HaveSystemsOfFirst, HaveShapeFault, IsFirstOver, first_plain, listed_files, listed_names, listed_systems, after_listed_systems, after_listed_tables, after_combine_head, combine_checks}
use Rattle.word_commands.specs.CombineSteps.{ArePartsFrom, AreListedParts, AreCombineSteps, IsCombiningStopped}
use Rattle.command_parts.specs.FileChecks.{files_loaded}
use Rattle.command_parts.specs.HeadAnswers.{HeadAnswers}
use Rattle.command_parts.specs.SystemChecks.{systems_known}
use Rattle.command_parts.specs.TableReads.{TableRead, relations_in}
use Rattle.command_parts.specs.TrackSystems.{fault_of}
use Rattle.word_commands.proofs.CombineCheckNames.{WordTracksAnswers, combine_success, after_combined, after_shape, after_plain}
use Rattle.command_parts.proofs.CheckSteps.{then_single, single_so}
use Rattle.command_parts.proofs.OneHeads.{head_single}
use Rattle.command_parts.proofs.OneLoadings.{files_single}
use Rattle.command_parts.proofs.OneMeantReadings.{IsStopped, stopped_by, same_reading, read_stopped, both_stopped}
use Rattle.command_parts.proofs.OneSystems.{systems_single}
use Rattle.command_parts.proofs.OneTexts.{stored_single}
use Rattle.command_parts.proofs.RefusingSteps.{no_memory, refusing_single}
use Rattle.command_parts.specs.RefusingChecks.{Refusing}

-- none is over sets, or one is the first
abbrev IsPlainAnswer : Headers → List (List ℕ) → Result (Unit {0}) Refusal → Type 0
IsPlainAnswer h names r = ((first_plain h names ≡ None) × (r ≡ Ok tt)) ⊎ ((name : List ℕ) × (first_plain h names ≡ Some name) × (r ≡ Err (refusals.Shape (shape_refusals.Plain name))))

plain_is : (h : Headers) (names : List (List ℕ)) (r : Result (Unit {0}) Refusal) → PlainAnswers h names r → IsPlainAnswer h names r
plain_is h names (Ok none) a = inl (a, refl)
plain_is h names (Err refusal) (name, is, some) = inr (name, some, ap (λ (why : Refusal). let x : Result (Unit {0}) Refusal = Err why in x) is)

plain_single : (h : Headers) (names : List (List ℕ)) → IsSingle (Pure (PlainAnswers h names))
plain_single h names r s a b = by (plain_is h names r a) (plain_is h names s b)
  where
    by : IsPlainAnswer h names r → IsPlainAnswer h names s → r ≡ s
    by (inl (none, is)) (inl (none', is')) = is ∙ sym is'
    by (inl (none, is)) (inr (name, some, is')) = let no : None ≡ Some name = sym none ∙ some in absurd cc
    by (inr (name, some, is)) (inl (none, is')) = let no : None ≡ Some name = sym none ∙ some in absurd cc
    by (inr (name, some, is)) (inr (other, some', is')) =
        let both : Some name ≡ Some other = sym some ∙ some' in
        let same : name ≡ other = cc in
        is ∙ (ap (λ (n : List ℕ). let x : Result (Unit {0}) Refusal = Err (refusals.Shape (shape_refusals.Plain n)) in x) same ∙ sym is')

-- all have one shape, or two have not
abbrev IsShapeAnswer : Headers → List (List ℕ) → Result (Unit {0}) Refusal → Type 0
IsShapeAnswer h names r = (HaveSystemsOfFirst h names × (r ≡ Ok tt)) ⊎ ((first : List ℕ) × (other : List ℕ) × HaveShapeFault h names first other × (r ≡ Err (refusals.Shape (shape_refusals.CombineShape first other))))

shape_is : (h : Headers) (names : List (List ℕ)) (r : Result (Unit {0}) Refusal) → ShapeAnswers h names r → IsShapeAnswer h names r
shape_is h names (Ok one) a = inl (a, refl)
shape_is h names (Err refusal) (first, other, is, a) = inr (first, other, a, ap (λ (why : Refusal). let x : Result (Unit {0}) Refusal = Err why in x) is)

module _ (h : Headers) (systems : List (List ℕ)) where
  one_other : (names : List (List ℕ)) (other also : List ℕ) → IsFirstOver h systems names other → IsFirstOver h systems names also → other ≡ also
  one_other [] other also a b = absurd a
  one_other (name ∷ names) other also (inl (apart, is)) (inl (apart', is')) = is ∙ sym is'
  one_other (name ∷ names) other also (inl (apart, is)) (inr (same, rest)) = absurd (apart same)
  one_other (name ∷ names) other also (inr (same, rest)) (inl (apart, is)) = absurd (apart same)
  one_other (name ∷ names) other also (inr (same, rest)) (inr (same', rest')) = one_other names other also rest rest'

  none_other : (names : List (List ℕ)) (other : List ℕ) → AllByRecursion (λ name. automaton_tracks h name ≡ systems) names → IsFirstOver h systems names other → ⊥
  none_other [] other all a = a
  none_other (name ∷ names) other all (inl (apart, is)) = apart all.0
  none_other (name ∷ names) other all (inr (same, rest)) = none_other names other all.1 rest

not_shaped : (h : Headers) (names : List (List ℕ)) (first other : List ℕ) → HaveSystemsOfFirst h names → HaveShapeFault h names first other → ⊥
not_shaped h [] first other one a = one
not_shaped h (name ∷ names) first other one (is, inl (none, also)) = one.0 none
not_shaped h (name ∷ names) first other one (is, inr (some, over)) = none_other h (automaton_tracks h name) names other one.1 over

one_shape_fault : (h : Headers) (names : List (List ℕ)) (first other first' other' : List ℕ) → HaveShapeFault h names first other → HaveShapeFault h names first' other' → (first ≡ first') × (other ≡ other')
one_shape_fault h [] first other first' other' a b = absurd a
one_shape_fault h (name ∷ names) first other first' other' (is, inl (none, also)) (is', inl (none', also')) = (is ∙ sym is', also ∙ sym also')
one_shape_fault h (name ∷ names) first other first' other' (is, inl (none, also)) (is', inr (some, over)) = absurd (some none)
one_shape_fault h (name ∷ names) first other first' other' (is, inr (some, over)) (is', inl (none, also)) = absurd (some none)
one_shape_fault h (name ∷ names) first other first' other' (is, inr (some, over)) (is', inr (some', over')) = (is ∙ sym is', one_other h (automaton_tracks h name) names other other' over over')

shape_single : (h : Headers) (names : List (List ℕ)) → IsSingle (Pure (ShapeAnswers h names))
shape_single h names r s a b = by (shape_is h names r a) (shape_is h names s b)
  where
    by : IsShapeAnswer h names r → IsShapeAnswer h names s → r ≡ s
    by (inl (one, is)) (inl (one', is')) = is ∙ sym is'
    by (inl (one, is)) (inr (first, other, apart, is')) = absurd (not_shaped h names first other one apart)
    by (inr (first, other, apart, is)) (inl (one, is')) = absurd (not_shaped h names first other one apart)
    by (inr (first, other, apart, is)) (inr (first', other', apart', is')) =
        let same = one_shape_fault h names first other first' other' apart apart' in
        let same_faults : (let x : Result (Unit {0}) Refusal = Err (refusals.Shape (shape_refusals.CombineShape first other)) in x) ≡ Err (refusals.Shape (shape_refusals.CombineShape first' other')) = λ i. Err (refusals.Shape (shape_refusals.CombineShape (same.0 i) (same.1 i))) in
        is ∙ (same_faults ∙ sym is')

-- systems that names mean are determined by the names, and some determine their direction
one_named : (custom : Custom) (direction direction' : Direction) (xs ys : List tracks.NamedSystem) → names_of xs ≡ names_of ys → AreNamed custom direction xs → AreNamed custom direction' ys → xs ≡ ys
one_named custom direction direction' [] [] same a b = refl
one_named custom direction direction' [] (y ∷ ys) same a b = let e : 0 ≡ suc (length (names_of ys)) = ap length same in absurd (omega (arith, e))
one_named custom direction direction' (x ∷ xs) [] same a b = let e : suc (length (names_of xs)) ≡ 0 = ap length same in absurd (omega (arith, e))
one_named custom direction direction' (x ∷ xs) (y ∷ ys) same a b =
    let both : (x.name ∷ names_of xs) ≡ (y.name ∷ names_of ys) = same in
    let name : x.name ≡ y.name = cc in
    let names : names_of xs ≡ names_of ys = cc in
    let moved : IsSystemNamed custom y.name direction x.system = subst (λ (n : List ℕ). IsSystemNamed custom n direction x.system) name a.0 in
    let system : x.system ≡ y.system = (one_meaning custom y.name direction direction' x.system y.system moved b.0).1 in
    let rest : xs ≡ ys = one_named custom direction direction' xs ys names a.1 b.1 in
    λ i. record { name = name i; system = system i } ∷ rest i

shared_direction : (custom : Custom) (direction direction' : Direction) (xs : List tracks.NamedSystem) → names_of xs ≢ [] → AreNamed custom direction xs → AreNamed custom direction' xs → direction ≡ direction'
shared_direction custom direction direction' [] some a b = absurd (some refl)
shared_direction custom direction direction' (x ∷ xs) some a b = (one_meaning custom x.name direction direction' x.system x.system a.0 b.0).0

one_tracks : (custom : Custom) (h : Headers) (names : List (List ℕ)) (ts us : WordTracks) → HaveSystemsOfFirst h names → AreTracksOfFirst custom h names ts → AreTracksOfFirst custom h names us → ts ≡ us
one_tracks custom h [] ts us one a b = absurd one
one_tracks custom h (name ∷ names) ts us one (is, are) (is', are') =
    let named : ts.named ≡ us.named = one_named custom ts.direction us.direction ts.named us.named (sym is ∙ is') are are' in
    let some : names_of us.named ≢ [] = λ none. one.0 (is' ∙ none) in
    let direction : ts.direction ≡ us.direction = shared_direction custom ts.direction us.direction us.named some (subst (AreNamed custom ts.direction) named are) are' in
    λ i. record { direction = direction i; named = named i }

tracks_is : (custom : Custom) (h : Headers) (names : List (List ℕ)) (r : Result WordTracks Refusal) → WordTracksAnswers custom h names r → (ts : WordTracks) × AreTracksOfFirst custom h names ts × (r ≡ Ok ts)
tracks_is custom h names (Ok ts) a = (ts, a, refl)
tracks_is custom h names (Err fault) a = absurd a

tracks_single : (custom : Custom) (h : Headers) (names : List (List ℕ)) → HaveSystemsOfFirst h names → IsSingle (Pure (WordTracksAnswers custom h names))
tracks_single custom h names shape r s a b =
    let one = tracks_is custom h names r a in
    let other = tracks_is custom h names s b in
    one.2 ∙ (ap (λ (ts : WordTracks). let x : Result WordTracks Refusal = Ok ts in x) (one_tracks custom h names one.0 other.0 shape one.1 other.1) ∙ sym other.2)

-- names determine the relations of listed automata
one_parts : (relations : List NamedRelation) (place : ℕ) (automata : List ValuedName) (ps qs : List PartValue) → ArePartsFrom relations place automata ps → ArePartsFrom relations place automata qs → ps ≡ qs
one_parts relations place [] [] [] a b = refl
one_parts relations place [] [] (q ∷ qs) a b = absurd b
one_parts relations place [] (p ∷ ps) qs a b = absurd a
one_parts relations place (v ∷ automata) [] qs a b = absurd a
one_parts relations place (v ∷ automata) (p ∷ ps) [] a b = absurd b
one_parts relations place (v ∷ automata) (p ∷ ps) (q ∷ qs) (is, value, rest) (is', value', rest') =
    let both : Some p.relation ≡ Some q.relation = sym is ∙ is' in
    let relation : p.relation ≡ q.relation = cc in
    let letter : p.value ≡ q.value = value ∙ sym value' in
    let others : ps ≡ qs = one_parts relations (suc place) automata ps qs rest rest' in
    λ i. record { relation = relation i; value = letter i } ∷ others i

one_systems : (relations : List NamedRelation) (automata : List ValuedName) (ps : List PartValue) (ss ts : List SystemValue) → automata ≢ [] → ArePartsFrom relations 0 automata ps → AreSystemsFor ps ss → AreSystemsFor ps ts → ss ≡ ts
one_systems relations [] ps ss ts some are a b = absurd (some refl)
one_systems relations (v ∷ automata) [] ss ts some are a b = absurd are
one_systems relations (v ∷ automata) (p ∷ ps) ss ts some are a b = a ∙ sym b

record IsWordMade (admitted : StepLog) (custom : Custom) (tables : List Loaded) (automata : List ValuedName) (r : Result (List StepLine) StepFault) : Type 0 where
  word : WordValue
  lines : List StepLine
  done : AreCombineSteps admitted custom tables automata word lines
  is : r ≡ Ok lines

record IsWordRefused (admitted : StepLog) (custom : Custom) (tables : List Loaded) (automata : List ValuedName) (r : Result (List StepLine) StepFault) : Type 0 where
  fault : StepFault
  not_memory : fault ≢ steps.Memory
  stops : IsCombiningStopped admitted custom tables automata fault
  is : r ≡ Err fault

-- a word is made, or its step is refused, or the tables are not read
abbrev IsOutcome : StepLog → Custom → List Loaded → List ValuedName → Result (List StepLine) StepFault → Type 0
IsOutcome admitted custom tables automata r = IsWordMade admitted custom tables automata r ⊎ (IsWordRefused admitted custom tables automata r ⊎ IsStopped admitted custom tables r)

combined_is : (admitted : StepLog) (custom : Custom) (tables : List Loaded) (automata : List ValuedName) (r : Result (List StepLine) Refusal) → CombinedAnswers admitted custom tables automata r → (Refusing fault_of (IsOutcome admitted custom tables automata)).answers r
combined_is admitted custom tables automata (Ok lines) (word, a) = inl (record { word = word; lines = lines; done = a; is = refl })
combined_is admitted custom tables automata (Err refusal) (fault, is, inl a) = (fault, is, inr (inr (stopped_by admitted custom tables fault (no_memory fault_of steps.Memory refl fault refusal is) a)))
combined_is admitted custom tables automata (Err refusal) (fault, is, inr a) = (fault, is, inr (inl (record { fault = fault; not_memory = no_memory fault_of steps.Memory refl fault refusal is; stops = a; is = refl })))

module _ (admitted : StepLog) (custom : Custom) (tables : List Loaded) (automata : List ValuedName) (files : Files) (named : List File) (listed : AreListedBy files named tables) (some : automata ≢ []) where
  -- the relations and what is before the last step are the same
  record AreSame (a b : AreListedParts admitted custom tables automata) : Type 0 where
    reading : a.reading ≡ b.reading
    parts : a.parts ≡ b.parts
    tracks_same : a.tracks ≡ b.tracks

  same_before : (a b : AreListedParts admitted custom tables automata) → AreSame a b
  same_before a b =
      let read : (a.reads ≡ b.reads) × (a.reading ≡ b.reading) =
      same_reading admitted custom tables files named listed a.systems b.systems a.reading b.reading a.reads b.reads a.sealed a.meant b.sealed b.meant a.read b.read in
      let there : ArePartsFrom (relations_in a.reads) 0 automata b.parts = subst (λ (rs : List TableRead). ArePartsFrom (relations_in rs) 0 automata b.parts) (sym read.0) b.parts_are in
      let parts : a.parts ≡ b.parts = one_parts (relations_in a.reads) 0 automata a.parts b.parts a.parts_are there in
      let tracks_of : AreSystemsFor a.parts b.tracks = subst (λ (ps : List PartValue). AreSystemsFor ps b.tracks) (sym parts) b.tracks_are in
      record { reading = read.1; parts = parts; tracks_same = one_systems (relations_in a.reads) automata a.parts a.tracks b.tracks some a.parts_are a.tracks_are tracks_of }

  -- what is said of what is before the one last step holds of the other
  moved : (P : StepLog → List PartValue → List SystemValue → Type 0) (a b : AreListedParts admitted custom tables automata) → P b.reading b.parts b.tracks → P a.reading a.parts a.tracks
  moved P a b p =
      let same : AreSame a b = same_before a b in
      subst (λ (ts : List SystemValue). P a.reading a.parts ts) (sym same.tracks_same) (subst (λ (ps : List PartValue). P a.reading ps b.tracks) (sym same.parts) (subst (λ (old : StepLog). P old b.parts b.tracks) (sym same.reading) p))

  both_made : (r s : Result (List StepLine) StepFault) → IsWordMade admitted custom tables automata r → IsWordMade admitted custom tables automata s → r ≡ s
  both_made r s p q =
      let a = p.done.before in
      let b = q.done.before in
      let there = moved (λ old ps ts. DoesStep (combine_step (Some (pos 0)) ps ts) old (Ok q.word) q.done.log) a b q.done.done in
      let same : p.done.log ≡ q.done.log = (one_value steps.Memory p.done.log q.done.log p.word q.word
      (step_outcome (Some (pos 0)) a.parts a.tracks a.reading p.done.log q.done.log (Ok p.word) (Ok q.word) p.done.done there)).1 in
      let lines : p.lines ≡ q.lines = p.done.lines_are ∙ (ap (λ (log : StepLog). log.lines) same ∙ sym q.done.lines_are) in
      p.is ∙ (ap (λ (ls : List StepLine). let x : Result (List StepLine) StepFault = Ok ls in x) lines ∙ sym q.is)

  made_refused : (r s : Result (List StepLine) StepFault) → IsWordMade admitted custom tables automata r → IsWordRefused admitted custom tables automata s → ⊥
  made_refused r s p q =
      let a = p.done.before in
      let b = q.stops.before in
      let there = moved (λ old ps ts. DoesStep (combine_step (Some (pos 0)) ps ts) old (Err q.fault) q.stops.log) a b q.stops.refused in
      q.not_memory (memory_alone steps.Memory p.done.log q.stops.log p.word q.fault (step_outcome (Some (pos 0)) a.parts a.tracks a.reading p.done.log q.stops.log (Ok p.word) (Err q.fault) p.done.done there))

  both_refused : (r s : Result (List StepLine) StepFault) → IsWordRefused admitted custom tables automata r → IsWordRefused admitted custom tables automata s → r ≡ s
  both_refused r s p q =
      let a = p.stops.before in
      let b = q.stops.before in
      let there = moved (λ old ps ts. DoesStep (combine_step (Some (pos 0)) ps ts) old (Err q.fault) q.stops.log) a b q.stops.refused in
      let same : p.fault ≡ q.fault =
      same_fault steps.Memory p.stops.log q.stops.log p.fault q.fault (step_outcome (Some (pos 0)) a.parts a.tracks a.reading p.stops.log q.stops.log (Err p.fault) (Err q.fault) p.stops.refused there) p.not_memory q.not_memory in
      p.is ∙ (ap (λ (f : StepFault). let x : Result (List StepLine) StepFault = Err f in x) same ∙ sym q.is)

  not_both : (a : AreListedParts admitted custom tables automata) (s : Result (List StepLine) StepFault) → IsStopped admitted custom tables s → ⊥
  not_both a s q = read_stopped admitted custom tables files named listed a.systems a.reading a.reads s a.sealed a.meant a.read q

  combined_one : (r s : Result (List StepLine) StepFault) → IsOutcome admitted custom tables automata r → IsOutcome admitted custom tables automata s → r ≡ s
  combined_one r s (inl p) (inl q) = both_made r s p q
  combined_one r s (inl p) (inr (inl q)) = absurd (made_refused r s p q)
  combined_one r s (inl p) (inr (inr q)) = absurd (not_both p.done.before s q)
  combined_one r s (inr (inl p)) (inl q) = absurd (made_refused s r q p)
  combined_one r s (inr (inl p)) (inr (inl q)) = both_refused r s p q
  combined_one r s (inr (inl p)) (inr (inr q)) = absurd (not_both p.stops.before s q)
  combined_one r s (inr (inr p)) (inl q) = absurd (not_both q.done.before r p)
  combined_one r s (inr (inr p)) (inr (inl q)) = absurd (not_both q.stops.before r p)
  combined_one r s (inr (inr p)) (inr (inr q)) = both_stopped admitted custom tables files named listed r s p q

  combined_single : IsSingle (Pure (CombinedAnswers admitted custom tables automata))
  combined_single =
      single_so (Pure (CombinedAnswers admitted custom tables automata)) (Refusing fault_of (IsOutcome admitted custom tables automata)) (combined_is admitted custom tables automata) (refusing_single fault_of (IsOutcome admitted custom tables automata) combined_one)

some_listed : (h : Headers) (automata : List ValuedName) → HaveSystemsOfFirst h (listed_names automata) → automata ≢ []
some_listed h [] one = absurd one
some_listed h (v ∷ automata) one = λ none. let e : suc (length automata) ≡ 0 = ap length none in omega (arith, e)

pub combine_single : (limit : ℕ) (ledger : Ledger) (text : List ℕ) → IsSingle (combine_checks limit ledger text)
combine_single limit ledger text =
    let custom : Custom = custom_of ledger in
    then_single (Pure (HeadAnswers DerivesCombine text)) (λ head. after_combine_head limit ledger head) (head_single DerivesCombine (one_head DerivesCombine one_combine) text) (λ head spells.
    then_single (files_loaded ledger (listed_files head.automata)) (λ ts. after_listed_tables limit ledger head ts) (files_single ledger (listed_files head.automata)) (λ ts there.
    then_single (systems_known limit custom (listed_systems ts head.automata)) (λ admitted. after_listed_systems ledger head ts admitted) (systems_single limit custom (listed_systems ts head.automata)) (λ admitted known.
    then_single (Pure (PlainAnswers (headers_of ts) (listed_names head.automata))) (λ none. after_plain ledger head ts admitted) (plain_single (headers_of ts) (listed_names head.automata)) (λ none plain.
    then_single (Pure (ShapeAnswers (headers_of ts) (listed_names head.automata))) (λ one. after_shape ledger head ts admitted) (shape_single (headers_of ts) (listed_names head.automata)) (λ one shape.
    then_single (Pure (CombinedAnswers admitted custom ts head.automata)) (λ lines. after_combined ledger head ts lines) (combined_single admitted custom ts head.automata there.0 (listed_files head.automata) there.2 (some_listed (headers_of ts) head.automata shape)) (λ lines combined.
    then_single (Pure (WordTracksAnswers custom (headers_of ts) (listed_names head.automata))) (λ over. stored custom (combine_success ledger head over lines)) (tracks_single custom (headers_of ts) (listed_names head.automata) shape) (λ over are.
    stored_single custom (combine_success ledger head over lines))))))))
