-- One file has one transducer, or one refusal.
use Rattle.std.proofs.Common.{◌≡◌, ℕ, ◌≤◌, List, length, Option, None, Some, Ok, Err, refl, sym, ap, ◌∙◌, subst, arith}
use Rattle.wal_outside.specs.Files.{Files}
use Rattle.wal_outside.specs.declared.folder.Folder.{Folder}
use Rattle.wal_outside.specs.declared.folder.Folder.TheVariants.{Transducers}
use Rattle.wal_outside.specs.declared.store.TheConstants.{TEXT_LIMIT}
use Rattle.transducer_reading.specs.Transducers.{Transducer}
use Rattle.transducer_reading.specs.Reading.{transducer_of}
use Rattle.dfa_loading.specs.declared.fault.FileFlaw.{FileFlaw}
use Rattle.dfa_loading.specs.declared.fault.FileFlaw.TheVariants.{Line, TooLong}
use Rattle.dfa_loading.specs.declared.fault.LoadFault.{LoadFault}
use Rattle.dfa_loading.specs.declared.fault.LoadFault.TheVariants as faults
use Rattle.transducer_loading.specs.TransducerFiles.{HasFlaw, IsTransducerIn, RefusesTransducer, TransducerFilesHaveOneAnswer}

one_text : (there : Option (List ℕ)) (text other : List ℕ) → there ≡ Some text → there ≡ Some other → text ≡ other
one_text there text other is also = let same : Some text ≡ Some other = sym is ∙ also in cc

-- a place is taken or not
none_there : {Z : Type 0} (there : Option (List ℕ)) (text : List ℕ) → there ≡ None → there ≡ Some text → Z
none_there there text none is = let same : None ≡ Some text = sym none ∙ is in cc

-- a text has one flaw
one_flaw : (text : List ℕ) (flaw other : FileFlaw) → HasFlaw text flaw → HasFlaw text other → flaw ≡ other
one_flaw text (Line line) (Line number) has also = let same : Err line ≡ Err number = sym has.1 ∙ also.1 in cc
one_flaw text (Line line) TooLong has also = absurd (omega (arith, has.0, also))
one_flaw text TooLong (Line line) has also = absurd (omega (arith, has, also.0))
one_flaw text TooLong TooLong has also = refl

-- and none where it is short and gives a transducer
no_flaw : {Z : Type 0} (text : List ℕ) (t : Transducer) (flaw : FileFlaw) → length text ≤ TEXT_LIMIT → transducer_of text ≡ Ok t → HasFlaw text flaw → Z
no_flaw text t (Line line) short gives has = let bad : Ok t ≡ Err line = sym gives ∙ has.1 in cc
no_flaw text t TooLong short gives has = absurd (omega (arith, short, has))

module _ (files : Files) (name : List ℕ) where
  one_transducer : (t other : Transducer) → IsTransducerIn files name t → IsTransducerIn files name other → t ≡ other
  one_transducer t other is also =
      let text : is.text ≡ also.text = one_text (files Transducers name) is.text also.text is.there also.there in
      let same : Ok t ≡ Ok other = sym is.gives ∙ ap transducer_of text ∙ also.gives in cc

  -- what is there is not refused
  not_refused : {Z : Type 0} (t : Transducer) (fault : LoadFault) → IsTransducerIn files name t → RefusesTransducer files name fault → Z
  not_refused t (faults.Unknown folder at) is refuses = none_there (files Transducers name) is.text refuses.1 is.there
  not_refused t (faults.File folder at flaw) is refuses =
      let text : refuses.1.0 ≡ is.text = one_text (files Transducers name) refuses.1.0 is.text refuses.1.1 is.there in
      no_flaw is.text t flaw is.short is.gives (subst (λ (t : List ℕ). HasFlaw t flaw) text refuses.1.2)
  not_refused t (faults.Store folder at) is refuses = absurd refuses
  not_refused t faults.Memory is refuses = absurd refuses

  one_refusal : (fault other : LoadFault) → RefusesTransducer files name fault → RefusesTransducer files name other → fault ≡ other
  one_refusal (faults.Unknown folder at) (faults.Unknown other place) refuses also =
      ap (λ (f : Folder). faults.Unknown f at) (refuses.0.0 ∙ sym also.0.0) ∙ ap (λ (n : List ℕ). faults.Unknown other n) (refuses.0.1 ∙ sym also.0.1)
  one_refusal (faults.Unknown folder at) (faults.File other place flaw) refuses also = none_there (files Transducers name) also.1.0 refuses.1 also.1.1
  one_refusal (faults.File folder at flaw) (faults.Unknown other place) refuses also = none_there (files Transducers name) refuses.1.0 also.1 refuses.1.1
  one_refusal (faults.File folder at flaw) (faults.File other place more) refuses also =
      let text : refuses.1.0 ≡ also.1.0 = one_text (files Transducers name) refuses.1.0 also.1.0 refuses.1.1 also.1.1 in
      let same : flaw ≡ more = one_flaw also.1.0 flaw more (subst (λ (t : List ℕ). HasFlaw t flaw) text refuses.1.2) also.1.2 in
      ap (λ (f : Folder). faults.File f at flaw) (refuses.0.0 ∙ sym also.0.0) ∙ (ap (λ (n : List ℕ). faults.File other n flaw) (refuses.0.1 ∙ sym also.0.1) ∙ ap (λ (f : FileFlaw). faults.File other place f) same)
  one_refusal (faults.Unknown folder at) (faults.Store other place) refuses also = absurd also
  one_refusal (faults.Unknown folder at) faults.Memory refuses also = absurd also
  one_refusal (faults.File folder at flaw) (faults.Store other place) refuses also = absurd also
  one_refusal (faults.File folder at flaw) faults.Memory refuses also = absurd also
  one_refusal (faults.Store folder at) other refuses also = absurd refuses
  one_refusal faults.Memory other refuses also = absurd refuses

pub files_have_one_answer : TransducerFilesHaveOneAnswer
files_have_one_answer files name (Ok t) (Ok other) is also = ap Ok (one_transducer files name t other is also)
files_have_one_answer files name (Ok t) (Err fault) is also = not_refused files name t fault is also
files_have_one_answer files name (Err fault) (Ok t) is also = not_refused files name t fault also is
files_have_one_answer files name (Err fault) (Err other) is also = ap Err (one_refusal files name fault other is also)
