-- One file has one morphism, or one refusal.
use Rattle.std.proofs.Common.{◌≡◌, inl, inr, ℕ, ◌≤◌, List, length, Option, None, Some, Ok, Err, refl, sym, ap, ◌∙◌, subst, arith}
use Rattle.wal_outside.specs.Files.{Files}
use Rattle.wal_outside.specs.declared.folder.Folder.{Folder}
use Rattle.wal_outside.specs.declared.folder.Folder.TheVariants.{Morphisms}
use Rattle.wal_outside.specs.declared.store.TheConstants.{TEXT_LIMIT}
use Rattle.morph_words.specs.declared.fault.RulesFault.TheVariants.{Syntax, Number, Memory}
use Rattle.morph_words.specs.Faults.{Parses}
use Rattle.morph_words.specs.Laws.{OneAnswer}
use Rattle.morph_words.specs.Rules.{Rules}
use Rattle.dfa_loading.specs.declared.fault.FileFlaw.{FileFlaw}
use Rattle.dfa_loading.specs.declared.fault.FileFlaw.TheVariants.{Line, TooLong}
use Rattle.dfa_loading.specs.declared.fault.LoadFault.{LoadFault}
use Rattle.dfa_loading.specs.declared.fault.LoadFault.TheVariants as faults
use Rattle.morphism_loading.specs.MorphismFiles.{line_at, IsBrokenAt, HasFlaw, IsMorphismIn, RefusesMorphism, MorphismFilesHaveOneAnswer}

one_text : (there : Option (List ℕ)) (text other : List ℕ) → there ≡ Some text → there ≡ Some other → text ≡ other
one_text there text other is also = let same : Some text ≡ Some other = sym is ∙ also in cc

-- a place is taken or not
none_there : {Z : Type 0} (there : Option (List ℕ)) (text : List ℕ) → there ≡ None → there ≡ Some text → Z
none_there there text none is = let same : None ≡ Some text = sym none ∙ is in cc

module _ (one : OneAnswer) where
  -- a text has one morphism
  one_derived : (text : List ℕ) (rules more : Rules) → Parses text (Ok rules) → Parses text (Ok more) → rules ≡ more
  one_derived text rules more p q = let e : Ok rules ≡ Ok more = one text (Ok rules) (Ok more) p q (λ n. cc) (λ n. cc) in cc

  -- and then it has no faulty byte
  not_broken : {Z : Type 0} (text : List ℕ) (rules : Rules) (at : ℕ) → Parses text (Ok rules) → IsBrokenAt text at → Z
  not_broken text rules at p (inl q) = let e : Ok rules ≡ Err (Syntax at) = one text (Ok rules) (Err (Syntax at)) p q (λ n. cc) (λ n. cc) in cc
  not_broken text rules at p (inr q) = let e : Ok rules ≡ Err (Number at) = one text (Ok rules) (Err (Number at)) p q (λ n. cc) (λ n. cc) in cc

  -- it has one first faulty byte
  one_byte : (text : List ℕ) (at place : ℕ) → IsBrokenAt text at → IsBrokenAt text place → at ≡ place
  one_byte text at place (inl p) (inl q) = let e : Err (Syntax at) ≡ Err (Syntax place) = one text (Err (Syntax at)) (Err (Syntax place)) p q (λ n. cc) (λ n. cc) in cc
  one_byte text at place (inl p) (inr q) = let e : Err (Syntax at) ≡ Err (Number place) = one text (Err (Syntax at)) (Err (Number place)) p q (λ n. cc) (λ n. cc) in cc
  one_byte text at place (inr p) (inl q) = let e : Err (Number at) ≡ Err (Syntax place) = one text (Err (Number at)) (Err (Syntax place)) p q (λ n. cc) (λ n. cc) in cc
  one_byte text at place (inr p) (inr q) = let e : Err (Number at) ≡ Err (Number place) = one text (Err (Number at)) (Err (Number place)) p q (λ n. cc) (λ n. cc) in cc

  -- a text has one flaw
  one_flaw : (text : List ℕ) (flaw other : FileFlaw) → HasFlaw text flaw → HasFlaw text other → flaw ≡ other
  one_flaw text (Line line) (Line number) has also = ap Line (has.1.2 ∙ ap (line_at text) (one_byte text has.1.0 also.1.0 has.1.1 also.1.1) ∙ sym also.1.2)
  one_flaw text (Line line) TooLong has also = absurd (omega (arith, has.0, also))
  one_flaw text TooLong (Line line) has also = absurd (omega (arith, has, also.0))
  one_flaw text TooLong TooLong has also = refl

  -- and none where it is short and has rules
  no_flaw : {Z : Type 0} (text : List ℕ) (rules : Rules) (flaw : FileFlaw) → length text ≤ TEXT_LIMIT → Parses text (Ok rules) → HasFlaw text flaw → Z
  no_flaw text rules (Line line) short derives has = not_broken text rules has.1.0 derives has.1.1
  no_flaw text rules TooLong short derives has = absurd (omega (arith, short, has))

  module _ (files : Files) (name : List ℕ) where
    one_morphism : (rules more : Rules) → IsMorphismIn files name rules → IsMorphismIn files name more → rules ≡ more
    one_morphism rules more is also =
        let text : is.text ≡ also.text = one_text (files Morphisms name) is.text also.text is.there also.there in
        one_derived also.text rules more (subst (λ (t : List ℕ). Parses t (Ok rules)) text is.derives) also.derives

    -- what is there is not refused
    not_refused : {Z : Type 0} (rules : Rules) (fault : LoadFault) → IsMorphismIn files name rules → RefusesMorphism files name fault → Z
    not_refused rules (faults.Unknown folder at) is refuses = none_there (files Morphisms name) is.text refuses.1 is.there
    not_refused rules (faults.File folder at flaw) is refuses =
        let text : refuses.1.0 ≡ is.text = one_text (files Morphisms name) refuses.1.0 is.text refuses.1.1 is.there in
        no_flaw is.text rules flaw is.short is.derives (subst (λ (t : List ℕ). HasFlaw t flaw) text refuses.1.2)
    not_refused rules (faults.Store folder at) is refuses = absurd refuses
    not_refused rules faults.Memory is refuses = absurd refuses

    one_refusal : (fault other : LoadFault) → RefusesMorphism files name fault → RefusesMorphism files name other → fault ≡ other
    one_refusal (faults.Unknown folder at) (faults.Unknown other place) refuses also =
        ap (λ (f : Folder). faults.Unknown f at) (refuses.0.0 ∙ sym also.0.0) ∙ ap (λ (n : List ℕ). faults.Unknown other n) (refuses.0.1 ∙ sym also.0.1)
    one_refusal (faults.Unknown folder at) (faults.File other place flaw) refuses also = none_there (files Morphisms name) also.1.0 refuses.1 also.1.1
    one_refusal (faults.File folder at flaw) (faults.Unknown other place) refuses also = none_there (files Morphisms name) refuses.1.0 also.1 refuses.1.1
    one_refusal (faults.File folder at flaw) (faults.File other place more) refuses also =
        let text : refuses.1.0 ≡ also.1.0 = one_text (files Morphisms name) refuses.1.0 also.1.0 refuses.1.1 also.1.1 in
        let same : flaw ≡ more = one_flaw also.1.0 flaw more (subst (λ (t : List ℕ). HasFlaw t flaw) text refuses.1.2) also.1.2 in
        ap (λ (f : Folder). faults.File f at flaw) (refuses.0.0 ∙ sym also.0.0) ∙ (ap (λ (n : List ℕ). faults.File other n flaw) (refuses.0.1 ∙ sym also.0.1) ∙ ap (λ (f : FileFlaw). faults.File other place f) same)
    one_refusal (faults.Unknown folder at) (faults.Store other place) refuses also = absurd also
    one_refusal (faults.Unknown folder at) faults.Memory refuses also = absurd also
    one_refusal (faults.File folder at flaw) (faults.Store other place) refuses also = absurd also
    one_refusal (faults.File folder at flaw) faults.Memory refuses also = absurd also
    one_refusal (faults.Store folder at) other refuses also = absurd refuses
    one_refusal faults.Memory other refuses also = absurd refuses

  pub files_have_one_answer : MorphismFilesHaveOneAnswer
  files_have_one_answer files name (Ok rules) (Ok more) is also = ap Ok (one_morphism files name rules more is also)
  files_have_one_answer files name (Ok rules) (Err fault) is also = not_refused files name rules fault is also
  files_have_one_answer files name (Err fault) (Ok rules) is also = not_refused files name rules fault also is
  files_have_one_answer files name (Err fault) (Err other) is also = ap Err (one_refusal files name fault other is also)
