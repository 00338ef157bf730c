-- The image of a word has one outcome.
use Rattle.std.proofs.Common.{◌≡◌, ◌≢◌, ℕ, zero, suc, ◌<ℤ◌, ℤ, pos, List, [], ◌∷◌, get_or, length, None, Some, Result, Ok, Err, ◌⊎◌, inl, inr, refl, sym, ap, ◌∙◌, subst, arith}
use Rattle.std.specs.List.{AllByRecursion}
use Rattle.std.specs.Map.{keys_of}
use Rattle.std.proofs.lemmas.Int.{ints}
use Rattle.std.proofs.lemmas.Option.{same_Some}
use Rattle.digit_tuple.specs.Letters.{IsWord, product}
use Rattle.digit_tuple.specs.StepResults.{Then}
use Rattle.digit_tuple.specs.Steps.{StepLog}
use Rattle.digit_tuple.specs.declared.step_fault.StepFault.{StepFault}
use Rattle.digit_tuple.specs.declared.step_fault.StepFault.TheVariants as faults
use Rattle.automaton_steps.specs.Makings.{DoesStep, Gives, WithSome}
use Rattle.automaton_steps.specs.OneAnswers.{AreOneAnswer, HasOneAnswer}
use Rattle.automaton_steps.proofs.AnswerCases.{memory_alone, one_value, raised_one}
use Rattle.automaton_steps.proofs.ThenAnswers.{gives_one, some_one, then_one}
use Rattle.minimise.proofs.OrderLemmas.{same_in_order}
use Rattle.numeration.specs.Representation.{letters_in, sizes_of}
use Rattle.num_system.specs.Sealed.{IsSealed, SystemValue}
use Rattle.num_system.specs.Tracks.{absent_system, systems_of}
use Rattle.morph_words.specs.Rules.{IsMorphism, Rules}
use Rattle.morph_words.specs.Uniform.{IsImageLength, IsLengthRefused}
use Rattle.morph_words.specs.UniformLaws.{HasOneLength}
use Rattle.morph_words.specs.declared.morphism_kind.MorphismKind.{MorphismKind}
use Rattle.morph_words.proofs.RuleLemmas.{first_least, one_least}
use Rattle.morph_words.proofs.UniformLemmas.{one_length, one_lengths}
use Rattle.word_output.specs.LetterFunctions.{letter_after}
use Rattle.word_output.specs.Words.{IsWordValue, RepresentsPlace, WordValue}
use Rattle.word_output.proofs.LetterEquality.{letter_functions}
use Rattle.word_output.proofs.OptionLemmas.{same_option}
use Rattle.word_output.proofs.PlaceLaws.{letter_of_place, place_of_letter}
use Rattle.number_relations.specs.Relations.{RelationValue}
use Rattle.formula_parse.specs.Tokens.{Name}
use Rattle.plan_relations.specs.Libraries.{AreWords, IsLibrary, LibraryValue, NamedWord, with_word as with_named}
use Rattle.named_systems.specs.NamedSystems.{AreSealed}
use Rattle.formula_build.specs.OneBuilding.{Agree}
use Rattle.formula_build.specs.Solutions.{BuildsFormula}
use Rattle.formula_build.proofs.OneBuildingLemmas.{one_building}
use Rattle.combinations.specs.Parts.{PartValue}
use Rattle.combinations.specs.CombineSteps.{combine_step}
use Rattle.combinations.proofs.OutcomeLemmas.{step_outcome}
use Rattle.word_images.specs.ImageFormula.{word_name}
use Rattle.word_commands.specs.ImageSteps.{DoesImage, DoesLetters, DoesMapped, IsLetterMissing, letter_plan}
use Rattle.word_images.specs.ImageWords.{AreOutputs, IsMapped, IsMissing}
use Rattle.word_commands.specs.OneImage.{ImagesHaveOneOutcome}
use Rattle.word_images.specs.Recoded.{IsRecoded}
use Rattle.word_commands.specs.RecodedWords.{AreRecoded, IsImageLibrary}
use Rattle.word_commands.specs.declared.image_fault.ImageFault.TheVariants.{Morphism, Missing, Step}

module _ (rules : Rules) (word : WordValue) where
  -- the recoded word of a place is one
  carried : (r : ℕ) (u v : WordValue) → IsRecoded rules word r u → IsRecoded rules word r v → (w : List ℕ) → IsWord (letters_in (systems_of u.systems)) w → (b : ℤ) → letter_after u.function w ≡ Some b → letter_after v.function w ≡ Some b
  carried r u v one two w over b has =
      let place = place_of_letter u w b one.word_is over has in
      let same : u.systems ≡ v.systems = one.systems ∙ sym two.systems in
      letter_of_place v place.0 w b two.word_is (subst (λ (ss : List SystemValue). RepresentsPlace ss place.0 w) same place.1) ((two.letters place.0 b).1 ((one.letters place.0 b).0 place.2))

  one_recoded : (r : ℕ) (u v : WordValue) → IsRecoded rules word r u → IsRecoded rules word r v → u ≡ v
  one_recoded r u v one two = λ i. record { systems = same i; function = functions i }
    where
      same : u.systems ≡ v.systems
      same = one.systems ∙ sym two.systems

      functions : u.function ≡ v.function
      functions =
          letter_functions u.function v.function one.word_is.function two.word_is.function (one.word_is.sizes ∙ ap (λ (ss : List SystemValue). sizes_of (systems_of ss)) same ∙ sym two.word_is.sizes)
          (λ w over.
          let here : IsWord (letters_in (systems_of u.systems)) w = subst (λ (ss : List ℕ). IsWord (product ss) w) one.word_is.sizes over in
          let there : IsWord (letters_in (systems_of v.systems)) w = subst (λ (ss : List SystemValue). IsWord (letters_in (systems_of ss)) w) same here in
          same_option (letter_after u.function w) (letter_after v.function w) (λ b. (carried r u v one two w here b, carried r v u two one w there b)))

  one_words : (n : ℕ) (ws us : List NamedWord) → AreRecoded rules word n ws → AreRecoded rules word n us → ws ≡ us
  one_words zero ws us one two = one ∙ sym two
  one_words (suc n) ws us (prefix, u, before, is, all) (other, v, earlier, also, whole) = all ∙ (λ i. with_named (one_words n prefix other before earlier i) (word_name n) (one_recoded n u v is also i)) ∙ sym whole

  one_library : (s : Name) (k : ℕ) (l m : LibraryValue) → IsImageLibrary rules word s k l → IsImageLibrary rules word s k m → l ≡ m
  one_library s k l m one two = λ i. record {
    relations = (one.relations ∙ sym two.relations) i;
    words = one_words k l.words m.words one.words two.words i;
    systems = (one.systems ∙ sym two.systems) i;
  }

  words_are : (n : ℕ) (ws : List NamedWord) → AreRecoded rules word n ws → AreWords ws
  words_are zero ws none = subst AreWords (sym none) tt
  words_are (suc n) ws (prefix, u, before, is, all) = subst AreWords (sym all) (pushed prefix (word_name n) u (words_are n prefix before) is.word_is)
    where
      pushed : (xs : List NamedWord) (nm : Name) (v : WordValue) → AreWords xs → IsWordValue v → AreWords (with_named xs nm v)
      pushed [] nm v are last = (last, tt)
      pushed (x ∷ xs) nm v are last = (are.0, pushed xs nm v are.1 last)

  first_sealed : (ss : List SystemValue) → AllByRecursion IsSealed ss → length ss ≢ 0 → IsSealed (get_or ss 0 absent_system)
  first_sealed [] sealed some = absurd (some refl)
  first_sealed (x ∷ xs) sealed some = sealed.0

  library_is : (s : Name) (k : ℕ) (l : LibraryValue) → IsWordValue word → IsImageLibrary rules word s k l → IsLibrary l
  library_is s k l is library = record {
    relations = subst (AllByRecursion _) (sym library.relations) tt;
    words = words_are k l.words library.words;
    systems = subst AreSealed (sym library.systems) (first_sealed word.systems is.sealed (λ none. omega (arith, none, is.some)), tt);
  }

  one_outputs : (xs ys : List ℤ) → AreOutputs rules word xs → AreOutputs rules word ys → xs ≡ ys
  one_outputs xs ys one two =
      same_in_order (λ b c. b <ℤ c) (λ b c less more. omega (arith, ints, less, more)) xs ys one.ascending two.ascending (λ b at. (two.members b).1 ((one.members b).0 at)) (λ b at. (one.members b).1 ((two.members b).0 at))

-- a letter's relation before those of others
abbrev with_letter : ℤ → RelationValue → List PartValue → List PartValue
with_letter b relation parts = record { relation = relation; value = b } ∷ parts

-- the steps of the letters, and the one that combines their relations
abbrev DoesCombined : LibraryValue → Name → ℕ → WordValue → List ℤ → StepLog → Result WordValue StepFault → StepLog → Type 0
DoesCombined l s k word letters = Then (DoesLetters l s k letters) (λ parts. DoesStep (combine_step None parts word.systems))

module _ (l : LibraryValue) (is : IsLibrary l) (s : Name) (k : ℕ) where
  agree : Agree l l
  agree = record { relations = refl; words = refl; systems = λ y a b first second. same_Some a b (sym first ∙ second) }

  letter_one : (b : ℤ) → HasOneAnswer faults.Memory (BuildsFormula l (letter_plan s k b))
  letter_one b old new next result other one two = one_building l l old new next (letter_plan s k b) result other is is agree one two

  letters_one : (bs : List ℤ) → HasOneAnswer faults.Memory (DoesLetters l s k bs)
  letters_one [] = gives_one []
  letters_one (b ∷ bs) =
      then_one faults.Memory (BuildsFormula l (letter_plan s k b)) (λ relation. Then (DoesLetters l s k bs) (λ parts. Gives (with_letter b relation parts))) (letter_one b)
      (λ relation. then_one faults.Memory (DoesLetters l s k bs) (λ parts. Gives (with_letter b relation parts)) (letters_one bs) (λ parts. gives_one (with_letter b relation parts)))

  combined_one : (word : WordValue) (letters : List ℤ) → HasOneAnswer faults.Memory (DoesCombined l s k word letters)
  combined_one word letters = then_one faults.Memory (DoesLetters l s k letters) (λ parts. DoesStep (combine_step None parts word.systems)) (letters_one letters) (λ parts. step_outcome None parts word.systems)

module _ (rules : Rules) (word : WordValue) (s : Name) (is : IsWordValue word) where
  abbrev DoesOver : ℕ → LibraryValue → StepLog → Result WordValue StepFault → StepLog → Type 0
  DoesOver k l = WithSome (AreOutputs rules word) (λ letters. DoesCombined l s k word letters)

  over_one : (k : ℕ) (l : LibraryValue) → IsImageLibrary rules word s k l → HasOneAnswer faults.Memory (DoesOver k l)
  over_one k l library = some_one (AreOutputs rules word) (λ letters. DoesCombined l s k word letters) (one_outputs rules word) (λ letters. combined_one l (library_is rules word s k l is library) s k word letters)

  library_one : (k : ℕ) → HasOneAnswer faults.Memory (WithSome (IsImageLibrary rules word s k) (DoesOver k))
  library_one k old new next result other (inl out) b = inr (inl out)
  library_one k old new next result other (inr a) (inl out) = inr (inr out)
  library_one k old new next result other (inr (l, library, done)) (inr (m, also, did)) =
      over_one k m also old new next result other (subst (λ (x : LibraryValue). DoesOver k x old result new) (one_library rules word s k l m library also) done) did

  module _ (morphism : IsMorphism rules) where
    lengths : HasOneLength IsImageLength rules
    lengths = one_lengths 1 40 rules morphism

    one_k : (j k : ℕ) → IsMapped rules word j → IsMapped rules word k → j ≡ k
    one_k j k one two = one_length rules (get_or (keys_of rules) 0 (pos 0)) j k (first_least rules morphism).holds one.length_is.uniform two.length_is.uniform

    mapped_one : HasOneAnswer faults.Memory (DoesMapped rules word s)
    mapped_one old new next result other (j, one, done) (k, two, did) =
        library_one k old new next result other (subst (λ (n : ℕ). WithSome (IsImageLibrary rules word s n) (DoesOver n) old result new) (one_k j k one two) done) did

    ruled_not : (k : ℕ) (letter : ℤ) → IsMapped rules word k → IsMissing rules word letter → ⊥
    ruled_not k letter mapped missing = missing.lacks (mapped.ruled letter missing.occurs)

    -- beside a step there is no other fault
    step_alone : (old new next : StepLog) (v : WordValue) (fault : StepFault) → DoesMapped rules word s old (Ok v) new → (fault ≡ faults.Memory) ⊎ DoesMapped rules word s old (Err fault) next → fault ≡ faults.Memory
    step_alone old new next v fault done (inl memory) = memory
    step_alone old new next v fault done (inr stopped) = memory_alone faults.Memory new next v fault (mapped_one old new next (Ok v) (Err fault) done stopped)

    steps_one : (old new next : StepLog) (fault other : StepFault) → (fault ≡ faults.Memory) ⊎ DoesMapped rules word s old (Err fault) new → (other ≡ faults.Memory) ⊎ DoesMapped rules word s old (Err other) next
        → AreOneAnswer {Made = WordValue} (Step faults.Memory) (Err (Step fault)) (Err (Step other)) new next
    steps_one old new next fault other (inl memory) two = inr (inl (ap Err (ap Step memory)))
    steps_one old new next fault other (inr one) (inl memory) = inr (inr (ap Err (ap Step memory)))
    steps_one old new next fault other (inr one) (inr two) = raised_one Step faults.Memory new next fault other (mapped_one old new next (Err fault) (Err other) one two)

    -- images of one length are of no other kind, and letters that have rules are not missing
    kind_or_memory : (old new : StepLog) (kind : MorphismKind) (fault : StepFault) → IsLengthRefused IsImageLength rules kind → (fault ≡ faults.Memory) ⊎ DoesMapped rules word s old (Err fault) new → fault ≡ faults.Memory
    kind_or_memory old new kind fault refused (inl memory) = memory
    kind_or_memory old new kind fault refused (inr (k, mapped, done)) = absurd (lengths.apart k kind mapped.length_is refused)

    letter_or_memory : (old new : StepLog) (letter : ℤ) (fault : StepFault) → IsLetterMissing rules word letter → (fault ≡ faults.Memory) ⊎ DoesMapped rules word s old (Err fault) new → fault ≡ faults.Memory
    letter_or_memory old new letter fault missing (inl memory) = memory
    letter_or_memory old new letter fault missing (inr (k, mapped, done)) = absurd (ruled_not k letter mapped missing.missing.holds)

    image_one : HasOneAnswer (Step faults.Memory) (DoesImage rules word s)
    image_one old new next (Ok v) (Ok u) one two = let same = one_value faults.Memory new next v u (mapped_one old new next (Ok v) (Ok u) one two) in inl (ap Ok same.0, same.1)
    image_one old new next (Ok v) (Err (Morphism kind)) (k, mapped, done) two = absurd (lengths.apart k kind mapped.length_is two.0)
    image_one old new next (Ok v) (Err (Missing letter)) (k, mapped, done) two = absurd (ruled_not k letter mapped two.0.missing.holds)
    image_one old new next (Ok v) (Err (Step fault)) one two = inr (inr (ap Err (ap Step (step_alone old new next v fault one two))))
    image_one old new next (Err (Morphism kind)) (Ok v) one (k, mapped, done) = absurd (lengths.apart k kind mapped.length_is one.0)
    image_one old new next (Err (Morphism a)) (Err (Morphism b)) one two = inl (ap Err (ap Morphism (lengths.one_kind a b one.0 two.0)), one.1 ∙ sym two.1)
    image_one old new next (Err (Morphism a)) (Err (Missing b)) one two = absurd (lengths.apart two.0.k a two.0.length_is one.0)
    image_one old new next (Err (Morphism a)) (Err (Step fault)) one two = inr (inr (ap Err (ap Step (kind_or_memory old next a fault one.0 two))))
    image_one old new next (Err (Missing letter)) (Ok v) one (k, mapped, done) = absurd (ruled_not k letter mapped one.0.missing.holds)
    image_one old new next (Err (Missing a)) (Err (Morphism b)) one two = absurd (lengths.apart one.0.k b one.0.length_is two.0)
    image_one old new next (Err (Missing a)) (Err (Missing b)) one two = inl (ap Err (ap Missing (one_least (IsMissing rules word) a b one.0.missing two.0.missing)), one.1 ∙ sym two.1)
    image_one old new next (Err (Missing a)) (Err (Step fault)) one two = inr (inr (ap Err (ap Step (letter_or_memory old next a fault one.0 two))))
    image_one old new next (Err (Step fault)) (Ok v) one two = inr (inl (ap Err (ap Step (step_alone old next new v fault two one))))
    image_one old new next (Err (Step fault)) (Err (Morphism b)) one two = inr (inl (ap Err (ap Step (kind_or_memory old new b fault two.0 one))))
    image_one old new next (Err (Step fault)) (Err (Missing b)) one two = inr (inl (ap Err (ap Step (letter_or_memory old new b fault two.0 one))))
    image_one old new next (Err (Step fault)) (Err (Step other)) one two = steps_one old new next fault other one two

pub one_outcome : ImagesHaveOneOutcome
one_outcome rules word s morphism is = image_one rules word s is morphism
