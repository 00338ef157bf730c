-- Formulas of letters that are built one after another.
use Rattle.std.proofs.Common.{◌≡◌, ℕ, zero, suc, ◌+◌, ◌<◌, List, [], ◌∷◌, ◌++◌, length, get_or, take, drop, ℤ, pos, inl, inr, refl, sym, ap, subst, arith, Ok, Err}
use Rattle.std.proofs.lemmas.List.{take_more}
use Rattle.digit_tuple.specs.Steps.{StepLog}
use Rattle.digit_tuple.specs.declared.step_fault.StepFault.{StepFault}
use Rattle.digit_tuple.proofs.AllLemmas.{all_append}
use Rattle.number_relations.specs.Relations.{RelationValue}
use Rattle.formula_parse.specs.Tokens.{Name}
use Rattle.plan_relations.specs.Libraries.{LibraryValue}
use Rattle.formula_build.specs.Solutions.{BuildsFormula}
use Rattle.combinations.specs.Parts.{PartValue}
use Rattle.word_commands.specs.ImageSteps.{DoesLetters, letter_plan}
use Rattle.word_commands.specs.LetterParts.{AreBuilt, AreLetterParts, IsLetterRelation, IsLetterStopped}
use Rattle.word_commands.specs.declared.setting.Setting.{Setting}
use Rattle.word_commands.proofs.LetterPlaces.{values_of}

module _ (l : LibraryValue) (s : Name) (k : ℕ) where
  built_push : (bs : List ℤ) (parts : List PartValue) (old middle new : StepLog) (b : ℤ) (r : RelationValue) → AreBuilt l s k old bs parts middle → BuildsFormula l (letter_plan s k b) middle (Ok r) new
      → AreBuilt l s k old (bs ++ b ∷ []) (parts ++ record { relation = r; value = b } ∷ []) new
  built_push [] [] old middle new b r same here = (refl, (new, subst (λ m. BuildsFormula l (letter_plan s k b) m (Ok r) new) same here, refl))
  built_push [] (p ∷ ps) old middle new b r built here = absurd built
  built_push (c ∷ bs) [] old middle new b r built here = absurd built
  built_push (c ∷ bs) (p ∷ ps) old middle new b r (value, (between, first, rest)) here = (value, (between, first, built_push bs ps between middle new b r rest here))

  -- one letter more
  pub built_more : (letters : List ℤ) (n : ℕ) (parts new_parts : List PartValue) (old middle new : StepLog) (r : RelationValue) → n < length letters → new_parts ≡ parts ++ record { relation = r; value = get_or letters n (pos 0) } ∷ [] → AreBuilt l s k old (take n letters) parts middle
      → BuildsFormula l (letter_plan s k (get_or letters n (pos 0))) middle (Ok r) new → AreBuilt l s k old (take (n + 1) letters) new_parts new
  built_more letters n parts new_parts old middle new r within pushed built here =
      subst (λ bs. AreBuilt l s k old bs new_parts new) (sym (take_more letters n (pos 0) within))
      (subst (λ ps. AreBuilt l s k old (take n letters ++ get_or letters n (pos 0) ∷ []) ps new) (sym pushed) (built_push (take n letters) parts old middle new (get_or letters n (pos 0)) r built here))

  -- a letter whose steps stop
  pub stops_here : (letters : List ℤ) (n : ℕ) (parts : List PartValue) (old middle new : StepLog) (fault : StepFault) → n < length letters → AreBuilt l s k old (take n letters) parts middle → BuildsFormula l (letter_plan s k (get_or letters n (pos 0))) middle (Err fault) new
      → IsLetterStopped l s k old letters fault new
  stops_here letters n parts old middle new fault within built stopped = record {
    prefix = take n letters;
    here = get_or letters n (pos 0);
    rest = drop (suc n) letters;
    letters_are = cut letters n within;
    parts = parts;
    middle = middle;
    built = built;
    stopped = stopped;
  }
    where
      cut : (xs : List ℤ) (m : ℕ) → m < length xs → xs ≡ take m xs ++ get_or xs m (pos 0) ∷ drop (suc m) xs
      cut [] m inside = absurd (omega (arith, inside))
      cut (x ∷ xs) zero inside = refl
      cut (x ∷ xs) (suc m) inside = ap (λ ys. x ∷ ys) (cut xs m (omega (arith, inside)))

  -- the values are the letters
  pub built_values : (bs : List ℤ) (parts : List PartValue) (old new : StepLog) → AreBuilt l s k old bs parts new → values_of parts ≡ bs
  built_values [] [] old new built = refl
  built_values [] (p ∷ ps) old new built = absurd built
  built_values (b ∷ bs) [] old new built = absurd built
  built_values (b ∷ bs) (p ∷ ps) old new (value, (between, first, rest)) = λ i. value i ∷ built_values bs ps between new rest i

  -- so the steps of the letters were done
  pub letters_done : (bs : List ℤ) (parts : List PartValue) (old new : StepLog) → AreBuilt l s k old bs parts new → DoesLetters l s k bs old (Ok parts) new
  letters_done [] [] old new built = (refl, built)
  letters_done [] (p ∷ ps) old new built = absurd built
  letters_done (b ∷ bs) [] old new built = absurd built
  letters_done (b ∷ bs) (p ∷ ps) old new (value, (between, first, rest)) =
      inl (p.relation, between, first, inl (ps, new, letters_done bs ps between new rest, ((λ i. Ok (record { relation = p.relation; value = value i } ∷ ps)), refl)))

  -- or they stopped
  stopped_after : (prefix rest : List ℤ) (here : ℤ) (old middle new : StepLog) (parts : List PartValue) (fault : StepFault) → AreBuilt l s k old prefix parts middle → BuildsFormula l (letter_plan s k here) middle (Err fault) new
      → DoesLetters l s k (prefix ++ here ∷ rest) old (Err fault) new
  stopped_after [] rest here old middle new [] fault built stopped = inr (fault, subst (λ m. BuildsFormula l (letter_plan s k here) m (Err fault) new) built stopped, refl)
  stopped_after [] rest here old middle new (p ∷ ps) fault built stopped = absurd built
  stopped_after (b ∷ prefix) rest here old middle new [] fault built stopped = absurd built
  stopped_after (b ∷ prefix) rest here old middle new (p ∷ ps) fault (value, (between, first, more)) stopped =
      inl (p.relation, between, first, inr (fault, stopped_after prefix rest here between middle new ps fault more stopped, refl))

  pub letters_stopped : (letters : List ℤ) (old new : StepLog) (fault : StepFault) → IsLetterStopped l s k old letters fault new → DoesLetters l s k letters old (Err fault) new
  letters_stopped letters old new fault h =
      subst (λ bs. DoesLetters l s k bs old (Err fault) new) (sym h.letters_are) (stopped_after h.prefix h.rest h.here old h.middle new h.parts fault h.built h.stopped)

pub parts_more : (t : Setting) (s : Name) (k : ℕ) (parts new : List PartValue) (b : ℤ) (r : RelationValue) → new ≡ parts ++ record { relation = r; value = b } ∷ [] → AreLetterParts t s k parts → IsLetterRelation t s k b r → AreLetterParts t s k new
parts_more t s k parts new b r pushed are here = subst (AreLetterParts t s k) (sym pushed) (all_append (λ (part : PartValue). IsLetterRelation t s k part.value part.relation) parts (record { relation = r; value = b } ∷ []) are (here, tt))
