-- The relations of letters, combined, make the image of the word.
use Rattle.std.proofs.Common.{◌≡◌, ℕ, zero, suc, ◌+◌, ◌*◌, ◌<◌, ◌≤◌, List, [], ◌∷◌, length, map, get_or, ℤ, None, Some, ◌⊎◌, inl, inr, refl, sym, ap, ◌∙◌, subst, arith}
use Rattle.std.specs.Prelude.{slice_get}
use Rattle.std.specs.List.{Contains}
use Rattle.std.proofs.lemmas.Option.{none-some, same_Some}
use Rattle.morph_words.specs.Rules.{Rules}
use Rattle.morph_words.specs.Images.{image}
use Rattle.morph_words.specs.ImageLetters.{IsImageLetter}
use Rattle.num_system.specs.Sealed.{SystemValue}
use Rattle.word_output.specs.Words.{HasLetter, IsWordValue, WordValue}
use Rattle.number_relations.specs.Relations.{RelationHolds, RelationValue}
use Rattle.number_relations.proofs.RelationLemmas.{relations_decided}
use Rattle.formula_parse.specs.Tokens.{Name}
use Rattle.plan_relations.specs.Libraries.{meanings_of, word_named}
use Rattle.named_systems.specs.NamedSystems.{NamedSystem}
use Rattle.combinations.specs.Parts.{PartValue, systems_at}
use Rattle.combinations.specs.Combined.{IsCombination, IsCombined}
use Rattle.combinations.specs.Shapes.{HaveSameTracks, IsShapeFault}
use Rattle.word_images.specs.ImageFormula.{word_name}
use Rattle.word_images.specs.ImageWords.{AreOutputs, IsImageWord, IsMapped}
use Rattle.word_commands.specs.LetterParts.{AreLetterParts, IsLetterRelation}
use Rattle.word_images.specs.Recoded.{IsRecoded}
use Rattle.word_commands.specs.RecodedWords.{IsImageLibrary}
use Rattle.word_commands.specs.LetterSettings.{library_in}
use Rattle.word_commands.specs.declared.setting.Setting.{Setting}
use Rattle.word_images.proofs.FormulaTruth.{IsReached, IsReachedBefore, image_holds, image_reached}
use Rattle.word_commands.proofs.NamedWords.{found}
use Rattle.word_images.specs.Laws.{LetterOf}
use Rattle.word_images.proofs.PlaceLemmas.{image_length, image_output, images_have_one_letter}

-- the values of the parts
abbrev pub values_of : List PartValue → List ℤ
values_of parts = map (λ (part : PartValue). part.value) parts

first_or_later : (x : ℤ) (xs : List ℤ) (y : ℤ) → Contains (x ∷ xs) y → (x ≡ y) ⊎ Contains xs y
first_or_later x xs y (zero, within, is) = inl is
first_or_later x xs y (suc n, within, is) = inr (n, omega (arith, within), is)

module _ (rules : Rules) (word : WordValue) (s : Name) (k : ℕ) (t : Setting) (is : IsWordValue word) (track : length word.systems ≡ 1) (mapped : IsMapped rules word k) (library : IsImageLibrary rules word s k (library_in t)) where
  few : k ≤ 40
  few = mapped.length_is.allowed.1

  positive : 0 < k
  positive = omega (arith, mapped.length_is.allowed.0)

  -- the letter is at the place of the image
  abbrev IsAt : ℕ → ℤ → Type 0
  IsAt n b = IsImageLetter rules (LetterOf word) n b

  -- the relation of a letter holds where the letter is
  holds_letter : (b : ℤ) (n : ℕ) (r : RelationValue) → IsLetterRelation t s k b r → RelationHolds r (n ∷ []) → IsAt n b
  holds_letter b n r rel holds =
      by (image_reached (meanings_of (library_in t)) s k b (λ name. n) positive ((rel.holds n).0 holds))
    where
      by : IsReachedBefore (meanings_of (library_in t)) s k b (λ name. n) k → IsAt n b
      by h = record { k = k; uniform = mapped.length_is.uniform; q = at.q; r = h.r; small = h.small; place_is = at.place_is; of_word = from.0; has = from.1; letter_is = from.2 }
        where
          at : IsReached (meanings_of (library_in t)) s k b (λ name. n) h.r
          at = h.reached_is

          there : (u : WordValue) × (word_named (library_in t).words (word_name h.r) ≡ Some u) × IsRecoded rules word h.r u
          there = found rules word k (library_in t).words h.r few library.words h.small

          from : (a : ℤ) × HasLetter word (at.q ∷ []) a × (slice_get (image rules a) h.r ≡ Some b)
          from = (there.2.letters (at.q ∷ []) b).0 (subst (λ (w : WordValue). HasLetter w (at.q ∷ []) b) (same_Some at.has.0 there.0 (sym at.has.1 ∙ there.1)) at.has.2)

  letter_holds : (b : ℤ) (n : ℕ) (r : RelationValue) → IsLetterRelation t s k b r → IsAt n b → RelationHolds r (n ∷ [])
  letter_holds b n r rel h =
      (rel.holds n).1 (image_holds (meanings_of (library_in t)) s k b (λ name. n) positive (record {
        r = h.r;
        small = small;
        reached_is = record { q = h.q; place_is = h.place_is ∙ ap (λ m. h.q * m + h.r) lengths; has = (there.0, there.1, (there.2.letters (h.q ∷ []) b).1 (h.of_word, h.has, h.letter_is)) };
      }))
    where
      lengths : h.k ≡ k
      lengths = image_length rules word k n b mapped h

      small : h.r < k
      small = omega (arith, h.small, lengths)

      there : (u : WordValue) × (word_named (library_in t).words (word_name h.r) ≡ Some u) × IsRecoded rules word h.r u
      there = found rules word k (library_in t).words h.r few library.words small

  -- a combined letter is at the place
  combined_at : (parts : List PartValue) (n : ℕ) (c : ℤ) → AreLetterParts t s k parts → IsCombined None parts (n ∷ []) c → IsAt n c
  combined_at [] n c are combined = absurd (none-some c combined)
  combined_at (part ∷ parts) n c are (inl (holds, same)) = subst (IsAt n) (sym same) (holds_letter part.value n part.relation are.0 holds)
  combined_at (part ∷ parts) n c are (inr (not, rest)) = combined_at parts n c are.1 rest

  -- and a letter there that is one of the parts' is combined
  at_combined : (parts : List PartValue) (n : ℕ) (c : ℤ) → AreLetterParts t s k parts → IsAt n c → Contains (values_of parts) c → IsCombined None parts (n ∷ []) c
  at_combined [] n c are at there = absurd (omega (arith, there.1))
  at_combined (part ∷ parts) n c are at there = by (λ later. at_combined parts n c are.1 at later) (relations_decided part.relation (n ∷ []) are.0.relation)
    where
      by : (Contains (values_of parts) c → IsCombined None parts (n ∷ []) c) → RelationHolds part.relation (n ∷ []) ⊎ (RelationHolds part.relation (n ∷ []) → ⊥) → IsCombined None (part ∷ parts) (n ∷ []) c
      by others (inl holds) = inl (holds, images_have_one_letter rules word n c part.value is at (holds_letter part.value n part.relation are.0 holds))
      by others (inr not) = inr (not, each (first_or_later part.value (values_of parts) c there))
        where
          each : (part.value ≡ c) ⊎ Contains (values_of parts) c → IsCombined None parts (n ∷ []) c
          each (inl same) = absurd (not (letter_holds part.value n part.relation are.0 (subst (IsAt n) (sym same) at)))
          each (inr later) = others later

  module _ (letters : List ℤ) (outputs : AreOutputs rules word letters) (parts : List PartValue) (are : AreLetterParts t s k parts) (values : values_of parts ≡ letters) where
    among : (n : ℕ) (c : ℤ) → IsAt n c → Contains (values_of parts) c
    among n c at = subst (λ xs. Contains xs c) (sym values) ((outputs.members c).1 (image_output rules word n c is at))

    pub image_word : (v : WordValue) → IsCombination None parts word.systems v → IsImageWord rules word v
    image_word v combination = record {
      word_is = combination.word_is;
      systems = combination.systems_are;
      letters = λ n c. (
        (λ has. combined_at parts n c are ((combination.letters (n ∷ []) c (sym track)).0 has)),
        (λ at. (combination.letters (n ∷ []) c (sym track)).1 (at_combined parts n c are at (among n c at))),
      );
    }

-- the systems of the parts are those of the word
parts_over : (t : Setting) (s : Name) (k : ℕ) (system : SystemValue) → (library_in t).systems ≡ record { name = s; system = system } ∷ [] → (parts : List PartValue) → AreLetterParts t s k parts → (i : ℕ) → i < length parts → systems_at parts i ≡ system ∷ []
parts_over t s k system is [] are i inside = absurd (omega (arith, inside))
parts_over t s k system is (part ∷ parts) are zero inside = are.0.systems ∙ ap (λ (v : SystemValue). v ∷ []) (ap (λ (ss : List NamedSystem). (get_or ss 0 (record { name = s; system = system })).system) (sym are.0.system_is ∙ is))
parts_over t s k system is (part ∷ parts) are (suc i) inside = parts_over t s k system is parts are.1 i (omega (arith, inside))

same_tracks : (ss ts : List SystemValue) → ss ≡ ts → HaveSameTracks ss ts
same_tracks ss ts same = subst (HaveSameTracks ss) same (record { count = refl; each = λ track inside. record { digits = refl; direction = refl; language = λ w over. refl } })

-- so their shape is one
pub no_shape_fault : (t : Setting) (s : Name) (k : ℕ) (system : SystemValue) (parts : List PartValue) (i j : ℕ) → (library_in t).systems ≡ record { name = s; system = system } ∷ [] → AreLetterParts t s k parts → ¬ IsShapeFault parts i j
no_shape_fault t s k system parts i j is are (first, inl ((some, none), same)) =
    omega (arith, none, ap (λ (ss : List SystemValue). length ss) (parts_over t s k system is parts are 0 some))
no_shape_fault t s k system parts i j is are (first, inr other) =
    other.other (same_tracks (systems_at parts 0) (systems_at parts j) (parts_over t s k system is parts are 0 (omega (arith, other.within)) ∙ sym (parts_over t s k system is parts are j other.within)))
