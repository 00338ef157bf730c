-- Key transitions that are written letter by letter.
use Rattle.std.proofs.Common.{◌≡◌, ℕ, ◌+◌, ◌<◌, List, [], ◌∷◌, ◌++◌, Option, None, Some, ◌⊎◌, inl, inr, refl, sym, ap, ◌∙◌, subst, append-nil, eq-eqb, suc, arith}
use Rattle.std.specs.Prelude.{if◌then◌else◌}
use Rattle.std.specs.List.{All}
use Rattle.std.proofs.lemmas.Bool.{cases_eq, ne_eqb}
use Rattle.std.proofs.lemmas.List.Elements.{All-push}
use Rattle.std.proofs.lemmas.List.Quantifiers.{all_pairs_push}
use Rattle.digit_tuple.specs.Keys.{KeyTransition, AreKeyTransitions, IsByEarlier, key_by, transitions_to}
use Rattle.digit_tuple.proofs.GroupLemmas.{key_by-push, key_by-push_other}

-- no transition is by a letter past all
key_by-past : (letter : ℕ) (transitions : List KeyTransition) → All (λ transition. transition.letter < letter) transitions → key_by transitions letter ≡ None
key_by-past letter [] below = refl
key_by-past letter (transition ∷ transitions) below =
    ap (λ b. if b then Some transition.key else key_by transitions letter) (ne_eqb transition.letter letter (λ same. omega (arith, same, below 0 transition (omega arith))))
    ∙ key_by-past letter transitions (λ k d within. below (suc k) d (omega arith))

-- the transition by one more letter
pub AreKeyTransitions-more : (letter : ℕ) (after : ℕ → Option (List ℕ)) (transitions : List KeyTransition) → AreKeyTransitions letter after transitions → AreKeyTransitions (letter + 1) after (transitions ++ transitions_to letter (after letter))
AreKeyTransitions-more letter after transitions are = by (after letter) refl
  where
    weaker : All (λ transition. transition.letter < letter + 1) transitions
    weaker k d within = let one = are.in_range k d within in omega (arith, one)

    by : (o : Option (List ℕ)) → after letter ≡ o → AreKeyTransitions (letter + 1) after (transitions ++ transitions_to letter o)
    by None none = subst (AreKeyTransitions (letter + 1) after) (sym (append-nil transitions)) (record { in_range = weaker; ascending = are.ascending; lead = λ a small. lead a small (cases_eq a letter) })
      where
        lead : (a : ℕ) → a < letter + 1 → (a ≡ letter) ⊎ (a ≡ letter → ⊥) → key_by transitions a ≡ after a
        lead a small (inl same) = ap (key_by transitions) same ∙ key_by-past letter transitions are.in_range ∙ sym (ap after same ∙ none)
        lead a small (inr other) = are.lead a (omega (arith, small, other))
    by (Some key) some = record {
      in_range = All-push (λ (transition : KeyTransition). transition.letter < letter + 1) transitions (record { letter = letter; key = key }) weaker (omega arith);
      ascending = all_pairs_push IsByEarlier transitions (record { letter = letter; key = key }) are.ascending (λ k d within. are.in_range k d within);
      lead = λ a small. lead a small (cases_eq a letter);
    }
      where
        lead : (a : ℕ) → a < letter + 1 → (a ≡ letter) ⊎ (a ≡ letter → ⊥) → key_by (transitions ++ (record { letter = letter; key = key }) ∷ []) a ≡ after a
        lead a small (inl same) =
            ap (key_by (transitions ++ (record { letter = letter; key = key }) ∷ [])) same
            ∙ key_by-push transitions (record { letter = letter; key = key }) letter (key_by-past letter transitions are.in_range)
            ∙ ap (λ b. if b then Some key else None) (eq-eqb letter letter refl) ∙ sym (ap after same ∙ some)
        lead a small (inr other) = key_by-push_other transitions (record { letter = letter; key = key }) a (λ same. other (sym same)) ∙ are.lead a (omega (arith, small, other))
