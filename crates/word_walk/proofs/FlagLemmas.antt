-- What flags of states say of transitions.
use Rattle.std.proofs.Common.{◌≡◌, ◌⊎◌, inl, inr, ℕ, suc, ◌<◌, Bool, true, false, ◌||◌, List, [], ◌∷◌, get_or, refl, sym, ap, ◌∙◌, arith}
use Rattle.std.proofs.lemmas.Bool.{cases_Bool, true≢false}
use Rattle.std.proofs.lemmas.List.Folds.{list_any_at}
use Rattle.std.specs.List.{All, list_any}
use Rattle.digit_tuple.specs.Deterministic.{Automaton, IsTable, letters_of, states_of, transitions_of}
use Rattle.digit_tuple.proofs.DfaLemmas.{row_at}
use Rattle.digit_tuple.specs.declared.transitions.Transition.{Transition}
use Rattle.word_walk.specs.Levels.{IsLevel, lives}
use Rattle.word_walk.specs.Sources.{AreSources}

pub list_any_same : (p r : Transition → Bool) (es : List Transition) → All (λ e. p e ≡ r e) es → list_any p es ≡ list_any r es
list_any_same p r [] same = refl
list_any_same p r (e ∷ es) same = ap (λ b. b || list_any p es) (same 0 e (omega arith)) ∙ ap (λ b. r e || b) (list_any_same p r es (λ k z within. same (suc k) z (omega (arith, within))))

-- the level of one letter more
pub IsLevel-next : (d : Automaton) (m : ℕ) (flags next : List Bool) → IsTable (letters_of d) d.states → AreSources d flags next → IsLevel d m flags → IsLevel d (suc m) next
IsLevel-next d m flags next table sources level = record {
  width = sources.width;
  flag_is = λ q within. sources.flag_is q within ∙ list_any_same (λ e. get_or flags e.target false) (λ e. lives d m e.target) (transitions_of d q)
      (λ k z inside. level.flag_is (get_or (transitions_of d q) k z).target ((row_at d q table within).in_range k z inside).1);
}

-- no state has the flag
pub none_lives : (d : Automaton) (m : ℕ) (flags : List Bool) → IsLevel d m flags → list_any (λ live. live) flags ≡ false → (q : ℕ) → q < states_of d → lives d m q ≡ false
none_lives d m flags level none q within = sym (level.flag_is q within) ∙ by (cases_Bool (get_or flags q false))
  where
    by : (get_or flags q false ≡ true) ⊎ (get_or flags q false ≡ false) → get_or flags q false ≡ false
    by (inr is) = is
    by (inl live) = absurd (true≢false (sym (list_any_at (λ b. b) flags q false (omega (arith, within, level.width)) live) ∙ none))
