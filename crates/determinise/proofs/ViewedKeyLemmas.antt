-- Keys that represent others.
use Rattle.std.proofs.Common.{◌≡◌, ℕ, ◌<◌, Bool, false, List, [], ◌∷◌, Option, None, Some, MatchOption, refl, sym, ap, ◌∙◌}
use Rattle.std.specs.Bool.{⊤}
use Rattle.std.specs.Option.{option_and_then, option_map, option_map_or}
use Rattle.digit_tuple.specs.Letters.{IsWord}
use Rattle.digit_tuple.specs.Keys.{key_run, key_accepts, LeadAlike}
use Rattle.digit_tuple.proofs.KeyLemmas.{key_run-keeps}

-- keys are seen through a view, which no two of them share, since it can be taken back
module _ (P : List ℕ → Type 0) (letters : ℕ) (after : List ℕ → ℕ → Option (List ℕ)) (keeps : (key : List ℕ) (a : ℕ) → P key → a < letters → MatchOption (after key a) ⊤ P)
    (view back : List ℕ → List ℕ) (same : (key : List ℕ) → P key → back (view key) ≡ key) where
  -- where a letter leads from a key that is seen
  abbrev pub viewed_after : List ℕ → ℕ → Option (List ℕ)
  viewed_after key a = option_map view (after (back key) a)

  -- a word leads to the view of the key that it leads to
  pub key_run-viewed : (w key : List ℕ) → IsWord letters w → P key → key_run viewed_after (view key) w ≡ option_map view (key_run after key w)
  key_run-viewed [] key over is = refl
  key_run-viewed (a ∷ w) key over is =
      ap (λ k. option_and_then (λ next. key_run viewed_after next w) (option_map view (after k a))) (same key is)
      ∙ by (after key a) (keeps key a is over.0) (λ next inside. key_run-viewed w next over.1 inside)
    where
      by : (o : Option (List ℕ)) → MatchOption o ⊤ P → ((next : List ℕ) → P next → key_run viewed_after (view next) w ≡ option_map view (key_run after next w))
          → option_and_then (λ next. key_run viewed_after next w) (option_map view o) ≡ option_map view (option_and_then (λ next. key_run after next w) o)
      by None all rest = refl
      by (Some next) all rest = rest next all

  -- a word is accepted from the view of a key where it is from the key
  pub key_accepts-viewed : (accepts : List ℕ → Bool) (w key : List ℕ) → IsWord letters w → P key → key_accepts viewed_after (λ k. accepts (back k)) (view key) w ≡ key_accepts after accepts key w
  key_accepts-viewed accepts [] key over is = ap accepts (same key is)
  key_accepts-viewed accepts (a ∷ w) key over is =
      ap (λ k. option_map_or (λ next. key_accepts viewed_after (λ l. accepts (back l)) next w) (option_map view (after k a)) false) (same key is)
      ∙ by (after key a) (keeps key a is over.0) (λ next inside. key_accepts-viewed accepts w next over.1 inside)
    where
      by : (o : Option (List ℕ)) → MatchOption o ⊤ P → ((next : List ℕ) → P next → key_accepts viewed_after (λ l. accepts (back l)) (view next) w ≡ key_accepts after accepts next w)
          → option_map_or (λ next. key_accepts viewed_after (λ l. accepts (back l)) next w) (option_map view o) false ≡ option_map_or (λ next. key_accepts after accepts next w) o false
      by None all rest = refl
      by (Some next) all rest = rest next all

  back-viewed : (o : Option (List ℕ)) → MatchOption o ⊤ P → option_map back (option_map view o) ≡ o
  back-viewed None all = refl
  back-viewed (Some key) all = ap Some (same key all)

  module _ (start : List ℕ) (is : P start) where
    -- words that lead to one key lead to one view
    pub LeadAlike-viewed : (w v : List ℕ) → IsWord letters w → IsWord letters v → LeadAlike after start w v → LeadAlike viewed_after (view start) w v
    LeadAlike-viewed w v over too alike = key_run-viewed w start over is ∙ ap (option_map view) alike ∙ sym (key_run-viewed v start too is)

    -- and the other way
    pub LeadAlike-from_viewed : (w v : List ℕ) → IsWord letters w → IsWord letters v → LeadAlike viewed_after (view start) w v → LeadAlike after start w v
    LeadAlike-from_viewed w v over too alike =
        sym (back-viewed (key_run after start w) (key_run-keeps P letters after keeps w start over is))
        ∙ ap (option_map back) (sym (key_run-viewed w start over is) ∙ alike ∙ key_run-viewed v start too is)
        ∙ back-viewed (key_run after start v) (key_run-keeps P letters after keeps v start too is)
