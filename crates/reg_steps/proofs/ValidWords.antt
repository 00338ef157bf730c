-- Words whose tracks are valid, track by track.
use Rattle.std.proofs.Common.{◌≡◌, ℕ, ◌<◌, true, List, [], ◌∷◌, length, subst, sym, arith, get_or}
use Rattle.std.specs.List.{range_with_len, AllPass}
use Rattle.std.proofs.lemmas.List.Sums.{AllPass-from_list_all, list_all-from_AllPass}
use Rattle.std.proofs.lemmas.List.FromFn.{length-range_with_len, get_or-range_with_len}
use Rattle.digit_tuple.specs.Deterministic.{Automaton, accepts_of}
use Rattle.digit_tuple.specs.Parts.{part}
use Rattle.product_op.specs.Validity.{language_at, is_valid}

module _ (sizes : List ℕ) (languages : List Automaton) (w : List ℕ) where
  -- the track is in its language
  abbrev pub IsInLanguage : ℕ → Type 0
  IsInLanguage i = accepts_of (language_at languages i) (part sizes (i ∷ []) w) ≡ true

  pub each_track : is_valid sizes languages w ≡ true → (i : ℕ) → i < length languages → IsInLanguage i
  each_track valid i within =
      let at : get_or (range_with_len 0 (length languages)) i 0 ≡ i = omega (arith, get_or-range_with_len 0 (length languages) i 0 within) in
      let passes = AllPass-from_list_all (λ track. accepts_of (language_at languages track) (part sizes (track ∷ []) w)) (range_with_len 0 (length languages)) valid i 0 (omega (arith, within, length-range_with_len 0 (length languages))) in
      subst IsInLanguage at passes

  pub all_tracks : ((i : ℕ) → i < length languages → IsInLanguage i) → is_valid sizes languages w ≡ true
  all_tracks each = list_all-from_AllPass (λ track. accepts_of (language_at languages track) (part sizes (track ∷ []) w)) (range_with_len 0 (length languages)) pass
    where
      pass : AllPass (λ track. accepts_of (language_at languages track) (part sizes (track ∷ []) w)) (range_with_len 0 (length languages))
      pass i d within =
          let small : i < length languages = omega (arith, within, length-range_with_len 0 (length languages)) in
          let at : get_or (range_with_len 0 (length languages)) i d ≡ i = omega (arith, get_or-range_with_len 0 (length languages) i d small) in
          subst IsInLanguage (sym at) (each i small)
