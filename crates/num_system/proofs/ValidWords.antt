-- Words whose tracks are in the languages of systems.
use Rattle.std.proofs.Common.{◌≡◌, ℕ, ◌<◌, true, List, [], ◌∷◌, get_or, length, sym, ap, ◌∙◌, subst, arith}
use Rattle.std.specs.List.{range_with_len}
use Rattle.std.proofs.lemmas.List.FromFn.{length-range_with_len, get_or-range_with_len}
use Rattle.std.proofs.lemmas.List.Sums.{AllPass-from_list_all, list_all-from_AllPass}
use Rattle.digit_tuple.specs.Parts.{letter_part, part}
use Rattle.digit_tuple.specs.Paddings.{in_order}
use Rattle.digit_tuple.specs.Deterministic.{Automaton, accepts_of}
use Rattle.digit_tuple.specs.declared.direction.Direction.{Direction}
use Rattle.digit_tuple.proofs.PaddingLemmas.{in_order-map}
use Rattle.product_op.specs.Validity.{language_at, is_valid}
use Rattle.numeration.specs.Systems.{System}
use Rattle.numeration.specs.Representation.{sizes_of, Represents}
use Rattle.numeration.specs.SomeTracks.{system_at}
use Rattle.numeration.proofs.TrackLemmas.{track, tracks_represent, represents_from_tracks}
use Rattle.numeration.proofs.PartRepresentation.{AreValid, ranks, valid_represented, represented_valid}
use Rattle.num_system.specs.Joined.{AreLanguagesOf}

module _ (direction : Direction) (ss : List System) (languages : List Automaton) (are : AreLanguagesOf direction ss languages) (w : List ℕ) where
  language_decides : (i : ℕ) → i < length ss → accepts_of (language_at languages i) (part (sizes_of ss) (i ∷ []) w) ≡ (system_at ss i).test (track ss i (in_order direction w))
  language_decides i within =
      (are.each i within).accepts (part (sizes_of ss) (i ∷ []) w)
      ∙ ap (system_at ss i).test (in_order-map direction (letter_part (sizes_of ss) (i ∷ [])) w)

  pub valid_from : is_valid (sizes_of ss) languages w ≡ true → AreValid ss (in_order direction w)
  valid_from accepted i within =
      let all = AllPass-from_list_all (λ track. accepts_of (language_at languages track) (part (sizes_of ss) (track ∷ []) w)) (range_with_len 0 (length languages)) accepted in
      let less : i < length languages = omega (arith, within, are.count) in
      let here : get_or (range_with_len 0 (length languages)) i 0 ≡ i = omega (arith, get_or-range_with_len 0 (length languages) i 0 less) in
      sym (language_decides i within)
      ∙ subst (λ (j : ℕ). accepts_of (language_at languages j) (part (sizes_of ss) (j ∷ []) w) ≡ true) here
      (all i 0 (omega (arith, less, length-range_with_len 0 (length languages))))

  pub valid_to : AreValid ss (in_order direction w) → is_valid (sizes_of ss) languages w ≡ true
  valid_to valid =
      list_all-from_AllPass (λ track. accepts_of (language_at languages track) (part (sizes_of ss) (track ∷ []) w)) (range_with_len 0 (length languages))
      (λ i d inside.
      let less : i < length languages = omega (arith, inside, length-range_with_len 0 (length languages)) in
      let within : i < length ss = omega (arith, less, are.count) in
      let here : i ≡ get_or (range_with_len 0 (length languages)) i d = omega (arith, get_or-range_with_len 0 (length languages) i d less) in
      subst (λ (j : ℕ). accepts_of (language_at languages j) (part (sizes_of ss) (j ∷ []) w) ≡ true) here
      (language_decides i within ∙ valid i within))

  -- a valid word represents numbers
  pub represented_from : is_valid (sizes_of ss) languages w ≡ true → (ns : List ℕ) × Represents ss (in_order direction w) ns
  represented_from accepted =
      (ranks ss (in_order direction w), represents_from_tracks ss (in_order direction w) (ranks ss (in_order direction w)) (valid_represented ss (in_order direction w) (valid_from accepted)))

  -- and a word that represents numbers is valid
  pub represented_to : (ns : List ℕ) → Represents ss (in_order direction w) ns → is_valid (sizes_of ss) languages w ≡ true
  represented_to ns represented = valid_to (represented_valid ss (in_order direction w) ns (tracks_represent ss (in_order direction w) ns represented))
