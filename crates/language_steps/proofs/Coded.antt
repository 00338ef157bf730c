-- Words of tuples and their letters, joined, divided and reversed.
use Rattle.std.proofs.Common.{◌≡◌, ℕ, ℤ, List, [], ◌∷◌, ◌++◌, reverse, refl, sym, ap, ◌∙◌, subst, IsTrue}
use Rattle.std.specs.List.{All, AllByRecursion, concat, flat_map}
use Rattle.std.proofs.lemmas.List.{reverse-append}
use Rattle.digit_tuple.specs.Deterministic.{Automaton, accepts_of, letters_of}
use Rattle.digit_tuple.specs.Letters.{IsWord, product}
use Rattle.digit_tuple.specs.Sets.{IsAscending, sizes_of}
use Rattle.digit_tuple.specs.Tuples.{Codes}
use Rattle.digit_tuple.proofs.TupleLemmas.{IsWord-codes, members_from_letter, one_word}
use Rattle.minimise.specs.Canonical.{IsCanonical}
use Rattle.regex_build.specs.Patterns.{AreMembers}

module _ (sets : List (List ℤ)) where
  pub codes_join : (us vs : List (List ℤ)) (u v : List ℕ) → Codes sets us u → Codes sets vs v → Codes sets (us ++ vs) (u ++ v)
  codes_join [] vs [] v one other = other
  codes_join [] vs (a ∷ u) v one other = absurd one
  codes_join (t ∷ us) vs [] v one other = absurd one
  codes_join (t ∷ us) vs (a ∷ u) v one other = (one.0, codes_join us vs u v one.1 other)

  -- where the letters are divided, the tuples are
  pub codes_divide : (tuples : List (List ℤ)) (u v : List ℕ) → Codes sets tuples (u ++ v) → (us : List (List ℤ)) × (vs : List (List ℤ)) × (tuples ≡ us ++ vs) × Codes sets us u × Codes sets vs v
  codes_divide tuples [] v codes = ([], tuples, refl, tt, codes)
  codes_divide [] (a ∷ u) v codes = absurd codes
  codes_divide (t ∷ tuples) (a ∷ u) v codes =
      let rest = codes_divide tuples u v codes.1 in
      (t ∷ rest.0, rest.1, ap (λ (ts : List (List ℤ)). t ∷ ts) rest.2, (codes.0, rest.3), rest.4)

  pub codes_reverse : (tuples : List (List ℤ)) (word : List ℕ) → Codes sets tuples word → Codes sets (reverse tuples) (reverse word)
  codes_reverse [] [] codes = tt
  codes_reverse [] (a ∷ word) codes = absurd codes
  codes_reverse (t ∷ tuples) [] codes = absurd codes
  codes_reverse (t ∷ tuples) (a ∷ word) codes =
      let joined : Codes sets (reverse tuples ++ t ∷ []) (reverse word ++ a ∷ []) = codes_join (reverse tuples) (t ∷ []) (reverse word) (a ∷ []) (codes_reverse tuples word codes.1) (codes.0, tt) in
      subst (λ (ts : List (List ℤ)). Codes sets ts (reverse (a ∷ word))) (sym (reverse-append (t ∷ []) tuples)) (subst (λ (w : List ℕ). Codes sets (reverse tuples ++ t ∷ []) w) (sym (reverse-append (a ∷ []) word)) joined)

  -- words with letters are words over the sets
  pub codes_members : (tuples : List (List ℤ)) (word : List ℕ) → Codes sets tuples word → AllByRecursion (AreMembers sets) tuples
  codes_members [] [] codes = tt
  codes_members [] (a ∷ word) codes = absurd codes
  codes_members (t ∷ tuples) [] codes = absurd codes
  codes_members (t ∷ tuples) (a ∷ word) codes = (members_from_letter sets t a codes.0, codes_members tuples word codes.1)

  -- letters of the sizes of the sets
  pub is_word : (d : Automaton) → d.sizes ≡ sizes_of sets → (tuples : List (List ℤ)) (word : List ℕ) → Codes sets tuples word → IsWord (letters_of d) word
  is_word d sizes tuples word codes = subst (λ (s : List ℕ). IsWord (product s) word) (sym sizes) (IsWord-codes sets tuples word codes)

  -- the automaton accepts the letters of the tuples
  abbrev pub Accepted : Automaton → List (List ℤ) → Type 0
  Accepted d tuples = (word : List ℕ) × Codes sets tuples word × IsTrue (accepts_of d word)

  -- a canonical automaton over the sets that accepts the words of a language
  pub record IsOf (L : List (List ℤ) → Type 0) (d : Automaton) : Type 0 where
    pub sizes : d.sizes ≡ sizes_of sets
    pub canonical : IsCanonical d
    pub fits : (tuples : List (List ℤ)) → L tuples → Accepted d tuples
    pub has : (tuples : List (List ℤ)) → Accepted d tuples → L tuples

  -- of the same words
  pub of_same : (L M : List (List ℤ) → Type 0) (d : Automaton) → ((tuples : List (List ℤ)) → L tuples → M tuples) → ((tuples : List (List ℤ)) → M tuples → L tuples) → IsOf L d → IsOf M d
  of_same L M d there back is = record { sizes = is.sizes; canonical = is.canonical; fits = λ ts m. is.fits ts (back ts m); has = λ ts a. there ts (is.has ts a) }

  -- the letters of tuples are determined
  pub accepted_at : All IsAscending sets → (d : Automaton) (tuples : List (List ℤ)) (word : List ℕ) → Codes sets tuples word → Accepted d tuples → IsTrue (accepts_of d word)
  accepted_at up d tuples word codes (other, own, is) = subst (λ (w : List ℕ). IsTrue (accepts_of d w)) (one_word sets tuples other word up own codes) is

  -- words of the star, divided into words
  pub pieces_divide : (a : Automaton) (tuples : List (List ℤ)) (pieces : List (List ℕ)) → Codes sets tuples (concat pieces) → AllByRecursion (λ piece. IsTrue (accepts_of a piece)) pieces
      → (parts : List (List (List ℤ))) × (tuples ≡ flat_map (λ part. part) parts) × AllByRecursion (Accepted a) parts
  pieces_divide a [] [] codes all = ([], refl, tt)
  pieces_divide a (t ∷ tuples) [] codes all = absurd codes
  pieces_divide a tuples (piece ∷ pieces) codes all =
      let cut = codes_divide tuples piece (concat pieces) codes in
      let rest = pieces_divide a cut.1 pieces cut.4 all.1 in
      (cut.0 ∷ rest.0, cut.2 ∙ ap (λ (ts : List (List ℤ)). cut.0 ++ ts) rest.1, ((piece, cut.3, all.0), rest.2))

  -- and joined of them
  pub pieces_join : (a : Automaton) (parts : List (List (List ℤ))) → AllByRecursion (Accepted a) parts → (pieces : List (List ℕ)) × Codes sets (flat_map (λ part. part) parts) (concat pieces) × AllByRecursion (λ piece. IsTrue (accepts_of a piece)) pieces
  pieces_join a [] all = ([], tt, tt)
  pieces_join a (part ∷ parts) all =
      let rest = pieces_join a parts all.1 in
      let first = all.0 in
      (first.0 ∷ rest.0, codes_join part (flat_map (λ part. part) parts) first.0 (concat rest.0) first.1 rest.1, (first.2, rest.2))
