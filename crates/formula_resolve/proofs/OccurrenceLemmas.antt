-- Occurrences, one part after another.
use Rattle.std.proofs.Common.{◌≡◌, sym, ap, ◌∙◌, ℕ, ◌+◌, ◌<◌, ◌≤◌, cond, List, [], ◌++◌, length, take, get_or, arith}
use Rattle.std.proofs.lemmas.List.{get_or_default, length-take-le, append-nil}
use Rattle.std.proofs.lemmas.Bool.{lt-ltb, le-ltb}
use Rattle.formula_parse.specs.Tokens.{Name}
use Rattle.formula_parse.specs.Trees as trees
use Rattle.formula_parse.specs.Views.{term_view, terms_view}
use Rattle.formula_parse.specs.declared.tree.Term.{Term}
use Rattle.formula_resolve.specs.Mentions.{count}
use Rattle.formula_resolve.specs.Occurrences.{Binders, term_occurrences, track_occurrences, place_occurrences}
use Rattle.formula_resolve.specs.declared.occurrence.Occurrence.{Occurrence}
use Rattle.formula_resolve.proofs.ListLemmas.{added_then, count_view, terms_more}

track_there : (tracks : List Name) (b : Binders) (k j : ℕ) (t : trees.Term) (s : Name) → k ≡ j → j < length tracks → s ≡ get_or tracks j s → track_occurrences tracks b k t ≡ term_occurrences s b t
track_there tracks b k j t s same within at =
    ap (λ n. track_occurrences tracks b n t) same
    ∙ ap (λ c. cond c (term_occurrences (get_or tracks j []) b t) []) (lt-ltb j (length tracks) within)
    ∙ ap (λ n. term_occurrences n b t) (get_or_default tracks j [] s within ∙ sym at)

track_absent : (tracks : List Name) (b : Binders) (k j : ℕ) (t : trees.Term) → k ≡ j → length tracks ≤ j → track_occurrences tracks b k t ≡ []
track_absent tracks b k j t same past =
    ap (λ n. track_occurrences tracks b n t) same
    ∙ ap (λ c. cond c (term_occurrences (get_or tracks j []) b t) []) (le-ltb j (length tracks) past)

-- as many places come before it
before_place : (ts : List Term) (i : ℕ) → i < length ts → count (terms_view (take i ts)) ≡ i
before_place ts i within = count_view (take i ts) ∙ length-take-le i ts (omega arith)

module _ (tracks : List Name) (b : Binders) (ts : List Term) (i : ℕ) (t : Term) (old mid new : List Occurrence) (within : i < length ts) (at : t ≡ get_or ts i t) (before : mid ≡ old ++ place_occurrences tracks b (terms_view (take i ts))) where
  more_view : terms_view (take (i + 1) ts) ≡ trees.terms (terms_view (take i ts)) (term_view t)
  more_view = terms_more ts i t within ∙ ap (λ u. trees.terms (terms_view (take i ts)) (term_view u)) (sym at)

  -- one place more, on a track
  pub place_added : (s : Name) → i < length tracks → s ≡ get_or tracks i s → new ≡ mid ++ term_occurrences s b (term_view t) → new ≡ old ++ place_occurrences tracks b (terms_view (take (i + 1) ts))
  place_added s on there after =
      added_then old mid new (place_occurrences tracks b (terms_view (take i ts))) (term_occurrences s b (term_view t)) before after
      ∙ ap (λ os. old ++ (place_occurrences tracks b (terms_view (take i ts)) ++ os)) (sym (track_there tracks b (count (terms_view (take i ts))) i (term_view t) s (before_place ts i within) on there))
      ∙ ap (λ us. old ++ place_occurrences tracks b us) (sym more_view)

  -- and on none
  pub place_passed : length tracks ≤ i → new ≡ mid → new ≡ old ++ place_occurrences tracks b (terms_view (take (i + 1) ts))
  place_passed past after =
      after ∙ before
      ∙ ap (λ os. old ++ os) (sym (append-nil (place_occurrences tracks b (terms_view (take i ts)))))
      ∙ ap (λ os. old ++ (place_occurrences tracks b (terms_view (take i ts)) ++ os)) (sym (track_absent tracks b (count (terms_view (take i ts))) i (term_view t) (before_place ts i within) past))
      ∙ ap (λ us. old ++ place_occurrences tracks b us) (sym more_view)
