-- The tables of concatenations and stars, made of their states.
use Rattle.std.proofs.Common.{◌≡◌, ℕ, ◌+◌, ◌<◌, ◌^◌, true, false, List, [], ◌∷◌, ◌++◌, map, length, Option, None, Some, refl, sym, ap, ◌∙◌, subst, arith}
use Rattle.std.specs.List.{All}
use Rattle.std.proofs.lemmas.List.{append-nil, length-append, length-map}
use Rattle.std.proofs.lemmas.List.Elements.{All-append, All-cons, All-nil}
use Rattle.std.proofs.lemmas.Option.{none-some, same_Some}
use Rattle.digit_tuple.specs.Automaton as branching
use Rattle.digit_tuple.specs.Automaton.{Branch, Branching, IsBranchTable}
use Rattle.digit_tuple.specs.Deterministic.{Automaton, IsTable, letters_of, states_of}
use Rattle.digit_tuple.specs.Letters.{product}
use Rattle.lang_ops.specs.ConcatTables.{IsConcatLink, IsConcatTable}
use Rattle.lang_ops.specs.LinkedRows.{AreLinkedRows}
use Rattle.lang_ops.specs.ShiftedRows.{shifted_state}
use Rattle.lang_ops.specs.StarTables.{IsStarStart, IsStarTable}
use Rattle.lang_ops.proofs.LinkedRowLemmas.{AllRows-linked, IsRow-linked}
use Rattle.lang_ops.proofs.ShiftedRowLemmas.{AllRows-shifted}

-- the link is the number of the first automaton's states
pub concat_link_is : (a b : Automaton) (link : Option ℕ) → IsConcatLink a b link → (l : ℕ) → link ≡ Some l → l ≡ states_of a
concat_link_is a b None linked l none = absurd (none-some _ none)
concat_link_is a b (Some s) linked l some = sym (same_Some s l some) ∙ linked.0

module _ (a b : Automaton) (one : IsTable (letters_of a) a.states) (two : IsTable (letters_of b) b.states) (same : b.sizes ≡ a.sizes) (link : Option ℕ) (linked : IsConcatLink a b link)
    (small : states_of a + states_of b < 2 ^ 32) (rows : List Branch) (are : AreLinkedRows a link false rows (states_of a)) where
  abbrev concat_rows : List Branch
  concat_rows = rows ++ map (shifted_state (states_of a)) b.states

  concat_size : length concat_rows ≡ states_of a + states_of b
  concat_size = length-append rows (map (shifted_state (states_of a)) b.states) ∙ ap (λ k. k + length (map (shifted_state (states_of a)) b.states)) are.size ∙ ap (λ k. states_of a + k) (length-map b.states (shifted_state (states_of a)))

  pub IsBranchTable-concat : IsBranchTable (letters_of a) concat_rows
  IsBranchTable-concat = record {
    initial = omega (arith, concat_size, one.initial);
    small = omega (arith, concat_size, small);
    rows = All-append (λ (s : Branch). branching.IsRow (letters_of a) (length concat_rows) s.transitions) rows (map (shifted_state (states_of a)) b.states)
        (AllRows-linked a one link (length concat_rows) (omega (arith, concat_size)) (λ l to. let at = concat_link_is a b link linked l to in omega (arith, at, concat_size, two.initial)) false rows are)
        (subst (λ (ss : List ℕ). All (λ (s : Branch). branching.IsRow (product ss) (length concat_rows) s.transitions) (map (shifted_state (states_of a)) b.states)) same
        (AllRows-shifted b two (states_of a) (length concat_rows) (omega (arith, concat_size))));
  }

  pub IsConcatTable-rows : (n : Branching) → n ≡ record { sizes = a.sizes; states = concat_rows } → IsConcatTable a b link n
  IsConcatTable-rows n is = subst (IsConcatTable a b link) (sym is) (record {
    sizes = refl;
    prefix = rows;
    rows = are;
    states = refl;
    table = IsBranchTable-concat;
  })

module _ (a : Automaton) (table : IsTable (letters_of a) a.states) (rows : List Branch) (are : AreLinkedRows a (Some 0) true rows (states_of a)) where
  link_within : (total : ℕ) → 0 < total → (l : ℕ) → Some 0 ≡ Some l → l < total
  link_within total some l to = let at = same_Some 0 l to in omega (arith, at, some)

  pub IsBranchTable-returning : IsBranchTable (letters_of a) rows
  IsBranchTable-returning = record {
    initial = omega (arith, are.size, table.initial);
    small = omega (arith, are.size, table.part.small);
    rows = AllRows-linked a table (Some 0) (length rows) (omega (arith, are.size)) (link_within (length rows) (omega (arith, are.size, table.initial))) true rows are;
  }

  pub IsStarTable-returning : (n : Branching) → n ≡ record { sizes = a.sizes; states = rows } → IsStarTable a [] n
  IsStarTable-returning n is = subst (IsStarTable a []) (sym is) (record { sizes = refl; prefix = rows; rows = are; states = sym (append-nil rows); table = IsBranchTable-returning })

  module _ (row : Branch) (start : IsStarStart a row) (small : states_of a + 1 < 2 ^ 32) where
    started_size : length (rows ++ row ∷ []) ≡ states_of a + 1
    started_size = length-append rows (row ∷ []) ∙ ap (λ k. k + 1) are.size

    pub IsBranchTable-started : IsBranchTable (letters_of a) (rows ++ row ∷ [])
    IsBranchTable-started = record {
      initial = omega (arith, started_size);
      small = omega (arith, started_size, small);
      rows = All-append (λ (s : Branch). branching.IsRow (letters_of a) (length (rows ++ row ∷ [])) s.transitions) rows (row ∷ [])
          (AllRows-linked a table (Some 0) (length (rows ++ row ∷ [])) (omega (arith, started_size)) (link_within (length (rows ++ row ∷ [])) (omega (arith, started_size))) true rows are)
          (All-cons (λ (s : Branch). branching.IsRow (letters_of a) (length (rows ++ row ∷ [])) s.transitions) row []
          (IsRow-linked a table (Some 0) (length (rows ++ row ∷ [])) (omega (arith, started_size)) (link_within (length (rows ++ row ∷ [])) (omega (arith, started_size))) 0 table.initial row.transitions start.transitions)
          (All-nil (λ (s : Branch). branching.IsRow (letters_of a) (length (rows ++ row ∷ [])) s.transitions)));
    }

    pub IsStarTable-started : (n : Branching) → n ≡ record { sizes = a.sizes; states = rows ++ row ∷ [] } → IsStarTable a (row ∷ []) n
    IsStarTable-started n is = subst (IsStarTable a (row ∷ [])) (sym is) (record { sizes = refl; prefix = rows; rows = are; states = refl; table = IsBranchTable-started })
