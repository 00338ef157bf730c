-- The states that are made of the next places are the table of the letters.
use Rattle.std.proofs.Common.{◌≡◌, ◌∙◌, List, length, ap, sym, subst}
use Rattle.std.specs.Prelude.{ℤ, All}
use Rattle.std.proofs.lemmas.Result.{IfOk-weaker}
use Rattle.digit_tuple.specs.Automaton.{Branching, IsBranchTable, letters_of}
use Rattle.digit_tuple.specs.Letters.{IsAlphabet}
use Rattle.digit_tuple.specs.Rows.{branches_in}
use Rattle.digit_tuple.specs.Sets.{sizes_of, IsLetterSet}
use Rattle.digit_tuple.specs.Tuples.{IsLetterOf}
use Rattle.regex_build.specs.Expression.{Expression, occurrences_in}
use Rattle.regex_build.specs.Patterns.{IsOver}
use Rattle.regex_build.specs.Postfix.{tree_of}
use Rattle.regex_build.specs.Positions.{IsPositionTable, AcceptsTheMatches}
use Rattle.regex_build.specs.Codes.{IsRangeOf}
use Rattle.regex_build.proofs.Accepting.{accepts_the_matches}
use Rattle.regex_build.proofs.ListSteps.{length_zip}
use Rattle.regex_build.proofs.RangeSteps.{ranges_of_tree}
use Rattle.regex_build.proofs.TableSteps.{places_have_ranges, made_table, made_rows}
use Rattle.regex_build.proofs.position_table.positions.Goals as goal

pub alphabet_of-requires : goal.alphabet_of-requires
alphabet_of-requires c =
    let P : List (List ℤ) → Type 0 = λ s. IsAlphabet (sizes_of s) in
    subst P (sym (c.as_slice-sets.ensures.value ∙ c.sets.ensures)) c.requires

pub next_places-requires : goal.next_places-requires
next_places-requires c = c.symbols-symbols.ensures.postfix

pub ranges_of-requires : goal.ranges_of-requires
ranges_of-requires c =
    let P : List (List ℤ) → Type 0 = λ s. All IsLetterSet s in
    let Q : List (List ℤ) → Type 0 = λ s. All (IsOver s) c.symbols-symbols.result.now in
    record {
      sets = subst P (sym c.as_slice-sets.ensures.value) c.as_slice-sets.ensures.sets;
      sizes = c.in_ok-alphabet.ensures;
      members = subst Q (sym (c.as_slice-sets.ensures.value ∙ c.sets.ensures)) c.symbols-symbols.ensures.letters;
    }

pub states_of-requires : goal.states_of-requires
states_of-requires c =
    let e : Expression (List ℤ) = tree_of c.symbols-symbols.result.now in
    let zip = ranges_of_tree c.as_slice-sets.result.now c.symbols-symbols.result.now c.in_ok-ranges.ranges.items c.deref.result.now c.symbols-symbols.ensures.postfix c.deref.ensures.value c.in_ok-ranges.ensures in
    record {
      count = c.in_ok-places.ensures.places.ends_count ∙ sym c.in_ok-places.ensures.places.count;
      places = places_have_ranges e c.in_ok-places.places (length c.deref.result.now) c.in_ok-places.ensures.places (sym (length_zip (IsRangeOf c.as_slice-sets.result.now) (occurrences_in e) c.deref.result.now zip));
    }

pub from_states-requires : goal.from_states-requires
from_states-requires c =
    let zip = ranges_of_tree c.as_slice-sets.result.now c.symbols-symbols.result.now c.in_ok-ranges.ranges.items c.deref.result.now c.symbols-symbols.ensures.postfix c.deref.ensures.value c.in_ok-ranges.ensures in
    made_rows c.as_slice-sets.result.now (tree_of c.symbols-symbols.result.now) c.in_ok-places.places c.deref.result.now c.in_ok-alphabet.alphabet c.in_ok-states.states.items
    c.in_ok-alphabet.ensures c.in_ok-places.ensures.places c.in_ok-places.ensures.small zip c.in_ok-states.ensures.count c.in_ok-states.ensures.states

pub returns-clause-sizes : goal.returns-clause-sizes
returns-clause-sizes c =
    let made : Branching = record { sizes = c.in_ok-alphabet.alphabet; states = branches_in c.in_ok-states.states.items } in
    let P : Branching → Type 0 = λ nfa. nfa ≡ made in
    let Q : Branching → Type 0 = λ nfa. nfa.sizes ≡ sizes_of c.args.regex.now.sets in
    IfOk-weaker c.from_states.result P Q (λ nfa e. ap (λ (n : Branching). n.sizes) e ∙ (c.in_ok-alphabet.ensures ∙ ap sizes_of (c.as_slice-sets.ensures.value ∙ c.sets.ensures))) c.from_states.ensures

pub returns-clause-rows : goal.returns-clause-rows
returns-clause-rows c =
    let zip = ranges_of_tree c.as_slice-sets.result.now c.symbols-symbols.result.now c.in_ok-ranges.ranges.items c.deref.result.now c.symbols-symbols.ensures.postfix c.deref.ensures.value c.in_ok-ranges.ensures in
    let made : Branching = record { sizes = c.in_ok-alphabet.alphabet; states = branches_in c.in_ok-states.states.items } in
    let P : Branching → Type 0 = λ nfa. nfa ≡ made in
    let Q : Branching → Type 0 = λ nfa. IsBranchTable (letters_of nfa) nfa.states in
    let rows : Q made =
    made_rows c.as_slice-sets.result.now (tree_of c.symbols-symbols.result.now) c.in_ok-places.places c.deref.result.now c.in_ok-alphabet.alphabet c.in_ok-states.states.items
    c.in_ok-alphabet.ensures c.in_ok-places.ensures.places c.in_ok-places.ensures.small zip c.in_ok-states.ensures.count c.in_ok-states.ensures.states in
    IfOk-weaker c.from_states.result P Q (λ nfa e. subst Q (sym {A = Branching} e) rows) c.from_states.ensures

pub returns-clause-table : goal.returns-clause-table
returns-clause-table c =
    let zip = ranges_of_tree c.as_slice-sets.result.now c.symbols-symbols.result.now c.in_ok-ranges.ranges.items c.deref.result.now c.symbols-symbols.ensures.postfix c.deref.ensures.value c.in_ok-ranges.ensures in
    let made : Branching = record { sizes = c.in_ok-alphabet.alphabet; states = branches_in c.in_ok-states.states.items } in
    let P : Branching → Type 0 = λ nfa. nfa ≡ made in
    let Q : Branching → Type 0 = λ nfa. IsPositionTable (IsLetterOf c.args.regex.now.sets) c.args.regex.now.tree nfa in
    let R : List (List ℤ) → Type 0 = λ s. IsPositionTable (IsLetterOf s) c.args.regex.now.tree made in
    let S : Expression (List ℤ) → Type 0 = λ e. IsPositionTable (IsLetterOf c.as_slice-sets.result.now) e made in
    let table : Q made =
    subst R (c.as_slice-sets.ensures.value ∙ c.sets.ensures) (subst S c.symbols-symbols.ensures.tree
    (made_table c.as_slice-sets.result.now (tree_of c.symbols-symbols.result.now) c.in_ok-places.places c.deref.result.now c.in_ok-alphabet.alphabet c.in_ok-states.states.items
    c.in_ok-places.ensures.places zip c.in_ok-states.ensures.count c.in_ok-states.ensures.states)) in
    IfOk-weaker c.from_states.result P Q (λ nfa e. subst Q (sym {A = Branching} e) table) c.from_states.ensures

pub returns-clause-language : goal.returns-clause-language
returns-clause-language c =
    let P : Branching → Type 0 = λ nfa. IsPositionTable (IsLetterOf c.args.regex.now.sets) c.args.regex.now.tree nfa in
    let Q : Branching → Type 0 = λ nfa. AcceptsTheMatches c.args.regex.now.sets c.args.regex.now.tree nfa in
    IfOk-weaker c.from_states.result P Q (λ nfa table. accepts_the_matches c.args.regex.now.sets c.args.regex.now.tree nfa table) (returns-clause-table c)
