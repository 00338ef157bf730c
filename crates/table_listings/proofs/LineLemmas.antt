-- The lines of the next words of a walk are those of the words that the automaton lists.
use Rattle.std.proofs.Common.{◌≡◌, ℕ, ℤ, List, Result, Ok, Err, subst, IsTrue}
use Rattle.std.specs.Prelude.{Option, MatchResult}
use Rattle.std.specs.declared.alloc.Global.{Global}
use Rattle.std.specs.declared.vec.Vec.{Vec}
use Rattle.digit_tuple.specs.Deterministic.{Automaton, IsTable, accepts_of, letters_of}
use Rattle.digit_tuple.specs.declared.direction.Direction.{Direction}
use Rattle.word_walk.specs.Listed.{is_listed}
use Rattle.word_walk.specs.Walks.{WalkValue}
use Rattle.listings.specs.Listings.{AreLinesWithin, AreOver, Fails, PassBound}
use Rattle.listings.specs.declared.line_fault.LineFault.{LineFault}
use Rattle.listings.specs.declared.line_fault.LineFault.TheVariants as faults
use Rattle.listings.proofs.NextLemmas.{listings_are_over, same_lists_have_same_lines}
use Rattle.table_listings.specs.ListedLines.{AreListedLines, HasWalk, IsLinesFault, so_many}

module _ (d : Automaton) (skip : Option Direction) (sets : List (List ℤ)) (place : Option (List (List ℤ))) (walk : WalkValue) (has : HasWalk d skip sets place walk) where
  -- the words of the walk are over the automaton's letters
  pub walk_over : IsTable (letters_of d) d.states → AreOver (accepts_of walk.listing) d.sizes
  walk_over table w accepted = listings_are_over d skip table w (subst IsTrue (has.walks.listing w) accepted)

  pub lines_of_walk : (count : ℕ) (r : Result (Vec ℕ Global) LineFault)
      → MatchResult r (λ (text : Vec ℕ Global). AreLinesWithin (accepts_of walk.listing) sets walk.place (so_many count) text.items) (Fails (accepts_of walk.listing) sets walk.place (so_many count))
      → MatchResult r (λ (text : Vec ℕ Global). AreListedLines (is_listed d skip) sets place count text.items) (IsLinesFault (is_listed d skip) sets place count)
  lines_of_walk count (Ok text) are =
      let same : AreLinesWithin (is_listed d skip) sets walk.place (so_many count) text.items = (same_lists_have_same_lines (accepts_of walk.listing) (is_listed d skip) sets walk.place (so_many count) has.walks.listing).0 text.items are in
      record { word = has.word; word_is = has.word_is; lines = subst (λ (at : Option (List ℕ)). AreLinesWithin (is_listed d skip) sets at (so_many count) text.items) has.walks.at same }
  lines_of_walk count (Err faults.Long) past =
      let same : PassBound (is_listed d skip) sets walk.place (so_many count) = (same_lists_have_same_lines (accepts_of walk.listing) (is_listed d skip) sets walk.place (so_many count) has.walks.listing).1 past in
      record { word = has.word; word_is = has.word_is; long = subst (λ (at : Option (List ℕ)). PassBound (is_listed d skip) sets at (so_many count)) has.walks.at same }
  lines_of_walk count (Err faults.Memory) out = tt
