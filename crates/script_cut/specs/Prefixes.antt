-- Scripts and their prefixes: which items they have in common.
use Rattle.std.specs.Prelude.{◌≡◌, ◌⊎◌, ℕ, Bool, true, false, IsTrue, List, ◌++◌, length}
use Rattle.std.specs.List.{AllByRecursion}
use Rattle.script_cut.specs.Cuts.{Ended, Terminated, Unterminated, PastLimit, Item, Rest, Next, CutsTo, IsAtEnd, HasItems}

-- more bytes come after those that are left
abbrev pub with_more : Rest → List ℕ → Rest
with_more place more = record place { left = place.left ++ more }

abbrev pub is_terminated : Ended → Bool
is_terminated (Terminated shown) = true
is_terminated Unterminated = false
is_terminated PastLimit = false

-- each item has its terminator
abbrev pub AreTerminated : List Item → Type 0
AreTerminated items = AllByRecursion (λ (item : Item). IsTrue (is_terminated item.ended)) items

-- a text ends after a terminator: it is commands, each with its terminator, and gaps; a comment may be open at its end
pub record EndsAfterTerminator (text : List ℕ) : Type 0 where
  pub items : List Item
  pub has : HasItems (record { left = text; room = length text; line = 1 }) items
  pub terminated : AreTerminated items

-- Items that have their terminators are cut so whatever comes after them.
abbrev pub ItemsStay : Rest → Type 0
ItemsStay place = (items : List Item) (last : Rest) (more : List ℕ) → CutsTo place items last → AreTerminated items → CutsTo (with_more place more) items (with_more last more)

-- So the items of a text that ends after a terminator are the first ones of each longer text. What follows them are those of the bytes after
-- the last terminator.
pub record FirstItems (items : List Item) (end : Rest) (more : List ℕ) (longer : List Item) : Type 0 where
  pub rest : List Item
  pub joined : longer ≡ items ++ rest
  pub rest_is : HasItems (with_more end more) rest

abbrev pub PrefixHasFirstItems : Rest → Type 0
PrefixHasFirstItems place = (items longer : List Item) (more : List ℕ) → (has : HasItems place items) → AreTerminated items → HasItems (with_more place more) longer → FirstItems items has.last more longer

-- a place has a next item, or is at the end
abbrev pub HasNextOrEnd : Rest → Type 0
HasNextOrEnd place = ((item : Item) × (new : Rest) × Next place item new) ⊎ IsAtEnd place
