-- The items that a text and a longer one have in common.
use Rattle.std.proofs.Common.{◌≡◌, ◌≢◌, ◌⊎◌, ℕ, Bool, true, false, ◌||◌, IsTrue, List, [], ◌∷◌, ◌++◌, length, drop, refl, sym, ap, ◌∙◌, subst, inl, inr, arith, append_assoc, length-append}
use Rattle.script_cut.specs.Texts.{terminator_of, is_gap, comment_after, all_gaps}
use Rattle.script_cut.specs.Cuts.{Ended, Terminated, Unterminated, PastLimit, Item, Rest, Next, IsAtEnd, CutsTo, HasItems, CutsCommand, CutsOff}
use Rattle.script_cut.specs.Prefixes.{with_more, is_terminated, AreTerminated, EndsAfterTerminator, HasNextOrEnd, FirstItems, ItemsStay, PrefixHasFirstItems}
use Rattle.script_cut.proofs.Gaps.{both, both_true}
use Rattle.script_cut.proofs.FirstCut.{after_gaps, text_size, FirstCommand, IsFirst, first_of_next, none_after}
use Rattle.script_cut.proofs.OneList.{Same, same_next, none_next}
use Rattle.script_cut.proofs.FoundItems.{next_or_end}

stays : (ended : Ended) (text : List ℕ) (line : ℕ) (place mid : Rest) (more : List ℕ) → IsTrue (is_terminated ended) → Next place (record { text = text; line = line; ended = ended }) mid
    → Next (with_more place more) (record { text = text; line = line; ended = ended }) (with_more mid more)
stays (Terminated shown) text line place mid more is next = command next.cut
  where
    command : CutsCommand shown place next.before text mid → Next (with_more place more) (record { text = text; line = line; ended = Terminated shown }) (with_more mid more)
    command cut = record {
      before = next.before;
      cut = record {
        gaps = cut.gaps;
        command = cut.command;
        split = ap (λ (xs : List ℕ). xs ++ more) cut.split ∙ simp append_assoc;
        room = cut.room;
      };
      line_is = next.line_is;
      next_line = next.next_line;
    }
stays Unterminated text line place mid more is next = absurd (cc)
stays PastLimit text line place mid more is next = absurd (cc)

-- an item that has its terminator is cut so whatever comes after it
pub next_stays : (place mid : Rest) (item : Item) (more : List ℕ) → IsTrue (is_terminated item.ended) → Next place item mid → Next (with_more place more) item (with_more mid more)
next_stays place mid item more is next = stays item.ended item.text item.line place mid more is next

pub items_stay : (place : Rest) → ItemsStay place
items_stay place = λ items last more cut terminated. each items place last more cut terminated
  where
    each : (items : List Item) (place last : Rest) (more : List ℕ) → CutsTo place items last → AreTerminated items → CutsTo (with_more place more) items (with_more last more)
    each [] place last more cut terminated = ap (λ (p : Rest). with_more p more) cut
    each (item ∷ items) place last more (mid, next, cut) terminated = (with_more mid more, next_stays place mid item more terminated.0 next, each items mid last more cut terminated.1)

prefix_first : (items longer : List Item) (place last end : Rest) (more : List ℕ) → CutsTo place items last → AreTerminated items → CutsTo (with_more place more) longer end → IsAtEnd last → IsAtEnd end → FirstItems items last more longer
prefix_first [] longer place last end more cut terminated cut' at at' =
    record { rest = longer; joined = refl; rest_is = record { last = end; cut = subst (λ (p : Rest). CutsTo (with_more p more) longer end) (sym cut) cut'; end = at' } }
prefix_first (item ∷ items) [] place last end more (mid, next, cut) terminated cut' at at' =
    absurd (none_next (with_more place more) item (with_more mid more) (next_stays place mid item more terminated.0 next) (let P : Rest → Type 0 = λ x. IsAtEnd x in subst P cut' at'))
prefix_first (item ∷ items) (other ∷ longer) place last end more (mid, next, cut) terminated (mid', next', cut') at at' =
    let same : Same item other (with_more mid more) mid' = same_next (with_more place more) item other (with_more mid more) mid' (next_stays place mid item more terminated.0 next) next' in
    let first : FirstItems items last more longer = prefix_first items longer mid last end more cut terminated.1 (subst (λ (p : Rest). CutsTo p longer end) (sym same.place) cut') at at' in
    record { rest = first.rest; joined = λ i. sym same.item i ∷ first.joined i; rest_is = first.rest_is }

pub prefix_has_first_items : (place : Rest) → PrefixHasFirstItems place
prefix_has_first_items place = λ items longer more has terminated has'. prefix_first items longer place has.last has'.last more has.cut terminated has'.cut has.end has'.end

-- A text that ends after a terminator, from any place on.
pub record IsEnded (left : List ℕ) : Type 0 where
  pub place : Rest
  pub items : List Item
  pub left_is : place.left ≡ left
  pub has : HasItems place items
  pub terminated : AreTerminated items

pub is_ended : (text : List ℕ) → EndsAfterTerminator text → IsEnded text
is_ended text ends = record { place = record { left = text; room = length text; line = 1 }; items = ends.items; left_is = refl; has = ends.has; terminated = ends.terminated }

-- after a command what is left is the same, however many bytes may be passed
same_left : (place other : Rest) (shown shown' : Bool) (text text' : List ℕ) (line line' : ℕ) (mid mid' : Rest) → place.left ≡ other.left → FirstCommand shown place text line mid → FirstCommand shown' other text' line' mid' → mid.left ≡ mid'.left
same_left place other shown shown' text text' line line' mid mid' lefts a b =
    let both : terminator_of shown ∷ mid.left ≡ terminator_of shown' ∷ mid'.left = a.left_is ∙ (ap (λ (xs : List ℕ). drop (text_size xs) (after_gaps xs)) lefts ∙ sym b.left_is) in
    cc

-- the items of a text that ends after a terminator, from the first on
record Continues (left : List ℕ) (ended : Ended) (mid : Rest) : Type 0 where
  closed : ended ≢ Unterminated
  rest : IsTrue (is_terminated ended) → IsEnded mid.left

module _ (place : Rest) where
  none_at_end : (ended : Ended) (text : List ℕ) (line : ℕ) (mid other : Rest) → other.left ≡ place.left → IsAtEnd other → IsFirst ended place text line mid → Continues place.left ended mid
  none_at_end (Terminated shown) text line mid other lefts end first =
      let none : length (after_gaps place.left) ≡ 0 = ap (λ (xs : List ℕ). length (after_gaps xs)) (sym lefts) ∙ ap length (none_after other end) in
      absurd (omega (arith, first.found, none))
  none_at_end Unterminated text line mid other lefts end first =
      let none : length (after_gaps place.left) ≡ 0 = ap (λ (xs : List ℕ). length (after_gaps xs)) (sym lefts) ∙ ap length (none_after other end) in
      absurd (omega (arith, first.some, none))
  none_at_end PastLimit text line mid other lefts end first = record { closed = λ is. cc; rest = λ is. absurd (cc) }

  after_command : (ended : Ended) (text : List ℕ) (line : ℕ) (mid other : Rest) (shown : Bool) (text' : List ℕ) (line' : ℕ) (mid' : Rest) (items : List Item) (last : Rest) → other.left ≡ place.left → FirstCommand shown other text' line' mid' → CutsTo mid' items last → IsAtEnd last → AreTerminated items
      → IsFirst ended place text line mid → Continues place.left ended mid
  after_command (Terminated shown') text line mid other shown text' line' mid' items last lefts first cut end terminated here = record {
    closed = λ is. cc;
    rest = λ is. record { place = mid'; items = items; left_is = same_left other place shown shown' text' text line' line mid' mid lefts first here; has = record { last = last; cut = cut; end = end }; terminated = terminated };
  }
  after_command Unterminated text line mid other shown text' line' mid' items last lefts first cut end terminated here =
      let long : length (after_gaps other.left) ≡ length (after_gaps place.left) = ap (λ (xs : List ℕ). length (after_gaps xs)) lefts in
      let size : text_size other.left ≡ text_size place.left = ap text_size lefts in
      absurd (omega (arith, here.none, first.found, long, size))
  after_command PastLimit text line mid other shown text' line' mid' items last lefts first cut end terminated here = record { closed = λ is. cc; rest = λ is. absurd (cc) }

  of_ended : (ended' : Ended) (text' : List ℕ) (line' : ℕ) (mid' other : Rest) (items : List Item) (last : Rest) → IsTrue (is_terminated ended') → other.left ≡ place.left → IsFirst ended' other text' line' mid' → CutsTo mid' items last → IsAtEnd last → AreTerminated items
      → (item : Item) (mid : Rest) → Next place item mid → Continues place.left item.ended mid
  of_ended (Terminated shown) text' line' mid' other items last is lefts first cut end terminated = λ item mid next.
      after_command item.ended item.text item.line mid other shown text' line' mid' items last lefts first cut end terminated (first_of_next place item.ended item.text item.line mid next)
  of_ended Unterminated text' line' mid' other items last is lefts first cut end terminated = absurd (cc)
  of_ended PastLimit text' line' mid' other items last is lefts first cut end terminated = absurd (cc)

-- an item of such a text is no text without terminator, and the rest is such a text
continues : (place : Rest) (items : List Item) (other last : Rest) → other.left ≡ place.left → CutsTo other items last → IsAtEnd last → AreTerminated items → (item : Item) (mid : Rest) → Next place item mid → Continues place.left item.ended mid
continues place [] other last lefts cut end terminated = λ item mid next.
    none_at_end place item.ended item.text item.line mid other lefts (let P : Rest → Type 0 = λ x. IsAtEnd x in subst P cut end) (first_of_next place item.ended item.text item.line mid next)
continues place (i ∷ items) other last lefts (mid', next', cut) end terminated =
    of_ended place i.ended i.text i.line mid' other items last terminated.0 lefts (first_of_next other i.ended i.text i.line mid' next') cut end terminated.1

pub ended_after : (place mid : Rest) (item : Item) → IsEnded place.left → Next place item mid → IsTrue (is_terminated item.ended) → IsEnded mid.left
ended_after place mid item ended next is = (continues place ended.items ended.place ended.has.last ended.left_is ended.has.cut ended.has.end ended.terminated item mid next).rest is

pub not_open : (place mid : Rest) (item : Item) → IsEnded place.left → Next place item mid → item.ended ≢ Unterminated
not_open place mid item ended next = (continues place ended.items ended.place ended.has.last ended.left_is ended.has.cut ended.has.end ended.terminated item mid next).closed

some_more : (past more : List ℕ) → past ≢ [] → past ++ more ≢ []
some_more [] more some = λ none. absurd (some refl)
some_more (b ∷ bs) more some = λ none. cc

past_stays : (ended : Ended) (text : List ℕ) (line : ℕ) (place mid : Rest) (more : List ℕ) → ended ≡ PastLimit → Next place (record { text = text; line = line; ended = ended }) mid
    → Next (with_more place more) (record { text = text; line = line; ended = ended }) mid
past_stays (Terminated shown) text line place mid more is next = absurd (cc)
past_stays Unterminated text line place mid more is next = absurd (cc)
past_stays PastLimit text line place mid more is next = off next.cut
  where
    off : CutsOff place next.before text mid → Next (with_more place more) (record { text = text; line = line; ended = PastLimit }) mid
    off cut = record {
      before = next.before;
      cut = record {
        no_command = cut.no_command;
        full = cut.full;
        past = cut.past ++ more;
        more = some_more cut.past more cut.more;
        split = ap (λ (xs : List ℕ). xs ++ more) cut.split ∙ simp append_assoc;
        no_text = cut.no_text;
        nothing_left = cut.nothing_left;
        no_room = cut.no_room;
      };
      line_is = next.line_is;
      next_line = next.next_line;
    }

-- nothing comes past the limit, whatever more there is
pub next_past_stays : (place mid : Rest) (item : Item) (more : List ℕ) → item.ended ≡ PastLimit → Next place item mid → Next (with_more place more) item mid
next_past_stays place mid item more is next = past_stays item.ended item.text item.line place mid more is next

-- what comes next of a longer text is what comes next of the text, or that is at its end
abbrev pub IsFirstOf : Rest → List ℕ → Item → Rest → Type 0
IsFirstOf place more item mid' =
    ((mid : Rest) × Next place item mid × IsTrue (is_terminated item.ended) × (with_more mid more ≡ mid'))
    ⊎ ((Next place item mid' × (item.ended ≡ PastLimit)) ⊎ IsAtEnd place)

pub first_of_longer : (place : Rest) (more : List ℕ) (item : Item) (mid' : Rest) → IsEnded place.left → Next (with_more place more) item mid' → IsFirstOf place more item mid'
first_of_longer place more item mid' ended next' = by (next_or_end place)
  where
    of_item : (found : Ended) (text : List ℕ) (line : ℕ) (mid : Rest) → Next place (record { text = text; line = line; ended = found }) mid → IsFirstOf place more item mid'
    of_item (Terminated shown) text line mid next =
        let same : Same (record { text = text; line = line; ended = Terminated shown }) item (with_more mid more) mid' = same_next (with_more place more) (record { text = text; line = line; ended = Terminated shown }) item (with_more mid more) mid' (next_stays place mid (record { text = text; line = line; ended = Terminated shown }) more refl next) next' in
        inl (mid, subst (λ (i : Item). Next place i mid) same.item next, subst (λ (i : Item). IsTrue (is_terminated i.ended)) same.item refl, same.place)
    of_item Unterminated text line mid next = absurd (not_open place mid (record { text = text; line = line; ended = Unterminated }) ended next refl)
    of_item PastLimit text line mid next =
        let same : Same (record { text = text; line = line; ended = PastLimit }) item mid mid' = same_next (with_more place more) (record { text = text; line = line; ended = PastLimit }) item mid mid' (past_stays PastLimit text line place mid more refl next) next' in
        inr (inl (subst (λ (p : Rest). Next place item p) same.place (subst (λ (i : Item). Next place i mid) same.item next), ap (λ (i : Item). i.ended) (sym same.item)))

    by : HasNextOrEnd place → IsFirstOf place more item mid'
    by (inl (found, mid, next)) = of_item found.ended found.text found.line mid next
    by (inr end) = inr (inr end)

gaps_prefix : (inside : Bool) (xs ys : List ℕ) → IsTrue (all_gaps inside (xs ++ ys)) → IsTrue (all_gaps inside xs)
gaps_prefix inside [] ys gaps = refl
gaps_prefix inside (x ∷ xs) ys gaps =
    let parts : ((inside || is_gap x) ≡ true) × (all_gaps (comment_after inside x) (xs ++ ys) ≡ true) = both_true (inside || is_gap x) (all_gaps (comment_after inside x) (xs ++ ys)) gaps in
    both (inside || is_gap x) (all_gaps (comment_after inside x) xs) parts.0 (gaps_prefix (comment_after inside x) xs ys parts.1)

-- where a longer text is at its end, the text is
pub end_of_prefix : (place : Rest) (more : List ℕ) → IsAtEnd (with_more place more) → IsAtEnd place
end_of_prefix place more end = record { gaps = gaps_prefix false place.left more end.gaps; within = omega (arith, end.within, length-append place.left more) }
