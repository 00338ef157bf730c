-- Automata read on some of their tracks.
use Rattle.std.proofs.Common.{◌≡◌, ◌==◌, ℕ, zero, suc, ◌+◌, ◌<◌, ◌≤◌, Bool, true, false, List, [], ◌∷◌, ◌++◌, map, length, get_or, Option, None, Some, ◌↔◌, ◌⊎◌, inl, inr, refl, sym, ap, ◌∙◌, subst, true≢false, eq-eqb, arith}
use Rattle.std.specs.List.{All, Contains, range_with_len}
use Rattle.std.specs.Option.{option_and_then, option_map_or}
use Rattle.std.proofs.lemmas.Bool.{cases_lt, eqb-true}
use Rattle.std.proofs.lemmas.Option.{none-some, same_Some}
use Rattle.std.proofs.lemmas.List.{get_or-map, get_or_append_left, get_or_past, get_or_push, length-map, length_push}
use Rattle.std.proofs.lemmas.List.FromFn.{length-map-range_with_len}
use Rattle.std.proofs.lemmas.List.Elements.{All-contains, All-contains_itself, All-from_get_or, All-map}
use Rattle.digit_tuple.specs.Automaton as branching
use Rattle.digit_tuple.specs.Automaton.{Branching, Branch, IsBefore, IsBranchTable, Leads, Path, no_branch}
use Rattle.digit_tuple.specs.Deterministic.{Automaton, IsTable, accepting_of, accepts_from, transitions_of, letters_of, run_of, states_of, step_of}
use Rattle.digit_tuple.specs.Letters.{IsWord, product}
use Rattle.digit_tuple.specs.Paddings.{zeros}
use Rattle.digit_tuple.specs.Parts.{letter_part, part, parts_of_letters, picked}
use Rattle.digit_tuple.specs.declared.direction.Direction.TheVariants.{Lsd}
use Rattle.digit_tuple.specs.declared.transitions.Transition.{Transition}
use Rattle.digit_tuple.proofs.DfaLemmas.{row_at}
use Rattle.digit_tuple.proofs.PartLemmas.{get_or-parts, letter_part-below}
use Rattle.digit_tuple.proofs.RangeLemmas.{All-range}
use Rattle.digit_tuple.proofs.TableLemmas.{from_state}
use Rattle.digit_tuple.specs.AcceptingStates.{AreAccepting}
use Rattle.digit_tuple.specs.Reversed.{IsReversal, branch_at, transition_to}
use Rattle.digit_tuple.proofs.MemberLemmas.{Contains-map, Contains-from_map}
use Rattle.digit_tuple.proofs.ReversedLemmas.{contains_from_target_by, target_by-contains}
use Rattle.residual_classes.proofs.SinkLemmas.{no_transitions_past}
use Rattle.pad_rename.specs.ZeroClosure.{IsOverFlagged, IsReached, flag_at}
use Rattle.pad_rename.proofs.SinkLeads.{accepting_within}
use Rattle.pad_rename.proofs.ZeroClosureLemmas.{IsReached-more}
use Rattle.project_close.specs.Image.{AreRelabelled, IsEnd, IsImage, part_at, relabelled_transition}

-- a state from which a letter leads is there
step_state : (d : Automaton) (p a q : ℕ) → step_of d p a ≡ Some q → p < states_of d
step_state d p a q step = by (cases_lt p (states_of d))
  where
    by : (p < states_of d) ⊎ (states_of d ≤ p) → p < states_of d
    by (inl less) = less
    by (inr past) = absurd (empty (transitions_of d p) (no_transitions_past d p past) (contains_from_target_by (transitions_of d p) a q step))
      where
        empty : (es : List Transition) → es ≡ [] → ¬ Contains es (transition_to a q)
        empty es none there = omega (arith, there.1, ap (λ (xs : List Transition). length xs) none)

-- rows for the states below a number
pub record AreImageRows (d : Automaton) (accepting : List Bool) (parts : List ℕ) (rows : List Branch) (count : ℕ) : Type 0 where
  pub size : length rows ≡ count
  pub accepting_are : (q : ℕ) → q < count → (branch_at rows q).accepting ≡ flag_at accepting q
  pub transitions_are : (q : ℕ) → q < count → AreRelabelled parts (transitions_of d q) (branch_at rows q).transitions

-- one more row
pub AreImageRows-push : (d : Automaton) (accepting : List Bool) (parts : List ℕ) (rows : List Branch) (count : ℕ) (row : Branch) → AreImageRows d accepting parts rows count
    → row.accepting ≡ flag_at accepting count → AreRelabelled parts (transitions_of d count) row.transitions → AreImageRows d accepting parts (rows ++ row ∷ []) (count + 1)
AreImageRows-push d accepting parts rows count row are flag transitions = record {
  size = omega (arith, length_push rows row, are.size);
  accepting_are = λ q low. flag_of q low (cases_lt q count);
  transitions_are = λ q low. transitions_of_row q low (cases_lt q count);
}
  where
    before : (q : ℕ) → q < count → branch_at (rows ++ row ∷ []) q ≡ branch_at rows q
    before q less = get_or_append_left rows (row ∷ []) no_branch q (omega (arith, are.size))

    here : (q : ℕ) → count ≡ q → branch_at (rows ++ row ∷ []) q ≡ row
    here q is = get_or_push rows row no_branch q (are.size ∙ is)

    flag_of : (q : ℕ) → q < count + 1 → (q < count) ⊎ (count ≤ q) → (branch_at (rows ++ row ∷ []) q).accepting ≡ flag_at accepting q
    flag_of q low (inl less) = ap (λ (b : Branch). b.accepting) (before q less) ∙ are.accepting_are q less
    flag_of q low (inr more) = let is : count ≡ q = omega arith in ap (λ (b : Branch). b.accepting) (here q is) ∙ flag ∙ ap (flag_at accepting) is

    transitions_of_row : (q : ℕ) → q < count + 1 → (q < count) ⊎ (count ≤ q) → AreRelabelled parts (transitions_of d q) (branch_at (rows ++ row ∷ []) q).transitions
    transitions_of_row q low (inl less) = subst (λ (b : Branch). AreRelabelled parts (transitions_of d q) b.transitions) (sym (before q less)) (are.transitions_are q less)
    transitions_of_row q low (inr more) =
        let is : count ≡ q = omega arith in
        subst (λ (b : Branch). AreRelabelled parts (transitions_of d q) b.transitions) (sym (here q is)) (subst (λ k. AreRelabelled parts (transitions_of d k) row.transitions) is transitions)

module _ (d : Automaton) (table : IsTable (letters_of d) d.states) (accepting : List Bool) (parts sizes : List ℕ) (rows : List Branch) (are : AreImageRows d accepting parts rows (states_of d)) where
  -- the rows are a table
  pub IsBranchTable-image : length parts ≡ letters_of d → All (λ part. part < product sizes) parts → IsBranchTable (product sizes) rows
  IsBranchTable-image size small = record {
    initial = omega (arith, are.size, table.initial);
    small = omega (arith, are.size, table.part.small);
    rows = All-from_get_or (λ (b : Branch). branching.IsRow (product sizes) (length rows) b.transitions) rows no_branch row;
  }
    where
      transition_in_range : (q : ℕ) → q < states_of d → (transition e : Transition) → Contains (transitions_of d q) transition → relabelled_transition parts transition ≡ e → (e.letter < product sizes) × (e.target < length rows)
      transition_in_range q within transition e there same =
          let range = All-contains (λ (x : Transition). (x.letter < letters_of d) × (x.target < states_of d)) (transitions_of d q) transition (row_at d q table within).in_range there in
          let low : part_at parts transition.letter < product sizes = small transition.letter 0 (omega (arith, range.0, size)) in
          (subst (λ (x : Transition). x.letter < product sizes) same low, omega (arith, range.1, are.size, ap (λ (x : Transition). x.target) same))

      row : (q : ℕ) → q < length rows → branching.IsRow (product sizes) (length rows) (branch_at rows q).transitions
      row q within =
          let low : q < states_of d = omega (arith, within, are.size) in
          record {
            in_range = λ k z inside.
                let e = get_or (branch_at rows q).transitions k z in
                let from = ((are.transitions_are q low).members e).0 (All-contains_itself (branch_at rows q).transitions k z inside) in
                transition_in_range q low from.0 e from.1 from.2;
            ascending = (are.transitions_are q low).ascending;
          }

  -- they are the automaton's, read by other letters
  pub IsImage-rows : (n : Branching) → n ≡ record { sizes = sizes; states = rows } → length accepting ≡ states_of d → IsImage d accepting parts sizes n
  IsImage-rows n is size = subst (IsImage d accepting parts sizes) (sym is) (record {
    sizes_are = refl;
    states = are.size;
    accepting_is = λ q. flag_of q (cases_lt q (states_of d));
    leads = λ p a q. (forth p a q, (λ found. back p a q found.0 found.2 found.3));
  })
    where
      m : Branching
      m = record { sizes = sizes; states = rows }

      flag_of : (q : ℕ) → (q < states_of d) ⊎ (states_of d ≤ q) → (branch_at rows q).accepting ≡ flag_at accepting q
      flag_of q (inl less) = are.accepting_are q less
      flag_of q (inr past) = ap (λ (b : Branch). b.accepting) (get_or_past rows q no_branch (omega (arith, are.size))) ∙ sym (get_or_past accepting q false (omega (arith, size)))

      forth : (p a q : ℕ) → Contains (branch_at rows p).transitions (transition_to a q) → (letter : ℕ) × (letter < letters_of d) × (step_of d p letter ≡ Some q) × (part_at parts letter ≡ a)
      forth p a q there =
          let low : p < states_of d = omega (arith, from_state m p a q there, are.size) in
          let from = ((are.transitions_are p low).members (transition_to a q)).0 there in
          let row = row_at d p table low in
          let target : from.0.target ≡ q = ap (λ (x : Transition). x.target) from.2 in
          let range = All-contains (λ (x : Transition). (x.letter < letters_of d) × (x.target < states_of d)) (transitions_of d p) from.0 row.in_range from.1 in
          (from.0.letter, range.0, target_by-contains (transitions_of d p) from.0.letter from.0.target row.ascending from.1 ∙ ap Some target, ap (λ (x : Transition). x.letter) from.2)

      back : (p a q letter : ℕ) → step_of d p letter ≡ Some q → part_at parts letter ≡ a → Contains (branch_at rows p).transitions (transition_to a q)
      back p a q letter step same =
          ((are.transitions_are p (step_state d p letter q step)).members (transition_to a q)).1
          (transition_to letter q, contains_from_target_by (transitions_of d p) letter q step, ap (λ x. transition_to x q) same)

-- relabelled transitions are those of the list that the code makes
pub relabelled_members : (parts : List ℕ) (transitions : List Transition) (e : Transition) → Contains (map (relabelled_transition parts) transitions) e ↔ ((transition : Transition) × Contains transitions transition × (relabelled_transition parts transition ≡ e))
relabelled_members parts transitions e = (
  Contains-from_map (relabelled_transition parts) transitions e,
  (λ from. subst (Contains (map (relabelled_transition parts) transitions)) from.2 (Contains-map (relabelled_transition parts) transitions from.0 from.1)),
)

-- there is a part for each letter, a letter of the tracks that stay
pub length-parts : (sizes places : List ℕ) → length (parts_of_letters sizes places) ≡ product sizes
length-parts sizes places = length-map-range_with_len (letter_part sizes places) 0 (product sizes)

pub parts-below : (sizes places : List ℕ) → All (λ place. place < length sizes) places → All (λ part. part < product (picked places sizes)) (parts_of_letters sizes places)
parts-below sizes places within = All-map (λ part. part < product (picked places sizes)) (letter_part sizes places) (range_with_len 0 (product sizes)) below
  where
    below : All (λ letter. letter_part sizes places letter < product (picked places sizes)) (range_with_len 0 (product sizes))
    below k z inside = letter_part-below sizes places within (get_or (range_with_len 0 (product sizes)) k z) (All-range (product sizes) k z inside)

module _ (d : Automaton) (accepting : List Bool) (places sizes : List ℕ) (n : Branching) (image : IsImage d accepting (parts_of_letters d.sizes places) sizes n) where
  -- a path is the part of a word that leads there
  pub word_of_path : (w : List ℕ) (p q : ℕ) → Path n p w q → (x : List ℕ) × IsWord (letters_of d) x × (part d.sizes places x ≡ w) × (run_of d p x ≡ Some q)
  word_of_path [] p q path = ([], tt, refl, ap Some path)
  word_of_path (a ∷ w) p q path =
      let step = (image.leads p a path.0).0 path.1 in
      let rest = word_of_path w path.0 q path.2 in
      let letter : letter_part d.sizes places step.0 ≡ a = sym (get_or-parts d.sizes places step.0 0 step.1) ∙ step.3 in
      (step.0 ∷ rest.0, (step.1, rest.1), ap (λ b. b ∷ part d.sizes places rest.0) letter ∙ ap (λ v. a ∷ v) rest.2, ap (λ (o : Option ℕ). option_and_then (λ r. run_of d r rest.0) o) step.2 ∙ rest.3)

  pub path_of_word : (x : List ℕ) (p q : ℕ) → IsWord (letters_of d) x → run_of d p x ≡ Some q → Path n p (part d.sizes places x) q
  path_of_word [] p q over leads = same_Some p q leads
  path_of_word (a ∷ x) p q over leads = by (step_of d p a) refl leads (λ r. path_of_word x r q over.1)
    where
      by : (o : Option ℕ) → step_of d p a ≡ o → option_and_then (λ r. run_of d r x) o ≡ Some q → ((r : ℕ) → run_of d r x ≡ Some q → Path n r (part d.sizes places x) q) → Path n p (part d.sizes places (a ∷ x)) q
      by None is none rest = absurd (none-some q none)
      by (Some r) is some rest = (r, (image.leads p (letter_part d.sizes places a) r).1 (a, over.0, is, get_or-parts d.sizes places a 0 over.0), rest r some)

-- the letters whose part is zero
module _ (sizes places : List ℕ) where
  abbrev pub zero_flags : List Bool
  zero_flags = map (λ n. n == 0) (parts_of_letters sizes places)

  flag_from : (a : ℕ) → a < product sizes → letter_part sizes places a ≡ 0 → flag_at zero_flags a ≡ true
  flag_from a below is =
      get_or-map (λ n. n == 0) (parts_of_letters sizes places) a 0 false (omega (arith, length-parts sizes places))
      ∙ eq-eqb (get_or (parts_of_letters sizes places) a 0) 0 (get_or-parts sizes places a 0 below ∙ is)

  flag_to : (a : ℕ) → flag_at zero_flags a ≡ true → (a < product sizes) × (letter_part sizes places a ≡ 0)
  flag_to a is = by (cases_lt a (product sizes))
    where
      by : (a < product sizes) ⊎ (product sizes ≤ a) → (a < product sizes) × (letter_part sizes places a ≡ 0)
      by (inl below) = (
        below,
        sym (get_or-parts sizes places a 0 below) ∙ eqb-true (get_or (parts_of_letters sizes places) a 0) 0
            (sym (get_or-map (λ n. n == 0) (parts_of_letters sizes places) a 0 false (omega (arith, length-parts sizes places))) ∙ is),
      )
      by (inr past) = absurd (true≢false (sym is ∙ get_or_past zero_flags a false (omega (arith, length-parts sizes places, length-map (parts_of_letters sizes places) (λ n. n == 0)))))

  -- a word over them has zeros alone as its part
  pub zeros_of_flagged : (u : List ℕ) → IsOverFlagged zero_flags u → IsWord (product sizes) u × ((k : ℕ) × (part sizes places u ≡ zeros k))
  zeros_of_flagged [] over = (tt, (0, refl))
  zeros_of_flagged (a ∷ u) over =
      let here = flag_to a over.0 in
      let rest = zeros_of_flagged u over.1 in
      ((here.0, rest.0), (suc rest.1.0, ap (λ b. b ∷ part sizes places u) here.1 ∙ ap (λ v. 0 ∷ v) rest.1.1))

  pub flagged_of_zeros : (u : List ℕ) (k : ℕ) → IsWord (product sizes) u → part sizes places u ≡ zeros k → IsOverFlagged zero_flags u
  flagged_of_zeros [] k over is = tt
  flagged_of_zeros (a ∷ u) zero over is = absurd (let size = ap (λ (v : List ℕ). length v) is in omega (arith, size))
  flagged_of_zeros (a ∷ u) (suc k) over is =
      let head : letter_part sizes places a ≡ 0 = ap (λ (v : List ℕ). get_or v 0 0) is in
      let tail : part sizes places u ≡ zeros k = cc in
      (flag_from a over.0 head, flagged_of_zeros u k over.1 tail)

-- with the least significant digit first, the states at which a word may end
module _ (d : Automaton) (places : List ℕ) (turned : Branching) (reversal : IsReversal d turned) (last : List ℕ) (accepting : (q : ℕ) → Contains last q ↔ (accepting_of d q ≡ true)) where
  abbrev zero_letters : List Bool
  zero_letters = zero_flags d.sizes places

  -- along a reversed path zeros are read from its end to an accepting state
  zeros_along : (w u : List ℕ) (p q : ℕ) → accepts_from d p u ≡ true → IsOverFlagged zero_letters u → IsOverFlagged zero_letters w → Path turned p w q
      → (v : List ℕ) × IsOverFlagged zero_letters v × (accepts_from d q v ≡ true)
  zeros_along [] u p q accepts zeros_u zeros_w path = (u, zeros_u, subst (λ r. accepts_from d r u ≡ true) path accepts)
  zeros_along (a ∷ w) u p q accepts zeros_u zeros_w path =
      let step = (reversal.leads p a path.0).0 path.1 in
      zeros_along w (a ∷ u) path.0 q (ap (λ (o : Option ℕ). option_map_or (λ s. accepts_from d s u) o false) step.1 ∙ accepts) (zeros_w.0, zeros_u) zeros_w.1 path.2

  -- and zeros that are read to an accepting state turn into a path from it
  reached_along : (u : List ℕ) (q : ℕ) → accepts_from d q u ≡ true → IsOverFlagged zero_letters u → IsReached turned zero_letters last q
  reached_along [] q accepts zeros_u = (q, (accepting q).1 accepts, ([], tt, refl))
  reached_along (a ∷ u) q accepts zeros_u = by (step_of d q a) refl accepts (λ r more. reached_along u r more zeros_u.1)
    where
      by : (o : Option ℕ) → step_of d q a ≡ o → option_map_or (λ s. accepts_from d s u) o false ≡ true → ((r : ℕ) → accepts_from d r u ≡ true → IsReached turned zero_letters last r) → IsReached turned zero_letters last q
      by None is none rest = absurd (true≢false (sym none))
      by (Some r) is some rest = IsReached-more turned zero_letters last r q (rest r some)
          (transition_to a q, (reversal.leads r a q).1 (step_state d q a r is, is), zeros_u.0, refl)

  pub ends_at : (q : ℕ) → IsReached turned zero_letters last q ↔ ((u : List ℕ) × IsWord (letters_of d) u × ((k : ℕ) × (part d.sizes places u ≡ zeros k)) × (accepts_from d q u ≡ true))
  ends_at q = (forth, back)
    where
      forth : IsReached turned zero_letters last q → (u : List ℕ) × IsWord (letters_of d) u × ((k : ℕ) × (part d.sizes places u ≡ zeros k)) × (accepts_from d q u ≡ true)
      forth reached =
          let found = zeros_along reached.2.0 [] reached.0 q ((accepting reached.0).0 reached.1) tt reached.2.1 reached.2.2 in
          let both = zeros_of_flagged d.sizes places found.0 found.1 in
          (found.0, both.0, both.1, found.2)

      back : (u : List ℕ) × IsWord (letters_of d) u × ((k : ℕ) × (part d.sizes places u ≡ zeros k)) × (accepts_from d q u ≡ true) → IsReached turned zero_letters last q
      back found = reached_along found.0 q found.3 (flagged_of_zeros d.sizes places found.0 found.2.0 found.1 found.2.1)

-- so the search from the accepting states finds them
pub IsEnd-reached : (d : Automaton) (places parts : List ℕ) → parts ≡ parts_of_letters d.sizes places → (turned : Branching) → IsReversal d turned
    → (last : List ℕ) → AreAccepting d last → (zero_is : List Bool) → zero_is ≡ map (λ n. n == 0) parts → (q : ℕ) → IsReached turned zero_is last q ↔ IsEnd Lsd d places q
IsEnd-reached d places parts are turned reversal last accepting zero_is zeros_are q =
    subst (λ (fs : List Bool). IsReached turned fs last q ↔ IsEnd Lsd d places q) (sym (zeros_are ∙ ap (λ (ps : List ℕ). map (λ n. n == 0) ps) are))
    (ends_at d places turned reversal last (λ p. ((λ there. ((accepting.members p).0 there).1), (λ is. (accepting.members p).1 (accepting_within d p is, is)))) q)
