-- The text of an automaton, read again: it lists the automaton.
use Rattle.std.proofs.Common.{◌≡◌, ℕ, zero, suc, ◌+◌, ◌/◌, ◌%◌, ◌*◌, ◌^◌, ◌<◌, ◌≤◌, Bool, true, false, ◌&&◌, cond, eqb, ltb, codes, decimal, List, [], ◌∷◌, ◌++◌, map, length, take, get_or, ℤ, pos, Option, None, Some, Ok, Err, append-nil, refl, sym, ap, ◌∙◌, subst, arith}
use Rattle.std.specs.Fmt.{signed_decimal}
use Rattle.std.specs.List.{AllByRecursion, AllZip, slice_split, flat_map, join_by, range_with_len, position_or_len}
use Rattle.std.specs.Option.{IfSome}
use Rattle.std.proofs.lemmas.Bool.{eq-eqb, ne_eqb}
use Rattle.std.proofs.lemmas.Bool.Decides.{nat_tests}
use Rattle.std.proofs.lemmas.Nat.{div_below, mod_below, div-add-mod'}
use Rattle.std.proofs.lemmas.List.{take_more, take_all, length-take-le}
use Rattle.std.proofs.lemmas.List.Elements.{recursion_from_All}
use Rattle.std.proofs.lemmas.List.FromFn.{length-range_with_len, get_or-range_with_len, length-map-range_with_len, get_or-map-range_with_len}
use Rattle.std.proofs.lemmas.List.Sums.{position_or_len_is}
use Rattle.std.proofs.Math.Bool.{and-false}
use Rattle.text_grammar.specs.Bytes.{is_line_end}
use Rattle.digit_tuple.specs.Deterministic.{Automaton, letters_of, states_of, transitions_of, accepting_of, step_of}
use Rattle.digit_tuple.specs.Headers.{sets_of}
use Rattle.digit_tuple.specs.Letters.{product, code_of, AreDigits}
use Rattle.digit_tuple.specs.Sets.{sizes_of, members_at}
use Rattle.digit_tuple.specs.Systems.{digit_sets}
use Rattle.digit_tuple.specs.declared.header.Header.{Header}
use Rattle.digit_tuple.specs.declared.header.Header.TheVariants.{Sets, Systems}
use Rattle.digit_tuple.specs.declared.systems.SystemTrack.{SystemTrack}
use Rattle.digit_tuple.proofs.DfaLemmas.{row_at, target_by-in_range}
use Rattle.digit_tuple.proofs.LetterLemmas.{positive_right}
use Rattle.digit_tuple.proofs.AllLemmas.{all_append, all_weaker}
use Rattle.dfa_reading.specs.Lines.{is_passed, line_after, each_of}
use Rattle.dfa_reading.specs.Headers as file
use Rattle.dfa_reading.specs.Headers.{Digits, Members, Below, digits_in, has_states, header_of}
use Rattle.dfa_reading.specs.Systems.{digit_limit}
use Rattle.dfa_reading.specs.Listed.{ListedLine, Listed}
use Rattle.dfa_reading.specs.Entries.{State}
use Rattle.dfa_reading.specs.declared.outputs.Outputs.{Outputs}
use Rattle.dfa_reading.specs.declared.outputs.Outputs.TheVariants.{Numbers}
use Rattle.dfa_reading.specs.Reading.{no_draft, add_line, then_read, add_lines, state_at, placed_lines, lists, finish, relation_of}
use Rattle.dfa_reading.proofs.ReadDrafts.{add_lines-step}
use Rattle.dfa_text.specs.Meaning.{IsTrackSet}
use Rattle.dfa_text.specs.Parts.{state_text, text_of_lines}
use Rattle.dfa_text.specs.RelationText.{header_line, tuple_of, step_line, step_lines, steps_lines, state_lines, word_text, output_listed, outputs_of, relation_text}
use Rattle.dfa_text.specs.Lists.{names_of, header_listed, digits_of_letter, step_listed, steps_listed, word_listed, IsSystemTrack, IsFileHeader, IsAutomatonUnder, TextListsAutomaton}
use Rattle.dfa_text.proofs.Counting.{numbers_more}
use Rattle.dfa_text.proofs.ListedParts.{printable}
use Rattle.dfa_text.proofs.PrintedDrafts.{draft, lines_in, passed_line, header_line-added, entry_line, HasRead, read_more, read_none, read_entry, new_number}
use Rattle.dfa_text.proofs.PrintedParts.{Avoids, spares_byte, passed_empty}
use Rattle.dfa_text.proofs.PrintedHeaders.{IsPrintable, header_avoids, header_is_read}
use Rattle.dfa_text.proofs.PrintedNames.{sets_read, systems_read, names_are_read, names_avoid}
use Rattle.dfa_text.proofs.PrintedEntries.{IsOutput, tuple_text, state_is_read, state_avoids, tuple_is_read, tuple_line_avoids}
use Rattle.dfa_text.proofs.PrintedTracks.{IsReadable, readable_set, readable_system, members_fit, digits_read, state_read, IsReadAs, step_read}
use Rattle.dfa_text.proofs.PrintedTuples.{lines_of-text}
use Rattle.dfa_text.proofs.TupleSteps.{tuple_of_code, length-members}

-- the line of a tuple
pub step_text : (tuple : List ℤ) (t : ℕ) → tuple_text tuple (t ∷ []) ≡ step_line tuple t
step_text tuple t = ap (λ s. join_by signed_decimal (codes " ") tuple ++ (codes " -> " ++ s)) (append-nil (decimal t))

pub weaker : (o : Option ℕ) (m n : ℕ) → m ≤ n → IfSome o (λ t. t < m) → IfSome o (λ t. t < n)
weaker None m n le h = tt
weaker (Some t) m n le h = omega (arith, h)

-- what holds of all that each number gives
pub all_numbers : {X : Type 0} (P : X → Type 0) (f : ℕ → List X) (a n : ℕ) → ((i : ℕ) → i < a + n → AllByRecursion P (f i)) → AllByRecursion P (flat_map f (range_with_len a n))
all_numbers P f a zero h = tt
all_numbers P f a (suc n) h = all_append P (f a) (flat_map f (range_with_len (a + 1) n)) (h a (omega arith)) (all_numbers P f (a + 1) n (λ i lt. h i (omega arith)))

-- each number that a step leads to fits 32 bits
abbrev Fits32 : Option ℕ → Type 0
Fits32 o = IfSome o (λ t. t < 2 ^ 32)

-- an automaton under a header whose text can be read again
pub record IsPrinted (header : Header) (d : Automaton) : Type 0 where
  pub states : has_states (header_listed header) ≡ true
  pub not_skipped : is_passed (header_line header) ≡ false
  pub read : header_of (header_line header) ≡ Some (header_listed header)
  pub whole : Avoids is_line_end (header_line header)
  pub tuples : (letter : ℕ) → letter < letters_of d → IsReadAs (digits_in (header_listed header)) (tuple_of (sets_of header) letter) (digits_of_letter d.sizes letter)
  pub some : 0 < states_of d
  pub small : states_of d < 2 ^ 32
  pub steps : (q letter : ℕ) → q < states_of d → IfSome (step_of d q letter) (λ t. t < states_of d)

-- the lines of the text
abbrev pub printed_lines : Header → Automaton → List (Option ℤ) → List (List ℕ)
printed_lines header d outputs = header_line header ∷ flat_map (state_lines (sets_of header) d outputs) (range_with_len 0 (states_of d))

-- the text has these lines, and they are read as a draft that lists the automaton
pub record IsDrafted (o : Outputs) (header : Header) (d : Automaton) (outputs : List (Option ℤ)) : Type 0 where
  pub numbered : List (ℕ × ListedLine)
  pub lines : slice_split is_line_end (text_of_lines (printed_lines header d outputs)) ≡ printed_lines header d outputs ++ [] ∷ []
  pub read : add_lines o 1 no_draft (printed_lines header d outputs ++ [] ∷ []) ≡ Ok (draft (header_listed header) (range_with_len 0 (states_of d)) outputs numbered)
  pub lists : lines_in numbered ≡ flat_map (steps_listed d) (range_with_len 0 (states_of d))

-- an output for each state, which the format has
pub record ArePrinted (o : Outputs) (d : Automaton) (outputs : List (Option ℤ)) : Type 0 where
  pub count : length outputs ≡ states_of d
  pub fit : (q : ℕ) → q < states_of d → IsOutput o (get_or outputs q None)

module _ (o : Outputs) (fh : file.Header) (states : has_states fh ≡ true) (ns : List ℕ) (os : List (Option ℤ)) (q : ℕ) (long : length os ≡ suc q) where
  read_step : (tuple : List ℤ) (digits : List ℕ) (to : Option ℕ) → IsReadAs (digits_in fh) tuple digits → Fits32 to → (lines : List (ℕ × ListedLine)) (at : ℕ) (rest : List (List ℕ)) → HasRead o fh ns os lines at (step_lines tuple to) rest ns os (step_listed q digits to)
  read_step tuple digits None h k lines at rest = read_none o fh ns os lines at rest
  read_step [] digits (Some t) h k lines at rest = absurd (omega (arith, h.some))
  read_step (m ∷ ms) digits (Some t) h k lines at rest =
      subst (λ (line : List ℕ). HasRead o fh ns os lines at (line ∷ []) rest ns os (step_listed q digits (Some t))) (step_text (m ∷ ms) t)
      (read_entry o fh ns os q lines at (tuple_text (m ∷ ms) (t ∷ [])) (map Some digits) (t ∷ []) rest states long (tuple_is_read m ms (t ∷ []) h.fits) (step_read o (digits_in fh) m ms digits t h k))

  -- the lines of numbers, one after another
  read_each : (f : ℕ → List (List ℕ)) (g : ℕ → List ListedLine) → (a n : ℕ) → ((i : ℕ) → i < a + n → (lines : List (ℕ × ListedLine)) (at : ℕ) (rest : List (List ℕ)) → HasRead o fh ns os lines at (f i) rest ns os (g i))
      → (lines : List (ℕ × ListedLine)) (at : ℕ) (rest : List (List ℕ)) → HasRead o fh ns os lines at (flat_map f (range_with_len a n)) rest ns os (flat_map g (range_with_len a n))
  read_each f g a zero h lines at rest = read_none o fh ns os lines at rest
  read_each f g a (suc n) h lines at rest =
      let first = h a (omega arith) lines at (flat_map f (range_with_len (a + 1) n) ++ rest) in
      read_more o fh ns ns ns os os os lines at (f a) (flat_map f (range_with_len (a + 1) n)) rest (g a) (flat_map g (range_with_len (a + 1) n)) first
      (read_each f g (a + 1) n (λ i lt. h i (omega arith)) (lines ++ first.numbered) first.next rest)

module _ (o : Outputs) (header : Header) (d : Automaton) (outputs : List (Option ℤ)) (over : IsPrinted header d) (are : ArePrinted o d outputs) where
  fits : (q letter : ℕ) → q < states_of d → Fits32 (step_of d q letter)
  fits q letter within = let small : states_of d ≤ 2 ^ 32 = omega (arith, over.small) in weaker (step_of d q letter) (states_of d) (2 ^ 32) small (over.steps q letter within)

  -- a blank line, a state and its lines
  read_state : (lines : List (ℕ × ListedLine)) (at q : ℕ) (rest : List (List ℕ)) → q < states_of d
      → HasRead o (header_listed header) (range_with_len 0 q) (take q outputs) lines at (state_lines (sets_of header) d outputs q) rest (range_with_len 0 (q + 1)) (take (q + 1) outputs) (steps_listed d q)
  read_state lines at q rest within =
      let fh = header_listed header in
      let sets = sets_of header in
      let small : q < 2 ^ 32 = omega (arith, over.small) in
      let ns = range_with_len 0 q in
      let os = take q outputs in
      let long : length (take (q + 1) outputs) ≡ suc q = omega (arith, length-take-le (q + 1) outputs (omega (arith, within, are.count))) in
      let z = get_or outputs q None in
      let z_fits = are.fit q within in
      let more : take (q + 1) outputs ≡ take q outputs ++ z ∷ [] = take_more outputs q None (omega (arith, within, are.count)) in
      let steps = read_each o fh over.states (range_with_len 0 (q + 1)) (take (q + 1) outputs) q long (λ letter. step_lines (tuple_of sets letter) (step_of d q letter)) (λ letter. step_listed q (digits_of_letter d.sizes letter) (step_of d q letter)) 0 (letters_of d)
      (λ letter lt. let inside : letter < letters_of d = omega arith in read_step o fh over.states (range_with_len 0 (q + 1)) (take (q + 1) outputs) q long (tuple_of sets letter) (digits_of_letter d.sizes letter) (step_of d q letter) (over.tuples letter inside) (fits q letter within)) lines (at + 1 + 1) rest in
      let text = state_text q z in
      let below = steps_lines sets d q ++ rest in
      let blank : add_lines o at (draft fh ns os lines) ([] ∷ text ∷ below) ≡ add_lines o (at + 1) (draft fh ns os lines) (text ∷ below) =
      add_lines-step o at (draft fh ns os lines) (draft fh ns os lines) [] (text ∷ below) (passed_line o at (draft fh ns os lines) [] passed_empty) in
      let added : add_line o (at + 1) (draft fh ns os lines) text ≡ Some (draft fh (range_with_len 0 (q + 1)) (take (q + 1) outputs) lines) =
      entry_line o (at + 1) fh ns os lines text (State q z) over.states (state_is_read q z small) (state_read o (digits_in fh) q z small z_fits)
      ∙ ap (λ b. cond b None (Some (draft fh (ns ++ q ∷ []) (os ++ z ∷ []) lines))) (new_number 0 q q (omega arith))
      ∙ ap (λ n. Some (draft fh n (os ++ z ∷ []) lines)) (sym (numbers_more q)) ∙ ap (λ os'. Some (draft fh (range_with_len 0 (q + 1)) os' lines)) (sym more) in
      record {
        numbered = steps.numbered;
        next = steps.next;
        read = blank ∙ add_lines-step o (at + 1) (draft fh ns os lines) (draft fh (range_with_len 0 (q + 1)) (take (q + 1) outputs) lines) text below added ∙ steps.read;
        lists = steps.lists;
      }

  read_states : (lines : List (ℕ × ListedLine)) (at q n : ℕ) (rest : List (List ℕ)) → q + n ≤ states_of d
      → HasRead o (header_listed header) (range_with_len 0 q) (take q outputs) lines at (flat_map (state_lines (sets_of header) d outputs) (range_with_len q n)) rest (range_with_len 0 (q + n)) (take (q + n) outputs) (flat_map (steps_listed d) (range_with_len q n))
  read_states lines at q zero rest within =
      let same : q ≡ q + 0 = omega arith in
      subst (λ (m : ℕ). HasRead o (header_listed header) (range_with_len 0 q) (take q outputs) lines at [] rest (range_with_len 0 m) (take m outputs) []) same (read_none o (header_listed header) (range_with_len 0 q) (take q outputs) lines at rest)
  read_states lines at q (suc n) rest within =
      let fh = header_listed header in
      let f = state_lines (sets_of header) d outputs in
      let same : q + 1 + n ≡ q + suc n = omega arith in
      let first = read_state lines at q (flat_map f (range_with_len (q + 1) n) ++ rest) (omega arith) in
      let more = read_states (lines ++ first.numbered) first.next (q + 1) n rest (omega arith) in
      subst (λ (m : ℕ). HasRead o fh (range_with_len 0 q) (take q outputs) lines at (flat_map f (range_with_len q (suc n))) rest (range_with_len 0 m) (take m outputs) (flat_map (steps_listed d) (range_with_len q (suc n)))) same
      (read_more o fh (range_with_len 0 q) (range_with_len 0 (q + 1)) (range_with_len 0 (q + 1 + n)) (take q outputs) (take (q + 1) outputs) (take (q + 1 + n) outputs) lines at (f q) (flat_map f (range_with_len (q + 1) n)) rest (steps_listed d q) (flat_map (steps_listed d) (range_with_len (q + 1) n)) first more)

-- the number of a state is its place
own_place : (n t : ℕ) → t < n → state_at (range_with_len 0 n) t ≡ Some t
own_place n t lt =
    let long = length-range_with_len 0 n in
    let is : position_or_len (λ m. eqb t m) (range_with_len 0 n) ≡ t = position_or_len_is (λ m. eqb t m) (range_with_len 0 n) t 0 (omega arith) (λ k less. other k less) (λ low. eq-eqb t (get_or (range_with_len 0 n) t 0) (let at = get_or-range_with_len 0 n t 0 lt in omega arith)) in
    let inside : ltb (position_or_len (λ m. eqb t m) (range_with_len 0 n)) (length (range_with_len 0 n)) ≡ true = grind (arith, nat_tests) in
    ap (λ b. cond b (Some (position_or_len (λ m. eqb t m) (range_with_len 0 n))) None) inside ∙ ap Some is
  where
    other : (k : ℕ) → k < t → eqb t (get_or (range_with_len 0 n) k 0) ≡ false
    other k less = ne_eqb t (get_or (range_with_len 0 n) k 0) (λ e. let at = get_or-range_with_len 0 n k 0 (omega arith) in omega arith)

own_places : (n : ℕ) (targets : List ℕ) → AllByRecursion (λ t. t < n) targets → each_of (state_at (range_with_len 0 n)) targets ≡ Some targets
own_places n [] h = refl
own_places n (t ∷ targets) h = rw (own_place n t h.0, own_places n targets h.1) refl

placed_same : (n : ℕ) (lines : List (ℕ × ListedLine)) → AllByRecursion (λ (line : ListedLine). AllByRecursion (λ t. t < n) line.targets) (lines_in lines) → placed_lines (range_with_len 0 n) lines ≡ Ok (lines_in lines)
placed_same n [] h = refl
placed_same n (line ∷ lines) h = rw (own_places n line.1.targets h.0, placed_same n lines h.1) refl

-- each line is one line
step_avoids : (tracks : List Digits) (tuple : List ℤ) (digits : List ℕ) (o : Option ℕ) → IsReadAs tracks tuple digits → Fits32 o → AllByRecursion (Avoids is_line_end) (step_lines tuple o)
step_avoids tracks tuple digits None h k = tt
step_avoids tracks [] digits (Some t) h k = absurd (omega (arith, h.some))
step_avoids tracks (m ∷ ms) digits (Some t) h k = (subst (λ (line : List ℕ). Avoids is_line_end line) (step_text (m ∷ ms) t) (tuple_line_avoids m ms (t ∷ []) h.fits (k, tt)), tt)

step_below : (count q : ℕ) (digits : List ℕ) (o : Option ℕ) → IfSome o (λ t. t < count) → AllByRecursion (λ (line : ListedLine). AllByRecursion (λ t. t < count) line.targets) (step_listed q digits o)
step_below count q digits None h = tt
step_below count q digits (Some t) h = ((h, tt), tt)

finished : (after : ℕ) (fh : file.Header) (numbers : List ℕ) (outputs : List (Option ℤ)) (lines : List (ℕ × ListedLine)) → 0 < length outputs → placed_lines numbers lines ≡ Ok (lines_in lines) → finish after (draft fh numbers outputs lines) ≡ Ok (record { header = fh; outputs = outputs; lines = lines_in lines })
finished after fh numbers outputs lines some placed =
    ap (λ b. cond (has_states fh && b) (Err after) (lists fh (draft fh numbers outputs lines))) (ne_eqb (length outputs) 0 (λ e. absurd (omega arith)))
    ∙ ap (λ b. cond b (Err after) (lists fh (draft fh numbers outputs lines))) (and-false (has_states fh))
    ∙ ap (λ r. then_read r (λ ls. Ok (let l : Listed = record { header = fh; outputs = outputs; lines = ls } in l))) placed

module _ (o : Outputs) (header : Header) (d : Automaton) (outputs : List (Option ℤ)) (over : IsPrinted header d) (are : ArePrinted o d outputs) where
  avoids : AllByRecursion (Avoids is_line_end) (flat_map (state_lines (sets_of header) d outputs) (range_with_len 0 (states_of d)))
  avoids = all_numbers (Avoids is_line_end) (state_lines (sets_of header) d outputs) 0 (states_of d) (λ q lt.
      let within : q < states_of d = omega arith in (
        tt,
        (
          state_avoids is_line_end (spares_byte 10 refl refl) refl o q (get_or outputs q None) (omega (arith, over.small)) (are.fit q within),
          all_numbers (Avoids is_line_end) (λ letter. step_lines (tuple_of (sets_of header) letter) (step_of d q letter)) 0 (letters_of d) (λ letter low.
              let inside : letter < letters_of d = omega arith in
              step_avoids (digits_in (header_listed header)) (tuple_of (sets_of header) letter) (digits_of_letter d.sizes letter) (step_of d q letter) (over.tuples letter inside) (fits o header d outputs over are q letter within)),
        ),
      ))

  below : AllByRecursion (λ (line : ListedLine). AllByRecursion (λ t. t < states_of d) line.targets) (flat_map (steps_listed d) (range_with_len 0 (states_of d)))
  below = all_numbers (λ (line : ListedLine). AllByRecursion (λ t. t < states_of d) line.targets) (steps_listed d) 0 (states_of d) (λ q lt.
      let within : q < states_of d = omega arith in
      all_numbers (λ (line : ListedLine). AllByRecursion (λ t. t < states_of d) line.targets) (λ letter. step_listed q (digits_of_letter d.sizes letter) (step_of d q letter)) 0 (letters_of d) (λ letter low. step_below (states_of d) q (digits_of_letter d.sizes letter) (step_of d q letter) (over.steps q letter within)))

  -- the printed lines are read as this draft, which lists the automaton
  pub drafted : IsDrafted o header d outputs
  drafted =
      let fh = header_listed header in
      let n = states_of d in
      let numbers = range_with_len 0 n in
      let body = flat_map (state_lines (sets_of header) d outputs) (range_with_len 0 n) in
      let read = read_states o header d outputs over are [] 2 0 n ([] ∷ []) (omega arith) in
      let zero_more : 0 + n ≡ n = omega arith in
      let reached : add_lines o 2 (draft fh [] [] []) (body ++ [] ∷ []) ≡ add_lines o read.next (draft fh numbers (take n outputs) read.numbered) ([] ∷ []) =
      read.read ∙ ap (λ (m : ℕ). add_lines o read.next (draft fh (range_with_len 0 m) (take m outputs) read.numbered) ([] ∷ [])) zero_more in
      let last : add_lines o read.next (draft fh numbers (take n outputs) read.numbered) ([] ∷ []) ≡ Ok (draft fh numbers (take n outputs) read.numbered) =
      add_lines-step o read.next (draft fh numbers (take n outputs) read.numbered) (draft fh numbers (take n outputs) read.numbered) [] [] (passed_line o read.next (draft fh numbers (take n outputs) read.numbered) [] passed_empty) in
      let all : take n outputs ≡ outputs = take_all n outputs (omega (arith, are.count)) in
      record {
        numbered = read.numbered;
        lines = lines_of-text (printed_lines header d outputs) (over.whole, avoids);
        read = add_lines-step o 1 no_draft (draft fh [] [] []) (header_line header) (body ++ [] ∷ []) (header_line-added o (header_line header) fh over.not_skipped over.read) ∙ reached ∙ last
            ∙ ap (λ os. Ok (draft fh numbers os read.numbered)) all;
        lists = read.lists;
      }

  pub finish_printed : (after : ℕ) (numbered : List (ℕ × ListedLine)) → lines_in numbered ≡ flat_map (steps_listed d) (range_with_len 0 (states_of d)) → finish after (draft (header_listed header) (range_with_len 0 (states_of d)) outputs numbered) ≡ Ok (word_listed header d outputs)
  finish_printed after numbered lists =
      let fh = header_listed header in
      let n = states_of d in
      let placed : placed_lines (range_with_len 0 n) numbered ≡ Ok (lines_in numbered) = placed_same n numbered (subst (λ (l : List ListedLine). AllByRecursion (λ (line : ListedLine). AllByRecursion (λ t. t < n) line.targets) l) (sym lists) below) in
      finished after fh (range_with_len 0 n) outputs numbered (omega (arith, over.some, are.count)) placed
      ∙ ap (λ ls. Ok (let l : Listed = record { header = fh; outputs = outputs; lines = ls } in l)) lists

relation_of-printed : (header : Header) (d : Automaton) (outputs : List (Option ℤ)) → IsPrinted header d → ArePrinted Numbers d outputs → relation_of (word_text header d outputs) ≡ Ok (word_listed header d outputs)
unfolding relation_of word_text
relation_of-printed header d outputs over are =
    let text = printed_lines header d outputs in
    let is = drafted Numbers header d outputs over are in
    ap (λ ls. then_read (add_lines Numbers 1 no_draft ls) (finish (line_after ls))) is.lines
    ∙ ap (λ r. then_read r (finish (line_after (text ++ [] ∷ [])))) is.read
    ∙ finish_printed Numbers header d outputs over are (line_after (text ++ [] ∷ [])) is.numbered is.lists

-- the digits of a letter
pub letter_digits : (sizes : List ℕ) (letter : ℕ) → letter < product sizes → AreDigits sizes (digits_of_letter sizes letter) × (code_of sizes (digits_of_letter sizes letter) ≡ letter)
letter_digits [] letter below = (tt, omega (arith, below))
letter_digits (s ∷ ss) letter below =
    let positive : 0 < product ss = positive_right s (product ss) (omega (arith, below)) in
    let rest = letter_digits ss (letter % product ss) (mod_below letter (product ss) positive) in
    ((div_below letter (product ss) s positive below, rest.0), ap (λ n. letter / product ss * product ss + n) rest.1 ∙ div-add-mod' letter (product ss))

-- the tracks of a header
readable_sets : (sets : List (List ℤ)) → AllByRecursion IsPrintable sets → AllZip IsReadable (map Members sets) sets
readable_sets [] h = tt
readable_sets (set ∷ sets) h = (readable_set set h.0, readable_sets sets h.1)

readable_systems : (systems : List SystemTrack) → AllByRecursion IsSystemTrack systems → AllZip IsReadable (map (λ name. Below (digit_limit name)) (names_of systems)) (digit_sets systems)
readable_systems [] h = tt
readable_systems (system ∷ systems) h = (readable_system system.digits (digit_limit system.name) h.0.count h.0.within, readable_systems systems h.1)

-- what is known of a header that a file may have
record IsHeaderRead (header : Header) : Type 0 where
  some : 0 < length (sets_of header)
  states : has_states (header_listed header) ≡ true
  not_skipped : is_passed (header_line header) ≡ false
  read : header_of (header_line header) ≡ Some (header_listed header)
  whole : Avoids is_line_end (header_line header)
  tracks : AllZip IsReadable (digits_in (header_listed header)) (sets_of header)

header_read : (header : Header) → IsFileHeader header → IsHeaderRead header
header_read (Sets []) h = absurd (omega (arith, h.some))
header_read (Sets (set ∷ sets)) h =
    let each : AllByRecursion IsPrintable (set ∷ sets) = all_weaker IsTrackSet IsPrintable printable (set ∷ sets) (recursion_from_All IsTrackSet (set ∷ sets) h.each) in
    record {
      some = h.some;
      states = refl;
      not_skipped = header_is_read set sets;
      read = sets_read set sets each;
      whole = header_avoids is_line_end (spares_byte 10 refl refl) refl refl refl refl (set ∷ sets) each;
      tracks = readable_sets (set ∷ sets) each;
    }
header_read (Systems []) h = let none : None ≡ Some (names_of []) = h.alike in absurd (cc)
header_read (Systems (system ∷ systems)) h =
    let each : AllByRecursion IsSystemTrack (system ∷ systems) = recursion_from_All IsSystemTrack (system ∷ systems) h.each in
    record {
      some = omega arith;
      states = refl;
      not_skipped = names_are_read system systems each.0;
      read = systems_read system systems each h.alike;
      whole = names_avoid system systems each;
      tracks = readable_systems (system ∷ systems) each;
    }

pub printed_under : (header : Header) (d : Automaton) → IsAutomatonUnder header d → IsPrinted header d
printed_under header d over = record {
  states = known.states;
  not_skipped = known.not_skipped;
  read = known.read;
  whole = known.whole;
  tuples = tuple;
  some = over.table.initial;
  small = over.table.part.small;
  steps = λ q letter within. target_by-in_range (letters_of d) (states_of d) (transitions_of d q) letter (row_at d q over.table within).in_range;
}
  where
    known : IsHeaderRead header
    known = header_read header over.tracks

    tuple : (letter : ℕ) → letter < letters_of d → IsReadAs (digits_in (header_listed header)) (tuple_of (sets_of header) letter) (digits_of_letter d.sizes letter)
    tuple letter low =
        let sets = sets_of header in
        let digits = digits_of_letter d.sizes letter in
        let coded = letter_digits d.sizes letter low in
        let fit : AreDigits (sizes_of sets) digits = subst (λ (s : List ℕ). AreDigits s digits) over.sizes coded.0 in
        let is : tuple_of sets letter ≡ members_at sets digits = tuple_of_code sets d.sizes digits letter over.sizes coded.0 coded.1 in
        subst (λ (t : List ℤ). IsReadAs (digits_in (header_listed header)) t digits) (sym is) (record {
          some = omega (arith, known.some, length-members sets digits fit);
          fits = members_fit (digits_in (header_listed header)) sets digits known.tracks fit;
          reads = digits_read (digits_in (header_listed header)) sets digits known.tracks fit;
        })

-- the outputs of states that accept or not
output_fits : (accepting : Bool) → IsOutput Numbers (output_listed accepting)
output_fits true = record { sfits = omega arith }
output_fits false = record { sfits = omega arith }

outputs_printed : (d : Automaton) → ArePrinted Numbers d (outputs_of d)
outputs_printed d = record {
  count = length-map-range_with_len (λ p. output_listed (accepting_of d p)) 0 (states_of d);
  fit = λ q within. subst (IsOutput Numbers) (sym (get_or-map-range_with_len (λ p. output_listed (accepting_of d p)) 0 (states_of d) q q None within (omega arith))) (output_fits (accepting_of d q));
}

pub text_lists : TextListsAutomaton
unfolding relation_text
text_lists header d over = relation_of-printed header d (outputs_of d) (printed_under header d over) (outputs_printed d)
