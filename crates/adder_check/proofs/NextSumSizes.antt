-- The tracks of the sums with numbers one more, and of the numbers one more than sums.
use Rattle.std.proofs.Common.{◌≡◌, ℕ, zero, suc, ◌<◌, max, List, [], ◌∷◌, get_or, length, sym, ap, ◌∙◌, subst, refl, arith}
use Rattle.std.specs.List.{Contains}
use Rattle.digit_tuple.specs.Deterministic.{Automaton}
use Rattle.digit_tuple.specs.Names.{place_of}
use Rattle.digit_tuple.specs.Parts.{picked}
use Rattle.digit_tuple.specs.declared.direction.Direction.{Direction}
use Rattle.digit_tuple.proofs.NameLemmas.{place_of-contained}
use Rattle.minimise.specs.Tracked.{NamedAutomaton, size_of}
use Rattle.product_op.specs.declared.op.Op.TheVariants.{And}
use Rattle.product_op.specs.Tracks.{AgreeOnShared, joint_sizes}
use Rattle.pad_rename.specs.StayingTracks.{staying_sizes}
use Rattle.num_system.specs.Operations.{IsProjection}
use Rattle.num_system.specs.SuccessorSteps.{name_x, name_y, order_on}
use Rattle.num_system.proofs.SuccessorLemmas.{under_names}
use Rattle.automaton_steps.specs.JoinSteps.{IsJoin}
use Rattle.adder_check.specs.AdderRelation.{name_z}
use Rattle.adder_check.specs.NextSums.{sum_on, name_v, name_w}

-- on tracks of one size each name has that size
pub size_is : (t : NamedAutomaton) (d : ℕ) (name : List ℕ) → ((p : ℕ) → p < length t.names → get_or t.automaton.sizes p 0 ≡ d) → Contains t.names name → size_of t name ≡ d
size_is t d name each found = each (place_of t.names name) (place_of-contained t.names name found).0

pub in_one : (d p : ℕ) → p < 1 → get_or (d ∷ []) p 0 ≡ d
in_one d zero within = refl
in_one d (suc p) within = absurd (omega (arith, within))

in_two : (d p : ℕ) → p < 2 → get_or (d ∷ d ∷ []) p 0 ≡ d
in_two d zero within = refl
in_two d (suc zero) within = refl
in_two d (suc (suc p)) within = absurd (omega (arith, within))

pub in_three : (d p : ℕ) → p < 3 → get_or (d ∷ d ∷ d ∷ []) p 0 ≡ d
in_three d zero within = refl
in_three d (suc zero) within = refl
in_three d (suc (suc zero)) within = refl
in_three d (suc (suc (suc p))) within = absurd (omega (arith, within))

pair_size : (next : Automaton) (d : ℕ) (m n name : List ℕ) → next.sizes ≡ d ∷ d ∷ [] → Contains (m ∷ n ∷ []) name → size_of (order_on next m n) name ≡ d
pair_size next d m n name same found = size_is (order_on next m n) d name (λ p within. ap (λ (ns : List ℕ). get_or ns p 0) same ∙ in_two d p within) found

sum_size : (adder : Automaton) (d : ℕ) (l m n name : List ℕ) → adder.sizes ≡ d ∷ d ∷ d ∷ [] → Contains (l ∷ m ∷ n ∷ []) name → size_of (sum_on adder l m n) name ≡ d
sum_size adder d l m n name same found = size_is (sum_on adder l m n) d name (λ p within. ap (λ (ns : List ℕ). get_or ns p 0) same ∙ in_three d p within) found

module _ (adder next : Automaton) (d : ℕ) (sums : adder.sizes ≡ d ∷ d ∷ d ∷ []) (pairs : next.sizes ≡ d ∷ d ∷ []) where
  pub with_next_agree : (a b : NamedAutomaton) → a ≡ order_on next name_y name_v → b ≡ sum_on adder name_x name_v name_z → AgreeOnShared a b
  with_next_agree a b first second =
      subst (λ (t : NamedAutomaton). AgreeOnShared t b) (sym first)
      (subst (λ (t : NamedAutomaton). AgreeOnShared (order_on next name_y name_v) t) (sym second)
      (λ name one other. pair_size next d name_y name_v name pairs one ∙ sym (sum_size adder d name_x name_v name_z name sums other)))

  pub of_sums_agree : (a b : NamedAutomaton) → a ≡ sum_on adder name_x name_y name_w → b ≡ order_on next name_w name_z → AgreeOnShared a b
  of_sums_agree a b first second =
      subst (λ (t : NamedAutomaton). AgreeOnShared t b) (sym first)
      (subst (λ (t : NamedAutomaton). AgreeOnShared (sum_on adder name_x name_y name_w) t) (sym second)
      (λ name one other. sum_size adder d name_x name_y name_w name sums one ∙ sym (pair_size next d name_w name_z name pairs other)))

four : (d k l m n : ℕ) → k ≡ d → l ≡ d → m ≡ d → n ≡ d → k ∷ l ∷ m ∷ n ∷ [] ≡ d ∷ d ∷ d ∷ d ∷ []
four d k l m n one two three last = λ i. one i ∷ two i ∷ three i ∷ last i ∷ []

-- four tracks of one size
pub with_next_sizes : (adder next : Automaton) (d : ℕ) → adder.sizes ≡ d ∷ d ∷ d ∷ [] → next.sizes ≡ d ∷ d ∷ [] → joint_sizes (order_on next name_y name_v) (sum_on adder name_x name_v name_z) ≡ d ∷ d ∷ d ∷ d ∷ []
with_next_sizes adder next d sums pairs =
    ap (λ (ns : List ℕ). let a : Automaton = record { sizes = ns; states = next.states } in joint_sizes (order_on a name_y name_v) (sum_on adder name_x name_v name_z)) pairs
    ∙ ap (λ (ns : List ℕ). let a : Automaton = record { sizes = d ∷ d ∷ []; states = next.states } in let b : Automaton = record { sizes = ns; states = adder.states } in joint_sizes (order_on a name_y name_v) (sum_on b name_x name_v name_z)) sums
    ∙ four d (max d d) (max 0 d) (max d 0) (max 0 d) (omega arith) (omega arith) (omega arith) (omega arith)

pub of_sums_sizes : (adder next : Automaton) (d : ℕ) → adder.sizes ≡ d ∷ d ∷ d ∷ [] → next.sizes ≡ d ∷ d ∷ [] → joint_sizes (sum_on adder name_x name_y name_w) (order_on next name_w name_z) ≡ d ∷ d ∷ d ∷ d ∷ []
of_sums_sizes adder next d sums pairs =
    ap (λ (ns : List ℕ). let a : Automaton = record { sizes = ns; states = next.states } in joint_sizes (sum_on adder name_x name_y name_w) (order_on a name_w name_z)) pairs
    ∙ ap (λ (ns : List ℕ). let a : Automaton = record { sizes = d ∷ d ∷ []; states = next.states } in let b : Automaton = record { sizes = ns; states = adder.states } in joint_sizes (sum_on b name_x name_y name_w) (order_on a name_w name_z)) sums
    ∙ four d (max d d) (max d 0) (max d 0) (max 0 d) (omega arith) (omega arith) (omega arith) (omega arith)

-- and without the first of them
staying : (c : NamedAutomaton) (d : ℕ) (l m n k : List ℕ) → staying_sizes (record { names = l ∷ m ∷ n ∷ k ∷ []; automaton = c.automaton }) l ≡ picked (1 ∷ 2 ∷ 3 ∷ []) c.automaton.sizes
    → c.names ≡ l ∷ m ∷ n ∷ k ∷ [] → c.automaton.sizes ≡ d ∷ d ∷ d ∷ d ∷ [] → staying_sizes c l ≡ d ∷ d ∷ d ∷ []
staying c d l m n k picks names same =
    ap (λ (a : NamedAutomaton). staying_sizes a l) (under_names c (l ∷ m ∷ n ∷ k ∷ []) names) ∙ picks ∙ ap (λ (ns : List ℕ). picked (1 ∷ 2 ∷ 3 ∷ []) ns) same

module _ (direction : Direction) (adder next : Automaton) (a b c made : NamedAutomaton) (d : ℕ) (sums : adder.sizes ≡ d ∷ d ∷ d ∷ []) (pairs : next.sizes ≡ d ∷ d ∷ []) where
  pub with_next_projected : a ≡ order_on next name_y name_v → b ≡ sum_on adder name_x name_v name_z → IsJoin And [] a b c → IsProjection direction c name_v made → made.automaton.sizes ≡ adder.sizes
  with_next_projected first second join projection =
      let here : IsJoin And [] (order_on next name_y name_v) (sum_on adder name_x name_v name_z) c =
      subst (λ (t : NamedAutomaton). IsJoin And [] t (sum_on adder name_x name_v name_z) c) first (subst (λ (t : NamedAutomaton). IsJoin And [] a t c) second join) in
      projection.sizes ∙ staying c d name_v name_x name_y name_z refl here.names (here.sizes ∙ with_next_sizes adder next d sums pairs) ∙ sym sums

  pub of_sums_projected : a ≡ sum_on adder name_x name_y name_w → b ≡ order_on next name_w name_z → IsJoin And [] a b c → IsProjection direction c name_w made → made.automaton.sizes ≡ adder.sizes
  of_sums_projected first second join projection =
      let here : IsJoin And [] (sum_on adder name_x name_y name_w) (order_on next name_w name_z) c =
      subst (λ (t : NamedAutomaton). IsJoin And [] t (order_on next name_w name_z) c) first (subst (λ (t : NamedAutomaton). IsJoin And [] a t c) second join) in
      projection.sizes ∙ staying c d name_w name_x name_y name_z refl here.names (here.sizes ∙ of_sums_sizes adder next d sums pairs) ∙ sym sums

-- the track that is projected away is one of the four
pub with_next_there : (adder next : Automaton) (a b c : NamedAutomaton) → a ≡ order_on next name_y name_v → b ≡ sum_on adder name_x name_v name_z → IsJoin And [] a b c → Contains c.names name_v
with_next_there adder next a b c first second join =
    let here : IsJoin And [] (order_on next name_y name_v) (sum_on adder name_x name_v name_z) c =
    subst (λ (t : NamedAutomaton). IsJoin And [] t (sum_on adder name_x name_v name_z) c) first (subst (λ (t : NamedAutomaton). IsJoin And [] a t c) second join) in
    let names : c.names ≡ name_v ∷ name_x ∷ name_y ∷ name_z ∷ [] = here.names in
    subst (λ (ns : List (List ℕ)). Contains ns name_v) (sym names) (0, omega arith, refl)

pub of_sums_there : (adder next : Automaton) (a b c : NamedAutomaton) → a ≡ sum_on adder name_x name_y name_w → b ≡ order_on next name_w name_z → IsJoin And [] a b c → Contains c.names name_w
of_sums_there adder next a b c first second join =
    let here : IsJoin And [] (sum_on adder name_x name_y name_w) (order_on next name_w name_z) c =
    subst (λ (t : NamedAutomaton). IsJoin And [] t (order_on next name_w name_z) c) first (subst (λ (t : NamedAutomaton). IsJoin And [] a t c) second join) in
    let names : c.names ≡ name_w ∷ name_x ∷ name_y ∷ name_z ∷ [] = here.names in
    subst (λ (ns : List (List ℕ)). Contains ns name_w) (sym names) (0, omega arith, refl)
