-- Projections: where words lead in the image of a canonical automaton, and the residuals that they have.
use Rattle.std.proofs.Common.{◌≡◌, ◌≢◌, ℕ, ◌<◌, Bool, true, false, not, List, [], ◌∷◌, ◌++◌, length, Option, None, Some, IsTrue, ◌↔◌, ◌⊎◌, inl, inr, refl, sym, ap, ◌∙◌, subst, true≢false, arith}
use Rattle.std.specs.List.{All, Contains}
use Rattle.std.specs.Option.{option_map_or, option_and_then}
use Rattle.std.specs.Str.{bytes_eq}
use Rattle.std.proofs.lemmas.List.{append-nil}
use Rattle.std.proofs.lemmas.List.Elements.{All-contains_itself, All-filter}
use Rattle.std.proofs.lemmas.List.Kept.{AllPairs-filter}
use Rattle.std.proofs.lemmas.Option.{none-some, same_Some}
use Rattle.digit_tuple.specs.Automaton as branching
use Rattle.digit_tuple.specs.Automaton.{Branching, IsBranchTable, Path}
use Rattle.digit_tuple.specs.Deterministic.{Automaton, accepting_of, accepts_from, accepts_of, letters_of, run_of}
use Rattle.digit_tuple.specs.Keys.{LeadAlike, key_accepts, key_run}
use Rattle.digit_tuple.specs.Letters.{IsWord, product}
use Rattle.digit_tuple.specs.Names.{AreDistinct, names_without}
use Rattle.digit_tuple.specs.Paddings.{zeros}
use Rattle.digit_tuple.specs.Parts.{part, parts_of_letters, picked}
use Rattle.digit_tuple.specs.declared.direction.Direction.{Direction}
use Rattle.digit_tuple.specs.declared.direction.Direction.TheVariants.{Msd, Lsd}
use Rattle.digit_tuple.proofs.KeyLemmas.{key_accepts-run}
use Rattle.digit_tuple.proofs.NameLemmas.{places_of-within}
use Rattle.digit_tuple.proofs.PartLemmas.{part-append}
use Rattle.digit_tuple.specs.Width.{HasApart, HasWidth}
use Rattle.digit_tuple.proofs.WidthLemmas.{HasApart-same, HasWidth-same}
use Rattle.digit_tuple.proofs.WordLemmas.{IsWord-append, IsWord-prefix, IsWord-back, accepts_from-append, run_of-append}
use Rattle.determinise.specs.Subsets.{IsStateSet, has_accepting, set_after}
use Rattle.determinise.specs.SubsetLaws.{start_is_state_set}
use Rattle.digit_tuple.proofs.MemberLemmas.{Contains-cases, Contains-head, Contains-none, contains_from_list_any, list_any-contains}
use Rattle.determinise.proofs.ReversalLemmas.{accepts_from-run}
use Rattle.determinise.proofs.SubsetLemmas.{key_run-members, key_run-set, same_set, set_of}
use Rattle.minimise.specs.Canonical.{IsCanonical}
use Rattle.minimise.specs.Residuals.{IsEmptyAfter, IsDead, SameAfter}
use Rattle.minimise.specs.Tracked.{IsTracked, NamedAutomaton}
use Rattle.minimise.proofs.CanonicalLemmas.{live_after, one_state, run_within}
use Rattle.pad_rename.specs.StayingTracks.{staying_places}
use Rattle.pad_rename.specs.ZeroClosure.{flag_at}
use Rattle.project_close.specs.Image.{AreFirst, IsEnd, IsImage, IsImageOn, ReadsProjection}
use Rattle.project_close.specs.Projection.{HaveResiduals, InProjection, ProjectionAlike, HasPart}
use Rattle.project_close.proofs.ImageLemmas.{path_of_word, word_of_path}

-- a word whose part is two words in turn is two words with these parts
pub record IsParted (sizes places x u v : List ℕ) : Type 0 where
  pub prefix : List ℕ
  pub back : List ℕ
  pub is : x ≡ prefix ++ back
  pub prefix_part : part sizes places prefix ≡ u
  pub back_part : part sizes places back ≡ v

pub part_split : (sizes places x u v : List ℕ) → part sizes places x ≡ u ++ v → IsParted sizes places x u v
part_split sizes places x [] v is = record { prefix = []; back = x; is = refl; prefix_part = refl; back_part = is }
part_split sizes places [] (a ∷ u) v is = absurd (let size = ap (λ (w : List ℕ). length w) is in omega (arith, size))
part_split sizes places (b ∷ x) (a ∷ u) v is =
    let tail : part sizes places x ≡ u ++ v = cc in
    let rest = part_split sizes places x u v tail in
    record {
      prefix = b ∷ rest.prefix;
      back = rest.back;
      is = ap (λ w. b ∷ w) rest.is;
      prefix_part = let one : part sizes places rest.prefix ≡ u = rest.prefix_part in cc;
      back_part = rest.back_part;
    }

module _ (d : Automaton) (places : List ℕ) where
  -- a word with a part that is read first, and then one with the part w, have the part w
  pub HasPart-append : (direction : Direction) (w x y : List ℕ) → HasPart direction d places [] x → part d.sizes places y ≡ w → HasPart direction d places w (x ++ y)
  HasPart-append Msd w x y begins is = (begins.0, part-append d.sizes places x y ∙ ap (λ v. v ++ part d.sizes places y) (begins.1 ∙ append-nil (zeros begins.0)) ∙ ap (λ v. zeros begins.0 ++ v) is)
  HasPart-append Lsd w x y begins is = part-append d.sizes places x y ∙ ap (λ v. v ++ part d.sizes places y) begins ∙ is

  -- a word with the part w begins with such a word
  pub record IsBegun (direction : Direction) (w x : List ℕ) : Type 0 where
    pub prefix : List ℕ
    pub back : List ℕ
    pub is : x ≡ prefix ++ back
    pub begins : HasPart direction d places [] prefix
    pub part_is : part d.sizes places back ≡ w

  pub HasPart-split : (direction : Direction) (w x : List ℕ) → HasPart direction d places w x → IsBegun direction w x
  HasPart-split Msd w x has_part =
      let parted = part_split d.sizes places x (zeros has_part.0) w has_part.1 in
      record { prefix = parted.prefix; back = parted.back; is = parted.is; begins = (has_part.0, parted.prefix_part ∙ sym (append-nil (zeros has_part.0))); part_is = parted.back_part }
  HasPart-split Lsd w x has_part = record { prefix = []; back = x; is = refl; begins = refl; part_is = has_part }

module _ (d : Automaton) where
  -- a run over two words
  run_join : (x y : List ℕ) (p q r : ℕ) → run_of d p x ≡ Some q → run_of d q y ≡ Some r → run_of d p (x ++ y) ≡ Some r
  run_join x y p q r one two = run_of-append d p x y ∙ ap (λ (o : Option ℕ). option_and_then (λ s. run_of d s y) o) one ∙ two

  run_part : (x y : List ℕ) (p r : ℕ) → run_of d p (x ++ y) ≡ Some r → (q : ℕ) × (run_of d p x ≡ Some q) × (run_of d q y ≡ Some r)
  run_part x y p r leads = by (run_of d p x) refl (sym (run_of-append d p x y) ∙ leads)
    where
      by : (o : Option ℕ) → run_of d p x ≡ o → option_and_then (λ s. run_of d s y) o ≡ Some r → (q : ℕ) × (run_of d p x ≡ Some q) × (run_of d q y ≡ Some r)
      by None is none = absurd (none-some r none)
      by (Some q) is some = (q, is, some)

  -- what is accepted after a word is accepted from where it leads
  after_run : (x u : List ℕ) (q : ℕ) → run_of d 0 x ≡ Some q → accepts_of d (x ++ u) ≡ accepts_from d q u
  after_run x u q leads = accepts_from-append d 0 x u ∙ ap (λ (o : Option ℕ). option_map_or (λ p. accepts_from d p u) o false) leads

  after_none : (x u : List ℕ) → run_of d 0 x ≡ None → accepts_of d (x ++ u) ≡ false
  after_none x u leads = accepts_from-append d 0 x u ∙ ap (λ (o : Option ℕ). option_map_or (λ p. accepts_from d p u) o false) leads

  -- a word after which one is accepted leads to a state
  run_accepted : (x u : List ℕ) → accepts_of d (x ++ u) ≡ true → (q : ℕ) × (run_of d 0 x ≡ Some q) × (accepts_from d q u ≡ true)
  run_accepted x u accepts = by (run_of d 0 x) refl
    where
      by : (o : Option ℕ) → run_of d 0 x ≡ o → (q : ℕ) × (run_of d 0 x ≡ Some q) × (accepts_from d q u ≡ true)
      by None is = absurd (true≢false (sym accepts ∙ after_none x u is))
      by (Some q) is = (q, is, sym (after_run x u q is) ∙ accepts)

-- a word with the part w leads to the state
abbrev pub LeadsTo : Automaton → List ℕ → Direction → List ℕ → ℕ → Type 0
LeadsTo d places direction w q = (x : List ℕ) × IsWord (letters_of d) x × HasPart direction d places w x × (run_of d 0 x ≡ Some q)

module _ (d : Automaton) (places : List ℕ) where
  -- w is in the projection where a word with that part leads to a state at which a word may end
  pub in_from_end : (direction : Direction) (w : List ℕ) (q : ℕ) → LeadsTo d places direction w q → IsEnd direction d places q → InProjection d places direction w
  in_from_end Msd w q leads end =
      (leads.2.0, (leads.0, leads.1, leads.2.1, accepts_from-run d 0 leads.0 ∙ ap (λ (o : Option ℕ). option_map_or (accepting_of d) o false) leads.3 ∙ end))
  in_from_end Lsd w q leads end = (
    end.2.0,
    (
      leads.0 ++ end.0,
      IsWord-append (letters_of d) leads.0 end.0 leads.1 end.1,
      part-append d.sizes places leads.0 end.0 ∙ ap (λ v. v ++ part d.sizes places end.0) leads.2 ∙ ap (λ v. w ++ v) end.2.1,
      after_run d leads.0 end.0 q leads.3 ∙ end.3,
    ),
  )

  pub end_from_in : (direction : Direction) (w : List ℕ) → InProjection d places direction w → (q : ℕ) × LeadsTo d places direction w q × IsEnd direction d places q
  end_from_in Msd w inside =
      let x = inside.1.0 in
      let accepts : accepts_of d (x ++ []) ≡ true = ap (accepts_of d) (append-nil x) ∙ inside.1.3 in
      let found = run_accepted d x [] accepts in
      (found.0, (x, inside.1.1, (inside.0, inside.1.2), found.1), found.2)
  end_from_in Lsd w inside =
      let parted = part_split d.sizes places inside.1.0 w (zeros inside.0) inside.1.2 in
      let over : IsWord (letters_of d) (parted.prefix ++ parted.back) = subst (IsWord (letters_of d)) parted.is inside.1.1 in
      let found = run_accepted d parted.prefix parted.back (ap (accepts_of d) (sym parted.is) ∙ inside.1.3) in
      (found.0, (parted.prefix, IsWord-prefix (letters_of d) parted.prefix parted.back over, parted.prefix_part, found.1), (parted.back, IsWord-back (letters_of d) parted.prefix parted.back over, (inside.0, parted.back_part), found.2))

module _ (d : Automaton) (canonical : IsCanonical d) (live : ¬ IsDead d 0) (places : List ℕ) (direction : Direction) where
  -- each state that a word leads to is live
  live_at : (x : List ℕ) (q : ℕ) → IsWord (letters_of d) x → run_of d 0 x ≡ Some q → ¬ IsDead d q
  live_at [] q over leads = subst (λ p. ¬ IsDead d p) (same_Some 0 q leads) live
  live_at (a ∷ x) q over leads = live_after d canonical x a 0 q canonical.table.initial over leads

  -- the residuals after words are the states that they lead to, but the empty one
  pub residuals_from_states : (w v : List ℕ) → ((q : ℕ) → LeadsTo d places direction w q → LeadsTo d places direction v q) → HaveResiduals d places direction w v
  residuals_from_states w v over x inside has_part some = by (run_of d 0 x) refl
    where
      same_after : (y : List ℕ) (q : ℕ) → run_of d 0 x ≡ Some q → run_of d 0 y ≡ Some q → SameAfter d x y
      same_after y q one two u more = after_run d x u q one ∙ sym (after_run d y u q two)

      by : (o : Option ℕ) → run_of d 0 x ≡ o → (y : List ℕ) × IsWord (letters_of d) y × HasPart direction d places v y × SameAfter d x y
      by None is = absurd (some (λ u more. after_none d x u is))
      by (Some q) is =
          let leads = over q (x, inside, has_part, is) in
          (leads.0, leads.1, leads.2, same_after leads.0 q is leads.3)

  pub states_from_residuals : (w v : List ℕ) → HaveResiduals d places direction w v → (q : ℕ) → LeadsTo d places direction w q → LeadsTo d places direction v q
  states_from_residuals w v have q leads =
      let found = have leads.0 leads.1 leads.2 some in
      by found.0 found.1 found.2 found.3 (run_of d 0 found.0) refl
    where
      alive : ¬ IsDead d q
      alive = live_at leads.0 q leads.1 leads.3

      some : ¬ IsEmptyAfter d leads.0
      some empty = alive (λ u more. sym (after_run d leads.0 u q leads.3) ∙ empty u more)

      by : (y : List ℕ) → IsWord (letters_of d) y → HasPart direction d places v y → SameAfter d leads.0 y → (o : Option ℕ) → run_of d 0 y ≡ o → LeadsTo d places direction v q
      by y over has_part same None is = absurd (alive (λ u more. sym (after_run d leads.0 u q leads.3) ∙ same u more ∙ after_none d y u is))
      by y over has_part same (Some r) is =
          let one : q ≡ r = one_state d canonical q r (run_within d leads.0 0 q canonical.table canonical.table.initial leads.3) (run_within d y 0 r canonical.table canonical.table.initial is)
          (λ u more. sym (after_run d leads.0 u q leads.3) ∙ same u more ∙ after_run d y u r is) in
          (y, over, has_part, is ∙ ap Some (sym one))

module _ (d : Automaton) (places sizes : List ℕ) (ends : List Bool) (n : Branching) (image : IsImage d ends (parts_of_letters d.sizes places) sizes n) (table : IsBranchTable (branching.letters_of n) n.states) where
  -- reading begins where words lead that are read first
  first_to : (direction : Direction) (first : List ℕ) → AreFirst direction n first → (p : ℕ) → Contains first p → LeadsTo d places direction [] p
  first_to Msd first are p there =
      let path = (are.members p).0 there in
      let x = word_of_path d ends places sizes n image (zeros path.0) 0 p path.1 in
      (x.0, x.1, (path.0, x.2 ∙ sym (append-nil (zeros path.0))), x.3)
  first_to Lsd first are p there = by (Contains-cases 0 [] p (subst (λ xs. Contains xs p) are there))
    where
      by : (0 ≡ p) ⊎ Contains [] p → LeadsTo d places Lsd [] p
      by (inl is) = ([], tt, refl, ap Some is)
      by (inr none) = absurd (Contains-none p none)

  first_from : (direction : Direction) (first : List ℕ) → AreFirst direction n first → (p : ℕ) → LeadsTo d places direction [] p → Contains first p
  first_from Msd first are p leads =
      (are.members p).1 (leads.2.0, subst (λ w. Path n 0 w p) (leads.2.1 ∙ append-nil (zeros leads.2.0)) (path_of_word d ends places sizes n image leads.0 0 p leads.1 leads.3))
  first_from Lsd first are p leads = subst (λ xs. Contains xs p) (sym are) (by leads.0 leads.2 leads.3)
    where
      by : (x : List ℕ) → part d.sizes places x ≡ [] → run_of d 0 x ≡ Some p → Contains (0 ∷ []) p
      by [] none leads = subst (Contains (0 ∷ [])) (same_Some 0 p leads) (Contains-head 0 [])
      by (a ∷ x) none leads = absurd (let size = ap (λ (v : List ℕ). length v) none in omega (arith, size))

  pub IsStateSet-first : (direction : Direction) (first : List ℕ) → AreFirst direction n first → IsStateSet n first
  IsStateSet-first Msd first are = record {
    some = let there = (are.members 0).1 (0, refl) in omega (arith, there.1);
    in_range = are.in_range;
    ascending = are.ascending;
  }
  IsStateSet-first Lsd first are = subst (IsStateSet n) (sym are) (start_is_state_set n table)

  module _ (direction : Direction) (first : List ℕ) (are : AreFirst direction n first) where
    -- the states that a word leads to are those that words with that part lead to
    pub members_to : (w : List ℕ) (q : ℕ) → Contains (set_of n table (key_run (set_after n) first w)) q → LeadsTo d places direction w q
    members_to w q there =
        let found = (key_run-members n table w first q).0 there in
        let begun = first_to direction first are found.0 found.1 in
        let x = word_of_path d ends places sizes n image w found.0 q found.2 in
        (begun.0 ++ x.0, IsWord-append (letters_of d) begun.0 x.0 begun.1 x.1, HasPart-append d places direction w begun.0 x.0 begun.2 x.2, run_join d begun.0 x.0 0 found.0 q begun.3 x.3)

    pub members_from : (w : List ℕ) (q : ℕ) → LeadsTo d places direction w q → Contains (set_of n table (key_run (set_after n) first w)) q
    members_from w q leads =
        let split = HasPart-split d places direction w leads.0 leads.2 in
        let over : IsWord (letters_of d) (split.prefix ++ split.back) = subst (IsWord (letters_of d)) split.is leads.1 in
        let run = run_part d split.prefix split.back 0 q (ap (run_of d 0) (sym split.is) ∙ leads.3) in
        (key_run-members n table w first q).1 (
          run.0,
          first_from direction first are run.0 (split.prefix, IsWord-prefix (letters_of d) split.prefix split.back over, split.begins, run.1),
          subst (λ v. Path n run.0 v q) split.part_is (path_of_word d ends places sizes n image split.back run.0 q (IsWord-back (letters_of d) split.prefix split.back over) run.2),
        )

    -- the sets accept what is in the projection
    pub key_accepts-projection : ((q : ℕ) → (flag_at ends q ≡ true) ↔ IsEnd direction d places q) → (w : List ℕ) → IsTrue (key_accepts (set_after n) (has_accepting n) first w) ↔ InProjection d places direction w
    key_accepts-projection ends_are w = (
      (λ is. forth (key_run (set_after n) first w) refl (sym (key_accepts-run (set_after n) (has_accepting n) w first) ∙ is)),
      (λ inside. key_accepts-run (set_after n) (has_accepting n) w first ∙ back (end_from_in d places direction w inside) (key_run (set_after n) first w) refl),
    )
      where
        forth : (o : Option (List ℕ)) → key_run (set_after n) first w ≡ o → option_map_or (has_accepting n) o false ≡ true → InProjection d places direction w
        forth None same is = absurd (true≢false (sym is))
        forth (Some set) same is =
            let found = contains_from_list_any (branching.accepting_of n) set is in
            in_from_end d places direction w found.0 (members_to w found.0 (subst (λ (o : Option (List ℕ)). Contains (set_of n table o) found.0) (sym same) found.1))
            ((ends_are found.0).0 (sym (image.accepting_is found.0) ∙ found.2))

        back : (q : ℕ) × LeadsTo d places direction w q × IsEnd direction d places q → (o : Option (List ℕ)) → key_run (set_after n) first w ≡ o → option_map_or (has_accepting n) o false ≡ true
        back found None same = absurd (Contains-none found.0 (subst (λ (o : Option (List ℕ)). Contains (set_of n table o) found.0) same (members_from w found.0 found.1)))
        back found (Some set) same =
            list_any-contains (branching.accepting_of n) set found.0 (subst (λ (o : Option (List ℕ)). Contains (set_of n table o) found.0) same (members_from w found.0 found.1))
            (image.accepting_is found.0 ∙ (ends_are found.0).1 found.2)

    module _ (canonical : IsCanonical d) (live : ¬ IsDead d 0) where
      -- words that lead to one set have the same residuals
      pub ProjectionAlike-lead : (w v : List ℕ) → LeadAlike (set_after n) first w v → ProjectionAlike d places direction w v
      ProjectionAlike-lead w v same = record {
        forth = residuals_from_states d canonical live places direction w v
            (λ q leads. members_to v q (subst (λ (o : Option (List ℕ)). Contains (set_of n table o) q) same (members_from w q leads)));
        back = residuals_from_states d canonical live places direction v w
            (λ q leads. members_to w q (subst (λ (o : Option (List ℕ)). Contains (set_of n table o) q) (sym same) (members_from v q leads)));
      }

      -- words with the same residuals lead to one set
      pub LeadAlike-projection : (w v : List ℕ) → IsWord (branching.letters_of n) w → IsWord (branching.letters_of n) v → ProjectionAlike d places direction w v → LeadAlike (set_after n) first w v
      LeadAlike-projection w v over too alike =
          same_set n table (key_run (set_after n) first w) (key_run (set_after n) first v)
          (key_run-set n table first (IsStateSet-first direction first are) w over) (key_run-set n table first (IsStateSet-first direction first are) v too)
          (λ q. (
            (λ there. members_from v q (states_from_residuals d canonical live places direction w v alike.forth q (members_to w q there))),
            (λ there. members_from w q (states_from_residuals d canonical live places direction v w alike.back q (members_to v q there))),
          ))

pub IsImageOn-made : (d : Automaton) (places : List ℕ) (direction : Direction) (sizes parts : List ℕ) (ends : List Bool) (n : Branching) → sizes ≡ picked places d.sizes → parts ≡ parts_of_letters d.sizes places
    → IsImage d ends parts sizes n → IsBranchTable (branching.letters_of n) n.states → ((q : ℕ) → (flag_at ends q ≡ true) ↔ IsEnd direction d places q) → IsImageOn d places direction n
IsImageOn-made d places direction sizes parts ends n sizes_are parts_are image table ends_are = record {
  ends = ends;
  image = subst (λ (ps : List ℕ). IsImage d ends ps (picked places d.sizes) n) parts_are (subst (λ (ss : List ℕ). IsImage d ends parts ss n) sizes_are image);
  table = table;
  ends_are = ends_are;
}

module _ (d : Automaton) (places : List ℕ) (direction : Direction) (n : Branching) (first : List ℕ) (reads : ReadsProjection d places direction n first) where
  pub reads_graph : IsBranchTable (branching.letters_of n) n.states × IsStateSet n first
  reads_graph = (reads.table, IsStateSet-first d places (picked places d.sizes) reads.ends n reads.image reads.table direction first reads.first_are)

  pub reads_letters : (sizes : List ℕ) → sizes ≡ picked places d.sizes → product sizes ≡ branching.letters_of n
  reads_letters sizes are = ap product (are ∙ sym reads.image.sizes_are)

  pub reads_language : (w : List ℕ) → IsTrue (key_accepts (set_after n) (has_accepting n) first w) ↔ InProjection d places direction w
  reads_language w = key_accepts-projection d places (picked places d.sizes) reads.ends n reads.image reads.table direction first reads.first_are reads.ends_are w

  module _ (canonical : IsCanonical d) (live : ¬ IsDead d 0) (letters : ℕ) (same : letters ≡ branching.letters_of n) where
    pub reads_width : (k : ℕ) → HasWidth (LeadAlike (set_after n) first) letters k → HasWidth (ProjectionAlike d places direction) letters k
    reads_width k = HasWidth-same (LeadAlike (set_after n) first) (ProjectionAlike d places direction) letters k
        (λ w v over too lead. ProjectionAlike-lead d places (picked places d.sizes) reads.ends n reads.image reads.table direction first reads.first_are canonical live w v lead)
        (λ w v over too alike. LeadAlike-projection d places (picked places d.sizes) reads.ends n reads.image reads.table direction first reads.first_are canonical live w v (subst (λ l. IsWord l w) same over) (subst (λ l. IsWord l v) same too) alike)

    pub reads_apart : (k : ℕ) → HasApart (LeadAlike (set_after n) first) letters k → HasApart (ProjectionAlike d places direction) letters k
    reads_apart k = HasApart-same (LeadAlike (set_after n) first) (ProjectionAlike d places direction) letters k
        (λ w v over too alike. LeadAlike-projection d places (picked places d.sizes) reads.ends n reads.image reads.table direction first reads.first_are canonical live w v (subst (λ l. IsWord l w) same over) (subst (λ l. IsWord l v) same too) alike)

-- the projection of the language without words has none, and no word has a residual
module _ (d : Automaton) (dead : IsDead d 0) (places : List ℕ) (direction : Direction) where
  pub none_in_projection : (w : List ℕ) → ¬ InProjection d places direction w
  none_in_projection w inside = true≢false (sym inside.1.3 ∙ dead inside.1.0 inside.1.1)

  no_residuals : (w v : List ℕ) → HaveResiduals d places direction w v
  no_residuals w v x over has_part some = absurd (some (λ u more. dead (x ++ u) (IsWord-append (letters_of d) x u over more)))

  pub ProjectionAlike-dead : (w v : List ℕ) → ProjectionAlike d places direction w v
  ProjectionAlike-dead w v = record { forth = no_residuals w v; back = no_residuals v w }

-- the names but one are among the names, and no two are the same where no two names are
pub names_without-there : (names : List (List ℕ)) (track : List ℕ) → All (Contains names) (names_without names track)
names_without-there names track = All-filter (λ n. not (bytes_eq n track)) (Contains names) names (All-contains_itself names)

pub names_without-distinct : (names : List (List ℕ)) (track : List ℕ) → AreDistinct names → AreDistinct (names_without names track)
names_without-distinct names track distinct = AllPairs-filter (λ n m. n ≢ m) (λ n. not (bytes_eq n track)) names distinct

module _ (a : NamedAutomaton) (is : IsTracked a) (track : List ℕ) where
  -- the tracks that stay have places, one for each name
  pub staying_places-within : All (λ place. place < length a.automaton.sizes) (staying_places a track)
  staying_places-within = subst (λ n. All (λ place. place < n) (staying_places a track)) is.count (places_of-within a.names (names_without a.names track) (names_without-there a.names track))
