-- What a plan makes holds of the numbers of which the plan says it.
use Rattle.std.proofs.Common.{◌≡◌, ◌↔◌, ℕ, ℤ, Bool, true, false, List, [], ◌∷◌, map, refl, sym, ◌∙◌, subst, if◌then◌else◌, ◌+◌}
use Rattle.std.specs.Prelude.{⊤}
use Rattle.std.specs.Str.{bytes_eq}
use Rattle.std.proofs.lemmas.List.{length-map}
use Rattle.std.proofs.lemmas.Option.{same_Some}
use Rattle.std.proofs.lemmas.Simd.{map-map}
use Rattle.formula_parse.specs.Tokens.{Relation, equal, unequal, less, greater, at_most, at_least}
use Rattle.formula_parse.specs.Trees.{Joint, and, or, xor, implies, iff}
use Rattle.formula_truth.specs.Truth.{Meanings, Joins}
use Rattle.formula_truth.specs.Truth as truth
use Rattle.formula_truth.proofs.MeaningLemmas.{joined_same}
use Rattle.term_plans.specs.Tracks.{Track, Numbers, with_number}
use Rattle.term_plans.specs.Plans.{Plan, compared, added, number, called, lettered, renamed, constant, joined, paired, complement, projected, tracks}
use Rattle.term_plans.specs.Means.{Means}
use Rattle.term_plans.proofs.AgreementLemmas.{Agree, agrees, agree_back}
use Rattle.num_system.specs.Joined.{Joined, IsBound}
use Rattle.num_system.specs.Sealed.{SystemValue, IsSealed}
use Rattle.number_relations.specs.Relations.{RelationValue, IsRelation, RelationHolds, HoldsOver}
use Rattle.num_system.specs.Tracks.{systems_under}
use Rattle.number_relations.specs.Placed.{changed_name, changed_names, each_once}
use Rattle.number_relations.specs.Comparisons.{compared_names}
use Rattle.number_relations.specs.Comparisons as comparisons
use Rattle.number_relations.proofs.ComplementLemmas.{complement_is, complement_holds}
use Rattle.number_relations.proofs.ConstantRelations.{constant_is, constant_holds}
use Rattle.number_relations.proofs.JoinLemmas.{join_is}
use Rattle.number_relations.proofs.NamedSteps.{own_named, join_named, projection_named, changed}
use Rattle.number_relations.proofs.ProjectLemmas.{projection_is}
use Rattle.word_output.specs.LetterSets as letters
use Rattle.word_output.specs.Words.{WordValue, IsWordValue, HasLetter}
use Rattle.plan_relations.specs.TrackNames.{track_name, numbers_by, IsNamed, AreNamed}
use Rattle.plan_relations.specs.Libraries.{LibraryValue, IsLibrary, IsRelationIn, IsWordIn, meanings_of}
use Rattle.plan_relations.specs.Makings.{Makes, IsReady, comparison_of, op_of, placed_on}
use Rattle.plan_relations.specs.PairRelations.{MayPairWords}
use Rattle.plan_relations.specs.Laws.{PlansHold}
use Rattle.plan_relations.proofs.TrackNameLemmas.{changed_is, named_track}
use Rattle.plan_relations.proofs.LetterRelationLemmas.{set_says}
use Rattle.plan_relations.proofs.OneMadeLemmas.{one_word, system_sealed, word_is}
use Rattle.plan_relations.proofs.PairRelationLemmas.{pair_is, pair_named}

-- two ways to say a comparison of numbers, and of letters, and a connective
compares_same : (r : Relation) (x y : ℕ) → comparisons.Compares (comparison_of r) x y ↔ truth.Compares r x y
compares_same equal x y = (λ h. h, λ h. h)
compares_same unequal x y = (λ h. h, λ h. h)
compares_same less x y = (λ h. h, λ h. h)
compares_same greater x y = (λ h. h, λ h. h)
compares_same at_most x y = (λ h. h, λ h. h)
compares_same at_least x y = (λ h. h, λ h. h)

letters_same : (r : Relation) (x y : ℤ) → letters.ComparesLetters (comparison_of r) x y ↔ truth.ComparesLetters r x y
letters_same equal x y = (λ h. h, λ h. h)
letters_same unequal x y = (λ h. h, λ h. h)
letters_same less x y = (λ h. h, λ h. h)
letters_same greater x y = (λ h. h, λ h. h)
letters_same at_most x y = (λ h. h, λ h. h)
letters_same at_least x y = (λ h. h, λ h. h)

joins_same : (j : Joint) (P Q : Type 0) → Joined (op_of j) P Q ↔ Joins j P Q
joins_same and P Q = (λ h. h, λ h. h)
joins_same or P Q = (λ h. h, λ h. h)
joins_same xor P Q = (λ h. h, λ h. h)
joins_same implies P Q = (λ h. h, λ h. h)
joins_same iff P Q = (λ h. h, λ h. h)

joins_bound : (j : Joint) (first second : List (List ℕ)) → IsBound (op_of j) first second
joins_bound and first second = tt
joins_bound or first second = tt
joins_bound xor first second = tt
joins_bound implies first second = tt
joins_bound iff first second = tt

either_way : {P Q R : Type 0} → P ↔ Q → Q ↔ R → P ↔ R
either_way first second = (λ p. second.0 (first.0 p), λ r. first.1 (second.1 r))

-- it is a relation, and holds of these numbers
abbrev Says : LibraryValue → Plan → RelationValue → Type 0
Says l p c = IsRelation c × ((f : List ℕ → ℕ) → RelationHolds c (map f c.names) ↔ Means (meanings_of l) p (numbers_by f))

-- numbers that agree on a plan's tracks
agree_both : (m : Meanings) (p : Plan) (a b : Numbers) → Agree (tracks p) a b → Means m p a ↔ Means m p b
agree_both m p a b agree = (agrees p m a b agree, agrees p m b a (agree_back (tracks p) a b agree))

module _ (l : LibraryValue) (library : IsLibrary l) where
  abbrev m : Meanings
  m = meanings_of l

  called_says : (n : List ℕ) (ts : List Track) (c : RelationValue) → Makes l (called n ts) c → Says l (called n ts) c
  called_says n ts c (r, is, made) = (made.relation, λ f. either_way (own_named names systems (λ number_of. HoldsOver r.systems r.automaton (map number_of under)) c made f) (forth f, back f))
    where
      under : List (List ℕ)
      under = map track_name ts

      names : List (List ℕ)
      names = each_once under

      systems : List SystemValue
      systems = systems_under under r.systems names

      forth : (f : List ℕ → ℕ) → HoldsOver r.systems r.automaton (map f under) → (q : RelationValue) × IsRelationIn l n q × RelationHolds q (map (numbers_by f) ts)
      forth f h = (r, is, subst (HoldsOver r.systems r.automaton) (map-map f track_name ts) h)

      back : (f : List ℕ → ℕ) → (q : RelationValue) × IsRelationIn l n q × RelationHolds q (map (numbers_by f) ts) → HoldsOver r.systems r.automaton (map f under)
      back f (q, also, h) = subst (HoldsOver r.systems r.automaton) (sym (map-map f track_name ts)) (subst (λ (w : RelationValue). RelationHolds w (map (numbers_by f) ts)) (same_Some q r (sym also ∙ is)) h)

  -- the word of a name has a letter at numbers where it has it at those under the tracks' names
  has_there : (n : List ℕ) (w : WordValue) (ts : List Track) (f : List ℕ → ℕ) (x : ℤ) → IsWordIn l n w → HasLetter w (map f (map track_name ts)) x → m.has_letter n (map (numbers_by f) ts) x
  has_there n w ts f x is has = (w, is, subst (λ (ns : List ℕ). HasLetter w ns x) (map-map f track_name ts) has)

  has_back : (n : List ℕ) (w : WordValue) (ts : List Track) (f : List ℕ → ℕ) (x : ℤ) → IsWordIn l n w → m.has_letter n (map (numbers_by f) ts) x → HasLetter w (map f (map track_name ts)) x
  has_back n w ts f x is (v, also, has) =
      subst (λ (ns : List ℕ). HasLetter w ns x) (sym (map-map f track_name ts)) (subst (λ (u : WordValue). HasLetter u (map (numbers_by f) ts) x) (one_word l n w v is also) has)

  lettered_says : (n : List ℕ) (ts : List Track) (r : Relation) (b : ℤ) (c : RelationValue) → Makes l (lettered n ts r b) c → Says l (lettered n ts r b) c
  lettered_says n ts r b c (w, is, (d, set, made)) = (made.relation, says)
    where
      under : List (List ℕ)
      under = map track_name ts

      names : List (List ℕ)
      names = each_once under

      says : (f : List ℕ → ℕ) → RelationHolds c (map f c.names) ↔ Means m (lettered n ts r b) (numbers_by f)
      says f =
          either_way (own_named names (systems_under under w.systems names) (λ number_of. HoldsOver w.systems d (map number_of under)) c made f)
          (either_way (set_says w (comparison_of r) b d (word_is l n w library is) set (map f under)) (
            λ (x, has, compares). (x, has_there n w ts f x is has, (letters_same r x b).0 compares),
            λ (x, has, compares). (x, has_back n w ts f x is has, (letters_same r x b).1 compares),
          ))

  paired_says : (n : List ℕ) (ts : List Track) (r : Relation) (k : List ℕ) (us : List Track) (c : RelationValue) → IsReady l (paired n ts r k us) → Makes l (paired n ts r k us) c
      → Says l (paired n ts r k us) c
  paired_says n ts r k us c (x, y, is_x, is_y, ready) (v, w, is_v, is_w, made) = (pair_is (comparison_of r) (placed_on v ts) (placed_on w us) word_v word_w may c made, says)
    where
      word_v : IsWordValue v
      word_v = word_is l n v library is_v

      word_w : IsWordValue w
      word_w = word_is l k w library is_w

      may : MayPairWords (placed_on v ts) (placed_on w us)
      may =
          subst (λ (z : WordValue). MayPairWords (placed_on z ts) (placed_on w us)) (one_word l n v x is_v is_x)
          (subst (λ (z : WordValue). MayPairWords (placed_on x ts) (placed_on z us)) (one_word l k w y is_w is_y) ready)

      says : (f : List ℕ → ℕ) → RelationHolds c (map f c.names) ↔ Means m (paired n ts r k us) (numbers_by f)
      says f = either_way (pair_named (comparison_of r) (placed_on v ts) (placed_on w us) word_v word_w may c made f) (
        λ (i, j, first, second, compares). (i, j, has_there n v ts f i is_v first, has_there k w us f j is_w second, (letters_same r i j).0 compares),
        λ (i, j, first, second, compares). (i, j, has_back n v ts f i is_v first, has_back k w us f j is_w second, (letters_same r i j).1 compares),
      )

  constant_says : (y : List ℕ) (k : ℕ) (t : Track) (c : RelationValue) → Makes l (constant y k t) c → Says l (constant y k t) c
  constant_says y k t c (s, is, made) = (constant_is s k (track_name t) c sealed made, says)
    where
      sealed : IsSealed s
      sealed = system_sealed l y s library is

      says : (f : List ℕ → ℕ) → RelationHolds c (map f c.names) ↔ (f (track_name t) ≡ k)
      says f = subst (λ (names : List (List ℕ)). RelationHolds c (map f names) ↔ (f (track_name t) ≡ k)) (sym made.names) (constant_holds s k (track_name t) c sealed made (f (track_name t)))

  renamed_says : (s t : Track) (p : Plan) (c : RelationValue) → IsNamed s → AreNamed p → ((a : RelationValue) → Makes l p a → Says l p a) → Makes l (renamed s t p) c → Says l (renamed s t p) c
  renamed_says s t p c named all inner (a, is, made) = (made.relation, says)
    where
      from : List ℕ
      from = track_name s

      to : List ℕ
      to = track_name t

      names : List (List ℕ)
      names = each_once (changed_names from to a.names)

      systems : List SystemValue
      systems = systems_under (changed_names from to a.names) a.systems names

      g : (List ℕ → ℕ) → List ℕ → ℕ
      g f name = f (changed_name from to name)

      moved : (f : List ℕ → ℕ) (name : List ℕ) → g f name ≡ (if bytes_eq name from then f to else f name)
      moved f name = by (bytes_eq name from)
        where
          by : (b : Bool) → f (if b then to else name) ≡ (if b then f to else f name)
          by true = refl
          by false = refl

      agree : (f : List ℕ → ℕ) → Agree (tracks p) (numbers_by (g f)) (with_number s (f to) (numbers_by f))
      agree f u there = moved f (track_name u) ∙ changed_is s u (f to) f named (named_track p u all there)

      own : (f : List ℕ → ℕ) → HoldsOver a.systems a.automaton (map f (changed_names from to a.names)) ↔ RelationHolds a (map (g f) a.names)
      own f =
          let same : map f (changed_names from to a.names) ≡ map (g f) a.names = map-map f (changed_name from to) a.names in
          (subst (HoldsOver a.systems a.automaton) same, subst (HoldsOver a.systems a.automaton) (sym same))

      says : (f : List ℕ → ℕ) → RelationHolds c (map f c.names) ↔ Means m p (with_number s (f to) (numbers_by f))
      says f =
          either_way (own_named names systems (λ number_of. HoldsOver a.systems a.automaton (map number_of (changed_names from to a.names))) c made f)
          (either_way (own f) (either_way ((inner a is).1 (g f)) (agree_both m p (numbers_by (g f)) (with_number s (f to) (numbers_by f)) (agree f))))

  joined_says : (j : Joint) (p q : Plan) (c : RelationValue) → IsReady l (joined j p q) → ((a : RelationValue) → Makes l p a → Says l p a) → ((b : RelationValue) → Makes l q b → Says l q b)
      → Makes l (joined j p q) c → Says l (joined j p q) c
  joined_says j p q c ready first second (a, b, is, also, made) =
      let left = first a is in
      let right = second b also in
      let may = ready.2 a b is also in
      let bound = joins_bound j a.names b.names in (
        join_is a b left.0 right.0 may.0 may.1 (op_of j) c bound made,
        λ f.
            let l1 = left.1 f in
            let r1 = right.1 f in
            let P = RelationHolds a (map f a.names) in
            let Q = RelationHolds b (map f b.names) in
            let R = Means m p (numbers_by f) in
            let S = Means m q (numbers_by f) in
            either_way (join_named (op_of j) a b c left.0 right.0 may.0 may.1 bound made f)
            (either_way (joins_same j P Q) (joined_same j P Q R S l1.0 l1.1 r1.0 r1.1, joined_same j R S P Q l1.1 l1.0 r1.1 r1.0)),
      )

  complement_says : (p : Plan) (c : RelationValue) → ((a : RelationValue) → Makes l p a → Says l p a) → Makes l (complement p) c → Says l (complement p) c
  complement_says p c inner (a, is, made) = (complement_is a own.0 c made, says)
    where
      own : Says l p a
      own = inner a is

      says : (f : List ℕ → ℕ) → RelationHolds c (map f c.names) ↔ ¬ Means m p (numbers_by f)
      says f =
          let held = complement_holds a own.0 c made (map f c.names) (length-map c.names f) in
          let same : RelationHolds a (map f c.names) ↔ Means m p (numbers_by f) = subst (λ (names : List (List ℕ)). RelationHolds a (map f names) ↔ Means m p (numbers_by f)) (sym made.complement.names) (own.1 f) in
          (λ h n. held.0 h (same.1 n), λ n. held.1 (λ h. n (same.0 h)))

  projected_says : (t : Track) (p : Plan) (c : RelationValue) → IsNamed t → AreNamed p → ((a : RelationValue) → Makes l p a → Says l p a) → Makes l (projected t p) c → Says l (projected t p) c
  projected_says t p c named all inner (a, is, made) = (projection_is (track_name t) a c own.0 made, says)
    where
      own : Says l p a
      own = inner a is

      at : (f : List ℕ → ℕ) (k : ℕ) → RelationHolds a (map (changed f (track_name t) k) a.names) ↔ Means m p (with_number t k (numbers_by f))
      at f k = either_way (own.1 (changed f (track_name t) k)) (agree_both m p (numbers_by (changed f (track_name t) k)) (with_number t k (numbers_by f)) (λ u there. changed_is t u k f named (named_track p u all there)))

      says : (f : List ℕ → ℕ) → RelationHolds c (map f c.names) ↔ ((k : ℕ) × Means m p (with_number t k (numbers_by f)))
      says f =
          let held = projection_named (track_name t) a c own.0 made f in
          (λ h. let found = held.0 h in (found.0, (at f found.0).0 found.1), λ (k, h). held.1 (k, (at f k).1 h))

  pub plan_says : (p : Plan) (c : RelationValue) → AreNamed p → IsReady l p → Makes l p c → Says l p c
  plan_says (compared y r s t) c named ready (u, is, made) =
      let names = compared_names (comparison_of r) (track_name s) (track_name t) in
      let P = λ (f : List ℕ → ℕ). comparisons.Compares (comparison_of r) (f (track_name s)) (f (track_name t)) in
      (made.relation, λ f. either_way (own_named (each_once names) (map (λ name. u) (each_once names)) P c made f) (compares_same r (f (track_name s)) (f (track_name t))))
  plan_says (added y s t u) c named ready (v, is, made) =
      let names = each_once (track_name s ∷ track_name t ∷ track_name u ∷ []) in
      (made.relation, own_named names (map (λ name. v) names) (λ f. f (track_name s) + f (track_name t) ≡ f (track_name u)) c made)
  plan_says (number y t) c named ready (u, is, made) = (made.relation, own_named (track_name t ∷ []) (u ∷ []) (λ f. ⊤) c made)
  plan_says (called n ts) c named ready made = called_says n ts c made
  plan_says (lettered n ts r b) c named ready made = lettered_says n ts r b c made
  plan_says (renamed s t p) c named ready made = renamed_says s t p c named.0 named.2 (λ a is. plan_says p a named.2 ready.0 is) made
  plan_says (constant y k t) c named ready made = constant_says y k t c made
  plan_says (joined j p q) c named ready made = joined_says j p q c ready (λ a is. plan_says p a named.0 ready.0 is) (λ b is. plan_says q b named.1 ready.1 is) made
  plan_says (paired n ts r k us) c named ready made = paired_says n ts r k us c ready made
  plan_says (complement p) c named ready made = complement_says p c (λ a is. plan_says p a named ready is) made
  plan_says (projected t p) c named ready made = projected_says t p c named.0 named.1 (λ a is. plan_says p a named.1 ready.0 is) made

pub plans_hold : PlansHold
plans_hold l p c library named ready made = plan_says l library p c named ready made
