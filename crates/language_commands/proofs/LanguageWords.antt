-- Which words the automaton accepts that an operation makes of languages of definitions.
use Rattle.std.proofs.Common.{◌≡◌, ◌⊎◌, ℤ, List, [], ◌∷◌, ◌++◌, Ok, inl, inr, refl, sym, ap, ◌∙◌, subst}
use Rattle.std.specs.Prelude.{⊤}
use Rattle.std.specs.List.{All}
use Rattle.std.proofs.lemmas.List.{append_assoc, append-nil}
use Rattle.digit_tuple.specs.Deterministic.{Automaton}
use Rattle.digit_tuple.specs.Sets.{IsAscending}
use Rattle.digit_tuple.specs.Steps.{StepLog}
use Rattle.automaton_steps.proofs.ThenAnswers.{equal_value, no_fault}
use Rattle.product_op.specs.declared.op.Op.TheVariants.{And, Or}
use Rattle.lang_ops.specs.ConcatSteps.{concat_step}
use Rattle.lang_ops.specs.ProductSteps.{product_step}
use Rattle.definitions.specs.TreeMeanings.{tree_words, made_words}
use Rattle.definitions.specs.Trees as tree_ops
use Rattle.definitions.specs.Trees.{Trees, no_trees, tree_then}
use Rattle.language_steps.specs.declared.op.LanguageOp.{LanguageOp}
use Rattle.language_steps.specs.declared.op.LanguageOp.TheVariants.{Pair, One}
use Rattle.language_steps.specs.declared.op.OneOp.TheVariants.{Star, Reversal}
use Rattle.language_steps.specs.declared.op.PairOp.TheVariants.{Union, Intersection, Concatenation}
use Rattle.system_files.specs.SystemFiles.{Custom}
use Rattle.language_steps.specs.LanguageSteps.{DoesChain, DoesOperation}
use Rattle.language_commands.specs.LanguageOutcomes.{tree_op}
use Rattle.language_steps.proofs.Coded.{IsOf, of_same}
use Rattle.language_steps.proofs.MadeWords.{union_of, intersection_of, concatenation_of, star_of, reversal_of}

module _ (custom : Custom) (sets : List (List ℤ)) (up : All IsAscending sets) where
  -- automata of definitions, one for each
  abbrev pub AreOf : List Automaton → Trees → Type 0
  AreOf [] no_trees = Unit {0}
  AreOf [] (tree_then tree trees) = ⊥
  AreOf (d ∷ ds) no_trees = ⊥
  AreOf (d ∷ ds) (tree_then tree trees) = IsOf sets (λ word. tree_words custom tree word) d × AreOf ds trees

  union_chain : (L : List (List ℤ) → Type 0) (d made : Automaton) (ds : List Automaton) (trees : Trees) (old new : StepLog) → IsOf sets L d → AreOf ds trees → DoesChain (product_step Or) d ds old (Ok made) new
      → IsOf sets (λ word. L word ⊎ made_words custom tree_ops.Union trees word) made
  union_chain L d made [] (tree_then tree trees) old new of_d are does = absurd are
  union_chain L d made [] no_trees old new of_d are (is, same) =
      subst (IsOf sets (λ word. L word ⊎ made_words custom tree_ops.Union no_trees word)) (sym (equal_value made d is))
      (of_same sets L (λ word. L word ⊎ made_words custom tree_ops.Union no_trees word) d (λ word l. inl l) (λ word either. elim either [ inl l ↦ l | inr none ↦ absurd none ]) of_d)
  union_chain L d made (e ∷ ds) no_trees old new of_d are does = absurd are
  union_chain L d made (e ∷ ds) (tree_then tree trees) old new of_d are (inr (fault, failed, is)) = absurd (no_fault made fault is)
  union_chain L d made (e ∷ ds) (tree_then tree trees) old new of_d are (inl (mid, log, done, rest)) =
      let M : List (List ℤ) → Type 0 = λ word. L word ⊎ tree_words custom tree word in
      let one : IsOf sets M mid = union_of sets up L (λ word. tree_words custom tree word) d e mid of_d are.0 done.step.made_is in
      of_same sets (λ word. M word ⊎ made_words custom tree_ops.Union trees word) (λ word. L word ⊎ made_words custom tree_ops.Union (tree_then tree trees) word) made
      (λ word either. elim either [ inl first ↦ (elim first [ inl l ↦ inl l | inr t ↦ inr (inl t) ]) | inr more ↦ inr (inr more) ])
      (λ word either. elim either [ inl l ↦ inl (inl l) | inr rest ↦ (elim rest [ inl t ↦ inl (inr t) | inr more ↦ inr more ]) ])
      (union_chain M mid made ds trees log new one are.1 rest)

  intersection_chain : (L : List (List ℤ) → Type 0) (d made : Automaton) (ds : List Automaton) (trees : Trees) (old new : StepLog) → IsOf sets L d → AreOf ds trees → DoesChain (product_step And) d ds old (Ok made) new
      → IsOf sets (λ word. L word × made_words custom tree_ops.Intersection trees word) made
  intersection_chain L d made [] (tree_then tree trees) old new of_d are does = absurd are
  intersection_chain L d made [] no_trees old new of_d are (is, same) =
      subst (IsOf sets (λ word. L word × made_words custom tree_ops.Intersection no_trees word)) (sym (equal_value made d is))
      (of_same sets L (λ word. L word × made_words custom tree_ops.Intersection no_trees word) d (λ word l. (l, tt)) (λ word both. both.0) of_d)
  intersection_chain L d made (e ∷ ds) no_trees old new of_d are does = absurd are
  intersection_chain L d made (e ∷ ds) (tree_then tree trees) old new of_d are (inr (fault, failed, is)) = absurd (no_fault made fault is)
  intersection_chain L d made (e ∷ ds) (tree_then tree trees) old new of_d are (inl (mid, log, done, rest)) =
      let M : List (List ℤ) → Type 0 = λ word. L word × tree_words custom tree word in
      let one : IsOf sets M mid = intersection_of sets up L (λ word. tree_words custom tree word) d e mid of_d are.0 done.step.made_is in
      of_same sets (λ word. M word × made_words custom tree_ops.Intersection trees word) (λ word. L word × made_words custom tree_ops.Intersection (tree_then tree trees) word) made
      (λ word all. (all.0.0, (all.0.1, all.1))) (λ word all. ((all.0, all.1.0), all.1.1)) (intersection_chain M mid made ds trees log new one are.1 rest)

  -- words of the one language, followed by words of the other
  abbrev Joined : (List (List ℤ) → Type 0) → (List (List ℤ) → Type 0) → List (List ℤ) → Type 0
  Joined L M word = (u : List (List ℤ)) × (v : List (List ℤ)) × (word ≡ u ++ v) × L u × M v

  joined_there : (L M N : List (List ℤ) → Type 0) (word : List (List ℤ)) → Joined (Joined L M) N word → Joined L (Joined M N) word
  joined_there L M N word (x, y, are, (u, v, of_x, l, m), n) =
      (u, v ++ y, are ∙ (ap (λ (w : List (List ℤ)). w ++ y) of_x ∙ append_assoc u v y), l, (v, y, refl, m, n))

  joined_back : (L M N : List (List ℤ) → Type 0) (word : List (List ℤ)) → Joined L (Joined M N) word → Joined (Joined L M) N word
  joined_back L M N word (u, z, are, l, (v, y, of_z, m, n)) =
      (u ++ v, y, are ∙ (ap (λ (w : List (List ℤ)). u ++ w) of_z ∙ sym (append_assoc u v y)), (u, v, refl, l, m), n)

  concatenation_chain : (L : List (List ℤ) → Type 0) (d made : Automaton) (ds : List Automaton) (trees : Trees) (old new : StepLog) → IsOf sets L d → AreOf ds trees → DoesChain concat_step d ds old (Ok made) new
      → IsOf sets (Joined L (λ word. made_words custom tree_ops.Concatenation trees word)) made
  concatenation_chain L d made [] (tree_then tree trees) old new of_d are does = absurd are
  concatenation_chain L d made [] no_trees old new of_d are (is, same) =
      subst (IsOf sets (Joined L (λ word. made_words custom tree_ops.Concatenation no_trees word))) (sym (equal_value made d is))
      (of_same sets L (Joined L (λ word. made_words custom tree_ops.Concatenation no_trees word)) d (λ word l. (word, [], sym (append-nil word), l, refl))
      (λ word parts. let (u, v, cut, l, none) = parts in subst L (sym (cut ∙ (ap (λ (w : List (List ℤ)). u ++ w) none ∙ append-nil u))) l) of_d)
  concatenation_chain L d made (e ∷ ds) no_trees old new of_d are does = absurd are
  concatenation_chain L d made (e ∷ ds) (tree_then tree trees) old new of_d are (inr (fault, failed, is)) = absurd (no_fault made fault is)
  concatenation_chain L d made (e ∷ ds) (tree_then tree trees) old new of_d are (inl (mid, log, done, rest)) =
      let T : List (List ℤ) → Type 0 = λ word. tree_words custom tree word in
      let M : List (List ℤ) → Type 0 = λ word. made_words custom tree_ops.Concatenation trees word in
      let one : IsOf sets (Joined L T) mid = concatenation_of sets up L T d e mid of_d are.0 done.step.made_is in
      of_same sets (Joined (Joined L T) M) (Joined L (λ word. made_words custom tree_ops.Concatenation (tree_then tree trees) word)) made (joined_there L T M) (joined_back L T M) (concatenation_chain (Joined L T) mid made ds trees log new one are.1 rest)

  -- there is one alone
  abbrev pub IsAlone : LanguageOp → List Automaton → Type 0
  IsAlone (Pair op) ds = ⊤
  IsAlone (One op) ds = (d : Automaton) × (ds ≡ d ∷ [])

  not_alone : (d e other : Automaton) (ds : List Automaton) → (d ∷ e ∷ ds) ≡ (other ∷ []) → ⊥
  not_alone d e other ds is = let no : (e ∷ ds) ≡ [] = cc in cc

  pub operation_words : (op : LanguageOp) (made : Automaton) (ds : List Automaton) (trees : Trees) (old new : StepLog) → AreOf ds trees → IsAlone op ds → DoesOperation op ds old (Ok made) new → IsOf sets (λ word. made_words custom (tree_op op) trees word) made
  operation_words op made [] trees old new are alone does = absurd does
  operation_words op made (d ∷ ds) no_trees old new are alone does = absurd are
  operation_words (Pair Union) made (d ∷ ds) (tree_then tree trees) old new are alone does = union_chain (λ word. tree_words custom tree word) d made ds trees old new are.0 are.1 does
  operation_words (Pair Intersection) made (d ∷ ds) (tree_then tree trees) old new are alone does = intersection_chain (λ word. tree_words custom tree word) d made ds trees old new are.0 are.1 does
  operation_words (Pair Concatenation) made (d ∷ ds) (tree_then tree trees) old new are alone does = concatenation_chain (λ word. tree_words custom tree word) d made ds trees old new are.0 are.1 does
  operation_words (One op) made (d ∷ e ∷ ds) (tree_then tree trees) old new are alone does = absurd (not_alone d e alone.0 ds alone.1)
  operation_words (One op) made (d ∷ []) (tree_then tree (tree_then other trees)) old new are alone does = absurd are.1
  operation_words (One Star) made (d ∷ []) (tree_then tree no_trees) old new are alone done = star_of sets up (λ word. tree_words custom tree word) d made are.0 done.step.made_is
  operation_words (One Reversal) made (d ∷ []) (tree_then tree no_trees) old new are alone done = reversal_of sets up (λ word. tree_words custom tree word) d made are.0 done.step.made_is
