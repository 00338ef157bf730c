-- What is under the names of the formulas of letters.
use Rattle.std.proofs.Common.{◌≡◌, ℕ, zero, suc, ◌+◌, ◌-◌, ◌<◌, ◌≤◌, Bool, true, false, cond, if◌then◌else◌, List, [], ◌∷◌, length, get_or, ℤ, Option, None, Some, ◌⊎◌, inl, inr, refl, sym, ap, ◌∙◌, subst, arith}
use Rattle.std.specs.Option.{option_or}
use Rattle.std.specs.Ordering.{nat_cmp, is_eq, eq_by_cmp}
use Rattle.std.specs.declared.cmp.Ordering.{Ordering}
use Rattle.std.specs.declared.cmp.Ordering.TheVariants.{Less, Equal, Greater}
use Rattle.std.specs.Cmp.Lexicographic.{slice_cmp, nat_list_cmp_total}
use Rattle.std.specs.FinMap as finite
use Rattle.std.specs.FinMap.{get-empty, get-insert, slice_cmp-IsAntisymmetric, nat_cmp-IsAntisymmetric}
use Rattle.std.specs.Str.{bytes_eq}
use Rattle.std.proofs.lemmas.Bool.{cases_lt}
use Rattle.std.proofs.lemmas.Fmt.{decimal_injective}
use Rattle.std.proofs.lemmas.Option.{none-some, same_Some}
use Rattle.std.proofs.lemmas.Slice.Eq.{bytes_eq-Decides}
use Rattle.digit_tuple.specs.declared.direction.Direction.TheVariants.{Lsd, Msd}
use Rattle.morph_words.specs.Rules.{Rules}
use Rattle.num_system.specs.Sealed.{SystemValue}
use Rattle.num_system.specs.Tracks.{absent_system}
use Rattle.word_output.specs.Words.{WordValue}
use Rattle.formula_parse.specs.Tokens.{Name}
use Rattle.formula_resolve.specs.Headers.{Headers, automaton_tracks, known, known_systems, with_word, word_tracks}
use Rattle.formula_build.specs.KnownNames.{AreKnownIn, AreKnownAmong}
use Rattle.plan_relations.specs.Libraries.{IsSystemIn, LibraryValue, NamedRelation, NamedWord, relation_named, with_word as with_named, word_named}
use Rattle.named_systems.specs.NamedSystems.{NamedSystem, system_named}
use Rattle.formula_build.specs.Resolved.{AreDirections, ShareDirection, plan_headers}
use Rattle.formula_build.specs.Solutions.{direction_named}
use Rattle.formula_build.specs.TrackSystems.{Fits, IsWordOverSystems}
use Rattle.word_images.specs.ImageFormula.{at_place, image_formula, places_before, word_name}
use Rattle.word_images.specs.Recoded.{IsRecoded}
use Rattle.word_commands.specs.RecodedWords.{AreRecoded, IsImageLibrary, image_headers}
use Rattle.command_parts.proofs.TableHeaders.{ties_same}

-- one word more, and its header
pub words_more : (rules : Rules) (word : WordValue) (r : ℕ) (old new : List NamedWord) (name : Name) (u recoded : WordValue) → new ≡ with_named old name u → name ≡ word_name r → u ≡ recoded → AreRecoded rules word r old → IsRecoded rules word r recoded → AreRecoded rules word (r + 1) new
words_more rules word r old new name u recoded pushed named same before is =
    subst (λ n. AreRecoded rules word n new) (let more : suc r ≡ r + 1 = omega arith in more) (old, u, before, subst (IsRecoded rules word r) (sym same) is, pushed ∙ ap (λ (nm : Name). with_named old nm u) named)

pub headers_more : (s : Name) (r : ℕ) (old new : Headers) (name : Name) (tracks : List Name) → new ≡ with_word old name tracks → old ≡ image_headers s r → name ≡ word_name r → tracks ≡ s ∷ [] → new ≡ image_headers s (r + 1)
headers_more s r old new name tracks added before named over =
    added ∙ (λ i. with_word (before i) (named i) (over i)) ∙ ap (image_headers s) (let more : suc r ≡ r + 1 = omega arith in more)

-- a name is itself
same_name : (n : Name) → bytes_eq n n ≡ true
same_name n = (bytes_eq-Decides n n).1 refl

-- places have names of their own
one_place : (r q : ℕ) → r ≤ 40 → q ≤ 40 → word_name r ≡ word_name q → r ≡ q
one_place r q small few same = decimal_injective r q (omega (arith, small)) (omega (arith, few)) same

-- one word more under a name
word_pushed : (ws : List NamedWord) (nm : Name) (u : WordValue) (name : Name) → word_named (with_named ws nm u) name ≡ option_or (word_named ws name) (if bytes_eq nm name then Some u else None)
word_pushed [] nm u name = refl
word_pushed (w ∷ ws) nm u name = by (word_pushed ws nm u name) (bytes_eq w.name name)
  where
    by : word_named (with_named ws nm u) name ≡ option_or (word_named ws name) (if bytes_eq nm name then Some u else None) → (b : Bool)
        → (if b then Some w.word else word_named (with_named ws nm u) name) ≡ option_or (if b then Some w.word else word_named ws name) (if bytes_eq nm name then Some u else None)
    by rest true = refl
    by rest false = rest

module _ (rules : Rules) (word : WordValue) where
  -- a name that is that of no place means no word
  absent : (n : ℕ) (ws : List NamedWord) (name : Name) → AreRecoded rules word n ws → ((r : ℕ) → r < n → ¬ (word_name r ≡ name)) → word_named ws name ≡ None
  absent zero ws name none apart = ap (λ (xs : List NamedWord). word_named xs name) none
  absent (suc n) ws name (prefix, u, before, is, all) apart =
      ap (λ (xs : List NamedWord). word_named xs name) all ∙ word_pushed prefix (word_name n) u name
      ∙ ap (λ o. option_or o (if bytes_eq (word_name n) name then Some u else None)) (absent n prefix name before (λ r less. apart r (omega (arith, less)))) ∙ by (bytes_eq (word_name n) name) refl
    where
      by : (b : Bool) → bytes_eq (word_name n) name ≡ b → (if b then Some u else None) ≡ None
      by true same = absurd (apart n (omega arith) ((bytes_eq-Decides (word_name n) name).0 same))
      by false other = refl

  -- the word of each place is under its name
  pub found : (n : ℕ) (ws : List NamedWord) (r : ℕ) → n ≤ 40 → AreRecoded rules word n ws → r < n → (u : WordValue) × (word_named ws (word_name r) ≡ Some u) × IsRecoded rules word r u
  found zero ws r few none less = absurd (omega (arith, less))
  found (suc n) ws r few (prefix, u, before, is, all) less = by (λ early. found n prefix r (omega (arith, few)) before early) (cases_lt r n)
    where
      pushed : word_named ws (word_name r) ≡ option_or (word_named prefix (word_name r)) (if bytes_eq (word_name n) (word_name r) then Some u else None)
      pushed = ap (λ (xs : List NamedWord). word_named xs (word_name r)) all ∙ word_pushed prefix (word_name n) u (word_name r)

      by : (r < n → (v : WordValue) × (word_named prefix (word_name r) ≡ Some v) × IsRecoded rules word r v) → (r < n) ⊎ (n ≤ r) → (v : WordValue) × (word_named ws (word_name r) ≡ Some v) × IsRecoded rules word r v
      by rest (inl early) =
          let there = rest early in
          (there.0, pushed ∙ ap (λ o. option_or o (if bytes_eq (word_name n) (word_name r) then Some u else None)) there.1, there.2)
      by rest (inr late) =
          let same : n ≡ r = omega (arith, less, late) in (
            u,
            pushed
                ∙ ap (λ o. option_or o (if bytes_eq (word_name n) (word_name r) then Some u else None)) (absent n prefix (word_name r) before (λ q early named. omega (arith, early, same, one_place q r (omega (arith, early, few)) (omega (arith, less, few)) named)))
                ∙ ap (λ b. if b then Some u else None) (ap (λ m. bytes_eq (word_name n) (word_name m)) (sym same) ∙ same_name (word_name n)),
            subst (λ m. IsRecoded rules word m u) same is,
          )

  -- and nothing else does
  pub which : (n : ℕ) (ws : List NamedWord) (name : Name) (w : WordValue) → AreRecoded rules word n ws → word_named ws name ≡ Some w → (r : ℕ) × (r < n) × (word_name r ≡ name) × IsRecoded rules word r w
  which zero ws name w none there = absurd (none-some w (sym (ap (λ (xs : List NamedWord). word_named xs name) none) ∙ there))
  which (suc n) ws name w (prefix, u, before, is, all) there = by (word_named prefix name) refl (λ v early. which n prefix name v before early)
    where
      pushed : option_or (word_named prefix name) (if bytes_eq (word_name n) name then Some u else None) ≡ Some w
      pushed = sym (word_pushed prefix (word_name n) u name) ∙ sym (ap (λ (xs : List NamedWord). word_named xs name) all) ∙ there

      last : (b : Bool) → bytes_eq (word_name n) name ≡ b → (if b then Some u else None) ≡ Some w → (r : ℕ) × (r < suc n) × (word_name r ≡ name) × IsRecoded rules word r w
      last true same at = (n, omega arith, (bytes_eq-Decides (word_name n) name).0 same, subst (IsRecoded rules word n) (same_Some u w at) is)
      last false other at = absurd (none-some w at)

      by : (o : Option WordValue) → word_named prefix name ≡ o → ((v : WordValue) → word_named prefix name ≡ Some v → (r : ℕ) × (r < n) × (word_name r ≡ name) × IsRecoded rules word r v)
          → (r : ℕ) × (r < suc n) × (word_name r ≡ name) × IsRecoded rules word r w
      by (Some v) e rest = let early = rest v e in
          (early.0, omega (arith, early.1), early.2, subst (IsRecoded rules word early.0) (same_Some v w (sym (ap (λ o. option_or o (if bytes_eq (word_name n) name then Some u else None)) e) ∙ pushed)) early.3)
      by None e rest = last (bytes_eq (word_name n) name) refl (sym (ap (λ o. option_or o (if bytes_eq (word_name n) name then Some u else None)) e) ∙ pushed)

ties_apart : (name other : Name) → ¬ (name ≡ other) → eq_by_cmp (slice_cmp nat_cmp) name other ≡ false
ties_apart name other apart = by (slice_cmp nat_cmp name other) refl
  where
    by : (o : Ordering) → slice_cmp nat_cmp name other ≡ o → is_eq o ≡ false
    by Less e = refl
    by Equal e = absurd (apart (slice_cmp-IsAntisymmetric nat_cmp-IsAntisymmetric name other e))
    by Greater e = refl

module _ (s : Name) where
  pushed_tracks : (n : ℕ) (name : Name) → word_tracks (image_headers s (suc n)) name ≡ known (cond (eq_by_cmp (slice_cmp nat_cmp) name (word_name n)) (Some (s ∷ [])) (finite.get (image_headers s n).words name))
  pushed_tracks n name = ap known (get-insert nat_list_cmp_total (image_headers s n).words (word_name n) (s ∷ []) name)

  -- the header of each place
  pub tracks_found : (n r : ℕ) → n ≤ 40 → r < n → word_tracks (image_headers s n) (word_name r) ≡ s ∷ []
  tracks_found zero r few less = absurd (omega (arith, less))
  tracks_found (suc n) r few less = pushed_tracks n (word_name r) ∙ by (λ early. tracks_found n r (omega (arith, few)) early) (cases_lt r n)
    where
      by : (r < n → word_tracks (image_headers s n) (word_name r) ≡ s ∷ []) → (r < n) ⊎ (n ≤ r) → known (cond (eq_by_cmp (slice_cmp nat_cmp) (word_name r) (word_name n)) (Some (s ∷ [])) (finite.get (image_headers s n).words (word_name r))) ≡ s ∷ []
      by rest (inl early) =
          ap (λ b. known (cond b (Some (s ∷ [])) (finite.get (image_headers s n).words (word_name r)))) (ties_apart (word_name r) (word_name n) (λ named. omega (arith, early, one_place r n (omega (arith, early, few)) (omega (arith, few)) named)))
          ∙ rest early
      by rest (inr late) =
          let same : r ≡ n = omega (arith, less, late) in
          ap (λ b. known (cond b (Some (s ∷ [])) (finite.get (image_headers s n).words (word_name r)))) (ap (λ m. eq_by_cmp (slice_cmp nat_cmp) (word_name m) (word_name n)) same ∙ ties_same (word_name n))

  -- words have one track at most
  few_tracks : (n : ℕ) (name : Name) → length (word_tracks (image_headers s n) name) ≤ 1
  few_tracks zero name = omega (arith, ap (λ (o : Option (List Name)). length (known o)) (get-empty (slice_cmp nat_cmp) name))
  few_tracks (suc n) name = subst (λ (ss : List Name). length ss ≤ 1) (sym (pushed_tracks n name)) (by (few_tracks n name) (eq_by_cmp (slice_cmp nat_cmp) name (word_name n)))
    where
      by : length (word_tracks (image_headers s n) name) ≤ 1 → (b : Bool) → length (known (cond b (Some (s ∷ [])) (finite.get (image_headers s n).words name))) ≤ 1
      by rest true = omega arith
      by rest false = rest

  -- and automata none
  no_tracks : (n : ℕ) (name : Name) → automaton_tracks (image_headers s n) name ≡ []
  no_tracks zero name = ap known_systems (get-empty (slice_cmp nat_cmp) name)
  no_tracks (suc n) name = no_tracks n name

  shared_direction : (ss : List Name) → length ss ≤ 1 → ShareDirection direction_named ss
  shared_direction ss few i j less before = ap (λ m. direction_named (get_or ss m [])) (let same : i ≡ j = omega (arith, few, less, before) in same)

  pub directions : (n : ℕ) → AreDirections (image_headers s n) direction_named
  directions n = record {
    by_name = λ x y same. ap (λ b. if b then Lsd else Msd) same;
    of_automaton = λ name. shared_direction (automaton_tracks (image_headers s n) name) (omega (arith, ap (λ (ss : List Name). length ss) (no_tracks n name)));
    of_word = λ name. shared_direction (word_tracks (image_headers s n) name) (few_tracks n name);
  }

module _ (rules : Rules) (word : WordValue) (s : Name) (k : ℕ) (l : LibraryValue) (is : IsImageLibrary rules word s k l) (few : k ≤ 40) (system : SystemValue) (systems : word.systems ≡ system ∷ []) where
  -- the system is under its name
  pub system_there : l.systems ≡ record { name = s; system = system } ∷ []
  system_there = is.systems ∙ ap (λ (ss : List SystemValue). record { name = s; system = get_or ss 0 absent_system } ∷ []) systems

  pub has_system : IsSystemIn l s system
  has_system = ap (λ (ss : List NamedSystem). system_named ss s) system_there ∙ ap (λ b. if b then Some system else None) (same_name s)

  pub only_system : (y : Name) (t : SystemValue) → IsSystemIn l y t → (s ≡ y) × (system ≡ t)
  only_system y t there = by (bytes_eq s y) refl (sym (ap (λ (ss : List NamedSystem). system_named ss y) system_there) ∙ there)
    where
      by : (b : Bool) → bytes_eq s y ≡ b → (if b then Some system else None) ≡ Some t → (s ≡ y) × (system ≡ t)
      by true same at = ((bytes_eq-Decides s y).0 same, same_Some system t at)
      by false other at = absurd (none-some t at)

  pub fits : system.direction ≡ direction_named s → Fits l (plan_headers (image_headers s k)) direction_named
  fits direction = record {
    relations = λ n r there. absurd (none-some r (sym (ap (λ (rs : List NamedRelation). relation_named rs n) is.relations) ∙ there));
    words = λ n w there. over n w (which rules word k l.words n w is.words there);
    directions = λ y t there. let same = only_system y t there in ap (λ (v : SystemValue). v.direction) (sym same.1) ∙ direction ∙ ap direction_named same.0;
  }
    where
      over : (n : Name) (w : WordValue) → (r : ℕ) × (r < k) × (word_name r ≡ n) × IsRecoded rules word r w → IsWordOverSystems l (word_tracks (image_headers s k) n) w
      over n w (r, less, named, recoded) = subst (λ (ss : List Name). IsWordOverSystems l ss w) (sym (ap (word_tracks (image_headers s k)) (sym named) ∙ tracks_found s k r few less)) (record {
        count = ap (λ (ss : List SystemValue). length ss) (recoded.systems ∙ systems);
        each = λ i inside. subst (λ m. IsSystemIn l (get_or (s ∷ []) m []) (get_or w.systems m absent_system)) (let first : 0 ≡ i = omega (arith, inside) in first)
            (subst (IsSystemIn l s) (sym (ap (λ (ss : List SystemValue). get_or ss 0 absent_system) (recoded.systems ∙ systems))) has_system);
      })

  -- the names of the formula mean something
  place_known : (b : ℤ) (r : ℕ) → r < k → AreKnownIn l (at_place s k b r)
  place_known b r less = let u = found rules word k l.words r few is.words less in ((tt, (system, has_system)), (u.0, u.1))

  places_known : (b : ℤ) (n : ℕ) → n ≤ k → AreKnownAmong l (places_before s k b n)
  places_known b zero within = tt
  places_known b (suc n) within = (places_known b n (omega (arith, within)), place_known b n (omega (arith, within)))

  pub known_in : (b : ℤ) → 0 < k → AreKnownIn l (image_formula s k b)
  known_in b some = (places_known b (k - 1) (omega arith), place_known b (k - 1) (omega (arith, some)))
