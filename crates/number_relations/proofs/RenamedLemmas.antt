-- Relations with one name changed.
use Rattle.std.proofs.Common.{◌≡◌, ℕ, ◌<◌, Bool, true, false, List, [], length, get_or, refl, sym, ap, ◌∙◌, subst, if◌then◌else◌, arith}
use Rattle.std.specs.List.{Contains}
use Rattle.std.specs.Str.{bytes_eq}
use Rattle.std.proofs.lemmas.Slice.Eq.{bytes_eq-Decides}
use Rattle.std.proofs.lemmas.List.{get_or-map, length-map}
use Rattle.std.proofs.lemmas.List.Elements.{Contains-get_or}
use Rattle.digit_tuple.specs.Names.{AreDistinct}
use Rattle.digit_tuple.proofs.NameLemmas.{place_of-is}
use Rattle.num_system.specs.Sealed.{SystemValue}
use Rattle.num_system.specs.Tracks.{absent_system, system_under, AgreeUnder}
use Rattle.number_relations.specs.Placed.{changed_name, changed_names}

module _ (names : List (List ℕ)) (systems : List SystemValue) (from to : List ℕ) (distinct : AreDistinct names)
    (agree : Contains names from → Contains names to → system_under names systems from ≡ system_under names systems to) where
  -- the system of a track is that of its name
  system_at : (i : ℕ) (n : List ℕ) → i < length names → get_or names i [] ≡ n → get_or systems i absent_system ≡ system_under names systems n
  system_at i n within is = ap (λ (p : ℕ). get_or systems p absent_system) (sym (place_of-is names n i distinct within is))

  contains_at : (i : ℕ) (n : List ℕ) → i < length names → get_or names i [] ≡ n → Contains names n
  contains_at i n within is = subst (Contains names) is (Contains-get_or names i [] within)

  -- names that are the same after the change
  same_system : (i j : ℕ) → i < length names → j < length names → (a b : Bool) → bytes_eq (get_or names i []) from ≡ a → bytes_eq (get_or names j []) from ≡ b
      → (if a then to else get_or names i []) ≡ (if b then to else get_or names j []) → get_or systems i absent_system ≡ get_or systems j absent_system
  same_system i j within inside true true is also same =
      system_at i from within ((bytes_eq-Decides (get_or names i []) from).0 is) ∙ sym (system_at j from inside ((bytes_eq-Decides (get_or names j []) from).0 also))
  same_system i j within inside false false is also same = system_at i (get_or names j []) within same ∙ sym (system_at j (get_or names j []) inside refl)
  same_system i j within inside true false is also same =
      let here = (bytes_eq-Decides (get_or names i []) from).0 is in
      system_at i from within here ∙ agree (contains_at i from within here) (contains_at j to inside (sym same)) ∙ sym (system_at j to inside (sym same))
  same_system i j within inside false true is also same =
      let there = (bytes_eq-Decides (get_or names j []) from).0 also in
      system_at i to within same ∙ sym (agree (contains_at j from inside there) (contains_at i to within same)) ∙ sym (system_at j from inside there)

  pub changed_agree : AgreeUnder (changed_names from to names) systems
  changed_agree i j within inside same =
      let here : i < length names = omega (arith, within, length-map names (changed_name from to)) in
      let there : j < length names = omega (arith, inside, length-map names (changed_name from to)) in
      same_system i j here there (bytes_eq (get_or names i []) from) (bytes_eq (get_or names j []) from) refl refl
      (sym (get_or-map (changed_name from to) names i [] [] here) ∙ same ∙ get_or-map (changed_name from to) names j [] [] there)
