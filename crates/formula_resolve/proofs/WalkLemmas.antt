-- Walks through parts of formulas, one after another.
use Rattle.std.proofs.Common.{◌≡◌, refl, sym, ap, subst, ◌∙◌, ℕ, ◌+◌, ◌<◌, Bool, true, false, if◌then◌else◌, List, [], ◌∷◌, ◌++◌, map, length, take, drop, get_or, Result, Ok, Err, OnOk, fold}
use Rattle.std.proofs.Math.Seq.{drop-append_seam}
use Rattle.std.proofs.lemmas.List.{take_more, map-append}
use Rattle.std.proofs.lemmas.List.Sums.{fold-append}
use Rattle.std.specs.Option.{option_or}
use Rattle.formula_parse.specs.Tokens.{Quantifier}
use Rattle.formula_parse.specs.Trees as trees
use Rattle.formula_parse.specs.Views.{operand_view, operands_view, with_operand}
use Rattle.formula_parse.specs.declared.tree.Operand.{Operand}
use Rattle.formula_resolve.specs.Headers.{Headers}
use Rattle.formula_resolve.specs.Occurrences.{is_listed, bound_by, occurrences, occurrences_among, free_of, PartOccurrences}
use Rattle.formula_resolve.specs.Scopes.{binders_of}
use Rattle.formula_resolve.specs.Directions.{conflict_in, conflict_in_operands, parts_among, part_of, conflict_between, conflict_among_parts}
use Rattle.formula_resolve.specs.Meetings.{IsMet}
use Rattle.formula_resolve.specs.Walks.{Walked, WalkedAmong}
use Rattle.formula_resolve.specs.declared.meeting.Meeting.{Meeting}
use Rattle.formula_resolve.specs.declared.walk.Walk.{Walk}
use Rattle.formula_resolve.proofs.ListLemmas.{added_then}
use Rattle.formula_resolve.proofs.MeetingLemmas.{option_or_assoc, met_more}
use Rattle.formula_resolve.proofs.ScopeLemmas.{restored}

pub on_ok : {X E : Type 0} (r : Result X E) (P Q : Type 0) → (P → Q) → OnOk r P → OnOk r Q
on_ok (Ok x) P Q leads h = leads h
on_ok (Err e) P Q leads h = h

module _ (h : Headers) (os : trees.Operands) (f : trees.Formula) (j : trees.Joint) (old mid new : Walk) (m n : Meeting) (among : WalkedAmong h os old mid m) (one : Walked h f mid new) (met : IsMet m (free_of mid.next (drop (length mid.occurrences.items) new.occurrences.items)) n) where
  abbrev here : PartOccurrences
  here = occurrences h (binders_of old.scope) (occurrences_among h (binders_of old.scope) old.next os).next f

  same_part : occurrences h (binders_of mid.scope) mid.next f ≡ here
  same_part i = occurrences h (among.scope i) (among.next i) f

  new_list : drop (length mid.occurrences.items) new.occurrences.items ≡ here.list
  new_list =
      ap (drop (length mid.occurrences.items)) one.found
      ∙ drop-append_seam mid.occurrences.items (occurrences h (binders_of mid.scope) mid.next f).list
      ∙ ap (λ p. p.list) same_part

  -- one operand more
  pub walked_more : WalkedAmong h (trees.operands os f j) old new n
  walked_more = record {
    scope = one.scope ∙ among.scope;
    found =
        added_then old.occurrences.items mid.occurrences.items new.occurrences.items (occurrences_among h (binders_of old.scope) old.next os).list here.list among.found
        (one.found ∙ ap (λ p. mid.occurrences.items ++ p.list) same_part);
    next = one.next ∙ ap (λ p. p.next) same_part;
    conflict =
        one.conflict
        ∙ (λ i. option_or (among.conflict i) (conflict_in h (among.scope i) (among.next i) f))
        ∙ option_or_assoc old.conflict (conflict_in_operands h (binders_of old.scope) old.next os) (conflict_in h (binders_of old.scope) (occurrences_among h (binders_of old.scope) old.next os).next f);
    met = met_more (parts_among h (binders_of old.scope) old.next os) (part_of h (binders_of old.scope) (occurrences_among h (binders_of old.scope) old.next os).next f) m n among.met
        (subst (λ p. IsMet m p n) (λ i. free_of (among.next i) (new_list i)) met);
  }

-- all operands, and then the conflict that they make
pub walked_chain : (h : Headers) (os : trees.Operands) (f : trees.Formula) (old new kept : Walk) (m : Meeting) → WalkedAmong h (trees.operands os f trees.and) old new m
    → kept.scope ≡ new.scope → kept.next ≡ new.next → kept.occurrences ≡ new.occurrences → kept.conflict ≡ option_or new.conflict (conflict_between m.first m.other) → Walked h (trees.chain os f) old kept
walked_chain h os f old new kept m among scope next found conflict = record {
  scope = ap binders_of scope ∙ among.scope;
  found = ap (λ v. v.items) found ∙ among.found;
  next = next ∙ among.next;
  conflict =
      conflict
      ∙ (λ i. option_or (among.conflict i) (conflict_between (among.met.first i) ((among.met.other ∙ refl) i)))
      ∙ option_or_assoc old.conflict (conflict_in_operands h (binders_of old.scope) old.next (trees.operands os f trees.and)) (conflict_among_parts (parts_among h (binders_of old.scope) old.next (trees.operands os f trees.and)));
}

-- bound and then restored
restored_bound : (listed : Bool) (x y : ℕ) → (if listed then x else (if listed then y else x)) ≡ x
restored_bound true x y = refl
restored_bound false x y = refl

-- a quantifier, and what it takes
pub walked_quantified : (h : Headers) (q : Quantifier) (ns : trees.Names) (f : trees.Formula) (old mid new kept : Walk)
    → binders_of mid.scope ≡ bound_by old.next ns (binders_of old.scope) → mid.next ≡ old.next + 1 → mid.occurrences ≡ old.occurrences → mid.conflict ≡ old.conflict
    → Walked h f mid new → binders_of kept.scope ≡ restored ns (binders_of old.scope) (binders_of new.scope) → kept.next ≡ new.next → kept.occurrences ≡ new.occurrences → kept.conflict ≡ new.conflict
    → Walked h (trees.quantified q ns f) old kept
walked_quantified h q ns f old mid new kept bound number found conflict inside scope_kept next_kept found_kept conflict_kept = record {
  scope =
      scope_kept
      ∙ ap (λ b. restored ns (binders_of old.scope) b) (inside.scope ∙ bound)
      ∙ (λ i n. restored_bound (is_listed n ns) (binders_of old.scope n) old.next i);
  found = ap (λ v. v.items) found_kept ∙ inside.found ∙ (λ i. (found i).items ++ (occurrences h (bound i) (number i) f).list);
  next = next_kept ∙ inside.next ∙ (λ i. (occurrences h (bound i) (number i) f).next);
  conflict = conflict_kept ∙ inside.conflict ∙ (λ i. option_or (conflict i) (conflict_in h (bound i) (number i) f));
}

pub operand_more : (os : List Operand) (i : ℕ) (o : Operand) → i < length os → o ≡ get_or os i o → operands_view (take (i + 1) os) ≡ with_operand (operands_view (take i os)) (operand_view o)
operand_more os i o within at =
    ap operands_view (take_more os i o within)
    ∙ ap (fold with_operand trees.no_operands) (map-append operand_view (take i os) (get_or os i o ∷ []))
    ∙ fold-append with_operand trees.no_operands (map operand_view (take i os)) (operand_view (get_or os i o) ∷ [])
    ∙ ap (λ p. with_operand (operands_view (take i os)) (operand_view p)) (sym at)
