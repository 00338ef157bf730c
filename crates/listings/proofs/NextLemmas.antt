-- Lines of the words after a place, word by word.
use Rattle.std.proofs.Common.{◌≡◌, ℕ, suc, ◌+◌, ◌-◌, ◌<◌, ◌≤◌, Bool, List, [], ◌∷◌, ◌++◌, length, get_or, Option, Some, refl, sym, ap, ◌∙◌, subst, arith, append_assoc, append-nil, ℤ, IsTrue}
use Rattle.std.specs.Prelude.{◌&&◌, true, false}
use Rattle.std.proofs.lemmas.List.{length-append}
use Rattle.std.proofs.lemmas.List.Concat.{flat_map-append}
use Rattle.digit_tuple.proofs.AcceptedLemmas.{accepted_over}
use Rattle.digit_tuple.specs.Letters.{product, IsWord}
use Rattle.digit_tuple.specs.Deterministic.{Automaton, accepts_of}
use Rattle.word_walk.specs.Listed.{is_shortest}
use Rattle.word_walk.specs.Walks.{WalkValue, IsWalked}
use Rattle.word_walk.specs.Following.{IsNext, IsLast, AreNext}
use Rattle.word_walk.proofs.FollowingLemmas.{walks_compose}
use Rattle.listings.specs.declared.listed_lines.Bounds.{Bounds}
use Rattle.listings.specs.WordLines.{word_line, word_lines}
use Rattle.listings.specs.Listings.{AreLines, AreLinesWithin, AreOver, PassBound, ListingsAreOver, SameListsHaveSameLines}

module _ (lists : List ℕ → Bool) (sets : List (List ℤ)) (place : Option (List ℕ)) (bounds : Bounds) where
  -- these are the lines so far, at a place after which so many are left
  pub record AreSoFar (at : Option (List ℕ)) (left : ℕ) (text : List ℕ) : Type 0 where
    pub words : List (List ℕ)
    pub next : (k : ℕ) (more : List (List ℕ)) → AreNext lists at k more → AreNext lists place (length words + k) (words ++ more)
    pub text_is : text ≡ word_lines sets words
    pub count : length words + left ≡ bounds.words
    pub few : length text ≤ bounds.bytes

  -- none at first
  pub none_so_far : AreSoFar place bounds.words []
  none_so_far = record {
    words = [];
    next = λ k more are. let e : k ≡ 0 + k = omega arith in subst (λ n. AreNext lists place n more) e are;
    text_is = refl;
    count = omega arith;
    few = omega arith;
  }

  module _ (at : Option (List ℕ)) (left : ℕ) (text : List ℕ) (far : AreSoFar at left text) where
    -- the words so far, as those that come first
    first_words : (k : ℕ) → AreNext lists at k [] → AreNext lists place (length far.words + k) far.words
    first_words k are = subst (λ ws. AreNext lists place (length far.words + k) ws) (append-nil far.words) (far.next k [] are)

    -- all of them, where none are left
    pub all_so_far : left ≡ 0 → AreLinesWithin lists sets place bounds text
    all_so_far none =
        let e : length far.words + 0 ≡ bounds.words = omega (arith, far.count) in
        record {
          lines = record {
            words = far.words;
            next = subst (λ n. AreNext lists place n far.words) e (first_words 0 (walks_compose lists at).0);
            text_is = far.text_is;
          };
          few = far.few;
        }

    -- all that there are
    pub last_so_far : IsLast lists at → AreLinesWithin lists sets place bounds text
    last_so_far last = record {
      lines = record {
        words = far.words;
        next = subst (λ n. AreNext lists place n far.words) far.count (first_words left ((walks_compose lists at).1 left last));
        text_is = far.text_is;
      };
      few = far.few;
    }

    -- one more
    module _ (w after : List ℕ) (next : IsNext lists at w) (text_is : after ≡ text ++ word_line sets w) where
      more_next : (k : ℕ) (more : List (List ℕ)) → AreNext lists (Some w) k more → AreNext lists place (length (far.words ++ w ∷ []) + k) ((far.words ++ w ∷ []) ++ more)
      more_next k more are =
          let all : AreNext lists place (length far.words + suc k) (far.words ++ w ∷ more) = far.next (suc k) (w ∷ more) ((walks_compose lists at).2 k w more next are) in
          let e : length far.words + suc k ≡ length (far.words ++ w ∷ []) + k = omega (arith, length-append far.words (w ∷ [])) in
          subst (λ ws. AreNext lists place (length (far.words ++ w ∷ []) + k) ws) (sym (append_assoc far.words (w ∷ []) more)) (subst (λ n. AreNext lists place n (far.words ++ w ∷ more)) e all)

      more_lines : after ≡ word_lines sets (far.words ++ w ∷ [])
      more_lines =
          text_is
          ∙ ap (λ t. t ++ word_line sets w) far.text_is
          ∙ ap (λ t. word_lines sets far.words ++ t) (sym (append-nil (word_line sets w)))
          ∙ sym (flat_map-append (word_line sets) far.words (w ∷ []))

      pub more_so_far : 0 < left → length after ≤ bounds.bytes → AreSoFar (Some w) (left - 1) after
      more_so_far some few = record {
        words = far.words ++ w ∷ [];
        next = more_next;
        text_is = more_lines;
        count = omega (arith, far.count, length-append far.words (w ∷ []));
        few = few;
      }

      -- one too many
      pub pass_bound : 0 < left → bounds.bytes < length after → PassBound lists sets place bounds
      pass_bound some long =
          let words = far.words ++ w ∷ [] in
          let e : length words + 0 ≡ length words = omega arith in
          record {
            count = length words;
            within = omega (arith, far.count, length-append far.words (w ∷ []));
            text = after;
            lines = record {
              words = words;
              next = subst (λ n. AreNext lists place n words) e (subst (λ ws. AreNext lists place (length words + 0) ws) (append-nil words) (more_next 0 [] (walks_compose lists (Some w)).0));
              text_is = more_lines;
            };
            long = long;
          }

-- a step of the walk from its first place
module _ (first old : WalkValue) (sets : List (List ℤ)) (bounds : Bounds) (left : ℕ) (text : List ℕ) (same : old.listing ≡ first.listing) (far : AreSoFar (accepts_of first.listing) sets first.place bounds old.place left text) where
  -- there is no further word
  pub step_last : IsLast (accepts_of old.listing) old.place → AreLinesWithin (accepts_of first.listing) sets first.place bounds text
  step_last last = last_so_far (accepts_of first.listing) sets first.place bounds old.place left text far (subst (λ (d : Automaton). IsLast (accepts_of d) old.place) same last)

  -- there is one
  module _ (new : WalkValue) (w : List ℕ) (walked : IsWalked old new w) where
    step_next : IsNext (accepts_of first.listing) old.place w
    step_next = subst (λ (d : Automaton). IsNext (accepts_of d) old.place w) same walked.next

    pub step_listing : new.listing ≡ first.listing
    step_listing = walked.listing ∙ same

    pub step_over : (sizes : List ℕ) → AreOver (accepts_of first.listing) sizes → IsWord (product sizes) w
    step_over sizes over = over w step_next.listed

    pub step_more : (after : List ℕ) → after ≡ text ++ word_line sets w → 0 < left → length after ≤ bounds.bytes → AreSoFar (accepts_of first.listing) sets first.place bounds new.place (left - 1) after
    step_more after is some few =
        subst (λ (at : Option (List ℕ)). AreSoFar (accepts_of first.listing) sets first.place bounds at (left - 1) after) (sym walked.place)
        (more_so_far (accepts_of first.listing) sets first.place bounds old.place left text far w after step_next is some few)

    pub step_passes : (after : List ℕ) → after ≡ text ++ word_line sets w → 0 < left → bounds.bytes < length after → PassBound (accepts_of first.listing) sets first.place bounds
    step_passes after is some long = pass_bound (accepts_of first.listing) sets first.place bounds old.place left text far w after step_next is some long

-- what is listed is accepted
both_true : (a b : Bool) → IsTrue (a && b) → IsTrue a
both_true true b h = refl
both_true false b h = h

pub listings_are_over : ListingsAreOver
listings_are_over d skip table w listed = accepted_over d w table (both_true (accepts_of d w) (is_shortest skip w) listed)

-- lists of the same words
module _ (lists others : List ℕ → Bool) (sets : List (List ℤ)) (place : Option (List ℕ)) (same : (w : List ℕ) → lists w ≡ others w) where
  there : (w : List ℕ) → IsTrue (lists w) → IsTrue (others w)
  there w h = subst IsTrue (same w) h

  back : (w : List ℕ) → IsTrue (others w) → IsTrue (lists w)
  back w h = subst IsTrue (sym (same w)) h

  same_next : (count : ℕ) (words : List (List ℕ)) → AreNext lists place count words → AreNext others place count words
  same_next count words are = record {
    in_order = are.in_order;
    listed = λ k z within. there (get_or words k z) (are.listed k z within);
    after = are.after;
    few = are.few;
    whole = λ v listed after. are.whole v (back v listed) after;
  }

  same_lines : (count : ℕ) (text : List ℕ) → AreLines lists sets place count text → AreLines others sets place count text
  same_lines count text are = record { words = are.words; next = same_next count are.words are.next; text_is = are.text_is }

pub same_lists_have_same_lines : SameListsHaveSameLines
same_lists_have_same_lines lists others sets place bounds same = (
  λ text are. record { lines = same_lines lists others sets place same bounds.words text are.lines; few = are.few },
  λ past. record { count = past.count; within = past.within; text = past.text; lines = same_lines lists others sets place same past.count past.text past.lines; long = past.long },
)

-- a line of the word, over these sets
pub word_pushed : (lines after : List ℕ) (sets others : List (List ℤ)) (w v : List ℕ) → others ≡ sets → v ≡ w → after ≡ lines ++ word_line others v → after ≡ lines ++ word_line sets w
word_pushed lines after sets others w v first second is = is ∙ ap (λ (s : List (List ℤ)). lines ++ word_line s v) first ∙ ap (λ (u : List ℕ). lines ++ word_line sets u) second
