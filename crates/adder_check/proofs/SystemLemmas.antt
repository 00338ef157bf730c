-- The laws of a language determine numeration systems.
use Rattle.std.proofs.Common.{◌≡◌, ℕ, List, ap, ◌∙◌, subst, arith, IsTrue}
use Rattle.digit_tuple.specs.Deterministic.{letters_of}
use Rattle.digit_tuple.specs.Letters.{IsWord, product}
use Rattle.digit_tuple.specs.Paddings.{in_order}
use Rattle.digit_tuple.proofs.AcceptedLemmas.{accepted_over}
use Rattle.digit_tuple.proofs.PaddingLemmas.{in_order-twice, IsWord-in_order}
use Rattle.endless.specs.LanguageLaws.{language_in, LawsDetermineSystems}

pub laws_determine_system : LawsDetermineSystems
laws_determine_system direction digits d sizes table = (
  (λ both. record { over = over; empty = both.0.empty; zeros = both.0.zeros; endless = both.1 }),
  (λ system. (record { empty = system.empty; zeros = system.zeros }, system.endless)),
)
  where
    letters : letters_of d ≡ digits
    letters = ap product sizes ∙ omega arith

    over : (w : List ℕ) → IsTrue (language_in direction d w) → IsWord digits w
    over w accepted = subst (IsWord digits) (in_order-twice direction w) (IsWord-in_order direction digits (in_order direction w)
        (subst (λ n. IsWord n (in_order direction w)) letters (accepted_over d (in_order direction w) table accepted)))
