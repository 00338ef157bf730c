-- The automata of a system's files are over its digits.
use Rattle.std.proofs.Common.{◌≡◌, ℕ, List, [], ◌∷◌, Result, Ok, Err, MatchResult, OnOk, ap, ◌∙◌, subst}
use Rattle.std.specs.Prelude.{⊤}
use Rattle.digit_tuple.specs.Automaton.{Branching, IsBranchTable, letters_of}
use Rattle.digit_tuple.specs.Letters.{IsAlphabet}
use Rattle.digit_tuple.proofs.SystemLemmas.{length-digit_set}
use Rattle.dfa_reading.specs.Branching.{IsBranching, sizes_in}
use Rattle.dfa_reading.specs.Headers.{Header}
use Rattle.dfa_reading.specs.Listed.{Listed}
use Rattle.adder_check.specs.declared.admit_fault.AdmitFault.{AdmitFault}
use Rattle.system_files.specs.SystemFiles.{SystemFiles, AreOverDigits}
use Rattle.system_admission.specs.Admissions.{IsTableOf}

pub one_track : (files : SystemFiles) → AreOverDigits files → (ds : List ℕ) → sizes_in files.language.header ds ≡ files.digits ∷ []
one_track files are ds = ap (λ (h : Header). sizes_in h ds) are.language ∙ ap (λ (n : ℕ). n ∷ []) (length-digit_set files.digits)

pub three_tracks : (files : SystemFiles) → AreOverDigits files → (ds : List ℕ) → sizes_in files.adder.header ds ≡ files.digits ∷ files.digits ∷ files.digits ∷ []
three_tracks files are ds = ap (λ (h : Header). sizes_in h ds) are.adder ∙ ap (λ (n : ℕ). n ∷ n ∷ n ∷ []) (length-digit_set files.digits)

-- the automaton of a listed table is over its tracks
module _ (listed other : Listed) (same : listed ≡ other) (ds sizes : List ℕ) (over : sizes_in other.header ds ≡ sizes) where
  pub sizes_same : sizes_in listed.header ds ≡ sizes
  sizes_same = ap (λ (l : Listed). sizes_in l.header ds) same ∙ over

  pub table_of : (n : Branching) → IsAlphabet (sizes_in listed.header ds) → IsBranching (sizes_in listed.header ds) listed n → IsBranchTable (letters_of n) n.states → IsTableOf sizes other n
  table_of n fits branching table = record {
    fits = subst IsAlphabet sizes_same fits;
    is_branching = subst (λ (l : Listed). IsBranching sizes l n) same (subst (λ (ns : List ℕ). IsBranching ns listed n) sizes_same branching);
    table = table;
  }

-- what holds anyway holds of an answer
pub on_ok : {A E : Type 0} (r : Result A E) (P : Type 0) → P → OnOk r P
on_ok (Ok a) P holds = holds
on_ok (Err e) P holds = tt

-- a fault of which something follows
pub refused_weaker : {A : Type 0} (r : Result A AdmitFault) (P Q : AdmitFault → Type 0) → ((fault : AdmitFault) → P fault → Q fault) → MatchResult r (λ a. ⊤) P → MatchResult r (λ a. ⊤) Q
refused_weaker (Ok a) P Q follows is = tt
refused_weaker (Err fault) P Q follows is = follows fault is
