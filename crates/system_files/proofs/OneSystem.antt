-- A name means one system at most.
use Rattle.std.proofs.Common.{◌≡◌, ℕ, Bool, true, false, List, [], ◌∷◌, IsTrue, refl, sym, ◌∙◌, subst}
use Rattle.digit_tuple.specs.Paddings.{in_order}
use Rattle.digit_tuple.specs.declared.direction.Direction.{Direction}
use Rattle.dfa_reading.specs.Listed.{ListedAccepts}
use Rattle.numeration.specs.Systems.{System}
use Rattle.system_names.proofs.UserSystems.{one_user_system}
use Rattle.system_files.specs.SystemFiles.{SystemFiles, AreFilesOf}
use Rattle.system_files.specs.UserSystems.{in_file, singles, AreWordsOf, NamesMeanOneSystem}
use Rattle.system_files.proofs.OnePair.{names_take_one_pair}

-- tests that hold of the same are the same
same_truth : (b c : Bool) → (IsTrue b → IsTrue c) → (IsTrue c → IsTrue b) → b ≡ c
same_truth true c there back = sym (there refl)
same_truth false true there back = back refl
same_truth false false there back = refl

-- the words of files are those of one system
one_test : (direction : Direction) (files : SystemFiles) (s t : System) → AreWordsOf direction files s → AreWordsOf direction files t → s ≡ t
one_test direction files s t is also =
    let digits : s.digits ≡ t.digits = is.digits ∙ sym also.digits in
    λ i. record { digits = digits i; test = λ w. same digits w i }
  where
    same : s.digits ≡ t.digits → (w : List ℕ) → s.test w ≡ t.test w
    same digits w =
        let word = in_file files.reversed (singles (in_order direction w)) in
        same_truth (s.test w) (t.test w)
        (λ h. (also.language w).1 (subst (λ (n : ℕ). ListedAccepts (n ∷ []) files.language word) digits ((is.language w).0 h)))
        (λ h. (is.language w).1 (subst (λ (n : ℕ). ListedAccepts (n ∷ []) files.language word) (sym digits) ((also.language w).0 h)))

pub names_mean_one_system : NamesMeanOneSystem
names_mean_one_system custom name direction other s t is also =
    let one = one_user_system direction other is.part also.part name is.is_name also.is_name in
    let found : AreFilesOf custom direction is.part also.files =
    subst (λ (p : List ℕ). AreFilesOf custom direction p also.files) (sym one.1) (subst (λ (w : Direction). AreFilesOf custom w also.part also.files) (sym one.0) also.found) in
    let pair : is.files ≡ also.files = names_take_one_pair custom direction is.part is.files also.files is.found found in
    let words : AreWordsOf direction is.files t =
    subst (λ (f : SystemFiles). AreWordsOf direction f t) (sym pair) (subst (λ (w : Direction). AreWordsOf w also.files t) (sym one.0) also.defined.words) in
    (one.0, one_test direction is.files s t is.defined.words words)
