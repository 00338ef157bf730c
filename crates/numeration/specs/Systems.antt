-- Numeration systems: the words of a language represent their ranks.
use Rattle.std.specs.Prelude.{◌≡◌, ℕ, Bool, List, IsTrue}
use Rattle.std.specs.List.{AllByRecursion}
use Rattle.numeration.specs.Words.{rank, is_plain, IsLanguage}

-- a system: its number of digits, and its language, read from the most significant digit on
pub record System : Type 0 where
  pub digits : ℕ
  pub test : List ℕ → Bool

-- the language is that of a numeration system
abbrev pub IsSystem : System → Type 0
IsSystem s = IsLanguage s.digits s.test

abbrev pub AreSystems : List System → Type 0
AreSystems ss = AllByRecursion IsSystem ss

-- the word is valid in the system, and has the rank
abbrev pub IsRepresentation : System → List ℕ → ℕ → Type 0
IsRepresentation s w n = IsTrue (s.test w) × (rank s.digits s.test w ≡ n)

-- the word is the one that represents the number: valid, without leading zero, and of that rank
pub record IsRep (d : ℕ) (test : List ℕ → Bool) (n : ℕ) (w : List ℕ) : Type 0 where
  pub valid : IsTrue (test w)
  pub plain : IsTrue (is_plain w)
  pub ranked : rank d test w ≡ n

-- each number is represented
abbrev pub NumbersHaveWords : Type 0
NumbersHaveWords = (s : System) (n : ℕ) → IsSystem s → (w : List ℕ) × IsRep s.digits s.test n w

-- by one word alone
abbrev pub NumbersDetermineWords : Type 0
NumbersDetermineWords = (s : System) (n : ℕ) (w v : List ℕ) → IsSystem s → IsRep s.digits s.test n w → IsRep s.digits s.test n v → w ≡ v
