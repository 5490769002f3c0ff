-- Text written into a buffer, and a number's sign. Rests on model's digits. Assumes nothing.
use Rattle.std.specs.Prelude.{ℕ, ◌+◌, ◌/◌, ◌%◌, List, [], ◌∷◌, ◌++◌, ℤ, pos, negsuc, length, take, drop}
use Rattle.text.specs.declared.Sign.{Sign}
use Rattle.text.specs.declared.Sign.TheVariants.{Plus, Minus}

-- l with d written from `at` on
unfoldable pub written : List ℕ → ℕ → List ℕ → List ℕ
written l at d = take at l ++ d ++ drop (at + length d) l

-- the last three digits of a number
unfoldable pub last_three : ℕ → List ℕ
last_three x = (48 + x / 100 % 10) ∷ (48 + x / 10 % 10) ∷ (48 + x % 10) ∷ []

-- a number's size and its side of 0; negsuc n is the number -(n + 1)
abbrev pub sign_of : ℤ → Sign
sign_of (pos n) = Plus n
sign_of (negsuc n) = Minus (n + 1)
