-- Text written into a lent buffer, and where it ends. Rests on text's `written`. Assumes nothing.
use Rattle.std.specs.Prelude.{ℕ, ◌+◌, ◌≡◌, List, length}
use Rattle.text.specs.Output.{written}

-- l has become l': the text d stands from `at` on and ends at r, and no other byte has changed
pub record Wrote (l l' : List ℕ) (at : ℕ) (d : List ℕ) (r : ℕ) : Type 0 where
  pub ends : r ≡ at + length d
  pub is : l' ≡ written l at d

-- of a text that goes into l from `at` on, l has become m, and `rest` is still to be written, from p on
pub record Remains (l : List ℕ) (at : ℕ) (text m : List ℕ) (p : ℕ) (rest : List ℕ) : Type 0 where
  pub len : length m ≡ length l
  pub size : p + length rest ≡ at + length text
  pub then : (l' : List ℕ) (r : ℕ) → Wrote m l' p rest r → Wrote l l' at text r
