-- The columns of one lot written. Assumes nothing.
use Rattle.std.specs.Prelude.{ℕ, ◌≡◌, List, length, set}

-- the lot at a place of the columns: its bales and its session, under no other lot and not kept
pub record LotSet (at bales session : ℕ) (weights weights' blocks blocks' aboves aboves' fixed fixed' : List ℕ) : Type 0 where
  pub weights-are : weights' ≡ set weights at bales
  pub blocks-are : blocks' ≡ set blocks at session
  pub aboves-are : aboves' ≡ set aboves at 0
  pub fixed-are : fixed' ≡ set fixed at 0
  pub weights-len : length weights' ≡ length weights
  pub blocks-len : length blocks' ≡ length blocks
  pub aboves-len : length aboves' ≡ length aboves
  pub fixed-len : length fixed' ≡ length fixed
