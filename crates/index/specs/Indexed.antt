-- The index of all vertices: the row that each is to have, and rows made right one after the other. Rests on Row. Assumes nothing.
use Rattle.std.specs.Prelude.{◌≡◌, refl, List, [], cond, ℕ, ◌+◌, ◌*◌, ◌/◌, ◌%◌, ◌≤◌, ◌<◌, eqb, ℤ, length, get_or}
use Rattle.std.proofs.Common.{sym, ◌∙◌, arith}
use Rattle.std.proofs.Math.Decide.{ℕ_discrete, dec_lt}
use borrow.Author.Tests.{eq-eqb, ne_eqb}
use Rattle.guarantees.specs.Ranked.{ranked_by}
use Rattle.index.specs.Row.{gain_at, Holds, Written}

-- the row of the vertex at place x: its other blocks ranked, or nothing where it is off the board, in block 0
unfoldable pub row_for : List ℤ → List ℕ → ℕ → ℕ → List ℕ
row_for gains blocks k x = cond (eqb (get_or blocks x 0) 0) [] (ranked_by (gain_at gains x) (get_or blocks x 0) k)

module _ (gains : List ℤ) (blocks : List ℕ) (k x own : ℕ) (e : own ≡ get_or blocks x 0) where
  pub row-off : own ≡ 0 → row_for gains blocks k x ≡ []
  unfolding row_for
  row-off z = rw (eq-eqb (get_or blocks x 0) 0 (sym e ∙ z))

  pub row_on : (own ≡ 0 → ⊥) → row_for gains blocks k x ≡ ranked_by (gain_at gains x) own k
  unfolding row_for
  row_on d = rw (← e, ne_eqb own 0 d)

-- what the functions ask of the tables' lengths, of the blocks and of the numbers
pub record TablesOk (index gains : ℕ) (blocks : List ℕ) (n k : ℕ) : Type 0 where
  pub n-to : n ≤ 1024
  pub k-to : k ≤ 16
  pub in-index : 16 * n ≤ index
  pub in-gains : 16 * n ≤ gains
  pub in_blocks : n ≤ length blocks
  pub blocks_to : (x : ℕ) → x < n → get_or blocks x 0 ≤ k

-- a place of the first n rows that is in use
abbrev pub Used : ℕ → ℕ → ℕ → Type 0
Used n k i = (i / 16 < n) × (i % 16 < k)

-- places that are not in use are as they were
pub record Kept (n k : ℕ) (index index' : List ℕ) : Type 0 where
  pub len : length index' ≡ length index
  pub past : (i : ℕ) → (Used n k i → ⊥) → get_or index' i 0 ≡ get_or index i 0

pub kept-none : {n k : ℕ} (index : List ℕ) → Kept n k index index
kept-none index = record { len = refl; past = λ i u. refl }

-- the rows of the first n vertices are right
abbrev pub AllRight : List ℤ → List ℕ → ℕ → ℕ → List ℕ → Type 0
AllRight gains blocks n k index = (x : ℕ) → x < n → Holds k index x (row_for gains blocks k x)

-- they are, and places that are not in use are as they were
pub record Indexed (gains : List ℤ) (blocks : List ℕ) (n k : ℕ) (index index' : List ℕ) : Type 0 where
  pub kept : Kept n k index index'
  pub rows : AllRight gains blocks n k index'

-- what a call does: rows that were right for the gains and blocks before it are right for those after it, and places that are not in use are as they were
pub record KeepsRight (gains : List ℤ) (blocks : List ℕ) (gains' : List ℤ) (blocks' : List ℕ) (n k : ℕ) (index index' : List ℕ) : Type 0 where
  pub kept : Kept n k index index'
  pub right : AllRight gains blocks n k index → AllRight gains' blocks' n k index'

-- all rows were made right
pub indexed-right : {gains gains' : List ℤ} {blocks blocks' : List ℕ} {n k : ℕ} {index index' : List ℕ} → Indexed gains' blocks' n k index index' → KeepsRight gains blocks gains' blocks' n k index index'
indexed-right w = record { kept = w.kept; right = λ _. w.rows }

-- nothing has changed
pub right-same : {gains : List ℤ} {blocks : List ℕ} {n k : ℕ} (index : List ℕ) → KeepsRight gains blocks gains blocks n k index index
right-same index = record { kept = kept-none index; right = λ r. r }

pub kept_then : {n k : ℕ} {a b c : List ℕ} → Kept n k a b → Kept n k b c → Kept n k a c
kept_then v w = record { len = w.len ∙ v.len; past = λ i u. w.past i u ∙ v.past i u }

-- fewer rows
pub kept-wide : {m n k : ℕ} {a b : List ℕ} → m ≤ n → Kept m k a b → Kept n k a b
kept-wide l w = record { len = w.len; past = λ i u. w.past i (λ z. u (omega (arith, z.0), z.1)) }

-- one row more
pub kept_row : {n k x : ℕ} {index index' : List ℕ} (l : List ℕ) → x < n → Written k index index' x l → Kept n k index index'
kept_row l u w = record { len = w.len; past = λ i z. w.elsewhere i (λ q r. z (omega arith, r)) }

-- after another change of places in use
pub indexed-then : {gains : List ℤ} {blocks : List ℕ} {n k : ℕ} {a b c : List ℕ} → Kept n k a b → Indexed gains blocks n k b c → Indexed gains blocks n k a c
indexed-then v w = record { kept = kept_then v w.kept; rows = w.rows }

-- the rows from `from` on and before r are right
pub record RightBetween (gains : List ℤ) (blocks : List ℕ) (k : ℕ) (index : List ℕ) (from r : ℕ) : Type 0 where
  pub ahead : from ≤ r
  pub rows : (y : ℕ) → from ≤ y → y < r → Holds k index y (row_for gains blocks k y)

pub between_none : {gains : List ℤ} {blocks : List ℕ} {k : ℕ} {index : List ℕ} (from : ℕ) → RightBetween gains blocks k index from from
between_none from = record { ahead = omega arith; rows = λ y l u. absurd (omega arith) }

pub between_more : {gains : List ℤ} {blocks : List ℕ} {k : ℕ} {index : List ℕ} (from r : ℕ) → RightBetween gains blocks k index from r → Holds k index r (row_for gains blocks k r) → RightBetween gains blocks k index from (r + 1)
between_more {gains} {blocks} {k} {index} from r s h = record { ahead = omega (arith, s.ahead); rows = λ y l u. go y l u (ℕ_discrete y r) }
  where
    go : (y : ℕ) → from ≤ y → y < r + 1 → Dec (y ≡ r) → Holds k index y (row_for gains blocks k y)
    go y l u (yes q) = rw q h
    go y l u (no q) = s.rows y l (omega arith)

module _ (gains : List ℤ) (blocks : List ℕ) (n k : ℕ) (index : List ℕ) where
  -- the rows of the vertices below x are right
  pub record RightTo (index' : List ℕ) (x : ℕ) : Type 0 where
    pub kept : Kept n k index index'
    pub rows : (y : ℕ) → y < x → Holds k index' y (row_for gains blocks k y)

  pub right-none : RightTo index 0
  right-none = record { kept = kept-none index; rows = λ y l. absurd (omega arith) }

  pub right-more : k ≤ 16 → (index' index'' : List ℕ) (x : ℕ) → x < n → RightTo index' x → Written k index' index'' x (row_for gains blocks k x) → RightTo index'' (x + 1)
  right-more most index' index'' x u s w = record { kept = kept_then s.kept (kept_row (row_for gains blocks k x) u w); rows = λ y l. go y l (ℕ_discrete y x) }
    where
      go : (y : ℕ) → y < x + 1 → Dec (y ≡ x) → Holds k index'' y (row_for gains blocks k y)
      go y l (yes q) = rw q w.here
      go y l (no q) = λ j v. w.elsewhere (16 * y + j) (λ e r. q (omega arith)) ∙ s.rows y (omega arith) j v

  -- rows that were found right
  pub right-on : (index' : List ℕ) (x r : ℕ) → RightTo index' x → RightBetween gains blocks k index' x r → RightTo index' r
  right-on index' x r s b = record { kept = s.kept; rows = λ y l. go y l (dec_lt y x) }
    where
      go : (y : ℕ) → y < r → Dec (y < x) → Holds k index' y (row_for gains blocks k y)
      go y l (yes u) = s.rows y u
      go y l (no u) = b.rows y (omega arith) l

  pub right-all : (index' : List ℕ) (x : ℕ) → n ≤ x → RightTo index' x → Indexed gains blocks n k index index'
  right-all index' x l s = record { kept = s.kept; rows = λ y u. s.rows y (omega arith) }
