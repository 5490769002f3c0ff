-- The marks that a search begins with: the fixed vertices (M-104) stand in row 1, among those that may not move any more, and nothing else is
-- marked. Vertices and nets count from 0. Rests on incidence's rows of bits. Assumes nothing.
use Rattle.std.specs.Prelude.{ℕ, ◌+◌, ◌<◌, ◌≤◌, ◌≡◌, ◌||◌, List, [], ◌∷◌, eqb, length, get_or}
use Rattle.model.specs.Catalogue.{Hypergraph, vertices, fixed_entry}
use Rattle.model.specs.Measure.{Contraction, is_fixed}
use Rattle.model.specs.Lent.{stack_of}
use Rattle.guarantees.specs.Climbs.{Sound}
use Rattle.guarantees.specs.Splits.{Inside, AllInside}
use Rattle.incidence.specs.On.{on}

-- three rows of marks: row 1 says who is fixed in the catalogue h with the contractions cs; the candidates' row and the nets' row are empty
pub record FixedIs (marks : List ℕ) (h : Hypergraph) (cs : List Contraction) : Type 0 where
  pub len : length marks ≡ 48
  pub fixed : (x : ℕ) → x < vertices h → eqb (on marks 1 x) 1 ≡ is_fixed h cs (x + 1)
  pub no-candidate : (x : ℕ) → x < 1024 → on marks 0 x ≡ 0
  pub no-net : (e : ℕ) → e < 1024 → on marks 2 e ≡ 0

-- ---- from the column

-- what one entry of the column does: x is marked where it is 1, and nothing else is changed
pub record Entered (l : List ℕ) (x entry : ℕ) (l' : List ℕ) : Type 0 where
  pub len : length l' ≡ length l
  pub here : eqb (on l' 1 x) 1 ≡ (eqb (on l 1 x) 1 || eqb entry 1)
  pub elsewhere : (r y : ℕ) → y < 1024 → (r ≡ 1 → y ≡ x → ⊥) → on l' r y ≡ on l r y

-- what the whole column does: the marks are those of each catalogue whose column it is
pub record FixedMarked (column : List ℕ) (n : ℕ) (marks : List ℕ) : Type 0 where
  pub is : (h : Hypergraph) → vertices h ≡ n → ((x : ℕ) → x < n → get_or column x 0 ≡ fixed_entry h (x + 1)) → FixedIs marks h []

-- ---- along a stack

-- two arrays whose first `len` entries are vertices
pub record StackFits (into gone : List ℕ) (len : ℕ) : Type 0 where
  pub few : len ≤ 512
  pub into-in : (i : ℕ) → i < len → (1 ≤ get_or into i 0) × (get_or into i 0 ≤ 1024)
  pub gone-in : (i : ℕ) → i < len → (1 ≤ get_or gone i 0) × (get_or gone i 0 ≤ 1024)

-- what one contraction does: from the marks of a catalogue with some contractions to those with this one more
pub record FixedJoin (l : List ℕ) (into gone : ℕ) (l' : List ℕ) : Type 0 where
  pub is : (h : Hypergraph) (cs : List Contraction) (c : Contraction) → vertices h ≤ 1024 → c.into ≡ into → c.gone ≡ gone → Sound (c ∷ cs) → Inside h c → FixedIs l h cs → FixedIs l' h (c ∷ cs)
  pub len : length l' ≡ length l

-- what the whole stack does: from the marks with no contraction to those with the stack's
pub record FixedIn (marks into gone : List ℕ) (len : ℕ) (marks' : List ℕ) : Type 0 where
  pub is : (h : Hypergraph) → vertices h ≤ 1024 → Sound (stack_of into gone len) → AllInside h (stack_of into gone len) → FixedIs marks h [] → FixedIs marks' h (stack_of into gone len)
