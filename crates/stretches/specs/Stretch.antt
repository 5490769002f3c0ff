-- The stretch of a pin table that a net's pins are handed out as. Rests on model's Memory. Assumes nothing.
use Rattle.std.specs.Prelude.{ℕ, ◌+◌, ◌-◌, ◌≤◌, ◌≡◌, Bool, ◌&&◌, cond, List, [], get_or, take, drop}
use native.Mathlib.Omega.{arith}
use Rattle.std.proofs.Math.Path.{refl}
use Rattle.std.proofs.Common.{ap, ◌∙◌}
use Rattle.std.proofs.Math.Bool.{true, false}
use borrow.Author.Tests.{leb-true}
use Rattle.std.proofs.Math.Dec.{leb}
use Rattle.std.proofs.Math.ListN.{length}
use Rattle.laws.specs.Choice.{and_right}
use Rattle.model.specs.Memory.{Tables, Part, long_lists, part_of, handed_out}

-- where the tables are long enough, first places and sizes are there for every net
pub record Backed (long : Bool) (f c : List ℕ) : Type 0 where
  pub f-len : long ≡ true → 1024 ≤ length f
  pub c_len : long ≡ true → 1024 ≤ length c

-- a net's stretch of one table
unfoldable pub part_in : List ℕ → List ℕ → List ℕ → Bool → ℕ → Part
part_in table f c long e =
    let from : ℕ = get_or f (e - 1) 0 in
    let size : ℕ = get_or c (e - 1) 0 in
    cond (leb 1 e && leb e 1024 && long && leb (from + size) (length table)) (record { from = from; size = size }) (record { from = 0; size = 0 })

module _ (t : Tables) (present : Bool) (e : ℕ) where
  abbrev from : ℕ
  from = get_or t.firsts (e - 1) 0

  abbrev size : ℕ
  size = get_or (cond present t.present_sizes t.loaded_sizes) (e - 1) 0

  abbrev pub table : List ℕ
  table = cond present t.present_pins t.loaded_pins

  abbrev part : Bool → Part
  part b = cond b (record { from = from; size = size }) (record { from = 0; size = 0 })

  -- a stretch that is handed out lies in its table
  pub handed-in : (handed_out t present e).from + (handed_out t present e).size ≤ length table
  unfolding handed_out
  handed-in = go (leb 1 e && leb e 1024 && long_lists t && leb (from + size) (length table)) refl
    where
      go : (b : Bool) → (leb 1 e && leb e 1024 && long_lists t && leb (from + size) (length table)) ≡ b → (part b).from + (part b).size ≤ length table
      go true q = leb-true (from + size) (length table) (and_right (leb 1 e && leb e 1024 && long_lists t) _ q)
      go false q = omega arith

  pub handed-fits : {first size : ℕ} → (first ≡ (handed_out t present e).from) × (size ≡ (handed_out t present e).size) → first + size ≤ length table
  handed-fits s = omega (arith, handed-in, s.0, s.1)

  -- and the part of the table there is what stands in it
  pub handed-part : (l : List ℕ) {first size : ℕ} → l ≡ table → (first ≡ (handed_out t present e).from) × (size ≡ (handed_out t present e).size) → take size (drop first l) ≡ part_of table (handed_out t present e)
  handed-part l {first} {size} q s = ap (λ (x : List ℕ). take size (drop first x)) q ∙ ap (λ (n : ℕ). take n (drop first table)) s.1 ∙ ap (λ (n : ℕ). take (handed_out t present e).size (drop n table)) s.0
