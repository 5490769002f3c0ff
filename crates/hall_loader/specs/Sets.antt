-- The tables of a hall's catalogues: each is a slice of arrays, one array for each catalogue. The set of one catalogue, and all sets with one replaced.
-- All that names the tables one by one is here. Rests on model's Lent. Assumes nothing.
use Rattle.std.specs.Prelude.{ℕ, ◌≤◌, ◌<◌, ◌≡◌, refl, List, [], length, get_or, set}
use Rattle.std.proofs.Common.{arith, ◌∙◌, length-set, get_or-set_same, get_or-set_other}
use Rattle.model.specs.Lent.{Lists}

-- the tables of one catalogue: the lent lists that loading writes, the buyers' weights and the lots' least bales
pub record Set : Type 0 where
  pub lists : Lists
  pub costs : List ℕ
  pub lows : List ℕ

-- of all catalogues
pub record Sets : Type 0 where
  pub weights : List (List ℕ)
  pub blocks : List (List ℕ)
  pub aboves : List (List ℕ)
  pub fixed : List (List ℕ)
  pub loaded_pins : List (List ℕ)
  pub present_pins : List (List ℕ)
  pub firsts : List (List ℕ)
  pub loaded_sizes : List (List ℕ)
  pub present_sizes : List (List ℕ)
  pub costs : List (List ℕ)
  pub lows : List (List ℕ)

abbrev pub sets : List (List ℕ) → List (List ℕ) → List (List ℕ) → List (List ℕ) → List (List ℕ) → List (List ℕ) → List (List ℕ) → List (List ℕ) → List (List ℕ) → List (List ℕ) → List (List ℕ) → Sets
sets weights blocks aboves fixed loaded_pins present_pins firsts loaded_sizes present_sizes costs lows = record { weights = weights; blocks = blocks; aboves = aboves; fixed = fixed; loaded_pins = loaded_pins; present_pins = present_pins; firsts = firsts; loaded_sizes = loaded_sizes; present_sizes = present_sizes; costs = costs; lows = lows }

-- the set of the catalogue c, the first being 0
abbrev pub set_of : ℕ → Sets → Set
set_of c H = record { lists = record { weights = get_or H.weights c []; blocks = get_or H.blocks c []; aboves = get_or H.aboves c []; fixed = get_or H.fixed c []; loaded_pins = get_or H.loaded_pins c []; present_pins = get_or H.present_pins c []; firsts = get_or H.firsts c []; loaded_sizes = get_or H.loaded_sizes c []; present_sizes = get_or H.present_sizes c [] }; costs = get_or H.costs c []; lows = get_or H.lows c [] }

-- all sets with Y in the place of c's
abbrev pub put_set : ℕ → Set → Sets → Sets
put_set c Y H = record { weights = set H.weights c Y.lists.weights; blocks = set H.blocks c Y.lists.blocks; aboves = set H.aboves c Y.lists.aboves; fixed = set H.fixed c Y.lists.fixed; loaded_pins = set H.loaded_pins c Y.lists.loaded_pins; present_pins = set H.present_pins c Y.lists.present_pins; firsts = set H.firsts c Y.lists.firsts; loaded_sizes = set H.loaded_sizes c Y.lists.loaded_sizes; present_sizes = set H.present_sizes c Y.lists.present_sizes; costs = set H.costs c Y.costs; lows = set H.lows c Y.lows }

-- there are four of each table
pub record Whole (H : Sets) : Type 0 where
  pub weights-four : 4 ≤ length H.weights
  pub blocks-four : 4 ≤ length H.blocks
  pub aboves-four : 4 ≤ length H.aboves
  pub fixed-four : 4 ≤ length H.fixed
  pub loaded_pins-four : 4 ≤ length H.loaded_pins
  pub present_pins-four : 4 ≤ length H.present_pins
  pub firsts-four : 4 ≤ length H.firsts
  pub loaded_sizes-four : 4 ≤ length H.loaded_sizes
  pub present_sizes-four : 4 ≤ length H.present_sizes
  pub costs-four : 4 ≤ length H.costs
  pub lows-four : 4 ≤ length H.lows

-- there are as many of each table in K as in H
pub record Alike (H K : Sets) : Type 0 where
  pub weights-same : length K.weights ≡ length H.weights
  pub blocks-same : length K.blocks ≡ length H.blocks
  pub aboves-same : length K.aboves ≡ length H.aboves
  pub fixed_same : length K.fixed ≡ length H.fixed
  pub loaded_pins-same : length K.loaded_pins ≡ length H.loaded_pins
  pub present_pins-same : length K.present_pins ≡ length H.present_pins
  pub firsts_same : length K.firsts ≡ length H.firsts
  pub loaded_sizes-same : length K.loaded_sizes ≡ length H.loaded_sizes
  pub present_sizes-same : length K.present_sizes ≡ length H.present_sizes
  pub costs-same : length K.costs ≡ length H.costs
  pub lows-same : length K.lows ≡ length H.lows

-- the engine's own arrays of the sets from c on have 1,024 entries
abbrev pub Wide : ℕ → Sets → Type 0
Wide c H = (d : ℕ) → c ≤ d → d < 4 → (length (set_of d H).costs ≡ 1024) × (length (set_of d H).lows ≡ 1024)

-- ---- laws
same_set : {a0 b0 : List ℕ} {a1 b1 : List ℕ} {a2 b2 : List ℕ} {a3 b3 : List ℕ} {a4 b4 : List ℕ} {a5 b5 : List ℕ} {a6 b6 : List ℕ} {a7 b7 : List ℕ} {a8 b8 : List ℕ} {a9 b9 : List ℕ} {a10 b10 : List ℕ} → a0 ≡ b0 → a1 ≡ b1 → a2 ≡ b2 → a3 ≡ b3 → a4 ≡ b4 → a5 ≡ b5 → a6 ≡ b6 → a7 ≡ b7 → a8 ≡ b8 → a9 ≡ b9 → a10 ≡ b10 → ◌≡◌ {A = Set} (record { lists = record { weights = a0; blocks = a1; aboves = a2; fixed = a3; loaded_pins = a4; present_pins = a5; firsts = a6; loaded_sizes = a7; present_sizes = a8 }; costs = a9; lows = a10 }) (record { lists = record { weights = b0; blocks = b1; aboves = b2; fixed = b3; loaded_pins = b4; present_pins = b5; firsts = b6; loaded_sizes = b7; present_sizes = b8 }; costs = b9; lows = b10 })
same_set e0 e1 e2 e3 e4 e5 e6 e7 e8 e9 e10 = cc

here : (c : ℕ) (l : List (List ℕ)) (y : List ℕ) → c < 4 → 4 ≤ length l → get_or (set l c y) c [] ≡ y
here c l y h w = get_or-set_same l c y [] (omega arith)

pub own_put : (c : ℕ) (Y : Set) (H : Sets) → c < 4 → Whole H → set_of c (put_set c Y H) ≡ Y
own_put c Y H h w = same_set (here c H.weights Y.lists.weights h w.weights-four) (here c H.blocks Y.lists.blocks h w.blocks-four) (here c H.aboves Y.lists.aboves h w.aboves-four) (here c H.fixed Y.lists.fixed h w.fixed-four) (here c H.loaded_pins Y.lists.loaded_pins h w.loaded_pins-four) (here c H.present_pins Y.lists.present_pins h w.present_pins-four) (here c H.firsts Y.lists.firsts h w.firsts-four) (here c H.loaded_sizes Y.lists.loaded_sizes h w.loaded_sizes-four) (here c H.present_sizes Y.lists.present_sizes h w.present_sizes-four) (here c H.costs Y.costs h w.costs-four) (here c H.lows Y.lows h w.lows-four)

pub other-put : (c d : ℕ) (Y : Set) (H : Sets) → (d ≡ c → ⊥) → set_of d (put_set c Y H) ≡ set_of d H
other-put c d Y H ne = same_set (get_or-set_other H.weights c d Y.lists.weights [] ne) (get_or-set_other H.blocks c d Y.lists.blocks [] ne) (get_or-set_other H.aboves c d Y.lists.aboves [] ne) (get_or-set_other H.fixed c d Y.lists.fixed [] ne) (get_or-set_other H.loaded_pins c d Y.lists.loaded_pins [] ne) (get_or-set_other H.present_pins c d Y.lists.present_pins [] ne) (get_or-set_other H.firsts c d Y.lists.firsts [] ne) (get_or-set_other H.loaded_sizes c d Y.lists.loaded_sizes [] ne) (get_or-set_other H.present_sizes c d Y.lists.present_sizes [] ne) (get_or-set_other H.costs c d Y.costs [] ne) (get_or-set_other H.lows c d Y.lows [] ne)

pub whole-put : (c : ℕ) (Y : Set) (H : Sets) → Whole H → Whole (put_set c Y H)
whole-put c Y H w = record { weights-four = omega (arith, w.weights-four, length-set H.weights c Y.lists.weights); blocks-four = omega (arith, w.blocks-four, length-set H.blocks c Y.lists.blocks); aboves-four = omega (arith, w.aboves-four, length-set H.aboves c Y.lists.aboves); fixed-four = omega (arith, w.fixed-four, length-set H.fixed c Y.lists.fixed); loaded_pins-four = omega (arith, w.loaded_pins-four, length-set H.loaded_pins c Y.lists.loaded_pins); present_pins-four = omega (arith, w.present_pins-four, length-set H.present_pins c Y.lists.present_pins); firsts-four = omega (arith, w.firsts-four, length-set H.firsts c Y.lists.firsts); loaded_sizes-four = omega (arith, w.loaded_sizes-four, length-set H.loaded_sizes c Y.lists.loaded_sizes); present_sizes-four = omega (arith, w.present_sizes-four, length-set H.present_sizes c Y.lists.present_sizes); costs-four = omega (arith, w.costs-four, length-set H.costs c Y.costs); lows-four = omega (arith, w.lows-four, length-set H.lows c Y.lows) }

pub alike-start : (H : Sets) → Alike H H
alike-start H = record { weights-same = refl; blocks-same = refl; aboves-same = refl; fixed_same = refl; loaded_pins-same = refl; present_pins-same = refl; firsts_same = refl; loaded_sizes-same = refl; present_sizes-same = refl; costs-same = refl; lows-same = refl }

pub alike-put : (c : ℕ) (Y : Set) (H K : Sets) → Alike H K → Alike H (put_set c Y K)
alike-put c Y H K a = record { weights-same = length-set K.weights c Y.lists.weights ∙ a.weights-same; blocks-same = length-set K.blocks c Y.lists.blocks ∙ a.blocks-same; aboves-same = length-set K.aboves c Y.lists.aboves ∙ a.aboves-same; fixed_same = length-set K.fixed c Y.lists.fixed ∙ a.fixed_same; loaded_pins-same = length-set K.loaded_pins c Y.lists.loaded_pins ∙ a.loaded_pins-same; present_pins-same = length-set K.present_pins c Y.lists.present_pins ∙ a.present_pins-same; firsts_same = length-set K.firsts c Y.lists.firsts ∙ a.firsts_same; loaded_sizes-same = length-set K.loaded_sizes c Y.lists.loaded_sizes ∙ a.loaded_sizes-same; present_sizes-same = length-set K.present_sizes c Y.lists.present_sizes ∙ a.present_sizes-same; costs-same = length-set K.costs c Y.costs ∙ a.costs-same; lows-same = length-set K.lows c Y.lows ∙ a.lows-same }
