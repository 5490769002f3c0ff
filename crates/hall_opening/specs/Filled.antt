-- The tables of a hall's catalogues that opening fills, and those that it reads: of one catalogue and of all, each of these a slice of arrays, one array for each.
-- All that names the tables one by one is here. Rests on hall_step's Sets. Assumes nothing.
use Rattle.std.specs.Prelude.{ℕ, ◌<◌, ◌≤◌, ◌≡◌, refl, List, [], length, get_or, set, ℤ}
use Rattle.std.proofs.Common.{arith, ◌∙◌, length-set, get_or-set_same, get_or-set_other}
use Rattle.model.specs.Lent.{Lists, lists}
use Rattle.hall_step.specs.Sets.{Own}

-- what opening fills
pub record Filled : Type 0 where
  pub counts : List ℕ
  pub visited : List ℕ
  pub gains : List ℤ
  pub index : List ℕ
  pub bits : List ℕ
  pub loads : List ℕ

pub record Fills : Type 0 where
  pub counts : List (List ℕ)
  pub visited : List (List ℕ)
  pub gains : List (List ℤ)
  pub index : List (List ℕ)
  pub bits : List (List ℕ)
  pub loads : List (List ℕ)

-- what it reads
pub record Read : Type 0 where
  pub presentpins : List ℕ
  pub presentsizes : List ℕ
  pub blocks : List ℕ
  pub weights : List ℕ
  pub fixed : List ℕ
  pub firsts : List ℕ
  pub netweights : List ℕ

pub record Reads : Type 0 where
  pub presentpins : List (List ℕ)
  pub presentsizes : List (List ℕ)
  pub blocks : List (List ℕ)
  pub weights : List (List ℕ)
  pub fixed : List (List ℕ)
  pub firsts : List (List ℕ)
  pub netweights : List (List ℕ)

-- what it neither fills nor reads
pub record Spared : Type 0 where
  pub aboves : List ℕ
  pub loadedpins : List ℕ
  pub loadedsizes : List ℕ

abbrev pub filled : List ℕ → List ℕ → List ℤ → List ℕ → List ℕ → List ℕ → Filled
filled counts visited gains index bits loads = record { counts = counts; visited = visited; gains = gains; index = index; bits = bits; loads = loads }

abbrev pub fills : List (List ℕ) → List (List ℕ) → List (List ℤ) → List (List ℕ) → List (List ℕ) → List (List ℕ) → Fills
fills counts visited gains index bits loads = record { counts = counts; visited = visited; gains = gains; index = index; bits = bits; loads = loads }

abbrev pub read : List ℕ → List ℕ → List ℕ → List ℕ → List ℕ → List ℕ → List ℕ → Read
read presentpins presentsizes blocks weights fixed firsts netweights = record { presentpins = presentpins; presentsizes = presentsizes; blocks = blocks; weights = weights; fixed = fixed; firsts = firsts; netweights = netweights }

abbrev pub reads : List (List ℕ) → List (List ℕ) → List (List ℕ) → List (List ℕ) → List (List ℕ) → List (List ℕ) → List (List ℕ) → Reads
reads presentpins presentsizes blocks weights fixed firsts netweights = record { presentpins = presentpins; presentsizes = presentsizes; blocks = blocks; weights = weights; fixed = fixed; firsts = firsts; netweights = netweights }

-- those of the catalogue c, counted from 0
abbrev pub filled_of : ℕ → Fills → Filled
filled_of c F = record { counts = get_or F.counts c []; visited = get_or F.visited c []; gains = get_or F.gains c []; index = get_or F.index c []; bits = get_or F.bits c []; loads = get_or F.loads c [] }

abbrev pub read_of : ℕ → Reads → Read
read_of c G = record { presentpins = get_or G.presentpins c []; presentsizes = get_or G.presentsizes c []; blocks = get_or G.blocks c []; weights = get_or G.weights c []; fixed = get_or G.fixed c []; firsts = get_or G.firsts c []; netweights = get_or G.netweights c [] }

-- all with Y in the place of c's
abbrev pub put_filled : ℕ → Filled → Fills → Fills
put_filled c Y F = record { counts = set F.counts c Y.counts; visited = set F.visited c Y.visited; gains = set F.gains c Y.gains; index = set F.index c Y.index; bits = set F.bits c Y.bits; loads = set F.loads c Y.loads }

-- the tables as loading left them
abbrev pub lists_of : Read → Spared → Lists
lists_of G S = lists G.weights G.blocks S.aboves G.fixed S.loadedpins G.presentpins G.firsts S.loadedsizes G.presentsizes

-- the set of one catalogue
abbrev pub set_with : Filled → Read → Spared → Own
set_with Y G S = record { counts = Y.counts; visited = Y.visited; gains = Y.gains; index = Y.index; presentpins = G.presentpins; presentsizes = G.presentsizes; bits = Y.bits; blocks = G.blocks; weights = G.weights; aboves = S.aboves; fixed = G.fixed; loads = Y.loads; loadedpins = S.loadedpins; firsts = G.firsts; loadedsizes = S.loadedsizes }

-- at least four of each
pub record Whole (F : Fills) (G : Reads) : Type 0 where
  pub counts-long : 4 ≤ length F.counts
  pub visited-long : 4 ≤ length F.visited
  pub gains-long : 4 ≤ length F.gains
  pub index-long : 4 ≤ length F.index
  pub bits-long : 4 ≤ length F.bits
  pub loads-long : 4 ≤ length F.loads
  pub presentpins-long : 4 ≤ length G.presentpins
  pub presentsizes-long : 4 ≤ length G.presentsizes
  pub blocks-long : 4 ≤ length G.blocks
  pub weights-long : 4 ≤ length G.weights
  pub fixed-long : 4 ≤ length G.fixed
  pub firsts-long : 4 ≤ length G.firsts
  pub netweights-long : 4 ≤ length G.netweights

-- ---- laws
same-filled : {a0 b0 : List ℕ} {a1 b1 : List ℕ} {a2 b2 : List ℤ} {a3 b3 : List ℕ} {a4 b4 : List ℕ} {a5 b5 : List ℕ} → a0 ≡ b0 → a1 ≡ b1 → a2 ≡ b2 → a3 ≡ b3 → a4 ≡ b4 → a5 ≡ b5 → filled a0 a1 a2 a3 a4 a5 ≡ filled b0 b1 b2 b3 b4 b5
same-filled e0 e1 e2 e3 e4 e5 = cc

at_own : {A : Type 0} (c : ℕ) (l : List (List A)) (y : List A) → c < 4 → 4 ≤ length l → get_or (set l c y) c [] ≡ y
at_own c l y h w = get_or-set_same l c y [] (omega arith)

pub own_put : (c : ℕ) (Y : Filled) (F : Fills) {G : Reads} → c < 4 → Whole F G → filled_of c (put_filled c Y F) ≡ Y
own_put c Y F h w = same-filled (at_own c F.counts Y.counts h w.counts-long) (at_own c F.visited Y.visited h w.visited-long) (at_own c F.gains Y.gains h w.gains-long) (at_own c F.index Y.index h w.index-long) (at_own c F.bits Y.bits h w.bits-long) (at_own c F.loads Y.loads h w.loads-long)

pub other-put : (c d : ℕ) (Y : Filled) (F : Fills) → (d ≡ c → ⊥) → filled_of d (put_filled c Y F) ≡ filled_of d F
other-put c d Y F ne = same-filled (get_or-set_other F.counts c d Y.counts [] ne) (get_or-set_other F.visited c d Y.visited [] ne) (get_or-set_other F.gains c d Y.gains [] ne) (get_or-set_other F.index c d Y.index [] ne) (get_or-set_other F.bits c d Y.bits [] ne) (get_or-set_other F.loads c d Y.loads [] ne)

-- as many of each as before
pub record Alike (F F' : Fills) : Type 0 where
  pub counts_same : length F'.counts ≡ length F.counts
  pub visited-same : length F'.visited ≡ length F.visited
  pub gains-same : length F'.gains ≡ length F.gains
  pub index_same : length F'.index ≡ length F.index
  pub bits-same : length F'.bits ≡ length F.bits
  pub loads-same : length F'.loads ≡ length F.loads

pub alike : (F : Fills) → Alike F F
alike F = record { counts_same = refl; visited-same = refl; gains-same = refl; index_same = refl; bits-same = refl; loads-same = refl }

pub alike-put : (c : ℕ) (Y : Filled) (F₀ F : Fills) → Alike F₀ F → Alike F₀ (put_filled c Y F)
alike-put c Y F₀ F a = record { counts_same = length-set F.counts c Y.counts ∙ a.counts_same; visited-same = length-set F.visited c Y.visited ∙ a.visited-same; gains-same = length-set F.gains c Y.gains ∙ a.gains-same; index_same = length-set F.index c Y.index ∙ a.index_same; bits-same = length-set F.bits c Y.bits ∙ a.bits-same; loads-same = length-set F.loads c Y.loads ∙ a.loads-same }

pub whole-alike : (F F' : Fills) {G : Reads} → Whole F G → Alike F F' → Whole F' G
whole-alike F F' w a = record { counts-long = omega (arith, w.counts-long, a.counts_same); visited-long = omega (arith, w.visited-long, a.visited-same); gains-long = omega (arith, w.gains-long, a.gains-same); index-long = omega (arith, w.index-long, a.index_same); bits-long = omega (arith, w.bits-long, a.bits-same); loads-long = omega (arith, w.loads-long, a.loads-same); presentpins-long = w.presentpins-long; presentsizes-long = w.presentsizes-long; blocks-long = w.blocks-long; weights-long = w.weights-long; fixed-long = w.fixed-long; firsts-long = w.firsts-long; netweights-long = w.netweights-long }
