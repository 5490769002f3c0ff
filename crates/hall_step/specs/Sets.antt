-- The tables of a hall's catalogues: each is a slice of arrays, one array for each catalogue. The set of one catalogue, and all sets with one replaced.
-- All that names the tables one by one is here. Rests on call_list's Point. Assumes nothing.
use Rattle.std.specs.Prelude.{ℕ, ◌<◌, ◌≤◌, ◌≡◌, List, [], length, get_or, set, ℤ}
use Rattle.std.proofs.Common.{arith, ◌∙◌, length-set, get_or-set_same, get_or-set_other}
use Rattle.call_list.specs.declared.course.Course.{Course}
use Rattle.call_list.specs.Point.{Point, point_of}

-- the tables that calls change, of all catalogues and of one
pub record Sets : Type 0 where
  pub counts : List (List ℕ)
  pub visited : List (List ℕ)
  pub gains : List (List ℤ)
  pub index : List (List ℕ)
  pub presentpins : List (List ℕ)
  pub presentsizes : List (List ℕ)
  pub bits : List (List ℕ)
  pub blocks : List (List ℕ)
  pub weights : List (List ℕ)
  pub aboves : List (List ℕ)
  pub fixed : List (List ℕ)
  pub loads : List (List ℕ)
  pub loadedpins : List (List ℕ)
  pub firsts : List (List ℕ)
  pub loadedsizes : List (List ℕ)

pub record Own : Type 0 where
  pub counts : List ℕ
  pub visited : List ℕ
  pub gains : List ℤ
  pub index : List ℕ
  pub presentpins : List ℕ
  pub presentsizes : List ℕ
  pub bits : List ℕ
  pub blocks : List ℕ
  pub weights : List ℕ
  pub aboves : List ℕ
  pub fixed : List ℕ
  pub loads : List ℕ
  pub loadedpins : List ℕ
  pub firsts : List ℕ
  pub loadedsizes : List ℕ

abbrev pub sets : List (List ℕ) → List (List ℕ) → List (List ℤ) → List (List ℕ) → List (List ℕ) → List (List ℕ) → List (List ℕ) → List (List ℕ) → List (List ℕ) → List (List ℕ) → List (List ℕ) → List (List ℕ) → List (List ℕ) → List (List ℕ) → List (List ℕ) → Sets
sets counts visited gains index presentpins presentsizes bits blocks weights aboves fixed loads loadedpins firsts loadedsizes = record { counts = counts; visited = visited; gains = gains; index = index; presentpins = presentpins; presentsizes = presentsizes; bits = bits; blocks = blocks; weights = weights; aboves = aboves; fixed = fixed; loads = loads; loadedpins = loadedpins; firsts = firsts; loadedsizes = loadedsizes }

abbrev own : List ℕ → List ℕ → List ℤ → List ℕ → List ℕ → List ℕ → List ℕ → List ℕ → List ℕ → List ℕ → List ℕ → List ℕ → List ℕ → List ℕ → List ℕ → Own
own counts visited gains index presentpins presentsizes bits blocks weights aboves fixed loads loadedpins firsts loadedsizes = record { counts = counts; visited = visited; gains = gains; index = index; presentpins = presentpins; presentsizes = presentsizes; bits = bits; blocks = blocks; weights = weights; aboves = aboves; fixed = fixed; loads = loads; loadedpins = loadedpins; firsts = firsts; loadedsizes = loadedsizes }

-- the set of the catalogue c, counted from 0
abbrev pub set_of : ℕ → Sets → Own
set_of c H = record { counts = get_or H.counts c []; visited = get_or H.visited c []; gains = get_or H.gains c []; index = get_or H.index c []; presentpins = get_or H.presentpins c []; presentsizes = get_or H.presentsizes c []; bits = get_or H.bits c []; blocks = get_or H.blocks c []; weights = get_or H.weights c []; aboves = get_or H.aboves c []; fixed = get_or H.fixed c []; loads = get_or H.loads c []; loadedpins = get_or H.loadedpins c []; firsts = get_or H.firsts c []; loadedsizes = get_or H.loadedsizes c [] }

-- all sets with Y in the place of c's
abbrev pub put_set : ℕ → Own → Sets → Sets
put_set c Y H = record { counts = set H.counts c Y.counts; visited = set H.visited c Y.visited; gains = set H.gains c Y.gains; index = set H.index c Y.index; presentpins = set H.presentpins c Y.presentpins; presentsizes = set H.presentsizes c Y.presentsizes; bits = set H.bits c Y.bits; blocks = set H.blocks c Y.blocks; weights = set H.weights c Y.weights; aboves = set H.aboves c Y.aboves; fixed = set H.fixed c Y.fixed; loads = set H.loads c Y.loads; loadedpins = set H.loadedpins c Y.loadedpins; firsts = set H.firsts c Y.firsts; loadedsizes = set H.loadedsizes c Y.loadedsizes }

-- a set, with the net weights, as what a list of calls stands on
abbrev pub point_in : Own → List ℕ → ℕ → ℕ → Course → Point
point_in Y netweights m k course = point_of Y.counts Y.visited Y.gains Y.index Y.presentpins Y.presentsizes Y.bits Y.blocks Y.weights Y.aboves Y.fixed Y.loads Y.loadedpins Y.firsts Y.loadedsizes netweights m k course

-- at least four of each
pub record Whole (H : Sets) (netweights : List (List ℕ)) : Type 0 where
  pub counts-long : 4 ≤ length H.counts
  pub visited-long : 4 ≤ length H.visited
  pub gains-long : 4 ≤ length H.gains
  pub index-long : 4 ≤ length H.index
  pub presentpins-long : 4 ≤ length H.presentpins
  pub presentsizes-long : 4 ≤ length H.presentsizes
  pub bits-long : 4 ≤ length H.bits
  pub blocks-long : 4 ≤ length H.blocks
  pub weights-long : 4 ≤ length H.weights
  pub aboves-long : 4 ≤ length H.aboves
  pub fixed-long : 4 ≤ length H.fixed
  pub loads-long : 4 ≤ length H.loads
  pub loadedpins-long : 4 ≤ length H.loadedpins
  pub firsts-long : 4 ≤ length H.firsts
  pub loadedsizes-long : 4 ≤ length H.loadedsizes
  pub netweights-long : 4 ≤ length netweights

-- ---- laws
same-own : {a0 b0 : List ℕ} {a1 b1 : List ℕ} {a2 b2 : List ℤ} {a3 b3 : List ℕ} {a4 b4 : List ℕ} {a5 b5 : List ℕ} {a6 b6 : List ℕ} {a7 b7 : List ℕ} {a8 b8 : List ℕ} {a9 b9 : List ℕ} {a10 b10 : List ℕ} {a11 b11 : List ℕ} {a12 b12 : List ℕ} {a13 b13 : List ℕ} {a14 b14 : List ℕ} → a0 ≡ b0 → a1 ≡ b1 → a2 ≡ b2 → a3 ≡ b3 → a4 ≡ b4 → a5 ≡ b5 → a6 ≡ b6 → a7 ≡ b7 → a8 ≡ b8 → a9 ≡ b9 → a10 ≡ b10 → a11 ≡ b11 → a12 ≡ b12 → a13 ≡ b13 → a14 ≡ b14 → own a0 a1 a2 a3 a4 a5 a6 a7 a8 a9 a10 a11 a12 a13 a14 ≡ own b0 b1 b2 b3 b4 b5 b6 b7 b8 b9 b10 b11 b12 b13 b14
same-own e0 e1 e2 e3 e4 e5 e6 e7 e8 e9 e10 e11 e12 e13 e14 = cc

at_own : {A : Type 0} (c : ℕ) (l : List (List A)) (y : List A) → c < 4 → 4 ≤ length l → get_or (set l c y) c [] ≡ y
at_own c l y h w = get_or-set_same l c y [] (omega arith)

pub own_put : (c : ℕ) (Y : Own) (H : Sets) {netweights : List (List ℕ)} → c < 4 → Whole H netweights → set_of c (put_set c Y H) ≡ Y
own_put c Y H h w = same-own (at_own c H.counts Y.counts h w.counts-long) (at_own c H.visited Y.visited h w.visited-long) (at_own c H.gains Y.gains h w.gains-long) (at_own c H.index Y.index h w.index-long) (at_own c H.presentpins Y.presentpins h w.presentpins-long) (at_own c H.presentsizes Y.presentsizes h w.presentsizes-long) (at_own c H.bits Y.bits h w.bits-long) (at_own c H.blocks Y.blocks h w.blocks-long) (at_own c H.weights Y.weights h w.weights-long) (at_own c H.aboves Y.aboves h w.aboves-long) (at_own c H.fixed Y.fixed h w.fixed-long) (at_own c H.loads Y.loads h w.loads-long) (at_own c H.loadedpins Y.loadedpins h w.loadedpins-long) (at_own c H.firsts Y.firsts h w.firsts-long) (at_own c H.loadedsizes Y.loadedsizes h w.loadedsizes-long)

pub other-put : (c d : ℕ) (Y : Own) (H : Sets) → (d ≡ c → ⊥) → set_of d (put_set c Y H) ≡ set_of d H
other-put c d Y H ne = same-own (get_or-set_other H.counts c d Y.counts [] ne) (get_or-set_other H.visited c d Y.visited [] ne) (get_or-set_other H.gains c d Y.gains [] ne) (get_or-set_other H.index c d Y.index [] ne) (get_or-set_other H.presentpins c d Y.presentpins [] ne) (get_or-set_other H.presentsizes c d Y.presentsizes [] ne) (get_or-set_other H.bits c d Y.bits [] ne) (get_or-set_other H.blocks c d Y.blocks [] ne) (get_or-set_other H.weights c d Y.weights [] ne) (get_or-set_other H.aboves c d Y.aboves [] ne) (get_or-set_other H.fixed c d Y.fixed [] ne) (get_or-set_other H.loads c d Y.loads [] ne) (get_or-set_other H.loadedpins c d Y.loadedpins [] ne) (get_or-set_other H.firsts c d Y.firsts [] ne) (get_or-set_other H.loadedsizes c d Y.loadedsizes [] ne)

pub whole-put : (c : ℕ) (Y : Own) (H : Sets) {netweights : List (List ℕ)} → Whole H netweights → Whole (put_set c Y H) netweights
whole-put c Y H w = record { counts-long = omega (arith, w.counts-long, length-set H.counts c Y.counts); visited-long = omega (arith, w.visited-long, length-set H.visited c Y.visited); gains-long = omega (arith, w.gains-long, length-set H.gains c Y.gains); index-long = omega (arith, w.index-long, length-set H.index c Y.index); presentpins-long = omega (arith, w.presentpins-long, length-set H.presentpins c Y.presentpins); presentsizes-long = omega (arith, w.presentsizes-long, length-set H.presentsizes c Y.presentsizes); bits-long = omega (arith, w.bits-long, length-set H.bits c Y.bits); blocks-long = omega (arith, w.blocks-long, length-set H.blocks c Y.blocks); weights-long = omega (arith, w.weights-long, length-set H.weights c Y.weights); aboves-long = omega (arith, w.aboves-long, length-set H.aboves c Y.aboves); fixed-long = omega (arith, w.fixed-long, length-set H.fixed c Y.fixed); loads-long = omega (arith, w.loads-long, length-set H.loads c Y.loads); loadedpins-long = omega (arith, w.loadedpins-long, length-set H.loadedpins c Y.loadedpins); firsts-long = omega (arith, w.firsts-long, length-set H.firsts c Y.firsts); loadedsizes-long = omega (arith, w.loadedsizes-long, length-set H.loadedsizes c Y.loadedsizes); netweights-long = w.netweights-long }
