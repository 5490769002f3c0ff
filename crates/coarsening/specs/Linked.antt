-- What sound tables, and the blocks by which vertices are paired, tell the choice of a pair to contract: they hold the state that its laws speak
-- of. Rests on operations's Sound, on Own and on best_contraction's JoinLink. Assumes nothing.
use Rattle.std.specs.Prelude.{ℕ, ◌+◌, ◌-◌, ◌<◌, ◌≤◌, ◌≡◌, refl, Bool, true, false, ◌&&◌, cond, List, eqb, get_or, replicate}
use Rattle.std.proofs.Common.{arith, ◌∙◌, true≢false, eqb-true, ne_eqb}
use Rattle.std.proofs.Math.Path.{sym, ap}
use Rattle.std.proofs.Math.Bool.{and-false}
use Rattle.std.proofs.lemmas.Bool.{not-true}
use Rattle.std.proofs.lemmas.List.{length-replicate}
use Rattle.laws.specs.Choice.{one, and_left, and_right}
use Rattle.laws.specs.Fold.{all-get, zeros-get}
use Rattle.laws.specs.Occurrence.{occ, occ-total}
use Rattle.laws.specs.Sum.{sum_to, sum_to-ext}
use Rattle.model.specs.Catalogue.{Hypergraph, vertices, in_sale, average_weight, fixed_entry}
use Rattle.model.specs.Memory.{no_net}
use Rattle.model.specs.Measure.{Contraction, above, on_board, representative, is_fixed, pin, size, weight}
use Rattle.guarantees.specs.Climbs.{representative-on}
use Rattle.guarantees.specs.Board.{board-is}
use Rattle.guarantees.specs.Clumps.{representative-sale}
use Rattle.guarantees.specs.Ends.{placed-high}
use Rattle.guarantees.specs.Fixed.{fixed-free-of}
use Rattle.pins.specs.Stack.{present-le, present-pin, loaded_pin, row-pin}
use Rattle.levels.specs.Running.{net_at}
use Rattle.operations.specs.Tables.{Tables, Sound}
use Rattle.operations.specs.Move.{back, own_block, own-weight, in-range}
use Rattle.best_contraction.specs.Rating.{TablesOk, Blank}
use Rattle.best_contraction.specs.JoinLink.{Linked}
use Rattle.coarsening.specs.Own.{OwnBlocks, Own, own_at}

-- a table of zeros
pub blank : (n : ℕ) → n ≡ 1025 → Blank (replicate n 0)
blank n e = record { len = length-replicate {A = ℕ} n 0 ∙ e; zeros = zeros-get n }

module _ {h : Hypergraph} {cs : List Contraction} {block : ℕ → ℕ} {T : Tables} (s : Sound h cs block T) where
  member : (v e : ℕ) → e < T.m → occ T.pins (get_or T.firsts e 0) (get_or T.sizes e 0) v ≡ one (pin cs (net_at h e) v)
  member v e l = (s.follows.says.board.nets e l).pins v ∙ present-pin (net_at h e) cs s.follows.says.sound v

  sized : (e : ℕ) → e < T.m → get_or T.sizes e 0 ≡ size h cs (net_at h e)
  unfolding size
  sized e l =
      sym (occ-total T.pins (get_or T.firsts e 0) (get_or T.sizes e 0) T.n (s.follows.world.lists.nets e l).in-range)
      ∙ sum_to-ext T.n (occ T.pins (get_or T.firsts e 0) (get_or T.sizes e 0)) (λ v. one (pin cs (net_at h e) v)) (λ v _ _. member v e l)
      ∙ ap (λ (n : ℕ). sum_to n (λ v. one (pin cs (net_at h e) v))) s.follows.says.all-vertices

  pub tables-ok : {fixed : ℕ → Bool} {own : List ℕ} → OwnBlocks fixed T.blocks T.n own → TablesOk T.bits T.pins T.firsts T.sizes T.net_weights own T.m T.n
  tables-ok {fixed} {own} o = record {
    rows = s.follows.room.bits_fit;
    nets = s.follows.room.few-nets;
    vertices = s.follows.room.few-vertices;
    in-firsts = s.follows.room.firsts-fit;
    in-sizes = s.follows.room.sizes-fit;
    in-net_weights = s.follows.world.frame.weights-fit;
    in_blocks = omega (arith, o.len, s.follows.room.few-vertices);
    light = λ e l. omega (arith, s.follows.world.frame.weight e l);
    stretch = λ e l. (s.follows.world.lists.nets e l).pins-fit;
    pin = λ e l i k. let a = (s.follows.world.lists.nets e l).in-range i k in (a.0, a.1, some _ (fixed _) (o.entry _ (omega (arith, a))) ((s.follows.world.lists.nets e l).in_blocks i k).0);
    once = λ e z l. omega (arith, (s.follows.says.board.nets e l).pins z, present-le (loaded_pin (net_at h e)) cs z);
  }
    where
      some : (y : ℕ) (b : Bool) → get_or own y 0 ≡ cond b (y + 17) (get_or T.blocks y 0) → 1 ≤ get_or T.blocks y 0 → 1 ≤ get_or own y 0
      some y true q l = omega arith
      some y false q l = omega arith

  module _ (v : ℕ) (l : 1 ≤ v) (u : v ≤ T.n) where
    at_one : above cs v ≡ 0 → above cs (v - 1 + 1) ≡ 0
    at_one q = ap (above cs) (back v l) ∙ q

    pub block_at : get_or T.blocks (v - 1) 0 ≡ block v
    block_at = own_block s (v - 1) (omega arith) ∙ ap block (back v l)

    pub block-from : on_board h cs v ≡ true → 1 ≤ block v
    block-from q = ((s.placed v l (omega (arith, s.follows.says.all-vertices))).board q).0

    -- no block has a number above 16
    block_to : block v ≤ 16
    block_to = omega (arith, placed-high h cs block s.placed v l (omega (arith, s.follows.says.all-vertices)), s.follows.says.all_blocks, s.follows.world.frame.few)

    -- a vertex off the board stands for none that is in the sale, so that it is not fixed
    off-free : on_board h cs v ≡ false → is_fixed h cs v ≡ false
    off-free off = fixed-free-of h cs v (λ x xl xu. none x xl xu (eqb (fixed_entry h x) 1) refl)
      where
        none : (x : ℕ) → 1 ≤ x → x ≤ vertices h → (b : Bool) → eqb (fixed_entry h x) 1 ≡ b → (eqb (representative cs x) v && b) ≡ false
        none x xl xu false e = and-false (eqb (representative cs x) v)
        none x xl xu true e = ap (λ (b : Bool). b && true) (ne_eqb (representative cs x) v (λ r.
            true≢false (sym (board-is h cs v (ap (above cs) (sym r) ∙ representative-on cs s.follows.says.sound x)
            (ap (in_sale h) (sym r) ∙ representative-sale h cs s.follows.says.sound s.inside x (s.fit.ranges.loaded.fixed-sale x xl xu (eqb-true (fixed_entry h x) 1 e)))) ∙ off)))

  pub linked : {own : List ℕ} → Own h cs T.blocks T.n own → (limit : ℕ) → limit ≡ average_weight h → Linked h cs block T.bits T.pins T.firsts T.sizes T.net_weights own T.weights T.m T.n limit
  linked {own} o limit q = record {
    tables = tables-ok o;
    n-is = s.follows.says.all-vertices;
    m-is = s.follows.says.all-nets;
    limit_is = q;
    block-is = λ v l u m. (own_at h cs o v l u (not-true _ (and_right (on_board h cs v) _ m)) ∙ block_at v l u, block-from v l u (and_left _ _ m));
    off = λ v l u off. own_at h cs o v l u (off-free v l u off) ∙ block_at v l u ∙ (s.placed v l (omega (arith, s.follows.says.all-vertices))).off off;
    alone = λ v z vl vu zl zu f same. alone v z vl zl zu (own_at h cs o v vl vu f) same (is_fixed h cs z) refl;
    weight_is = λ v l u o. own-weight s (v - 1) (omega arith) (at_one v l u (eqb-true _ _ o)) ∙ ap (weight h cs) (back v l);
    incident = λ v e l u k o.
        s.follows.says.board.marked (v - 1) e (omega arith) k
        ∙ ap one (row-pin (net_at h e) cs s.follows.says.sound (v - 1 + 1) (at_one v l u (eqb-true _ _ o)) ∙ ap (pin cs (net_at h e)) (back v l));
    members = λ v e l u k. member v e k;
    sized = sized;
    weighs = λ e k. (s.follows.says.weighs e k, (all-get h.nets (λ e. (1 ≤ e.weight) × (e.weight ≤ 1000)) no_net s.fit.ranges.loaded.net-weights e (omega (arith, s.follows.says.all-nets))).0);
  }
    where
      alone : (v z : ℕ) → 1 ≤ v → 1 ≤ z → z ≤ T.n → get_or own (v - 1) 0 ≡ v + 16 → get_or own (z - 1) 0 ≡ get_or own (v - 1) 0 → (b : Bool) → is_fixed h cs z ≡ b → z ≡ v
      alone v z vl zl zu own-v same true f = omega (arith, own_at h cs o z zl zu f)
      alone v z vl zl zu own-v same false f = absurd (omega (arith, own_at h cs o z zl zu f, block_at z zl zu, block_to z zl zu))
