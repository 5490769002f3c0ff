-- What sound tables tell a search: who shares a net with a vertex, that the best open pair is the one that model's search takes, and what the
-- functions of a search ask of lengths. Rests on operations's Sound and best_move's OpenLink. Assumes nothing.
use Rattle.std.specs.Prelude.{ℕ, ◌*◌, ◌+◌, ◌-◌, ◌<◌, ◌≤◌, ◌≡◌, Bool, not, ◌&&◌, List, eqb, length, get_or}
use Rattle.std.proofs.Math.Decide.{ℕ_discrete}
use Rattle.std.proofs.Common.{arith, ap, ap₂, ◌∙◌, eqb-true, eq-eqb}
use Rattle.std.proofs.Math.Path.{refl, sym}
use Rattle.std.proofs.Math.Bool.{true, false}
use Rattle.std.proofs.lemmas.Bool.{eqb-false, not-true}
use Rattle.laws.specs.Choice.{one, one-eqb, and_left, and_right}
use Rattle.laws.specs.Fold.{any, any_at, any-not, all-get}
use Rattle.model.specs.Catalogue.{Hypergraph, vertices}
use Rattle.model.specs.Measure.{Contraction, above, on_board, pin, weight, block_weight, gain, adjacent}
use Rattle.model.specs.Memory.{no_net}
use Rattle.pins.specs.Stack.{present-off, present-pin, loaded_pin, row-pin}
use Rattle.incidence.specs.On.{on}
use Rattle.connectivity.specs.Listed.{has}
use Rattle.levels.specs.Running.{net_at}
use Rattle.levels.specs.Reading.{has-pin, reads}
use Rattle.guarantees.specs.Caps.{CeilingIs}
use Rattle.guarantees.specs.Clumps.{pin-board}
use Rattle.guarantees.specs.Ends.{may-on, placed-high}
use Rattle.operations.specs.Tables.{Tables, Sound}
use Rattle.operations.specs.Move.{back, Open, own_block, own-weight, in-range}
use Rattle.index.specs.Indexed.{TablesOk}
use Rattle.best_move.specs.Open.{SearchOk, IndexOk, may_go, room_for, is_candidate, open_in}
use Rattle.best_move.specs.OpenLink.{Holds}
use Rattle.search_moves.specs.Marks.{candidate_bit, PinsOk, NetsOk, near, near-yes, near-no}

module _ {h : Hypergraph} {cs : List Contraction} {block : ℕ → ℕ} {T : Tables} (s : Sound h cs block T) where
  -- ---- pins
  pub pin-on : (e : ℕ) (x : ℕ) → pin cs (net_at h e) x ≡ true → above cs x ≡ 0
  pin-on e x q = go (ℕ_discrete (above cs x) 0)
    where
      go : Dec (above cs x ≡ 0) → above cs x ≡ 0
      go (yes z) = z
      go (no z) = absurd (omega (arith, present-off (loaded_pin (net_at h e)) cs x z, present-pin (net_at h e) cs s.follows.says.sound x, ap one q))

  pub bit_is : (u e : ℕ) → u < T.n → e < T.m → above cs (u + 1) ≡ 0 → eqb (on T.bits u e) 1 ≡ pin cs (net_at h e) (u + 1)
  bit_is u e lu le q = ap (λ (z : ℕ). eqb z 1) (s.follows.says.board.marked u e lu le ∙ ap one (row-pin (net_at h e) cs s.follows.says.sound (u + 1) q)) ∙ one-eqb (pin cs (net_at h e) (u + 1))

  both_is : (u x e : ℕ) → u < T.n → e < T.m → above cs (u + 1) ≡ 0
      → (eqb (on T.bits u e) 1 && has T.pins (get_or T.firsts e 0) (get_or T.sizes e 0) x) ≡ (pin cs (net_at h e) (u + 1) && pin cs (net_at h e) (x + 1))
  both_is u x e lu le q = ap₂ (λ (a b : Bool). a && b) (bit_is u e lu le q) (has-pin s.follows.says e le x)

  -- those that share a net with u
  pub near-is : (u x : ℕ) → u < T.n → above cs (u + 1) ≡ 0 → near T.bits T.pins T.firsts T.sizes u T.m x ≡ adjacent h cs (u + 1) (x + 1)
  unfolding adjacent
  near-is u x lu q = go (any h.nets (λ e. pin cs e (u + 1) && pin cs e (x + 1))) refl
    where
      go : (b : Bool) → any h.nets (λ e. pin cs e (u + 1) && pin cs e (x + 1)) ≡ b → near T.bits T.pins T.firsts T.sizes u T.m x ≡ any h.nets (λ e. pin cs e (u + 1) && pin cs e (x + 1))
      go true r =
          let w = any_at h.nets no_net (λ e. pin cs e (u + 1) && pin cs e (x + 1)) r in
          let le : w.0 < T.m = omega (arith, w.1, s.follows.says.all-nets) in
          let both = both_is u x w.0 lu le q ∙ w.2 in
          near-yes T.bits T.pins T.firsts T.sizes u T.m x w.0 le (eqb-true (on T.bits u w.0) 1 (and_left (eqb (on T.bits u w.0) 1) (has T.pins (get_or T.firsts w.0 0) (get_or T.sizes w.0 0) x) both)) (and_right (eqb (on T.bits u w.0) 1) (has T.pins (get_or T.firsts w.0 0) (get_or T.sizes w.0 0) x) both) ∙ sym r
      go false r =
          near-no T.bits T.pins T.firsts T.sizes u T.m x (λ e le. both_is u x e lu le q ∙ any-not h.nets no_net (λ e. pin cs e (u + 1) && pin cs e (x + 1)) r e (omega (arith, s.follows.says.all-nets)))
          ∙ sym r

  pub near_on : (u x : ℕ) → adjacent h cs u x ≡ true → on_board h cs x ≡ true
  unfolding adjacent
  near_on u x q =
      let w = any_at h.nets no_net (λ e. pin cs e u && pin cs e x) q in
      pin-board h cs s.follows.says.sound s.inside (net_at h w.0) (all-get h.nets _ no_net s.fit.ranges.loaded.nets-sale w.0 w.1) x (and_right (pin cs (net_at h w.0) u) (pin cs (net_at h w.0) x) w.2)

  pub pins-ok : (e : ℕ) → e < T.m → PinsOk T.pins (get_or T.firsts e 0) (get_or T.sizes e 0)
  pins-ok e le = record {
    fit = (s.follows.world.lists.nets e le).pins-fit;
    vertices = λ j lj. let r = (s.follows.world.lists.nets e le).in-range j lj in (r.0, omega (arith, r.1, s.follows.room.few-vertices));
  }

  pub nets-ok : (u : ℕ) → u < T.n → NetsOk T.bits T.pins T.firsts T.sizes T.m u
  nets-ok u lu = record {
    bits_fit = omega (arith, s.follows.room.bits_fit);
    few = s.follows.room.few-nets;
    firsts-fit = s.follows.room.firsts-fit;
    sizes-fit = s.follows.room.sizes-fit;
    nets = pins-ok;
  }

  -- ---- the best open pair
  pub search-ok : (marks : List ℕ) → 16 ≤ length marks → SearchOk (length T.gains) (length T.blocks) (length T.weights) (length marks) T.n T.k
  search-ok marks l = record {
    n-to = s.follows.room.few-vertices;
    k-to = s.follows.world.frame.few;
    in-gains = s.follows.world.frame.gains-fit;
    in_blocks = s.follows.world.lists.blocks-fit;
    in-weights = s.weights-fit;
    in-candidates = l;
  }

  pub index_ok : (index : ℕ) (marks : List ℕ) → 16 * T.n ≤ index → ((x : ℕ) → x < T.n → candidate_bit marks x ≡ true → on_board h cs (x + 1) ≡ true) → IndexOk index marks T.blocks T.n T.k
  index_ok index marks long bd = record {
    in-index = long;
    on-board = λ x l q.
        let own = own_block s x l in
        let r = in-range s x l (bd x l (eq-eqb (on marks 0 x) 1 q)) in
        (omega (arith, own, r.0), omega (arith, own, r.1));
  }

  -- the rows of sound tables can be made right: a block's number on the board, and 0 off it
  pub rows_ok : {places : ℕ} → 16 * T.n ≤ places → TablesOk places (length T.gains) T.blocks T.n T.k
  rows_ok l = record {
    n-to = s.follows.world.frame.few-vertices;
    k-to = s.follows.world.frame.few;
    in-index = l;
    in-gains = s.follows.world.frame.gains-fit;
    in_blocks = s.follows.world.lists.blocks-fit;
    blocks_to = λ x u. omega (arith, own_block s x u, placed-high h cs block s.placed (x + 1) (omega arith) (omega (arith, s.follows.says.all-vertices)), s.follows.says.all_blocks);
  }

  pub holds : (ceiling : ℕ → ℕ) (ceilings : List ℕ) → CeilingIs ceilings h ceiling → Holds h ceiling cs block T.gains T.blocks T.weights T.loads ceilings T.n T.k
  holds ceiling ceilings q = record {
    n-is = s.follows.says.all-vertices;
    k-is = s.follows.says.all_blocks;
    ceiling-is = λ b l u. q b l (omega (arith, s.follows.says.all_blocks));
    block-is = λ v l u o. own_block s (v - 1) (omega arith) ∙ ap block (back v l);
    weight_is = λ v l u o. own-weight s (v - 1) (omega arith) (at_one v l (may-on h cs v o)) ∙ ap (weight h cs) (back v l);
    load_is = λ b l u. s.bears (b - 1) (omega arith) ∙ ap (block_weight h cs block) (back b l);
    gain-is = λ v b lv uv lb ub o.
        (reads s.follows).gained (v - 1) (b - 1) (omega arith) (omega arith)
        ∙ ap₂ (gain h cs block) (back v lv) (back b lb);
  }
    where
      at_one : (v : ℕ) → 1 ≤ v → above cs v ≡ 0 → above cs (v - 1 + 1) ≡ 0
      at_one v l q = ap (above cs) (back v l) ∙ q

  -- an open pair of candidates on the board can be moved
  pub pair-open : (marks ceilings : List ℕ) (v b : ℕ) → ((x : ℕ) → x < T.n → candidate_bit marks x ≡ true → on_board h cs (x + 1) ≡ true) → (1 ≤ v) × (v ≤ T.n) × (1 ≤ b) × (b ≤ T.k)
      → open_in marks T.blocks T.weights T.loads ceilings v b ≡ true → Open T.blocks T.n T.k (v - 1) b
  pair-open marks ceilings v b bd i o =
      let u-in : v - 1 < T.n = omega (arith, i.0, i.1) in
      let c = bd (v - 1) u-in (and_left (is_candidate marks v) (may_go (get_or T.loads (b - 1) 0) (get_or T.blocks (v - 1) 0) (get_or T.weights (v - 1) 0) (get_or ceilings (b - 1) 0) b) o) in
      let m = and_right (is_candidate marks v) (may_go (get_or T.loads (b - 1) 0) (get_or T.blocks (v - 1) 0) (get_or T.weights (v - 1) 0) (get_or ceilings (b - 1) 0) b) o in
      record {
        u-in = u-in;
        on = omega (arith, own_block s (v - 1) u-in, (in-range s (v - 1) u-in c).0);
        t-in = (i.2, i.3);
        away = eqb-false _ _ (not-true _ (and_left (not (eqb (get_or T.blocks (v - 1) 0) b)) (room_for (get_or T.loads (b - 1) 0) (get_or T.weights (v - 1) 0) (get_or ceilings (b - 1) 0)) m));
      }
