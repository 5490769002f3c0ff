-- The columns of one lot written, and the loaded marks of other nets: the tables from which the sale is made anew, on the catalogue that X or N leaves.
-- Rests on guarantees's Changed and on reopening. Assumes nothing.
use Rattle.std.specs.Prelude.{ℕ, suc, ◌+◌, ◌*◌, ◌-◌, ◌<◌, ◌≤◌, ◌≡◌, refl, length, get_or, set}
use Rattle.std.proofs.Math.Decide.{ℕ_discrete}
use Rattle.std.proofs.Common.{arith, ap, ◌∙◌, get_or-set_same, get_or-set_other}
use Rattle.std.proofs.Math.Path.{sym}
use mathlib.Core.List.{List, []}
use Rattle.laws.specs.Choice.{cond_yes}
use Rattle.model.specs.Catalogue.{Limits, Net, Hypergraph, vertices, loaded, drafted, fixed_entry}
use Rattle.model.specs.Measure.{above, weight}
use Rattle.model.specs.Memory.{no_net, all_pins, weight_entry}
use Rattle.model.specs.Sale.{changed_at}
use Rattle.guarantees.specs.Ranges.{Ranges}
use Rattle.guarantees.specs.Splits.{above-none, weight-none}
use Rattle.guarantees.specs.Changed.{known, loaded_at, loaded-other, drafted-at, drafted-other, fixed-at, fixed-other}
use Rattle.levels.specs.Running.{net_at}
use Rattle.operations.specs.Tables.{Tables, Sound}
use Rattle.operations.specs.Move.{own_block}
use Rattle.renewal.specs.Nets.{Stored}
use Rattle.reopening.specs.Reopening.{Reopens}
use Rattle.change_rules.specs.Lot.{LotSet}

-- the tables have room for that many lots and for 8,192 marks
pub record Long (lots : ℕ) (T : Tables) (fixed index loaded_pins : List ℕ) : Type 0 where
  pub few : lots ≤ 1024
  pub weights-long : lots ≤ length T.weights
  pub blocks-long : lots ≤ length T.blocks
  pub aboves-long : lots ≤ length T.aboves
  pub fixed-long : lots ≤ length fixed
  pub gains-long : 16 * lots ≤ length T.gains
  pub bits-long : 16 * lots ≤ length T.bits
  pub index-long : 16 * lots ≤ length index
  pub pins-long : 8192 ≤ length T.pins
  pub loaded-long : 8192 ≤ length loaded_pins

-- an entry of a column with one place set
pub set-entry : (l : List ℕ) (v x y : ℕ) (P : ℕ → ℕ) → 1 ≤ v → v ≤ length l → P v ≡ x → ((y + 1 ≡ v → ⊥) → get_or l y 0 ≡ P (y + 1)) → get_or (set l (v - 1) x) y 0 ≡ P (y + 1)
set-entry l v x y P vl fits e f = go (ℕ_discrete y (v - 1))
  where
    go : Dec (y ≡ v - 1) → get_or (set l (v - 1) x) y 0 ≡ P (y + 1)
    go (yes q) =
        let z : v ≡ y + 1 = omega arith in
        ap (λ (i : ℕ). get_or (set l (v - 1) x) i 0) q ∙ get_or-set_same l (v - 1) x 0 (omega arith) ∙ sym e ∙ ap P z
    go (no q) = get_or-set_other l (v - 1) y x 0 q ∙ f (λ z. q (omega arith))

module _ {h : Hypergraph} {p : ℕ → ℕ} {T : Tables} (s : Sound h [] p T) where
  pub old-weight : (y : ℕ) → y < T.n → get_or T.weights y 0 ≡ loaded h (y + 1)
  unfolding weight_entry
  old-weight y l = s.weighs y l ∙ cond_yes (above [] (y + 1)) 0 (weight h [] (y + 1)) _ (above-none (y + 1)) ∙ weight-none h (y + 1) (omega arith) (omega (arith, s.follows.says.all-vertices))

  module _ (v bales session : ℕ) (nets : List Net) (vl : 1 ≤ v) (vu : v ≤ suc (vertices h)) where
    abbrev left : Hypergraph
    left = changed_at h p v bales session nets

    -- a lot that was there
    older : (y : ℕ) → y < vertices left → (y + 1 ≡ v → ⊥) → y < T.n
    older y l n = omega (arith, known h p v bales session nets vl vu (y + 1) (omega arith) n, s.follows.says.all-vertices)

    module _ {weights' blocks' aboves' fixed fixed' : List ℕ} (c : LotSet (v - 1) bales session T.weights weights' T.blocks blocks' T.aboves aboves' fixed fixed') where
      pub new-weight : v ≤ length T.weights → (y : ℕ) → y < vertices left → get_or weights' y 0 ≡ loaded left (y + 1)
      new-weight fits y l =
          ap (λ (r : List ℕ). get_or r y 0) c.weights-are
          ∙ set-entry T.weights v bales y (loaded left) vl fits (loaded_at h p v bales session nets vl vu) (λ n.
          old-weight y (older y l n) ∙ sym (loaded-other h p v bales session nets vl vu (y + 1) (omega arith) n))

      pub new-block : v ≤ length T.blocks → (y : ℕ) → y < vertices left → get_or blocks' y 0 ≡ drafted left (y + 1)
      new-block fits y l =
          ap (λ (r : List ℕ). get_or r y 0) c.blocks-are
          ∙ set-entry T.blocks v session y (drafted left) vl fits (drafted-at h p v bales session nets vl vu) (λ n.
          own_block s y (older y l n) ∙ sym (drafted-other h p v bales session nets vl vu (y + 1) (omega arith) (omega (arith, older y l n, s.follows.says.all-vertices)) n))

      pub new-above : v ≤ length T.aboves → (y : ℕ) → y < vertices left → get_or aboves' y 0 ≡ 0
      new-above fits y l =
          ap (λ (r : List ℕ). get_or r y 0) c.aboves-are
          ∙ set-entry T.aboves v 0 y (λ _. 0) vl fits refl (λ n. s.hangs y (older y l n) ∙ above-none (y + 1))

      pub new-fixed : v ≤ length fixed → length h.fixed ≡ length h.weights → ((x : ℕ) → x < T.n → get_or fixed x 0 ≡ fixed_entry h (x + 1)) → (y : ℕ) → y < vertices left → get_or fixed' y 0 ≡ fixed_entry left (y + 1)
      new-fixed fits same is y l =
          ap (λ (r : List ℕ). get_or r y 0) c.fixed-are
          ∙ set-entry fixed v 0 y (fixed_entry left) vl fits (fixed-at h p v bales session nets vl vu same) (λ n.
          is y (older y l n) ∙ sym (fixed-other h p v bales session nets vl vu same (y + 1) (omega arith) n))

      -- the sale can be made anew
      module _ (limits : Limits) (narrow : limits.block_limit ≤ 16) (short : limits.vertex_limit ≤ 1024) (r : Ranges limits left) {index lp : List ℕ} (long : Long limits.vertex_limit T fixed index lp)
          (there : v ≤ vertices left) {lp' firsts' sizes' : List ℕ} {n' total : ℕ} (n-is : n' ≡ vertices left)
          (st : Stored nets lp' firsts' sizes') (total-is : total ≡ length (all_pins nets)) (few : total ≤ 8192) (as_many : length nets ≡ length h.nets)
          (costs : (e : ℕ) → e < length h.nets → (get_or nets e no_net).weight ≡ (net_at h e).weight) (lp-len : length lp' ≡ length lp) where
        pub reopens : Reopens left lp' sizes' T.pins T.sizes blocks' firsts' weights' T.net_weights T.bits T.counts T.visited T.gains n' T.m T.k total
        unfolding changed_at
        reopens = let w = s.follows.says in let f = s.follows.world.frame in let high = r.vertices-high in record {
          fit = record { limits = limits; narrow = narrow; short = short; ranges = r };
          stored = st;
          total-is = total-is;
          all-vertices = n-is;
          all-nets = w.all-nets ∙ sym as_many;
          all_blocks = w.all_blocks;
          costs = λ e l. w.weighs e l ∙ sym (costs e (omega (arith, w.all-nets)));
          sits = λ y l. new-block (omega (arith, there, high, long.blocks-long)) y (omega (arith, n-is));
          weighs = λ y l. new-weight (omega (arith, there, high, long.weights-long)) y (omega (arith, n-is));
          frame = record {
            counts-fit = f.counts-fit;
            masks-fit = f.masks-fit;
            gains-fit = omega (arith, long.gains-long, n-is, high);
            weights-fit = f.weights-fit;
            few = f.few;
            few-nets = f.few-nets;
            few-vertices = omega (arith, n-is, high, short);
            weight = f.weight;
          };
          few = few;
          loaded-long = omega (arith, long.loaded-long, lp-len);
          pins-long = long.pins-long;
          sizes-long = s.follows.room.sizes-fit;
          bits-long = omega (arith, long.bits-long, n-is, high);
          blocks-fit = omega (arith, c.blocks-len, long.blocks-long, n-is, high);
          weights-fit = omega (arith, c.weights-len, long.weights-long, n-is, high);
        }
