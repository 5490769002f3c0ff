-- v split from u in every net that had v, found by the bitset. Rests on SplitNet and on pins' Uncontract.
use Rattle.std.specs.Prelude.{ℕ, ◌+◌, ◌-◌, ◌<◌, ◌≤◌, ◌≡◌, refl, ◌⊎◌, List, get_or, set, ℤ}
use Rattle.std.proofs.Common.{⊎_elim, inl, inr, arith}
use Rattle.incidence.specs.On.{on, Next}
use Rattle.connectivity.specs.Matrix.{Kept}
use Rattle.connectivity.specs.Set.{kept_trans, kept-none}
use Rattle.levels.specs.World.{mat, World, world-net}
use Rattle.pins.specs.Uncontract.{Uncontracts, Uncontracting, Uncontracted, uncontract-none, uncontract-splits, uncontract-more, uncontract-done}
use Rattle.levels.specs.SplitNet.{SplitNetNeeds, SplitNetDoes}

-- what the loop needs: the tables stand for the matrix of the pin lists, which are those of a stack with (u, v) on top
pub record UncontractsAll (weights counts visited pins blocks firsts sizes loaded bits : List ℕ) (gains : List ℤ) (n m k u v : ℕ) : Type 0 where
  pub world : World weights counts visited pins blocks firsts sizes gains n m k
  pub lists : Uncontracts pins firsts sizes loaded bits n m u v
  pub together : get_or blocks u 0 ≡ get_or blocks v 0

-- the nets below e are done
pub record UncontractingAll (weights blocks firsts loaded : List ℕ) (n m k u v e : ℕ) (pins pins' sizes sizes' bits bits' cs cs' vs vs' : List ℕ) (g g' : List ℤ) : Type 0 where
  pub world : World weights cs' vs' pins' blocks firsts sizes' g' n m k
  pub kept : Kept n m k cs cs' vs vs' g g'
  pub lists : Uncontracting firsts loaded n m u v e pins pins' sizes sizes' bits bits'

-- what it does: the tables stand for the matrix of the pin lists, which are those of the stack below
pub record UncontractedAll (weights blocks firsts loaded : List ℕ) (n m k u v : ℕ) (pins pins' sizes sizes' bits bits' cs cs' vs vs' : List ℕ) (g g' : List ℤ) : Type 0 where
  pub world : World weights cs' vs' pins' blocks firsts sizes' g' n m k
  pub kept : Kept n m k cs cs' vs vs' g g'
  pub lists : Uncontracted firsts loaded n m u v pins pins' sizes sizes' bits bits'

module _ {weights cs₀ vs₀ pins₀ blocks firsts sizes₀ loaded bits₀ : List ℕ} {g₀ : List ℤ} {n m k u v : ℕ} (o : UncontractsAll weights cs₀ vs₀ pins₀ blocks firsts sizes₀ loaded bits₀ g₀ n m k u v) where
  pub uncontracting-none : {e : ℕ} → Next bits₀ v 0 m e → UncontractingAll weights blocks firsts loaded n m k u v e pins₀ pins₀ sizes₀ sizes₀ bits₀ bits₀ cs₀ cs₀ vs₀ vs₀ g₀ g₀
  uncontracting-none w = record { world = o.world; kept = kept-none cs₀ vs₀ g₀; lists = uncontract-none o.lists w }

  module _ {cs vs pins sizes bits : List ℕ} {g : List ℤ} {e : ℕ} (he : e < m) (here : on bits v e ≡ 1)
      (c : UncontractingAll weights blocks firsts loaded n m k u v e pins₀ pins sizes₀ sizes bits₀ bits cs₀ cs vs₀ vs g₀ g)
      {f p N : ℕ} (ef : f ≡ get_or firsts e 0) (ep : p ≡ get_or sizes e 0) (e_n : N ≡ get_or loaded e 0) where
    pub uncontracting-splits : SplitNetNeeds weights cs vs pins blocks bits g n m k f p N e u v
    uncontracting-splits = record {
      Q = mat pins blocks firsts sizes;
      stands = c.world.stands;
      seen = λ y l. rw (ef, ep) refl;
      frame = c.world.frame;
      net = rw (ef, ep) (c.world.lists.nets e he);
      blocks-fit = c.world.lists.blocks-fit;
      e-in = he;
      u-in = o.lists.u-in;
      v-in = o.lists.v-in;
      together = o.together;
      splits = uncontract-splits o.lists he here c.lists ef ep e_n;
    }

    module _ {cs₁ vs₁ pins₁ bits₁ : List ℕ} {g₁ : List ℤ} {r : ℕ} (t : SplitNetDoes weights blocks n m k f p N e u v r pins pins₁ bits bits₁ cs cs₁ vs vs₁ g g₁) where
      -- no stretch is longer than it was loaded
      no_longer : (d : ℕ) → d < m → get_or sizes d 0 ≤ get_or loaded d 0
      no_longer d l = omega (arith, ((c.lists.board o.lists.own o.lists.cs o.lists.sound o.lists.board).nets d l).whole)

      -- the other nets' stretches stand as they stood
      apart : (d : ℕ) → d < m → (d ≡ e → ⊥) → (i : ℕ) → i < get_or sizes d 0 → get_or pins₁ (get_or firsts d 0 + i) 0 ≡ get_or pins (get_or firsts d 0 + i) 0
      apart d hd ne i l = t.split.outside (get_or firsts d 0 + i) (⊎_elim
          (λ q. inl (omega (arith, q, no_longer d hd, ef)))
          (λ q. inr (omega (arith, q, ef, e_n)))
          (o.lists.room.apart d e hd he ne))

      pub uncontracting-more : {e' : ℕ} → Next bits₁ v (e + 1) m e' → UncontractingAll weights blocks firsts loaded n m k u v e' pins₀ pins₁ sizes₀ (set sizes e r) bits₀ bits₁ cs₀ cs₁ vs₀ vs₁ g₀ g₁
      uncontracting-more w = record {
        world = world-net he ef ep t.split.pins-len apart t.net t.stands t.kept c.world;
        kept = kept_trans c.kept t.kept;
        lists = uncontract-more o.lists he here c.lists ef ep e_n t.split w;
      }

  pub uncontracting-done : {cs vs pins sizes bits : List ℕ} {g : List ℤ} {e : ℕ} → e ≡ m → UncontractingAll weights blocks firsts loaded n m k u v e pins₀ pins sizes₀ sizes bits₀ bits cs₀ cs vs₀ vs g₀ g →
      UncontractedAll weights blocks firsts loaded n m k u v pins₀ pins sizes₀ sizes bits₀ bits cs₀ cs vs₀ vs g₀ g
  uncontracting-done q c = record { world = c.world; kept = c.kept; lists = uncontract-done o.lists q c.lists }
