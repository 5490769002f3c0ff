-- A contraction undone in all nets: pin lists and incidence. Rests on Board and Split.
use Rattle.std.specs.Prelude.{ℕ, ◌+◌, ◌≤◌, ◌<◌, ◌≡◌, refl, Bool, true, false, List, ◌∷◌, length, get_or, set}
use Rattle.std.proofs.Math.Decide.{ℕ_discrete, dec_lt}
use Rattle.std.proofs.Common.{arith, sym, ap, ◌∙◌, inl, inr, ⊎_elim, length-set, get_or-set_same, get_or-set_other}
use Rattle.laws.specs.Choice.{one, one-full, one_none}
use Rattle.laws.specs.Occurrence.{at}
use Rattle.model.specs.Measure.{Contraction}
use Rattle.guarantees.specs.Climbs.{Sound}
use Rattle.incidence.specs.On.{on, Next}
use Rattle.pins.specs.Stack.{row, row_other, row-skip}
use Rattle.pins.specs.Stretch.{Stretch, stretch-ext, skip-back}
use Rattle.pins.specs.Board.{join, half, half-below, half-from, Board, Room, KeptLists, room-kept}
use Rattle.pins.specs.Split.{Splits, Split}

pub record Uncontracts (pins firsts sizes loaded bits : List ℕ) (n m u v : ℕ) : Type 0 where
  pub own : ℕ → ℕ → Bool
  pub cs : List Contraction
  pub sound : Sound (join u v ∷ cs)
  pub board : Board own (λ _. join u v ∷ cs) pins firsts sizes loaded bits n m
  pub room : Room pins firsts sizes loaded bits n m
  pub u-in : u < n
  pub v-in : v < n

-- the nets below e are done
pub record Uncontracting (firsts loaded : List ℕ) (n m u v e : ℕ) (pins pins' sizes sizes' bits bits' : List ℕ) : Type 0 where
  pub board : (own : ℕ → ℕ → Bool) (cs : List Contraction) → Sound (join u v ∷ cs) → Board own (λ _. join u v ∷ cs) pins firsts sizes loaded bits n m →
      Board own (half e cs (join u v ∷ cs)) pins' firsts sizes' loaded bits' n m
  pub kept : KeptLists firsts loaded m pins pins' sizes sizes'
  pub bits-len : length bits' ≡ length bits

-- what it does in the end
pub record Uncontracted (firsts loaded : List ℕ) (n m u v : ℕ) (pins pins' sizes sizes' bits bits' : List ℕ) : Type 0 where
  pub board : (own : ℕ → ℕ → Bool) (cs : List Contraction) → Sound (join u v ∷ cs) → Board own (λ _. join u v ∷ cs) pins firsts sizes loaded bits n m →
      Board own (λ _. cs) pins' firsts sizes' loaded bits' n m
  pub room : Room pins firsts sizes loaded bits n m → Room pins' firsts sizes' loaded bits' n m
  pub kept : KeptLists firsts loaded m pins pins' sizes sizes'

-- v's row is the same on both stacks
module _ {own : ℕ → ℕ → Bool} {pins firsts sizes loaded bits : List ℕ} {n m : ℕ} (cs : List Contraction) (u v e : ℕ) (so : Sound (join u v ∷ cs)) (vn : v < n)
    (b : Board own (half e cs (join u v ∷ cs)) pins firsts sizes loaded bits n m) where
  pub row-v : (d : ℕ) → d < m → on bits v d ≡ one (row (own d) cs (v + 1))
  row-v d l = b.marked v d vn l ∙ go (dec_lt d e)
    where
      go : Dec (d < e) → one (row (own d) (half e cs (join u v ∷ cs) d) (v + 1)) ≡ one (row (own d) cs (v + 1))
      go (yes h) = rw (half-below e cs (join u v ∷ cs) d h) refl
      go (no h) = rw (half-from e cs (join u v ∷ cs) d (omega arith)) (ap one (row_other (own d) cs (join u v) (v + 1) (λ q. so.0.two (sym q))))

  -- nets that v is no pin of
  pub board-skip : (e' : ℕ) → e ≤ e' → e' ≤ m → ((d : ℕ) → e ≤ d → d < e' → on bits v d ≡ 0) → Board own (half e' cs (join u v ∷ cs)) pins firsts sizes loaded bits n m
  board-skip e' le high none = record {
    nets = λ d l. net d l (dec_lt d e) (dec_lt d e');
    marked = λ x d k l. b.marked x d k l ∙ bit x d l (dec_lt d e) (dec_lt d e');
  }
    where
      no-v : (d : ℕ) → e ≤ d → d < e' → row (own d) cs (v + 1) ≡ false
      no-v d h k = one_none _ (sym (row-v d (omega arith)) ∙ none d h k)

      net : (d : ℕ) → d < m → Dec (d < e) → Dec (d < e') → Stretch (own d) (half e' cs (join u v ∷ cs) d) pins (get_or firsts d 0) (get_or sizes d 0) (get_or loaded d 0)
      net d l (yes h) k = rw (half-below e' cs (join u v ∷ cs) d (omega arith)) (rw (half-below e cs (join u v ∷ cs) d h) at (b.nets d l))
      net d l (no h) (yes k) = rw (half-below e' cs (join u v ∷ cs) d k) (skip-back (own d) cs (join u v) so pins _ _ _ (no-v d (omega arith) k) (rw (half-from e cs (join u v ∷ cs) d (omega arith)) at (b.nets d l)))
      net d l (no h) (no k) = rw (half-from e' cs (join u v ∷ cs) d (omega arith)) (rw (half-from e cs (join u v ∷ cs) d (omega arith)) at (b.nets d l))

      bit : (x d : ℕ) → d < m → Dec (d < e) → Dec (d < e') → one (row (own d) (half e cs (join u v ∷ cs) d) (x + 1)) ≡ one (row (own d) (half e' cs (join u v ∷ cs) d) (x + 1))
      bit x d l (yes h) k = rw (half-below e' cs (join u v ∷ cs) d (omega arith), half-below e cs (join u v ∷ cs) d h) refl
      bit x d l (no h) (yes k) = rw (half-below e' cs (join u v ∷ cs) d k, half-from e cs (join u v ∷ cs) d (omega arith)) (ap one (row-skip (own d) cs (join u v) (no-v d (omega arith) k) (x + 1)))
      bit x d l (no h) (no k) = rw (half-from e' cs (join u v ∷ cs) d (omega arith), half-from e cs (join u v ∷ cs) d (omega arith)) refl

  module _ (ro : Room pins firsts sizes loaded bits n m) (un : u < n) (he : e < m) (here : on bits v e ≡ 1) where
    has-e : row (own e) cs (v + 1) ≡ true
    has-e = one-full _ (omega (arith, row-v e he, here))

    stretch-e : Stretch (own e) (join u v ∷ cs) pins (get_or firsts e 0) (get_or sizes e 0) (get_or loaded e 0)
    stretch-e = rw (half-from e cs (join u v ∷ cs) e (omega arith)) at (b.nets e he)

    pub board-splits : Splits pins bits (get_or firsts e 0) (get_or sizes e 0) (get_or loaded e 0) e u v
    board-splits = record {
      own = own e;
      cs = cs;
      sound = so;
      stretch = stretch-e;
      has-v = has-e;
      room = ro.pins-fit e he;
      e-in = omega (arith, ro.few-nets);
      u-in = omega (arith, ro.few-vertices);
      v-in = omega (arith, ro.few-vertices);
      bits_fit = omega (arith, ro.bits_fit);
    }

    -- one net more
    pub board-more : {pins' bits' : List ℕ} {r : ℕ} → Split pins pins' bits bits' (get_or firsts e 0) (get_or sizes e 0) (get_or loaded e 0) r e u v →
        Board own (half (e + 1) cs (join u v ∷ cs)) pins' firsts (set sizes e r) loaded bits' n m
    board-more {pins'} {bits'} {r} t = record {
      nets = λ d l. net d l (ℕ_discrete d e) (dec_lt d e);
      marked = λ x d k l. bit x d k l (ℕ_discrete d e) (dec_lt d e) (ℕ_discrete x u);
    }
      where
        size-e : get_or (set sizes e r) e 0 ≡ r
        size-e = get_or-set_same sizes e r 0 (omega (arith, ro.sizes-fit))

        far : (d : ℕ) → d < m → (d ≡ e → ⊥) → (i : ℕ) → i < get_or loaded d 0 → at pins' (get_or firsts d 0) i ≡ at pins (get_or firsts d 0) i
        far d l ne i h = t.outside (get_or firsts d 0 + i) (⊎_elim (λ q. inl (omega (arith, q))) (λ q. inr (omega (arith, q))) (ro.apart d e l he ne))

        same-d : (d : ℕ) → d < m → (d ≡ e → ⊥) → (s : List Contraction) → Stretch (own d) s pins (get_or firsts d 0) (get_or sizes d 0) (get_or loaded d 0) → Stretch (own d) s pins' (get_or firsts d 0) (get_or (set sizes e r) d 0) (get_or loaded d 0)
        same-d d l ne s q = rw (get_or-set_other sizes e d r 0 ne) (stretch-ext (own d) s pins pins' _ _ _ (far d l ne) q)

        net : (d : ℕ) → d < m → Dec (d ≡ e) → Dec (d < e) → Stretch (own d) (half (e + 1) cs (join u v ∷ cs) d) pins' (get_or firsts d 0) (get_or (set sizes e r) d 0) (get_or loaded d 0)
        net d l (yes q) k = rw (half-below (e + 1) cs (join u v ∷ cs) d (omega arith), q, size-e) (t.stretch (own e) cs so has-e stretch-e)
        net d l (no q) (yes k) = rw (half-below (e + 1) cs (join u v ∷ cs) d (omega arith)) (same-d d l q cs (rw (half-below e cs (join u v ∷ cs) d k) at (b.nets d l)))
        net d l (no q) (no k) = rw (half-from (e + 1) cs (join u v ∷ cs) d (omega arith)) (same-d d l q (join u v ∷ cs) (rw (half-from e cs (join u v ∷ cs) d (omega arith)) at (b.nets d l)))

        bit : (x d : ℕ) → x < n → d < m → Dec (d ≡ e) → Dec (d < e) → Dec (x ≡ u) → on bits' x d ≡ one (row (own d) (half (e + 1) cs (join u v ∷ cs) d) (x + 1))
        bit x d xn l (yes q) k (yes z) = rw (half-below (e + 1) cs (join u v ∷ cs) d (omega arith), q, z) (t.bit (own e) cs so has-e stretch-e (rw (half-from e cs (join u v ∷ cs) e (omega arith)) at (b.marked u e un he)))
        bit x d xn l (yes q) k (no z) = rw (half-below (e + 1) cs (join u v ∷ cs) d (omega arith), q) (
            t.elsewhere x e (omega (arith, ro.few-nets)) (λ a c. z a)
            ∙ (rw (half-from e cs (join u v ∷ cs) e (omega arith)) at (b.marked x e xn he))
            ∙ ap one (row_other (own e) cs (join u v) (x + 1) (λ a. z (omega arith))))
        bit x d xn l (no q) (yes k) z = rw (half-below (e + 1) cs (join u v ∷ cs) d (omega arith)) (
            t.elsewhere x d (omega (arith, ro.few-nets)) (λ a c. q c)
            ∙ (rw (half-below e cs (join u v ∷ cs) d k) at (b.marked x d xn l)))
        bit x d xn l (no q) (no k) z = rw (half-from (e + 1) cs (join u v ∷ cs) d (omega arith)) (
            t.elsewhere x d (omega (arith, ro.few-nets)) (λ a c. q c)
            ∙ (rw (half-from e cs (join u v ∷ cs) d (omega arith)) at (b.marked x d xn l)))

-- ---- the loop: none done, one more, all done
module _ {pins₀ firsts sizes₀ loaded bits₀ : List ℕ} {n m u v : ℕ} (o : Uncontracts pins₀ firsts sizes₀ loaded bits₀ n m u v) where
  pub uncontract-none : {e : ℕ} → Next bits₀ v 0 m e → Uncontracting firsts loaded n m u v e pins₀ pins₀ sizes₀ sizes₀ bits₀ bits₀
  uncontract-none {e} k = record {
    board = λ own cs so b. board-skip cs u v 0 so o.v-in (none own cs b) e (omega arith) k.high (λ d l h. k.passed d l h);
    kept = record { pins-len = refl; sizes-len = refl; pins-past = λ i h. refl; sizes-past = λ d l. refl };
    bits-len = refl;
  }
    where
      none : (own : ℕ → ℕ → Bool) (cs : List Contraction) → Board own (λ _. join u v ∷ cs) pins₀ firsts sizes₀ loaded bits₀ n m → Board own (half 0 cs (join u v ∷ cs)) pins₀ firsts sizes₀ loaded bits₀ n m
      none own cs b = record {
        nets = λ d l. rw (half-from 0 cs (join u v ∷ cs) d (omega arith)) (b.nets d l);
        marked = λ x d k l. rw (half-from 0 cs (join u v ∷ cs) d (omega arith)) (b.marked x d k l);
      }

  module _ {pins sizes bits : List ℕ} {e : ℕ} (he : e < m) (here : on bits v e ≡ 1) (c : Uncontracting firsts loaded n m u v e pins₀ pins sizes₀ sizes bits₀ bits) where
    room-now : Room pins firsts sizes loaded bits n m
    room-now = room-kept c.kept.pins-len c.kept.sizes-len c.bits-len o.room

    pub uncontract-splits : {f p N : ℕ} → f ≡ get_or firsts e 0 → p ≡ get_or sizes e 0 → N ≡ get_or loaded e 0 → Splits pins bits f p N e u v
    uncontract-splits ef ep e_n = rw (ef, ep, e_n) (board-splits o.cs u v e o.sound o.v-in (c.board o.own o.cs o.sound o.board) room-now o.u-in he here)

    pub uncontract-more : {f p N : ℕ} → f ≡ get_or firsts e 0 → p ≡ get_or sizes e 0 → N ≡ get_or loaded e 0 → {pins' bits' : List ℕ} {r e' : ℕ} → Split pins pins' bits bits' f p N r e u v → Next bits' v (e + 1) m e' →
        Uncontracting firsts loaded n m u v e' pins₀ pins' sizes₀ (set sizes e r) bits₀ bits'
    uncontract-more {f} {p} {N} ef ep e_n {pins'} {bits'} {r} {e'} t k = record {
      board = λ own cs so b. board-skip cs u v (e + 1) so o.v-in (board-more cs u v e so o.v-in (c.board own cs so b) room-now o.u-in he here t') e' k.low k.high k.passed;
      kept = record {
        pins-len = t.pins-len ∙ c.kept.pins-len;
        sizes-len = length-set sizes e r ∙ c.kept.sizes-len;
        pins-past = λ i h. t.outside i (rw (ef, e_n) (h e he)) ∙ c.kept.pins-past i h;
        sizes-past = λ d l. get_or-set_other sizes e d r 0 (λ q. omega arith) ∙ c.kept.sizes-past d l;
      };
      bits-len = t.bits-len ∙ c.bits-len;
    }
      where
        t' : Split pins pins' bits bits' (get_or firsts e 0) (get_or sizes e 0) (get_or loaded e 0) r e u v
        t' = rw (ef, ep, e_n) at t

  pub uncontract-done : {pins sizes bits : List ℕ} {e : ℕ} → e ≡ m → Uncontracting firsts loaded n m u v e pins₀ pins sizes₀ sizes bits₀ bits → Uncontracted firsts loaded n m u v pins₀ pins sizes₀ sizes bits₀ bits
  uncontract-done {pins} {sizes} {bits} {e} q c = record {
    board = λ own cs so b. all own cs (c.board own cs so b);
    room = room-kept c.kept.pins-len c.kept.sizes-len c.bits-len;
    kept = c.kept;
  }
    where
      all : (own : ℕ → ℕ → Bool) (cs : List Contraction) → Board own (half e cs (join u v ∷ cs)) pins firsts sizes loaded bits n m → Board own (λ _. cs) pins firsts sizes loaded bits n m
      all own cs b = record {
        nets = λ d l. rw (half-below e cs (join u v ∷ cs) d (omega arith)) at (b.nets d l);
        marked = λ x d k l. rw (half-below e cs (join u v ∷ cs) d (omega arith)) at (b.marked x d k l);
      }
