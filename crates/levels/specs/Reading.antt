-- The running tables read as document 01 defines their entries: pins, pin counts, connectivity sets, gains. Rests on Running and on pins' Stack.
use Rattle.std.specs.Prelude.{ℕ, ◌+◌, ◌*◌, ◌-◌, ◌<◌, ◌≤◌, ◌≡◌, Bool, ◌&&◌, List, ltb, length, get_or, ℤ, ◌-ℤ◌}
use Rattle.std.proofs.Common.{add-one, arith, ◌∙◌, eq-eqb, ne_eqb}
use Rattle.std.proofs.Math.Decide.{ℕ_discrete}
use Rattle.std.proofs.Math.Path.{refl, sym, ap, ap₂}
use Rattle.std.proofs.Math.Bool.{true, false, cond}
use Rattle.std.proofs.Math.Dec.{eqb}
use Rattle.std.proofs.Math.IntN.{pos}
use Rattle.laws.specs.Choice.{one, one_none}
use Rattle.laws.specs.Bit.{bit}
use Rattle.laws.specs.Sum.{sum, sum_to, sum-sum_to, sum-nil, sum-list}
use Rattle.laws.specs.IntegerSum.{sum_z, sum_z-ext, sum_z-split}
use Rattle.laws.specs.Occurrence.{occ}
use Rattle.laws.specs.Fold.{sum_over}
use Rattle.model.specs.Catalogue.{Net, Hypergraph}
use Rattle.model.specs.Memory.{no_net}
use Rattle.model.specs.Measure.{Contraction, above, pin, pin_count, freed, drawn, gain}
use Rattle.connectivity.specs.Listed.{has, vertex_at, has_in, has-is}
use Rattle.connectivity.specs.Raised.{at}
use Rattle.connectivity.specs.Share.{when}
use Rattle.connectivity.specs.Matrix.{row_count, share_of, row_share}
use Rattle.connectivity.specs.Row.{row}
use Rattle.levels.specs.World.{mat}
use Rattle.levels.specs.Running.{Running, Says, Follows, net_at}
use Rattle.pins.specs.Stack.{present-off, present-pin, loaded_pin}

module _ {h : Hypergraph} {cs : List Contraction} {block : ℕ → ℕ} {weights pins blocks firsts sizes loaded bits : List ℕ} {n m k : ℕ} (w : Says h cs block weights pins blocks firsts sizes loaded bits n m k) where
  module _ (e : ℕ) (l : e < m) where
    -- the stretch of a net has its pins
    pub has-pin : (y : ℕ) → has pins (get_or firsts e 0) (get_or sizes e 0) y ≡ pin cs (net_at h e) (y + 1)
    has-pin y = has-is pins (get_or firsts e 0) (get_or sizes e 0) y (pin cs (net_at h e) (y + 1)) ((w.board.nets e l).pins (y + 1) ∙ present-pin (net_at h e) cs w.sound (y + 1))

    -- a vertex off the board is no pin
    pin-off : (y : ℕ) → (above cs (y + 1) ≡ 0 → ⊥) → pin cs (net_at h e) (y + 1) ≡ false
    pin-off y z = one_none _ (omega (arith, present-off (loaded_pin (net_at h e)) cs (y + 1) z, present-pin (net_at h e) cs w.sound (y + 1)))

    -- the matrix is the machine's
    pub mat-is : (y : ℕ) → y < n → mat pins blocks firsts sizes e y ≡ cond (pin cs (net_at h e) (y + 1)) (block (y + 1)) 0
    unfolding row
    mat-is y ly = ap (λ (b : Bool). cond b (get_or blocks y 0) 0) (has-pin y) ∙ go (pin cs (net_at h e) (y + 1)) refl
      where
        go : (b : Bool) → pin cs (net_at h e) (y + 1) ≡ b → cond b (get_or blocks y 0) 0 ≡ cond b (block (y + 1)) 0
        go true q = w.sits y ly
        go false q = refl

    -- counts are pin counts
    pub row_count-is : (b : ℕ) → 1 ≤ b → row_count n (mat pins blocks firsts sizes e) b ≡ pin_count h cs block (net_at h e) b
    unfolding row_count pin_count
    row_count-is b hb = sum-sum_to n _ _ (λ y ly. ap (λ (z : ℕ). one (eqb z b)) (mat-is y ly) ∙ go (pin cs (net_at h e) (y + 1)) (block (y + 1)) ∙ ap (λ (z : ℕ). one (pin cs (net_at h e) z && eqb (block z) b)) (add-one y))
        ∙ ap (λ (z : ℕ). sum_to z (λ i. one (pin cs (net_at h e) i && eqb (block i) b))) w.all-vertices
      where
        go : (p : Bool) (x : ℕ) → one (eqb (cond p x 0) b) ≡ one (p && eqb x b)
        go true x = refl
        go false x = ap one (ne_eqb 0 b (λ q. omega arith))

-- a sum over the nets' places
pub sum-nets : (h : Hypergraph) (m : ℕ) (f : Net → ℕ) → m ≡ length h.nets → sum m (λ e. f (net_at h e)) ≡ sum_over h.nets f
sum-nets h m f q = ap (λ (z : ℕ). sum z (λ e. f (net_at h e))) q ∙ sum-list h.nets no_net f

-- ---- gains are gains
sum_z-nil : (f : ℕ → ℤ) (n : ℕ) → ((i : ℕ) → i < n → f i ≡ pos 0) → sum_z f n ≡ pos 0
sum_z-nil f n h = sum_z-ext f (λ i. pos 0 -ℤ pos 0) n h ∙ sum_z-split (λ i. 0) (λ i. 0) n ∙ ap (λ (z : ℕ). pos z -ℤ pos z) (sum-nil n (λ i. 0) (λ i l. refl))

-- the share of a net that has not v, whose block is c, or is another
share_of-out : (f : ℕ → ℕ) (w a c : ℕ) → a ≡ 0 → share_of f w a c ≡ pos 0
unfolding share_of
share_of-out f w a c q = rw q refl

share_of-home : (f : ℕ → ℕ) (w a c : ℕ) → 1 ≤ a → a ≡ c → share_of f w a c ≡ pos 0
unfolding share_of
share_of-home f w a c l q = ap (λ (b : Bool). cond b (pos 0) (cond (eqb c a) (pos 0) (pos (when (f a) 1 w) -ℤ pos (when (f c) 0 w)))) (ne_eqb a 0 (λ z. omega arith))
    ∙ ap (λ (b : Bool). cond b (pos 0) (pos (when (f a) 1 w) -ℤ pos (when (f c) 0 w))) (eq-eqb c a (sym q))

share_of-away : (f : ℕ → ℕ) (w a c : ℕ) → 1 ≤ a → (a ≡ c → ⊥) → share_of f w a c ≡ pos (cond (eqb (f a) 1) w 0) -ℤ pos (cond (eqb (f c) 0) w 0)
unfolding share_of when
share_of-away f w a c l q = ap (λ (b : Bool). cond b (pos 0) (cond (eqb c a) (pos 0) (pos (cond (eqb (f a) 1) w 0) -ℤ pos (cond (eqb (f c) 0) w 0)))) (ne_eqb a 0 (λ z. omega arith))
    ∙ ap (λ (b : Bool). cond b (pos 0) (pos (cond (eqb (f a) 1) w 0) -ℤ pos (cond (eqb (f c) 0) w 0))) (ne_eqb c a (λ z. q (sym z)))

module _ {h : Hypergraph} {cs : List Contraction} {block : ℕ → ℕ} {weights pins blocks firsts sizes loaded bits : List ℕ} {n m k : ℕ} (w : Says h cs block weights pins blocks firsts sizes loaded bits n m k)
    (y j : ℕ) (ly : y < n) (home : (e : ℕ) → e < m → pin cs (net_at h e) (y + 1) ≡ true → 1 ≤ block (y + 1)) where
  share-at : ℕ → ℤ
  share-at e = row_share n (get_or weights e 0) (mat pins blocks firsts sizes e) y (j + 1)

  entry_in : (e : ℕ) → e < m → pin cs (net_at h e) (y + 1) ≡ true → mat pins blocks firsts sizes e y ≡ block (y + 1)
  entry_in e l q = mat-is w e l y ly ∙ ap (λ (b : Bool). cond b (block (y + 1)) 0) q

  entry-out : (e : ℕ) → e < m → pin cs (net_at h e) (y + 1) ≡ false → mat pins blocks firsts sizes e y ≡ 0
  entry-out e l q = mat-is w e l y ly ∙ ap (λ (b : Bool). cond b (block (y + 1)) 0) q

  -- to its own block
  stays : block (y + 1) ≡ j + 1 → (e : ℕ) → e < m → share-at e ≡ pos 0
  unfolding share-at
  stays z e l = go (pin cs (net_at h e) (y + 1)) refl
    where
      go : (b : Bool) → pin cs (net_at h e) (y + 1) ≡ b → row_share n (get_or weights e 0) (mat pins blocks firsts sizes e) y (j + 1) ≡ pos 0
      go true q = share_of-home _ _ _ _ (omega (arith, entry_in e l q, home e l q)) (entry_in e l q ∙ z)
      go false q = share_of-out _ _ _ _ (entry-out e l q)

  abbrev frees : Net → ℕ
  frees e = cond (pin cs e (y + 1) && eqb (pin_count h cs block e (block (y + 1))) 1) e.weight 0

  abbrev draws : Net → ℕ
  draws e = cond (pin cs e (y + 1) && eqb (pin_count h cs block e (j + 1)) 0) e.weight 0

  -- to another
  goes : (block (y + 1) ≡ j + 1 → ⊥) → (e : ℕ) → e < m → share-at e ≡ pos (frees (net_at h e)) -ℤ pos (draws (net_at h e))
  unfolding share-at
  goes z e l = go (pin cs (net_at h e) (y + 1)) refl
    where
      c : (b : ℕ) → 1 ≤ b → row_count n (mat pins blocks firsts sizes e) b ≡ pin_count h cs block (net_at h e) b
      c = row_count-is w e l

      turn : (b : Bool) → pin cs (net_at h e) (y + 1) ≡ b → pos (cond (b && eqb (pin_count h cs block (net_at h e) (block (y + 1))) 1) (net_at h e).weight 0) -ℤ pos (cond (b && eqb (pin_count h cs block (net_at h e) (j + 1)) 0) (net_at h e).weight 0) ≡ pos (frees (net_at h e)) -ℤ pos (draws (net_at h e))
      turn b q = ap (λ (t : Bool). pos (cond (t && eqb (pin_count h cs block (net_at h e) (block (y + 1))) 1) (net_at h e).weight 0) -ℤ pos (cond (t && eqb (pin_count h cs block (net_at h e) (j + 1)) 0) (net_at h e).weight 0)) (sym q)

      go : (b : Bool) → pin cs (net_at h e) (y + 1) ≡ b → row_share n (get_or weights e 0) (mat pins blocks firsts sizes e) y (j + 1) ≡ pos (frees (net_at h e)) -ℤ pos (draws (net_at h e))
      go true q =
          ap (λ (a : ℕ). share_of (row_count n (mat pins blocks firsts sizes e)) (get_or weights e 0) a (j + 1)) (entry_in e l q)
          ∙ share_of-away (row_count n (mat pins blocks firsts sizes e)) (get_or weights e 0) (block (y + 1)) (j + 1) (home e l q) z
          ∙ ap₂ (λ (a b : ℕ). pos (cond (eqb a 1) (get_or weights e 0) 0) -ℤ pos (cond (eqb b 0) (get_or weights e 0) 0)) (c (block (y + 1)) (home e l q)) (c (j + 1) (omega arith))
          ∙ ap (λ (x : ℕ). pos (cond (eqb (pin_count h cs block (net_at h e) (block (y + 1))) 1) x 0) -ℤ pos (cond (eqb (pin_count h cs block (net_at h e) (j + 1)) 0) x 0)) (w.weighs e l)
          ∙ turn true q
      go false q = share_of-out _ _ _ _ (entry-out e l q) ∙ turn false q

  pub sum_is : sum_z (λ e. row_share n (get_or weights e 0) (mat pins blocks firsts sizes e) y (j + 1)) m ≡ gain h cs block (y + 1) (j + 1)
  unfolding gain freed drawn share-at
  sum_is = go (ℕ_discrete (block (y + 1)) (j + 1))
    where
      go : Dec (block (y + 1) ≡ j + 1) → sum_z share-at m ≡ gain h cs block (y + 1) (j + 1)
      go (yes z) = sum_z-nil share-at m (stays z) ∙ sym (ap (λ (b : Bool). cond b (pos 0) (pos (freed h cs block (y + 1)) -ℤ pos (drawn h cs block (y + 1) (j + 1)))) (eq-eqb (block (y + 1)) (j + 1) z))
      go (no z) =
          sum_z-ext share-at (λ e. pos (frees (net_at h e)) -ℤ pos (draws (net_at h e))) m (goes z)
          ∙ sum_z-split (λ e. frees (net_at h e)) (λ e. draws (net_at h e)) m
          ∙ ap₂ (λ (a b : ℕ). pos a -ℤ pos b) (sum-nets h m frees w.all-nets) (sum-nets h m draws w.all-nets)
          ∙ sym (ap (λ (b : Bool). cond b (pos 0) (pos (freed h cs block (y + 1)) -ℤ pos (drawn h cs block (y + 1) (j + 1)))) (ne_eqb (block (y + 1)) (j + 1) z))

-- every entry in use as document 01 defines it; off the board gains are 0
pub record Reads (h : Hypergraph) (cs : List Contraction) (block : ℕ → ℕ) (T : Running) (n m k : ℕ) : Type 0 where
  pub listed : (e y : ℕ) → e < m → occ T.pins (get_or T.firsts e 0) (get_or T.sizes e 0) y ≡ one (pin cs (net_at h e) y)
  pub counted : (e j : ℕ) → e < m → j < k → get_or T.counts (16 * e + j) 0 ≡ pin_count h cs block (net_at h e) (j + 1)
  pub shown : (e j : ℕ) → e < m → j < k → bit (get_or T.visited e 0) j ≡ one (ltb 0 (pin_count h cs block (net_at h e) (j + 1)))
  pub gained : (y j : ℕ) → y < n → j < k → at T.gains (16 * y + j) ≡ gain h cs block (y + 1) (j + 1)
  pub gone : (y j : ℕ) → y < n → j < k → (above cs (y + 1) ≡ 0 → ⊥) → at T.gains (16 * y + j) ≡ pos 0

pub reads : {h : Hypergraph} {cs : List Contraction} {block : ℕ → ℕ} {loaded : List ℕ} {T : Running} {n m k : ℕ} → Follows h cs block loaded T n m k → Reads h cs block T n m k
reads {h} {cs} {block} {T = T} {n = n} {m = m} {k = k} w = record {
  listed = λ e y l. (w.says.board.nets e l).pins y ∙ present-pin (net_at h e) cs w.says.sound y;
  counted = λ e j l lj. w.world.stands.tally.counted e j l lj ∙ row_count-is w.says e l (j + 1) (omega arith);
  shown = λ e j l lj. w.world.stands.tally.shown e j l lj ∙ ap (λ (z : ℕ). one (ltb 0 z)) (row_count-is w.says e l (j + 1) (omega arith));
  gained = λ y j ly lj. w.world.stands.gained y j ly lj ∙ sum_is w.says y j ly (home y ly);
  gone = λ y j ly lj z. w.world.stands.gained y j ly lj ∙ sum_z-nil _ m (λ e l. share_of-out _ _ _ _ (entry-out w.says y j ly (home y ly) e l (pin-off w.says e l y z)));
}
  where
    -- a pin is in a block
    home : (y : ℕ) → y < n → (e : ℕ) → e < m → pin cs (net_at h e) (y + 1) ≡ true → 1 ≤ block (y + 1)
    home y ly e l q =
        let i = has_in T.pins (get_or T.firsts e 0) (get_or T.sizes e 0) y (has-pin w.says e l y ∙ q) in
        let z : vertex_at T.pins (get_or T.firsts e 0) i.0 ≡ y = omega (arith, i.2) in
        omega (arith, (w.world.lists.nets e l).in_blocks i.0 i.1, ap (λ (x : ℕ). get_or T.blocks x 0) z, w.says.sits y ly)
