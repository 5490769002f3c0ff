-- The rows of the index under J and S: a contraction of two vertices of one block, and its undo, leave every other vertex its block and its gains,
-- so that only the two rows are made right. Rests on operations' Join, on index and on the metric that a contraction leaves. Assumes nothing.
use Rattle.std.specs.Prelude.{ℕ, ◌+◌, ◌*◌, ◌-◌, ◌≤◌, ◌<◌, ◌≡◌, refl, true, List, ◌∷◌, ℤ, pos, ◌-ℤ◌, length, get_or}
use Rattle.std.proofs.Math.Decide.{ℕ_discrete}
use Rattle.std.proofs.Common.{arith, sym, ap, ◌∙◌, subst}
use Rattle.laws.specs.Choice.{cond_yes}
use Rattle.laws.specs.Integer.{up, dn, eq-by, pos-is, sub_is}
use Rattle.laws.specs.Place.{place, place-off, place-swap}
use Rattle.model.specs.Catalogue.{Hypergraph, vertices}
use Rattle.model.specs.Measure.{Contraction, on_board, metric, gain}
use Rattle.model.specs.Machine.{uncontract}
use Rattle.guarantees.specs.Climbs.{Sound as SoundStack}
use Rattle.guarantees.specs.Joins.{metric-join}
use Rattle.guarantees.specs.Moves.{metric-gain}
use Rattle.guarantees.specs.Ranks.{ranked-ext}
use Rattle.guarantees.specs.Splits.{Inside, split-join, together}
use Rattle.index.specs.Row.{gain_at, Holds, Written, RowsOk}
use Rattle.index.specs.Indexed.{row_for, row-off, row_on, TablesOk, Kept, kept_row, kept_then, KeepsRight}
use Rattle.levels.specs.Reading.{reads}
use Rattle.pins.specs.Board.{join}
use Rattle.operations.specs.Tables.{Tables, Sound}
use Rattle.operations.specs.Move.{own_block, here-board, in-range}
use Rattle.operations.specs.Join.{Pair, Joined, Split}

-- ---- the machine: the gain of a vertex that is neither of the two
-- a gain, from the metric before a move and after it
less : (a b : ℕ) (g : ℤ) → pos b ≡ pos a -ℤ g → g ≡ pos a -ℤ pos b
less a b g q = eq-by _ _ (omega (arith, ap up q, ap dn q, sub_is (pos a) g, sub_is (pos a) (pos b), pos-is a, pos-is b))

-- at home it gains nothing
gain-home : (h : Hypergraph) (cs : List Contraction) (p : ℕ → ℕ) (x t : ℕ) → p x ≡ t → gain h cs p x t ≡ pos 0
unfolding gain
gain-home h cs p x t q = cond_yes (p x) t (pos 0) _ q

module _ (h : Hypergraph) (cs : List Contraction) (c : Contraction) (s : SoundStack (c ∷ cs)) (i : Inside h c) (p : ℕ → ℕ) (one_block : p c.into ≡ p c.gone) (x : ℕ) (ni : x ≡ c.into → ⊥) (ng : x ≡ c.gone → ⊥) where
  -- the contraction leaves the metric, also once x has moved
  moved-join : (t : ℕ) → metric h (c ∷ cs) (place (place p c.gone 0) x t) ≡ metric h cs (place p x t)
  moved-join t =
      ap (metric h (c ∷ cs)) (place-swap p c.gone 0 x t ng)
      ∙ metric-join h cs c s (place p x t) i.0 i.1 i.2 i.3 (place-off p x t c.into (λ q. ni (sym q)) ∙ one_block ∙ sym (place-off p x t c.gone (λ q. ng (sym q))))

  -- and the gain is by how much the metric falls: the same before the contraction and after it
  gain-join : 1 ≤ x → x ≤ vertices h → 1 ≤ p x → p x ≤ h.blocks → (t : ℕ) → 1 ≤ t → t ≤ h.blocks → gain h (c ∷ cs) (place p c.gone 0) x t ≡ gain h cs p x t
  gain-join xl xu l u t tl tu = go (ℕ_discrete (p x) t)
    where
      stays : place p c.gone 0 x ≡ p x
      stays = place-off p c.gone 0 x ng

      go : Dec (p x ≡ t) → gain h (c ∷ cs) (place p c.gone 0) x t ≡ gain h cs p x t
      go (yes q) = gain-home h (c ∷ cs) (place p c.gone 0) x t (stays ∙ q) ∙ sym (gain-home h cs p x t q)
      go (no n) =
          less (metric h cs p) (metric h cs (place p x t)) _
          (ap pos (sym (moved-join t))
          ∙ metric-gain h (c ∷ cs) (place p c.gone 0) x t xl xu (omega (arith, stays)) (omega (arith, stays)) tl tu (λ q. n (sym stays ∙ q))
          ∙ ap (λ (m : ℕ). pos m -ℤ gain h (c ∷ cs) (place p c.gone 0) x t) (metric-join h cs c s p i.0 i.1 i.2 i.3 one_block))
          ∙ sym (less (metric h cs p) (metric h cs (place p x t)) _ (metric-gain h cs p x t xl xu l u tl tu n))

-- ---- the tables: T with the two vertices apart, T' with v contracted into u, both counted from 0
module _ {h : Hypergraph} {cs : List Contraction} {block : ℕ → ℕ} {T T' : Tables} (u v : ℕ) (one_block : block (u + 1) ≡ block (v + 1)) (s : Sound h cs block T) (s' : Sound h (join u v ∷ cs) (place block (v + 1) 0) T')
    (y : ℕ) (y-in : y < T.n) (nu : y ≡ u → ⊥) (nv : y ≡ v → ⊥) where
  in-other : y < T'.n
  in-other = omega (arith, s.follows.says.all-vertices, s'.follows.says.all-vertices)

  same_block : get_or T'.blocks y 0 ≡ get_or T.blocks y 0
  same_block = own_block s' y in-other ∙ place-off block (v + 1) 0 (y + 1) (λ q. nv (omega arith)) ∙ sym (own_block s y y-in)

  same-gain : on_board h cs (y + 1) ≡ true → (b : ℕ) → 1 ≤ b → b ≤ T.k → gain_at T'.gains y b ≡ gain_at T.gains y b
  same-gain on b l r =
      let e : b - 1 + 1 ≡ b = omega arith in
      let a = in-range s y y-in on in
      (reads s'.follows).gained y (b - 1) in-other (omega (arith, s.follows.says.all_blocks, s'.follows.says.all_blocks))
      ∙ ap (gain h (join u v ∷ cs) (place block (v + 1) 0) (y + 1)) e
      ∙ gain-join h cs (join u v) s'.follows.says.sound s'.inside.0 block one_block (y + 1) (λ q. nu (omega arith)) (λ q. nv (omega arith)) (omega arith) (omega (arith, s.follows.says.all-vertices)) a.0
      (omega (arith, a.1, s.follows.says.all_blocks)) b l (omega (arith, s.follows.says.all_blocks))
      ∙ sym ((reads s.follows).gained y (b - 1) y-in (omega arith) ∙ ap (gain h cs block (y + 1)) e)

  same_row : row_for T'.gains T'.blocks T.k y ≡ row_for T.gains T.blocks T.k y
  same_row = go (ℕ_discrete (get_or T.blocks y 0) 0)
    where
      go : Dec (get_or T.blocks y 0 ≡ 0) → row_for T'.gains T'.blocks T.k y ≡ row_for T.gains T.blocks T.k y
      go (yes z) = row-off T'.gains T'.blocks T.k y (get_or T.blocks y 0) (sym same_block) z ∙ sym (row-off T.gains T.blocks T.k y (get_or T.blocks y 0) refl z)
      go (no n) =
          row_on T'.gains T'.blocks T.k y (get_or T.blocks y 0) (sym same_block) n
          ∙ ranked-ext (gain_at T.gains y) (gain_at T'.gains y) (get_or T.blocks y 0) T.k (same-gain (here-board s y y-in (omega arith)))
          ∙ sym (row_on T.gains T.blocks T.k y (get_or T.blocks y 0) refl n)

-- ---- the two rows
-- the rows of u and v are right, rows that were right are still, and places that are not in use are as they were
pub record TwoRight (gains : List ℤ) (blocks : List ℕ) (n k u v : ℕ) (index index' : List ℕ) : Type 0 where
  pub kept : Kept n k index index'
  pub first : Holds k index' u (row_for gains blocks k u)
  pub second : Holds k index' v (row_for gains blocks k v)
  pub others : (y : ℕ) → Holds k index y (row_for gains blocks k y) → Holds k index' y (row_for gains blocks k y)

-- one row made right: a row that was right is still
right-still : (gains : List ℤ) (blocks : List ℕ) (k x : ℕ) {index index' : List ℕ} → k ≤ 16 → Written k index index' x (row_for gains blocks k x) → (y : ℕ) → Holds k index y (row_for gains blocks k y) → Holds k index' y (row_for gains blocks k y)
right-still gains blocks k x {index} {index'} most w y h = go (ℕ_discrete y x)
  where
    go : Dec (y ≡ x) → Holds k index' y (row_for gains blocks k y)
    go (yes q) = rw q w.here
    go (no q) = λ j l. w.elsewhere (16 * y + j) (λ e r. q (omega arith)) ∙ h j l

pub two-right : {gains : List ℤ} {blocks : List ℕ} {n k u v : ℕ} {a b c : List ℕ} → k ≤ 16 → u < n → v < n → Written k a b u (row_for gains blocks k u) → Written k b c v (row_for gains blocks k v) → TwoRight gains blocks n k u v a c
two-right {gains} {blocks} {n} {k} {u} {v} most lu lv p q = record {
  kept = kept_then (kept_row (row_for gains blocks k u) lu p) (kept_row (row_for gains blocks k v) lv q);
  first = right-still gains blocks k v most q u p.here;
  second = q.here;
  others = λ y h. right-still gains blocks k v most q y (right-still gains blocks k u most p y h);
}

-- the row of no other vertex has changed
keeps-two : {gains gains' : List ℤ} {blocks blocks' : List ℕ} {n k u v : ℕ} {index index' : List ℕ} → ((y : ℕ) → y < n → (y ≡ u → ⊥) → (y ≡ v → ⊥) → row_for gains' blocks' k y ≡ row_for gains blocks k y)
    → TwoRight gains' blocks' n k u v index index' → KeepsRight gains blocks gains' blocks' n k index index'
keeps-two {gains} {gains'} {blocks} {blocks'} {n} {k} {u} {v} {index} {index'} same w = record { kept = w.kept; right = λ r y l. go r y l (ℕ_discrete y u) (ℕ_discrete y v) }
  where
    go : ((x : ℕ) → x < n → Holds k index x (row_for gains blocks k x)) → (y : ℕ) → y < n → Dec (y ≡ u) → Dec (y ≡ v) → Holds k index' y (row_for gains' blocks' k y)
    go r y l (yes q) d = rw q w.first
    go r y l (no p) (yes q) = rw q w.second
    go r y l (no p) (no q) = w.others y (λ j lj. r y l j lj ∙ ap (λ m. get_or m j 0) (sym (same y l p q)))

-- what is asked of the tables when one row is put right
pub row_ok : {len gains : ℕ} {blocks : List ℕ} {n k : ℕ} (now : ℕ) → TablesOk len gains blocks n k → now ≡ len → (x : ℕ) → x < n → RowsOk now gains x k × (x < length blocks) × (get_or blocks x 0 ≤ k)
row_ok now o q x l = (
  record { x-to = omega (arith, o.n-to); k-to = o.k-to; in-index = omega (arith, o.in-index); in-gains = omega (arith, o.in-gains) },
  omega (arith, o.in_blocks),
  o.blocks_to x l,
)

-- ---- J
pub right-J : {h : Hypergraph} {cs : List Contraction} {block : ℕ → ℕ} {T T' : Tables} {u v : ℕ} {index index' : List ℕ} → Sound h cs block T → Pair T.blocks T.n u v → Joined T T' u v
    → TwoRight T'.gains T'.blocks T.n T.k u v index index' → KeepsRight T.gains T.blocks T'.gains T'.blocks T.n T.k index index'
right-J {h} {cs} {block} {u = u} {v = v} s o j w =
    let one_block : block (u + 1) ≡ block (v + 1) = sym (own_block s u o.u-in) ∙ o.together ∙ own_block s v o.v-in in
    keeps-two (λ y l nu nv. same_row u v one_block s (j.sound h cs block s) y l nu nv) w

-- ---- S: a contraction of what it leaves leads back
pub right-S : {h : Hypergraph} {cs : List Contraction} {block : ℕ → ℕ} {T T' : Tables} {u v : ℕ} {index index' : List ℕ} → Sound h (join u v ∷ cs) block T → Split T T' u v → T'.n ≡ T.n → T'.k ≡ T.k
    → TwoRight T'.gains T'.blocks T.n T.k u v index index' → KeepsRight T.gains T.blocks T'.gains T'.blocks T.n T.k index index'
right-S {h} {cs} {block} {T} {T'} {u} {v} s j qn qk w =
    let parted : ℕ → ℕ = uncontract block (join u v) in
    let stack = s.follows.says.sound in
    let before : Sound h (join u v ∷ cs) (place parted (v + 1) 0) T = subst (λ p. Sound h (join u v ∷ cs) p T) (sym (split-join h cs (join u v) stack s.inside.0 block s.placed)) s in
    let after : Sound h cs parted T' = j.sound h cs block s in
    keeps-two (λ y l nu nv. sym (subst (λ k. row_for T.gains T.blocks k y ≡ row_for T'.gains T'.blocks k y) qk
    (same_row u v (together h cs (join u v) stack s.inside.0 block) after before y (omega arith) nu nv))) w
