-- The refusals of J, M and W as the tables tell them, and that sound tables tell what the machine tells. Rests on Tables. Assumes nothing.
use Rattle.std.specs.Prelude.{ℕ, ◌+◌, ◌-◌, ◌<◌, ◌≤◌, ◌≡◌, Bool, true, false, ◌&&◌, List}
use Rattle.std.proofs.Common.{arith, sym, ◌∙◌}
use Rattle.std.proofs.Math.Path.{refl, ap, ap₂}
use Rattle.std.proofs.Math.Bool.{not, cond}
use borrow.Author.Tests.{eq-eqb, ne_eqb, leb-true, le-leb, lt-leb, not-true, not-false}
use Rattle.std.proofs.Math.Dec.{eqb, leb}
use Rattle.std.proofs.Math.ListN.{get_or}
use Rattle.laws.specs.Choice.{and_left, and_right}
use Rattle.model.specs.Catalogue.{Hypergraph, vertices, is_vertex, is_block}
use Rattle.model.specs.Measure.{Contraction, above, on_board, weight, is_fixed, block_weight, has_room}
use Rattle.model.specs.Machine.{State, refuses_j, refuses_m}
use Rattle.model.specs.Search.{refuses_w}
use Rattle.guarantees.specs.Board.{board-top}
use Rattle.guarantees.specs.Caps.{CeilingIs}
use Rattle.incidence.specs.On.{on}
use Rattle.fixed.specs.Starting.{FixedIs}
use Rattle.operations.specs.Tables.{Tables, Sound}
use Rattle.operations.specs.Move.{own_block, own-weight, in-range}

-- a number from 1 to n
abbrev pub known : ℕ → ℕ → Bool
known n u = leb 1 u && leb u n

-- the vertex is on the board: it has a block
abbrev pub here : List ℕ → ℕ → Bool
here blocks u = not (eqb (get_or blocks (u - 1) 0) 0)

-- the vertex is fixed: its bit of row 1 is set
abbrev pub marked : List ℕ → ℕ → Bool
marked fixedmarks u = eqb (on fixedmarks 1 (u - 1)) 1

-- there is room for u in t under its ceiling
abbrev pub room_in : (loads ceilings weights : List ℕ) → ℕ → ℕ → Bool
room_in loads ceilings weights u t = leb (get_or loads (t - 1) 0 + get_or weights (u - 1) 0) (get_or ceilings (t - 1) 0)

-- J: 9, 11, 10, 13
unfoldable pub refusal_j : List ℕ → ℕ → ℕ → ℕ → ℕ
refusal_j blocks n u v =
    cond (not (known n u && known n v)) 9
    (cond (eqb u v) 11
    (cond (not (here blocks u && here blocks v)) 10
    (cond (not (eqb (get_or blocks (u - 1) 0) (get_or blocks (v - 1) 0))) 13 0)))

-- M: 9, 10, 12, 20, 14
unfoldable pub refusal_m : (blocks loads ceilings fixedmarks weights : List ℕ) (n k u t : ℕ) → ℕ
refusal_m blocks loads ceilings fixedmarks weights n k u t =
    cond (not (known n u && known k t)) 9
    (cond (not (here blocks u)) 10
    (cond (eqb (get_or blocks (u - 1) 0) t) 12
    (cond (marked fixedmarks u) 20
    (cond (not (room_in loads ceilings weights u t)) 14 0))))

-- W: 9, 10
unfoldable pub refusal_w : List ℕ → ℕ → ℕ → ℕ → ℕ
refusal_w blocks n u v =
    cond (not (known n u && known n v)) 9
    (cond (not (here blocks u && here blocks v)) 10 0)

-- two choices whose tests agree, and whose later branches agree where the tests fail
pub cond-if : {b b' : Bool} (q : ℕ) {x y : ℕ} → b ≡ b' → (b' ≡ false → x ≡ y) → cond b q x ≡ cond b' q y
cond-if {b} {b'} q {x} {y} e f = ap (λ (t : Bool). cond t q x) e ∙ go b' f
  where
    go : (t : Bool) → (t ≡ false → x ≡ y) → cond t q x ≡ cond t q y
    go true f = refl
    go false f = f refl

module _ {h : Hypergraph} {cs : List Contraction} {block : ℕ → ℕ} {T : Tables} (s : Sound h cs block T) where
  pub known_is : (u : ℕ) → known T.n u ≡ is_vertex h u
  known_is u = ap (λ (n : ℕ). leb 1 u && leb u n) s.follows.says.all-vertices

  -- a known vertex's place
  pub place_of : (u : ℕ) → is_vertex h u ≡ true → (u - 1 < T.n) × (u - 1 + 1 ≡ u)
  place_of u q = omega (arith, leb-true 1 u (and_left _ _ q), leb-true u (vertices h) (and_right (leb 1 u) _ q), s.follows.says.all-vertices)

  pub block-is : (u : ℕ) → is_vertex h u ≡ true → get_or T.blocks (u - 1) 0 ≡ block u
  block-is u q = own_block s (u - 1) (place_of u q).0 ∙ ap block (place_of u q).1

  pub here-is : (u : ℕ) → is_vertex h u ≡ true → here T.blocks u ≡ on_board h cs u
  here-is u q = go (on_board h cs u) refl
    where
      p : (u - 1 < T.n) × (u - 1 + 1 ≡ u)
      p = place_of u q

      go : (b : Bool) → on_board h cs u ≡ b → here T.blocks u ≡ on_board h cs u
      go true z =
          let r = in-range s (u - 1) p.0 (ap (on_board h cs) p.1 ∙ z) in
          ap not (ne_eqb (get_or T.blocks (u - 1) 0) 0 (λ e. omega (arith, own_block s (u - 1) p.0, r.0))) ∙ sym z
      go false z =
          ap not (eq-eqb (get_or T.blocks (u - 1) 0) 0 (block-is u q ∙ (s.placed u (leb-true 1 u (and_left _ _ q)) (leb-true u (vertices h) (and_right (leb 1 u) _ q))).off z))
          ∙ sym z

  pub refusal_j-is : (st : State) → st.stack ≡ cs → st.block ≡ block → (u v : ℕ) → refusal_j T.blocks T.n u v ≡ refuses_j h st u v
  unfolding refusal_j refuses_j
  refusal_j-is st qs qb u v = rw (qs, qb) (
      cond-if {b' = not (is_vertex h u && is_vertex h v)} 9 (ap not (ap₂ (λ (x y : Bool). x && y) (known_is u) (known_is v))) (λ a.
      let ku = and_left _ _ (not-false _ a) in
      let kv = and_right (is_vertex h u) _ (not-false _ a) in
      cond-if {b = eqb u v} {b' = eqb u v} 11 refl (λ _.
      cond-if {b' = not (on_board h cs u && on_board h cs v)} 10 (ap not (ap₂ (λ (x y : Bool). x && y) (here-is u ku) (here-is v kv))) (λ _.
      ap₂ (λ (x y : ℕ). cond (not (eqb x y)) 13 0) (block-is u ku) (block-is v kv)))))

  pub refusal_w-is : (st : State) → st.stack ≡ cs → (u v : ℕ) → refusal_w T.blocks T.n u v ≡ refuses_w h st u v
  unfolding refusal_w refuses_w
  refusal_w-is st qs u v = rw qs (
      cond-if {b' = not (is_vertex h u && is_vertex h v)} 9 (ap not (ap₂ (λ (x y : Bool). x && y) (known_is u) (known_is v))) (λ a.
      ap (λ (x : Bool). cond (not x) 10 0) (ap₂ (λ (x y : Bool). x && y) (here-is u (and_left _ _ (not-false _ a))) (here-is v (and_right (is_vertex h u) _ (not-false _ a))))))

  room-is : (ceiling : ℕ → ℕ) (ceilings : List ℕ) → CeilingIs ceilings h ceiling → (u t : ℕ) → is_vertex h u ≡ true → on_board h cs u ≡ true → is_block h t ≡ true
      → room_in T.loads ceilings T.weights u t ≡ has_room h ceiling cs block u t
  unfolding has_room
  room-is ceiling ceilings c u t q on r =
      let p = place_of u q in
      let b : (t - 1 < T.k) × (t - 1 + 1 ≡ t) = omega (arith, leb-true 1 t (and_left _ _ r), leb-true t h.blocks (and_right (leb 1 t) _ r), s.follows.says.all_blocks) in
      ap (leb (get_or T.loads (t - 1) 0 + get_or T.weights (u - 1) 0)) (c t (omega (arith, b.1)) (omega (arith, b.0, b.1, s.follows.says.all_blocks)))
      ∙ ap₂ (λ (x y : ℕ). leb (x + y) (ceiling t))
      (s.bears (t - 1) b.0 ∙ ap (block_weight h cs block) b.1)
      (own-weight s (u - 1) p.0 (ap (above cs) p.1 ∙ board-top h cs u on) ∙ ap (weight h cs) p.1)

  fixed-is : (fixedmarks : List ℕ) → FixedIs fixedmarks h cs → (u : ℕ) → is_vertex h u ≡ true → marked fixedmarks u ≡ is_fixed h cs u
  fixed-is fixedmarks f u q =
      let p = place_of u q in
      f.fixed (u - 1) (omega (arith, p.0, s.follows.says.all-vertices)) ∙ ap (is_fixed h cs) p.1

  pub refusal_m-is : (ceiling : ℕ → ℕ) (ceilings fixedmarks : List ℕ) → CeilingIs ceilings h ceiling → FixedIs fixedmarks h cs → (st : State) → st.stack ≡ cs → st.block ≡ block → (u t : ℕ)
      → refusal_m T.blocks T.loads ceilings fixedmarks T.weights T.n T.k u t ≡ refuses_m h ceiling st u t
  unfolding refusal_m refuses_m
  refusal_m-is ceiling ceilings fixedmarks c f st qs qb u t = rw (qs, qb) (
      cond-if {b' = not (is_vertex h u && is_block h t)} 9 (ap not (ap₂ (λ (x y : Bool). x && y) (known_is u) (ap (λ (k : ℕ). leb 1 t && leb t k) s.follows.says.all_blocks))) (λ a.
      let ku = and_left _ _ (not-false _ a) in
      let kt = and_right (is_vertex h u) _ (not-false _ a) in
      cond-if {b' = not (on_board h cs u)} 10 (ap not (here-is u ku)) (λ o.
      cond-if {b' = eqb (block u) t} 12 (ap (λ (x : ℕ). eqb x t) (block-is u ku)) (λ _.
      cond-if {b' = is_fixed h cs u} 20 (fixed-is fixedmarks f u ku) (λ _.
      ap (λ (b : Bool). cond (not b) 14 0) (room-is ceiling ceilings c u t ku (not-false _ o) kt))))))

-- ---- the arms of the code's tests: r is what a test answered
pub known-no : (n x : ℕ) → x < 1 → false ≡ known n x
known-no n x l = sym (ap (λ (b : Bool). b && leb x n) (lt-leb 1 x l))

pub known_in : (n x : ℕ) → 1 ≤ x → leb x n ≡ known n x
known_in n x l = sym (ap (λ (b : Bool). b && leb x n) (le-leb 1 x l))

pub both-no : (a b : Bool) {r : Bool} → r ≡ a → not r ≡ true → false ≡ (a && b)
both-no a b {r} e q = sym (ap (λ (x : Bool). x && b) (sym e ∙ not-true r q))

pub both_yes : (a b : Bool) {r r' : Bool} → r ≡ a → not r ≡ false → r' ≡ b → r' ≡ (a && b)
both_yes a b {r} e q e' = e' ∙ sym (ap (λ (x : Bool). x && b) (sym e ∙ not-false r q))

-- two known numbers, from the test that they are
pub known-range : (n u k v : ℕ) {r : Bool} → r ≡ (known n u && known k v) → not r ≡ false → ((1 ≤ u) × (u ≤ n)) × ((1 ≤ v) × (v ≤ k))
known-range n u k v {r} e q =
    let y = sym e ∙ not-false r q in
    let x = and_left (known n u) (known k v) y in
    let z = and_right (known n u) (known k v) y in
    ((leb-true 1 u (and_left (leb 1 u) (leb u n) x), leb-true u n (and_right (leb 1 u) (leb u n) x)), (leb-true 1 v (and_left (leb 1 v) (leb v k) z), leb-true v k (and_right (leb 1 v) (leb v k) z)))

-- a choice by what its test answered
pub taken : (b : Bool) (x y : ℕ) → b ≡ true → x ≡ cond b x y
taken b x y q = sym (ap (λ (t : Bool). cond t x y) q)

pub left : (b : Bool) (x : ℕ) {y z : ℕ} → b ≡ false → z ≡ y → z ≡ cond b x y
left b x {y} q e = e ∙ sym (ap (λ (t : Bool). cond t x y) q)

module _ (blocks : List ℕ) (n u v : ℕ) {r : Bool} (e : r ≡ (known n u && known n v)) where
  pub join-9 : not r ≡ true → 9 ≡ refusal_j blocks n u v
  unfolding refusal_j
  join-9 q = taken (not (known n u && known n v)) 9 _ (sym (ap not e) ∙ q)

  pub join-11 : not r ≡ false → u ≡ v → 11 ≡ refusal_j blocks n u v
  unfolding refusal_j
  join-11 q w = left (not (known n u && known n v)) 9 (sym (ap not e) ∙ q) (taken (eqb u v) 11 _ (eq-eqb u v w))

  pub walk-9 : not r ≡ true → 9 ≡ refusal_w blocks n u v
  unfolding refusal_w
  walk-9 q = taken (not (known n u && known n v)) 9 _ (sym (ap not e) ∙ q)

  module _ (q : not r ≡ false) {r' : Bool} (e' : r' ≡ (here blocks u && here blocks v)) where
    pub walk-10 : not r' ≡ true → 10 ≡ refusal_w blocks n u v
    unfolding refusal_w
    walk-10 q' = left (not (known n u && known n v)) 9 (sym (ap not e) ∙ q) (taken (not (here blocks u && here blocks v)) 10 _ (sym (ap not e') ∙ q'))

    pub walk_0 : not r' ≡ false → 0 ≡ refusal_w blocks n u v
    unfolding refusal_w
    walk_0 q' = left (not (known n u && known n v)) 9 (sym (ap not e) ∙ q) (left (not (here blocks u && here blocks v)) 10 (sym (ap not e') ∙ q') refl)

    pub join-10 : (u ≡ v → ⊥) → not r' ≡ true → 10 ≡ refusal_j blocks n u v
    unfolding refusal_j
    join-10 w q' = left (not (known n u && known n v)) 9 (sym (ap not e) ∙ q) (left (eqb u v) 11 (ne_eqb u v w) (taken (not (here blocks u && here blocks v)) 10 _ (sym (ap not e') ∙ q')))

    pub join-13 : (u ≡ v → ⊥) → not r' ≡ false → (get_or blocks (u - 1) 0 ≡ get_or blocks (v - 1) 0 → ⊥) → 13 ≡ refusal_j blocks n u v
    unfolding refusal_j
    join-13 w q' d = left (not (known n u && known n v)) 9 (sym (ap not e) ∙ q) (left (eqb u v) 11 (ne_eqb u v w) (left (not (here blocks u && here blocks v)) 10 (sym (ap not e') ∙ q')
        (taken (not (eqb (get_or blocks (u - 1) 0) (get_or blocks (v - 1) 0))) 13 0 (ap not (ne_eqb (get_or blocks (u - 1) 0) (get_or blocks (v - 1) 0) d)))))

    pub join-0 : (u ≡ v → ⊥) → not r' ≡ false → get_or blocks (u - 1) 0 ≡ get_or blocks (v - 1) 0 → 0 ≡ refusal_j blocks n u v
    unfolding refusal_j
    join-0 w q' d = left (not (known n u && known n v)) 9 (sym (ap not e) ∙ q) (left (eqb u v) 11 (ne_eqb u v w) (left (not (here blocks u && here blocks v)) 10 (sym (ap not e') ∙ q')
        (left (not (eqb (get_or blocks (u - 1) 0) (get_or blocks (v - 1) 0))) 13 (ap not (eq-eqb (get_or blocks (u - 1) 0) (get_or blocks (v - 1) 0) d)) refl)))

module _ (blocks loads ceilings fixedmarks weights : List ℕ) (n k u t : ℕ) {r : Bool} (e : r ≡ (known n u && known k t)) where
  pub move-9 : not r ≡ true → 9 ≡ refusal_m blocks loads ceilings fixedmarks weights n k u t
  unfolding refusal_m
  move-9 q = taken (not (known n u && known k t)) 9 _ (sym (ap not e) ∙ q)

  module _ (q : not r ≡ false) {r' : Bool} (e' : r' ≡ here blocks u) where
    pub move-10 : not r' ≡ true → 10 ≡ refusal_m blocks loads ceilings fixedmarks weights n k u t
    unfolding refusal_m
    move-10 q' = left (not (known n u && known k t)) 9 (sym (ap not e) ∙ q) (taken (not (here blocks u)) 10 _ (sym (ap not e') ∙ q'))

    pub move-12 : not r' ≡ false → get_or blocks (u - 1) 0 ≡ t → 12 ≡ refusal_m blocks loads ceilings fixedmarks weights n k u t
    unfolding refusal_m
    move-12 q' d = left (not (known n u && known k t)) 9 (sym (ap not e) ∙ q) (left (not (here blocks u)) 10 (sym (ap not e') ∙ q') (taken (eqb (get_or blocks (u - 1) 0) t) 12 _ (eq-eqb (get_or blocks (u - 1) 0) t d)))

    module _ (q' : not r' ≡ false) (d : get_or blocks (u - 1) 0 ≡ t → ⊥) {r'' : Bool} (e'' : r'' ≡ marked fixedmarks u) where
      pub move-20 : r'' ≡ true → 20 ≡ refusal_m blocks loads ceilings fixedmarks weights n k u t
      unfolding refusal_m
      move-20 q'' = left (not (known n u && known k t)) 9 (sym (ap not e) ∙ q) (left (not (here blocks u)) 10 (sym (ap not e') ∙ q') (left (eqb (get_or blocks (u - 1) 0) t) 12 (ne_eqb (get_or blocks (u - 1) 0) t d)
          (taken (marked fixedmarks u) 20 _ (sym e'' ∙ q''))))

      module _ (q'' : r'' ≡ false) {r''' : Bool} (e''' : r''' ≡ room_in loads ceilings weights u t) where
        pub move-14 : not r''' ≡ true → 14 ≡ refusal_m blocks loads ceilings fixedmarks weights n k u t
        unfolding refusal_m
        move-14 q''' = left (not (known n u && known k t)) 9 (sym (ap not e) ∙ q) (left (not (here blocks u)) 10 (sym (ap not e') ∙ q') (left (eqb (get_or blocks (u - 1) 0) t) 12 (ne_eqb (get_or blocks (u - 1) 0) t d)
            (left (marked fixedmarks u) 20 (sym e'' ∙ q'') (taken (not (room_in loads ceilings weights u t)) 14 0 (sym (ap not e''') ∙ q''')))))

        pub move-0 : not r''' ≡ false → 0 ≡ refusal_m blocks loads ceilings fixedmarks weights n k u t
        unfolding refusal_m
        move-0 q''' = left (not (known n u && known k t)) 9 (sym (ap not e) ∙ q) (left (not (here blocks u)) 10 (sym (ap not e') ∙ q') (left (eqb (get_or blocks (u - 1) 0) t) 12 (ne_eqb (get_or blocks (u - 1) 0) t d)
            (left (marked fixedmarks u) 20 (sym e'' ∙ q'') (left (not (room_in loads ceilings weights u t)) 14 (sym (ap not e''') ∙ q''') refl))))
