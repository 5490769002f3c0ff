-- The best pair to contract by the tables is the pair that model contracts, where the tables hold its state. Rests on RatingLaw, JoinLaw,
-- JoinPair and guarantees' Tops. Assumes nothing.
use Rattle.std.specs.Prelude.{◌≡◌, Bool, false, ◌&&◌, get_or}
use Rattle.std.proofs.Math.Path.{refl, sym, ap, ap₂}
use Rattle.std.proofs.Common.{◌∙◌, mul-one, mul-zero, one-mul, le-div_iff_mul-le, arith, ne_eqb, lt-ltb, le-ltb, ltb-true}
use Rattle.std.proofs.Math.Bool.{true, not, and-false, cond}
use mathlib.Core.List.{List, []}
use Prim.Native.Nat.{ℕ, ◌+◌, ◌-◌, ◌*◌, ◌/◌, ◌≤◌, ◌<◌}
use Rattle.std.proofs.Math.Decide.{dec_lt}
use Rattle.std.proofs.Math.Dec.{eqb, ltb, leb}
use Rattle.std.proofs.Math.IntN.{pos}
use Rattle.std.proofs.Math.ListN.{length}
use Rattle.laws.specs.Choice.{one, one-eqb, eqb-sym, and_left, and_right}
use Rattle.laws.specs.Fold.{any_at, any-not}
use Rattle.laws.specs.Occurrence.{occ}
use Rattle.laws.specs.Sum.{sum, sum-ext, sum-nil, sum-list, term-le, sum_to-two, count_to-le}
use Rattle.model.specs.Catalogue.{Net, Hypergraph, vertices, average_weight}
use Rattle.model.specs.Measure.{Contraction, is_top, on_board, may_move, is_fixed, pin, size, weight, adjacent}
use Rattle.model.specs.Search.{best_pair, rating, can_join, join_best}
use Rattle.guarantees.specs.Tops.{best_pair-ext}
use Rattle.incidence.specs.On.{on}
use Rattle.best_contraction.specs.Rating.{fits, term_of, over, row_of, score_of, TablesOk}
use Rattle.best_contraction.specs.JoinLaw.{idle}
use Rattle.best_contraction.specs.JoinPair.{BestJoin, joinable, scored, join-open}
use Rattle.best_contraction.specs.declared.join.Join.{Join}

-- the net of place e
abbrev pub net : Hypergraph → ℕ → Net
net h e = get_or h.nets e (record { weight = 0; pins = [] })

-- the tables hold a state of the machine. In `blocks`, by which pairs are chosen, a vertex off the board has none, and a fixed vertex has one of
-- its own, where it has no partner
pub record Linked (h : Hypergraph) (cs : List Contraction) (block : ℕ → ℕ) (bits pins firsts sizes net_weights blocks weights : List ℕ) (m n limit : ℕ) : Type 0 where
  pub tables : TablesOk bits pins firsts sizes net_weights blocks m n
  pub n-is : n ≡ vertices h
  pub m-is : m ≡ length h.nets
  pub limit_is : limit ≡ average_weight h
  pub block-is : (v : ℕ) → 1 ≤ v → v ≤ n → may_move h cs v ≡ true → (get_or blocks (v - 1) 0 ≡ block v) × (1 ≤ block v)
  pub off : (v : ℕ) → 1 ≤ v → v ≤ n → on_board h cs v ≡ false → get_or blocks (v - 1) 0 ≡ 0
  pub alone : (v z : ℕ) → 1 ≤ v → v ≤ n → 1 ≤ z → z ≤ n → is_fixed h cs v ≡ true → get_or blocks (z - 1) 0 ≡ get_or blocks (v - 1) 0 → z ≡ v
  pub weight_is : (v : ℕ) → 1 ≤ v → v ≤ n → is_top cs v ≡ true → get_or weights (v - 1) 0 ≡ weight h cs v
  pub incident : (v e : ℕ) → 1 ≤ v → v ≤ n → e < m → is_top cs v ≡ true → on bits (v - 1) e ≡ one (pin cs (net h e) v)
  pub members : (v e : ℕ) → 1 ≤ v → v ≤ n → e < m → occ pins (get_or firsts e 0) (get_or sizes e 0) v ≡ one (pin cs (net h e) v)
  pub sized : (e : ℕ) → e < m → get_or sizes e 0 ≡ size h cs (net h e)
  pub weighs : (e : ℕ) → e < m → (get_or net_weights e 0 ≡ (net h e).weight) × (1 ≤ (net h e).weight)

-- a rating, net by net
pub rating-sum : (h : Hypergraph) (cs : List Contraction) (m : ℕ) → m ≡ length h.nets → (u v : ℕ) → rating h cs u v ≡ sum m (λ e. cond (pin cs (net h e) u && pin cs (net h e) v) (term_of (net h e).weight (size h cs (net h e))) 0)
unfolding rating
rating-sum h cs m q u v = sym (sum-list h.nets (record { weight = 0; pins = [] }) _) ∙ ap (λ (z : ℕ). sum z (λ e. cond (pin cs (net h e) u && pin cs (net h e) v) (term_of (net h e).weight (size h cs (net h e))) 0)) (sym q)

-- ---- the tests

both-pins : (a b : Bool) (t : ℕ) → cond a (t * one b) 0 ≡ cond (a && b) t 0
both-pins true true t = mul-one t
both-pins true false t = mul-zero t
both-pins false b t = refl

-- the tests in the code's order and in the model's
tests : (l e d w : Bool) (r : ℕ) → (d ≡ false → r ≡ 0) → cond (l && e && w) r 0 ≡ cond (l && true && true && e && d && w) r 0
tests false e d w r z = refl
tests true false d w r z = refl
tests true true true w r z = refl
tests true true false true r z = z refl
tests true true false false r z = refl

module _ (h : Hypergraph) (cs : List Contraction) (block : ℕ → ℕ) (bits pins firsts sizes net_weights blocks weights : List ℕ) (m n limit : ℕ)
    (k : Linked h cs block bits pins firsts sizes net_weights blocks weights m n limit) where
  abbrev row : ℕ → ℕ → ℕ
  row u = row_of bits pins firsts sizes net_weights u m

  abbrev term : ℕ → ℕ
  term e = 5040 * (net h e).weight / (size h cs (net h e) - 1)

  rating-is : (u v : ℕ) → rating h cs u v ≡ sum m (λ e. cond (pin cs (net h e) u && pin cs (net h e) v) (term e) 0)
  rating-is = rating-sum h cs m k.m-is

  row_is : (u v : ℕ) → 1 ≤ u → u ≤ n → 1 ≤ v → v ≤ n → is_top cs u ≡ true → row u v ≡ rating h cs u v
  unfolding over
  row_is u v ul uu vl vu on-u = sum-ext m _ _ one-net ∙ sym (rating-is u v)
    where
      one-net : (e : ℕ) → e < m → cond (eqb (on bits (u - 1) e) 1) (term_of (get_or net_weights e 0) (get_or sizes e 0) * occ pins (get_or firsts e 0) (get_or sizes e 0) v) 0
          ≡ cond (pin cs (net h e) u && pin cs (net h e) v) (term e) 0
      one-net e l =
          ap₂ (λ (b : Bool) (z : ℕ). cond b z 0)
          (ap (λ (z : ℕ). eqb z 1) (k.incident u e ul uu l on-u) ∙ one-eqb (pin cs (net h e) u))
          (ap₂ (λ (a b : ℕ). a * b) (ap₂ (λ (a b : ℕ). 5040 * a / (b - 1)) (k.weighs e l).0 (k.sized e l)) (k.members v e vl vu l))
          ∙ both-pins (pin cs (net h e) u) (pin cs (net h e) v) (term e)

  -- no shared net, no rating
  pub apart : (u v : ℕ) → adjacent h cs u v ≡ false → rating h cs u v ≡ 0
  unfolding adjacent
  apart u v q = rating-is u v ∙ sum-nil m _ (λ e l. ap (λ (b : Bool). cond b (term e) 0) (any-not h.nets (record { weight = 0; pins = [] }) _ q e (omega (arith, k.m-is))))

  term-pos : (e u v : ℕ) → e < m → 1 ≤ u → u ≤ n → 1 ≤ v → v ≤ n → (u ≡ v → ⊥) → pin cs (net h e) u ≡ true → pin cs (net h e) v ≡ true → 1 ≤ term e
  unfolding size
  term-pos e u v l ul uu vl vu ne pu pv = go (size h cs (net h e)) least most
    where
      least : 2 ≤ size h cs (net h e)
      least = omega (arith, sum_to-two (vertices h) u v (λ w. one (pin cs (net h e) w)) ul (omega (arith, k.n-is)) vl (omega (arith, k.n-is)) ne, ap one pu, ap one pv)

      most : size h cs (net h e) ≤ 1024
      most = omega (arith, count_to-le (vertices h) (λ w. pin cs (net h e) w), k.n-is, k.tables.vertices)

      go : (s : ℕ) → 2 ≤ s → s ≤ 1024 → 1 ≤ 5040 * (net h e).weight / (s - 1)
      go s a b = (le-div_iff_mul-le {k = s - 1} {x = 1} {y = 5040 * (net h e).weight} (omega arith)).1 (omega (arith, one-mul (s - 1), (k.weighs e l).1))

  -- a shared net rates at least 1
  shared : (u v : ℕ) → 1 ≤ u → u ≤ n → 1 ≤ v → v ≤ n → (u ≡ v → ⊥) → adjacent h cs u v ≡ true → 1 ≤ rating h cs u v
  unfolding adjacent
  shared u v ul uu vl vu ne q = go (any_at h.nets (record { weight = 0; pins = [] }) (λ e. pin cs e u && pin cs e v) q)
    where
      go : (e : ℕ) × (e < length h.nets) × ((pin cs (net h e) u && pin cs (net h e) v) ≡ true) → 1 ≤ rating h cs u v
      go r =
          let e : ℕ = r.0 in
          let l : e < m = omega (arith, r.1, k.m-is) in
          let pu : pin cs (net h e) u ≡ true = and_left (pin cs (net h e) u) (pin cs (net h e) v) r.2 in
          let pv : pin cs (net h e) v ≡ true = and_right (pin cs (net h e) u) (pin cs (net h e) v) r.2 in
          let t : 1 ≤ term e = term-pos e u v l ul uu vl vu ne pu pv in
          omega (arith, rating-is u v, term-le m e (λ e. cond (pin cs (net h e) u && pin cs (net h e) v) (term e) 0) l, ap (λ (b : Bool). cond b (term e) 0) r.2)

  abbrev light-enough : ℕ → ℕ → Bool
  light-enough u v = leb (get_or weights (u - 1) 0 + get_or weights (v - 1) 0) limit

  abbrev test : ℕ → ℕ → Bool
  test u = fits blocks weights u (get_or blocks (u - 1) 0) (get_or weights (u - 1) 0) limit

  -- both may be contracted
  value-may : (u v : ℕ) → 1 ≤ u → u ≤ n → 1 ≤ v → v ≤ n → may_move h cs u ≡ true → may_move h cs v ≡ true → cond (test u v) (row u v) 0 ≡ cond (can_join h cs block u v) (rating h cs u v) 0
  unfolding can_join
  value-may u v ul uu vl vu may-u may-v =
      ap₂ (λ (b : Bool) (z : ℕ). cond b z 0) (ap₂ (λ (b w : Bool). ltb u v && b && w) same_block same-light-enough) (row_is u v ul uu vl vu (and_left _ _ (and_left _ _ may-u)))
      ∙ tests (ltb u v) (eqb (block u) (block v)) (adjacent h cs u v) (leb (weight h cs u + weight h cs v) (average_weight h)) (rating h cs u v) (apart u v)
      ∙ sym (ap₂ (λ (a b : Bool). cond (ltb u v && a && b && eqb (block u) (block v) && adjacent h cs u v && leb (weight h cs u + weight h cs v) (average_weight h)) (rating h cs u v) 0) may-u may-v)
    where
      same_block : eqb (get_or blocks (v - 1) 0) (get_or blocks (u - 1) 0) ≡ eqb (block u) (block v)
      same_block = ap₂ (λ (a b : ℕ). eqb a b) (k.block-is v vl vu may-v).0 (k.block-is u ul uu may-u).0 ∙ eqb-sym (block v) (block u)

      same-light-enough : light-enough u v ≡ leb (weight h cs u + weight h cs v) (average_weight h)
      same-light-enough = ap₂ (λ (a b : ℕ). leb a b) (ap₂ (λ (a b : ℕ). a + b) (k.weight_is u ul uu (and_left _ _ (and_left _ _ may-u))) (k.weight_is v vl vu (and_left _ _ (and_left _ _ may-v)))) k.limit_is

  -- one of them may not
  shut-first : (u v : ℕ) → may_move h cs u ≡ false → can_join h cs block u v ≡ false
  unfolding can_join
  shut-first u v q = ap (λ (a : Bool). a && may_move h cs v && eqb (block u) (block v) && adjacent h cs u v && leb (weight h cs u + weight h cs v) (average_weight h)) (ap (λ (a : Bool). ltb u v && a) q ∙ and-false (ltb u v))

  shut-second : (u v : ℕ) → may_move h cs v ≡ false → can_join h cs block u v ≡ false
  unfolding can_join
  shut-second u v q = ap (λ (a : Bool). a && eqb (block u) (block v) && adjacent h cs u v && leb (weight h cs u + weight h cs v) (average_weight h)) (ap (λ (a : Bool). ltb u v && may_move h cs u && a) q ∙ and-false (ltb u v && may_move h cs u))

  closed : (u v : ℕ) → can_join h cs block u v ≡ false → 0 ≡ cond (can_join h cs block u v) (rating h cs u v) 0
  closed u v q = sym (ap (λ (b : Bool). cond b (rating h cs u v) 0) q)

  -- two of different blocks
  unlike : (u v : ℕ) → (u < v → get_or blocks (v - 1) 0 ≡ get_or blocks (u - 1) 0 → ⊥) → cond (test u v) (row u v) 0 ≡ 0
  unlike u v ne = ap (λ (b : Bool). cond (b && light-enough u v) (row u v) 0) (far (dec_lt u v))
    where
      far : Dec (u < v) → (ltb u v && eqb (get_or blocks (v - 1) 0) (get_or blocks (u - 1) 0)) ≡ false
      far (yes l) = ap (λ (b : Bool). ltb u v && b) (ne_eqb _ _ (ne l)) ∙ and-false (ltb u v)
      far (no l) = ap (λ (b : Bool). b && eqb (get_or blocks (v - 1) 0) (get_or blocks (u - 1) 0)) (le-ltb u v (omega arith))

  pub value : (u v : ℕ) → 1 ≤ u → u ≤ n → 1 ≤ v → v ≤ n → score_of bits pins firsts sizes net_weights blocks weights m limit u v ≡ cond (can_join h cs block u v) (rating h cs u v) 0
  unfolding score_of
  value u v ul uu vl vu = go (on_board h cs u) refl (is_fixed h cs u) refl (on_board h cs v) refl (is_fixed h cs v) refl
    where
      may : (x : ℕ) {a f : Bool} → on_board h cs x ≡ a → is_fixed h cs x ≡ f → may_move h cs x ≡ (a && not f)
      may x p q = ap₂ (λ (a f : Bool). a && not f) p q

      go : (a : Bool) → on_board h cs u ≡ a → (f : Bool) → is_fixed h cs u ≡ f → (b : Bool) → on_board h cs v ≡ b → (g : Bool) → is_fixed h cs v ≡ g → cond (test u v) (row u v) 0 ≡ cond (can_join h cs block u v) (rating h cs u v) 0
      go false p f pf b q g qf = idle bits pins firsts sizes net_weights blocks weights m n limit u k.tables (k.off u ul uu p) v ∙ closed u v (shut-first u v (may u p refl))
      go true p true pf b q g qf = unlike u v (λ l e. omega (arith, k.alone u v ul uu vl vu pf e)) ∙ closed u v (shut-first u v (may u p pf))
      go true p false pf false q g qf = unlike u v (λ l e. omega (arith, k.off v vl vu q, k.block-is u ul uu (may u p pf))) ∙ closed u v (shut-second u v (may v q refl))
      go true p false pf true q true qf = unlike u v (λ l e. omega (arith, k.alone v u vl vu ul uu qf (sym e))) ∙ closed u v (shut-second u v (may v q qf))
      go true p false pf true q false qf = value-may u v ul uu vl vu (may u p pf) (may v q qf)

  parts : (u v : ℕ) → can_join h cs block u v ≡ true → (u < v) × (adjacent h cs u v ≡ true)
  unfolding can_join
  parts u v q =
      let d : (ltb u v && may_move h cs u && may_move h cs v && eqb (block u) (block v) && adjacent h cs u v) ≡ true = and_left _ (leb (weight h cs u + weight h cs v) (average_weight h)) q in
      let c : (ltb u v && may_move h cs u && may_move h cs v && eqb (block u) (block v)) ≡ true = and_left _ (adjacent h cs u v) d in
      (ltb-true u v (and_left _ (may_move h cs u) (and_left _ (may_move h cs v) (and_left _ (eqb (block u) (block v)) c))), and_right (ltb u v && may_move h cs u && may_move h cs v && eqb (block u) (block v)) _ d)

  -- a pair may be joined where its score is not 0
  may-is : (u v : ℕ) → 1 ≤ u → u ≤ n → 1 ≤ v → v ≤ n → joinable (score_of bits pins firsts sizes net_weights blocks weights m limit) u v ≡ can_join h cs block u v
  may-is u v ul uu vl vu = ap (λ (s : ℕ). ltb 0 s) (value u v ul uu vl vu) ∙ go (can_join h cs block u v) refl
    where
      go : (b : Bool) → can_join h cs block u v ≡ b → ltb 0 (cond b (rating h cs u v) 0) ≡ b
      go true q = lt-ltb 0 (rating h cs u v) (shared u v ul uu vl vu (λ e. omega (arith, (parts u v q).0)) (parts u v q).1)
      go false q = le-ltb 0 0 (omega arith)

  worth-is : (u v : ℕ) → 1 ≤ u → u ≤ n → 1 ≤ v → v ≤ n → joinable (score_of bits pins firsts sizes net_weights blocks weights m limit) u v ≡ true
      → scored (score_of bits pins firsts sizes net_weights blocks weights m limit) u v ≡ pos (rating h cs u v)
  worth-is u v ul uu vl vu q = ap pos (value u v ul uu vl vu ∙ ap (λ (b : Bool). cond b (rating h cs u v) 0) (sym (may-is u v ul uu vl vu) ∙ q))

  -- what `best_join` answers is the pair that the model joins
  pub join_is : best_pair n n (joinable (score_of bits pins firsts sizes net_weights blocks weights m limit)) (scored (score_of bits pins firsts sizes net_weights blocks weights m limit)) ≡ join_best h cs block
  unfolding join_best
  join_is =
      best_pair-ext (joinable (score_of bits pins firsts sizes net_weights blocks weights m limit)) (can_join h cs block) (scored (score_of bits pins firsts sizes net_weights blocks weights m limit)) (λ u v. pos (rating h cs u v)) n n may-is worth-is
      ∙ ap (λ (z : ℕ). best_pair z z (can_join h cs block) (λ u v. pos (rating h cs u v))) k.n-is

  pub join-may : (r : Join) → BestJoin (score_of bits pins firsts sizes net_weights blocks weights m limit) n r → 1 ≤ r.rating → can_join h cs block r.into r.gone ≡ true
  join-may r b l =
      let i = b.within l in
      sym (may-is r.into r.gone i.0 i.1 i.2 i.3) ∙ join-open (score_of bits pins firsts sizes net_weights blocks weights m limit) n r b l
