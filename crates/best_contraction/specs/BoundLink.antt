-- After v is contracted into u, the rating of a vertex other than u with a later one has grown at most by what v's nets add for it; so bounds
-- raised by that are bounds again. Rests on BoundLaw, on JoinLink and on guarantees' Climbs, Weights, Calls and Fixed. Assumes nothing.
use Rattle.std.specs.Prelude.{◌≡◌, Bool, not, ◌&&◌, ◌||◌, List, ◌∷◌, ℕ, ◌+◌, ◌-◌, ◌*◌, ◌≤◌, ◌<◌, ltb, leb, get_or}
use Rattle.std.proofs.Math.Path.{refl, sym, ap}
use Rattle.std.proofs.Common.{ap₂, ◌∙◌, subst, eq-eqb, lt-ltb, ltb-true, leb-true, le-leb}
use Rattle.std.proofs.Math.Bool.{true, false, cond}
use Rattle.std.proofs.Math.Decide.{ℕ_discrete}
use native.Mathlib.Omega.{arith}
use Rattle.std.proofs.Math.Dec.{eqb}
use Rattle.laws.specs.Choice.{one, one-eqb, and_left, and_right}
use Rattle.laws.specs.Occurrence.{occ}
use Rattle.laws.specs.Place.{place, place-off}
use Rattle.laws.specs.Sum.{sum, sum-ext, sum-add, sum_mono, sum_to-change2}
use Rattle.model.specs.Catalogue.{Hypergraph, vertices, in_sale, average_weight}
use Rattle.model.specs.Measure.{Contraction, above, may_move, is_fixed, pin, size, weight, adjacent}
use Rattle.model.specs.Search.{rating, can_join}
use Rattle.guarantees.specs.Board.{board-under}
use Rattle.guarantees.specs.Climbs.{Sound, above-gone, above_other, pin-gone, pin-into, pin-other}
use Rattle.guarantees.specs.Weights.{weight-into, weight-other}
use Rattle.guarantees.specs.Ends.{may-on}
use Rattle.guarantees.specs.Fixed.{fixed-join}
use Rattle.guarantees.specs.Calls.{can-join}
use Rattle.incidence.specs.On.{on}
use Rattle.best_contraction.specs.Rating.{term_of, over, score_of}
use Rattle.best_contraction.specs.JoinLaw.{idle}
use Rattle.best_contraction.specs.JoinLink.{Linked, net, rating-sum, apart, value}
use Rattle.best_contraction.specs.Bound.{Bounded, earlier, near_rise, far_rise, rise_at, rise_of, Ready}
use Rattle.best_contraction.specs.BoundLaw.{score-small}

-- ---- one net: a, b are whether it has the two rated pins, p and q whether it has u and v; its term is t before and t' after
rise-apart : (a b p q near : Bool) (t t' d : ℕ) → ((p && q) ≡ false → t' ≡ t) → t' ≤ t + d → cond (a && b) t' 0 ≤ cond (a && b) t 0 + cond q (one a * cond near (cond p d t) (cond p d 0)) 0
rise-apart false b p q near t t' d same more = omega arith
rise-apart true false p q near t t' d same more = omega arith
rise-apart true true p false near t t' d same more = omega (arith, same (no p))
  where
    no : (p : Bool) → (p && false) ≡ false
    no true = refl
    no false = refl
rise-apart true true false true near t t' d same more = omega (arith, same refl)
rise-apart true true true true true t t' d same more = omega arith
rise-apart true true true true false t t' d same more = omega arith

rise-into : (a p q : Bool) (t t' d : ℕ) → ((p && q) ≡ false → t' ≡ t) → t' ≤ t + d → cond (a && (p || q)) t' 0 ≤ cond (a && p) t 0 + cond q (one a * cond p d t) 0
rise-into false p q t t' d same more = omega arith
rise-into true true true t t' d same more = omega arith
rise-into true true false t t' d same more = omega (arith, same refl)
rise-into true false true t t' d same more = omega (arith, same refl)
rise-into true false false t t' d same more = omega arith

both-once : (p q : Bool) → one p + one q ≡ one (p || q) + one (p && q)
both-once true true = refl
both-once true false = refl
both-once false true = refl
both-once false false = refl

tests-passed : (l a b e d w : Bool) → l ≡ true → a ≡ true → b ≡ true → e ≡ true → w ≡ true → (l && a && b && e && d && w) ≡ d
tests-passed l a b e true w ql qa qb qe qw = rw (ql, qa, qb, qe, qw) refl
tests-passed l a b e false w ql qa qb qe qw = rw (ql, qa, qb, qe) refl

-- what a pair that may be contracted is, beside what guarantees' can-join says
record Eligible (h : Hypergraph) (cs : List Contraction) (x y : ℕ) : Type 0 where
  less : x < y
  x-may : may_move h cs x ≡ true
  y-may : may_move h cs y ≡ true
  light : weight h cs x + weight h cs y ≤ average_weight h

eligible : (h : Hypergraph) (cs : List Contraction) (block : ℕ → ℕ) (x y : ℕ) → can_join h cs block x y ≡ true → Eligible h cs x y
unfolding can_join
eligible h cs block x y q =
    let fits : Bool = leb (weight h cs x + weight h cs y) (average_weight h) in
    let rest : (ltb x y && may_move h cs x && may_move h cs y && eqb (block x) (block y) && adjacent h cs x y) ≡ true = and_left _ fits q in
    let placed : (ltb x y && may_move h cs x && may_move h cs y && eqb (block x) (block y)) ≡ true = and_left _ (adjacent h cs x y) rest in
    let both : (ltb x y && may_move h cs x && may_move h cs y) ≡ true = and_left _ (eqb (block x) (block y)) placed in
    let first : (ltb x y && may_move h cs x) ≡ true = and_left _ (may_move h cs y) both in
    record {
      less = ltb-true x y (and_left _ (may_move h cs x) first);
      x-may = and_right (ltb x y) _ first;
      y-may = and_right (ltb x y && may_move h cs x) _ both;
      light = leb-true _ _ (and_right (ltb x y && may_move h cs x && may_move h cs y && eqb (block x) (block y) && adjacent h cs x y) fits q);
    }

module _ (h : Hypergraph) (cs : List Contraction) (block : ℕ → ℕ) (bits pins firsts sizes net_weights blocks weights : List ℕ) (m n limit : ℕ)
    (k : Linked h cs block bits pins firsts sizes net_weights blocks weights m n limit) where
  -- two vertices that pass all tests but that for a shared net: without one, the rating is 0
  score-open : (x y : ℕ) → 1 ≤ x → y ≤ n → x < y → may_move h cs x ≡ true → may_move h cs y ≡ true → block x ≡ block y → weight h cs x + weight h cs y ≤ average_weight h
      → score_of bits pins firsts sizes net_weights blocks weights m limit x y ≡ rating h cs x y
  unfolding can_join
  score-open x y xl yu lt may-x may-y together light =
      value h cs block bits pins firsts sizes net_weights blocks weights m n limit k x y xl (omega arith) (omega arith) yu
      ∙ ap (λ (b : Bool). cond b (rating h cs x y) 0) (tests-passed (ltb x y) (may_move h cs x) (may_move h cs y) (eqb (block x) (block y)) (adjacent h cs x y) (leb (weight h cs x + weight h cs y) (average_weight h)) (lt-ltb x y lt) may-x may-y (eq-eqb _ _ together) (le-leb _ _ light))
      ∙ go (adjacent h cs x y) refl
    where
      go : (b : Bool) → adjacent h cs x y ≡ b → cond b (rating h cs x y) 0 ≡ rating h cs x y
      go true q = refl
      go false q = sym (apart h cs block bits pins firsts sizes net_weights blocks weights m n limit k x y q)

  module _ (c : Contraction) (st : Sound (c ∷ cs)) (ul : 1 ≤ c.into) (uu : c.into ≤ n) (vl : 1 ≤ c.gone) (vu : c.gone ≤ n) where
    abbrev old : ℕ → ℕ
    old e = term_of (net h e).weight (size h cs (net h e))

    abbrev new : ℕ → ℕ
    new e = term_of (net h e).weight (size h (c ∷ cs) (net h e))

    abbrev more : ℕ → ℕ
    more e = term_of (net h e).weight (size h cs (net h e) - 1) - old e

    abbrev near : ℕ → Bool
    near x = earlier blocks c.into (get_or blocks (c.into - 1) 0) x

    -- a net that has both loses a pin
    size-join : (e : ℕ) → size h (c ∷ cs) (net h e) + one (pin cs (net h e) c.into && pin cs (net h e) c.gone) ≡ size h cs (net h e)
    unfolding size
    size-join e = omega (
      arith,
      sum_to-change2 (vertices h) c.into c.gone (λ v. one (pin (c ∷ cs) (net h e) v)) (λ v. one (pin cs (net h e) v)) ul (omega (arith, k.n-is)) vl (omega (arith, k.n-is)) st.0.two (λ j ni ng. ap one (pin-other cs c st (net h e) j ng ni)),
      ap one (pin-into cs c st (net h e)),
      ap one (pin-gone cs c st (net h e)),
      both-once (pin cs (net h e) c.into) (pin cs (net h e) c.gone),
    )

    same-term : (e : ℕ) → (pin cs (net h e) c.into && pin cs (net h e) c.gone) ≡ false → new e ≡ old e
    same-term e q =
        let z : size h (c ∷ cs) (net h e) ≡ size h cs (net h e) = omega (arith, size-join e, ap one q) in
        ap (term_of (net h e).weight) z

    more-term : (e : ℕ) → new e ≤ old e + more e
    more-term e = go (pin cs (net h e) c.into && pin cs (net h e) c.gone) refl
      where
        go : (b : Bool) → (pin cs (net h e) c.into && pin cs (net h e) c.gone) ≡ b → new e ≤ old e + more e
        go true q =
            let z : size h (c ∷ cs) (net h e) ≡ size h cs (net h e) - 1 = omega (arith, size-join e, ap one q) in
            omega (arith, ap (term_of (net h e).weight) z)
        go false q = omega (arith, same-term e q)

    -- what v's nets add for x, as model has them
    rise-is : (x : ℕ) → 1 ≤ x → x ≤ n
        → rise_of bits pins firsts sizes net_weights blocks m c.into c.gone x
        ≡ sum m (λ e. cond (pin cs (net h e) c.gone) (one (pin cs (net h e) x) * cond (near x) (cond (pin cs (net h e) c.into) (more e) (old e)) (cond (pin cs (net h e) c.into) (more e) 0)) 0)
    unfolding rise_of over
    rise-is x xl xu = sum-ext m _ _ one-net
      where
        holds : (v e : ℕ) → 1 ≤ v → v ≤ n → e < m → above cs v ≡ 0 → eqb (on bits (v - 1) e) 1 ≡ pin cs (net h e) v
        holds v e l u q o = ap (λ (z : ℕ). eqb z 1) (k.incident v e l u q (eq-eqb _ _ o)) ∙ one-eqb (pin cs (net h e) v)

        one-net : (e : ℕ) → e < m
            → cond (eqb (on bits (c.gone - 1) e) 1) (occ pins (get_or firsts e 0) (get_or sizes e 0) x
            * rise_at blocks c.into (get_or blocks (c.into - 1) 0) (near_rise (eqb (on bits (c.into - 1) e) 1) (get_or net_weights e 0) (get_or sizes e 0)) (far_rise (eqb (on bits (c.into - 1) e) 1) (get_or net_weights e 0) (get_or sizes e 0)) x) 0
            ≡ cond (pin cs (net h e) c.gone) (one (pin cs (net h e) x) * cond (near x) (cond (pin cs (net h e) c.into) (more e) (old e)) (cond (pin cs (net h e) c.into) (more e) 0)) 0
        one-net e l = rw (holds c.gone e vl vu l st.0.gone-on, holds c.into e ul uu l st.0.into-on, k.members x e xl xu l, (k.weighs e l).0, k.sized e l) refl

    -- no rating grows by more
    rating-rise : (x y : ℕ) → 1 ≤ x → x ≤ n → (x ≡ c.into → ⊥) → (x ≡ c.gone → ⊥) → (y ≡ c.gone → ⊥) → (y ≡ c.into → near x ≡ true)
        → rating h (c ∷ cs) x y ≤ rating h cs x y + rise_of bits pins firsts sizes net_weights blocks m c.into c.gone x
    rating-rise x y xl xu xi xg yg close = omega (
      arith,
      rating-sum h (c ∷ cs) m k.m-is x y,
      rating-sum h cs m k.m-is x y,
      rise-is x xl xu,
      sum-add m before added,
      sum_mono m (λ e. cond (pin (c ∷ cs) (net h e) x && pin (c ∷ cs) (net h e) y) (new e) 0) (λ e. before e + added e) (λ e _. one-net e (ℕ_discrete y c.into)),
    )
      where
        before : ℕ → ℕ
        before e = cond (pin cs (net h e) x && pin cs (net h e) y) (old e) 0

        added : ℕ → ℕ
        added e = cond (pin cs (net h e) c.gone) (one (pin cs (net h e) x) * cond (near x) (cond (pin cs (net h e) c.into) (more e) (old e)) (cond (pin cs (net h e) c.into) (more e) 0)) 0

        one-net : (e : ℕ) → Dec (y ≡ c.into) → cond (pin (c ∷ cs) (net h e) x && pin (c ∷ cs) (net h e) y) (new e) 0 ≤ before e + added e
        one-net e (no yi) = rw (pin-other cs c st (net h e) x xg xi, pin-other cs c st (net h e) y yg yi) (
            rise-apart (pin cs (net h e) x) (pin cs (net h e) y) (pin cs (net h e) c.into) (pin cs (net h e) c.gone) (near x) (old e) (new e) (more e) (same-term e) (more-term e))
        one-net e (yes yi) = rw (yi, pin-other cs c st (net h e) x xg xi, pin-into cs c st (net h e), close yi) (
            rise-into (pin cs (net h e) x) (pin cs (net h e) c.into) (pin cs (net h e) c.gone) (old e) (new e) (more e) (same-term e) (more-term e))

    module _ (bits' pins' firsts' sizes' net_weights' blocks' weights' : List ℕ) (k' : Linked h (c ∷ cs) (place block c.gone 0) bits' pins' firsts' sizes' net_weights' blocks' weights' m n limit)
        (free : is_fixed h cs c.gone ≡ false) where
      abbrev score : ℕ → ℕ → ℕ
      score = score_of bits pins firsts sizes net_weights blocks weights m limit

      abbrev score' : ℕ → ℕ → ℕ
      score' = score_of bits' pins' firsts' sizes' net_weights' blocks' weights' m limit

      may-before : (x : ℕ) → may_move h (c ∷ cs) x ≡ true → (x ≡ c.gone → ⊥) × (may_move h cs x ≡ true)
      may-before x q =
          let ne : x ≡ c.gone → ⊥ = λ z. omega (arith, above-gone cs c x (sym z), may-on h (c ∷ cs) x q) in
          (ne, ap₂ (λ (a : ℕ) (b : Bool). (eqb a 0 && in_sale h x) && not b) (sym (above_other cs c x (λ z. ne (sym z)))) (sym (fixed-join h cs c st free x)) ∙ q)

      weight-before : (x : ℕ) → (x ≡ c.gone → ⊥) → weight h cs x ≤ weight h (c ∷ cs) x
      weight-before x ng = go (ℕ_discrete x c.into)
        where
          go : Dec (x ≡ c.into) → weight h cs x ≤ weight h (c ∷ cs) x
          go (yes q) = omega (arith, ap (weight h cs) q, ap (weight h (c ∷ cs)) q, weight-into h cs c st)
          go (no q) = omega (arith, weight-other h cs c st x ng q)

      score-rise : (x y : ℕ) → 1 ≤ x → x ≤ n → 1 ≤ y → y ≤ n → (x ≡ c.into → ⊥) → score' x y ≤ score x y + rise_of bits pins firsts sizes net_weights blocks m c.into c.gone x
      score-rise x y xl xu yl yu xi = go (can_join h (c ∷ cs) (place block c.gone 0) x y) refl
        where
          is : score' x y ≡ cond (can_join h (c ∷ cs) (place block c.gone 0) x y) (rating h (c ∷ cs) x y) 0
          is = value h (c ∷ cs) (place block c.gone 0) bits' pins' firsts' sizes' net_weights' blocks' weights' m n limit k' x y xl xu yl yu

          go : (b : Bool) → can_join h (c ∷ cs) (place block c.gone 0) x y ≡ b → score' x y ≤ score x y + rise_of bits pins firsts sizes net_weights blocks m c.into c.gone x
          go false q = omega (arith, is, ap (λ (b : Bool). cond b (rating h (c ∷ cs) x y) 0) q)
          go true q =
              let j = can-join h (c ∷ cs) (place block c.gone 0) x y xl q in
              let p = eligible h (c ∷ cs) (place block c.gone 0) x y q in
              let a = may-before x p.x-may in
              let b = may-before y p.y-may in
              let together : block x ≡ block y = sym (place-off block c.gone 0 x a.0) ∙ j.1 ∙ place-off block c.gone 0 y b.0 in
              let close : y ≡ c.into → near x ≡ true = λ z. close-by a.1 b.1 together p.less z in
              omega (
                arith,
                is,
                ap (λ (b : Bool). cond b (rating h (c ∷ cs) x y) 0) q,
                score-open x y xl yu p.less a.1 b.1 together (omega (arith, p.light, weight-before x a.0, weight-before y b.0)),
                rating-rise x y xl xu xi a.0 b.0 close,
              )
            where
              close-by : may_move h cs x ≡ true → may_move h cs y ≡ true → block x ≡ block y → x < y → y ≡ c.into → near x ≡ true
              close-by may-x may-y together less z =
                  ap₂ (λ (a b : Bool). a && b) (lt-ltb x c.into (omega arith)) (eq-eqb _ _ ((k.block-is x xl xu may-x).0 ∙ together ∙ ap block z ∙ sym (k.block-is c.into ul uu (subst (λ (w : ℕ). may_move h cs w ≡ true) z may-y)).0))

      gone-score : (y : ℕ) → score' c.gone y ≡ 0
      unfolding score_of
      gone-score y = idle bits' pins' firsts' sizes' net_weights' blocks' weights' m n limit c.gone k'.tables (k'.off c.gone vl vu (board-under h (c ∷ cs) c.gone (λ z. omega (arith, st.0.real, above-gone cs c c.gone refl)))) y

      -- bounds raised for the contraction are bounds after it
      pub bounded-after : (l : List ℕ) → Ready score (rise_of bits pins firsts sizes net_weights blocks m c.into c.gone) n l c.into c.gone → Bounded score' n l
      bounded-after l r = record { len = r.len; above = λ x z xl xu zl zu. go x z xl xu zl zu (ℕ_discrete x c.into) (ℕ_discrete x c.gone) }
        where
          go : (x z : ℕ) → 1 ≤ x → x ≤ n → 1 ≤ z → z ≤ n → Dec (x ≡ c.into) → Dec (x ≡ c.gone) → score' x z ≤ get_or l x 0
          go x z xl xu zl zu (yes q) d = omega (arith, ap (λ (k : ℕ). get_or l k 0) q, r.into, score-small bits' pins' firsts' sizes' net_weights' blocks' weights' m n limit k'.tables x z)
          go x z xl xu zl zu (no p) (yes q) = omega (arith, ap (λ (k : ℕ). score' k z) q, gone-score z)
          go x z xl xu zl zu (no p) (no q) = r.other x z (score' x z) xl xu zl zu p q (score-small bits' pins' firsts' sizes' net_weights' blocks' weights' m n limit k'.tables x z) (score-rise x z xl xu zl zu p)
