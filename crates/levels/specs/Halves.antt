-- The halves of a gain over all nets: what `halves` needs and finds, and the laws of its loop. Rests on Reading and Operations.
use Rattle.std.specs.Prelude.{ℕ, ◌+◌, ◌*◌, ◌-◌, ◌<◌, ◌≤◌, ◌≡◌, Bool, ◌&&◌, List, eqb, get_or, ℤ, pos, ◌-ℤ◌}
use native.Mathlib.Omega.{arith}
use Rattle.std.proofs.Math.Path.{refl, sym, ap}
use Rattle.std.proofs.Common.{ap₂, ◌∙◌}
use Rattle.std.proofs.Math.Bool.{true, false, cond}
use Rattle.laws.specs.Choice.{one, cond-le}
use Rattle.laws.specs.Sum.{sum, sum-zero, sum_step, sum-skip, sum-ext, sum_mono, sum-const}
use Rattle.laws.specs.Fold.{sum_over}
use Rattle.model.specs.Catalogue.{Net, Hypergraph}
use Rattle.model.specs.Measure.{Contraction, above, pin, pin_count, freed, drawn, gain}
use Rattle.guarantees.specs.Moves.{gain-away}
use Rattle.incidence.specs.On.{on, Next}
use Rattle.connectivity.specs.Raised.{at}
use Rattle.connectivity.specs.Share.{when, when-le}
use Rattle.levels.specs.Running.{Running, running, Follows, net_at}
use Rattle.levels.specs.Reading.{reads, has-pin, sum-nets}
use Rattle.levels.specs.Operations.{marked-on}

-- the tables follow a state in which u is on the board in a block; and t is a block
pub record HalvesOf (h : Hypergraph) (cs : List Contraction) (block : ℕ → ℕ) (T : Running) (n m k u t : ℕ) : Type 0 where
  pub loaded : List ℕ
  pub follows : Follows h cs block loaded T n m k
  pub on-board : above cs (u + 1) ≡ 0
  pub u-in : u < n
  pub own_in : (1 ≤ block (u + 1)) × (block (u + 1) ≤ k)
  pub t-in : (1 ≤ t) × (t ≤ k)

-- what `halves` needs: counts, bitset, blocks and nets' weights of such tables, whatever the other tables are
pub record HalvesNeeds (counts bits blocks weights : List ℕ) (m u t : ℕ) : Type 0 where
  pub h : Hypergraph
  pub cs : List Contraction
  pub block : ℕ → ℕ
  pub visited : List ℕ
  pub gains : List ℤ
  pub pins : List ℕ
  pub sizes : List ℕ
  pub firsts : List ℕ
  pub n : ℕ
  pub k : ℕ
  pub of : HalvesOf h cs block (running counts visited gains pins sizes bits blocks weights firsts) n m k u t

-- what it finds: whatever state the tables follow, f and d are the weights that the move of u to t frees and newly draws in; and the gain
-- table's entry, which is kept by changes, is their difference
pub record HalvesFound (counts bits blocks weights : List ℕ) (m u t f d : ℕ) : Type 0 where
  pub are : (h : Hypergraph) (cs : List Contraction) (block : ℕ → ℕ) (visited : List ℕ) (gains : List ℤ) (pins sizes firsts : List ℕ) (n k : ℕ)
      → HalvesOf h cs block (running counts visited gains pins sizes bits blocks weights firsts) n m k u t → (f ≡ freed h cs block (u + 1)) × (d ≡ drawn h cs block (u + 1) t)
  pub kept : (h : Hypergraph) (cs : List Contraction) (block : ℕ → ℕ) (visited : List ℕ) (gains : List ℤ) (pins sizes firsts : List ℕ) (n k : ℕ)
      → HalvesOf h cs block (running counts visited gains pins sizes bits blocks weights firsts) n m k u t → (block (u + 1) ≡ t → ⊥) → at gains (16 * u + (t - 1)) ≡ pos f -ℤ pos d

-- ---- the loop over the nets of u
module _ (counts weights bits : List ℕ) (u b want : ℕ) where
  abbrev given : ℕ → ℕ
  given e = cond (eqb (on bits u e) 1) (when (get_or counts (16 * e + b) 0) want (get_or weights e 0)) 0

  -- the weights of those of the first i nets that have u and whose count at the place b is `want`
  unfoldable pub gathered : ℕ → ℕ
  gathered i = sum i given

  passed-by : (e : ℕ) → on bits u e ≡ 0 → given e ≡ 0
  passed-by e q = ap (λ (z : ℕ). cond (eqb z 1) (when (get_or counts (16 * e + b) 0) want (get_or weights e 0)) 0) q

  pub gathered_none : {m e : ℕ} → Next bits u 0 m e → 0 ≡ gathered e
  unfolding gathered
  gathered_none {e = e} w = sym (sum-skip 0 e given w.low (λ i l r. passed-by i (w.passed i l r)) ∙ sum-zero given)

  pub gathered-more : (i : ℕ) {m e g s : ℕ} → on bits u i ≡ 1 → g ≡ gathered i → s ≡ when (get_or counts (16 * i + b) 0) want (get_or weights i 0) → Next bits u (i + 1) m e → g + s ≡ gathered e
  unfolding gathered
  gathered-more i {e = e} found q r w =
      let here : given i ≡ when (get_or counts (16 * i + b) 0) want (get_or weights i 0) = ap (λ (z : ℕ). cond (eqb z 1) (when (get_or counts (16 * i + b) 0) want (get_or weights i 0)) 0) found in
      omega (arith, q, r, here, sum_step i given, sum-skip (i + 1) e given w.low (λ j l h. passed-by j (w.passed j l h)))

  gathered-le : (i : ℕ) {m : ℕ} → i ≤ m → ((e : ℕ) → e < m → get_or weights e 0 ≤ 1000) → gathered i ≤ 1000 * i
  unfolding gathered
  gathered-le i l small = omega (
    arith,
    sum-const i 1000,
    sum_mono i given (λ _. 1000) (λ e h. cond-le (eqb (on bits u e) 1) (when (get_or counts (16 * e + b) 0) want (get_or weights e 0)) 1000 (omega (arith, when-le (get_or counts (16 * e + b) 0) want (get_or weights e 0), small e (omega arith)))),
  )

  -- the sum with the net i is small
  pub gathered-fits : (i : ℕ) {m g s : ℕ} → i < m → m ≤ 1024 → ((e : ℕ) → e < m → get_or weights e 0 ≤ 1000) → g ≡ gathered i → s ≡ when (get_or counts (16 * i + b) 0) want (get_or weights i 0) → g + s ≤ 1024000
  gathered-fits i l few small q r = omega (arith, q, r, gathered-le i (omega arith) small, when-le (get_or counts (16 * i + b) 0) want (get_or weights i 0), small i l)

-- ---- the sums are the machine's
module _ {h : Hypergraph} {cs : List Contraction} {block : ℕ → ℕ} {T : Running} {n m k u t : ℕ} (o : HalvesOf h cs block T n m k u t) where
  -- the weight of a net that has u, if its count in the block p is `want`
  abbrev weighed : ℕ → ℕ → Net → ℕ
  weighed p want e = cond (pin cs e (u + 1) && eqb (pin_count h cs block e p) want) e.weight 0

  gathered-is : (b p want : ℕ) → b + 1 ≡ p → b < k → gathered T.counts T.weights T.bits u b want m ≡ sum_over h.nets (weighed p want)
  unfolding gathered when
  gathered-is b p want q l = sum-ext m _ (λ e. weighed p want (net_at h e)) each ∙ sum-nets h m (weighed p want) o.follows.says.all-nets
    where
      chosen : (x c : Bool) (w : ℕ) → cond (eqb (one x) 1) (cond c w 0) 0 ≡ cond (x && c) w 0
      chosen true c w = refl
      chosen false c w = refl

      each : (e : ℕ) → e < m → cond (eqb (on T.bits u e) 1) (cond (eqb (get_or T.counts (16 * e + b) 0) want) (get_or T.weights e 0) 0) 0 ≡ weighed p want (net_at h e)
      each e le =
          let marked : on T.bits u e ≡ one (pin cs (net_at h e) (u + 1)) = marked-on o.follows u o.u-in o.on-board e le ∙ ap one (has-pin o.follows.says e le u) in
          let counted : get_or T.counts (16 * e + b) 0 ≡ pin_count h cs block (net_at h e) p = (reads o.follows).counted e b le l ∙ ap (pin_count h cs block (net_at h e)) q in
          rw (marked, counted, o.follows.says.weighs e le) (chosen (pin cs (net_at h e) (u + 1)) (eqb (pin_count h cs block (net_at h e) p) want) (net_at h e).weight)

  freed-is : gathered T.counts T.weights T.bits u (get_or T.blocks u 0 - 1) 1 m ≡ freed h cs block (u + 1)
  unfolding freed
  freed-is = gathered-is (get_or T.blocks u 0 - 1) (block (u + 1)) 1 (omega (arith, o.follows.says.sits u o.u-in, o.own_in)) (omega (arith, o.follows.says.sits u o.u-in, o.own_in))

  drawn-is : gathered T.counts T.weights T.bits u (t - 1) 0 m ≡ drawn h cs block (u + 1) t
  unfolding drawn
  drawn-is = gathered-is (t - 1) t 0 (omega (arith, o.t-in)) (omega (arith, o.t-in))

  kept-is : (block (u + 1) ≡ t → ⊥) → at T.gains (16 * u + (t - 1)) ≡ pos (freed h cs block (u + 1)) -ℤ pos (drawn h cs block (u + 1) t)
  kept-is away =
      let e : t - 1 + 1 ≡ t = omega (arith, o.t-in) in
      (reads o.follows).gained u (t - 1) o.u-in (omega (arith, o.t-in))
      ∙ ap (gain h cs block (u + 1)) e
      ∙ gain-away h cs block (u + 1) t (omega arith) (omega (arith, o.u-in, o.follows.says.all-vertices)) away

-- all nets have been passed
pub halves-done : {counts bits blocks weights : List ℕ} {m u t e from f d : ℕ} → e ≡ m → from ≡ get_or blocks u 0 - 1 → f ≡ gathered counts weights bits u from 1 e → d ≡ gathered counts weights bits u (t - 1) 0 e → HalvesFound counts bits blocks weights m u t f d
halves-done {counts} {bits} {blocks} {weights} {m} {u} {t} {f = f} {d = d} q own fs ds = record {
  are = λ h cs block visited gains pins sizes firsts n k o. (first ∙ freed-is o, second ∙ drawn-is o);
  kept = λ h cs block visited gains pins sizes firsts n k o away. kept-is o away ∙ sym (ap₂ (λ (x y : ℕ). pos x -ℤ pos y) (first ∙ freed-is o) (second ∙ drawn-is o));
}
  where
    first : f ≡ gathered counts weights bits u (get_or blocks u 0 - 1) 1 m
    first = rw (q, own) at fs

    second : d ≡ gathered counts weights bits u (t - 1) 0 m
    second = rw q at ds
