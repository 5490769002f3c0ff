-- The lifting of peaks after a move: what its functions ask of lengths and pins, and which gains the peaks are above when they are done. Rests
-- on Peaks. Assumes nothing.
use Rattle.std.specs.Prelude.{ℕ, ◌+◌, ◌-◌, ◌*◌, ◌<◌, ◌≤◌, ◌≡◌, refl, List, length, get_or, ℤ}
use Rattle.std.proofs.Math.Decide.{ℕ_discrete, dec_lt}
use Rattle.std.proofs.Common.{arith, sym, ap, ◌∙◌, subst}
use Rattle.model.specs.Catalogue.{Hypergraph}
use Rattle.model.specs.Measure.{Contraction}
use Rattle.incidence.specs.On.{on, Next}
use Rattle.connectivity.specs.Listed.{has_in, vertex_at}
use Rattle.best_move.specs.Peak.{Under, Higher}
use Rattle.operations.specs.Tables.{Tables, Sound}
use Rattle.operations.specs.Move.{Open, own_block, here-board, in-range}
use Rattle.search_moves.specs.Peaks.{Lifted}

-- ---- what the functions ask

-- the stretch lies in the table, and its pins are vertices with a row of gains and a block
pub record PinsIn (gains blocks : ℕ) (pins : List ℕ) (first size : ℕ) : Type 0 where
  pub fit : first + size ≤ length pins
  pub vertices : (j : ℕ) → j < size → (1 ≤ get_or pins (first + j) 0) × (get_or pins (first + j) 0 ≤ 1024)
  pub in-gains : (j : ℕ) → j < size → 16 * get_or pins (first + j) 0 ≤ gains
  pub in_blocks : (j : ℕ) → j < size → get_or pins (first + j) 0 ≤ blocks

-- the net has a count for the block
pub record NetIn (counts e b : ℕ) : Type 0 where
  pub few : e < 1024
  pub some : 1 ≤ b
  pub to : b ≤ 16
  pub fit : 16 * e + 16 ≤ counts

pub record LiftOk (gains counts blocks : ℕ) (bits pins firsts sizes : List ℕ) (m k u s t : ℕ) : Type 0 where
  pub few-nets : m ≤ 1024
  pub few-blocks : k ≤ 16
  pub u-in : u < 1024
  pub u-row : 16 * (u + 1) ≤ gains
  pub u-bits : 16 * u + 16 ≤ length bits
  pub firsts-fit : m ≤ length firsts
  pub sizes-fit : m ≤ length sizes
  pub counts-fit : 16 * m ≤ counts
  pub s-in : (1 ≤ s) × (s ≤ 16)
  pub t-in : (1 ≤ t) × (t ≤ 16)
  pub nets : (e : ℕ) → e < m → PinsIn gains blocks pins (get_or firsts e 0) (get_or sizes e 0)

-- where the blocks are not read
pub pins-small : {gains blocks : ℕ} {pins : List ℕ} {first size : ℕ} → PinsIn gains blocks pins first size → PinsIn gains 1024 pins first size
pins-small p = record { fit = p.fit; vertices = p.vertices; in-gains = p.in-gains; in_blocks = λ j l. (p.vertices j l).1 }

-- both blocks of the move, for one net
pub net-in : {gains counts blocks : ℕ} {bits pins firsts sizes : List ℕ} {m k u s t : ℕ} → LiftOk gains counts blocks bits pins firsts sizes m k u s t → (e : ℕ) → e < m → NetIn counts e s × NetIn counts e t
net-in {counts = counts} ok e l =
    let fit : 16 * e + 16 ≤ counts = omega (arith, ok.counts-fit) in
    let few : e < 1024 = omega (arith, ok.few-nets) in
    (record { few = few; some = ok.s-in.0; to = ok.s-in.1; fit = fit }, record { few = few; some = ok.t-in.0; to = ok.t-in.1; fit = fit })

-- ---- what they do

-- the peaks are above all gains of the pins in block s
abbrev pub LastUnder : (gains peaks : List ℤ) (blocks pins : List ℕ) (first size s k : ℕ) → Type 0
LastUnder gains peaks blocks pins first size s k =
    (i : ℕ) → i < size → get_or blocks (vertex_at pins first i) 0 ≡ s → (b : ℕ) → b < k → Under gains peaks (vertex_at pins first i) b

-- and above the gains of all pins to block t
abbrev pub FirstUnder : (gains peaks : List ℤ) (pins : List ℕ) (first size t : ℕ) → Type 0
FirstUnder gains peaks pins first size t = (i : ℕ) → i < size → Under gains peaks (vertex_at pins first i) (t - 1)

-- the first where the net e has one pin in s, the second where it has one in t
pub record NetUnder (gains peaks : List ℤ) (counts blocks pins : List ℕ) (from size e s t k : ℕ) : Type 0 where
  pub last : get_or counts (16 * e + (s - 1)) 0 ≡ 1 → LastUnder gains peaks blocks pins from size s k
  pub first : get_or counts (16 * e + (t - 1)) 0 ≡ 1 → FirstUnder gains peaks pins from size t

-- ---- no peak has fallen

pub higher-none : (l : List ℤ) → Higher l l
higher-none l = record { len = refl; kept = λ x c q. q }

pub higher-then : {l l' l'' : List ℤ} → Higher l l' → Higher l' l'' → Higher l l''
higher-then a b = record { len = b.len ∙ a.len; kept = λ x c q. b.kept x c (a.kept x c q) }

pub under-higher : (gains : List ℤ) {l l' : List ℤ} (x b : ℕ) → Higher l l' → Under gains l x b → Under gains l' x b
under-higher gains x b a u = (a.kept _ _ u.0, a.kept _ _ u.1)

-- ---- the pins one after another

module _ (gains : List ℤ) (pins : List ℕ) (first : ℕ) where
  pub last_none : (peaks : List ℤ) (blocks : List ℕ) (s k : ℕ) → LastUnder gains peaks blocks pins first 0 s k
  last_none peaks blocks s k i l = absurd (omega arith)

  pub last_more : {peaks peaks' : List ℤ} (blocks : List ℕ) (j s k x : ℕ) → x ≡ vertex_at pins first j → Higher peaks peaks' → LastUnder gains peaks blocks pins first j s k
      → (get_or blocks x 0 ≡ s → (b : ℕ) → b < k → Under gains peaks' x b) → LastUnder gains peaks' blocks pins first (j + 1) s k
  last_more {peaks} {peaks'} blocks j s k x e a before here i l q b lb = by (ℕ_discrete i j)
    where
      by : Dec (i ≡ j) → Under gains peaks' (vertex_at pins first i) b
      by (yes r) =
          let f : x ≡ vertex_at pins first i = e ∙ ap (vertex_at pins first) (sym r) in
          subst (λ (z : ℕ). Under gains peaks' z b) f (here (ap (λ (z : ℕ). get_or blocks z 0) f ∙ q) b lb)
      by (no r) = under-higher gains (vertex_at pins first i) b a (before i (omega (arith, r)) q b lb)

  pub first-none : (peaks : List ℤ) (t : ℕ) → FirstUnder gains peaks pins first 0 t
  first-none peaks t i l = absurd (omega arith)

  pub first_more : {peaks peaks' : List ℤ} (j t x : ℕ) → x ≡ vertex_at pins first j → Higher peaks peaks' → FirstUnder gains peaks pins first j t → Under gains peaks' x (t - 1)
      → FirstUnder gains peaks' pins first (j + 1) t
  first_more {peaks} {peaks'} j t x e a before here i l = by (ℕ_discrete i j)
    where
      by : Dec (i ≡ j) → Under gains peaks' (vertex_at pins first i) (t - 1)
      by (yes r) = subst (λ (z : ℕ). Under gains peaks' z (t - 1)) (e ∙ ap (vertex_at pins first) (sym r)) here
      by (no r) = under-higher gains (vertex_at pins first i) (t - 1) a (before i (omega (arith, r)))

-- ---- the nets one after another

pub net-kept : {gains peaks peaks' : List ℤ} {counts blocks pins : List ℕ} {first size e s t k : ℕ} → Higher peaks peaks' → NetUnder gains peaks counts blocks pins first size e s t k → NetUnder gains peaks' counts blocks pins first size e s t k
net-kept {gains} a n = record {
  last = λ q i l r b lb. under-higher gains _ b a (n.last q i l r b lb);
  first = λ q i l. under-higher gains _ _ a (n.first q i l);
}

-- the nets of u below e are done
abbrev pub Done : (gains peaks : List ℤ) (counts blocks pins firsts sizes bits : List ℕ) (k u s t e : ℕ) → Type 0
Done gains peaks counts blocks pins firsts sizes bits k u s t e =
    (d : ℕ) → d < e → on bits u d ≡ 1 → NetUnder gains peaks counts blocks pins (get_or firsts d 0) (get_or sizes d 0) d s t k

module _ (gains : List ℤ) (counts blocks pins firsts sizes bits : List ℕ) (m k u s t : ℕ) where
  -- between two nets of u there is none
  skipped : (a c : ℕ) → ((d : ℕ) → a ≤ d → d < c → on bits u d ≡ 0) → (d : ℕ) → a ≤ d → d < c → on bits u d ≡ 1 → ⊥
  skipped a c h d la lc q = omega (arith, h d la lc)

  pub done_none : (peaks : List ℤ) (e : ℕ) → Next bits u 0 m e → Done gains peaks counts blocks pins firsts sizes bits k u s t e
  done_none peaks e x d l q = absurd (skipped 0 e x.passed d (omega arith) l q)

  pub done_more : {peaks peaks' : List ℤ} (e e' first size : ℕ) → first ≡ get_or firsts e 0 → size ≡ get_or sizes e 0 → Next bits u (e + 1) m e' → Higher peaks peaks'
      → Done gains peaks counts blocks pins firsts sizes bits k u s t e → NetUnder gains peaks' counts blocks pins first size e s t k → Done gains peaks' counts blocks pins firsts sizes bits k u s t e'
  done_more {peaks} {peaks'} e e' first size ef es x a before here d l q = by (ℕ_discrete d e)
    where
      at-e : NetUnder gains peaks' counts blocks pins (get_or firsts e 0) (get_or sizes e 0) e s t k
      at-e = rw (← ef, ← es) here

      below : (d ≡ e → ⊥) → d < e
      below r = go (dec_lt d e)
        where
          go : Dec (d < e) → d < e
          go (yes z) = z
          go (no z) = absurd (skipped (e + 1) e' x.passed d (omega (arith, z, r)) l q)

      by : Dec (d ≡ e) → NetUnder gains peaks' counts blocks pins (get_or firsts d 0) (get_or sizes d 0) d s t k
      by (yes r) = subst (λ (z : ℕ). NetUnder gains peaks' counts blocks pins (get_or firsts z 0) (get_or sizes z 0) z s t k) (sym r) at-e
      by (no r) = net-kept a (before d (below r) q)

  -- all nets are done
  pub lifted : {peaks peaks' : List ℤ} (e : ℕ) → m ≤ e → Higher peaks peaks' → ((b : ℕ) → b < k → Under gains peaks' u b) → Done gains peaks' counts blocks pins firsts sizes bits k u s t e
      → Lifted gains peaks peaks' counts blocks pins firsts sizes bits m k u s t
  lifted {peaks} {peaks'} e l a own done = record {
    higher = a;
    own = own;
    last = λ d ld q r x hx ox b lb.
        let i = has_in pins (get_or firsts d 0) (get_or sizes d 0) x hx in
        let f : vertex_at pins (get_or firsts d 0) i.0 ≡ x = omega (arith, i.2) in
        subst (λ (z : ℕ). Under gains peaks' z b) f ((done d (omega arith) q).last r i.0 i.1 (ap (λ (z : ℕ). get_or blocks z 0) f ∙ ox) b lb);
    first = λ d ld q r x hx.
        let i = has_in pins (get_or firsts d 0) (get_or sizes d 0) x hx in
        let f : vertex_at pins (get_or firsts d 0) i.0 ≡ x = omega (arith, i.2) in
        subst (λ (z : ℕ). Under gains peaks' z (t - 1)) f ((done d (omega arith) q).first r i.0 i.1);
  }

-- ---- sound tables meet what is asked, also when their entries have changed
module _ {h : Hypergraph} {cs : List Contraction} {block : ℕ → ℕ} {T : Tables} (s : Sound h cs block T) {u t : ℕ} (o : Open T.blocks T.n T.k u t) where
  own_in : (1 ≤ get_or T.blocks u 0) × (get_or T.blocks u 0 ≤ 16)
  own_in = (o.on, omega (arith, own_block s u o.u-in, (in-range s u o.u-in (here-board s u o.u-in o.on)).1, s.follows.world.frame.few))

  pub lift-asks : {gains counts blocks : ℕ} → gains ≡ length T.gains → counts ≡ length T.counts → blocks ≡ length T.blocks
      → LiftOk gains counts blocks T.bits T.pins T.firsts T.sizes T.m T.k u (get_or T.blocks u 0) t
  lift-asks eg ec eb =
      let f = s.follows in
      record {
        few-nets = f.room.few-nets;
        few-blocks = f.world.frame.few;
        u-in = omega (arith, o.u-in, f.room.few-vertices);
        u-row = omega (arith, o.u-in, f.world.frame.gains-fit);
        u-bits = omega (arith, o.u-in, f.room.bits_fit);
        firsts-fit = f.room.firsts-fit;
        sizes-fit = f.room.sizes-fit;
        counts-fit = omega (arith, f.world.frame.counts-fit);
        s-in = own_in;
        t-in = (o.t-in.0, omega (arith, o.t-in.1, f.world.frame.few));
        nets = λ e le.
            let net = f.world.lists.nets e le in
            record {
              fit = net.pins-fit;
              vertices = λ j lj. ((net.in-range j lj).0, omega (arith, (net.in-range j lj).1, f.room.few-vertices));
              in-gains = λ j lj. omega (arith, (net.in-range j lj).1, f.world.frame.gains-fit);
              in_blocks = λ j lj. omega (arith, (net.in-range j lj).1, f.world.lists.blocks-fit);
            };
      }
