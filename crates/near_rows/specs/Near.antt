-- The rows that a move can change: what the functions ask of lengths, pins and blocks, and which rows are right when they are done, pin by pin and net
-- by net. Rests on index' Indexed and on search_moves' Lifting. Assumes nothing.
use Rattle.std.specs.Prelude.{ℕ, ◌+◌, ◌-◌, ◌*◌, ◌<◌, ◌≤◌, ◌≡◌, true, List, length, get_or, ℤ}
use Rattle.std.proofs.Math.Decide.{ℕ_discrete, dec_lt}
use Rattle.std.proofs.Common.{arith, sym, ap, ◌∙◌, subst}
use Rattle.index.specs.Row.{Holds, Written, RowsOk}
use Rattle.index.specs.Indexed.{row_for, TablesOk, Kept, kept-none, kept_then, kept_row}
use Rattle.incidence.specs.On.{on, Next}
use Rattle.connectivity.specs.Listed.{has, has_in, vertex_at}
use Rattle.search_moves.specs.Lifting.{NetIn}

-- ---- what the functions ask

-- the stretch lies in the table, and its pins are among the first n vertices
pub record PinsTo (n : ℕ) (pins : List ℕ) (first size : ℕ) : Type 0 where
  pub fit : first + size ≤ length pins
  pub vertices : (j : ℕ) → j < size → (1 ≤ get_or pins (first + j) 0) × (get_or pins (first + j) 0 ≤ n)

pub record NearOk (index gains counts : ℕ) (blocks bits pins firsts sizes : List ℕ) (n m k u s t : ℕ) : Type 0 where
  pub rows : TablesOk index gains blocks n k
  pub few-nets : m ≤ 1024
  pub u-in : u < n
  pub u-bits : 16 * u + 16 ≤ length bits
  pub firsts-fit : m ≤ length firsts
  pub sizes-fit : m ≤ length sizes
  pub counts-fit : 16 * m ≤ counts
  pub s-in : (1 ≤ s) × (s ≤ 16)
  pub t-in : (1 ≤ t) × (t ≤ 16)
  pub nets : (e : ℕ) → e < m → PinsTo n pins (get_or firsts e 0) (get_or sizes e 0)

-- one row may be made right
pub row-asks : {index index' gains : ℕ} {blocks : List ℕ} {n k : ℕ} → TablesOk index gains blocks n k → index' ≡ index → (x : ℕ) → x < n
    → RowsOk index' gains x k × (x < length blocks) × (get_or blocks x 0 ≤ k)
row-asks ok e x l = (
  record { x-to = omega (arith, ok.n-to); k-to = ok.k-to; in-index = omega (arith, ok.in-index); in-gains = omega (arith, ok.in-gains) },
  omega (arith, ok.in_blocks),
  ok.blocks_to x l,
)

-- the tables with another index of the same length
pub tables-as : {index index' gains : ℕ} {blocks : List ℕ} {n k : ℕ} → index' ≡ index → TablesOk index gains blocks n k → TablesOk index' gains blocks n k
tables-as e ok = rw e ok

-- both blocks of the move, for one net
pub net-in : {index gains counts : ℕ} {blocks bits pins firsts sizes : List ℕ} {n m k u s t : ℕ} → NearOk index gains counts blocks bits pins firsts sizes n m k u s t → (e : ℕ) → e < m → NetIn counts e s × NetIn counts e t
net-in {counts = counts} ok e l =
    let fit : 16 * e + 16 ≤ counts = omega (arith, ok.counts-fit) in
    let few : e < 1024 = omega (arith, ok.few-nets) in
    (record { few = few; some = ok.s-in.0; to = ok.s-in.1; fit = fit }, record { few = few; some = ok.t-in.0; to = ok.t-in.1; fit = fit })

-- ---- rows made right, and none made wrong

-- the row of x is right
abbrev pub Right : List ℤ → List ℕ → ℕ → List ℕ → ℕ → Type 0
Right gains blocks k index x = Holds k index x (row_for gains blocks k x)

-- rows that were right are right, and places that are not in use are as they were
pub record Mended (gains : List ℤ) (blocks : List ℕ) (n k : ℕ) (index index' : List ℕ) : Type 0 where
  pub kept : Kept n k index index'
  pub stays : (x : ℕ) → Right gains blocks k index x → Right gains blocks k index' x

pub mended-none : {gains : List ℤ} {blocks : List ℕ} {n k : ℕ} (index : List ℕ) → Mended gains blocks n k index index
mended-none index = record { kept = kept-none index; stays = λ x r. r }

pub mended-then : {gains : List ℤ} {blocks : List ℕ} {n k : ℕ} {a b c : List ℕ} → Mended gains blocks n k a b → Mended gains blocks n k b c → Mended gains blocks n k a c
mended-then v w = record { kept = kept_then v.kept w.kept; stays = λ x r. w.stays x (v.stays x r) }

-- one row
pub mended-row : {gains : List ℤ} {blocks : List ℕ} {n k : ℕ} {index index' : List ℕ} (x : ℕ) → k ≤ 16 → x < n → Written k index index' x (row_for gains blocks k x) → Mended gains blocks n k index index'
mended-row {gains} {blocks} {n} {k} {index} {index'} x most l w = record { kept = kept_row (row_for gains blocks k x) l w; stays = λ y r. go y r (ℕ_discrete y x) }
  where
    go : (y : ℕ) → Right gains blocks k index y → Dec (y ≡ x) → Right gains blocks k index' y
    go y r (yes q) = rw q w.here
    go y r (no q) = λ j v. w.elsewhere (16 * y + j) (λ e _. q (omega arith)) ∙ r j v

-- ---- the pins one after another

abbrev pub PinsRight : List ℤ → List ℕ → ℕ → List ℕ → List ℕ → ℕ → ℕ → Type 0
PinsRight gains blocks k index pins first size = (i : ℕ) → i < size → Right gains blocks k index (vertex_at pins first i)

module _ (gains : List ℤ) (blocks : List ℕ) (k : ℕ) (pins : List ℕ) (first : ℕ) where
  pub pins-none : (index : List ℕ) → PinsRight gains blocks k index pins first 0
  pins-none index i l = absurd (omega arith)

  pub pins-more : {n : ℕ} {index index' : List ℕ} (j x : ℕ) → x ≡ vertex_at pins first j → Mended gains blocks n k index index' → PinsRight gains blocks k index pins first j
      → Right gains blocks k index' x → PinsRight gains blocks k index' pins first (j + 1)
  pins-more {index' = index'} j x e w before here i l = by (ℕ_discrete i j)
    where
      by : Dec (i ≡ j) → Right gains blocks k index' (vertex_at pins first i)
      by (yes r) = subst (Right gains blocks k index') (e ∙ ap (vertex_at pins first) (sym r)) here
      by (no r) = w.stays (vertex_at pins first i) (before i (omega (arith, r)))

-- ---- the nets one after another

-- the rows of the pins of net e are right, where it has at most one pin in s, and where it has at most two in t
pub record NetRight (gains : List ℤ) (counts blocks pins : List ℕ) (first size e s t k : ℕ) (index : List ℕ) : Type 0 where
  pub left : get_or counts (16 * e + (s - 1)) 0 ≤ 1 → PinsRight gains blocks k index pins first size
  pub reached : get_or counts (16 * e + (t - 1)) 0 ≤ 2 → PinsRight gains blocks k index pins first size

-- it has more in both
pub net-calm : {gains : List ℤ} {counts blocks pins : List ℕ} {first size e s t k : ℕ} {index : List ℕ} → (1 < get_or counts (16 * e + (s - 1)) 0) × (2 < get_or counts (16 * e + (t - 1)) 0)
    → NetRight gains counts blocks pins first size e s t k index
net-calm c = record { left = λ l. absurd (omega (arith, c.0)); reached = λ l. absurd (omega (arith, c.1)) }

pub net-kept : {gains : List ℤ} {counts blocks pins : List ℕ} {first size e s t n k : ℕ} {index index' : List ℕ} → Mended gains blocks n k index index' → NetRight gains counts blocks pins first size e s t k index
    → NetRight gains counts blocks pins first size e s t k index'
net-kept w r = record { left = λ q i l. w.stays _ (r.left q i l); reached = λ q i l. w.stays _ (r.reached q i l) }

-- the nets of u below e have the property
abbrev pub Done : List ℕ → ℕ → (ℕ → Type 0) → ℕ → Type 0
Done bits u P e = (d : ℕ) → d < e → on bits u d ≡ 1 → P d

module _ (bits : List ℕ) (m u : ℕ) where
  -- between two nets of u there is none
  skipped : (a c : ℕ) → ((d : ℕ) → a ≤ d → d < c → on bits u d ≡ 0) → (d : ℕ) → a ≤ d → d < c → on bits u d ≡ 1 → ⊥
  skipped a c h d la lc q = omega (arith, h d la lc)

  pub done_none : (P : ℕ → Type 0) (e : ℕ) → Next bits u 0 m e → Done bits u P e
  done_none P e x d l q = absurd (skipped 0 e x.passed d (omega arith) l q)

  pub done_more : (P P' : ℕ → Type 0) (e e' : ℕ) → Next bits u (e + 1) m e' → ((d : ℕ) → P d → P' d) → Done bits u P e → P' e → Done bits u P' e'
  done_more P P' e e' x keep before here d l q = by (ℕ_discrete d e) (dec_lt d e)
    where
      by : Dec (d ≡ e) → Dec (d < e) → P' d
      by (yes r) z = subst P' (sym r) here
      by (no r) (yes z) = keep d (before d z q)
      by (no r) (no z) = absurd (skipped (e + 1) e' x.passed d (omega (arith, z, r)) l q)

-- what is done for the move of u from s to t: its row is right, and those of the pins of its nets with at most one pin in s or at most two in t
pub record NearRight (gains : List ℤ) (counts blocks pins firsts sizes bits : List ℕ) (n m k u s t : ℕ) (index index' : List ℕ) : Type 0 where
  pub mended : Mended gains blocks n k index index'
  pub own : Right gains blocks k index' u
  pub left : (e : ℕ) → e < m → on bits u e ≡ 1 → get_or counts (16 * e + (s - 1)) 0 ≤ 1 → (x : ℕ) → has pins (get_or firsts e 0) (get_or sizes e 0) x ≡ true → Right gains blocks k index' x
  pub reached : (e : ℕ) → e < m → on bits u e ≡ 1 → get_or counts (16 * e + (t - 1)) 0 ≤ 2 → (x : ℕ) → has pins (get_or firsts e 0) (get_or sizes e 0) x ≡ true → Right gains blocks k index' x

module _ (gains : List ℤ) (counts blocks pins firsts sizes bits : List ℕ) (n m k u s t : ℕ) where
  abbrev pub NetDone : List ℕ → ℕ → Type 0
  NetDone index d = NetRight gains counts blocks pins (get_or firsts d 0) (get_or sizes d 0) d s t k index

  pub nets-none : (index : List ℕ) (e : ℕ) → Next bits u 0 m e → Done bits u (NetDone index) e
  nets-none index e x = done_none bits m u (NetDone index) e x

  pub nets-more : {index index' : List ℕ} (e e' first size : ℕ) → first ≡ get_or firsts e 0 → size ≡ get_or sizes e 0 → Next bits u (e + 1) m e' → Mended gains blocks n k index index'
      → Done bits u (NetDone index) e → NetRight gains counts blocks pins first size e s t k index' → Done bits u (NetDone index') e'
  nets-more {index} {index'} e e' first size ef es x w before here = done_more bits m u (NetDone index) (NetDone index') e e' x (λ d. net-kept w) before (rw (← ef, ← es) here)

  -- all nets are done
  pub near-right : {index index' : List ℕ} (e : ℕ) → m ≤ e → Mended gains blocks n k index index' → Right gains blocks k index' u → Done bits u (NetDone index') e
      → NearRight gains counts blocks pins firsts sizes bits n m k u s t index index'
  near-right {index' = index'} e l w own done = record {
    mended = w;
    own = own;
    left = λ d ld q r x hx. pin-right d x hx ((done d (omega arith) q).left r);
    reached = λ d ld q r x hx. pin-right d x hx ((done d (omega arith) q).reached r);
  }
    where
      pin-right : (d x : ℕ) → has pins (get_or firsts d 0) (get_or sizes d 0) x ≡ true → PinsRight gains blocks k index' pins (get_or firsts d 0) (get_or sizes d 0) → Right gains blocks k index' x
      pin-right d x hx all =
          let i = has_in pins (get_or firsts d 0) (get_or sizes d 0) x hx in
          let f : vertex_at pins (get_or firsts d 0) i.0 ≡ x = omega (arith, i.2) in
          subst (Right gains blocks k index') f (all i.0 i.1)
