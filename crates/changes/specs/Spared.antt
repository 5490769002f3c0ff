-- What an accepted X or N makes of the entries that are not in use: they stand as they stood, or hold 0 behind the last mark. Rests on Stands. Assumes
-- nothing.
use Rattle.std.specs.Prelude.{ℕ, ◌+◌, ◌*◌, ◌-◌, ◌<◌, ◌≤◌, ◌≡◌, List, length, get_or, set}
use Rattle.std.proofs.Common.{arith, ap, ◌∙◌, get_or-set_other}
use Rattle.model.specs.Catalogue.{Hypergraph}
use Rattle.index.specs.Indexed.{Kept}
use Rattle.connectivity.specs.Matrix.{KeptGains}
use Rattle.operations.specs.Tables.{Tables}
use Rattle.reopening.specs.Reopening.{Reopens, pins-behind}
use Rattle.reopening.specs.Reopening.{pins-past as reopened-past}
use Rattle.change_rules.specs.Lot.{LotSet}
use Rattle.changes.specs.Stands.{Renewed}

-- entries from a place on
abbrev pub Same : ℕ → List ℕ → List ℕ → Type 0
Same n l l' = (i : ℕ) → n ≤ i → get_or l' i 0 ≡ get_or l i 0

-- zeros behind the last mark, up to the 8,192nd place
abbrev pub Zeros : ℕ → List ℕ → Type 0
Zeros marks l = (i : ℕ) → marks ≤ i → i < 8192 → get_or l i 0 ≡ 0

-- the entries past those in use stand as they stood, the places of both mark tables behind the last mark hold 0 up to the 8,192nd, and each table is as
-- long as before
pub record Spared (marks : ℕ) (T T' : Tables) (fixed fixed' index index' pins pins' : List ℕ) : Type 0 where
  pub weights-past : Same T'.n T.weights T'.weights
  pub blocks-past : Same T'.n T.blocks T'.blocks
  pub aboves-past : Same T'.n T.aboves T'.aboves
  pub fixed-past : Same T'.n fixed fixed'
  pub counts_past : (e j : ℕ) → T.k ≤ j → j < 16 → get_or T'.counts (16 * e + j) 0 ≡ get_or T.counts (16 * e + j) 0
  pub counts-over : Same (16 * T.m) T.counts T'.counts
  pub masks-over : Same T.m T.visited T'.visited
  pub gains-kept : KeptGains T'.n T.k T.gains T'.gains
  pub index_kept : Kept T'.n T.k index index'
  pub pins-zero : Zeros marks T'.pins
  pub pins-past : Same 8192 T.pins T'.pins
  pub sizes-past : Same T.m T.sizes T'.sizes
  pub loaded-zero : Zeros marks pins'
  pub loaded-past : Same 8192 pins pins'
  pub firsts-past : Same T.m T.firsts T'.firsts
  pub loadedsizes-past : Same T.m T.loaded T'.loaded
  pub weights-len : length T'.weights ≡ length T.weights
  pub blocks-len : length T'.blocks ≡ length T.blocks
  pub aboves-len : length T'.aboves ≡ length T.aboves
  pub fixed-len : length fixed' ≡ length fixed
  pub counts-len : length T'.counts ≡ length T.counts
  pub masks-len : length T'.visited ≡ length T.visited
  pub pins-len : length T'.pins ≡ length T.pins
  pub sizes-len : length T'.sizes ≡ length T.sizes
  pub loaded-len : length pins' ≡ length pins
  pub firsts-len : length T'.firsts ≡ length T.firsts
  pub loadedsizes-len : length T'.loaded ≡ length T.loaded

-- a column with one place set
set_past : (l l' : List ℕ) (at x n : ℕ) → l' ≡ set l at x → at < n → Same n l l'
set_past l l' at x n e q i u = ap (λ (r : List ℕ). get_or r i 0) e ∙ get_or-set_other l at i x 0 (λ z. omega arith)

module _ {T T' : Tables} {fixed fixed' index index' pins pins' : List ℕ} {v bales session marks : ℕ} (vl : 1 ≤ v) (vn : v ≤ T'.n)
    (c : LotSet (v - 1) bales session T.weights T'.weights T.blocks T'.blocks T.aboves T'.aboves fixed fixed')
    (r : Renewed pins' T'.loaded T.pins T'.pins T.sizes T'.sizes T'.blocks T'.firsts T'.weights T.net_weights T'.n T.m T.k marks
    T.bits T'.bits T.counts T'.counts T.visited T'.visited T.gains T'.gains T'.loads index index' T'.total)
    {h : Hypergraph} (a : Reopens h pins' T'.loaded T.pins T.sizes T'.blocks T'.firsts T'.weights T.net_weights T.bits T.counts T.visited T.gains T'.n T.m T.k marks)
    (zero : Zeros marks pins') (past : Same 8192 pins pins') (pins-len : length pins' ≡ length pins) (firsts-len : length T'.firsts ≡ length T.firsts) (sizes-len : length T'.loaded ≡ length T.loaded)
    (firsts-past : Same T.m T.firsts T'.firsts) (sizes-past : Same T.m T.loaded T'.loaded) where
  pub spared : Spared marks T T' fixed fixed' index index' pins pins'
  spared = let o = r.reopened in record {
    weights-past = set_past T.weights T'.weights (v - 1) bales T'.n c.weights-are (omega arith);
    blocks-past = set_past T.blocks T'.blocks (v - 1) session T'.n c.blocks-are (omega arith);
    aboves-past = set_past T.aboves T'.aboves (v - 1) 0 T'.n c.aboves-are (omega arith);
    fixed-past = set_past fixed fixed' (v - 1) 0 T'.n c.fixed-are (omega arith);
    counts_past = o.prepared.counts_past;
    counts-over = o.prepared.counts-over;
    masks-over = o.prepared.masks-over;
    gains-kept = o.prepared.gains;
    index_kept = r.indexed.kept;
    pins-zero = λ i l u. pins-behind a o.ordered i l u ∙ zero i l u;
    pins-past = λ i l. reopened-past a o.ordered i l;
    sizes-past = λ i l. o.copied-sizes.behind i l;
    loaded-zero = zero;
    loaded-past = past;
    firsts-past = firsts-past;
    loadedsizes-past = sizes-past;
    weights-len = c.weights-len;
    blocks-len = c.blocks-len;
    aboves-len = c.aboves-len;
    fixed-len = c.fixed-len;
    counts-len = o.prepared.counts-len;
    masks-len = o.prepared.masks-len;
    pins-len = o.ordered.len;
    sizes-len = o.copied-sizes.len;
    loaded-len = pins-len;
    firsts-len = firsts-len;
    loadedsizes-len = sizes-len;
  }
