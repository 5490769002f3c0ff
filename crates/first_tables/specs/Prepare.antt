-- The tables made blank and filled: what holds of them, and what is left alone. Rests on Clear and Fill.
use Rattle.std.specs.Prelude.{ℕ, ◌+◌, ◌*◌, ◌<◌, ◌≤◌, ◌≡◌, List, length, get_or, ℤ, pos}
use Rattle.std.proofs.Common.{◌∙◌, arith}
use Rattle.laws.specs.Choice.{one}
use Rattle.laws.specs.Bit.{bit}
use Rattle.incidence.specs.Word.{bit-of-zero}
use Rattle.incidence.specs.On.{on}
use Rattle.connectivity.specs.Listed.{has}
use Rattle.connectivity.specs.Raised.{at}
use Rattle.connectivity.specs.Matrix.{KeptGains}
use Rattle.connectivity.specs.Set.{Frame, kept-gains-trans}
use Rattle.levels.specs.World.{Lists, World}
use Rattle.first_tables.specs.Clear.{Wiped, WipedRows}
use Rattle.first_tables.specs.Fill.{Fills, Filled}

-- what `prepare` needs: whole pin lists, long enough tables, a blank bitset
pub record Prepares (weights counts visited pins blocks firsts sizes bits : List ℕ) (gains : List ℤ) (n m k : ℕ) : Type 0 where
  pub lists : Lists pins blocks firsts sizes n m k
  pub frame : Frame weights counts visited gains n m k
  pub bits_fit : 16 * n ≤ length bits
  pub bare : (x e : ℕ) → x < n → e < m → on bits x e ≡ 0

-- what it does: the tables stand for the pin lists and blocks, and no entry that is not in use has changed. Of a net in use the mask's bits
-- past the blocks are 0
pub record Prepared (weights pins blocks firsts sizes : List ℕ) (n m k : ℕ) (bits bits' cs cs' vs vs' : List ℕ) (g g' : List ℤ) : Type 0 where
  pub world : World weights cs' vs' pins blocks firsts sizes g' n m k
  pub marked : (x e : ℕ) → x < n → e < m → on bits' x e ≡ one (has pins (get_or firsts e 0) (get_or sizes e 0) x)
  pub bits-len : length bits' ≡ length bits
  pub counts-len : length cs' ≡ length cs
  pub counts_past : (e j : ℕ) → k ≤ j → j < 16 → get_or cs' (16 * e + j) 0 ≡ get_or cs (16 * e + j) 0
  pub counts-over : (i : ℕ) → 16 * m ≤ i → get_or cs' i 0 ≡ get_or cs i 0
  pub masks-len : length vs' ≡ length vs
  pub masks-past : (e j : ℕ) → e < m → k ≤ j → bit (get_or vs' e 0) j ≡ 0
  pub masks-over : (e : ℕ) → m ≤ e → get_or vs' e 0 ≡ get_or vs e 0
  pub gains : KeptGains n k g g'

module _ {weights cs₀ vs₀ pins blocks firsts sizes bits₀ : List ℕ} {g₀ : List ℤ} {n m k : ℕ} (o : Prepares weights cs₀ vs₀ pins blocks firsts sizes bits₀ g₀ n m k)
    {cs vs : List ℕ} {g : List ℤ} (c : WipedRows 0 m k cs₀ cs) (v : Wiped 0 0 m vs₀ vs) (w : WipedRows (pos 0) n k g₀ g) where
  mask-zero : (e : ℕ) → e < m → get_or vs e 0 ≡ 0
  mask-zero e l = let z : 0 + e ≡ e = omega arith in rw z at (v.inside e l)

  pub prepare-fills : Fills weights cs vs pins blocks firsts sizes bits₀ g n m k
  prepare-fills = record {
    lists = o.lists;
    frame = record {
      counts-fit = omega (arith, o.frame.counts-fit, c.len);
      masks-fit = omega (arith, o.frame.masks-fit, v.len);
      gains-fit = omega (arith, o.frame.gains-fit, w.len);
      weights-fit = o.frame.weights-fit;
      few = o.frame.few;
      few-nets = o.frame.few-nets;
      few-vertices = o.frame.few-vertices;
      weight = o.frame.weight;
    };
    blank = record {
      counts-none = c.inside;
      masks-none = λ e j l u. bit-of-zero (get_or vs e 0) j (mask-zero e l);
      gains-none = w.inside;
    };
    bits_fit = o.bits_fit;
    bare = o.bare;
  }

  pub prepared : {cs' vs' bits' : List ℕ} {g' : List ℤ} → Filled weights pins blocks firsts sizes n m k bits₀ bits' cs cs' vs vs' g g' → Prepared weights pins blocks firsts sizes n m k bits₀ bits' cs₀ cs' vs₀ vs' g₀ g'
  prepared t = record {
    world = t.world;
    marked = t.marked;
    bits-len = t.bits-len;
    counts-len = t.kept.of-tally.counts-len ∙ c.len;
    counts_past = λ e j l u. t.kept.of-tally.counts_past e j l u ∙ c.past e j l u;
    counts-over = λ i l. t.kept.of-tally.counts-over i l ∙ c.over i l;
    masks-len = t.kept.of-tally.masks-len ∙ v.len;
    masks-past = λ e j l u. t.kept.of-tally.masks-past e j u ∙ bit-of-zero (get_or vs e 0) j (mask-zero e l);
    masks-over = λ e l. t.kept.of-tally.masks-over e l ∙ v.outside e (λ q. omega arith);
    gains = kept-gains-trans (record { gains-len = w.len; gains-past = w.past; gains-over = λ y j l u. w.over (16 * y + j) (omega arith) }) t.kept.of-gains;
  }
