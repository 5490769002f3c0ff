-- Entries of lent memory that a catalogue has no use for: what they hold, against what they held before loading. They keep it, but for the places of the
-- mark tables past the last mark once an X or N has been accepted. Rests on model's Memory, loader, first_tables and operations. Assumes nothing.
use Rattle.std.specs.Prelude.{ℕ, ◌+◌, ◌*◌, ◌<◌, ◌≤◌, ◌≡◌, refl, Bool, true, false, cond, ◌⊎◌, List, [], ltb, length, get_or, ℤ}
use Rattle.std.proofs.Math.Decide.{dec_lt}
use Rattle.std.proofs.Common.{arith, sym, ap, ◌∙◌, inl, inr, ⊎_elim}
use Rattle.std.proofs.Math.ListN.{get_or-eq_default}
use Rattle.model.specs.Catalogue.{Hypergraph, vertices}
use Rattle.model.specs.Memory.{Tables as MemoryTables, Filled, all_pins, past_marks}
use Rattle.model.specs.Lent.{Lists, lists}
use Rattle.index.specs.Indexed.{Kept, kept_then}
use Rattle.connectivity.specs.Matrix.{KeptGains}
use Rattle.connectivity.specs.Set.{kept-gains-trans}
use Rattle.operations.specs.Tables.{Tables as CallTables, tables, Past, Keeps}
use Rattle.first_tables.specs.Prepare.{Prepared}
use Rattle.loader.specs.Tables.{Started}
use Rattle.loader.proofs.Fill.{filled-out}

-- the lent tables as a running sale has them; who is fixed, the loaded pins and the index stand beside its tables
abbrev pub memory_of : CallTables → List ℕ → List ℕ → List ℕ → MemoryTables
memory_of T fixed loaded_pins index = record {
  weights = T.weights;
  blocks = T.blocks;
  aboves = T.aboves;
  fixed = fixed;
  loaded_pins = loaded_pins;
  present_pins = T.pins;
  firsts = T.firsts;
  loaded_sizes = T.loaded;
  present_sizes = T.sizes;
  counts = T.counts;
  gains = T.gains;
  index = index;
  visited = T.visited;
}

-- a mark table past the last mark
pub record PastPins (changed : Bool) (marks : ℕ) (old new : List ℕ) : Type 0 where
  pub len : length new ≡ length old
  pub past : (i : ℕ) → marks ≤ i → i < length old → get_or new i 0 ≡ past_marks changed old i

-- n lots, m buyers and k sessions are in use, and so many marks
pub record Unused (changed : Bool) (n m k marks : ℕ) (old new : MemoryTables) : Type 0 where
  pub weights : Past n old.weights new.weights
  pub blocks : Past n old.blocks new.blocks
  pub aboves : Past n old.aboves new.aboves
  pub fixed : Past n old.fixed new.fixed
  pub loaded_pins : PastPins changed marks old.loaded_pins new.loaded_pins
  pub present_pins : PastPins changed marks old.present_pins new.present_pins
  pub firsts : Past m old.firsts new.firsts
  pub loaded_sizes : Past m old.loaded_sizes new.loaded_sizes
  pub present_sizes : Past m old.present_sizes new.present_sizes
  pub counts-len : length new.counts ≡ length old.counts
  pub counts : (e j : ℕ) → j < 16 → (m ≤ e) ⊎ (k ≤ j) → get_or new.counts (16 * e + j) 0 ≡ get_or old.counts (16 * e + j) 0
  pub gains : KeptGains n k old.gains new.gains
  pub index : Kept n k old.index new.index
  pub visited : Past m old.visited new.visited

pub past-then : {n : ℕ} {a b c : List ℕ} → Past n a b → Past n b c → Past n a c
past-then p q = record { len = q.len ∙ p.len; past = λ i l. q.past i l ∙ p.past i l }

-- ---- after loading
-- entries that loading did not fill
past-filled : {n : ℕ} {value : ℕ → ℕ} {old new : List ℕ} → Filled 0 (λ i. ltb i n) value old new → Past n old new
past-filled {n} {value} {old} {new} f = record { len = f.as_long; past = λ i l. go i l (dec_lt i (length old)) }
  where
    go : (i : ℕ) → n ≤ i → Dec (i < length old) → get_or new i 0 ≡ get_or old i 0
    go i l (yes u) = filled-out n value old new f i l u
    go i l (no u) = get_or-eq_default new 0 (omega (arith, f.as_long)) ∙ sym (get_or-eq_default old 0 (omega arith))

-- and that opening the sale did not fill
pub unused-opened : {h : Hypergraph} {old : MemoryTables} {new : Lists} {nw bits₀ bits counts visited index : List ℕ} {gains : List ℤ} {n m k : ℕ} (loads : List ℕ) (total : ℕ)
    → Started h (lists old.weights old.blocks old.aboves old.fixed old.loaded_pins old.present_pins old.firsts old.loaded_sizes old.present_sizes) new
    → Prepared nw new.present_pins new.blocks new.firsts new.present_sizes n m k bits₀ bits old.counts counts old.visited visited old.gains gains
    → Kept n k old.index index → n ≡ vertices h → m ≡ length h.nets
    → Unused false n m k (length (all_pins h.nets)) old
    (memory_of (tables counts visited gains new.present_pins new.present_sizes bits new.blocks new.weights new.aboves loads nw new.firsts new.loaded_sizes n m k total) new.fixed new.loaded_pins index)
unfolding past_marks
unused-opened {h} {old} {new} {n = n} {m = m} loads total s p r qn qm = record {
  weights = rw qn (past-filled s.weights);
  blocks = rw qn (past-filled s.blocks);
  aboves = rw qn (past-filled s.aboves);
  fixed = rw qn (past-filled s.fixed);
  loaded_pins = record { len = s.loaded_pins.as_long; past = λ i l u. filled-out (length (all_pins h.nets)) (λ i. get_or (all_pins h.nets) i 0) old.loaded_pins new.loaded_pins s.loaded_pins i l u };
  present_pins = record { len = s.present_pins.as_long; past = s.present_pins.past };
  firsts = rw qm (past-filled s.firsts);
  loaded_sizes = rw qm (past-filled s.loaded_sizes);
  present_sizes = rw qm (past-filled s.present_sizes);
  counts-len = p.counts-len;
  counts = λ e j u. ⊎_elim (λ l. p.counts-over (16 * e + j) (omega arith)) (λ l. p.counts_past e j l u);
  gains = p.gains;
  index = r;
  visited = record { len = p.masks-len; past = p.masks-over };
}

-- ---- after a call of the machine
pub unused-runs : {changed : Bool} {marks : ℕ} {old : MemoryTables} {T T' : CallTables} {fixed pins index index' : List ℕ} → Unused changed T.n T.m T.k marks old (memory_of T fixed pins index)
    → Keeps T T' → Kept T.n T.k index index' → T'.firsts ≡ T.firsts → T'.loaded ≡ T.loaded → ((e : ℕ) → e < T.m → get_or T.firsts e 0 + get_or T.loaded e 0 ≤ marks)
    → Unused changed T.n T.m T.k marks old (memory_of T' fixed pins index')
unused-runs {marks = marks} {T = T} u keeps r f l ends = let t = keeps.running in record {
  weights = past-then u.weights keeps.weights;
  blocks = past-then u.blocks (record { len = t.blocks-len; past = t.blocks-past });
  aboves = past-then u.aboves keeps.aboves;
  fixed = u.fixed;
  loaded_pins = u.loaded_pins;
  present_pins = record {
    len = t.lists.pins-len ∙ u.present_pins.len;
    past = λ i a b. t.lists.pins-past i (λ e le. inr (omega (arith, ends e le))) ∙ u.present_pins.past i a b;
  };
  firsts = rw f u.firsts;
  loaded_sizes = rw l u.loaded_sizes;
  present_sizes = past-then u.present_sizes (record { len = t.lists.sizes-len; past = t.lists.sizes-past });
  counts-len = t.tables.of-tally.counts-len ∙ u.counts-len;
  counts = λ e j b o. ⊎_elim (λ q. t.tables.of-tally.counts-over (16 * e + j) (omega arith)) (λ q. t.tables.of-tally.counts_past e j q b) o ∙ u.counts e j b o;
  gains = kept-gains-trans u.gains t.tables.of-gains;
  index = kept_then u.index r;
  visited = past-then u.visited (record { len = t.tables.of-tally.masks-len; past = t.tables.of-tally.masks-over });
}
