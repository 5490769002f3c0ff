-- The engine's promise with the lots as records: it works on four tables of its own and the first records are then written, and that is model's `Serves` on the records'
-- fields. Rests on Fields and on model's Memory. Assumes nothing.
use Rattle.std.specs.Prelude.{ℕ, ◌*◌, ◌<◌, ◌≤◌, ◌≡◌, refl, Bool, true, false, ◌&&◌, List, map, leb, length}
use Rattle.std.proofs.Common.{lt_irrefl, arith, sym, ap, subst, ◌∙◌, leb-true, le-leb}
use Rattle.std.proofs.lemmas.List.{length-map}
use Rattle.laws.specs.Choice.{and_left, and_right}
use Rattle.model.specs.Catalogue.{Limits, vertices, fixed_entry}
use Rattle.model.specs.Measure.{above}
use Rattle.model.specs.Sale.{Sale, opened}
use Rattle.model.specs.Grammar.{Reading, unread, reading, stopped, parse}
use Rattle.model.specs.Engine.{after}
use Rattle.model.specs.Memory.{Tables, Memory, long_lists, long_tables, long_memory, Column, weight_entry, block_entry, Holds, Served, Serves, TablesLeft}
use Rattle.model.specs.Lent.{in_tables, in_records}
use Rattle.columns.specs.Entry.{lots_written}
use Rattle.records.specs.declared.Lot.{Lot}
use Rattle.records.specs.Over.{over}
use Rattle.records.specs.Fields.{bales_of, sessions_of, aboves_of, kept_of, over-column}

-- lent memory whose lots are records
abbrev pub lent_records : List ℕ → List Lot → Tables → Memory
lent_records = in_records (λ (l : Lot). l.bales) (λ (l : Lot). l.session) (λ (l : Lot). l.above) (λ (l : Lot). l.kept)

-- where lent memory is long, so is the lots' table
long-lots : (limits : Limits) (m : Memory) → long_memory limits m ≡ true → limits.vertex_limit ≤ length m.tables.weights
unfolding long_memory long_tables
long-lots limits m q = leb-true _ _ (and_left _ _ (and_left _ _ (and_left _ _ (and_left _ _ (and_left _ _ (and_left _ _ (and_left _ _ (and_left _ _ (and_right (leb 60000 (length m.output)) _ q)))))))))

-- fewer records than the limit of lots: 8, and nothing is touched
pub no_room : (limits : Limits) (file output : List ℕ) (lots : List Lot) (t : Tables) → length lots < limits.vertex_limit
    → Serves limits file (lent_records output lots t) (lent_records output lots t) 8 0
no_room limits file output lots t l = go (long_memory limits (lent_records output lots t)) refl
  where
    go : (long : Bool) → long_memory limits (lent_records output lots t) ≡ long → Served limits long (parse limits file) (lent_records output lots t) (lent_records output lots t) 8 0
    go true q = absurd (lt_irrefl (length lots) (omega (arith, l, length-map lots (λ (x : Lot). x.bales), long-lots limits (lent_records output lots t) q)))
    go false q = record { code_is = refl; nothing = refl; kept = refl }

-- tables that differ in the lots' columns alone are long alike, where these are long
same-long : (limits : Limits) (output weights blocks aboves fixed weights' blocks' aboves' fixed' : List ℕ) (t : Tables)
    → limits.vertex_limit ≤ length weights → limits.vertex_limit ≤ length blocks → limits.vertex_limit ≤ length aboves → limits.vertex_limit ≤ length fixed
    → limits.vertex_limit ≤ length weights' → limits.vertex_limit ≤ length blocks' → limits.vertex_limit ≤ length aboves' → limits.vertex_limit ≤ length fixed'
    → long_memory limits (in_tables output weights blocks aboves fixed t) ≡ long_memory limits (in_tables output weights' blocks' aboves' fixed' t)
unfolding long_memory long_tables long_lists
same-long limits output weights blocks aboves fixed weights' blocks' aboves' fixed' t w b a x w' b' a' x' = λ i.
    leb 60000 (length output)
    && (alike weights weights' w w' i && alike blocks blocks' b b' i && alike aboves aboves' a a' i && alike fixed fixed' x x' i
    && long_lists t
    && leb 16384 (length t.counts) && leb (16 * limits.vertex_limit) (length t.gains)
    && leb (16 * limits.vertex_limit) (length t.index) && leb 1024 (length t.visited))
  where
    alike : (l l' : List ℕ) → limits.vertex_limit ≤ length l → limits.vertex_limit ≤ length l' → leb limits.vertex_limit (length l) ≡ leb limits.vertex_limit (length l')
    alike l l' h h' = le-leb _ _ h ∙ sym (le-leb _ _ h')

-- the engine worked on four tables, whose records `new` are; the first n of these are written over `old`
module _ (limits : Limits) (file output output' weights blocks aboves fixed weights' blocks' aboves' fixed' : List ℕ) (t t' : Tables) (new old : List Lot) (n code written : ℕ)
    (weights-long : limits.vertex_limit ≤ length weights) (blocks-long : limits.vertex_limit ≤ length blocks) (aboves-long : limits.vertex_limit ≤ length aboves)
    (fixed-long : limits.vertex_limit ≤ length fixed) (old-long : limits.vertex_limit ≤ length old)
    (few : n ≤ limits.vertex_limit) (gathered : (bales_of new ≡ weights') × (sessions_of new ≡ blocks') × (aboves_of new ≡ aboves') × (kept_of new ≡ fixed')) where
  abbrev own : Memory
  own = in_tables output weights blocks aboves fixed t

  abbrev own' : Memory
  own' = in_tables output' weights' blocks' aboves' fixed' t'

  abbrev lent : Memory
  lent = lent_records output old t

  abbrev lent' : Memory
  lent' = lent_records output' (over n new old) t'

  long : (f : Lot → ℕ) → limits.vertex_limit ≤ length (map f old)
  long f = omega (arith, old-long, length-map old f)

  column : (f : Lot → ℕ) (before after : List ℕ) (value : ℕ → ℕ) (m : ℕ) → n ≡ m → limits.vertex_limit ≤ length before → map f new ≡ after → Column m value before after → Column m value (map f old) (map f (over n new old))
  column f before after value m e l same c =
      subst (λ (k : ℕ). Column k value before (map f new) → Column k value (map f old) (map f (over n new old))) e
      (over-column f n value before new old (omega (arith, few, l)) (omega (arith, few, old-long)))
      (subst (Column m value before) (sym same) c)

  holds : (a : Sale) → n ≡ vertices a.graph → Holds a own.tables own'.tables → Holds a lent.tables lent'.tables
  holds a e held = let h = a.graph in let s = a.state in record {
    weights = column (λ (l : Lot). l.bales) weights weights' (weight_entry h s.stack s.block) (vertices h) e weights-long gathered.0 held.weights;
    blocks = column (λ (l : Lot). l.session) blocks blocks' (block_entry h s.stack s.block) (vertices h) e blocks-long gathered.1 held.blocks;
    aboves = column (λ (l : Lot). l.above) aboves aboves' (above s.stack) (vertices h) e aboves-long gathered.2 held.aboves;
    fixed = column (λ (l : Lot). l.kept) fixed fixed' (fixed_entry h) (vertices h) e fixed-long gathered.3 held.fixed;
    loaded_pins = held.loaded_pins;
    present_pins = held.present_pins;
    firsts = held.firsts;
    loaded_sizes = held.loaded_sizes;
    present_sizes = held.present_sizes;
    counts = held.counts;
    gains = held.gains;
    index = held.index;
    visited = held.visited;
  }

  tables-left : (r : Reading) → n ≡ lots_written limits true r → TablesLeft limits r own.tables own'.tables → TablesLeft limits r lent.tables lent'.tables
  tables-left (reading k) e held = holds (after limits (opened k.graph) k.calls) e held
  tables-left (stopped q l) e held = tt
  tables-left unread e held = tt

  served : (long : Bool) (r : Reading) → n ≡ lots_written limits long r → Served limits long r own own' code written → Served limits long r lent lent' code written
  served false r e s = record {
    code_is = s.code_is;
    nothing = s.nothing;
    kept = ap (λ (k : ℕ). lent_records output' (over k new old) t') e ∙ ap (λ (m : Memory). lent_records m.output old m.tables) s.kept;
  }
  served true r e s = record { code_is = s.code_is; output = s.output; tables = tables-left r e s.tables }

  -- the engine's promise, carried over to the lent records
  pub serves-records : n ≡ lots_written limits (long_memory limits own) (parse limits file) → Serves limits file own own' code written → Serves limits file lent lent' code written
  serves-records e s =
      subst (λ (b : Bool). Served limits b (parse limits file) lent lent' code written)
      (same-long limits output weights blocks aboves fixed _ _ _ _ t weights-long blocks-long aboves-long fixed-long (long (λ (l : Lot). l.bales)) (long (λ (l : Lot). l.session)) (long (λ (l : Lot). l.above)) (long (λ (l : Lot). l.kept)))
      (served (long_memory limits own) (parse limits file) e s)
