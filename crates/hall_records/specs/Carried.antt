-- The hall's promise with the lots as records: the engine works on columns of its own, and the records of the lots known at the end are then written, each at its
-- place; that is model's `HallServes` on the records' fields. Rests on Gathered, on model's HallDemand, and on hall_guarantees for how many catalogues there are.
-- Assumes nothing.
use Rattle.std.specs.Prelude.{ℕ, ◌*◌, ◌-◌, ◌<◌, ◌≤◌, ◌≡◌, refl, Bool, true, false, cond, ◌&&◌, List, [], map, length, get_or}
use Rattle.std.proofs.Common.{lt_irrefl, arith, sym, ap, subst, ◌∙◌, leb-true, le-leb, lt-ltb, le-ltb}
use Rattle.std.proofs.Math.Dec.{leb}
use Rattle.std.proofs.lemmas.List.{length-map}
use Rattle.laws.specs.Choice.{and_left, and_right}
use Rattle.model.specs.Catalogue.{main_limits, Hypergraph, vertices, fixed_entry}
use Rattle.model.specs.Measure.{above, gain}
use Rattle.model.specs.Machine.{State}
use Rattle.model.specs.Search.{Best, none, best, best_pair}
use Rattle.model.specs.Sale.{Sale}
use Rattle.model.specs.Memory.{Tables, long_lists, long_tables, weight_entry, block_entry, Holds}
use Rattle.model.specs.Lent.{in_tables}
use Rattle.model.specs.Ready.{Found, FirstIsBest}
use Rattle.model.specs.Demand.{Standing, standing, Stands, LoadedSets}
use Rattle.model.specs.Hall.{fresh_desks}
use Rattle.model.specs.HallText.{HallBook, HallReading, hall_unread, in_catalogue, in_calls, hall_stopped, graphs, parse_hall}
use Rattle.model.specs.HallDemand.{Numbered, desks_after, desk_after, HallMemory, long_hall, DeskHolds, SetsLeft, HallLeft, HallServed, HallServes}
use Rattle.hall_guarantees.specs.Loading.{hall-opens, fresh-length}
use Rattle.hall_guarantees.specs.Half.{hall-length}
use Rattle.records.specs.declared.Lot.{Lot}
use Rattle.hall_columns.specs.Entry.{lots_written}
use Rattle.hall_records.specs.Placed.{placed}
use Rattle.model.specs.HallLent.{HallOthers, others_of, set_of_lots}
use Rattle.hall_records.specs.Lent.{hall_in_tables, lent_hall}
use Rattle.hall_records.specs.Gathered.{set-length, Gathered, set-kept, set-column}

-- the tables t, but for the lots', which are those of some records
abbrev with_lots : List Lot → Tables → Tables
with_lots lots t = (in_tables [] (map (λ (l : Lot). l.bales) lots) (map (λ (l : Lot). l.session) lots) (map (λ (l : Lot). l.above) lots) (map (λ (l : Lot). l.kept) lots) t).tables

-- ---- lengths
-- where tables are long, so are the lots'
long-weights : (t : Tables) → long_tables main_limits t ≡ true → 1024 ≤ length t.weights
unfolding long_tables
long-weights t q = leb-true 1024 _ (and_left _ _ (and_left _ _ (and_left _ _ (and_left _ _ (and_left _ _ (and_left _ _ (and_left _ _ (and_left _ _ q))))))))

-- where lent memory is long, the fourth set of records is there
long-lots : (output : List ℕ) (lots : List Lot) (t : HallOthers) → long_hall (lent_hall output lots t) ≡ true → 4096 ≤ length lots
unfolding long_hall
long-lots output lots t q =
    let m : HallMemory = lent_hall output lots t in
    let last : long_tables main_limits (m.sets 4) ≡ true = and_right (leb 60000 (length output) && long_tables main_limits (m.sets 1) && long_tables main_limits (m.sets 2) && long_tables main_limits (m.sets 3)) (long_tables main_limits (m.sets 4)) q in
    omega (arith, long-weights (m.sets 4) last, length-map (set_of_lots 4 lots) (λ (x : Lot). x.bales), set-length 4 lots)

-- fewer than 4,096 records: 8, and nothing is touched
pub no_room : (file output : List ℕ) (lots : List Lot) (t : HallOthers) → length lots < 4096 → HallServes file (lent_hall output lots t) (lent_hall output lots t) 8 0
no_room file output lots t l = go (long_hall (lent_hall output lots t)) refl
  where
    go : (long : Bool) → long_hall (lent_hall output lots t) ≡ long → HallServed long (parse_hall file) (lent_hall output lots t) (lent_hall output lots t) 8 0
    go true q = absurd (lt_irrefl (length lots) (omega (arith, l, long-lots output lots t q)))
    go false q = record { code_is = refl; nothing = refl; output = refl; sets = λ c a. refl }

-- tables that differ in the lots' columns alone are long alike, where these are long
same_tables : (weights blocks aboves fixed : List ℕ) (lots : List Lot) (t : Tables) → 1024 ≤ length weights → 1024 ≤ length blocks → 1024 ≤ length aboves → 1024 ≤ length fixed → 1024 ≤ length lots
    → long_tables main_limits (in_tables [] weights blocks aboves fixed t).tables ≡ long_tables main_limits (with_lots lots t)
unfolding long_tables long_lists
same_tables weights blocks aboves fixed lots t w b a x l = λ i.
    alike weights (λ (l : Lot). l.bales) w i && alike blocks (λ (l : Lot). l.session) b i && alike aboves (λ (l : Lot). l.above) a i && alike fixed (λ (l : Lot). l.kept) x i
    && long_lists t
    && leb 16384 (length t.counts) && leb (16 * main_limits.vertex_limit) (length t.gains)
    && leb (16 * main_limits.vertex_limit) (length t.index) && leb 1024 (length t.visited)
  where
    alike : (column : List ℕ) (f : Lot → ℕ) → 1024 ≤ length column → leb 1024 (length column) ≡ leb 1024 (length (map f lots))
    alike column f h = le-leb _ _ h ∙ sym (le-leb 1024 (length (map f lots)) (omega (arith, l, length-map lots f)))

-- ---- what the index promises names no lots' column
first-is-best : (h : Hypergraph) (s : State) (lots : List Lot) (t : Tables) → FirstIsBest h s t → FirstIsBest h s (with_lots lots t)
first-is-best h s lots t p is_open pairs = go (best_pair (vertices h) h.blocks is_open (gain h s.stack s.block)) (p is_open pairs)
  where
    go : (b : Best) → Found h s t is_open b → Found h s (with_lots lots t) is_open b
    go none f = f
    go (best v b g) f = (record { lot = f.0.lot; session = f.0.session; held = f.0.held; open-pair = f.0.open-pair; first = f.0.first }, f.1)

-- ---- the engine worked on columns, whose records `new` has; they are written over `old`
-- the columns of the four sets have 1,024 entries each
abbrev pub OfLength : List (List ℕ) → Type 0
OfLength table = (c : ℕ) → c < 4 → length (get_or table c []) ≡ 1024

module _ (file output output' : List ℕ) (weights blocks aboves fixed weights' blocks' aboves' fixed' : List (List ℕ)) (t t' : HallOthers) (counts places : List ℕ) (new old : List Lot) (n code written : ℕ)
    (weights-long : OfLength weights) (blocks-long : OfLength blocks) (aboves-long : OfLength aboves) (fixed-long : OfLength fixed) (old-long : 4096 ≤ length old)
    (g : Gathered counts weights' blocks' aboves' fixed' 4096 n places new) where
  abbrev own : HallMemory
  own = hall_in_tables output weights blocks aboves fixed t

  abbrev own' : HallMemory
  own' = hall_in_tables output' weights' blocks' aboves' fixed' t'

  abbrev lent : HallMemory
  lent = lent_hall output old t

  abbrev lent' : HallMemory
  lent' = lent_hall output' (placed n places new old) t'

  same-long : long_hall own ≡ long_hall lent
  unfolding long_hall
  same-long = λ i. leb 60000 (length output) && same 1 (omega arith) (omega arith) i && same 2 (omega arith) (omega arith) i && same 3 (omega arith) (omega arith) i && same 4 (omega arith) (omega arith) i
    where
      same : (c : ℕ) → 1 ≤ c → c ≤ 4 → long_tables main_limits (own.sets c) ≡ long_tables main_limits (lent.sets c)
      same c l h =
          same_tables _ _ _ _ (set_of_lots c old) (others_of t c) (omega (arith, weights-long (c - 1) (omega (arith, l, h)))) (omega (arith, blocks-long (c - 1) (omega (arith, l, h))))
          (omega (arith, aboves-long (c - 1) (omega (arith, l, h)))) (omega (arith, fixed-long (c - 1) (omega (arith, l, h)))) (omega (arith, l, h, old-long, set-length c old))

  -- a set that keeps what it held, and has no lot at the end
  set_same : (c : ℕ) → 1 ≤ c → (c ≤ 4 → get_or counts (c - 1) 0 ≡ 0) → own'.sets c ≡ own.sets c → lent'.sets c ≡ lent.sets c
  set_same c l z e = ap (λ (lots : List Lot). with_lots lots (own'.sets c)) (set-kept g old c l z) ∙ ap (with_lots (set_of_lots c old)) e

  holds : (c : ℕ) → 1 ≤ c → c ≤ 4 → (a : Sale) → get_or counts (c - 1) 0 ≡ vertices a.graph → Holds a (own.sets c) (own'.sets c) → Holds a (lent.sets c) (lent'.sets c)
  holds c l h a e held =
      let s = a.state in
      let inside : c - 1 < 4 = omega (arith, l, h) in record {
        weights = set-column g old old-long (λ (l : Lot). l.bales) refl weights' (λ k. refl) c (vertices a.graph) (weight_entry a.graph s.stack s.block) (get_or weights (c - 1) []) l h e (weights-long (c - 1) inside) held.weights;
        blocks = set-column g old old-long (λ (l : Lot). l.session) refl blocks' (λ k. refl) c (vertices a.graph) (block_entry a.graph s.stack s.block) (get_or blocks (c - 1) []) l h e (blocks-long (c - 1) inside) held.blocks;
        aboves = set-column g old old-long (λ (l : Lot). l.above) refl aboves' (λ k. refl) c (vertices a.graph) (above s.stack) (get_or aboves (c - 1) []) l h e (aboves-long (c - 1) inside) held.aboves;
        fixed = set-column g old old-long (λ (l : Lot). l.kept) refl fixed' (λ k. refl) c (vertices a.graph) (fixed_entry a.graph) (get_or fixed (c - 1) []) l h e (fixed-long (c - 1) inside) held.fixed;
        loaded_pins = held.loaded_pins;
        present_pins = held.present_pins;
        firsts = held.firsts;
        loaded_sizes = held.loaded_sizes;
        present_sizes = held.present_sizes;
        counts = held.counts;
        gains = held.gains;
        index = held.index;
        visited = held.visited;
      }

  desk-holds : (c : ℕ) (h : Hypergraph) (a : Sale) → DeskHolds h a (own'.sets c) → DeskHolds h a (lent'.sets c)
  desk-holds c h a d = record {
    kept-stay = d.kept-stay;
    clump-gains = d.clump-gains;
    each-pair-once = d.each-pair-once;
    first-is-best = first-is-best a.graph a.state (set_of_lots c (placed n places new old)) (own'.sets c) d.first-is-best;
    every-count = d.every-count;
  }

  -- after an accepted file
  module _ (K : HallBook) (few : length (graphs K) ≤ 4) (known : (c : ℕ) → c < 4 → get_or counts c 0 ≡ lots_written true (in_calls K) c) (s : SetsLeft K own.sets own'.sets) where
    abbrev hs : List Hypergraph
    hs = graphs K

    desk-lots : (c : ℕ) → Numbered (length hs) c → get_or counts (c - 1) 0 ≡ vertices (desk_after K.limit hs K.calls c).graph
    desk-lots c i =
        known (c - 1) (omega (arith, i.0, i.1, few))
        ∙ ap (λ (b : Bool). cond b (vertices (desk_after K.limit hs K.calls c).graph) 0) (lt-ltb (c - 1) (length hs) (omega (arith, i.0, i.1)))

    no-desk : (c : ℕ) → length hs < c → c ≤ 4 → get_or counts (c - 1) 0 ≡ 0
    no-desk c l h =
        known (c - 1) (omega (arith, l, h))
        ∙ ap (λ (b : Bool). cond b (vertices (desk_after K.limit hs K.calls c).graph) 0) (le-ltb (c - 1) (length hs) (omega (arith, l)))

    -- what stands of a catalogue, on the records
    abbrev on-records : ℕ → Standing
    on-records c = standing (lent'.sets c) (s.left c).stack (s.left c).journal

    stands : (c : ℕ) → Numbered (length hs) c → Stands (own.sets c) (desk_after K.limit hs K.calls c) (s.left c) → Stands (lent.sets c) (desk_after K.limit hs K.calls c) (on-records c)
    stands c i x = record {
      tables = holds c i.0 (omega (arith, i.1, few)) (desk_after K.limit hs K.calls c) (desk-lots c i) (subst (Holds (desk_after K.limit hs K.calls c) (own.sets c)) (sym (s.told c i)) x.tables);
      joins = x.joins;
      moves = x.moves;
    }

    unjoined : (c : ℕ) → Numbered (length hs) c → (s.left c).stack ≡ [] → LoadedSets (desk_after K.limit hs K.calls c).graph (lent'.sets c)
    unjoined c i e =
        let u = subst (LoadedSets (desk_after K.limit hs K.calls c).graph) (sym (s.told c i)) (s.demand.unjoined c i e) in
        record { as_many = u.as_many; as-often = u.as-often }

    desks : length (desks_after K.limit hs K.calls) ≡ length hs
    desks = hall-length K.limit (fresh_desks hs) K.calls ∙ fresh-length hs

    sets-left : SetsLeft K lent.sets lent'.sets
    sets-left = record {
      left = on-records;
      lines = s.lines;
      totals = s.totals;
      demand = record {
        accepted = s.demand.accepted;
        few = s.demand.few;
        leads = s.demand.leads;
        stands = λ c i. stands c (i.0, omega (arith, i.1, desks)) (s.demand.stands c i);
        unjoined = unjoined;
        answered = s.demand.answered;
        total-is = s.demand.total-is;
        machine = s.demand.machine;
      };
      told = λ c i. refl;
      holds = λ c i. desk-holds c _ _ (s.holds c i);
      kept = λ c l. set_same c (omega (arith, l)) (no-desk c l) (s.kept c l);
    }

  left_by : (r : HallReading) → parse_hall file ≡ r → ((c : ℕ) → c < 4 → get_or counts c 0 ≡ lots_written true r c) → HallLeft r own.sets own'.sets → HallLeft r lent.sets lent'.sets
  left_by (in_calls K) q known s = let o = hall-opens file K q in sets-left K (omega (arith, o.announced.few, o.all_there, length-map K.books (λ k. k.graph))) known s
  left_by (hall_stopped p l) q known s = tt
  left_by (in_catalogue K r) q known s = tt
  left_by hall_unread q known s = tt

  served : (long : Bool) → ((c : ℕ) → c < 4 → get_or counts c 0 ≡ lots_written long (parse_hall file) c) → HallServed long (parse_hall file) own own' code written → HallServed long (parse_hall file) lent lent' code written
  served false known s = record { code_is = s.code_is; nothing = s.nothing; output = s.output; sets = λ c l. set_same c l (λ u. known (c - 1) (omega (arith, l, u))) (s.sets c l) }
  served true known s = record { code_is = s.code_is; output = s.output; tables = left_by (parse_hall file) refl known s.tables }

  -- the hall's promise, carried over to the lent records
  pub serves-records : ((c : ℕ) → c < 4 → get_or counts c 0 ≡ lots_written (long_hall own) (parse_hall file) c) → HallServes file own own' code written → HallServes file lent lent' code written
  serves-records known s = subst (λ (b : Bool). HallServed b (parse_hall file) lent lent' code written) same-long (served (long_hall own) known s)
