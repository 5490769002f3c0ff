-- A hall's file in model's terms: the closing reports behind the answers of an accepted one, or the line of a refused one. Rests on Sold, hall_closing and
-- hall_guarantees. Assumes nothing.
use Rattle.std.specs.Prelude.{ℕ, ◌+◌, ◌-◌, ◌<◌, ◌≤◌, ◌≡◌, refl, Bool, true, false, cond, List, [], ◌∷◌, ◌++◌, ltb, get_or, set, replicate}
use Rattle.std.proofs.Math.Decide.{ℕ_discrete}
use Rattle.std.proofs.Common.{arith, sym, ◌∙◌, ltb-true, ltb-false, length-set, get_or-set_same, get_or-set_other}
use Rattle.std.proofs.Math.Path.{ap, subst}
use Rattle.std.proofs.Math.ListN.{length}
use Rattle.std.proofs.lemmas.List.{length-replicate, get_or-replicate}
use Rattle.laws.specs.Fold.{zeros-get}
use Rattle.model.specs.Catalogue.{main_limits, vertices}
use Rattle.model.specs.Measure.{Contraction}
use Rattle.model.specs.Sale.{Sale}
use Rattle.model.specs.Report.{digits, row}
use Rattle.model.specs.Memory.{Tables}
use Rattle.model.specs.Lent.{stack_of, journal_of}
use Rattle.model.specs.Demand.{Standing, standing, Stands, LoadedSets}
use Rattle.model.specs.Hall.{no_desk, desk_of, hall_answers, fresh_desks, closings, hall_run}
use Rattle.model.specs.HallText.{HallBook, HallReading, hall_unread, in_catalogue, in_calls, hall_stopped, graphs, parse_hall, hall_outcome, hall_engine}
use Rattle.model.specs.HallDemand.{Numbered, AllLed, desks_after, HallMemory, SetsLeft, HallWorked}
use Rattle.hall_guarantees.specs.Half.{hall-length, hall-half}
use Rattle.hall_guarantees.specs.Promises.{desk-holds}
use Rattle.hall_guarantees.specs.Fits.{hall-refused-in, hall-engine-fits}
use Rattle.fields.specs.Wrote.{Wrote}
use Rattle.fields.proofs.Laws.{wrote-length, wrote-append}
use Rattle.operations.specs.Tables.{Sound}
use Rattle.loader.specs.declared.Sizes.{Sizes}
use Rattle.memory.specs.Unused.{Unused}
use Rattle.memory.specs.Held.{held}
use Rattle.memory.specs.Unjoined.{loaded-sets}
use Rattle.call_list.specs.declared.course.Course.{Course}
use Rattle.call_list.specs.Point.{Point, lent_at}
use Rattle.sale.specs.Files.{Long}
use Rattle.sale.specs.Reported.{written_all}
use Rattle.hall_step.specs.Sets.{Own, set_of, point_in}
use Rattle.hall_led.specs.declared.Terms.{Terms}
use Rattle.hall_led.specs.Others.{no_course}
use Rattle.hall_led.specs.Desks.{no_terms, DeskStands}
use Rattle.hall_closing.specs.Closings.{EndedIn, goes-ended, Close, CanCloseSets}
use Rattle.hall_loader.specs.Sets.{Set as LoaderSet, Sets as LoaderSets, set_of as loader_set}
use Rattle.std.specs.Prelude.{Result, Ok, Err}
use Rattle.refusal.specs.declared.Refused.{Refused}
use Rattle.refusal.specs.Number.{number_of}
use Rattle.hall_loader.specs.declared.HallLoaded.{HallLoaded}
use Rattle.hall_loader.specs.Books.{no_sizes}
use Rattle.hall_loader.specs.HallFile.{hall_seen, HallLoads}
use Rattle.model.specs.HallLent.{HallTables, tables_of, hall_memory}
use Rattle.hall_file.specs.Views.{loaded_in, sets_in, tables_with, held_in, Four}
use Rattle.hall_file.specs.Loaded.{HallCatalogued, book_of, hs, opens, accepted, catalogues, desks, few}
use Rattle.hall_file.specs.Sold.{terms_of, terms_in, terms-in, HallSold, report-fits}

-- ---- the lots of a hall
-- how many lots of the catalogue c, the first being 0, are known after an accepted file's calls; none where there is no such catalogue or the file is turned down
abbrev pub lots_known : HallReading → ℕ → ℕ
lots_known (in_calls K) c = cond (ltb c (length (graphs K))) (vertices (get_or (desks_after K.limit (graphs K) K.calls) c no_desk).graph) 0
lots_known (hall_stopped q n) c = 0
lots_known (in_catalogue K r) c = 0
lots_known hall_unread c = 0

-- what the code keeps of it
pub record LotsAre (r : HallReading) (lots : List ℕ) : Type 0 where
  pub each : (c : ℕ) → c < 4 → get_or lots c 0 ≡ lots_known r c

-- the loop over the catalogues: the first c are told
pub record LotsTo (courses : List Course) (c : ℕ) (lots : List ℕ) : Type 0 where
  pub len : length lots ≡ 4
  pub used : (d : ℕ) → d < c → get_or lots d 0 ≡ (get_or courses d no_course).n
  pub none : (d : ℕ) → c ≤ d → get_or lots d 0 ≡ 0

pub lots-start : (courses : List Course) → LotsTo courses 0 (replicate 4 0)
lots-start courses = record { len = length-replicate {A = ℕ} 4 0; used = λ d l. absurd (omega arith); none = λ d l. zeros-get 4 d }

pub lots-more : {courses : List Course} {c : ℕ} {lots : List ℕ} → c < 4 → LotsTo courses c lots → LotsTo courses (c + 1) (set lots c (get_or courses c no_course).n)
lots-more {courses} {c} {lots} l t = record {
  len = length-set lots c (get_or courses c no_course).n ∙ t.len;
  used = λ d u. go d u (ℕ_discrete d c);
  none = λ d u. get_or-set_other lots c d (get_or courses c no_course).n 0 (λ e. omega (arith, e, u)) ∙ t.none d (omega (arith, u));
}
  where
    go : (d : ℕ) → d < c + 1 → Dec (d ≡ c) → get_or (set lots c (get_or courses c no_course).n) d 0 ≡ (get_or courses d no_course).n
    go d u (yes e) = ap (λ (i : ℕ). get_or (set lots c (get_or courses c no_course).n) i 0) e ∙ get_or-set_same lots c (get_or courses c no_course).n 0 (omega (arith, l, t.len)) ∙ ap (λ (i : ℕ). (get_or courses i no_course).n) (sym e)
    go d u (no n) = get_or-set_other lots c d (get_or courses c no_course).n 0 n ∙ t.used d (omega (arith, u, n))

-- ---- lengths
-- four sets, each table of its length, and the output
pub record LongHall (out : List ℕ) (T : HallTables) : Type 0 where
  pub four : Four T
  pub long : (c : ℕ) → c < 4 → Long main_limits out (loader_set c (loaded_in T [] [])).lists (get_or T.counts c []) (get_or T.gains c []) (get_or T.index c []) (get_or T.visited c [])
  pub spacious : 60000 ≤ length out

-- ---- one desk at the end
-- what stands of it
abbrev stood_by : Tables → Course → Standing
stood_by t course = standing t (stack_of course.stack.into course.stack.gone course.stack.len) (journal_of course.journal.vertices course.journal.blocks course.journal.len)

module _ {a : Sale} {old : Tables} {Y : Own} {netweights : List ℕ} {t : Terms} {course : Course} (d : DeskStands a old Y netweights t course) where
  abbrev point : Point
  point = point_in Y netweights t.frame.m t.frame.k course

  pub desk-end : Stands old a (stood_by (lent_at point) course)
  desk-end = let w = d.goes.stands in record {
    tables = held w.runs.sound w.stored w.fixed-is d.goes.right (subst (λ (n : ℕ). Unused a.changed course.n t.frame.m t.frame.k n old (lent_at point)) w.marks-are d.goes.unused);
    joins = w.runs.stack_is;
    moves = w.runs.journal-is;
  }

  pub desk-unjoined : (stood_by (lent_at point) course).stack ≡ [] → LoadedSets a.graph (lent_at point)
  desk-unjoined none =
      let w = d.goes.stands in
      loaded-sets (subst (λ (cs : List Contraction). Sound a.graph cs a.state.block point.stock.tables) (sym w.runs.stack_is ∙ none) w.runs.sound) w.stored point.stock.fixed point.stock.index

  pub desk-lots : course.n ≡ vertices a.graph
  desk-lots = d.goes.stands.runs.sound.follows.says.all-vertices

-- ---- an accepted file
-- its report and its tables in model's terms; `old` and T are as in HallCatalogued
pub record Reported (file : List ℕ) (old : LoaderSets) (T T' : HallTables) (out out' : List ℕ) (bytes : ℕ) (lots : List ℕ) : Type 0 where
  pub worked : HallWorked (parse_hall file) (record { output = out; sets = λ c. held_in old T (c - 1) }) (hall_memory out' T') 0 bytes
  pub lots-are : LotsAre (parse_hall file) lots

module _ {file : List ℕ} {estimated : ℕ → Bool} {count limit lines : ℕ} {zs : List Sizes} {old : LoaderSets} {lows : List (List ℕ)} {T : HallTables} {netweights : List (List ℕ)} {calls ops out : List ℕ}
    (g : HallCatalogued file estimated count limit lines zs old lows T netweights calls ops out) where
  abbrev K : HallBook
  K = book_of estimated count limit lines zs lows T netweights calls ops

  abbrev end : List Sale
  end = desks_after limit (hs g) K.calls

  ends : length end ≡ count
  ends = hall-length limit (fresh_desks (hs g)) K.calls ∙ desks g

  module _ {T' : HallTables} {courses : List Course} {drafts out' : List ℕ} {at : ℕ} (s : HallSold K zs (held_in old T) T T' netweights courses drafts out out' at) where
    abbrev desk : (c : ℕ) → c < count → DeskStands (get_or end c no_desk) (held_in old T c) (set_of c (sets_in T' s.bits s.loads)) (get_or netweights c []) (get_or (terms_in zs) c no_terms) (get_or courses c no_course)
    desk c l = s.stands.each c (omega (arith, l, ends))

    -- ---- the closing reports
    terms-at : (c : ℕ) → c < count → get_or (terms_in zs) c no_terms ≡ terms_of (get_or zs c no_sizes)
    terms-at c l = terms-in zs c (omega (arith, l, few g))

    pub close : Close count (hs g) end T'.blocks T'.aboves T'.visited courses zs drafts
    close = record {
      catalogues = catalogues g;
      desks = ends;
      ended = λ c l.
          let e = ap (λ (t : Terms). t.frame.m) (terms-at c l) in
          subst (λ (m : ℕ). EndedIn (get_or end c no_desk).graph (get_or end c no_desk).state c T'.blocks T'.aboves T'.visited (get_or courses c no_course) m (get_or drafts c 0)) e
          (goes-ended (set_of c (sets_in T' s.bits s.loads)) (get_or netweights c []) (get_or (terms_in zs) c no_terms).frame.m (get_or (terms_in zs) c no_terms).frame.k (get_or courses c no_course) (desk c l).goes);
      drafts-are = s.drafts-are;
    }

    pub can-close : 60000 ≤ length out → CanCloseSets (length out') at count T'.blocks T'.aboves T'.visited courses zs drafts
    can-close spacious = record {
      whole = record { blocks-long = s.stands.whole.blocks-long; aboves-long = s.stands.whole.aboves-long; visited-long = s.stands.whole.visited-long };
      few = few g;
      hs = hs g;
      ds = end;
      close = close;
      fits = omega (arith, s.wrote.ends, spacious, report-fits g, wrote-length s.wrote (omega (arith, spacious, report-fits g)));
    }

    -- ---- demand 3
    -- what stands of the catalogue c, counted from 1
    abbrev left_at : ℕ → Standing
    left_at c = stood_by (tables_of T' c) (get_or courses (c - 1) no_course)

    abbrev held_at : ℕ → Tables
    held_at c = held_in old T (c - 1)

    inside : (c : ℕ) → Numbered count c → c - 1 < count
    inside c n = omega (arith, n.0, n.1)

    numbered : (c : ℕ) → Numbered (length (hs g)) c → Numbered count c
    numbered c n = (n.0, omega (arith, n.1, catalogues g))

    stands_at : (c : ℕ) → Numbered count c → Stands (held_at c) (desk_of end c) (left_at c)
    stands_at c n = desk-end (desk (c - 1) (inside c n))

    sets-left : SetsLeft K held_at (tables_of T')
    sets-left = record {
      left = left_at;
      lines = hall_answers limit (fresh_desks (hs g)) K.calls;
      totals = λ c. (get_or courses (c - 1) no_course).total;
      demand = record {
        accepted = accepted g;
        few = (opens g).calls-few;
        leads = leads;
        stands = λ c n. stands_at c (n.0, omega (arith, n.1, ends));
        unjoined = λ c n none. desk-unjoined (desk (c - 1) (inside c (numbered c n))) none;
        answered = refl;
        total-is = λ c n. (desk (c - 1) (inside c (numbered c n))).goes.stands.runs.sound.total-is;
        machine = hall-half limit (hs g) (accepted g) K.calls leads;
      };
      told = λ c n. refl;
      holds = λ c n.
          let long = g.long (c - 1) (omega (arith, n.0, n.1, catalogues g, few g)) in
          desk-holds limit (hs g) (accepted g) K.calls leads c n (held_at c) (tables_of T' c) long.gains-long long.index-long (stands_at c (numbered c n)).tables;
      kept = λ c past. kept_at c (omega (arith, past, catalogues g));
    }
      where
        leads : AllLed (length (hs g)) K.calls
        leads = subst (λ (n : ℕ). AllLed n K.calls) (sym (catalogues g)) (opens g).leads

        kept_at : (c : ℕ) → count < c → tables_of T' c ≡ held_at c
        kept_at c l = s.kept (c - 1) (omega arith) ∙ ap (λ (Y : LoaderSet). tables_with Y T (c - 1)) (g.accepts.kept (c - 1) (omega arith))

    pub worked : {out'' : List ℕ} {bytes : ℕ} → 60000 ≤ length out → Wrote out' out'' at (closings (hs g) end) bytes
        → HallWorked (parse_hall file) (record { output = out; sets = held_at }) (hall_memory out'' T') 0 bytes
    unfolding hall_outcome hall_run
    worked {out''} {bytes} spacious w =
        subst (λ (r : HallReading). HallWorked r (record { output = out; sets = held_at }) (hall_memory out'' T') 0 bytes) g.says (record {
          code_is = refl;
          output = written_all (wrote-append (omega (arith, spacious, report-fits g)) s.wrote w);
          tables = sets-left;
        })

    pub lots-are : {lots : List ℕ} → ((c : ℕ) → c < count → get_or lots c 0 ≡ (get_or courses c no_course).n) → ((c : ℕ) → count ≤ c → get_or lots c 0 ≡ 0) → LotsAre (parse_hall file) lots
    lots-are {lots} used none = subst (λ (r : HallReading). LotsAre r lots) g.says (record { each = λ c l. go c (ltb c (length (hs g))) refl })
      where
        go : (c : ℕ) (b : Bool) → ltb c (length (hs g)) ≡ b → get_or lots c 0 ≡ cond b (vertices (get_or end c no_desk).graph) 0
        go c true q = let l : c < count = omega (arith, ltb-true c (length (hs g)) q, catalogues g) in used c l ∙ desk-lots (desk c l)
        go c false q = none c (omega (arith, ltb-false c (length (hs g)) q, catalogues g))

-- ---- the engine's own tables, as it makes them for loading
pub own-length : (d : ℕ) → d < 4 → length {A = ℕ} (get_or (replicate 4 (replicate 1024 0)) d []) ≡ 1024
own-length d l = ap length (get_or-replicate 4 d (replicate 1024 0) [] l) ∙ length-replicate {A = ℕ} 1024 0

pub own-four : (x : List ℕ) → 4 ≤ length (replicate 4 x)
own-four x = omega (arith, length-replicate {A = List ℕ} 4 x)

-- ---- the two answers of the loader
module _ {file : List ℕ} {r : Result HallLoaded Refused} {old : LoaderSets} (T : HallTables) {netweights lows : List (List ℕ)} {calls ops : List ℕ}
    (l : HallLoads file r old (loaded_in T netweights lows) calls ops) {a : HallLoaded} (e : r ≡ Ok a) where
  pub catalogued : {out : List ℕ} → ((c : ℕ) → c < 4 → Long main_limits out (loader_set c old).lists (get_or T.counts c []) (get_or T.gains c []) (get_or T.index c []) (get_or T.visited c [])) → Four T → 4 ≤ length netweights → 2048 ≤ length calls
      → HallCatalogued file l.estimated a.count a.limit a.calls a.sizes old lows T netweights calls ops out
  catalogued {out} long four nw many = record {
    says = ap (λ (x : Result HallLoaded Refused). hall_seen l.estimated x (loaded_in T netweights lows) calls ops) (sym e) ∙ l.says;
    accepts = l.accepts a e;
    long = long;
    four = four;
    netweights-four = nw;
    calls-long = many;
  }

module _ {file : List ℕ} {r : Result HallLoaded Refused} {old new : LoaderSets} {calls ops : List ℕ} (l : HallLoads file r old new calls ops) {x : Refused} (e : r ≡ Err x) where
  abbrev q : ℕ
  q = number_of x.refusal

  abbrev n : ℕ
  n = x.line

  stops : hall_stopped q n ≡ parse_hall file
  stops = ap (λ (x : Result HallLoaded Refused). hall_seen l.estimated x new calls ops) (sym e) ∙ l.says

  pub small : (q ≤ 24) × (n ≤ 60001)
  small = let b = hall-refused-in file q n (sym stops) in (b.1, b.2)

  pub line-fits : length (row "NO" (digits q ∷ digits n ∷ [])) ≤ 60000
  unfolding hall_engine hall_outcome
  line-fits = omega (arith, hall-engine-fits file, ap (λ (x : HallReading). length (hall_outcome x).report) stops)

  pub turned_down : {m m' : HallMemory} {code bytes : ℕ} → code ≡ q → Wrote m.output m'.output 0 (row "NO" (digits q ∷ digits n ∷ [])) bytes → HallWorked (parse_hall file) m m' code bytes
  unfolding hall_outcome
  turned_down {m} {m'} {code} {bytes} d w = subst (λ (x : HallReading). HallWorked x m m' code bytes) stops (record { code_is = d; output = written_all w; tables = tt })

  pub no-lots : {lots : List ℕ} → ((c : ℕ) → c < 4 → get_or lots c 0 ≡ 0) → LotsAre (parse_hall file) lots
  no-lots {lots} z = subst (λ (x : HallReading). LotsAre x lots) stops (record { each = z })
