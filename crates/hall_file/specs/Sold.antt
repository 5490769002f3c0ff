-- A hall's sets of tables opened and its led calls run: what that needs, and what stands then. Rests on Loaded, Calls, hall_opening and hall_calls. Assumes nothing.
use Rattle.std.specs.Prelude.{ℕ, zero, suc, ◌+◌, ◌<◌, ◌≤◌, ◌≡◌, refl, Bool, List, [], ◌∷◌, ◌++◌, get_or, replicate}
use native.Mathlib.Omega.{arith}
use Rattle.std.proofs.Common.{sym, ◌∙◌, subst}
use Rattle.std.proofs.Math.Path.{ap}
use Rattle.std.proofs.Math.ListN.{length, length-append}
use Rattle.std.proofs.lemmas.List.{length-replicate, get_or-replicate}
use Rattle.model.specs.Catalogue.{main_limits, Hypergraph}
use Rattle.model.specs.Machine.{fresh}
use Rattle.model.specs.Sale.{Sale, opened}
use Rattle.model.specs.Engine.{draft_total}
use Rattle.model.specs.Memory.{Tables}
use Rattle.model.specs.Hall.{Led, no_desk, hall_after, hall_answers, fresh_desks, closings, hall_run}
use Rattle.model.specs.HallText.{HallBook, HallReading, graphs, hall_outcome, hall_engine}
use Rattle.hall_guarantees.specs.Loading.{hall-start}
use Rattle.hall_guarantees.specs.Fits.{hall-engine-fits}
use Rattle.fields.specs.Wrote.{Wrote}
use Rattle.loader.specs.declared.Sizes.{Sizes}
use Rattle.memory.specs.Short.{Short}
use Rattle.call_list.specs.declared.course.Course.{Course}
use Rattle.call_list.specs.Point.{GoesOn}
use Rattle.call_list.specs.Opened.{Blank, blank}
use Rattle.hall_step.specs.Sets.{Sets, Own, set_of, point_in, Whole}
use Rattle.hall_led.specs.declared.Terms.{Terms}
use Rattle.hall_led.specs.Others.{no_course}
use Rattle.hall_led.specs.Desks.{no_terms, DeskStands, HallStands}
use Rattle.hall_calls.specs.Lines.{leds_to}
use Rattle.hall_calls.specs.Course.{Begins, CanRun, Ran}
use Rattle.hall_opening.specs.Filled.{Fills}
use Rattle.hall_opening.specs.Opening.{CanOpenSets, OpensSets}
use Rattle.hall_opening.specs.Standing.{sets_with, set-goes, set-kept, draft-total}
use Rattle.hall_loader.specs.Sets.{Sets as LoaderSets, set_of as loader_set}
use Rattle.hall_loader.specs.Books.{no_sizes}
use Rattle.model.specs.HallLent.{HallTables, tables_at}
use Rattle.hall_file.specs.Views.{fills_in, reads_in, sets_in, held_in}
use Rattle.hall_file.specs.Calls.{leds-are, listed-is}
use Rattle.hall_file.specs.Loaded.{HallCatalogued, book_of, hs, shown, opens, desks, few, graph_at, desk-at, prepared}

-- ---- what no call changes of a catalogue, by its sizes
abbrev pub terms_of : Sizes → Terms
terms_of z = record { frame = record { m = z.nets; k = z.blocks; average = z.average; lots = 0 }; cap = z.capacity }

-- one of four
abbrev four : {A : Type 0} → (ℕ → A) → List A
four f = f 0 ∷ (f 1 ∷ (f 2 ∷ (f 3 ∷ [])))

four-at : {A : Type 0} (f : ℕ → A) (d : A) (c : ℕ) → c < 4 → get_or (four f) c d ≡ f c
four-at f d zero l = refl
four-at f d (suc zero) l = refl
four-at f d (suc (suc zero)) l = refl
four-at f d (suc (suc (suc zero))) l = refl
four-at f d (suc (suc (suc (suc c)))) l = absurd (omega arith)

abbrev pub terms_in : List Sizes → List Terms
terms_in zs = four (λ c. terms_of (get_or zs c no_sizes))

pub terms-in : (zs : List Sizes) (c : ℕ) → c < 4 → get_or (terms_in zs) c no_terms ≡ terms_of (get_or zs c no_sizes)
terms-in zs = four-at (λ c. terms_of (get_or zs c no_sizes)) no_terms

abbrev pub blocks_in : List Sizes → List ℕ
blocks_in zs = four (λ c. (get_or zs c no_sizes).blocks)

-- where the lists of calls stand: each one's total
abbrev pub totals_in : List Course → List ℕ
totals_in cs = four (λ c. (get_or cs c no_course).total)

-- ---- the engine's own tables, as it makes them
abbrev pub own_bits : List (List ℕ)
own_bits = replicate 4 (replicate 16384 0)

abbrev pub own_loads : List (List ℕ)
own_loads = replicate 4 (replicate 16 0)

-- the lent tables of a set
abbrev own_tables : Own → Tables
own_tables Y = record { weights = Y.weights; blocks = Y.blocks; aboves = Y.aboves; fixed = Y.fixed; loaded_pins = Y.loadedpins; present_pins = Y.presentpins; firsts = Y.firsts; loaded_sizes = Y.loadedsizes; present_sizes = Y.presentsizes; counts = Y.counts; gains = Y.gains; index = Y.index; visited = Y.visited }

-- ---- what it needs
-- the tables are those of some loaded hall, and the output is long enough
pub record CanSell (count limit lines : ℕ) (zs : List Sizes) (T : HallTables) (netweights : List (List ℕ)) (calls ops out : List ℕ) : Type 0 where
  pub file : List ℕ
  pub estimated : ℕ → Bool
  pub old : LoaderSets
  pub lows : List (List ℕ)
  pub catalogued : HallCatalogued file estimated count limit lines zs old lows T netweights calls ops out
  pub spacious : 60000 ≤ length out

-- ---- what stands then
-- the sets stand for the desks that the led calls leave, the lines of the answers are written and end at `at`, and the closing reports can follow. A set without
-- a catalogue is as it was
pub record HallSold (K : HallBook) (zs : List Sizes) (olds : ℕ → Tables) (T T' : HallTables) (netweights : List (List ℕ)) (courses : List Course) (drafts out out' : List ℕ) (at : ℕ) : Type 0 where
  pub bits : List (List ℕ)
  pub loads : List (List ℕ)
  pub stands : HallStands (hall_after K.limit (fresh_desks (graphs K)) K.calls) olds (sets_in T' bits loads) netweights (terms_in zs) courses
  pub wrote : Wrote out out' 0 (hall_answers K.limit (fresh_desks (graphs K)) K.calls) at
  pub kept : (c : ℕ) → K.announced ≤ c → tables_at T' c ≡ tables_at T c
  pub drafts-are : (c : ℕ) → c < K.announced → get_or drafts c 0 ≡ draft_total (get_or (graphs K) c no_desk.graph)

module _ {file : List ℕ} {estimated : ℕ → Bool} {count limit lines : ℕ} {zs : List Sizes} {old : LoaderSets} {lows : List (List ℕ)} {T : HallTables} {netweights : List (List ℕ)} {calls ops out : List ℕ}
    (g : HallCatalogued file estimated count limit lines zs old lows T netweights calls ops out) where
  -- ---- the report fits
  leds : leds_to calls ops lines ≡ (book_of estimated count limit lines zs lows T netweights calls ops).calls
  leds = leds-are count calls ops lines g.accepts.calls-known.entries

  abbrev asked : List Led
  asked = (book_of estimated count limit lines zs lows T netweights calls ops).calls

  pub report-fits : length (hall_answers limit (fresh_desks (hs g)) asked) + length (closings (hs g) (hall_after limit (fresh_desks (hs g)) asked)) ≤ 60000
  unfolding hall_engine hall_outcome hall_run
  report-fits = omega (arith, hall-engine-fits file, ap (λ (r : HallReading). length (hall_outcome r).report) g.says, length-append (hall_answers limit (fresh_desks (hs g)) asked) (closings (hs g) (hall_after limit (fresh_desks (hs g)) asked)))

  -- ---- opening
  bits-blank : (c : ℕ) → c < 4 → Blank (get_or own_bits c [])
  bits-blank c l = subst Blank (sym (get_or-replicate 4 c (replicate 16384 0) [] l)) (blank 16384 refl)

  loads-len : (c : ℕ) → c < 4 → length (get_or own_loads c []) ≡ 16
  loads-len c l = ap length (get_or-replicate 4 c (replicate 16 0) [] l) ∙ length-replicate {A = ℕ} 16 0

  pub can-open-sets : CanOpenSets count zs (fills_in T own_bits own_loads) (reads_in T netweights)
  can-open-sets = record {
    whole = record {
      counts-long = g.four.counts-four;
      visited-long = g.four.visited-four;
      gains-long = g.four.gains-four;
      index-long = g.four.index-four;
      bits-long = omega (arith, length-replicate {A = List ℕ} 4 (replicate 16384 0));
      loads-long = omega (arith, length-replicate {A = List ℕ} 4 (replicate 16 0));
      presentpins-long = g.four.present_pins-four;
      presentsizes-long = g.four.present_sizes-four;
      blocks-long = g.four.blocks-four;
      weights-long = g.four.weights-four;
      fixed-long = g.four.fixed-four;
      firsts-long = g.four.firsts-four;
      netweights-long = g.netweights-four;
    };
    few = few g;
    can = λ c l. record {
      limits = main_limits;
      old = (loader_set c old).lists;
      spared = record { aboves = get_or T.aboves c []; loadedpins = get_or T.loaded_pins c []; loadedsizes = get_or T.loaded_sizes c [] };
      lows = get_or lows c [];
      prepared = prepared g c l;
      blank = bits-blank c (omega (arith, l, few g));
      loads-len = loads-len c (omega (arith, l, few g));
    };
  }

  module _ {F : Fills} {start : List Course} (o : OpensSets count zs (fills_in T own_bits own_loads) F (reads_in T netweights) start) where
    abbrev pub H₁ : Sets
    H₁ = sets_with F (reads_in T netweights) T.aboves T.loaded_pins T.loaded_sizes

    goes_at : (c : ℕ) → c < count → GoesOn main_limits (opened (shown g c)) (held_in old T c) (point_in (set_of c H₁) (get_or netweights c []) (get_or zs c no_sizes).nets (get_or zs c no_sizes).blocks (get_or start c no_course))
    goes_at c l = set-goes o T.aboves T.loaded_pins T.loaded_sizes c l main_limits (loader_set c old).lists (get_or lows c []) (prepared g c l)

    terms-at : (c : ℕ) → c < count → get_or (terms_in zs) c no_terms ≡ terms_of (get_or zs c no_sizes)
    terms-at c l = terms-in zs c (omega (arith, l, few g))

    desk-stands : (c : ℕ) → c < count → DeskStands (get_or (fresh_desks (hs g)) c no_desk) (held_in old T c) (set_of c H₁) (get_or netweights c []) (get_or (terms_in zs) c no_terms) (get_or start c no_course)
    desk-stands c l =
        subst (λ (a : Sale). DeskStands a (held_in old T c) (set_of c H₁) (get_or netweights c []) (get_or (terms_in zs) c no_terms) (get_or start c no_course)) (sym (desk-at g c l))
        (subst (λ (t : Terms). DeskStands (opened (shown g c)) (held_in old T c) (set_of c H₁) (get_or netweights c []) t (get_or start c no_course)) (sym (terms-at c l)) (record {
          goes = goes_at c l;
          average-is = (g.accepts.catalogues c l).wide.average;
          cap-is = (g.accepts.catalogues c l).wide.capacity;
        }))

    pub whole_is : length F.counts ≡ length T.counts → length F.visited ≡ length T.visited → length F.gains ≡ length T.gains → length F.index ≡ length T.index → length F.bits ≡ length own_bits → length F.loads ≡ length own_loads
        → Whole H₁ netweights
    whole_is counts visited gains index bits loads = record {
      counts-long = omega (arith, counts, g.four.counts-four);
      visited-long = omega (arith, visited, g.four.visited-four);
      gains-long = omega (arith, gains, g.four.gains-four);
      index-long = omega (arith, index, g.four.index-four);
      presentpins-long = g.four.present_pins-four;
      presentsizes-long = g.four.present_sizes-four;
      bits-long = omega (arith, bits, length-replicate {A = List ℕ} 4 (replicate 16384 0));
      blocks-long = g.four.blocks-four;
      weights-long = g.four.weights-four;
      aboves-long = g.four.aboves-four;
      fixed-long = g.four.fixed-four;
      loads-long = omega (arith, loads, length-replicate {A = List ℕ} 4 (replicate 16 0));
      loadedpins-long = g.four.loaded_pins-four;
      firsts-long = g.four.firsts-four;
      loadedsizes-long = g.four.loaded_sizes-four;
      netweights-long = g.netweights-four;
    }

    -- ---- the calls
    module _ (whole : Whole H₁ netweights) where
      pub begins : Begins (fresh_desks (hs g)) (held_in old T) H₁ netweights limit count (blocks_in zs) (terms_in zs) start
      begins = record {
        stands = record { whole = whole; few = omega (arith, desks g, few g); each = λ d l. desk-stands d (omega (arith, l, desks g)) };
        fine = hall-start (book_of estimated count limit lines zs lows T netweights calls ops) (opens g);
        counts = record {
          count-is = sym (desks g);
          ks-are = λ d l.
              let u : d < count = omega (arith, l, desks g) in
              four-at (λ c. (get_or zs c no_sizes).blocks) 0 d (omega (arith, u, few g)) ∙ sym (ap (λ (t : Terms). t.frame.k) (terms-at d u));
        };
      }

      short-fresh : (h : Hypergraph) → Short 0 (opened h)
      unfolding fresh
      short-fresh h = record { stack = omega arith; journal = omega arith; free = omega arith }

      can-run-in : {room : ℕ} → 60000 ≤ room → CanRun H₁ netweights limit count (blocks_in zs) (terms_in zs) start calls ops lines room
      can-run-in spacious = record {
        ds = fresh_desks (hs g);
        olds = held_in old T;
        begins = begins;
        listed = listed-is count calls ops lines g.accepts.calls-known g.calls-long;
        short = λ d l. subst (Short 0) (sym (desk-at g d (omega (arith, l, desks g)))) (short-fresh (shown g d));
        limit-few = g.accepts.announced.limit-high;
        ks-len = refl;
        ts-len = refl;
        cs-len = o.courses-four;
        fits = omega (arith, spacious, report-fits, ap (λ (l : List Led). length (hall_answers limit (fresh_desks (hs g)) l)) leds);
      }

      pub can-run : {room : ℕ} {ks : List ℕ} {ts : List Terms} → ks ≡ blocks_in zs → ts ≡ terms_in zs → 60000 ≤ room → CanRun H₁ netweights limit count ks ts start calls ops lines room
      can-run {room} {ks} {ts} qk qt spacious =
          subst (λ (x : List ℕ). CanRun H₁ netweights limit count x ts start calls ops lines room) (sym qk)
          (subst (λ (x : List Terms). CanRun H₁ netweights limit count (blocks_in zs) x start calls ops lines room) (sym qt) (can-run-in spacious))

      -- a set without a catalogue, through opening and calls
      kept_tables : (T' : HallTables) (bits loads : List (List ℕ)) → ((d : ℕ) → count ≤ d → set_of d (sets_in T' bits loads) ≡ set_of d H₁) → (c : ℕ) → count ≤ c → tables_at T' c ≡ tables_at T c
      kept_tables T' bits loads k c l =
          let e = k c l ∙ set-kept o T.aboves T.loaded_pins T.loaded_sizes c l in
          ap (λ (Y : Own). own_tables Y) e

      sold-in : (T' : HallTables) (bits loads : List (List ℕ)) {courses : List Course} {out' : List ℕ} {at : ℕ}
          → Ran H₁ (sets_in T' bits loads) netweights limit count (blocks_in zs) (terms_in zs) start courses calls ops lines out out' at
          → HallSold (book_of estimated count limit lines zs lows T netweights calls ops) zs (held_in old T) T T' netweights courses (totals_in start) out out' at
      sold-in T' bits loads {courses} {out'} {at} r = record {
        bits = bits;
        loads = loads;
        stands = subst (λ (l : List Led). HallStands (hall_after limit (fresh_desks (hs g)) l) (held_in old T) (sets_in T' bits loads) netweights (terms_in zs) courses) leds (r.stands (fresh_desks (hs g)) (held_in old T) begins);
        wrote = subst (λ (l : List Led). Wrote out out' 0 (hall_answers limit (fresh_desks (hs g)) l) at) leds (r.wrote (fresh_desks (hs g)) (held_in old T) begins);
        kept = kept_tables T' bits loads r.kept;
        drafts-are = λ c l.
            four-at (λ c. (get_or start c no_course).total) 0 c (omega (arith, l, few g))
            ∙ draft-total (shown g c) (goes_at c l)
            ∙ ap draft_total (sym (graph_at g c l));
      }

      pub sold : (T' : HallTables) (bits loads : List (List ℕ)) {ks : List ℕ} {ts : List Terms} {drafts : List ℕ} {courses : List Course} {out' : List ℕ} {at : ℕ} → ks ≡ blocks_in zs → ts ≡ terms_in zs → drafts ≡ totals_in start
          → Ran H₁ (sets_in T' bits loads) netweights limit count ks ts start courses calls ops lines out out' at
          → HallSold (book_of estimated count limit lines zs lows T netweights calls ops) zs (held_in old T) T T' netweights courses drafts out out' at
      sold T' bits loads {ks} {ts} {drafts} {courses} {out'} {at} qk qt qd r =
          subst (λ (x : List ℕ). HallSold (book_of estimated count limit lines zs lows T netweights calls ops) zs (held_in old T) T T' netweights courses x out out' at) (sym qd)
          (sold-in T' bits loads (subst (λ (x : List Terms). Ran H₁ (sets_in T' bits loads) netweights limit count (blocks_in zs) x start courses calls ops lines out out' at) qt
          (subst (λ (x : List ℕ). Ran H₁ (sets_in T' bits loads) netweights limit count x ts start courses calls ops lines out out' at) qk r)))
