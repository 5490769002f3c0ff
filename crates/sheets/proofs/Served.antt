-- From the engine's promise to that of the sheets: what is printed of a file that was turned down, of an accepted one, and of none. Rests on Left, on
-- sheet_guarantees and on sheet_rows' Tables.
use Prim.Native.Nat.{ℕ, ◌<◌, ◌≤◌}
use native.Mathlib.Omega.{arith}
use mathlib.Core.Path.{◌≡◌, refl, sym, ap, ◌∙◌, subst}
use mathlib.Core.Bool.{Bool, true, false, ◌&&◌}
use mathlib.Core.List.{List, [], ◌++◌}
use borrow.Author.Tests.{le-leb, lt-leb}
use lib.Dec.{leb}
use lib.IntN.{pos}
use lib.ListN.{length, get_or, take, drop, replicate, length-append, length-replicate, get_or-replicate}
use Rattle.laws.specs.Choice.{and_right}
use Rattle.model.specs.Catalogue.{main_limits}
use Rattle.model.specs.Sale.{Sale, opened}
use Rattle.model.specs.Grammar.{Book, Reading, unread, reading, stopped, parse}
use Rattle.model.specs.Engine.{Outcome, after, outcome}
use Rattle.model.specs.Lent.{lists, lent, memory}
use Rattle.model.specs.Memory.{Memory, long_lists, long_tables, long_memory, Holds, TablesLeft, Served, Serves}
use Rattle.model.specs.Sheets.{sheets, sheets_outcome, sheets_of, Printed, Prints, SheetsServe}
use Rattle.guarantees.specs.Ranges.{Few}
use Rattle.guarantees.specs.Reached.{Valid, reached}
use Rattle.guarantees.specs.Refusals.{refused-in}
use Rattle.sheet_guarantees.specs.Fits.{sheets-fit}
use Rattle.fields.specs.Wrote.{Wrote}
use Rattle.sheet_rows.specs.Tables.{Ended}
use Rattle.sheet_rows.proofs.Printed.{report-in, report-is, prints}
use Rattle.sheets.specs.Left.{Left}

-- the file was accepted
record ReadAs (file : List ℕ) : Type 0 where
  book : Book
  reads : parse main_limits file ≡ reading book

few : Few main_limits
few = record { nets-few = omega arith; pins-few = omega arith }

-- ---- the engine's promise of a file, and the sheets'
module _ {file : List ℕ} {code bytes : ℕ} {report blocks aboves pins firsts sizes visited : List ℕ} (l : Left file code bytes report blocks aboves pins firsts sizes visited) where
  abbrev told : Outcome
  told = outcome main_limits (parse main_limits file)

  pub line-in : bytes ≤ length report
  line-in = omega (arith, report-in l.worked.output, ap length l.report-is)

  -- ---- a file turned down
  told_same : (code ≡ 0 → ⊥) → sheets_of main_limits file ≡ told
  unfolding sheets_of sheets_outcome outcome
  told_same q = go (parse main_limits file) l.worked.code_is
    where
      go : (r : Reading) → code ≡ (outcome main_limits r).code → sheets_outcome main_limits r ≡ outcome main_limits r
      go unread e = refl
      go (stopped p n) e = refl
      go (reading k) e = absurd (q e)

  pub line-fits : (room : ℕ) → 122880 ≤ room → (code ≡ 0 → ⊥) → bytes ≤ room
  line-fits room m q = omega (arith, m, l.worked.output.bytes, ap (λ (o : Outcome). length o.report) (told_same q), sheets-fit main_limits (omega arith) (omega arith) few file)

  pub turned_down : (code ≡ 0 → ⊥) → {old new : List ℕ} {end : ℕ} → Wrote old new 0 (take bytes report) end → Printed (sheets_of main_limits file) old new code end
  turned_down q = prints (sheets_of main_limits file) (l.worked.code_is ∙ ap (λ (o : Outcome). o.code) (sym (told_same q)))
      (ap (take bytes) (sym l.report-is) ∙ report-is l.worked.output ∙ ap (λ (o : Outcome). o.report) (sym (told_same q)))

  -- ---- an accepted file
  module _ (q : code ≡ 0) where
    read_as : ReadAs file
    unfolding outcome
    read_as = go (parse main_limits file) refl l.worked.code_is
      where
        go : (r : Reading) → parse main_limits file ≡ r → code ≡ (outcome main_limits r).code → ReadAs file
        go unread e c = absurd (omega (arith, q, c))
        go (stopped p n) e c = absurd (omega (arith, q, c, (refused-in main_limits file p n e).0))
        go (reading k) e c = record { book = k; reads = e }

    pub ended : Sale
    ended = after main_limits (opened read_as.book.graph) read_as.book.calls

    holds : Holds ended l.old.tables l.new.tables
    unfolding ended
    holds = subst (λ (r : Reading). TablesLeft main_limits r l.old.tables l.new.tables) read_as.reads l.worked.tables

    valid : Valid main_limits ended
    unfolding ended
    valid = reached main_limits few read_as.book.graph (record { file = file; book = read_as.book; loads = read_as.reads; graph_is = refl }) read_as.book.calls

    pub sale-ended : Ended ended blocks aboves pins firsts sizes visited
    unfolding long_memory
    sale-ended = record {
      promised = record {
        limits = main_limits;
        few = omega arith;
        narrow = omega arith;
        valid = valid;
        old = l.old.tables;
        new = l.new.tables;
        long = and_right (leb 60000 (length l.old.output)) (long_tables main_limits l.old.tables) l.long;
        holds = holds;
        lots-are = refl;
        buyers-are = refl;
        blocks-are = l.blocks-are;
        aboves-are = l.aboves-are;
        pins-are = l.pins-are;
        firsts-are = l.firsts-are;
        sizes-are = l.sizes-are;
        visited-are = l.visited-are;
      };
      aboves-blank = l.aboves-blank;
      firsts-blank = l.firsts-blank;
    }

    told-sheets : sheets_of main_limits file ≡ record { code = 0; report = sheets [] ended }
    unfolding sheets_of sheets_outcome ended
    told-sheets = ap (sheets_outcome main_limits) read_as.reads

    pub sheets-in : (room : ℕ) → 122880 ≤ room → length (sheets [] ended) ≤ room
    sheets-in room m = omega (arith, m, ap (λ (o : Outcome). length o.report) told-sheets, sheets-fit main_limits (omega arith) (omega arith) few file)

    pub served : {old new : List ℕ} {end : ℕ} → Wrote old new 0 (sheets [] ended) end → Printed (sheets_of main_limits file) old new 0 end
    served = prints (sheets_of main_limits file) (ap (λ (o : Outcome). o.code) (sym told-sheets)) (ap (λ (o : Outcome). o.report) (sym told-sheets))

-- ---- 8 is tested first
module _ (file old : List ℕ) where
  pub too_short : length old < 122880 → SheetsServe main_limits file old old 8 0
  too_short l = subst (λ (b : Bool). Prints b (sheets_of main_limits file) old old 8 0) (sym (lt-leb 122880 (length old) l)) (record { code_is = refl; nothing = refl; kept = refl })

  pub long-enough : {new : List ℕ} {code bytes : ℕ} → 122880 ≤ length old → Printed (sheets_of main_limits file) old new code bytes → SheetsServe main_limits file old new code bytes
  long-enough {new} {code} {bytes} l p = subst (λ (b : Bool). Prints b (sheets_of main_limits file) old new code bytes) (sym (le-leb 122880 (length old) l)) p

-- ---- this crate's own memory
both : (a b : Bool) → a ≡ true → b ≡ true → (a && b) ≡ true
both true b p q = q
both false b p q = p

at_least : (n l : ℕ) → l ≡ n → leb n l ≡ true
at_least n l e = le-leb n l (omega (arith, e))

-- no table of these lengths is short
own-long : (m : Memory) → length m.output ≡ 60000
    → length m.tables.weights ≡ 1024 → length m.tables.blocks ≡ 1024 → length m.tables.aboves ≡ 1024 → length m.tables.fixed ≡ 1024
    → length m.tables.loaded_pins ≡ 8192 → length m.tables.present_pins ≡ 8192
    → length m.tables.firsts ≡ 1024 → length m.tables.loaded_sizes ≡ 1024 → length m.tables.present_sizes ≡ 1024
    → length m.tables.counts ≡ 16384 → length m.tables.gains ≡ 16384 → length m.tables.index ≡ 16384 → length m.tables.visited ≡ 1024
    → long_memory main_limits m ≡ true
unfolding long_memory long_tables long_lists
own-long m out w b a x lp pp f z pz c g i v =
    let lots = both _ _ (both _ _ (both _ _ (at_least 1024 _ w) (at_least 1024 _ b)) (at_least 1024 _ a)) (at_least 1024 _ x) in
    let buyers = both _ _ (both _ _ (both _ _ (both _ _ (at_least 8192 _ lp) (at_least 8192 _ pp)) (at_least 1024 _ f)) (at_least 1024 _ z)) (at_least 1024 _ pz) in
    both _ _ (at_least 60000 _ out) (both _ _ (both _ _ (both _ _ (both _ _ (both _ _ lots buyers) (at_least 16384 _ c)) (at_least 16384 _ g)) (at_least 16384 _ i)) (at_least 1024 _ v))

-- as it is lent to the engine
abbrev pub own : Memory
own = memory (replicate 60000 0)
    (lent (lists (replicate 1024 0) (replicate 1024 0) (replicate 1024 65535) (replicate 1024 0) (replicate 8192 0) (replicate 8192 0) (replicate 1024 65535) (replicate 1024 0) (replicate 1024 0))
    (replicate 16384 0) (replicate 16384 (pos 0)) (replicate 16384 0) (replicate 1024 0))

same-all : (n x y : ℕ) → y < length (replicate n x) → get_or (replicate n x) y 0 ≡ x
same-all n x y l = get_or-replicate n y x 0 (omega (arith, l, length-replicate n x))

-- what the engine leaves there
pub left-of : (file : List ℕ) (old new : Memory) {code bytes : ℕ} → old ≡ own → Serves main_limits file old new code bytes
    → Left file code bytes new.output new.tables.blocks new.tables.aboves new.tables.loaded_pins new.tables.firsts new.tables.loaded_sizes new.tables.visited
left-of file old new {code} {bytes} e s = record {
  old = own;
  new = new;
  long = long;
  aboves-blank = same-all 1024 65535;
  firsts-blank = same-all 1024 65535;
  worked = subst (λ (b : Bool). Served main_limits b (parse main_limits file) own new code bytes) long (subst (λ (m : Memory). Serves main_limits file m new code bytes) e s);
  report-is = refl;
  blocks-are = refl;
  aboves-are = refl;
  pins-are = refl;
  firsts-are = refl;
  sizes-are = refl;
  visited-are = refl;
}
  where
    all : (n x : ℕ) → length (replicate n x) ≡ n
    all n x = length-replicate n x

    long : long_memory main_limits own ≡ true
    long = own-long own (all 60000 0)
        (all 1024 0) (all 1024 0) (all 1024 65535) (all 1024 0)
        (all 8192 0) (all 8192 0)
        (all 1024 65535) (all 1024 0) (all 1024 0)
        (all 16384 0) (length-replicate 16384 (pos 0)) (all 16384 0) (all 1024 0)

-- ---- the bytes written lie in the output
pub bytes-in : (file old new : List ℕ) (code bytes : ℕ) → SheetsServe main_limits file old new code bytes → bytes ≤ length new
bytes-in file old new code bytes s = go (leb 122880 (length old)) s
  where
    go : (b : Bool) → Prints b (sheets_of main_limits file) old new code bytes → bytes ≤ length new
    go false p = omega (arith, p.nothing)
    go true p = omega (arith, p.output.bytes, ap length p.output.output, length-append (sheets_of main_limits file).report (drop bytes old))
