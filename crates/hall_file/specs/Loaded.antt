-- A hall as loading left it: what is known of its catalogues and of the sets of tables that hold them. Rests on Views and on hall_loader's promise.
-- Assumes nothing.
use Rattle.std.specs.Prelude.{ℕ, zero, suc, ◌<◌, ◌≤◌, ◌≡◌, refl, Bool, false, List, [], ◌∷◌, ◌++◌, map, length, get_or}
use Rattle.std.proofs.Math.Decide.{ℕ_discrete}
use Rattle.std.proofs.Common.{arith, sym, ap, ◌∙◌, subst, get_or-append-add}
use Rattle.std.proofs.Math.ListN.{get_or-append}
use Rattle.laws.specs.Fold.{all-get}
use Rattle.model.specs.Catalogue.{main_limits, Hypergraph}
use Rattle.model.specs.Sale.{opened}
use Rattle.model.specs.Grammar.{Book}
use Rattle.model.specs.Hall.{no_desk, fresh_desks}
use Rattle.model.specs.HallText.{HallBook, in_calls, graphs, parse_hall}
use Rattle.model.specs.HallDemand.{AcceptedHall}
use Rattle.guarantees.specs.Reached.{Valid}
use Rattle.hall_guarantees.specs.Loading.{Whole as WholeBook, Opened, hall-opens, fresh-length}
use Rattle.hall_guarantees.specs.Fits.{graphs-length}
use Rattle.loader.specs.Tables.{graph}
use Rattle.loader.specs.declared.Sizes.{Sizes}
use Rattle.sale.specs.Files.{Long}
use Rattle.call_list.specs.Opened.{Prepared}
use Rattle.hall_lines.specs.Heading.{hall_book}
use Rattle.hall_lines.specs.LedTable.{led_calls_of}
use Rattle.hall_loader.specs.Sets.{Sets as LoaderSets, set_of as loader_set}
use Rattle.hall_loader.specs.Books.{no_sizes, book_in, books_to}
use Rattle.hall_loader.specs.HallFile.{AcceptsHall}
use Rattle.hall_loader.proofs.Series.{books-length}
use Rattle.model.specs.HallLent.{HallTables}
use Rattle.hall_file.specs.Views.{loaded_in, Four}

-- the file was accepted: `old` is what the lists that loading writes held before, T the lent tables after it. The lows are the engine's own
pub record HallCatalogued (file : List ℕ) (estimated : ℕ → Bool) (count limit lines : ℕ) (zs : List Sizes) (old : LoaderSets) (lows : List (List ℕ)) (T : HallTables) (netweights : List (List ℕ)) (calls ops out : List ℕ) : Type 0 where
  pub says : in_calls (hall_book count limit (books_to estimated zs (loaded_in T netweights lows) count) (led_calls_of ops lines calls)) ≡ parse_hall file
  pub accepts : AcceptsHall estimated count limit lines zs old (loaded_in T netweights lows) calls ops
  pub long : (c : ℕ) → c < 4 → Long main_limits out (loader_set c old).lists (get_or T.counts c []) (get_or T.gains c []) (get_or T.index c []) (get_or T.visited c [])
  pub four : Four T
  pub netweights-four : 4 ≤ length netweights
  pub calls-long : 2048 ≤ length calls

-- what such a file says
abbrev pub book_of : (ℕ → Bool) → ℕ → ℕ → ℕ → List Sizes → List (List ℕ) → HallTables → List (List ℕ) → List ℕ → List ℕ → HallBook
book_of estimated count limit lines zs lows T netweights calls ops = hall_book count limit (books_to estimated zs (loaded_in T netweights lows) count) (led_calls_of ops lines calls)

-- no catalogue
abbrev no_book : Book
no_book = book_in false no_sizes (loader_set 0 (record { weights = []; blocks = []; aboves = []; fixed = []; loaded_pins = []; present_pins = []; firsts = []; loaded_sizes = []; present_sizes = []; costs = []; lows = [] }))

book-at : (est : ℕ → Bool) (zs : List Sizes) (H : LoaderSets) (n c : ℕ) → c < n → get_or (books_to est zs H n) c no_book ≡ book_in (est c) (get_or zs c no_sizes) (loader_set c H)
unfolding books_to
book-at est zs H zero c l = absurd (omega arith)
book-at est zs H (suc n) c l = go (ℕ_discrete c n) (book-at est zs H n c)
  where
    last : Book
    last = book_in (est n) (get_or zs n no_sizes) (loader_set n H)

    here : get_or (books_to est zs H n ++ (last ∷ [])) n no_book ≡ last
    here =
        let e : length (books_to est zs H n) ≡ n = books-length est zs H n in
        ap (λ (i : ℕ). get_or (books_to est zs H n ++ (last ∷ [])) i no_book) (omega (arith, e)) ∙ get_or-append-add (books_to est zs H n) (last ∷ []) 0 no_book

    go : Dec (c ≡ n) → (c < n → get_or (books_to est zs H n) c no_book ≡ book_in (est c) (get_or zs c no_sizes) (loader_set c H))
        → get_or (books_to est zs H n ++ (last ∷ [])) c no_book ≡ book_in (est c) (get_or zs c no_sizes) (loader_set c H)
    go (yes q) below = ap (λ (i : ℕ). get_or (books_to est zs H n ++ (last ∷ [])) i no_book) q ∙ here ∙ ap (λ (i : ℕ). book_in (est i) (get_or zs i no_sizes) (loader_set i H)) (sym q)
    go (no q) below = get_or-append (books_to est zs H n) (last ∷ []) no_book c (omega (arith, q, l, books-length est zs H n)) ∙ below (omega (arith, q, l))

fresh_at : (hs : List Hypergraph) (c : ℕ) → c < length hs → get_or (fresh_desks hs) c no_desk ≡ opened (get_or hs c no_desk.graph)
unfolding fresh_desks
fresh_at [] c l = absurd (omega arith)
fresh_at (h ∷ hs) zero l = refl
fresh_at (h ∷ hs) (suc c) l = fresh_at hs c (omega arith)

graph-in : (ks : List Book) (c : ℕ) → c < length ks → get_or (map (λ k. k.graph) ks) c no_desk.graph ≡ (get_or ks c no_book).graph
graph-in [] c l = absurd (omega arith)
graph-in (k ∷ ks) zero l = refl
graph-in (k ∷ ks) (suc c) l = graph-in ks c (omega arith)

module _ {file : List ℕ} {estimated : ℕ → Bool} {count limit lines : ℕ} {zs : List Sizes} {old : LoaderSets} {lows : List (List ℕ)} {T : HallTables} {netweights : List (List ℕ)} {calls ops out : List ℕ}
    (g : HallCatalogued file estimated count limit lines zs old lows T netweights calls ops out) where
  abbrev H : LoaderSets
  H = loaded_in T netweights lows

  abbrev pub K : HallBook
  K = book_of estimated count limit lines zs lows T netweights calls ops

  abbrev pub hs : List Hypergraph
  hs = graphs K

  -- the catalogue c as the tables show it, the first being 0
  abbrev pub shown : ℕ → Hypergraph
  shown c = graph (get_or zs c no_sizes) (loader_set c H).lists (get_or netweights c []) (get_or lows c [])

  pub opens : Opened K
  opens = hall-opens file K (sym g.says)

  pub accepted : AcceptedHall limit hs
  accepted = record { file = file; book = K; loads = sym g.says; limit_is = refl; graphs-are = refl }

  pub catalogues : length hs ≡ count
  catalogues = graphs-length (books_to estimated zs H count) ∙ books-length estimated zs H count

  pub desks : length (fresh_desks hs) ≡ count
  desks = fresh-length hs ∙ catalogues

  pub few : count ≤ 4
  few = g.accepts.announced.few

  pub graph_at : (c : ℕ) → c < count → get_or hs c no_desk.graph ≡ shown c
  graph_at c l = graph-in (books_to estimated zs H count) c (omega (arith, l, books-length estimated zs H count)) ∙ ap (λ (k : Book). k.graph) (book-at estimated zs H count c l)

  pub desk-at : (c : ℕ) → c < count → get_or (fresh_desks hs) c no_desk ≡ opened (shown c)
  desk-at c l = fresh_at hs c (omega (arith, l, catalogues)) ∙ ap (λ (h : Hypergraph). opened h) (graph_at c l)

  valid-at : (c : ℕ) → c < count → Valid main_limits (opened (shown c))
  valid-at c l =
      subst (λ (k : Book). Valid main_limits (opened k.graph)) (book-at estimated zs H count c l)
      (all-get (books_to estimated zs H count) WholeBook no_book opens.stocked.each c (omega (arith, l, books-length estimated zs H count))).valid

  -- each can be opened
  pub prepared : (c : ℕ) → c < count → Prepared main_limits (get_or zs c no_sizes) (loader_set c old).lists (loader_set c H).lists (get_or netweights c []) (get_or lows c []) (get_or T.counts c []) (get_or T.gains c []) (get_or T.index c []) (get_or T.visited c [])
  prepared c l = let long = g.long c (omega (arith, l, few)) in record {
    narrow = long.within.sessions-few;
    short = long.within.lots-few;
    few = long.within.few;
    long = long.lists-long;
    counts-long = long.counts-long;
    gains-long = long.gains-long;
    index-long = long.index-long;
    visited-long = long.visited-long;
    accepts = (g.accepts.catalogues c l).wide;
    valid = valid-at c l;
  }
