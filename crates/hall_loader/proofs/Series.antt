-- One catalogue of a hall after another: what the lines from a cursor on say, and what the sets hold. Rests on hall_guarantees' HallThrough and on Sets.
use Prim.Native.Nat.{ℕ, zero, suc, ◌+◌, ◌-◌, ◌≤◌, ◌<◌}
use native.Mathlib.Decide.{ℕ_discrete}
use native.Mathlib.Omega.{arith}
use native.Mathlib.Numerals.{add-one}
use mathlib.Core.Path.{◌≡◌, refl, ap, ap₂, sym, subst, ◌∙◌}
use mathlib.Core.Bool.{Bool, false, cond}
use mathlib.Core.List.{List, [], ◌∷◌, ◌++◌}
use borrow.Author.Tests.{eq-eqb, ne_eqb, lt-ltb, le-ltb}
use lib.Dec.{eqb, ltb}
use lib.ListN.{length, get_or, set, length-append, length-set}
use lib.Seq.{slice, get_or-set_same, get_or-set_other}
use Rattle.laws.specs.Fold.{sum_over, sum_over-more}
use Rattle.model.specs.Catalogue.{Limits, main_limits}
use Rattle.model.specs.Grammar.{Book, unread, parts}
use Rattle.model.specs.Through.{ended, refused, through}
use Rattle.model.specs.HallText.{HallBook, HallReading, in_catalogue, hall_stopped, limits_left, with_book, taken, hall_lines}
use Rattle.guarantees.specs.Ranges.{ranges-wide}
use Rattle.hall_guarantees.specs.HallThrough.{on_hall, hall-through}
use Rattle.text.proofs.Walk.{parts-some}
use Rattle.lines.specs.Line.{limits_of, Within}
use Rattle.lines.specs.declared.Limits.{Limits as Given}
use Rattle.loader.specs.Tables.{catalogue_seen}
use Rattle.loader.specs.declared.Sizes.{Sizes}
use Rattle.loader.specs.declared.LoadedCatalogue.{LoadedCatalogue}
use Rattle.std.specs.Prelude.{Result, Ok, Err}
use Rattle.refusal.specs.declared.Refused.{Refused}
use Rattle.refusal.specs.Number.{number_of}
use Rattle.refusal.proofs.Results.{err-ok, ok-ok}
use Rattle.hall_lines.specs.Heading.{hall_book}
use Rattle.hall_loader.specs.Sets.{Set, Sets, set_of, put_set, Whole, Wide, Alike, own_put, other-put, whole-put, alike-start, alike-put}
use Rattle.hall_loader.specs.Books.{OneLoaded, CanSubtract, limits_after, no_sizes, book_in, books_to, AcceptsSet, AcceptsIn, complete, Behind, CanLoad, CataloguesLoaded}
use Rattle.hall_loader.specs.declared.Catalogues.{Catalogues}

-- ---- the catalogues that sizes and sets show
pub books-length : (est : ℕ → Bool) (zs : List Sizes) (H : Sets) (c : ℕ) → length (books_to est zs H c) ≡ c
unfolding books_to
books-length est zs H zero = refl
books-length est zs H (suc c) = omega (arith, length-append (books_to est zs H c) (book_in (est c) (get_or zs c no_sizes) (set_of c H) ∷ []), books-length est zs H c)

-- they depend on their own sizes and sets alone
books-same : (est est' : ℕ → Bool) (zs zs' : List Sizes) (H H' : Sets) (c : ℕ)
    → ((d : ℕ) → d < c → book_in (est d) (get_or zs d no_sizes) (set_of d H) ≡ book_in (est' d) (get_or zs' d no_sizes) (set_of d H'))
    → books_to est zs H c ≡ books_to est' zs' H' c
unfolding books_to
books-same est est' zs zs' H H' zero f = refl
books-same est est' zs zs' H H' (suc c) f = ap₂ (λ (l : List Book) (b : Book). l ++ (b ∷ [])) (books-same est est' zs zs' H H' c (λ d u. f d (omega arith))) (f c (omega arith))

-- est with b at c
unfoldable extended : (ℕ → Bool) → ℕ → Bool → ℕ → Bool
extended est c b d = cond (eqb d c) b (est d)

extended-at : (est : ℕ → Bool) (c : ℕ) (b : Bool) → extended est c b c ≡ b
unfolding extended
extended-at est c b = ap (λ (t : Bool). cond t b (est c)) (eq-eqb c c refl)

extended-off : (est : ℕ → Bool) (c : ℕ) (b : Bool) (d : ℕ) → (d ≡ c → ⊥) → extended est c b d ≡ est d
unfolding extended
extended-off est c b d ne = ap (λ (t : Bool). cond t b (est d)) (ne_eqb d c ne)

same-book : (e e' : Bool) (z z' : Sizes) (t t' : Set) → e ≡ e' → z ≡ z' → t ≡ t' → book_in e z t ≡ book_in e' z' t'
same-book e e' z z' t t' p q r = ap (λ (x : Bool). book_in x z t) p ∙ ap (λ (x : Sizes). book_in e' x t) q ∙ ap (book_in e' z') r

-- one catalogue more, in the set c
module _ (est : ℕ → Bool) (zs : List Sizes) (H : Sets) (c : ℕ) (b : Bool) (z : Sizes) (Y : Set) where
  books-old : (d : ℕ) → d ≤ c → books_to (extended est c b) (set zs c z) (put_set c Y H) d ≡ books_to est zs H d
  books-old d le =
      books-same (extended est c b) est (set zs c z) zs (put_set c Y H) H d
      (λ j u. let ne : j ≡ c → ⊥ = λ e. omega arith in
      same-book (extended est c b j) (est j) (get_or (set zs c z) j no_sizes) (get_or zs j no_sizes) (set_of j (put_set c Y H)) (set_of j H) (extended-off est c b j ne) (get_or-set_other zs c j z no_sizes ne) (other-put c j Y H ne))

  books-next : c < length zs → c < 4 → Whole H → books_to (extended est c b) (set zs c z) (put_set c Y H) (c + 1) ≡ books_to est zs H c ++ (book_in b z Y ∷ [])
  unfolding books_to
  books-next l u w =
      rw add-one
      (ap₂ (λ (ks : List Book) (k : Book). ks ++ (k ∷ [])) (books-old c (omega arith))
      (same-book (extended est c b c) b (get_or (set zs c z) c no_sizes) z (set_of c (put_set c Y H)) Y (extended-at est c b) (get_or-set_same zs c z no_sizes l) (own_put c Y H u w)))

-- ---- limits
same-limits : {a b c d a' b' c' d' : ℕ} → a ≡ a' → b ≡ b' → c ≡ c' → d ≡ d'
    → ◌≡◌ {A = Limits} (record { vertex_limit = a; block_limit = b; net_limit = c; pin_limit = d }) (record { vertex_limit = a'; block_limit = b'; net_limit = c'; pin_limit = d' })
same-limits e f g h = cc

left-none : (limits : Given) → limits.lots ≡ 1024 → limits.sessions ≡ 16 → limits.buyers ≡ 1024 → limits.marks ≡ 8192 → limits_of limits ≡ limits_left []
unfolding limits_left sum_over
left-none limits a b c d = same-limits (omega (arith, a)) b (omega (arith, c)) (omega (arith, d))

left-more : (limits : Given) (ks : List Book) (b : Bool) (z : Sizes) (Y : Set) → limits_of limits ≡ limits_left ks → limits_of (limits_after limits z) ≡ limits_left (ks ++ (book_in b z Y ∷ []))
unfolding limits_left
left-more limits ks b z Y e =
    let k = book_in b z Y in
    let v : limits.lots ≡ 1024 - sum_over ks (λ k. k.lots) = ap (λ (l : Limits). l.vertex_limit) e in
    let s : limits.sessions ≡ 16 = ap (λ (l : Limits). l.block_limit) e in
    let n : limits.buyers ≡ 1024 - sum_over ks (λ k. k.buyers) = ap (λ (l : Limits). l.net_limit) e in
    let m : limits.marks ≡ 8192 - sum_over ks (λ k. k.marks) = ap (λ (l : Limits). l.pin_limit) e in
    same-limits (omega (arith, v, sum_over-more ks k (λ k. k.lots))) s (omega (arith, n, sum_over-more ks k (λ k. k.buyers))) (omega (arith, m, sum_over-more ks k (λ k. k.marks)))

-- what is within narrower limits is within document 01's
pub accepts-wide : (limits : Limits) → Within limits → (z : Sizes) (old new : Set) → AcceptsSet limits z old new → AcceptsSet main_limits z old new
accepts-wide limits w z old new a = record {
  range = record {
    l-low = a.range.l-low;
    l-high = omega (arith, a.range.l-high, w.lots-few);
    b-high = omega (arith, a.range.b-high, w.few.nets-few);
    k-low = a.range.k-low;
    k-high = omega (arith, a.range.k-high, w.sessions-few);
    t-high = a.range.t-high;
  };
  pins-le = omega (arith, a.pins-le, w.few.pins-few);
  costs = a.costs;
  ranges = ranges-wide limits main_limits w.lots-few w.sessions-few _ a.ranges;
  vertices-are = a.vertices-are;
  nets-are = a.nets-are;
  pins-are = a.pins-are;
  average = a.average;
  capacity = a.capacity;
  capped = a.capped;
  started = a.started;
}

within-less : (limits : Given) (z : Sizes) → Within (limits_of limits) → Within (limits_of (limits_after limits z))
within-less limits z w = record { lots-few = omega (arith, w.lots-few); sessions-few = w.sessions-few; few = record { nets-few = omega (arith, w.few.nets-few); pins-few = omega (arith, w.few.pins-few) } }

-- ---- the lines
-- after c catalogues: the next one's first line, or what follows the last one
abbrev onward : ℕ → HallBook → HallReading
onward n K = cond (ltb (length K.books) K.announced) (in_catalogue K unread) (complete n K)

onward-next : (n count limit : ℕ) (ks : List Book) → length ks < count → onward n (hall_book count limit ks []) ≡ in_catalogue (hall_book count limit ks []) unread
onward-next n count limit ks l = ap (λ (t : Bool). cond t (in_catalogue (hall_book count limit ks []) unread) (complete n (hall_book count limit ks []))) (lt-ltb (length ks) count l)

onward-done : (n count limit : ℕ) (ks : List Book) → length ks ≡ count → onward n (hall_book count limit ks []) ≡ complete n (hall_book count limit ks [])
onward-done n count limit ks e = ap (λ (t : Bool). cond t (in_catalogue (hall_book count limit ks []) unread) (complete n (hall_book count limit ks []))) (le-ltb (length ks) count (omega arith))

through-parts : (K : HallBook) (n : ℕ) (x : List ℕ) → hall_lines n (in_catalogue K unread) (parts 10 x) ≡ on_hall K (through (limits_left K.books) n unread (parts 10 x))
unfolding taken
through-parts K n x = go (parts 10 x) refl
  where
    go : (ps : List (List ℕ)) → parts 10 x ≡ ps → hall_lines n (in_catalogue K unread) ps ≡ on_hall K (through (limits_left K.books) n unread ps)
    go [] e = absurd (parts-some 10 x e)
    go (l ∷ ls) e = hall-through K n unread l ls

by-book : (count limit : ℕ) (ks : List Book) (k : Book) (n : ℕ) (ls : List (List ℕ)) → on_hall (hall_book count limit ks []) (ended k n ls) ≡ hall_lines n (onward (n - 1) (hall_book count limit (ks ++ (k ∷ [])) [])) ls
unfolding on_hall with_book
by-book count limit ks k n ls = refl

by-refusal : (K : HallBook) (q m : ℕ) → on_hall K (refused q m) ≡ hall_stopped q m
unfolding on_hall
by-refusal K q m = refl

-- ---- c catalogues are loaded, up to the cursor i, where the given line begins
pub record OnSets (s : List ℕ) (at count : ℕ) (H₀ H : Sets) (zs : List Sizes) (limits : Given) (i line c : ℕ) : Type 0 where
  pub i-le : i ≤ length s
  pub c-le : c ≤ count
  pub few : count ≤ 4
  pub whole : Whole H
  pub alike : Alike H₀ H
  pub wide-start : Wide 0 H₀
  pub sizes-long : length zs ≡ 4
  pub within : Within (limits_of limits)
  pub low : 2 ≤ line
  pub high : line + limits.lots + limits.buyers ≤ 2050 + c
  pub estimated : ℕ → Bool
  pub left_is : limits_of limits ≡ limits_left (books_to estimated zs H c)
  pub accepts : (d : ℕ) → d < c → AcceptsIn estimated zs H₀ H d
  pub kept : (d : ℕ) → c ≤ d → set_of d H ≡ set_of d H₀
  pub says : (limit : ℕ) → hall_lines 2 (in_catalogue (hall_book count limit [] []) unread) (parts 10 (slice at (length s) s))
      ≡ hall_lines line (onward (line - 1) (hall_book count limit (books_to estimated zs H c) [])) (parts 10 (slice i (length s) s))

pub sets-start : (s : List ℕ) (at count : ℕ) (H : Sets) (zs : List Sizes) (limits : Given) → CanLoad s at count H → length zs ≡ 4 → limits.lots ≡ 1024 → limits.sessions ≡ 16 → limits.buyers ≡ 1024 → limits.marks ≡ 8192
    → OnSets s at count H H zs limits at 2 0
unfolding books_to
sets-start s at count H zs limits can long el es eb em = record {
  i-le = can.at-le;
  c-le = omega arith;
  few = can.few;
  whole = can.whole;
  alike = alike-start H;
  wide-start = can.wide;
  sizes-long = long;
  within = record { lots-few = omega (arith, el); sessions-few = omega (arith, es); few = record { nets-few = omega (arith, eb); pins-few = omega (arith, em) } };
  low = omega arith;
  high = omega (arith, el, eb);
  estimated = λ d. false;
  left_is = left-none limits el es eb em;
  accepts = λ d u. absurd (omega arith);
  kept = λ d u. refl;
  says = λ limit. ap (λ (r : HallReading). hall_lines 2 r (parts 10 (slice at (length s) s))) (sym (onward-next (2 - 1) count limit [] (omega (arith, can.some))));
}

module _ (s : List ℕ) (at count : ℕ) (H₀ H : Sets) (zs : List Sizes) (limits : Given) (i line c : ℕ) (on : OnSets s at count H₀ H zs limits i line c) where
  pub still-wide : Wide c H
  still-wide d l u =
      let e = on.kept d l in
      let w = on.wide-start d (omega arith) u in
      (ap (λ (t : Set). length t.costs) e ∙ w.0, ap (λ (t : Set). length t.lows) e ∙ w.1)

  pub line-few : line ≤ 2054
  line-few = omega (arith, on.high, on.c-le, on.few)

  pub sets-done : c ≡ count → CataloguesLoaded count s at (Ok (record { sizes = zs; end = i; line = line })) H₀ H
  sets-done e = record {
    estimated = on.estimated;
    says = λ limit. sym (on.says limit
        ∙ ap (λ (r : HallReading). hall_lines line r (parts 10 (slice i (length s) s))) (onward-done (line - 1) count limit (books_to on.estimated zs H c) (books-length on.estimated zs H c ∙ e))
        ∙ ap (λ (d : ℕ). hall_lines line (complete (line - 1) (hall_book count limit (books_to on.estimated zs H d) [])) (parts 10 (slice i (length s) s))) e);
    behind = λ a z. subst (λ (x : Catalogues). Behind s x.end x.line) (ok-ok z) (record { inside = on.i-le; low = on.low; high = omega (arith, line-few) });
    sizes-long = λ a z. subst (λ (x : Catalogues). length x.sizes ≡ 4) (ok-ok z) on.sizes-long;
    accepts = λ a z d u. subst (λ (x : Catalogues). AcceptsIn on.estimated x.sizes H₀ H d) (ok-ok z) (on.accepts d (omega arith));
    kept = λ d u. on.kept d (omega arith);
  }

  -- where the next catalogue's loading answered r
  module _ (lt : c < count) (r : Result LoadedCatalogue Refused) (H' : Sets) (one : OneLoaded (limits_of limits) line s i c r H H') where
    abbrev Y : Set
    Y = one.after

    pub one_alike : Alike H₀ H'
    one_alike = subst (Alike H₀) (sym one.put) (alike-put c Y H₀ H on.alike)

    next : (limit : ℕ) → hall_lines 2 (in_catalogue (hall_book count limit [] []) unread) (parts 10 (slice at (length s) s))
        ≡ on_hall (hall_book count limit (books_to on.estimated zs H c) []) (catalogue_seen line s one.loads.estimated r Y.lists Y.costs Y.lows)
    next limit =
        let ks = books_to on.estimated zs H c in
        let x = slice i (length s) s in
        on.says limit
        ∙ ap (λ (y : HallReading). hall_lines line y (parts 10 x)) (onward-next (line - 1) count limit ks (omega (arith, books-length on.estimated zs H c)))
        ∙ through-parts (hall_book count limit ks []) line x
        ∙ ap (λ (l : Limits). on_hall (hall_book count limit ks []) (through l line unread (parts 10 x))) (sym on.left_is)
        ∙ ap (on_hall (hall_book count limit ks [])) (sym one.loads.says)

    pub sets-fail : (q : Refused) → r ≡ Err q → CataloguesLoaded count s at (Err q) H₀ H'
    sets-fail q e = record {
      estimated = on.estimated;
      says = λ limit.
          let K = hall_book count limit (books_to on.estimated zs H c) [] in
          sym (next limit ∙ ap (λ (y : Result LoadedCatalogue Refused). on_hall K (catalogue_seen line s one.loads.estimated y Y.lists Y.costs Y.lows)) e ∙ by-refusal K (number_of q.refusal) q.line);
      behind = λ a z. err-ok z;
      sizes-long = λ a z. err-ok z;
      accepts = λ a z. err-ok z;
      kept = λ d u. ap (set_of d) one.put ∙ other-put c d Y H (λ e. omega arith) ∙ on.kept d (omega arith);
    }

    module _ (y : LoadedCatalogue) (is : r ≡ Ok y) where
      abbrev z : Sizes
      z = y.sizes

      abbrev e : ℕ
      e = y.end

      told : AcceptsSet (limits_of limits) z (set_of c H) Y
      told = one.loads.accepts y is

      pub can-subtract : CanSubtract limits z
      can-subtract = record { lots = told.range.l-high; buyers = told.range.b-high; marks = told.pins-le; few = on.within.few.pins-few }

      abbrev est : ℕ → Bool
      est = extended on.estimated c one.loads.estimated

      -- the sets with this one in its place
      one_more : books_to est (set zs c z) (put_set c Y H) (c + 1) ≡ books_to on.estimated zs H c ++ (book_in one.loads.estimated z Y ∷ [])
      one_more = books-next on.estimated zs H c one.loads.estimated z Y (omega (arith, on.sizes-long, on.few)) (omega (arith, on.few)) on.whole

      accepted-old : (d : ℕ) → d < c → AcceptsIn est (set zs c z) H₀ (put_set c Y H) d
      accepted-old d u =
          let ne : d ≡ c → ⊥ = λ e. omega arith in
          let a = on.accepts d u in
          let ks = books-old on.estimated zs H c one.loads.estimated z Y d (omega arith) in
          let zd = get_or-set_other zs c d z no_sizes ne in
          let t = other-put c d Y H ne in
          let moved : (l : Limits) → AcceptsSet l (get_or zs d no_sizes) (set_of d H₀) (set_of d H) → AcceptsSet l (get_or (set zs c z) d no_sizes) (set_of d H₀) (set_of d (put_set c Y H)) =
          λ l x. subst (λ (y : Sizes). AcceptsSet l y (set_of d H₀) (set_of d (put_set c Y H))) (sym zd) (subst (λ (y : Set). AcceptsSet l (get_or zs d no_sizes) (set_of d H₀) y) (sym t) x) in
          record {
            near = subst (λ (l : List Book). AcceptsSet (limits_left l) (get_or (set zs c z) d no_sizes) (set_of d H₀) (set_of d (put_set c Y H))) (sym ks) (moved (limits_left (books_to on.estimated zs H d)) a.near);
            wide = moved main_limits a.wide;
          }

      accepted-new : AcceptsIn est (set zs c z) H₀ (put_set c Y H) c
      accepted-new =
          let ks = books-old on.estimated zs H c one.loads.estimated z Y c (omega arith) in
          let zd = get_or-set_same zs c z no_sizes (omega (arith, on.sizes-long, on.few)) in
          let t = own_put c Y H (omega (arith, on.few)) on.whole in
          let moved : (l : Limits) → AcceptsSet l z (set_of c H₀) Y → AcceptsSet l (get_or (set zs c z) c no_sizes) (set_of c H₀) (set_of c (put_set c Y H)) =
          λ l x. subst (λ (y : Sizes). AcceptsSet l y (set_of c H₀) (set_of c (put_set c Y H))) (sym zd) (subst (λ (y : Set). AcceptsSet l z (set_of c H₀) y) (sym t) x) in
          let own : AcceptsSet (limits_of limits) z (set_of c H₀) Y = subst (λ (y : Set). AcceptsSet (limits_of limits) z y Y) (on.kept c (omega arith)) told in
          record {
            near = moved (limits_left (books_to est (set zs c z) (put_set c Y H) c)) (subst (λ (l : Limits). AcceptsSet l z (set_of c H₀) Y) (on.left_is ∙ ap limits_left (sym ks)) own);
            wide = moved main_limits (accepts-wide (limits_of limits) on.within z (set_of c H₀) Y own);
          }

      accepted-by : (d : ℕ) → d < c + 1 → Dec (d ≡ c) → AcceptsIn est (set zs c z) H₀ (put_set c Y H) d
      accepted-by d u (yes p) = subst (AcceptsIn est (set zs c z) H₀ (put_set c Y H)) (sym p) accepted-new
      accepted-by d u (no p) = accepted-old d (omega arith)

      on-put : OnSets s at count H₀ (put_set c Y H) (set zs c z) (limits_after limits z) e (line + 1 + z.vertices + z.nets) (c + 1)
      on-put = record {
        i-le = one.loads.inside y is;
        c-le = omega arith;
        few = on.few;
        whole = whole-put c Y H on.whole;
        alike = alike-put c Y H₀ H on.alike;
        wide-start = on.wide-start;
        sizes-long = length-set zs c z ∙ on.sizes-long;
        within = within-less limits z on.within;
        low = omega (arith, on.low);
        high = omega (arith, on.high, told.range.l-high, told.range.b-high);
        estimated = est;
        left_is = left-more limits (books_to on.estimated zs H c) one.loads.estimated z Y on.left_is ∙ ap limits_left (sym one_more);
        accepts = λ d u. accepted-by d u (ℕ_discrete d c);
        kept = λ d u. other-put c d Y H (λ e. omega arith) ∙ on.kept d (omega arith);
        says = λ limit.
            let ks = books_to on.estimated zs H c in
            let n = line + 1 + z.vertices + z.nets in
            let x = parts 10 (slice e (length s) s) in
            next limit
            ∙ ap (λ (y : Result LoadedCatalogue Refused). on_hall (hall_book count limit ks []) (catalogue_seen line s one.loads.estimated y Y.lists Y.costs Y.lows)) is
            ∙ by-book count limit ks (book_in one.loads.estimated z Y) n x
            ∙ ap (λ (l : List Book). hall_lines n (onward (n - 1) (hall_book count limit l [])) x) (sym one_more);
      }

      sets-on : OnSets s at count H₀ H' (set zs c z) (limits_after limits z) e (line + 1 + z.vertices + z.nets) (c + 1)
      sets-on = subst (λ (X : Sets). OnSets s at count H₀ X (set zs c z) (limits_after limits z) e (line + 1 + z.vertices + z.nets) (c + 1)) (sym one.put) on-put

      pub sets-next : (rest : Given) → rest ≡ limits_after limits z → OnSets s at count H₀ H' (set zs c z) rest e (line + 1 + z.vertices + z.nets) (c + 1)
      sets-next rest q = subst (λ (x : Given). OnSets s at count H₀ H' (set zs c z) x e (line + 1 + z.vertices + z.nets) (c + 1)) (sym q) sets-on
