-- The drafts' bales added up, session by session, and model's test of them. Rests on Drafts of specs and guarantees' laws of a catalogue with no contraction.
use Prim.Native.Nat.{ℕ, zero, suc, ◌+◌, ◌-◌, ◌*◌, ◌≤◌, ◌<◌}
use native.Mathlib.Omega.{arith}
use native.Mathlib.Numerals.{add-one}
use mathlib.Core.Path.{◌≡◌, refl, ap, ap₂, sym, ◌∙◌}
use mathlib.Core.Bool.{Bool, true, false, cond, ◌||◌}
use mathlib.Core.List.{List, [], ◌∷◌, map}
use borrow.Author.Tests.{lt-ltb, le-ltb}
use lib.Dec.{eqb, ltb}
use lib.ListN.{length, get_or, take}
use lib.Seq.{length-take-le, get_or-take}
use Rattle.laws.specs.Fold.{sum_over, sum_over-more, all-get}
use Rattle.laws.specs.Sum.{sum, sum_to, sum-zero, sum-suc, sum_step, sum_mono, sum-const, sum-sum_to, fold_to-none, fold_to-more, fold_to-found, fold_to-ext}
use Rattle.model.specs.Catalogue.{loaded, drafted}
use Rattle.model.specs.Measure.{block_weight}
use Rattle.model.specs.Machine.{fresh}
use Rattle.model.specs.Grammar.{Book}
use Rattle.model.specs.Hall.{bales, fresh_desks}
use Rattle.model.specs.HallText.{graphs, drafts_over}
use Rattle.guarantees.specs.Splits.{block_weight-none}
use Rattle.block_weights.specs.Term.{block_term}
use Rattle.loader.specs.Tables.{graph}
use Rattle.loader.specs.declared.Sizes.{Sizes}
use Rattle.hall_lines.specs.Heading.{hall_book}
use Rattle.hall_loader.specs.Sets.{Set, Sets, set_of}
use Rattle.hall_loader.specs.Books.{no_sizes, book_in, books_to, AcceptsIn}
use Rattle.hall_loader.specs.Drafts.{LightLots, Light, bales_in, draft_bales, above_to, drafts_above}

-- ---- one catalogue's bales in a session
lot-le : (v : ℕ) (w : List ℕ) → LightLots v w → (i : ℕ) → i < v → get_or w i 0 ≤ 65535
lot-le v w l i u = omega (arith, get_or-take v w i 0 u, all-get (take v w) (λ x. x ≤ 65535) 0 l.light i (omega (arith, u, length-take-le v w l.long)))

share-le : (t : Bool) (x : ℕ) → x ≤ 65535 → cond t x 0 ≤ 65535
share-le true x l = l
share-le false x l = omega arith

pub session-le : (t v : ℕ) (w d : List ℕ) → LightLots v w → sum v (block_term t w d) ≤ 67107840
session-le t v w d l = omega (arith, sum_mono v (block_term t w d) (λ i. 65535) (λ i u. share-le (eqb (get_or d i 0) t) (get_or w i 0) (lot-le v w l i u)), sum-const v 65535, l.few)

-- ---- the first c catalogues' bales in session t
pub record OnBales (count t : ℕ) (zs : List Sizes) (w d : List (List ℕ)) (total c : ℕ) : Type 0 where
  pub light : Light count zs w d
  pub c-le : c ≤ count
  pub is : total ≡ sum c (bales_in t zs w d)
  pub few : total ≤ c * 67107840

pub bales-start : (count t : ℕ) (zs : List Sizes) (w d : List (List ℕ)) → Light count zs w d → OnBales count t zs w d 0 0
bales-start count t zs w d l = record { light = l; c-le = omega arith; is = sym (sum-zero (bales_in t zs w d)); few = omega arith }

module _ (count t : ℕ) (zs : List Sizes) (w d : List (List ℕ)) (total c : ℕ) (on : OnBales count t zs w d total c) where
  pub bales-done : c ≡ count → total ≡ draft_bales count t zs w d
  unfolding draft_bales
  bales-done e = on.is ∙ ap (λ (n : ℕ). sum n (bales_in t zs w d)) e

  module _ (lt : c < count) (r : ℕ) (is : r ≡ bales_in t zs w d c) where
    pub more-le : r ≤ 67107840
    more-le = omega (arith, is, session-le t (get_or zs c no_sizes).vertices (get_or w c []) (get_or d c []) (on.light.each c lt))

    pub bales-on : OnBales count t zs w d (total + r) (c + 1)
    bales-on = record { light = on.light; c-le = omega arith; is = omega (arith, on.is, is, sum_step c (bales_in t zs w d)); few = omega (arith, on.few, more-le) }

-- ---- the first n sessions
above-none : (count limit : ℕ) (zs : List Sizes) (w d : List (List ℕ)) → above_to 0 count limit zs w d ≡ false
unfolding above_to
above-none count limit zs w d = fold_to-none (λ t. ltb limit (draft_bales count t zs w d))

pub record OnAbove (count limit : ℕ) (zs : List Sizes) (w d : List (List ℕ)) (t : ℕ) : Type 0 where
  pub light : Light count zs w d
  pub t-le : t ≤ 16
  pub below : above_to t count limit zs w d ≡ false

pub above-start : (count limit : ℕ) (zs : List Sizes) (w d : List (List ℕ)) → Light count zs w d → OnAbove count limit zs w d 0
above-start count limit zs w d l = record { light = l; t-le = omega arith; below = above-none count limit zs w d }

module _ (count limit : ℕ) (zs : List Sizes) (w d : List (List ℕ)) (t : ℕ) (on : OnAbove count limit zs w d t) where
  pub above-done : t ≡ 16 → false ≡ drafts_above count limit zs w d
  above-done e = sym (ap (λ (n : ℕ). above_to n count limit zs w d) (sym e) ∙ on.below)

  module _ (lt : t < 16) (r : ℕ) (is : r ≡ draft_bales count (t + 1) zs w d) where
    here : ltb limit (draft_bales count (suc t) zs w d) ≡ ltb limit r
    here = ap (λ (n : ℕ). ltb limit (draft_bales count n zs w d)) (sym (add-one t)) ∙ ap (ltb limit) (sym is)

    pub above-found : limit < r → true ≡ drafts_above count limit zs w d
    unfolding above_to
    above-found l = sym (fold_to-found 16 (suc t) (λ t. ltb limit (draft_bales count t zs w d)) (omega arith) (omega arith) (here ∙ lt-ltb limit r l))

    next : r ≤ limit → above_to (suc t) count limit zs w d ≡ false
    unfolding above_to
    next l = fold_to-more t (λ t. ltb limit (draft_bales count t zs w d)) on.below (here ∙ le-ltb limit r l)

    pub above_on : r ≤ limit → OnAbove count limit zs w d (t + 1)
    above_on l = record { light = on.light; t-le = omega arith; below = ap (λ (n : ℕ). above_to n count limit zs w d) (add-one t) ∙ next l }

-- ---- model's test
fresh-bales : (ks : List Book) (t : ℕ) → bales (fresh_desks (map (λ k. k.graph) ks)) t ≡ sum_over ks (λ k. block_weight k.graph [] (drafted k.graph) t)
unfolding bales fresh_desks sum_over fresh
fresh-bales [] t = refl
fresh-bales (k ∷ ks) t = ap (λ (n : ℕ). block_weight k.graph [] (drafted k.graph) t + n) (fresh-bales ks t)

session-is : (z : Sizes) (Y : Set) (t : ℕ) → z.vertices ≤ length Y.lists.weights
    → block_weight (graph z Y.lists Y.costs Y.lows) [] (drafted (graph z Y.lists Y.costs Y.lows)) t ≡ sum z.vertices (block_term t Y.lists.weights Y.lists.blocks)
session-is z Y t l =
    let h = graph z Y.lists Y.costs Y.lows in
    let v = z.vertices in
    let w = Y.lists.weights in
    let d = Y.lists.blocks in
    block_weight-none h (drafted h) t
    ∙ ap (λ (n : ℕ). sum_to n (λ u. cond (eqb (drafted h u) t) (loaded h u) 0)) (length-take-le v w l)
    ∙ sym (sum-sum_to v (block_term t w d) (λ u. cond (eqb (drafted h u) t) (loaded h u) 0) (λ i u.
    let z : suc i - 1 ≡ i = omega arith in
    rw (z, get_or-take v d i 0 u, get_or-take v w i 0 u)))

books-bales : (est : ℕ → Bool) (zs : List Sizes) (H : Sets) (t c : ℕ) → ((d : ℕ) → d < c → (get_or zs d no_sizes).vertices ≤ length (get_or H.weights d []))
    → sum_over (books_to est zs H c) (λ k. block_weight k.graph [] (drafted k.graph) t) ≡ sum c (bales_in t zs H.weights H.blocks)
unfolding books_to sum_over
books-bales est zs H t zero f = sym (sum-zero (bales_in t zs H.weights H.blocks))
books-bales est zs H t (suc c) f =
    sum_over-more (books_to est zs H c) (book_in (est c) (get_or zs c no_sizes) (set_of c H)) (λ k. block_weight k.graph [] (drafted k.graph) t)
    ∙ ap₂ (λ (m n : ℕ). m + n) (books-bales est zs H t c (λ d u. f d (omega arith))) (session-is (get_or zs c no_sizes) (set_of c H) t (f c (omega arith)))
    ∙ sym (sum-suc c (bales_in t zs H.weights H.blocks))

pub over-is : (est : ℕ → Bool) (zs : List Sizes) (H : Sets) (count limit : ℕ) → Light count zs H.weights H.blocks
    → drafts_over limit (graphs (hall_book count limit (books_to est zs H count) [])) ≡ drafts_above count limit zs H.weights H.blocks
unfolding drafts_over above_to draft_bales
over-is est zs H count limit l =
    fold_to-ext 16 (λ b t. b || ltb limit (bales (fresh_desks (map (λ k. k.graph) (books_to est zs H count))) t)) (λ b t. b || ltb limit (sum count (bales_in t zs H.weights H.blocks))) false
    (λ b t p q. ap (λ (n : ℕ). b || ltb limit n) (fresh-bales (books_to est zs H count) t ∙ books-bales est zs H t count (λ d u. (l.each d u).long)))

-- ---- accepted catalogues are so
take_long : (v : ℕ) (w : List ℕ) → length (take v w) ≡ v → v ≤ length w
take_long zero w e = omega arith
take_long (suc v) [] e = absurd (omega (arith, e))
take_long (suc v) (x ∷ w) e = omega (arith, take_long v w (omega (arith, e)))

pub accepted-light : (est : ℕ → Bool) (zs : List Sizes) (old H : Sets) (count : ℕ) → count ≤ 4 → 4 ≤ length H.weights → 4 ≤ length H.blocks
    → ((c : ℕ) → c < count → AcceptsIn est zs old H c) → Light count zs H.weights H.blocks
accepted-light est zs old H count few ws bs a = record {
  few = few;
  weights-four = ws;
  blocks-four = bs;
  each = λ c u.
      let g = (a c u).wide in
      record { few = g.range.l-high; long = take_long (get_or zs c no_sizes).vertices (get_or H.weights c []) g.vertices-are; light = g.ranges.loaded.weights-in };
}
