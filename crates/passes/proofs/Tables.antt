-- Rows read into tables, checked and written, one row further. Rests on Rows.
use Prim.Native.Nat.{ℕ, suc, ◌+◌, ◌-◌, ◌*◌, ◌≤◌, ◌<◌}
use native.Mathlib.Nat.{zero-add}
use native.Mathlib.Numerals.{add-one}
use native.Mathlib.Omega.{arith}
use mathlib.Core.Path.{◌≡◌, refl, ap, sym, ◌∙◌, subst}
use mathlib.Core.Bool.{Bool, true, false, ◌&&◌, and-true}
use mathlib.Core.List.{List, [], ◌∷◌, ◌++◌, map, append-nil}
use borrow.Author.Tests.{ltb-true}
use lib.Dec.{ltb}
use lib.ListN.{length, get_or, set, take, drop, length-append, drop_of_length-le}
use lib.Seq.{slice, take-suc-set, drop-cons, length-take-le, get_or-take, append_snoc}
use Rattle.laws.specs.Fold.{sum_over, all}
use Rattle.laws.specs.Choice.{and_left, and_right}
use Rattle.model.specs.Grammar.{Fields, is_number, value, within, bytes}
use Rattle.model.specs.Report.{digits, tail, row}
use Rattle.text.specs.Field.{FirstAt}
use Rattle.model.specs.CatalogueText.{numbers, lot_text, buy_text}
use Rattle.fields.specs.Wrote.{Wrote, Remains}
use Rattle.fields.proofs.Laws.{remains-all, remains-more, remains-none, remains-room}
use Rattle.model.specs.Hmetis.{Edge, is_edge, edge_of}
use Rattle.model.specs.Convert.{is_carried, net_of}
use Rattle.spaced.specs.Pins.{Fresh, NoEdge, EdgeChecked, edge_row}
use Rattle.passes.specs.Rows.{lines_at, rows_at, RowAt, well_rows}
use Rattle.passes.specs.Read.{WeightsRead, BlocksRead, edges_at, EdgesRead}
use Rattle.passes.proofs.Lines.{lines-on, lines_none, lines_end}
use Rattle.passes.proofs.Rows.{part-number, part_edge, RowHere, OnRows, rows_start, rows-done, rows-bad, rows-first, rows_on}

-- ---- tests over a list
all_nil : {A : Type 0} (p : A → Bool) → all [] p ≡ true
unfolding all
all_nil p = refl

all_cons : {A : Type 0} (x : A) (xs : List A) (p : A → Bool) → all (x ∷ xs) p ≡ (p x && all xs p)
unfolding all
all_cons x xs p = refl

and-three : (a b c : Bool) → (a && (b && c)) ≡ ((a && b) && c)
and-three true b c = refl
and-three false b c = refl

-- one element further, where the tests before it gave good, and its own gives b
all-next : {A : Type 0} (p : A → Bool) (whole : Bool) (good b g : Bool) (x : A) (xs rest : List A) → rest ≡ x ∷ xs → whole ≡ (good && all rest p) → b ≡ p x → g ≡ (good && b) → whole ≡ (g && all xs p)
all-next p whole good b g x xs rest next says is both =
    says ∙ ap (λ (l : List _). good && all l p) next ∙ ap (λ (t : Bool). good && t) (all_cons x xs p) ∙ and-three good (p x) (all xs p)
    ∙ ap (λ (t : Bool). (good && t) && all xs p) (sym is) ∙ ap (λ (t : Bool). t && all xs p) (sym both)

all_end : {A : Type 0} (p : A → Bool) (whole good : Bool) (rest : List A) → rest ≡ [] → whole ≡ (good && all rest p) → good ≡ whole
all_end p whole good rest none says = sym (says ∙ ap (λ (l : List _). good && all l p) none ∙ ap (λ (t : Bool). good && t) (all_nil p) ∙ and-true good)

-- one entry more of a table: the list that begins as the table does
table_on : (table : List ℕ) (k v : ℕ) (vs : List ℕ) → k < length table → take k table ++ (v ∷ vs) ≡ take (k + 1) (set table k v) ++ vs
table_on table k v vs lt = sym (ap (λ (l : List ℕ). l ++ vs) (ap (λ (m : ℕ). take m (set table k v)) (add-one k) ∙ take-suc-set table k v lt) ∙ append_snoc (take k table) v vs)

-- ---- weights
abbrev numbers_at : List ℕ → ℕ → ℕ → List ℕ
numbers_at s i m = map value (take m (rows_at s i))

pub record OnWeights (s : List ℕ) (at n : ℕ) (table : List ℕ) (i k : ℕ) (good : Bool) : Type 0 where
  pub rows : OnRows is_number s at n i k
  pub len : length table ≡ 1024
  pub says : all (numbers_at s at n) (within 1 65535) ≡ (good && all (numbers_at s i (n - k)) (within 1 65535))
  pub are : n ≤ 1024 → numbers_at s at n ≡ take k table ++ numbers_at s i (n - k)

module _ (s : List ℕ) (at n : ℕ) (table : List ℕ) (i k : ℕ) (good : Bool) (on : OnWeights s at n table i k good) where
  pub weights-done : n ≤ k → WeightsRead s at n i good table
  weights-done l =
      let z : n - k ≡ 0 = omega arith in
      let q : k ≡ n = omega (arith, on.rows.done) in
      let none : numbers_at s i (n - k) ≡ [] = ap (numbers_at s i) z in
      record {
        len = on.len;
        passed = rows-done is_number s at n i k on.rows l;
        says = all_end (within 1 65535) _ good (numbers_at s i (n - k)) none on.says;
        are = λ few. sym (on.are few ∙ ap (λ (l : List ℕ). take k table ++ l) none ∙ append-nil (take k table) ∙ ap (λ (m : ℕ). take m table) q);
      }

  module _ (a e : ℕ) (row : RowAt s i a e) (more : k < n) (form : is_number (slice a e s) ≡ true) (w : ℕ) (is : w ≡ value (slice a e s)) where
    next : numbers_at s i (n - k) ≡ w ∷ numbers_at s (e + 1) (n - (k + 1))
    next = ap (map value) (rows-first is_number s at n i k on.rows a e row more part-number form) ∙ ap (λ (x : ℕ). x ∷ numbers_at s (e + 1) (n - (k + 1))) (sym is)

    pub weights-on : (b : Bool) → b ≡ within 1 65535 w → (g : Bool) → g ≡ (good && b) → (table' : List ℕ) → length table' ≡ 1024 → (k < 1024 → table' ≡ set table k w) → OnWeights s at n table' (e + 1) (k + 1) g
    weights-on b range g both table' len kept = record {
      rows = rows_on is_number s at n i k on.rows a e row more part-number form;
      len = len;
      says = all-next (within 1 65535) _ good b g w (numbers_at s (e + 1) (n - (k + 1))) (numbers_at s i (n - k)) next on.says range both;
      are = λ few.
          on.are few ∙ ap (λ (l : List ℕ). take k table ++ l) next ∙ table_on table k w (numbers_at s (e + 1) (n - (k + 1))) (omega (arith, on.len))
          ∙ ap (λ (t : List ℕ). take (k + 1) t ++ numbers_at s (e + 1) (n - (k + 1))) (sym (kept (omega arith)));
    }

-- ---- blocks
abbrev blocks_at : List ℕ → ℕ → List ℕ
blocks_at s i = map value (lines_at s i)

pub record OnBlocks (s : List ℕ) (at blocks : ℕ) (table : List ℕ) (i k : ℕ) (good : Bool) : Type 0 where
  pub few : k < i
  pub high : i ≤ length s
  pub len : length table ≡ 1024
  pub well : all (lines_at s at) is_number ≡ all (lines_at s i) is_number
  pub left : length (lines_at s at) ≡ k + length (lines_at s i)
  pub says : all (blocks_at s at) (λ b. ltb b blocks) ≡ (good && all (blocks_at s i) (λ b. ltb b blocks))
  pub are : good ≡ true → blocks ≤ 16 → length (lines_at s at) ≤ 1024 → map suc (blocks_at s at) ≡ take k table ++ map suc (blocks_at s i)

module _ (s : List ℕ) (at blocks : ℕ) (table : List ℕ) (i k : ℕ) (good : Bool) (on : OnBlocks s at blocks table i k good) where
  ended : lines_at s i ≡ [] → BlocksRead s at blocks k good table
  ended none =
      let q : k ≡ length (lines_at s at) = omega (arith, on.left, ap length none) in
      record {
        len = on.len;
        well = on.well ∙ ap (λ (ls : Fields). all ls is_number) none ∙ all_nil is_number;
        lines_are = q;
        says = all_end (λ b. ltb b blocks) _ good (blocks_at s i) (ap (map value) none) on.says;
        are = λ yes few fit. sym (on.are yes few fit ∙ ap (λ (ls : Fields). take k table ++ map suc (map value ls)) none ∙ append-nil (take k table) ∙ ap (λ (m : ℕ). take m table) q);
      }

  pub blocks_end : i ≡ length s → BlocksRead s at blocks k good table
  blocks_end q = ended (lines_end s i q)

  module _ (e : ℕ) (found : FirstAt s i (length s) 10 e) where
    pub blocks-none : e ≡ length s → BlocksRead s at blocks k good table
    blocks-none q = ended (lines_none s i e on.high found q)

    module _ (lt : e < length s) where
      line-tests : all (lines_at s at) is_number ≡ (is_number (slice i e s) && all (lines_at s (e + 1)) is_number)
      line-tests = on.well ∙ ap (λ (ls : Fields). all ls is_number) (lines-on s i e on.high found lt) ∙ all_cons (slice i e s) (lines_at s (e + 1)) is_number

      pub blocks-bad : is_number (slice i e s) ≡ false → all (lines_at s at) is_number ≡ false
      blocks-bad n = line-tests ∙ ap (λ (t : Bool). t && all (lines_at s (e + 1)) is_number) n

      module _ (form : is_number (slice i e s) ≡ true) (b : ℕ) (is : b ≡ value (slice i e s)) where
        line : lines_at s i ≡ slice i e s ∷ lines_at s (e + 1)
        line = lines-on s i e on.high found lt

        next-block : blocks_at s i ≡ b ∷ blocks_at s (e + 1)
        next-block = ap (map value) line ∙ ap (λ (x : ℕ). x ∷ blocks_at s (e + 1)) (sym is)

        pub blocks-on : (g : Bool) → g ≡ (good && ltb b blocks) → (table' : List ℕ) → length table' ≡ 1024 → (k < 1024 → b < 16 → table' ≡ set table k (b + 1)) → OnBlocks s at blocks table' (e + 1) (k + 1) g
        blocks-on g both table' len kept = record {
          few = omega (arith, on.few, found.low);
          high = omega arith;
          len = len;
          well = line-tests ∙ ap (λ (t : Bool). t && all (lines_at s (e + 1)) is_number) form;
          left = omega (arith, on.left, ap length line);
          says = all-next (λ b. ltb b blocks) _ good (ltb b blocks) g b (blocks_at s (e + 1)) (blocks_at s i) next-block on.says refl both;
          are = λ yes few fit.
              let t = sym both ∙ yes in
              let known : b < blocks = ltb-true b blocks (and_right good (ltb b blocks) t) in
              on.are (and_left good (ltb b blocks) t) few fit
              ∙ ap (λ (l : List ℕ). take k table ++ map suc l) next-block
              ∙ ap (λ (y : ℕ). take k table ++ (y ∷ map suc (blocks_at s (e + 1)))) (sym (add-one b))
              ∙ table_on table k (b + 1) (map suc (blocks_at s (e + 1))) (omega (arith, on.len, on.left, ap length line))
              ∙ ap (λ (t : List ℕ). take (k + 1) t ++ map suc (blocks_at s (e + 1))) (sym (kept (omega (arith, on.left, ap length line)) (omega arith)));
        }

-- ---- edges checked
abbrev pins_of : List Edge → ℕ
pins_of es = sum_over es (λ e. length e.pins)

abbrev text_of : List Edge → List ℕ
text_of es = buy_text (map net_of es)

pins-cons : (x : Edge) (es : List Edge) → pins_of (x ∷ es) ≡ length x.pins + pins_of es
unfolding sum_over
pins-cons x es = refl

text-cons : (x : Edge) (es : List Edge) → text_of (x ∷ es) ≡ edge_row x ++ text_of es
unfolding buy_text
text-cons x es = refl

text-size : (x : Edge) (es : List Edge) → length (text_of (x ∷ es)) ≡ length (edge_row x) + length (text_of es)
text-size x es = ap length (text-cons x es) ∙ length-append (edge_row x) (text_of es)

pins-nil : pins_of [] ≡ 0
unfolding sum_over
pins-nil = refl

text-nil : text_of [] ≡ []
unfolding buy_text
text-nil = refl

pub record OnEdges (weighted : Bool) (s : List ℕ) (at n v : ℕ) (stamps : List ℕ) (i k : ℕ) (good : Bool) (pins size : ℕ) : Type 0 where
  pub rows : OnRows (is_edge weighted) s at n i k
  pub turns : k < i
  pub len : length stamps ≡ 1024
  pub fresh : Fresh (k + 1) stamps
  pub few : pins ≤ i
  pub small : size ≤ 11 * pins + 15 * k
  pub says : all (edges_at weighted s at n) (is_carried v) ≡ (good && all (edges_at weighted s i (n - k)) (is_carried v))
  pub pins-are : pins + pins_of (edges_at weighted s i (n - k)) ≡ pins_of (edges_at weighted s at n)
  pub size_is : size + length (text_of (edges_at weighted s i (n - k))) ≡ length (text_of (edges_at weighted s at n))

pub edges-start : (weighted : Bool) (s : List ℕ) (at n v : ℕ) (stamps : List ℕ) → 1 ≤ at → at ≤ length s → length stamps ≡ 1024 → ((x : ℕ) → get_or stamps x 0 ≡ 0) → OnEdges weighted s at n v stamps at 0 true 0 0
edges-start weighted s at n v stamps l h len blank =
    let z : n ≡ n - 0 = omega arith in
    record {
      rows = rows_start (is_edge weighted) s at n l h;
      turns = omega arith;
      len = len;
      fresh = record { below = λ x. omega (arith, blank x) };
      few = omega arith;
      small = omega arith;
      says = ap (λ (m : ℕ). all (edges_at weighted s at m) (is_carried v)) z;
      pins-are = zero-add _ ∙ ap (λ (m : ℕ). pins_of (edges_at weighted s at m)) (sym z);
      size_is = zero-add _ ∙ ap (λ (m : ℕ). length (text_of (edges_at weighted s at m))) (sym z);
    }

module _ (weighted : Bool) (s : List ℕ) (at n v : ℕ) (stamps : List ℕ) (i k : ℕ) (good : Bool) (pins size : ℕ) (on : OnEdges weighted s at n v stamps i k good pins size) where
  pub edges-done : length s ≤ 60000 → n ≤ k → EdgesRead weighted s at n v i good pins size
  edges-done short l =
      let z : n - k ≡ 0 = omega arith in
      record {
        passed = rows-done (is_edge weighted) s at n i k on.rows l;
        says = all_end (is_carried v) _ good (edges_at weighted s i (n - k)) (ap (edges_at weighted s i) z) on.says;
        pins-are = omega (arith, on.pins-are, ap (λ (m : ℕ). pins_of (edges_at weighted s i m)) z, pins-nil);
        size_is = omega (arith, on.size_is, ap (λ (m : ℕ). length (text_of (edges_at weighted s i m))) z, ap length text-nil);
        small = omega (arith, on.small, on.few, on.turns, on.rows.high);
      }

  module _ (a e : ℕ) (row : RowAt s i a e) (more : k < n) where
    pub edges-stop : {stamps' : List ℕ} → NoEdge s a e weighted stamps' → well_rows (is_edge weighted) n (rows_at s at) ≡ false
    edges-stop x = rows-bad (is_edge weighted) s at n i k on.rows a e row more x.form

    pub edges-on : (count : ℕ) (b : Bool) (bytes : ℕ) (stamps' : List ℕ) → EdgeChecked s a e weighted v (k + 1) count b bytes stamps' → (g : Bool) → g ≡ (good && b) → OnEdges weighted s at n v stamps' (e + 1) (k + 1) g (pins + count) (size + bytes)
    edges-on count b bytes stamps' x g both =
        let edge : Edge = edge_of weighted (slice a e s) in
        let left : List Edge = edges_at weighted s (e + 1) (n - (k + 1)) in
        let next : edges_at weighted s i (n - k) ≡ edge ∷ left = ap (map (edge_of weighted)) (rows-first (is_edge weighted) s at n i k on.rows a e row more (part_edge weighted) x.form) in
        record {
          rows = rows_on (is_edge weighted) s at n i k on.rows a e row more (part_edge weighted) x.form;
          turns = omega (arith, on.turns, row.low, row.mid);
          len = x.len;
          fresh = record { below = λ y. omega (arith, x.below y) };
          few = omega (arith, on.few, x.few, row.low);
          small = omega (arith, on.small, x.small);
          says = all-next (is_carried v) _ good b g edge left (edges_at weighted s i (n - k)) next on.says x.says both;
          pins-are = omega (arith, on.pins-are, ap pins_of next, pins-cons edge left, x.count-is);
          size_is = omega (arith, on.size_is, ap (λ (es : List Edge). length (text_of es)) next, text-size edge left, x.size_is);
        }

-- ---- edges written
pub record OnNets (weighted : Bool) (s : List ℕ) (at n : ℕ) (out₀ : List ℕ) (p : ℕ) (out : List ℕ) (i q k : ℕ) : Type 0 where
  pub high : i ≤ length s
  pub done : k ≤ n
  pub well : well_rows (is_edge weighted) (n - k) (rows_at s i) ≡ true
  pub left : Remains out₀ p (text_of (edges_at weighted s at n)) out q (text_of (edges_at weighted s i (n - k)))

pub nets-start : (weighted : Bool) (s : List ℕ) (at n : ℕ) (out : List ℕ) (p : ℕ) → at ≤ length s → well_rows (is_edge weighted) n (rows_at s at) ≡ true → OnNets weighted s at n out p out at p 0
nets-start weighted s at n out p h w =
    let z : n ≡ n - 0 = omega arith in
    record {
      high = h;
      done = omega arith;
      well = subst (λ (m : ℕ). well_rows (is_edge weighted) m (rows_at s at) ≡ true) z w;
      left = subst (λ (m : ℕ). Remains out p (text_of (edges_at weighted s at n)) out p (text_of (edges_at weighted s at m))) z (remains-all out p (text_of (edges_at weighted s at n)));
    }

module _ (weighted : Bool) (s : List ℕ) (at n : ℕ) (out₀ : List ℕ) (p : ℕ) (out : List ℕ) (i q k : ℕ) (on : OnNets weighted s at n out₀ p out i q k) (room : p + length (text_of (edges_at weighted s at n)) ≤ length out₀) where
  pub nets-done : n ≤ k → Wrote out₀ out p (text_of (edges_at weighted s at n)) q
  nets-done l =
      let z : n - k ≡ 0 = omega arith in
      remains-none (subst (λ (t : List ℕ). Remains out₀ p (text_of (edges_at weighted s at n)) out q t) (ap (λ (m : ℕ). text_of (edges_at weighted s i m)) z ∙ text-nil) on.left)

  module _ (a e : ℕ) (here : RowHere (is_edge weighted) s i (n - k) a e) where
    abbrev rest : List Edge
    rest = edges_at weighted s (e + 1) (n - k - 1)

    left-edge : Remains out₀ p (text_of (edges_at weighted s at n)) out q (edge_row (edge_of weighted (slice a e s)) ++ text_of rest)
    left-edge = subst (λ (t : List ℕ). Remains out₀ p (text_of (edges_at weighted s at n)) out q t) (ap (λ (ls : Fields). text_of (map (edge_of weighted) ls)) here.first ∙ text-cons (edge_of weighted (slice a e s)) rest) on.left

    pub nets-room : q + length (edge_row (edge_of weighted (slice a e s))) ≤ length out
    nets-room = remains-room room (edge_row (edge_of weighted (slice a e s))) (text_of rest) left-edge

    pub nets-on : (out' : List ℕ) (q' : ℕ) → k < n → Wrote out out' q (edge_row (edge_of weighted (slice a e s))) q' → OnNets weighted s at n out₀ p out' (e + 1) q' (k + 1)
    nets-on out' q' lt w =
        let z : n - k - 1 ≡ n - (k + 1) = omega arith in
        record {
          high = omega (arith, here.more);
          done = omega arith;
          well = subst (λ (m : ℕ). well_rows (is_edge weighted) m (rows_at s (e + 1)) ≡ true) z here.well;
          left = subst (λ (m : ℕ). Remains out₀ p (text_of (edges_at weighted s at n)) out' q' (text_of (edges_at weighted s (e + 1) m))) z (remains-more room (edge_row (edge_of weighted (slice a e s))) (text_of rest) left-edge w);
        }

-- ---- lots
-- the lines of the lots from the k-th on, of n
abbrev pub lots_from : ℕ → List ℕ → List ℕ → ℕ → List ℕ
lots_from n w d k = lot_text (drop k (take n w)) (drop k (take n d))

abbrev pub lot_row : ℕ → ℕ → List ℕ
lot_row w b = row "LOT" (numbers (w ∷ b ∷ []))

drop-take : (l : List ℕ) (n k : ℕ) → k < n → n ≤ length l → drop k (take n l) ≡ get_or l k 0 ∷ drop (k + 1) (take n l)
drop-take l n k lt h =
    drop-cons (take n l) k 0 (omega (arith, length-take-le n l h))
    ∙ ap (λ (x : ℕ). x ∷ drop (suc k) (take n l)) (get_or-take n l k 0 lt)
    ∙ ap (λ (m : ℕ). get_or l k 0 ∷ drop m (take n l)) (sym (add-one k))

lot-cons : (w b : ℕ) (ws ds : List ℕ) → lot_text (w ∷ ws) (b ∷ ds) ≡ lot_row w b ++ lot_text ws ds
unfolding lot_text
lot-cons w b ws ds = refl

lot-nil : lot_text [] [] ≡ []
unfolding lot_text
lot-nil = refl

module _ (n : ℕ) (w d : List ℕ) (wl : n ≤ length w) (dl : n ≤ length d) where
  pub lots-on : (k : ℕ) → k < n → lots_from n w d k ≡ lot_row (get_or w k 0) (get_or d k 0) ++ lots_from n w d (k + 1)
  lots-on k lt =
      ap (λ (l : List ℕ). lot_text l (drop k (take n d))) (drop-take w n k lt wl)
      ∙ ap (λ (l : List ℕ). lot_text (get_or w k 0 ∷ drop (k + 1) (take n w)) l) (drop-take d n k lt dl)
      ∙ lot-cons (get_or w k 0) (get_or d k 0) (drop (k + 1) (take n w)) (drop (k + 1) (take n d))

  nothing : (l : List ℕ) (k : ℕ) → n ≤ length l → n ≤ k → drop k (take n l) ≡ []
  nothing l k h m = drop_of_length-le (take n l) {i = k} (omega (arith, length-take-le n l h))

  pub lots-none : (k : ℕ) → n ≤ k → lots_from n w d k ≡ []
  lots-none k m = ap (λ (l : List ℕ). lot_text l (drop k (take n d))) (nothing w k wl m) ∙ ap (lot_text []) (nothing d k dl m) ∙ lot-nil

  lot-size : (x b : ℕ) → length (lot_row x b) ≡ 6 + length (digits x) + length (digits b)
  unfolding row bytes tail
  lot-size x b = omega (arith, length-append (digits x) (44 ∷ (digits b ++ (10 ∷ []))), length-append (digits b) (10 ∷ []))

  pub lots-size-on : (k : ℕ) → k < n → length (lots_from n w d k) ≡ 6 + length (digits (get_or w k 0)) + length (digits (get_or d k 0)) + length (lots_from n w d (k + 1))
  lots-size-on k lt = omega (arith, ap length (lots-on k lt), length-append (lot_row (get_or w k 0) (get_or d k 0)) (lots_from n w d (k + 1)), lot-size (get_or w k 0) (get_or d k 0))

  -- the lines of the lots written
  module _ (out₀ : List ℕ) (p : ℕ) (out : List ℕ) (q k b : ℕ) (room : p + length (lots_from n w d 0) ≤ length out₀) (left : Remains out₀ p (lots_from n w d 0) out q (lots_from n w d k)) where
    pub lots-end : n ≤ k → Wrote out₀ out p (lots_from n w d 0) q
    lots-end m = remains-none (subst (λ (t : List ℕ). Remains out₀ p (lots_from n w d 0) out q t) (lots-none k m) left)

    module _ (lt : k < n) (is : b ≡ get_or d k 0) where
      left-lot : Remains out₀ p (lots_from n w d 0) out q (lot_row (get_or w k 0) b ++ lots_from n w d (k + 1))
      left-lot = subst (λ (t : List ℕ). Remains out₀ p (lots_from n w d 0) out q t) (lots-on k lt ∙ ap (λ (x : ℕ). lot_row (get_or w k 0) x ++ lots_from n w d (k + 1)) (sym is)) left

      pub lots-room : q + length (lot_row (get_or w k 0) b) ≤ length out
      lots-room = remains-room room (lot_row (get_or w k 0) b) (lots_from n w d (k + 1)) left-lot

      pub lots-more : (out' : List ℕ) (q' : ℕ) → Wrote out out' q (lot_row (get_or w k 0) b) q' → Remains out₀ p (lots_from n w d 0) out' q' (lots_from n w d (k + 1))
      lots-more out' q' x = remains-more room (lot_row (get_or w k 0) b) (lots_from n w d (k + 1)) left-lot x
