-- Laws of the rows from a cursor on: which forms they have, the next one, the first n. Rests on Lines.
use Prim.Native.Nat.{ℕ, zero, suc, ◌+◌, ◌-◌, ◌≤◌, ◌<◌}
use native.Mathlib.Omega.{arith}
use mathlib.Core.Path.{◌≡◌, refl, ap, sym, ◌∙◌}
use mathlib.Core.Bool.{Bool, true, false, ◌&&◌, cond, true≢false, and-false}
use mathlib.Core.List.{List, [], ◌∷◌}
use borrow.Author.Tests.{eqb-true, ne_eqb, le-leb, lt-leb, leb-true, leb-false}
use lib.Dec.{eqb, leb}
use lib.ListN.{length, take, drop}
use lib.Seq.{slice, drop-drop}
use Rattle.laws.specs.Fold.{all}
use Rattle.laws.specs.Choice.{and_left, and_right}
use Rattle.model.specs.Grammar.{Fields, bytes, same, parts, is_number}
use Rattle.model.specs.Hmetis.{is_part, Sections, with_line, sections, later, words, numbers_in, is_edge}
use Rattle.passes.specs.Rows.{lines_at, sections_at, rows_at, no_sections, line_then, at_part, RowAt, well_rows, RowsPassed, NoPart, PartPassed}

-- ---- PART is no row of numbers
same-is : (l m : List ℕ) → same l m ≡ true → l ≡ m
unfolding same
same-is [] [] e = refl
same-is [] (y ∷ m) e = absurd (true≢false (sym e))
same-is (x ∷ l) [] e = absurd (true≢false (sym e))
same-is (x ∷ l) (y ∷ m) e = cc (eqb-true x y (and_left (eqb x y) (same l m) e), same-is l m (and_right (eqb x y) (same l m) e))

abbrev pub PART : List ℕ
PART = bytes "PART"

pub part-number : is_number PART ≡ false
unfolding is_number bytes all
part-number = refl

pub part_edge : (weighted : Bool) → is_edge weighted PART ≡ false
unfolding is_edge numbers_in words later parts is_number bytes all
part_edge true = refl
part_edge false = refl

pub no_part : (p : List ℕ → Bool) → p PART ≡ false → (l : List ℕ) → p l ≡ true → is_part l ≡ false
no_part p n l e = go (is_part l) refl
  where
    go : (b : Bool) → is_part l ≡ b → b ≡ false
    go true q = absurd (true≢false (sym e ∙ ap p (same-is l PART q) ∙ n))
    go false q = refl

-- ---- one row
pub then-part : (l : List ℕ) (ls : Fields) → is_part l ≡ true → line_then l ls ≡ at_part ls
unfolding line_then
then-part l ls e = ap (λ (b : Bool). cond b (at_part ls) (with_line l (sections ls))) e

pub then-row : (l : List ℕ) (ls : Fields) → is_part l ≡ false → line_then l ls ≡ with_line l (sections ls)
unfolding line_then
then-row l ls e = ap (λ (b : Bool). cond b (at_part ls) (with_line l (sections ls))) e

-- ---- rows that have a form
module _ (p : List ℕ → Bool) where
  pub well-zero : (ls : Fields) → well_rows p 0 ls ≡ true
  unfolding well_rows all
  well-zero ls = rw (le-leb 0 (length ls) (omega arith))

  well-none : (m : ℕ) → 1 ≤ m → well_rows p m [] ≡ false
  unfolding well_rows
  well-none m l = ap (λ (b : Bool). b && all (take m []) p) (lt-leb m 0 (omega arith))

  well-bad : (m : ℕ) (l : List ℕ) (ls : Fields) → 1 ≤ m → p l ≡ false → well_rows p m (l ∷ ls) ≡ false
  unfolding well_rows all
  well-bad zero l ls some e = absurd (omega arith)
  well-bad (suc m) l ls some e = ap (λ (b : Bool). leb (suc m) (suc (length ls)) && (b && all (take m ls) p)) e ∙ and-false (leb (suc m) (suc (length ls)))

  well-on : (m : ℕ) (l : List ℕ) (ls : Fields) → 1 ≤ m → p l ≡ true → well_rows p m (l ∷ ls) ≡ well_rows p (m - 1) ls
  unfolding well_rows all
  well-on zero l ls some e = absurd (omega arith)
  well-on (suc m) l ls some e =
      let z : suc m - 1 ≡ m = omega arith in
      rw (z, e) (ap (λ (b : Bool). b && all (take m ls) p) (fewer m (length ls)))
    where
      fewer : (a b : ℕ) → leb (suc a) (suc b) ≡ leb a b
      fewer a b = go (leb a b) refl
        where
          go : (t : Bool) → leb a b ≡ t → leb (suc a) (suc b) ≡ t
          go true q = le-leb (suc a) (suc b) (omega (arith, leb-true a b q))
          go false q = lt-leb (suc a) (suc b) (omega (arith, leb-false a b q))

  pub well-all : (n : ℕ) (ls : Fields) → well_rows p n ls ≡ true → (n ≤ length ls) × (all (take n ls) p ≡ true)
  unfolding well_rows
  well-all n ls e = (leb-true n (length ls) (and_left _ _ e), and_right (leb n (length ls)) _ e)

  pub all-well : (n : ℕ) (ls : Fields) → n ≤ length ls → all (take n ls) p ≡ true → well_rows p n ls ≡ true
  unfolding well_rows
  all-well n ls l e = rw (le-leb n (length ls) l, e)

-- the next row stands from a to e, of the m that have a form
pub record RowHere (p : List ℕ → Bool) (s : List ℕ) (i m a e : ℕ) : Type 0 where
  pub more : e < length s
  pub rows : rows_at s i ≡ slice a e s ∷ rows_at s (e + 1)
  pub form : p (slice a e s) ≡ true
  pub well : well_rows p (m - 1) (rows_at s (e + 1)) ≡ true
  pub first : take m (rows_at s i) ≡ slice a e s ∷ take (m - 1) (rows_at s (e + 1))

take-first : (m : ℕ) (l : List ℕ) (ls : Fields) → 1 ≤ m → take m (l ∷ ls) ≡ l ∷ take (m - 1) ls
take-first zero l ls some = absurd (omega arith)
take-first (suc m) l ls some = let z : suc m - 1 ≡ m = omega arith in rw z

module _ (p : List ℕ → Bool) (not : p PART ≡ false) (s : List ℕ) (i a e : ℕ) (row : RowAt s i a e) where
  pub row_here : (m : ℕ) → 1 ≤ m → well_rows p m (rows_at s i) ≡ true → RowHere p s i m a e
  row_here m some w = here (is_part (slice a e s)) refl (p (slice a e s)) refl
    where
      never : (ls : Fields) → rows_at s i ≡ ls → well_rows p m ls ≡ false → ⊥
      never ls q f = true≢false (sym w ∙ ap (well_rows p m) q ∙ f)

      here : (b : Bool) → is_part (slice a e s) ≡ b → (c : Bool) → p (slice a e s) ≡ c → RowHere p s i m a e
      here true q c f = absurd (never [] (ap (λ (x : Sections). x.graph) (row.line ∙ then-part (slice a e s) (lines_at s (e + 1)) q)) (well-none p m some))
      here false q false f = absurd (never (slice a e s ∷ rows_at s (e + 1)) (ap (λ (x : Sections). x.graph) (row.line ∙ then-row (slice a e s) (lines_at s (e + 1)) q)) (well-bad p m (slice a e s) (rows_at s (e + 1)) some f))
      here false q true f =
          let rows = ap (λ (x : Sections). x.graph) (row.line ∙ then-row (slice a e s) (lines_at s (e + 1)) q) in
          record {
            more = row.high;
            rows = rows;
            form = f;
            well = sym (well-on p m (slice a e s) (rows_at s (e + 1)) some f) ∙ ap (well_rows p m) (sym rows) ∙ w;
            first = ap (take m) rows ∙ take-first m (slice a e s) (rows_at s (e + 1)) some;
          }

-- where rows are left, there is one
pub row_there : (p : List ℕ → Bool) (s : List ℕ) (i m : ℕ) → 1 ≤ m → well_rows p m (rows_at s i) ≡ true → sections_at s i ≡ no_sections → ⊥
row_there p s i m some w q = true≢false (sym w ∙ ap (λ (x : Sections). well_rows p m x.graph) q ∙ well-none p m some)

-- ---- rows passed over
pub record OnRows (p : List ℕ → Bool) (s : List ℕ) (at n i k : ℕ) : Type 0 where
  pub low : 1 ≤ i
  pub high : i ≤ length s
  pub done : k ≤ n
  pub rest : rows_at s i ≡ drop k (rows_at s at)
  pub found : (sections_at s i).found ≡ (sections_at s at).found
  pub listing : (sections_at s i).listing ≡ (sections_at s at).listing
  pub says : well_rows p n (rows_at s at) ≡ well_rows p (n - k) (rows_at s i)

pub rows_start : (p : List ℕ → Bool) (s : List ℕ) (at n : ℕ) → 1 ≤ at → at ≤ length s → OnRows p s at n at 0
rows_start p s at n l h = record { low = l; high = h; done = omega arith; rest = refl; found = refl; listing = refl; says = let z : n ≡ n - 0 = omega arith in ap (λ (m : ℕ). well_rows p m (rows_at s at)) z }

module _ (p : List ℕ → Bool) (s : List ℕ) (at n i k : ℕ) (on : OnRows p s at n i k) where
  pub rows-done : n ≤ k → RowsPassed p s at n i
  rows-done l =
      let z : n - k ≡ 0 = omega arith in
      let q : k ≡ n = omega (arith, on.done) in
      record {
        low = on.low;
        well = on.says ∙ ap (λ (m : ℕ). well_rows p m (rows_at s i)) z ∙ well-zero p (rows_at s i);
        high = on.high;
        rest = on.rest ∙ ap (λ (m : ℕ). drop m (rows_at s at)) q;
        found = on.found;
        listing = on.listing;
      }

  pub rows_short : k < n → sections_at s i ≡ no_sections → well_rows p n (rows_at s at) ≡ false
  rows_short more q = on.says ∙ ap (λ (x : Sections). well_rows p (n - k) x.graph) q ∙ well-none p (n - k) (omega arith)

  module _ (a e : ℕ) (row : RowAt s i a e) (more : k < n) where
    pub rows-bad : p (slice a e s) ≡ false → well_rows p n (rows_at s at) ≡ false
    rows-bad f = on.says ∙ ap (λ (x : Sections). well_rows p (n - k) x.graph) row.line ∙ go (is_part (slice a e s)) refl
      where
        go : (b : Bool) → is_part (slice a e s) ≡ b → well_rows p (n - k) (line_then (slice a e s) (lines_at s (e + 1))).graph ≡ false
        go true q = ap (λ (x : Sections). well_rows p (n - k) x.graph) (then-part (slice a e s) (lines_at s (e + 1)) q) ∙ well-none p (n - k) (omega arith)
        go false q = ap (λ (x : Sections). well_rows p (n - k) x.graph) (then-row (slice a e s) (lines_at s (e + 1)) q) ∙ well-bad p (n - k) (slice a e s) (rows_at s (e + 1)) (omega arith) f

    pub rows-first : p PART ≡ false → p (slice a e s) ≡ true → take (n - k) (rows_at s i) ≡ slice a e s ∷ take (n - (k + 1)) (rows_at s (e + 1))
    rows-first not f =
        let x = row.line ∙ then-row (slice a e s) (lines_at s (e + 1)) (no_part p not (slice a e s) f) in
        let z : n - k - 1 ≡ n - (k + 1) = omega arith in
        ap (λ (x : Sections). take (n - k) x.graph) x ∙ take-first (n - k) (slice a e s) (rows_at s (e + 1)) (omega arith) ∙ ap (λ (m : ℕ). slice a e s ∷ take m (rows_at s (e + 1))) z

    pub rows_on : p PART ≡ false → p (slice a e s) ≡ true → OnRows p s at n (e + 1) (k + 1)
    rows_on not f =
        let x = row.line ∙ then-row (slice a e s) (lines_at s (e + 1)) (no_part p not (slice a e s) f) in
        let g = ap (λ (x : Sections). x.graph) x in
        let z : n - k - 1 ≡ n - (k + 1) = omega arith in
        record {
          low = omega arith;
          high = omega (arith, row.high);
          done = omega arith;
          rest = ap (drop 1) (sym g ∙ on.rest) ∙ drop-drop 1 k (rows_at s at);
          found = ap (λ (x : Sections). x.found) (sym x) ∙ on.found;
          listing = ap (λ (x : Sections). x.listing) (sym x) ∙ on.listing;
          says = on.says ∙ ap (well_rows p (n - k)) g ∙ well-on p (n - k) (slice a e s) (rows_at s (e + 1)) (omega arith) f ∙ ap (λ (m : ℕ). well_rows p m (rows_at s (e + 1))) z;
        }

-- ---- PART passed over
module _ (s : List ℕ) (at a e : ℕ) (row : RowAt s at a e) where
  pub part-other : is_part (slice a e s) ≡ false → NoPart s at
  part-other f = record { none = ap (λ (x : Sections). eqb (length x.graph) 0 && x.found) (row.line ∙ then-row (slice a e s) (lines_at s (e + 1)) f) ∙ ap (λ (b : Bool). b && (sections_at s (e + 1)).found) (ne_eqb (suc (length (rows_at s (e + 1)))) 0 (λ z. omega arith)) }

  pub part-here : is_part (slice a e s) ≡ true → PartPassed s at (e + 1)
  part-here f =
      let x = row.line ∙ then-part (slice a e s) (lines_at s (e + 1)) f in
      record {
        low = omega arith;
        high = omega (arith, row.high);
        none = ap (λ (x : Sections). x.graph) x;
        found = ap (λ (x : Sections). x.found) x;
        listing = ap (λ (x : Sections). x.listing) x;
      }
