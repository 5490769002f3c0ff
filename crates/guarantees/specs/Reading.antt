-- What holds of the book after the first line, and is kept by each line of a vertex, of a net and of a call, holds of every accepted
-- file's book, and the catalogue is whole (accepted-keeps). Rests on model's Grammar alone. Assumes nothing.
use Prim.Native.Nat.{ℕ, suc, ◌+◌, ◌≤◌, ◌<◌, ◌-◌}
use native.Mathlib.Omega.{arith}
use Rattle.std.specs.Prelude.{◌≡◌, not, ◌&&◌, ◌||◌, ltb, drop}
use Rattle.std.proofs.Math.Path.{refl, ap, subst}
use Rattle.std.proofs.Common.{sym, ◌∙◌}
use Rattle.std.proofs.Math.Bool.{Bool, true, false, cond}
use mathlib.Core.List.{List, [], ◌∷◌, ◌++◌}
use borrow.Author.Tests.{leb-true, leb-false, ltb-true, ltb-false, not-false}
use Rattle.std.proofs.Math.Dec.{eqb, leb}
use Rattle.std.proofs.Math.ListN.{length, length-append, length-drop}
use Rattle.laws.specs.Fold.{any, All, all_more}
use Rattle.laws.specs.Occurrence.{Distinct, distinct_more}
use Rattle.laws.specs.Choice.{and_left, and_right}
use Rattle.model.specs.Catalogue.{Limits, Hypergraph, vertices, is_vertex, is_block}
use Rattle.model.specs.Sale.{Request}
use Rattle.model.specs.Through.{Stage, ended, refused, stage_of, through}
use Rattle.model.specs.Grammar.{Fields, at, fields, is_line_of, is_line, within, Book, Reading, unread, reading, stopped, whole, full, overfull, sale_line, grown, with_lot, ends_in_k, before_k, lot_line, Marking, marked, wrong, mark, marking, with_net, net_read, buy_line, Asked, asks, nothing, asked, with_call, call_line, line, ending, lines, parse, onto, parts, value}

-- ---- ranges
pub vertex-range : (h : Hypergraph) (v : ℕ) → is_vertex h v ≡ true → (1 ≤ v) × (v ≤ vertices h)
vertex-range h v q = (leb-true 1 v (and_left _ _ q), leb-true v (vertices h) (and_right (leb 1 v) _ q))

pub block-range : (h : Hypergraph) (b : ℕ) → is_block h b ≡ true → (1 ≤ b) × (b ≤ h.blocks)
block-range h b q = (leb-true 1 b (and_left _ _ q), leb-true b h.blocks (and_right (leb 1 b) _ q))

pub within-range : (l u x : ℕ) → within l u x ≡ true → (l ≤ x) × (x ≤ u)
within-range l u x q = (leb-true l x (and_left _ _ q), leb-true x u (and_right (leb l x) _ q))

-- ---- the marks of one net: `before` marks stood in the file, m with these
pub record Marks (limits : Limits) (h : Hypergraph) (before : ℕ) (vs : List ℕ) (m : ℕ) : Type 0 where
  pub in-range : All vs (λ x. (1 ≤ x) × (x ≤ vertices h))
  pub distinct : Distinct vs 0 (length vs)
  pub counted : m ≡ before + length vs
  pub few : before ≤ limits.pin_limit → m ≤ limits.pin_limit

module _ (limits : Limits) (h : Hypergraph) (before : ℕ) where
  -- as many marks as fields were read, where none was refused
  abbrev Marked : ℕ → Marking → Type 0
  Marked n (wrong q) = Unit {0}
  Marked n (marked vs m) = Marks limits h before vs m × (length vs ≡ n)

  marked-or : (n : ℕ) (b : Bool) (x y : Marking) → Marked n x → (b ≡ false → Marked n y) → Marked n (cond b x y)
  marked-or n true x y a f = a
  marked-or n false x y a f = f refl

  marked_more : (n : ℕ) (m : Marking) (v : ℕ) → Marked n m → Marked (suc n) (mark limits h m v)
  unfolding mark
  marked_more n (wrong q) v a = tt
  marked_more n (marked vs m) v a =
      marked-or (suc n) (not (is_vertex h v)) (wrong 3) _ tt
      (λ real. marked-or (suc n) (any vs (λ x. eqb x v)) (wrong 4) _ tt
      (λ new. marked-or (suc n) (leb limits.pin_limit m) (wrong 5) _ tt
      (λ room.
      let longer : length (vs ++ (v ∷ [])) ≡ length vs + 1 = length-append vs (v ∷ []) in
      let below : m < limits.pin_limit = leb-false limits.pin_limit m room in (
        record {
          in-range = all_more vs _ v a.0.in-range (vertex-range h v (not-false _ real));
          distinct = distinct_more vs v a.0.distinct new;
          counted = omega (arith, a.0.counted);
          few = λ _. omega arith;
        },
        omega (arith, a.1),
      ))))

  marked_all : (n : ℕ) (m : Marking) (fs : Fields) → Marked n m → Marked (n + length fs) (marking limits h m fs)
  unfolding marking
  marked_all n m [] a = subst (λ (k : ℕ). Marked k m) (zero_more n) a
    where
      zero_more : (n : ℕ) → n ≡ n + 0
      zero_more n = omega arith
  marked_all n m (f ∷ fs) a = subst (λ (k : ℕ). Marked k (marking limits h (mark limits h m (value f)) fs)) (one_more n (length fs)) (marked_all (suc n) (mark limits h m (value f)) fs (marked_more n m (value f) a))
    where
      one_more : (n k : ℕ) → suc n + k ≡ n + suc k
      one_more n k = omega arith

-- ---- the book after one line more
abbrev pub blank : Bool → ℕ → ℕ → ℕ → ℕ → Book
blank estimated n m k s = record { estimated = estimated; lots = n; buyers = m; graph = record { blocks = k; imbalance = s; total_weight = 0; lows = []; weights = []; draft = []; fixed = []; nets = [] }; marks = 0; calls = [] }

abbrev pub lotted : Book → ℕ → ℕ → ℕ → Bool → Book
lotted k low high b fixed = record { estimated = k.estimated; lots = k.lots; buyers = k.buyers; graph = with_lot k.graph low high b fixed; marks = k.marks; calls = [] }

abbrev pub netted : Book → ℕ → List ℕ → ℕ → Book
netted k w vs m = record { estimated = k.estimated; lots = k.lots; buyers = k.buyers; graph = with_net k.graph w vs; marks = m; calls = [] }

abbrev pub called : Book → Request → Book
called k c = record { estimated = k.estimated; lots = k.lots; buyers = k.buyers; graph = k.graph; marks = k.marks; calls = k.calls ++ (c ∷ []) }

-- on the last line of the catalogue no block of the draft is above its capacity
abbrev pub Even : Book → Type 0
Even k = whole k ≡ true → overfull k.graph ≡ false

-- what a fact about books must be kept by
pub record Kept (limits : Limits) (P : Book → Type 0) : Type 0 where
  pub first : (estimated : Bool) (n m k s : ℕ) → 1 ≤ n → n ≤ limits.vertex_limit → m ≤ limits.net_limit → 2 ≤ k → k ≤ limits.block_limit → s ≤ 1000 → P (blank estimated n m k s)
  pub vertex : (k : Book) (low high b : ℕ) (fixed : Bool) → P k → vertices k.graph < k.lots → 1 ≤ low → low ≤ high → high ≤ 65535 → 1 ≤ b → b ≤ k.graph.blocks
      → Even (lotted k low high b fixed) → P (lotted k low high b fixed)
  pub net : (k : Book) (w : ℕ) (vs : List ℕ) (m : ℕ) → P k → length k.graph.nets < k.buyers → 1 ≤ w → w ≤ 1000 → 1 ≤ length vs → Marks limits k.graph k.marks vs m → Even (netted k w vs m) → P (netted k w vs m)
  pub asking : (k : Book) (c : Request) → P k → k.lots ≤ vertices k.graph → k.buyers ≤ length k.graph.nets → full k ≡ false → P (called k c)

module _ (limits : Limits) (P : Book → Type 0) (keeps : Kept limits P) where
  -- (no abbreviation: what `Good r` is of is then read off from its type)
  pub Good : Reading → Type 0
  Good unread = Unit {0}
  Good (stopped q n) = Unit {0}
  Good (reading k) = P k

  pub good-stopped : (q n : ℕ) → Good (stopped q n)
  unfolding Good
  good-stopped q n = tt

  pub good-reading : (k : Book) → P k → Good (reading k)
  unfolding Good
  good-reading k g = g

  pub read-good : (k : Book) → Good (reading k) → P k
  unfolding Good
  read-good k g = g

  -- one line or another, by a test; or a refusal
  good-if : (b : Bool) (x y : Reading) → (b ≡ true → Good x) → (b ≡ false → Good y) → Good (cond b x y)
  good-if true x y f g = f refl
  good-if false x y f g = g refl

  good-or : (b : Bool) (q n : ℕ) (y : Reading) → (b ≡ false → Good y) → Good (cond b (stopped q n) y)
  good-or b q n y f = good-if b (stopped q n) y (λ _. good-stopped q n) f

  good-grown : (n : ℕ) (k : Book) → (Even k → P k) → Good (grown n k)
  unfolding grown
  good-grown n k f = good-or (whole k && overfull k.graph) 6 n (reading k) (λ q. good-reading k (f (λ w. ap (λ (b : Bool). b && overfull k.graph) (sym w) ∙ q)))

  good-sale : (n : ℕ) (fs : Fields) → Good (sale_line limits n fs)
  unfolding sale_line
  good-sale n fs = good-or (not (is_line_of "SALE" 4 fs || is_line_of "EST" 4 fs)) 2 n _ (λ _. good-or (not ranges) 3 n _ (λ q. inside (not-false _ q)))
    where
      ranges : Bool
      ranges = within 1 limits.vertex_limit (at fs 1) && within 0 limits.net_limit (at fs 2) && within 2 limits.block_limit (at fs 3) && within 0 1000 (at fs 4)

      inside : ranges ≡ true → Good (reading (blank (is_line_of "EST" 4 fs) (at fs 1) (at fs 2) (at fs 3) (at fs 4)))
      inside q4 =
          let q3 = and_left _ _ q4 in
          let q2 = and_left _ _ q3 in
          let n = within-range 1 limits.vertex_limit (at fs 1) (and_left _ _ q2) in
          let m = within-range 0 limits.net_limit (at fs 2) (and_right (within 1 limits.vertex_limit (at fs 1)) _ q2) in
          let k = within-range 2 limits.block_limit (at fs 3) (and_right (within 1 limits.vertex_limit (at fs 1) && within 0 limits.net_limit (at fs 2)) _ q3) in
          let s = within-range 0 1000 (at fs 4) (and_right (within 1 limits.vertex_limit (at fs 1) && within 0 limits.net_limit (at fs 2) && within 2 limits.block_limit (at fs 3)) _ q4) in
          good-reading _ (keeps.first (is_line_of "EST" 4 fs) (at fs 1) (at fs 2) (at fs 3) (at fs 4) n.0 n.1 m.1 k.0 k.1 s.1)

  good-lot : (n : ℕ) (k : Book) (fixed : Bool) (fs : Fields) → P k → ltb (vertices k.graph) k.lots ≡ true → Good (lot_line n k fixed fs)
  unfolding lot_line
  good-lot n k fixed fs g t =
      let numbers : ℕ = cond k.estimated 3 2 in
      let low : ℕ = at fs 1 in
      let high : ℕ = at fs (numbers - 1) in
      let session : ℕ = at fs numbers in
      good-or (not (is_line_of "LOT" numbers fs)) 2 n _ (λ _. good-or (not (within 1 65535 low && within 1 65535 high)) 3 n _ (λ q. good-or (ltb high low) 21 n _ (λ o. good-or (not (is_block k.graph session)) 3 n _ (λ r.
      let l = within-range 1 65535 low (and_left _ _ (not-false _ q)) in
      let w = within-range 1 65535 high (and_right (within 1 65535 low) _ (not-false _ q)) in
      let b = block-range k.graph session (not-false _ r) in
      good-grown n (lotted k low high session fixed) (keeps.vertex k low high session fixed g (ltb-true _ _ t) l.0 (ltb-false _ _ o) w.1 b.0 b.1)))))

  good-net-read : (n : ℕ) (k : Book) (w i : ℕ) (m : Marking) → P k → ltb (length k.graph.nets) k.buyers ≡ true → 1 ≤ w → w ≤ 1000 → 1 ≤ i → Marked limits k.graph k.marks i m → Good (net_read n k w m)
  unfolding net_read
  good-net-read n k w i (wrong q) g t wl wu l a = good-stopped q n
  good-net-read n k w i (marked vs m) g t wl wu l a = good-grown n (netted k w vs m) (keeps.net k w vs m g (ltb-true _ _ t) wl wu (omega (arith, a.1)) a.0)

  good-buy : (n : ℕ) (k : Book) (fs : Fields) → P k → ltb (length k.graph.nets) k.buyers ≡ true → Good (buy_line limits n k fs)
  unfolding buy_line
  good-buy n k fs g t = good-or (not (is_line "BUY" fs && leb 3 (length fs))) 2 n _ (λ f. good-or (not (within 1 1000 (at fs 1))) 3 n _ (λ q.
      let w = within-range 1 1000 (at fs 1) (not-false _ q) in
      let long : 3 ≤ length fs = leb-true 3 (length fs) (and_right (is_line "BUY" fs) _ (not-false _ f)) in
      good-net-read n k (at fs 1) (0 + length (drop 2 fs)) (marking limits k.graph (marked [] k.marks) (drop 2 fs)) g t w.0 w.1 (omega (arith, length-drop 2 fs))
      (marked_all limits k.graph k.marks 0 (marked [] k.marks) (drop 2 fs) (none, refl))))
    where
      none : Marks limits k.graph k.marks [] k.marks
      none = record { in-range = tt; distinct = λ i j l _ _. absurd (omega arith); counted = omega arith; few = λ l. l }

  good-asked : (n : ℕ) (k : Book) (a : Asked) → ((c : Request) → P (called k c)) → Good (with_call n k a)
  unfolding with_call
  good-asked n k nothing f = good-stopped 2 n
  good-asked n k (asks c) f = good-reading _ (f c)

  pub good-line : (n : ℕ) (r : Reading) (l : List ℕ) → Good r → Good (line limits n r l)
  unfolding line call_line
  good-line n (stopped q m) l g = good-stopped q m
  good-line n unread l g = good-sale n (fields l)
  good-line n (reading k) l g =
      good-if (ltb (vertices k.graph) k.lots) _ _ (good-lot n k (ends_in_k l) (fields (before_k l)) (read-good k g))
      (λ lots. good-if (ltb (length k.graph.nets) k.buyers) _ _ (good-buy n k (fields l) (read-good k g))
      (λ nets. good-or (full k) 7 n _ (λ room. good-asked n k (asked (fields l)) (λ c. keeps.asking k c (read-good k g) (ltb-false _ _ lots) (ltb-false _ _ nets) room))))

  -- ---- at the end of the file the catalogue is whole, too
  -- (again no abbreviation)
  Done : Reading → Type 0
  Done unread = ⊥
  Done (stopped q n) = Unit {0}
  Done (reading k) = P k × (whole k ≡ true)

  done-stopped : (q n : ℕ) → Done (stopped q n)
  unfolding Done
  done-stopped q n = tt

  done-whole : (b : Bool) (n : ℕ) (k : Book) → whole k ≡ b → P k → Done (cond b (reading k) (stopped 2 n))
  unfolding Done
  done-whole true n k q g = (g, q)
  done-whole false n k q g = tt

  done-either : (b : Bool) (n : ℕ) → Done (cond b (stopped 7 n) (stopped 2 n))
  unfolding Done
  done-either true n = tt
  done-either false n = tt

  done-ending : (n : ℕ) (r : Reading) (l : List ℕ) → Good r → Done (ending n r l)
  unfolding ending
  done-ending n (stopped q m) l g = done-stopped q m
  done-ending n unread l g = done-stopped 2 n
  done-ending n (reading k) [] g = done-whole (whole k) n k refl (read-good k g)
  done-ending n (reading k) (b ∷ bs) g = done-either (full k) n

  done-lines : (n : ℕ) (r : Reading) (l : List ℕ) (ls : List (List ℕ)) → Good r → Done (lines limits n r (l ∷ ls))
  unfolding lines
  done-lines n r l [] g = done-ending n r l g
  done-lines n r l (m ∷ ls) g = done-lines (suc n) (line limits n r l) m ls (good-line n r l g)

  -- ---- the lines of one catalogue, wherever they begin
  Ended : Stage → Type 0
  Ended (ended k n ls) = P k × (whole k ≡ true)
  Ended (refused q n) = Unit {0}

  ended-stage : (n : ℕ) (ls : List (List ℕ)) (more : Stage) (r : Reading) → Good r → Ended more → Ended (stage_of n ls more r)
  unfolding Ended stage_of
  ended-stage n ls more unread g e = e
  ended-stage n ls more (stopped q m) g e = tt
  ended-stage n ls more (reading k) g e = go (whole k) refl
    where
      go : (b : Bool) → whole k ≡ b → Ended (cond b (ended k n ls) more)
      go true q = (read-good k g, q)
      go false q = e

  ended-refused : (q n : ℕ) → Ended (refused q n)
  unfolding Ended
  ended-refused q n = tt

  ended-through : (n : ℕ) (r : Reading) (ls : List (List ℕ)) → Good r → Ended (through limits n r ls)
  unfolding through
  ended-through n r [] g = ended-stage n [] _ r g (ended-refused 2 n)
  ended-through n r (l ∷ []) g = ended-stage n (l ∷ []) _ r g (ended-refused 2 n)
  ended-through n r (l ∷ (m ∷ ls)) g = ended-stage n (l ∷ (m ∷ ls)) _ r g (ended-through (suc n) (line limits n r l) (m ∷ ls) (good-line n r l g))

  pub good-unread : Good unread
  unfolding Good
  good-unread = tt

  pub part-keeps : (n : ℕ) (ls : List (List ℕ)) (k : Book) (n' : ℕ) (rest : List (List ℕ)) → through limits n unread ls ≡ ended k n' rest → P k × (whole k ≡ true)
  unfolding Ended
  part-keeps n ls k n' rest q = subst Ended q (ended-through n unread ls good-unread)

  -- the parts of a file are at least one
  done-parts : (n : ℕ) (r : Reading) (sep : ℕ) (file : List ℕ) → Good r → Done (lines limits n r (parts sep file))
  unfolding parts
  done-parts n r sep [] g = done-lines n r [] [] g
  done-parts n r sep (b ∷ bs) g = go (eqb b sep) (parts sep bs)
    where
      go : (t : Bool) (ps : List (List ℕ)) → Done (lines limits n r (cond t ([] ∷ ps) (onto b ps)))
      go true ps = done-lines n r [] ps g
      go false [] = done-lines n r (b ∷ []) [] g
      go false (p ∷ ps) = done-lines n r (b ∷ p) ps g

  done-parse : (file : List ℕ) → Done (parse limits file)
  unfolding parse Good
  done-parse file = go (ltb 60000 (length file))
    where
      go : (b : Bool) → Done (cond b (stopped 1 0) (lines limits 1 unread (parts 10 file)))
      go true = done-stopped 1 0
      go false = done-parts 1 unread 10 file tt

  read_done : (k : Book) → Done (reading k) → P k × (whole k ≡ true)
  unfolding Done
  read_done k d = d

  pub accepted-keeps : (file : List ℕ) (k : Book) → parse limits file ≡ reading k → P k × (whole k ≡ true)
  accepted-keeps file k q = read_done k (subst Done q (done-parse file))
