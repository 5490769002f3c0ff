-- A file is turned down with a number from 1 to 21 and a line number of at most 60,001 (refused-in), so whatever a file holds, the engine's code is
-- at most 21 and its report fits into the lent 60,000 bytes (code_in, engine-fits). Rests on model's Grammar and on ReportFits. Assumes nothing.
use Prim.Native.Nat.{ℕ, suc, ◌+◌, ◌-◌, ◌≤◌}
use native.Mathlib.Omega.{arith}
use Rattle.std.specs.Prelude.{◌≡◌, Bool, not, ◌&&◌, ◌||◌, drop}
use Rattle.std.proofs.Math.Path.{refl}
use Rattle.std.proofs.Common.{subst}
use Rattle.std.proofs.Math.Bool.{true, false, cond}
use mathlib.Core.List.{List, [], ◌∷◌}
use borrow.Author.Tests.{ltb-false}
use Rattle.std.proofs.Math.Dec.{eqb, leb, ltb}
use Rattle.std.proofs.Math.ListN.{length}
use Rattle.laws.specs.Fold.{sum_over, any}
use Rattle.model.specs.Catalogue.{Limits, Hypergraph, vertices, is_vertex, is_block}
use Rattle.model.specs.Grammar.{Fields, at, fields, is_line_of, is_line, within, bytes, Book, Reading, unread, reading, stopped, whole, full, overfull, sale_line, grown, ends_in_k, before_k, lot_line, Marking, marked, wrong, mark, marking, net_read, buy_line, Asked, asks, nothing, asked, with_call, call_line, line, ending, lines, parse, onto, parts, value}
use Rattle.model.specs.Report.{digits, row}
use Rattle.model.specs.Engine.{outcome, engine}
use Rattle.guarantees.specs.Numbers.{digits_le}
use Rattle.guarantees.specs.Ranges.{Few, accepted-book}
use Rattle.guarantees.specs.ReportFits.{row-length, report-fits}

-- stopped, if it is, by a number from 1 to 21 on line m at the latest
-- (no abbreviation: what `Stops m r` is of is then read off from its type)
pub Stops : ℕ → Reading → Type 0
Stops m unread = Unit {0}
Stops m (reading k) = Unit {0}
Stops m (stopped q n) = (1 ≤ q) × (q ≤ 21) × (n ≤ m)

pub stops_at : (q n : ℕ) → 1 ≤ q → q ≤ 21 → Stops n (stopped q n)
unfolding Stops
stops_at q n l u = (l, u, omega arith)

stops-not : (m : ℕ) (k : Book) → Stops m (reading k)
unfolding Stops
stops-not m k = tt

pub stops-none : (m : ℕ) → Stops m unread
unfolding Stops
stops-none m = tt

pub stops-later : (m n : ℕ) (r : Reading) → m ≤ n → Stops m r → Stops n r
unfolding Stops
stops-later m n unread l s = tt
stops-later m n (reading k) l s = tt
stops-later m n (stopped q i) l s = (s.0, s.1, omega (arith, s.2))

-- one or the other
stops-if : (m : ℕ) (b : Bool) (x y : Reading) → Stops m x → Stops m y → Stops m (cond b x y)
stops-if m true x y s t = s
stops-if m false x y s t = t

-- ---- a line
module _ (limits : Limits) (n : ℕ) where
  or-2 : (b : Bool) (y : Reading) → Stops n y → Stops n (cond b (stopped 2 n) y)
  or-2 b y s = stops-if n b (stopped 2 n) y (stops_at 2 n (omega arith) (omega arith)) s

  or-3 : (b : Bool) (y : Reading) → Stops n y → Stops n (cond b (stopped 3 n) y)
  or-3 b y s = stops-if n b (stopped 3 n) y (stops_at 3 n (omega arith) (omega arith)) s

  stops-grown : (k : Book) → Stops n (grown n k)
  unfolding grown
  stops-grown k = stops-if n (whole k && overfull k.graph) (stopped 6 n) (reading k) (stops_at 6 n (omega arith) (omega arith)) (stops-not n k)

  stops-sale : (fs : Fields) → Stops n (sale_line limits n fs)
  unfolding sale_line
  stops-sale fs = or-2 (not (is_line_of "SALE" 4 fs || is_line_of "EST" 4 fs)) _ (or-3 (not (within 1 limits.vertex_limit (at fs 1) && within 0 limits.net_limit (at fs 2) && within 2 limits.block_limit (at fs 3) && within 0 1000 (at fs 4))) _ (stops-not n _))

  stops-lot : (k : Book) (fixed : Bool) (fs : Fields) → Stops n (lot_line n k fixed fs)
  unfolding lot_line
  stops-lot k fixed fs =
      let numbers : ℕ = cond k.estimated 3 2 in
      or-2 (not (is_line_of "LOT" numbers fs)) _ (or-3 (not (within 1 65535 (at fs 1) && within 1 65535 (at fs (numbers - 1)))) _
      (stops-if n (ltb (at fs (numbers - 1)) (at fs 1)) (stopped 21 n) _ (stops_at 21 n (omega arith) (omega arith))
      (or-3 (not (is_block k.graph (at fs numbers))) _ (stops-grown _))))

  -- a mark is refused by 3, 4 or 5
  abbrev Wrong : Marking → Type 0
  Wrong (wrong q) = (1 ≤ q) × (q ≤ 21)
  Wrong (marked vs m) = Unit {0}

  wrong-if : (b : Bool) (x y : Marking) → Wrong x → Wrong y → Wrong (cond b x y)
  wrong-if true x y s t = s
  wrong-if false x y s t = t

  wrong-mark : (h : Hypergraph) (m : Marking) (v : ℕ) → Wrong m → Wrong (mark limits h m v)
  unfolding mark
  wrong-mark h (wrong q) v s = s
  wrong-mark h (marked vs m) v s =
      wrong-if (not (is_vertex h v)) (wrong 3) _ (omega arith)
      (wrong-if (any vs (λ x. eqb x v)) (wrong 4) _ (omega arith)
      (wrong-if (leb limits.pin_limit m) (wrong 5) _ (omega arith) tt))

  wrong-marking : (h : Hypergraph) (m : Marking) (fs : Fields) → Wrong m → Wrong (marking limits h m fs)
  unfolding marking
  wrong-marking h m [] s = s
  wrong-marking h m (f ∷ fs) s = wrong-marking h (mark limits h m (value f)) fs (wrong-mark h m (value f) s)

  stops-net : (k : Book) (w : ℕ) (m : Marking) → Wrong m → Stops n (net_read n k w m)
  unfolding net_read
  stops-net k w (wrong q) s = stops_at q n s.0 s.1
  stops-net k w (marked vs m) s = stops-grown _

  stops-buy : (k : Book) (fs : Fields) → Stops n (buy_line limits n k fs)
  unfolding buy_line
  stops-buy k fs = or-2 (not (is_line "BUY" fs && leb 3 (length fs))) _ (or-3 (not (within 1 1000 (at fs 1))) _ (stops-net k (at fs 1) _ (wrong-marking k.graph (marked [] k.marks) (drop 2 fs) tt)))

  stops-asked : (k : Book) (a : Asked) → Stops n (with_call n k a)
  unfolding with_call
  stops-asked k nothing = stops_at 2 n (omega arith) (omega arith)
  stops-asked k (asks c) = stops-not n _

  -- 7, or what the line's form gives
  or-7 : (b : Bool) (y : Reading) → Stops n y → Stops n (cond b (stopped 7 n) y)
  or-7 b y s = stops-if n b (stopped 7 n) y (stops_at 7 n (omega arith) (omega arith)) s

  pub stops-line : (r : Reading) (l : List ℕ) → Stops n r → Stops n (line limits n r l)
  unfolding line call_line
  stops-line (stopped q m) l s = s
  stops-line unread l s = stops-sale (fields l)
  stops-line (reading k) l s =
      stops-if n (ltb (vertices k.graph) k.lots) _ _ (stops-lot k (ends_in_k l) (fields (before_k l)))
      (stops-if n (ltb (length k.graph.nets) k.buyers) _ _ (stops-buy k (fields l)) (or-7 (full k) _ (stops-asked k (asked (fields l)))))

  stops-ending : (r : Reading) (l : List ℕ) → Stops n r → Stops n (ending n r l)
  unfolding ending
  stops-ending (stopped q m) l s = s
  stops-ending unread l s = stops_at 2 n (omega arith) (omega arith)
  stops-ending (reading k) [] s = stops-if n (whole k) (reading k) (stopped 2 n) (stops-not n k) (stops_at 2 n (omega arith) (omega arith))
  stops-ending (reading k) (b ∷ bs) s = or-7 (full k) _ (stops_at 2 n (omega arith) (omega arith))

-- ---- a file
pub parts-le : (sep : ℕ) (l : List ℕ) → length (parts sep l) ≤ length l + 1
unfolding parts
parts-le sep [] = omega arith
parts-le sep (b ∷ l) = go (eqb b sep) (parts sep l) (parts-le sep l)
  where
    go : (t : Bool) (ps : List (List ℕ)) → length ps ≤ length l + 1 → length (cond t ([] ∷ ps) (onto b ps)) ≤ suc (length l) + 1
    go true ps k = omega arith
    go false [] k = omega arith
    go false (p ∷ ps) k = omega arith

module _ (limits : Limits) where
  stops-lines : (n : ℕ) (r : Reading) (ls : List (List ℕ)) → Stops n r → Stops (n + (length ls - 1)) (lines limits n r ls)
  unfolding lines
  stops-lines n r [] s = stops-later n _ r (omega arith) s
  stops-lines n r (l ∷ []) s = stops-later n _ (ending n r l) (omega arith) (stops-ending limits n r l s)
  stops-lines n r (l ∷ (m ∷ ls)) s =
      stops-later (suc n + (length (m ∷ ls) - 1)) _ (lines limits (suc n) (line limits n r l) (m ∷ ls)) (omega arith)
      (stops-lines (suc n) (line limits n r l) (m ∷ ls) (stops-later n (suc n) (line limits n r l) (omega arith) (stops-line limits n r l s)))

  stops-parse : (file : List ℕ) → Stops 60001 (parse limits file)
  unfolding parse
  stops-parse file = go (ltb 60000 (length file)) refl
    where
      go : (b : Bool) → ltb 60000 (length file) ≡ b → Stops 60001 (cond b (stopped 1 0) (lines limits 1 unread (parts 10 file)))
      go true e = stops-later 0 60001 (stopped 1 0) (omega arith) (stops_at 1 0 (omega arith) (omega arith))
      go false e =
          stops-later (1 + (length (parts 10 file) - 1)) 60001 (lines limits 1 unread (parts 10 file)) (omega (arith, parts-le 10 file, ltb-false 60000 (length file) e))
          (stops-lines 1 unread (parts 10 file) (stops-none 1))

  pub stopped-in : (m q n : ℕ) → Stops m (stopped q n) → (1 ≤ q) × (q ≤ 21) × (n ≤ m)
  unfolding Stops
  stopped-in m q n s = s

  pub refused-in : (file : List ℕ) (q n : ℕ) → parse limits file ≡ stopped q n → (1 ≤ q) × (q ≤ 21) × (n ≤ 60001)
  refused-in file q n e = stopped-in 60001 q n (subst (Stops 60001) e (stops-parse file))

  pub code_in : (file : List ℕ) → (engine limits file).code ≤ 21
  unfolding engine outcome
  code_in file = go (parse limits file) refl
    where
      go : (r : Reading) → parse limits file ≡ r → (outcome limits r).code ≤ 21
      go unread e = omega arith
      go (stopped q n) e = (refused-in file q n e).1
      go (reading k) e = omega arith

  -- NO, a number of up to two digits and one of up to five
  pub no_le : (q n : ℕ) → q ≤ 25 → n ≤ 60001 → length (row "NO" (digits q ∷ digits n ∷ [])) ≤ 12
  unfolding sum_over bytes
  no_le q n l m = omega (arith, row-length "NO" (digits q ∷ digits n ∷ []), digits_le 1 q (omega arith), digits_le 4 n (omega arith))

  pub engine-fits : limits.vertex_limit ≤ 1024 → limits.block_limit ≤ 16 → Few limits → (file : List ℕ) → length (engine limits file).report ≤ 60000
  unfolding engine outcome
  engine-fits small narrow few file = go (parse limits file) refl
    where
      go : (r : Reading) → parse limits file ≡ r → length (outcome limits r).report ≤ 60000
      go unread e = omega (arith, no_le 2 1 (omega arith) (omega arith))
      go (stopped q n) e =
          let b = refused-in file q n e in
          omega (arith, no_le q n (omega (arith, b.1)) b.2)
      go (reading k) e = report-fits limits small narrow few k.graph (record { file = file; book = k; loads = e; graph_is = refl }) k.calls (accepted-book limits file k e).calls-high
