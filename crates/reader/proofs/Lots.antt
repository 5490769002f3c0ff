-- The lot lines: none read, one more, all read. Rests on Turns.
use Prim.Native.Nat.{ℕ, ◌+◌, ◌≤◌, ◌<◌}
use mathlib.Core.Path.{◌≡◌, refl, ap, sym, ◌∙◌}
use mathlib.Core.List.{List, [], ◌∷◌, ◌++◌}
use mathlib.Core.Bool.{Bool, true, false, ◌&&◌, cond}
use native.Mathlib.Omega.{arith}
use native.Mathlib.Numerals.{add-one}
use lib.ListN.{length, set, take, length-set}
use lib.Seq.{slice, take-suc-set, length-take-le, get_or-set_other}
use lib.Dec.{eqb}
use borrow.Author.Tests.{ne_eqb, lt-ltb}
use mir.Val.{bool_byte}
use Rattle.laws.specs.Choice.{one}
use Rattle.laws.specs.Fold.{sum_over-more}
use Rattle.model.specs.Catalogue.{Limits, Hypergraph}
use Rattle.model.specs.Sale.{Request}
use Rattle.model.specs.Grammar.{Book, Reading, reading, stopped, parts, fields, whole, overfull, grown, with_lot, ends_in_k, before_k, lot_line, line}
use Rattle.text.specs.Field.{FirstAt}
use Rattle.reader.proofs.Turns.{through-none, through-on}
use Rattle.refusal.proofs.Results.{err-ok}
use Rattle.lines.specs.Line.{book, Past, lotted, LotRead}
use Rattle.model.specs.Through.{through}
use Rattle.guarantees.specs.Through.{unfinished, through-stopped}
use Rattle.reader.specs.Seen.{lots_graph, LotsRead}
use Rattle.std.specs.Prelude.{Result, Ok, Err}
use Rattle.refusal.specs.declared.Refusal.{Refusal}
use Rattle.refusal.specs.declared.Refusal.TheVariants.{BadlyWritten}
use Rattle.refusal.specs.Number.{number_of, refused_at}
use Rattle.lines.specs.declared.Lot.{Lot}

-- a truth value as an entry
byte_one : (t : Bool) → bool_byte t ≡ one t
byte_one true = refl
byte_one false = refl

-- ---- a book that is not whole
pub partly : (k : Book) → whole k ≡ false → (n : ℕ) → grown n k ≡ reading k
unfolding grown
partly k e n = ap (λ (t : Bool). cond (t && overfull k.graph) (stopped 6 n) (reading k)) e

pub partly-on : (k : Book) → whole k ≡ false → unfinished (reading k) ≡ true
unfolding unfinished
partly-on k e = ap (λ (t : Bool). cond t false true) e

-- lots are missing
module _ (est : Bool) (l b : ℕ) (h : Hypergraph) (m : ℕ) (cs : List Request) (lt : length h.weights < l) where
  pub few-lots : whole (book est l b h m cs) ≡ false
  few-lots = ap (λ (t : Bool). t && eqb (length h.nets) b) (ne_eqb (length h.weights) l (λ e. omega arith))

  pub lot-turn : (limits : Limits) (n : ℕ) (x : List ℕ) → line limits n (reading (book est l b h m cs)) x ≡ lot_line n (book est l b h m cs) (ends_in_k x) (fields (before_k x))
  unfolding line
  lot-turn limits n x = rw (lt-ltb (length h.weights) l lt)

pub record OnLots (n : ℕ) (s : List ℕ) (at l blocks : ℕ) (est : Bool) (w₀ d₀ fx₀ w d fx lo : List ℕ) (i k : ℕ) : Type 0 where
  pub i-le : i ≤ length s
  pub k-le : k ≤ l
  pub l_le : l ≤ 1024
  pub w-len : l ≤ length w
  pub d-len : l ≤ length d
  pub fx-len : l ≤ length fx
  pub lo-len : length lo ≡ 1024
  pub w-same : length w ≡ length w₀
  pub d-same : length d ≡ length d₀
  pub fx-same : length fx ≡ length fx₀
  pub w-past : Past k w₀ w
  pub d-past : Past k d₀ d
  pub fx-past : Past k fx₀ fx
  pub says : (limits : Limits) (b imbalance : ℕ) → through limits (n + 1) (reading (book est l b (lots_graph blocks imbalance 0 w d fx lo) 0 [])) (parts 10 (slice at (length s) s))
      ≡ through limits (n + k + 1) (grown (n + k) (book est l b (lots_graph blocks imbalance k w d fx lo) 0 [])) (parts 10 (slice i (length s) s))

pub lots-start : (n : ℕ) (s : List ℕ) (at l blocks : ℕ) (est : Bool) (w d fx lo : List ℕ) → at ≤ length s → 1 ≤ l → l ≤ 1024 → l ≤ length w → l ≤ length d → l ≤ length fx → length lo ≡ 1024 → OnLots n s at l blocks est w d fx w d fx lo at 0
lots-start n s at l blocks est w d fx lo a low high p q r o = record {
  i-le = a;
  k-le = omega arith;
  l_le = high;
  w-len = p;
  d-len = q;
  fx-len = r;
  lo-len = o;
  w-same = refl;
  d-same = refl;
  fx-same = refl;
  w-past = λ x u. refl;
  d-past = λ x u. refl;
  fx-past = λ x u. refl;
  says = λ limits b imbalance.
      let z : n + 0 ≡ n = omega arith in
      rw z (ap (λ (r : Reading). through limits (n + 1) r (parts 10 (slice at (length s) s))) (sym (partly (book est l b (lots_graph blocks imbalance 0 w d fx lo) 0 []) (few-lots est l b (lots_graph blocks imbalance 0 w d fx lo) 0 [] (omega arith)) n)));
}

pub lots-done : (n : ℕ) (s : List ℕ) (at l blocks : ℕ) (est : Bool) (w₀ d₀ fx₀ w d fx lo : List ℕ) (i k : ℕ) → OnLots n s at l blocks est w₀ d₀ fx₀ w d fx lo i k → k ≡ l → LotsRead n s at l blocks est (Ok i) w₀ d₀ fx₀ w d fx lo
lots-done n s at l blocks est w₀ d₀ fx₀ w d fx lo i k on e = record {
  inside = λ j q. let z : i ≡ j = cc in omega (arith, on.i-le);
  w-past = λ x u. on.w-past x (omega arith);
  d-past = λ x u. on.d-past x (omega arith);
  fx-past = λ x u. on.fx-past x (omega arith);
  lo-len = on.lo-len;
  says = λ limits b imbalance. sym (on.says limits b imbalance ∙ ap (λ (x : ℕ). through limits (n + x + 1) (grown (n + x) (book est l b (lots_graph blocks imbalance x w d fx lo) 0 [])) (parts 10 (slice i (length s) s))) e);
}

module _ (n : ℕ) (s : List ℕ) (at l blocks : ℕ) (est : Bool) (w₀ d₀ fx₀ w d fx lo : List ℕ) (i k : ℕ) (on : OnLots n s at l blocks est w₀ d₀ fx₀ w d fx lo i k) (lt : k < l) where
  abbrev graph : ℕ → Hypergraph
  graph imbalance = lots_graph blocks imbalance k w d fx lo

  size : length (take k w) ≡ k
  size = length-take-le k w (omega (arith, on.w-len, on.l_le))

  some : (b imbalance : ℕ) → whole (book est l b (graph imbalance) 0 []) ≡ false
  some b imbalance = few-lots est l b (graph imbalance) 0 [] (omega (arith, size))

  here : (limits : Limits) (b imbalance : ℕ) → through limits (n + 1) (reading (book est l b (lots_graph blocks imbalance 0 w d fx lo) 0 [])) (parts 10 (slice at (length s) s)) ≡ through limits (n + k + 1) (reading (book est l b (graph imbalance) 0 [])) (parts 10 (slice i (length s) s))
  here limits b imbalance = on.says limits b imbalance ∙ ap (λ (r : Reading). through limits (n + k + 1) r (parts 10 (slice i (length s) s))) (partly (book est l b (graph imbalance) 0 []) (some b imbalance) (n + k))

  module _ (e : ℕ) (found : FirstAt s i (length s) 10 e) where
    pub lots-none : e ≡ length s → LotsRead n s at l blocks est (Err (refused_at BadlyWritten (n + k + 1))) w₀ d₀ fx₀ w d fx lo
    lots-none x = record {
      inside = λ j q. err-ok q;
      w-past = λ x u. on.w-past x (omega arith);
      d-past = λ x u. on.d-past x (omega arith);
      fx-past = λ x u. on.fx-past x (omega arith);
      lo-len = on.lo-len;
      says = λ limits b imbalance. sym (here limits b imbalance ∙ through-none limits s (length s) i e (n + k + 1) on.i-le (omega arith) found (reading (book est l b (graph imbalance) 0 [])) (partly-on (book est l b (graph imbalance) 0 []) (some b imbalance)) x);
    }

    module _ (more : e < length s) (r : Result Lot Refusal) (read : LotRead blocks est (slice i e s) r) where
      step : (limits : Limits) (b imbalance : ℕ) → through limits (n + 1) (reading (book est l b (lots_graph blocks imbalance 0 w d fx lo) 0 [])) (parts 10 (slice at (length s) s))
          ≡ through limits (n + k + 1 + 1) (lotted (n + k + 1) (book est l b (graph imbalance) 0 []) r) (parts 10 (slice (e + 1) (length s) s))
      step limits b imbalance =
          here limits b imbalance
          ∙ through-on limits s (length s) i e (n + k + 1) on.i-le (omega arith) found (reading (book est l b (graph imbalance) 0 [])) (partly-on (book est l b (graph imbalance) 0 []) (some b imbalance)) more
          ∙ ap (λ (x : Reading). through limits (n + k + 1 + 1) x (parts 10 (slice (e + 1) (length s) s)))
          (lot-turn est l b (graph imbalance) 0 [] (omega (arith, size)) limits (n + k + 1) (slice i e s) ∙ sym (read (n + k + 1) (book est l b (graph imbalance) 0 []) refl refl))

      pub lots-stop : (q : Refusal) → r ≡ Err q → LotsRead n s at l blocks est (Err (refused_at q (n + k + 1))) w₀ d₀ fx₀ w d fx lo
      lots-stop q x = record {
        inside = λ j z. err-ok z;
        w-past = λ x u. on.w-past x (omega arith);
        d-past = λ x u. on.d-past x (omega arith);
        fx-past = λ x u. on.fx-past x (omega arith);
        lo-len = on.lo-len;
        says = λ limits b imbalance. sym (step limits b imbalance ∙ ap (λ (y : Result Lot Refusal). through limits (n + k + 1 + 1) (lotted (n + k + 1) (book est l b (graph imbalance) 0 []) y) (parts 10 (slice (e + 1) (length s) s))) x ∙ through-stopped limits (n + k + 1 + 1) (number_of q) (n + k + 1) (parts 10 (slice (e + 1) (length s) s)));
      }

      pub lots-on : (a : Lot) → r ≡ Ok a → OnLots n s at l blocks est w₀ d₀ fx₀ (set w k a.high) (set d k a.block) (set fx k (bool_byte a.fixed)) (set lo k a.low) (e + 1) (k + 1)
      unfolding with_lot
      lots-on a z = record {
        i-le = omega arith;
        k-le = omega arith;
        l_le = on.l_le;
        w-len = simp length-set on.w-len;
        d-len = simp length-set on.d-len;
        fx-len = simp length-set on.fx-len;
        lo-len = simp length-set on.lo-len;
        w-same = simp length-set on.w-same;
        d-same = simp length-set on.d-same;
        fx-same = simp length-set on.fx-same;
        w-past = λ z u. get_or-set_other w k z a.high 0 (λ c. omega arith) ∙ on.w-past z (omega arith);
        d-past = λ z u. get_or-set_other d k z a.block 0 (λ c. omega arith) ∙ on.d-past z (omega arith);
        fx-past = λ z u. get_or-set_other fx k z (bool_byte a.fixed) 0 (λ c. omega arith) ∙ on.fx-past z (omega arith);
        says = λ limits b imbalance.
            let p : n + (k + 1) ≡ n + k + 1 = omega arith in
            let u : take (k + 1) (set w k a.high) ≡ take k w ++ (a.high ∷ []) = rw add-one (take-suc-set w k a.high (omega (arith, on.w-len, on.l_le))) in
            let v : take (k + 1) (set d k a.block) ≡ take k d ++ (a.block ∷ []) = rw add-one (take-suc-set d k a.block (omega (arith, on.d-len, on.l_le))) in
            let m : take (k + 1) (set lo k a.low) ≡ take k lo ++ (a.low ∷ []) = rw add-one (take-suc-set lo k a.low (omega (arith, on.lo-len, on.l_le))) in
            let g : take (k + 1) (set fx k (bool_byte a.fixed)) ≡ take k fx ++ (one a.fixed ∷ []) = rw (add-one, ← byte_one a.fixed) (take-suc-set fx k (bool_byte a.fixed) (omega (arith, on.fx-len, on.l_le))) in
            step limits b imbalance
            ∙ ap (λ (r : Result Lot Refusal). through limits (n + k + 1 + 1) (lotted (n + k + 1) (book est l b (graph imbalance) 0 []) r) (parts 10 (slice (e + 1) (length s) s))) z
            ∙ rw (p, u, v, m, g, sum_over-more (take k lo) a.low (λ y. y));
      }
