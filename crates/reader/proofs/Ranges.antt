-- The phases of a catalogue joined: after its last line, after the lots, after the first line, the whole catalogue. Rests on Turns and NetLines.
use Prim.Native.Nat.{ℕ, zero, suc, ◌+◌, ◌≤◌, ◌<◌}
use mathlib.Core.Path.{◌≡◌, refl, ap, sym, subst, ◌∙◌}
use mathlib.Core.List.{List, []}
use mathlib.Core.Bool.{Bool, true, false, ◌&&◌, cond}
use native.Mathlib.Omega.{arith}
use lib.ListN.{length, get_or, replicate, take}
use lib.Seq.{slice, length-take-le}
use lib.Dec.{eqb}
use borrow.Author.Tests.{eq-eqb}
use Rattle.laws.specs.Fold.{sum_over}
use Rattle.model.specs.Catalogue.{Limits}
use Rattle.model.specs.Grammar.{Book, Reading, reading, stopped, parts, grown, whole, overfull, unread, fields, line}
use Rattle.model.specs.Through.{ended, refused, through}
use Rattle.guarantees.specs.Through.{unfinished, through-stopped, through-whole}
use Rattle.text.specs.Field.{FirstAt}
use Rattle.lines.specs.Line.{book, opened, SaleRead}
use Rattle.lines.specs.Mark.{Fresh}
use Rattle.reader.specs.Seen.{lots_graph, lots_seen, LotsRead}
use Rattle.reader.specs.Buyers.{nets_of, with_nets, buys_seen, BuysRead}
use Rattle.reader.specs.Whole.{overfull_is, NetsRead, BodyRead, Fitted, CatalogueRead, body_seen, graph_of}
use Rattle.std.specs.Prelude.{Result, Ok, Err}
use Rattle.refusal.specs.declared.Refusal.{Refusal}
use Rattle.refusal.specs.declared.Refusal.TheVariants.{BadlyWritten, DraftAboveCap}
use Rattle.refusal.specs.declared.Refused.{Refused}
use Rattle.refusal.specs.Number.{number_of, refused_at}
use Rattle.reader.specs.declared.Catalogue.{Catalogue}
use Rattle.lines.specs.declared.Head.{Head}
use Rattle.reader.specs.declared.Nets.{Nets}
use Rattle.reader.proofs.Turns.{through-none, through-on}
use Rattle.refusal.proofs.Results.{err-ok, ok-ok}
use Rattle.reader.proofs.NetLines.{nets-length}

-- ---- after the lots
module _ (p : ℕ) (s : List ℕ) (at most l b k t : ℕ) (w d lo f₀ c₀ marks₀ nw f c marks : List ℕ) (w-len : l ≤ length w) (r : Result Nets Refused) (read : BuysRead p s at most l b r f₀ c₀ marks₀ nw f c marks) where
  size : length (take l w) ≡ l
  size = length-take-le l w w-len

  cut : (q : Refused) → ((limits : Limits) (est : Bool) (fx : List ℕ) → limits.pin_limit ≡ most → refused (number_of q.refusal) q.line ≡ through limits (p + 1) (grown p (book est l b (lots_graph k t l w d fx lo) 0 [])) (parts 10 (slice at (length s) s)))
      → NetsRead p s at most l b k t (Err q) w d lo f₀ c₀ marks₀ nw f c marks
  cut q f = record { inside = λ a z. err-ok z; nw-len = λ a z. err-ok z; laid = λ a z. err-ok z; says = f }

  pub nets-cut : (q : Refused) → r ≡ Err q → NetsRead p s at most l b k t (Err q) w d lo f₀ c₀ marks₀ nw f c marks
  nets-cut q e = cut q (λ limits est fx is. ap (λ (x : Result Nets Refused). buys_seen p limits s est l b (lots_graph k t l w d fx lo) x nw f c marks) (sym e) ∙ read.says limits est (lots_graph k t l w d fx lo) is size)

  module _ (a : Nets) (is : r ≡ Ok a) (o : Bool) (over : overfull_is l k t w d lo o) where
    abbrev last-book : Bool → List ℕ → Book
    last-book est fx = book est l b (with_nets (lots_graph k t l w d fx lo) (nets_of b nw f c marks)) a.pins []

    full : (est : Bool) (fx : List ℕ) → whole (last-book est fx) ≡ true
    full est fx = ap (λ (x : Bool). x && eqb (length (nets_of b nw f c marks)) b) (eq-eqb (length (take l w)) l size) ∙ eq-eqb (length (nets_of b nw f c marks)) b (nets-length b nw f c marks)

    grown-is : (est : Bool) (fx : List ℕ) → grown (p + b) (last-book est fx) ≡ cond o (stopped 6 (p + b)) (reading (last-book est fx))
    unfolding grown
    grown-is est fx =
        ap (λ (x : Bool). cond (x && overfull (last-book est fx).graph) (stopped 6 (p + b)) (reading (last-book est fx))) (full est fx)
        ∙ ap (λ (x : Bool). cond x (stopped 6 (p + b)) (reading (last-book est fx))) (sym (over fx (nets_of b nw f c marks)))

    -- what follows the catalogue's last line, by the test of its draft
    on : (limits : Limits) (est : Bool) (fx : List ℕ) → limits.pin_limit ≡ most → through limits (p + 1 + b) (cond o (stopped 6 (p + b)) (reading (last-book est fx))) (parts 10 (slice a.end (length s) s))
        ≡ through limits (p + 1) (grown p (book est l b (lots_graph k t l w d fx lo) 0 [])) (parts 10 (slice at (length s) s))
    on limits est fx lim =
        ap (λ (x : Reading). through limits (p + 1 + b) x (parts 10 (slice a.end (length s) s))) (sym (grown-is est fx))
        ∙ ap (λ (x : Result Nets Refused). buys_seen p limits s est l b (lots_graph k t l w d fx lo) x nw f c marks) (sym is)
        ∙ read.says limits est (lots_graph k t l w d fx lo) lim size

    pub nets-over : o ≡ true → NetsRead p s at most l b k t (Err (refused_at DraftAboveCap (p + b))) w d lo f₀ c₀ marks₀ nw f c marks
    nets-over q = cut (refused_at DraftAboveCap (p + b)) (λ limits est fx lim.
        sym (through-stopped limits (p + 1 + b) 6 (p + b) (parts 10 (slice a.end (length s) s)))
        ∙ ap (λ (x : Bool). through limits (p + 1 + b) (cond x (stopped 6 (p + b)) (reading (last-book est fx))) (parts 10 (slice a.end (length s) s))) (sym q)
        ∙ on limits est fx lim)

    pub nets-all : o ≡ false → NetsRead p s at most l b k t (Ok a) w d lo f₀ c₀ marks₀ nw f c marks
    nets-all q = record {
      inside = λ x z. read.inside x (is ∙ z);
      nw-len = λ x z. read.w-len a is;
      laid = λ x z. read.laid x (is ∙ z);
      says = λ limits est fx lim.
          sym (through-whole limits (p + 1 + b) (last-book est fx) (parts 10 (slice a.end (length s) s)) (full est fx))
          ∙ ap (λ (x : Bool). through limits (p + 1 + b) (cond x (stopped 6 (p + b)) (reading (last-book est fx))) (parts 10 (slice a.end (length s) s))) (sym q)
          ∙ on limits est fx lim;
    }

-- ---- after the first line
-- no lot is stamped
zeros : (n x : ℕ) → ◌≡◌ {A = ℕ} (get_or (replicate n 0) x 0) 0
zeros zero x = refl
zeros (suc n) zero = refl
zeros (suc n) (suc x) = zeros n x

pub fresh_start : Fresh 1 (replicate 1024 0)
fresh_start = record { below = λ x. omega (arith, zeros 1024 x) }

module _ (n : ℕ) (s : List ℕ) (at most l b k t : ℕ) (est : Bool) (w₀ d₀ fx₀ f₀ c₀ marks₀ w d fx lo : List ℕ) (r : Result ℕ Refused) (read : LotsRead n s at l k est r w₀ d₀ fx₀ w d fx lo) where
  pub lots-cut : (q : Refused) → r ≡ Err q → (nw f c marks : List ℕ) → BodyRead n s at most l b k t est (Err q) w₀ d₀ fx₀ f₀ c₀ marks₀ w d fx nw lo f c marks
  lots-cut q e nw f c marks = record {
    w-past = read.w-past;
    d-past = read.d-past;
    fx-past = read.fx-past;
    lo-len = read.lo-len;
    inside = λ a z. err-ok z;
    nw-len = λ a z. err-ok z;
    laid = λ a z. err-ok z;
    says = λ limits is. ap (λ (x : Result ℕ Refused). lots_seen n limits s est l b k t x w d fx lo) (sym e) ∙ read.says limits b t;
  }

  pub lots-go : (i : ℕ) → r ≡ Ok i → (x : Result Nets Refused) (nw f c marks : List ℕ) → NetsRead (n + l) s i most l b k t x w d lo f₀ c₀ marks₀ nw f c marks → BodyRead n s at most l b k t est x w₀ d₀ fx₀ f₀ c₀ marks₀ w d fx nw lo f c marks
  lots-go i e x nw f c marks nets = record {
    w-past = read.w-past;
    d-past = read.d-past;
    fx-past = read.fx-past;
    lo-len = read.lo-len;
    inside = nets.inside;
    nw-len = nets.nw-len;
    laid = nets.laid;
    says = λ limits is. nets.says limits est fx is ∙ ap (λ (x : Result ℕ Refused). lots_seen n limits s est l b k t x w d fx lo) (sym e) ∙ read.says limits b t;
  }

-- ---- the whole catalogue
module _ (limits : Limits) (n : ℕ) (s : List ℕ) (at : ℕ) (w₀ d₀ fx₀ f₀ c₀ marks₀ : List ℕ) where
  none : (q : Refused) (w d fx nw lo f c marks : List ℕ) → refused (number_of q.refusal) q.line ≡ through limits n unread (parts 10 (slice at (length s) s)) → CatalogueRead limits n s at (Err q) w₀ d₀ fx₀ f₀ c₀ marks₀ w d fx nw lo f c marks
  none q w d fx nw lo f c marks e = record { estimated = false; says = e; fitted = λ a z. err-ok z }

  module _ (at-le : at ≤ length s) (e : ℕ) (found : FirstAt s at (length s) 10 e) where
    pub no_line : (nw lo : List ℕ) → e ≡ length s → CatalogueRead limits n s at (Err (refused_at BadlyWritten n)) w₀ d₀ fx₀ f₀ c₀ marks₀ w₀ d₀ fx₀ nw lo f₀ c₀ marks₀
    unfolding unfinished
    no_line nw lo x = none (refused_at BadlyWritten n) w₀ d₀ fx₀ nw lo f₀ c₀ marks₀ (sym (through-none limits s (length s) at e n at-le (omega arith) found unread refl x))

    module _ (more : e < length s) (r : Result Head Refusal) (sale : SaleRead limits (fields (slice at e s)) r) where
      first-line : through limits n unread (parts 10 (slice at (length s) s)) ≡ through limits (n + 1) (opened n r) (parts 10 (slice (e + 1) (length s) s))
      unfolding line unfinished
      first-line = through-on limits s (length s) at e n at-le (omega arith) found unread refl more ∙ ap (λ (x : Reading). through limits (n + 1) x (parts 10 (slice (e + 1) (length s) s))) (sym (sale.says n))

      pub bad-sale : (nw lo : List ℕ) (q : Refusal) → r ≡ Err q → CatalogueRead limits n s at (Err (refused_at q n)) w₀ d₀ fx₀ f₀ c₀ marks₀ w₀ d₀ fx₀ nw lo f₀ c₀ marks₀
      bad-sale nw lo q x = none (refused_at q n) w₀ d₀ fx₀ nw lo f₀ c₀ marks₀ (sym (first-line ∙ ap (λ (h : Result Head Refusal). through limits (n + 1) (opened n h) (parts 10 (slice (e + 1) (length s) s))) x ∙ through-stopped limits (n + 1) (number_of q) n (parts 10 (slice (e + 1) (length s) s))))

      module _ (h : Head) (is : r ≡ Ok h) (x : Result Nets Refused) (w d fx nw lo f c marks : List ℕ)
          (read : BodyRead n s (e + 1) limits.pin_limit h.vertices h.nets h.blocks h.imbalance h.estimated x w₀ d₀ fx₀ f₀ c₀ marks₀ w d fx nw lo f c marks) where
        all_read : body_seen (n + h.vertices) s h.estimated h.vertices h.nets (lots_graph h.blocks h.imbalance h.vertices w d fx lo) x nw f c marks ≡ through limits n unread (parts 10 (slice at (length s) s))
        unfolding sum_over
        all_read = read.says limits refl ∙ sym (first-line ∙ ap (λ (h : Result Head Refusal). through limits (n + 1) (opened n h) (parts 10 (slice (e + 1) (length s) s))) is)

        seen : (y : Result Nets Refused) → x ≡ y → body_seen (n + h.vertices) s h.estimated h.vertices h.nets (lots_graph h.blocks h.imbalance h.vertices w d fx lo) y nw f c marks ≡ through limits n unread (parts 10 (slice at (length s) s))
        seen y z = ap (λ (y : Result Nets Refused). body_seen (n + h.vertices) s h.estimated h.vertices h.nets (lots_graph h.blocks h.imbalance h.vertices w d fx lo) y nw f c marks) (sym z) ∙ all_read

        pub catalogue-cut : (q : Refused) → x ≡ Err q → CatalogueRead limits n s at (Err q) w₀ d₀ fx₀ f₀ c₀ marks₀ w d fx nw lo f c marks
        catalogue-cut q z = none q w d fx nw lo f c marks (seen (Err q) z)

        pub catalogue-all : (a : Nets) → x ≡ Ok a → CatalogueRead limits n s at (Ok (record { vertices = h.vertices; nets = h.nets; blocks = h.blocks; imbalance = h.imbalance; pins = a.pins; end = a.end })) w₀ d₀ fx₀ f₀ c₀ marks₀ w d fx nw lo f c marks
        catalogue-all a z = record {
          estimated = h.estimated;
          says =
              let q : n + 1 + h.vertices + h.nets ≡ n + h.vertices + 1 + h.nets = omega arith in
              ap (λ (y : ℕ). ended (book h.estimated h.vertices h.nets (graph_of h.vertices h.nets h.blocks h.imbalance w d fx nw lo f c marks) a.pins []) y (parts 10 (slice a.end (length s) s))) q
              ∙ seen (Ok a) z;
          fitted = λ y q. subst (λ (v : Catalogue). Fitted limits s v w₀ d₀ fx₀ f₀ c₀ marks₀ w d fx nw lo f c marks) (ok-ok q)
              (record { range = sale.ranges h is; inside = read.inside a z; lo-len = read.lo-len; nw-len = read.nw-len a z; w-past = read.w-past; d-past = read.d-past; fx-past = read.fx-past; laid = read.laid a z });
        }
