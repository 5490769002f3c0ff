-- A catalogue within the ranges of an entry, whose lows are its weights and with no lot kept, written as text of at most 60,000 bytes, loads
-- again as it was, without calls (loads-again), so that it is an accepted one (text-accepted). The state between two lines is `grown`, and a line that is still to come says that the
-- book is not whole yet (next-line). Rests on Lines. Assumes nothing.
use Rattle.std.specs.Prelude.{ℕ, zero, suc, ◌+◌, ◌≤◌, ◌<◌, ◌≡◌, Bool, true, false, ◌&&◌, ◌||◌}
use Prim.Native.String.{String}
use native.Mathlib.Omega.{arith}
use Rattle.std.proofs.Math.Path.{refl, sym, ap, ap₂, subst}
use Rattle.std.proofs.Common.{◌∙◌, length-append}
use Rattle.std.proofs.Math.Bool.{cond}
use mathlib.Core.List.{List, [], ◌∷◌, ◌++◌, append-nil, append_assoc}
use borrow.Author.Tests.{le-ltb, eq-eqb, ne_eqb}
use Rattle.std.proofs.Math.Dec.{ltb}
use Rattle.std.proofs.Math.ListN.{length}
use Rattle.laws.specs.Fold.{sum_over, All}
use Rattle.laws.specs.Occurrence.{Distinct}
use Rattle.laws.specs.Sum.{fold_to, fold_to-none, fold_to-more}
use Rattle.model.specs.Catalogue.{Limits, Net, Hypergraph, vertices, capacity, drafted}
use Rattle.model.specs.Measure.{block_weight}
use Rattle.model.specs.Machine.{fresh}
use Rattle.model.specs.Grammar.{bytes, Book, Reading, unread, reading, stopped, whole, overfull, grown, with_lot, with_net, line, ending, lines, parts, parse}
use Rattle.model.specs.Report.{row}
use Rattle.model.specs.Demand.{Accepted}
use Rattle.guarantees.specs.Loads.{Loaded}
use Rattle.guarantees.specs.Ranges.{Ranges}
use Rattle.guarantees.specs.Clumps.{Within}
use Rattle.model.specs.CatalogueText.{numbers, lot_text, buy_text, catalogue_text}
use Rattle.written.specs.Rows.{Above, joined, lines-row}
use Rattle.written.specs.Numbers.{Short, both, numbers-above}
use Rattle.written.specs.Lines.{words, sale-line, lot-line, Buyer, buy-line}

-- ---- a book line by line
partly : (k : Book) → whole k ≡ false → (n : ℕ) → grown n k ≡ reading k
unfolding grown
partly k e n = ap (λ (t : Bool). cond (t && overfull k.graph) (stopped 6 n) (reading k)) e

-- from the book k on, the text ends in the book b, whatever line it begins at
abbrev Leads : Limits → Book → List ℕ → Book → Type 0
Leads limits k text b = (n : ℕ) → lines limits (suc n) (grown n k) (parts 10 text) ≡ reading b

next-line : (limits : Limits) (k k' b : Book) (word : String) (ns rest : List ℕ) → Above 44 (bytes word) → whole k ≡ false
    → ((n : ℕ) → line limits n (reading k) (joined (bytes word) (numbers ns)) ≡ grown n k') → Leads limits k' rest b → Leads limits k (row word (numbers ns) ++ rest) b
next-line limits k k' b word ns rest a more read on n =
    ap (λ (r : Reading). lines limits (suc n) r (parts 10 (row word (numbers ns) ++ rest))) (partly k more n)
    ∙ lines-row limits (suc n) (reading k) word (numbers ns) rest a (numbers-above ns)
    ∙ ap (λ (r : Reading). lines limits (suc (suc n)) r (parts 10 rest)) (read (suc n))
    ∙ on (suc n)

-- a whole book at the end of the file
last_line : (limits : Limits) (k : Book) → whole k ≡ true → overfull k.graph ≡ false → Leads limits k [] k
unfolding grown lines parts ending
last_line limits k w o n = rw (w, o) (rw w)

-- ---- the draft is not overfull
none_over : (n : ℕ) (f : ℕ → Bool) → ((i : ℕ) → 1 ≤ i → i ≤ n → f i ≡ false) → fold_to n (λ b s. b || f s) false ≡ false
none_over zero f e = fold_to-none f
none_over (suc n) f e = fold_to-more n f (none_over n f (λ i l u. e i l (omega arith))) (e (suc n) (omega arith) (omega arith))

-- ---- the books on the way to the whole one
abbrev stage : Hypergraph → ℕ → List ℕ → List ℕ → List ℕ → List ℕ → List Net → ℕ → Book
stage h t os ws ds xs es m = record { estimated = false; lots = vertices h; buyers = length h.nets; graph = record { blocks = h.blocks; imbalance = h.imbalance; total_weight = t; lows = os; weights = ws; draft = ds; fixed = xs; nets = es }; marks = m; calls = [] }

abbrev pub marks : List Net → ℕ
marks es = sum_over es (λ e. length e.pins)

abbrev pub book_of : Hypergraph → Book
book_of h = stage h h.total_weight h.lows h.weights h.draft h.fixed h.nets (marks h.nets)

-- a list of which some is still to come is longer than what stands before
shorter : {A : Type 0} (xs : List A) (y : A) (ys l : List A) → xs ++ (y ∷ ys) ≡ l → length xs < length l
shorter xs y ys l e = omega (arith, length-append xs (y ∷ ys), ap length e)

buyers : (n : ℕ) (es : List Net) → All es (Within n) → All es (λ e. Distinct e.pins 0 (length e.pins)) → All es (λ e. 1 ≤ length e.pins) → All es (λ e. (1 ≤ e.weight) × (e.weight ≤ 1000)) → All es (Buyer n)
buyers n [] a b c d = tt
buyers n (e ∷ es) a b c d = (record { weight-low = d.0.0; weight-high = d.0.1; some = c.0; in-range = a.0; distinct = b.0 }, buyers n es a.1 b.1 c.1 d.1)

module _ (limits : Limits) (small : Short limits.vertex_limit) (narrow : Short limits.block_limit) (buyers-wide : 1024 ≤ limits.net_limit) (marks-wide : 8192 ≤ limits.pin_limit) (h : Hypergraph) (r : Ranges limits h) (g : Loaded limits h) (free : All h.fixed (λ x. x ≡ 0)) (alike : h.lows ≡ h.weights) where
  not-overfull : overfull h ≡ false
  unfolding overfull fresh
  not-overfull = none_over h.blocks (λ s. ltb (capacity h) (block_weight h [] (drafted h) s)) (λ s l u. le-ltb (capacity h) _ (r.draft-within s l u))

  -- es are read, fs are still to come
  nets-lead : (es fs : List Net) (m : ℕ) → es ++ fs ≡ h.nets → m + marks fs ≡ marks h.nets → All fs (Buyer (vertices h)) → Leads limits (stage h h.total_weight h.lows h.weights h.draft h.fixed es m) (buy_text fs) (book_of h)
  unfolding buy_text sum_over with_net
  nets-lead es [] m e s a =
      subst (λ (k : Book). Leads limits k [] (book_of h)) (ap₂ (stage h h.total_weight h.lows h.weights h.draft h.fixed) (sym e ∙ append-nil es) (omega arith))
      (last_line limits (book_of h) (both (eq-eqb (vertices h) (vertices h) refl) (eq-eqb (length h.nets) (length h.nets) refl)) not-overfull)
  nets-lead es (f ∷ fs) m e s a =
      let k = stage h h.total_weight h.lows h.weights h.draft h.fixed es m in
      let more = shorter es f fs h.nets e in
      next-line limits k (stage h h.total_weight h.lows h.weights h.draft h.fixed (es ++ (f ∷ [])) (m + length f.pins)) (book_of h) "BUY" (f.weight ∷ f.pins) (buy_text fs) words.2
      (rw (eq-eqb (vertices h) (vertices h) refl, ne_eqb (length es) (length h.nets) (λ q. omega arith)))
      (λ n. buy-line limits n k f (omega arith) (omega arith) more a.0 (omega arith))
      (nets-lead (es ++ (f ∷ [])) fs (m + length f.pins) (append_assoc es (f ∷ []) fs ∙ e) (omega arith) a.1)

  -- lots of ws in the blocks ds are read, us in bs are still to come; xs and ys tell which of them are kept; the lows are ws as well
  lots-lead : (t : ℕ) (ws ds xs us bs ys : List ℕ) → t + sum_over us (λ w. w) ≡ h.total_weight → ws ++ us ≡ h.weights → ds ++ bs ≡ h.draft → xs ++ ys ≡ h.fixed → length bs ≡ length us → length ys ≡ length us
      → All us (λ w. (1 ≤ w) × (w ≤ 65535)) → All bs (λ b. (1 ≤ b) × (b ≤ h.blocks)) → All ys (λ x. x ≡ 0) → Leads limits (stage h t ws ws ds xs [] 0) (lot_text us bs ++ buy_text h.nets) (book_of h)
  unfolding lot_text with_lot sum_over
  lots-lead t ws ds xs [] [] [] q e f i l o a b c =
      subst (λ (k : Book). Leads limits k (buy_text h.nets) (book_of h))
      (ap (λ (x : List ℕ). stage h h.total_weight x h.weights h.draft h.fixed [] 0) alike
      ∙ ap₂ (λ (x y : List ℕ). stage h h.total_weight x x y h.fixed [] 0) (sym e ∙ append-nil ws) (sym f ∙ append-nil ds)
      ∙ ap₂ (λ (x : ℕ) (y : List ℕ). stage h x ws ws ds y [] 0) (let z : h.total_weight ≡ t = omega arith in z) (sym i ∙ append-nil xs))
      (nets-lead [] h.nets 0 refl (omega arith) (buyers (vertices h) h.nets g.nets-in g.nets-distinct g.nets-some g.net-weights))
  lots-lead t ws ds xs [] [] (y ∷ ys) q e f i l o a b c = absurd (omega arith)
  lots-lead t ws ds xs [] (x ∷ bs) ys q e f i l o a b c = absurd (omega arith)
  lots-lead t ws ds xs (w ∷ us) [] ys q e f i l o a b c = absurd (omega arith)
  lots-lead t ws ds xs (w ∷ us) (x ∷ bs) [] q e f i l o a b c = absurd (omega arith)
  lots-lead t ws ds xs (w ∷ us) (x ∷ bs) (y ∷ ys) q e f i l o a b c =
      let k = stage h t ws ws ds xs [] 0 in
      let more = shorter ws w us h.weights e in
      rw (append_assoc (row "LOT" (numbers (w ∷ x ∷ []))) (lot_text us bs) (buy_text h.nets))
      (next-line limits k (stage h (t + w) (ws ++ (w ∷ [])) (ws ++ (w ∷ [])) (ds ++ (x ∷ [])) (xs ++ (0 ∷ [])) [] 0) (book_of h) "LOT" (w ∷ x ∷ []) (lot_text us bs ++ buy_text h.nets) words.1
      (rw (ne_eqb (length ws) (vertices h) (λ q. omega arith)))
      (λ n. lot-line limits n k w x refl (omega arith) more a.0.0 a.0.1 b.0.0 b.0.1)
      (lots-lead (t + w) (ws ++ (w ∷ [])) (ds ++ (x ∷ [])) (xs ++ (0 ∷ [])) us bs ys (omega arith) (append_assoc ws (w ∷ []) us ∙ e) (append_assoc ds (x ∷ []) bs ∙ f)
      (append_assoc xs (0 ∷ []) ys ∙ ap (λ (z : ℕ). xs ++ (z ∷ ys)) (sym c.0) ∙ i) (omega arith) (omega arith) a.1 b.1 c.1))

  pub loads-again : length (catalogue_text h) ≤ 60000 → parse limits (catalogue_text h) ≡ reading (book_of h)
  unfolding parse catalogue_text
  loads-again fits =
      let first = vertices h ∷ length h.nets ∷ h.blocks ∷ h.imbalance ∷ [] in
      let rest = lot_text h.weights h.draft ++ buy_text h.nets in
      ap (λ (t : Bool). cond t (stopped 1 0) (lines limits 1 unread (parts 10 (row "SALE" (numbers first) ++ rest)))) (le-ltb 60000 _ fits)
      ∙ lines-row limits 1 unread "SALE" (numbers first) rest words.0 (numbers-above first)
      ∙ ap (λ (x : Reading). lines limits 2 x (parts 10 rest))
      (sale-line limits 1 (vertices h) (length h.nets) h.blocks h.imbalance small narrow r.vertices-low r.vertices-high r.nets-high (omega (arith, r.nets-high, buyers-wide)) g.blocks-low g.blocks-high g.imbalance-high
      ∙ sym (partly (stage h 0 [] [] [] [] [] 0) (rw (ne_eqb 0 (vertices h) (λ q. omega (arith, r.vertices-low)))) 1))
      ∙ lots-lead 0 [] [] [] h.weights h.draft h.fixed (omega (arith, g.total-is, ap (λ (l : List ℕ). sum_over l (λ w. w)) alike)) refl refl refl g.as_long g.fixed-long g.weights-in g.draft-in free 1

  pub text-accepted : length (catalogue_text h) ≤ 60000 → Accepted limits h
  text-accepted fits = record { file = catalogue_text h; book = book_of h; loads = loads-again fits; graph_is = refl }
