-- The lines of the closing report, one after another. Rests on Laws and on model's Report.
use Prim.Native.Nat.{ℕ, zero, suc, ◌+◌, ◌-◌, ◌<◌, ◌≤◌}
use native.Mathlib.Omega.{arith}
use native.Mathlib.Numerals.{add-one}
use mathlib.Core.Path.{◌≡◌, sym, ap, ◌∙◌, subst}
use mathlib.Core.Bool.{Bool, true, false, cond}
use lib.Dec.{ltb}
use borrow.Author.Tests.{le-ltb, lt-ltb}
use mathlib.Core.List.{List, [], ◌∷◌, ◌++◌, append_assoc, append-nil}
use lib.ListN.{length, take, drop, length-append, take-append-drop}
use lib.Seq.{take-suc, take_all, length-take-le}
use Rattle.laws.specs.Sum.{fold_to, fold_to-step}
use Rattle.model.specs.Catalogue.{Net, Hypergraph, vertices, in_sale}
use Rattle.model.specs.Measure.{representative, connectivity}
use Rattle.model.specs.Machine.{State}
use Rattle.model.specs.Memory.{no_net}
use Rattle.model.specs.Report.{digits, row, lot_rows, buy_rows, closing}
use Rattle.levels.specs.Running.{net_at}
use Rattle.fields.specs.Wrote.{Wrote}
use Rattle.report.specs.Closing.{lot_line, Ended}
use Rattle.fields.proofs.Laws.{wrote_none, wrote-append}

-- a text of which the first part is written, at a place that is within the buffer, and then the rest of it
wrote_then : {l m l' : List ℕ} {at : ℕ} {d : List ℕ} {e : List ℕ} {p r : ℕ} → p ≤ length l → Wrote l m at d p → Wrote m l' p e r → Wrote l l' at (d ++ e) r
wrote_then h v w = wrote-append (omega (arith, v.ends)) v w

-- nothing, or the line
pub line-none : {l : List ℕ} {at : ℕ} (i b : ℕ) → b ≡ 0 → Wrote l l at (lot_line i b) at
line-none {l} {at} i b e = subst (λ (t : Bool). Wrote l l at (cond t (row "LOT" (digits (i + 1) ∷ digits b ∷ [])) []) at) (sym (le-ltb 0 b (omega arith))) (wrote_none l at)

pub line-some : (i b : ℕ) → (b ≡ 0 → ⊥) → lot_line i b ≡ row "LOT" (digits (i + 1) ∷ digits b ∷ [])
line-some i b n = ap (λ (t : Bool). cond t (row "LOT" (digits (i + 1) ∷ digits b ∷ [])) []) (lt-ltb 0 b (omega (arith, n)))

pub line_wrote : {l m : List ℕ} {at r : ℕ} (i b : ℕ) → (b ≡ 0 → ⊥) → Wrote l m at (row "LOT" (digits (i + 1) ∷ digits b ∷ [])) r → Wrote l m at (lot_line i b) r
line_wrote {l} {m} {at} {r} i b n w = subst (λ (x : List ℕ). Wrote l m at x r) (sym (line-some i b n)) w

module _ (h : Hypergraph) (s : State) where
  -- the line of the vertex v
  abbrev pub lot_row : ℕ → List ℕ
  lot_row v = row "LOT" (digits v ∷ digits (s.block (representative s.stack v)) ∷ [])

  -- the lines of the vertices 1..i that are in the sale
  unfoldable pub lots_to : ℕ → List ℕ
  lots_to i = fold_to i (λ out v. cond (in_sale h v) (out ++ lot_row v) out) []

  pub lots-none : (l : List ℕ) (at : ℕ) → Wrote l l at (lots_to 0) at
  unfolding lots_to fold_to
  lots-none l at = wrote_none l at

  lots-step : (i : ℕ) → lots_to (i + 1) ≡ cond (in_sale h (i + 1)) (lots_to i ++ lot_row (i + 1)) (lots_to i)
  unfolding lots_to
  lots-step i = fold_to-step i (λ out v. cond (in_sale h v) (out ++ lot_row v) out) []

  -- the next line, by the block of the representative
  lots-line : (i b : ℕ) → b ≡ s.block (representative s.stack (i + 1)) → ltb 0 (s.block (representative s.stack (i + 1))) ≡ in_sale h (i + 1) → lots_to (i + 1) ≡ lots_to i ++ lot_line i b
  lots-line i b q z = lots-step i ∙ go (in_sale h (i + 1)) (ap (ltb 0) q ∙ z)
    where
      go : (t : Bool) → ltb 0 b ≡ t → cond t (lots_to i ++ lot_row (i + 1)) (lots_to i) ≡ lots_to i ++ cond (ltb 0 b) (row "LOT" (digits (i + 1) ∷ digits b ∷ [])) []
      go true e = ap (λ (x : ℕ). lots_to i ++ row "LOT" (digits (i + 1) ∷ digits x ∷ [])) (sym q) ∙ ap (λ (t : Bool). lots_to i ++ cond t (row "LOT" (digits (i + 1) ∷ digits b ∷ [])) []) (sym e)
      go false e = sym (append-nil (lots_to i)) ∙ ap (λ (t : Bool). lots_to i ++ cond t (row "LOT" (digits (i + 1) ∷ digits b ∷ [])) []) (sym e)

  lots-longer : (i : ℕ) → length (lots_to i) ≤ length (lots_to (i + 1))
  lots-longer i = go (in_sale h (i + 1)) (lots-step i)
    where
      go : (t : Bool) → lots_to (i + 1) ≡ cond t (lots_to i ++ lot_row (i + 1)) (lots_to i) → length (lots_to i) ≤ length (lots_to (i + 1))
      go true e = omega (arith, ap length e, length-append (lots_to i) (lot_row (i + 1)))
      go false e = omega (arith, ap length e)

  lots-mono : (i j : ℕ) → length (lots_to i) ≤ length (lots_to (i + j))
  lots-mono i zero = let e : i ≡ i + 0 = omega arith in omega (arith, ap (λ (k : ℕ). length (lots_to k)) e)
  lots-mono i (suc j) =
      let e : i + suc j ≡ i + j + 1 = omega arith in
      omega (arith, lots-mono i j, ap (λ (k : ℕ). length (lots_to k)) e, lots-longer (i + j))

  -- there is room for the next line
  pub lots-room : (i b : ℕ) → i < vertices h → b ≡ s.block (representative s.stack (i + 1)) → ltb 0 (s.block (representative s.stack (i + 1))) ≡ in_sale h (i + 1) → length (lots_to i) + length (lot_line i b) ≤ length (lot_rows h s)
  unfolding lot_rows lots_to
  lots-room i b l q z =
      let e : i + 1 + (vertices h - (i + 1)) ≡ vertices h = omega arith in
      omega (
        arith,
        lots-mono (i + 1) (vertices h - (i + 1)),
        ap (λ (k : ℕ). length (lots_to k)) e,
        ap length (lots-line i b q z),
        length-append (lots_to i) (lot_line i b),
      )

  pub lots-more : {l m l' : List ℕ} {at p r : ℕ} (i b : ℕ) → b ≡ s.block (representative s.stack (i + 1)) → ltb 0 (s.block (representative s.stack (i + 1))) ≡ in_sale h (i + 1) → p ≤ length l → Wrote l m at (lots_to i) p →
      Wrote m l' p (lot_line i b) r → Wrote l l' at (lots_to (i + 1)) r
  lots-more i b q z f v w = rw (lots-line i b q z) (wrote_then f v w)

  pub lots-all : (n : ℕ) → n ≡ vertices h → lots_to n ≡ lot_rows h s
  unfolding lot_rows lots_to
  lots-all n q = ap lots_to q

  -- the line of the net at place i
  abbrev pub net_row : ℕ → List ℕ
  net_row i = row "BUY" (digits (i + 1) ∷ digits (connectivity h s.stack s.block (net_at h i)) ∷ [])

  -- the lines of the first i nets
  abbrev pub nets_to : ℕ → List ℕ
  nets_to i = buy_rows h s 1 (take i h.nets)

  pub nets-none : (l : List ℕ) (at : ℕ) → Wrote l l at (nets_to 0) at
  unfolding buy_rows
  nets-none l at = wrote_none l at

  buy-append : (i : ℕ) (xs ys : List Net) → buy_rows h s i (xs ++ ys) ≡ buy_rows h s i xs ++ buy_rows h s (i + length xs) ys
  unfolding buy_rows
  buy-append i [] ys = let e : i ≡ i + 0 = omega arith in ap (λ (k : ℕ). buy_rows h s k ys) e
  buy-append i (x ∷ xs) ys =
      let e : suc i + length xs ≡ i + suc (length xs) = omega arith in
      let first : List ℕ = row "BUY" (digits i ∷ digits (connectivity h s.stack s.block x) ∷ []) in
      ap (λ (t : List ℕ). first ++ t) (buy-append (suc i) xs ys ∙ ap (λ (k : ℕ). buy_rows h s (suc i) xs ++ buy_rows h s k ys) e)
      ∙ sym (append_assoc first (buy_rows h s (suc i) xs) (buy_rows h s (i + suc (length xs)) ys))

  buy-one : (i : ℕ) (x : Net) → buy_rows h s i (x ∷ []) ≡ row "BUY" (digits i ∷ digits (connectivity h s.stack s.block x) ∷ [])
  unfolding buy_rows
  buy-one i x = append-nil _

  nets-step : (i : ℕ) → i < length h.nets → nets_to (i + 1) ≡ nets_to i ++ net_row i
  nets-step i l =
      let e : 1 + length (take i h.nets) ≡ i + 1 = omega (arith, length-take-le i h.nets (omega arith)) in
      ap (λ (k : ℕ). buy_rows h s 1 (take k h.nets)) (add-one i)
      ∙ ap (buy_rows h s 1) (take-suc h.nets i no_net l)
      ∙ buy-append 1 (take i h.nets) (net_at h i ∷ [])
      ∙ ap (λ (k : ℕ). nets_to i ++ buy_rows h s k (net_at h i ∷ [])) e
      ∙ ap (λ (t : List ℕ). nets_to i ++ t) (buy-one (i + 1) (net_at h i))

  pub nets-room : (i c : ℕ) → i < length h.nets → c ≡ connectivity h s.stack s.block (net_at h i) → length (nets_to i) + length (row "BUY" (digits (i + 1) ∷ digits c ∷ [])) ≤ length (buy_rows h s 1 h.nets)
  nets-room i c l q = omega (
    arith,
    ap (λ (t : List Net). length (buy_rows h s 1 t)) (sym (take-append-drop (i + 1) h.nets)),
    ap length (buy-append 1 (take (i + 1) h.nets) (drop (i + 1) h.nets)),
    length-append (nets_to (i + 1)) (buy_rows h s (1 + length (take (i + 1) h.nets)) (drop (i + 1) h.nets)),
    ap length (nets-step i l),
    length-append (nets_to i) (net_row i),
    ap (λ (x : ℕ). length (row "BUY" (digits (i + 1) ∷ digits x ∷ []))) q,
  )

  pub nets-more : {l m l' : List ℕ} {at p r : ℕ} (i c : ℕ) → i < length h.nets → c ≡ connectivity h s.stack s.block (net_at h i) → p ≤ length l → Wrote l m at (nets_to i) p →
      Wrote m l' p (row "BUY" (digits (i + 1) ∷ digits c ∷ [])) r → Wrote l l' at (nets_to (i + 1)) r
  nets-more {m = m} {l' = l'} {p = p} {r = r} i c k q f v w = rw (nets-step i k) (wrote_then f v (subst (λ (x : ℕ). Wrote m l' p (row "BUY" (digits (i + 1) ∷ digits x ∷ [])) r) q w))

  pub nets-all : (i : ℕ) → length h.nets ≤ i → nets_to i ≡ buy_rows h s 1 h.nets
  nets-all i l = ap (buy_rows h s 1) (take_all i h.nets l)

-- ---- the whole
module _ {h : Hypergraph} {s : State} {blocks aboves visited gone : List ℕ} {n m depth draft total : ℕ} (t : Ended h s blocks aboves visited gone n m depth draft total) where
  pub closing-parts : closing draft h s ≡ row "TOTAL" (digits draft ∷ digits total ∷ []) ++ lot_rows h s ++ buy_rows h s 1 h.nets
  unfolding closing
  closing-parts = ap (λ (b : ℕ). row "TOTAL" (digits draft ∷ digits b ∷ []) ++ lot_rows h s ++ buy_rows h s 1 h.nets) (sym t.sound.total-is)

  pub closing-length : length (closing draft h s) ≡ length (row "TOTAL" (digits draft ∷ digits total ∷ [])) + length (lot_rows h s) + length (buy_rows h s 1 h.nets)
  closing-length = omega (
    arith,
    ap length closing-parts,
    length-append (row "TOTAL" (digits draft ∷ digits total ∷ []) ++ lot_rows h s) (buy_rows h s 1 h.nets),
    length-append (row "TOTAL" (digits draft ∷ digits total ∷ [])) (lot_rows h s),
  )
