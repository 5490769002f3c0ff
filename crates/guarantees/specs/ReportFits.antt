-- The report fits: an answer's line has at most 41 bytes (answer_le), the closing report at most 24,600 (closing-le), and so for every accepted
-- catalogue and every list of up to 512 calls the report has at most 45,592, within the 60,000 lent (report-fits). Rests on AnswerBounds and
-- Numbers. Assumes nothing.
use Prim.Native.Nat.{ℕ, zero, suc, ◌+◌, ◌*◌, ◌≤◌}
use Prim.Native.String.{String}
use native.Mathlib.Omega.{arith}
use Rattle.std.specs.Prelude.{◌≡◌, Bool, true, false, not, cond, ◌&&◌, ◌||◌}
use Rattle.std.proofs.Math.Path.{refl}
use Rattle.std.proofs.Common.{ap}
use mathlib.Core.List.{List, [], ◌∷◌, ◌++◌}
use Rattle.std.proofs.Math.Dec.{leb, ltb}
use Rattle.std.proofs.Math.ListN.{length, length-append}
use Rattle.laws.specs.Fold.{sum_over, all}
use Rattle.laws.specs.Choice.{one}
use Rattle.laws.specs.Sum.{sum_to-suc, count_to, fold_to}
use Rattle.model.specs.Catalogue.{Limits, Net, Hypergraph, vertices, in_sale, is_vertex, is_block, is_net, capacities}
use Rattle.model.specs.Measure.{on_board, representative, block_weight, connectivity, metric}
use Rattle.model.specs.Machine.{Answer, says_j, says_s, says_m, says_b, says_w, says_p, says_a, says_x, says_n, says_no, State, fresh}
use Rattle.model.specs.Sale.{Request, runs, call_x, call_n, Sale, Turn, Space, opened, space_of, lots_in, marks_in, joins_stand, named_twice, refuses_x, refuses_n, turned, does_x, does_n, ran, turn_under, turn}
use Rattle.model.specs.Grammar.{bytes}
use Rattle.model.specs.Report.{digits, tail, row, answer_row, lot_rows, buy_rows, closing}
use Rattle.model.specs.Engine.{after, answers, draft_total, run}
use Rattle.model.specs.Demand.{Accepted}
use Rattle.guarantees.specs.Numbers.{digits_le}
use Rattle.guarantees.specs.Ends.{placed-high}
use Rattle.guarantees.specs.Calls.{Legal}
use Rattle.guarantees.specs.Clumps.{representative-in}
use Rattle.guarantees.specs.Bounds.{connectivity-le}
use Rattle.guarantees.specs.Ranges.{Few, Ranges, accepted-ranges}
use Rattle.guarantees.specs.Reached.{Valid, accepts-X, accepts-N, number-le, valid-turn, reached}
use Rattle.guarantees.specs.StateBounds.{lots-le}
use Rattle.guarantees.specs.AnswerBounds.{Bounded, either-le, bounded-call, metric-in, vertices-in, blocks-in}

-- ---- one line
tail-length : (fs : List (List ℕ)) → length (tail fs) ≡ sum_over fs (λ f. suc (length f)) + 1
unfolding tail sum_over
tail-length [] = refl
tail-length (f ∷ fs) = omega (arith, length-append f (tail fs), tail-length fs)

pub row-length : (word : String) (fs : List (List ℕ)) → length (row word fs) ≡ length (bytes word) + (sum_over fs (λ f. suc (length f)) + 1)
unfolding row
row-length word fs = omega (arith, length-append (bytes word) (tail fs), tail-length fs)

-- the metric has at most 8 digits
metric-digits : (c : ℕ) → c ≤ 15360000 → length (digits c) ≤ 8
metric-digits c l = digits_le 7 c (omega arith)

pub answer_le : (a : Answer) → Bounded a → length (answer_row a) ≤ 41
unfolding answer_row sum_over bytes
answer_le (says_j w) b = omega (arith, row-length "J" (digits w ∷ []), digits_le 7 w (omega arith))
answer_le (says_s u v) b = omega (arith, row-length "S" (digits u ∷ digits v ∷ []), digits_le 3 u (omega arith), digits_le 3 v (omega arith))
answer_le (says_m f d c) b = omega (arith, row-length "M" (digits f ∷ digits d ∷ digits c ∷ []), digits_le 6 f (omega arith), digits_le 6 d (omega arith), metric-digits c b.2)
answer_le (says_b v t c) b = omega (arith, row-length "B" (digits v ∷ digits t ∷ digits c ∷ []), digits_le 3 v (omega arith), digits_le 1 t (omega arith), metric-digits c b.2)
answer_le (says_w t k c) b = omega (arith, row-length "W" (digits t ∷ digits k ∷ digits c ∷ []), digits_le 3 t (omega arith), digits_le 3 k (omega arith), metric-digits c b.2)
answer_le (says_p m c) b = omega (arith, row-length "P" (digits m ∷ digits c ∷ []), metric-digits m b.0, metric-digits c b.1)
answer_le (says_a j t k m c) b = omega (
  arith,
  row-length "A" (digits j ∷ digits t ∷ digits k ∷ digits m ∷ digits c ∷ []),
  digits_le 3 j (omega arith),
  digits_le 6 t (omega arith),
  digits_le 6 k (omega arith),
  metric-digits m b.3,
  metric-digits c b.4,
)
answer_le (says_x c) b = omega (arith, row-length "X" (digits c ∷ []), metric-digits c b)
answer_le (says_n v c) b = omega (arith, row-length "N" (digits v ∷ digits c ∷ []), digits_le 3 v (omega arith), metric-digits c b.1)
answer_le (says_no q) b = omega (arith, row-length "NO" (digits q ∷ []), digits_le 1 q (omega arith))

-- a line of the closing report: a word of three letters, a number of up to four digits and one of up to two
line-le : (word : String) (i x : ℕ) → length (bytes word) ≡ 3 → i ≤ 1024 → x ≤ 16 → length (row word (digits i ∷ digits x ∷ [])) ≤ 12
unfolding sum_over
line-le word i x three l m = omega (arith, three, row-length word (digits i ∷ digits x ∷ []), digits_le 3 i (omega arith), digits_le 1 x (omega arith))

-- ---- many lines
fold-length : (n : ℕ) (used : ℕ → Bool) (f : ℕ → List ℕ) → ((i : ℕ) → 1 ≤ i → i ≤ n → length (f i) ≤ 12) → length (fold_to n (λ out i. cond (used i) (out ++ f i) out) []) ≤ 12 * count_to n used
unfolding fold_to
fold-length zero used f l = omega arith
fold-length (suc n) used f l = go (used (suc n)) refl (fold-length n used f (λ i a b. l i a (omega arith)))
  where
    out : List ℕ
    out = fold_to n (λ out i. cond (used i) (out ++ f i) out) []

    go : (b : Bool) → used (suc n) ≡ b → length out ≤ 12 * count_to n used → length (cond b (out ++ f (suc n)) out) ≤ 12 * count_to (suc n) used
    go true e ih = omega (arith, length-append out (f (suc n)), l (suc n) (omega arith) (omega arith), sum_to-suc n (λ i. one (used i)), ap one e)
    go false e ih = omega (arith, sum_to-suc n (λ i. one (used i)))

module _ (limits : Limits) (small : limits.vertex_limit ≤ 1024) (narrow : limits.block_limit ≤ 16) (h : Hypergraph) (r : Ranges limits h) where
  -- the block of a representative
  pub block_in : (s : State) → Legal h s → (v : ℕ) → 1 ≤ v → v ≤ vertices h → s.block (representative s.stack v) ≤ 16
  block_in s ok v l u =
      let i = representative-in h s.stack ok.sound ok.inside v l u in
      omega (arith, placed-high h s.stack s.block ok.placed (representative s.stack v) i.0 i.1, blocks-in limits small narrow h r)

  lot-rows-le : (s : State) → Legal h s → length (lot_rows h s) ≤ 12 * lots_in h
  unfolding lot_rows bytes lots_in
  lot-rows-le s ok =
      fold-length (vertices h) (λ v. in_sale h v) (λ v. row "LOT" (digits v ∷ digits (s.block (representative s.stack v)) ∷ []))
      (λ v l u. line-le "LOT" v (s.block (representative s.stack v)) refl (omega (arith, vertices-in limits small narrow h r)) (block_in s ok v l u))

  pub visited-in : (s : State) (e : Net) → connectivity h s.stack s.block e ≤ 16
  visited-in s e = omega (arith, connectivity-le limits narrow h r.loaded r.nets-high s.stack s.block e, blocks-in limits small narrow h r)

  nets-le : (s : State) (i : ℕ) (es : List Net) → i + length es ≤ 1025 → length (buy_rows h s i es) ≤ 12 * length es
  unfolding buy_rows bytes
  nets-le s i [] l = omega arith
  nets-le s i (e ∷ es) l = omega (
    arith,
    length-append (row "BUY" (digits i ∷ digits (connectivity h s.stack s.block e) ∷ [])) (buy_rows h s (suc i) es),
    line-le "BUY" i (connectivity h s.stack s.block e) refl (omega arith) (visited-in s e),
    nets-le s (suc i) es (omega arith),
  )

  -- by the lots in the sale and the buyers
  pub closing-by : (draft : ℕ) → draft ≤ 15360000 → (s : State) → Legal h s → length (closing draft h s) ≤ 24 + (12 * lots_in h + 12 * length h.nets)
  unfolding closing sum_over bytes
  closing-by draft low s ok = omega (
    arith,
    length-append (first ++ lot_rows h s) (buy_rows h s 1 h.nets),
    length-append first (lot_rows h s),
    row-length "TOTAL" (digits draft ∷ digits (metric h s.stack s.block) ∷ []),
    metric-digits draft low,
    metric-digits (metric h s.stack s.block) (metric-in limits small narrow h r _ _),
    lot-rows-le s ok,
    nets-le s 1 h.nets (omega (arith, r.nets-high)),
  )
    where
      first : List ℕ
      first = row "TOTAL" (digits draft ∷ digits (metric h s.stack s.block) ∷ [])

  pub closing-le : (draft : ℕ) → draft ≤ 15360000 → (s : State) → Legal h s → length (closing draft h s) ≤ 24600
  closing-le draft low s ok = omega (arith, closing-by draft low s ok, lots-le h, vertices-in limits small narrow h r, r.nets-high)

module _ (limits : Limits) (small : limits.vertex_limit ≤ 1024) (narrow : limits.block_limit ≤ 16) where
  -- the answer of every call line
  pub turned-bounded : (q : ℕ) (a : Sale) (done : Turn) → q ≤ 25 → (q ≡ 0 → Bounded done.answer) → Bounded (turned q a done).answer
  unfolding turned
  turned-bounded zero a done l f = f refl
  turned-bounded (suc q) a done l f = l

  pub refusals-X : (h : Hypergraph) (s : State) (v : ℕ) → refuses_x h s v ≤ 25
  unfolding refuses_x
  refusals-X h s v =
      either-le (not (is_vertex h v)) 9 _ 25 (omega arith)
      (either-le (joins_stand s) 16 _ 25 (omega arith)
      (either-le (not (on_board h s.stack v)) 10 0 25 (omega arith) (omega arith)))

  pub refusals-N : (space : Space) (h : Hypergraph) (ceiling : ℕ → ℕ) (s : State) (bales session : ℕ) (buyers : List ℕ) → refuses_n space h ceiling s bales session buyers ≤ 25
  unfolding refuses_n
  refusals-N space h ceiling s bales session buyers =
      either-le (not (leb 1 bales && leb bales 65535 && is_block h session && all buyers (is_net h))) 9 _ 25 (omega arith)
      (either-le (joins_stand s) 16 _ 25 (omega arith)
      (either-le (named_twice buyers) 22 _ 25 (omega arith)
      (either-le (leb space.lots (lots_in h) || ltb space.marks (marks_in h + length buyers)) 23 _ 25 (omega arith)
      (either-le (not (leb (block_weight h s.stack s.block session + bales) (ceiling session))) 14 0 25 (omega arith) (omega arith)))))

  pub bounded-turn : (a : Sale) → Valid limits a → (c : Request) → Bounded (turn limits a c).answer
  unfolding turn_under ran does_x does_n
  bounded-turn a k (runs c) = bounded-call limits small narrow a.graph k.ranges (capacities a.graph) a.state c k.held.legal k.listed
  bounded-turn a k (call_x v) = turned-bounded (refuses_x a.graph a.state v) a (does_x a v) (refusals-X a.graph a.state v)
      (λ q. metric-in limits small narrow _ (accepts-X limits a k v q).ranges _ _)
  bounded-turn a k (call_n bales session buyers) =
      turned-bounded (refuses_n (space_of limits) a.graph (capacities a.graph) a.state bales session buyers) a (does_n a bales session buyers)
      (refusals-N (space_of limits) a.graph (capacities a.graph) a.state bales session buyers)
      (λ q. let t = accepts-N limits a k bales session buyers q in (omega (arith, number-le limits a k bales session buyers q, t.ranges.vertices-high), metric-in limits small narrow _ t.ranges _ _))

  pub answers-le : (a : Sale) (calls : List Request) → Valid limits a → length (answers limits a calls) ≤ 41 * length calls
  unfolding answers
  answers-le a [] k = omega arith
  answers-le a (c ∷ cs) k = omega (
    arith,
    length-append (answer_row (turn limits a c).answer) (answers limits (turn limits a c).sale cs),
    answer_le (turn limits a c).answer (bounded-turn a k c),
    answers-le (turn limits a c).sale cs (valid-turn limits a k c),
  )

pub report-fits : (limits : Limits) → limits.vertex_limit ≤ 1024 → limits.block_limit ≤ 16 → Few limits → (h : Hypergraph) → Accepted limits h → (calls : List Request) → length calls ≤ 512 → length (run limits h calls) ≤ 60000
unfolding run after
report-fits limits small narrow few h a calls l =
    let t = reached limits few h a calls in
    omega (
      arith,
      length-append (answers limits (opened h) calls) (closing (draft_total h) (after limits (opened h) calls).graph (after limits (opened h) calls).state),
      answers-le limits small narrow (opened h) calls (reached limits few h a []),
      closing-le limits small narrow (after limits (opened h) calls).graph t.ranges (draft_total h) (metric-in limits small narrow h (accepted-ranges limits few h a) _ _) (after limits (opened h) calls).state t.held.legal,
    )
