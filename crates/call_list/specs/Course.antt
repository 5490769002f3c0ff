-- A list of call lines on tables as opening left them: what it needs and promises, and the loop over it. Rests on Point, Asked and memory's Prefix, Close and
-- Short. Assumes nothing.
use Rattle.std.specs.Prelude.{ℕ, ◌+◌, ◌*◌, ◌<◌, ◌≤◌, ◌≡◌, refl, true, List, [], ◌∷◌, ◌++◌, length, get_or}
use Rattle.std.proofs.Common.{arith, sym, ap, ap₂, ◌∙◌, subst, eq-eqb}
use Rattle.model.specs.Catalogue.{Limits, Hypergraph, capacity, capacities, average_weight}
use Rattle.model.specs.Measure.{Contraction}
use Rattle.model.specs.Machine.{Move}
use Rattle.model.specs.Sale.{Request, runs, call_x, call_n, Sale, opened, space_of, ran, turn_under, turn, does_x, does_n, withdrawn, added, changed_at, refuses_x, refuses_n}
use Rattle.model.specs.Grammar.{call_of, letter_n}
use Rattle.model.specs.Report.{answer_row}
use Rattle.model.specs.Engine.{after, answers}
use Rattle.model.specs.Memory.{Tables as MemoryTables}
use Rattle.model.specs.Lent.{calls_of}
use Rattle.model.specs.ListEntry.{entries_to}
use Rattle.model.specs.Demand.{Accepted}
use Rattle.guarantees.specs.Ranges.{Few}
use Rattle.guarantees.specs.Reached.{turned-keeps}
use Rattle.fields.specs.Wrote.{Wrote}
use Rattle.fields.proofs.Laws.{wrote_none, wrote-length, wrote-append}
use Rattle.operations.specs.Pairs.{pairs-length}
use Rattle.reader.proofs.CallTable.{entries_at, stretch-in}
use Rattle.change_rules.specs.Free.{free-length}
use Rattle.memory.specs.Prefix.{after_more, answers-more, NextCall, calls_of-more}
use Rattle.memory.specs.Close.{answer-fits}
use Rattle.memory.specs.Short.{Short, short-reached}
use Rattle.call_list.specs.Point.{Point, GoesOn, Under, CanStep, Went, Steps}
use Rattle.call_list.specs.Asked.{request_of, request-is}

-- ---- what the list needs
-- the table holds `count` calls, with their operands
pub record Listed (calls operands : List ℕ) (count : ℕ) : Type 0 where
  pub count-le : count ≤ 512
  pub known : length (calls_of operands count calls) ≡ count
  pub entries : entries_to (length operands) count calls ≡ true
  pub calls-fit : 3 * count ≤ length calls

-- the tables stand for the accepted catalogue h, opened, on lent memory that held `old` before loading
pub record Begins (limits : Limits) (h : Hypergraph) (old : MemoryTables) (average lots : ℕ) (ceilings calls operands : List ℕ) (count room : ℕ) (p : Point) : Type 0 where
  pub narrow : limits.block_limit ≤ 16
  pub short : limits.vertex_limit ≤ 1024
  pub few : Few limits
  pub accepted : Accepted limits h
  pub goes : GoesOn limits (opened h) old p
  pub under : Under limits h average lots ceilings
  pub ceilings-whole : length ceilings ≡ 16
  pub listed : Listed calls operands count
  pub spacious : 60000 ≤ room

-- of some catalogue
pub record CanRun (average lots : ℕ) (ceilings calls operands : List ℕ) (count room : ℕ) (p : Point) : Type 0 where
  pub limits : Limits
  pub h : Hypergraph
  pub old : MemoryTables
  pub begins : Begins limits h old average lots ceilings calls operands count room p

-- ---- what it does
-- i call lines are done: what stands, stands for the sale after them, and their answers are written
pub record Done (limits : Limits) (h : Hypergraph) (old : MemoryTables) (calls operands : List ℕ) (i : ℕ) (p : Point) (out₀ out : List ℕ) (at : ℕ) : Type 0 where
  pub goes : GoesOn limits (after limits (opened h) (calls_of operands i calls)) old p
  pub wrote : Wrote out₀ out 0 (answers limits (opened h) (calls_of operands i calls)) at

-- ---- the numbers that calls go by stay as at loading
abbrev Alike : Hypergraph → Hypergraph → Type 0
Alike h g = (g.blocks ≡ h.blocks) × (average_weight g ≡ average_weight h) × (capacities g ≡ capacities h)

alike-turn : (limits : Limits) (h : Hypergraph) (a : Sale) (c : Request) → Alike h a.graph → Alike h (turn limits a c).sale.graph
unfolding turn_under ran does_x does_n withdrawn added changed_at average_weight capacity
alike-turn limits h a (runs c) s = s
alike-turn limits h a (call_x v) s = turned-keeps limits (λ b. Alike h b.graph) (refuses_x a.graph a.state v) a (does_x a v) s (λ q. s)
alike-turn limits h a (call_n bales session buyers) s =
    turned-keeps limits (λ b. Alike h b.graph) (refuses_n (space_of limits) a.graph (capacities a.graph) a.state bales session buyers) a (does_n a bales session buyers) s (λ q. s)

alike-after : (limits : Limits) (h : Hypergraph) (a : Sale) (calls : List Request) → Alike h a.graph → Alike h (after limits a calls).graph
unfolding after
alike-after limits h a [] s = s
alike-after limits h a (c ∷ cs) s = alike-after limits h (turn limits a c).sale cs (alike-turn limits h a c s)

under-after : {limits : Limits} {h : Hypergraph} {average lots : ℕ} {ceilings : List ℕ} → Under limits h average lots ceilings → (calls : List Request) → Under limits (after limits (opened h) calls).graph average lots ceilings
under-after {limits} {h} {ceilings = ceilings} u calls =
    let s : Alike h (after limits (opened h) calls).graph = alike-after limits h (opened h) calls (refl, refl, refl) in
    record {
      average-is = u.average-is ∙ sym s.1;
      lots-are = u.lots-are;
      ceiling-is = λ t l m. u.ceiling-is t l (omega (arith, s.0)) ∙ sym (ap (λ (f : ℕ → ℕ). f t) s.2);
    }

-- ---- the loop
pub done_none : {limits : Limits} {h : Hypergraph} {old : MemoryTables} {average lots count room : ℕ} {ceilings calls operands : List ℕ} {p : Point} (out : List ℕ) → Begins limits h old average lots ceilings calls operands count room p
    → Done limits h old calls operands 0 p out out 0
unfolding calls_of after answers
done_none out b = record { goes = b.goes; wrote = wrote_none out 0 }

module _ {limits : Limits} {h : Hypergraph} {old : MemoryTables} {average lots count : ℕ} {ceilings calls operands out₀ : List ℕ} {p₀ : Point} (b : Begins limits h old average lots ceilings calls operands count (length out₀) p₀)
    (i : ℕ) (l : i < count) {p : Point} {out : List ℕ} {at : ℕ} (d : Done limits h old calls operands i p out₀ out at) (x y : ℕ) (qx : x ≡ get_or calls (3 * i + 1) 0) (qy : y ≡ get_or calls (3 * i + 2) 0) where
  abbrev before : List Request
  before = calls_of operands i calls

  abbrev here : Sale
  here = after limits (opened h) before

  more : (length before ≡ i) × NextCall operands calls i
  more = calls_of-more operands count calls b.listed.known i l

  abbrev letter : ℕ
  letter = get_or calls (3 * i) 0

  abbrev asked : Request
  asked = request_of operands letter x y

  pub stretch : letter ≡ letter_n → (2 ≤ y) × (x + y ≤ length operands)
  stretch q =
      let s = stretch-in (length operands) letter (get_or calls (3 * i + 1) 0) (get_or calls (3 * i + 2) 0) (entries_at (length operands) count calls b.listed.entries i l) (eq-eqb letter letter_n q) in
      omega (arith, s.0, s.1, qx, qy)

  asked_is : asked ≡ more.1.next
  asked_is = request-is operands letter x y more.1.next stretch (ap₂ (call_of operands letter) qx qy ∙ more.1.asked)

  line-fits : length (answers limits (opened h) before) + length (answer_row (turn limits here asked).answer) ≤ 60000
  line-fits = answer-fits b.narrow b.short b.few b.accepted before asked (omega (arith, more.0, b.listed.count-le))

  out-length : length out ≡ length out₀
  out-length = wrote-length d.wrote (omega (arith, line-fits, b.spacious))

  short : Short i here
  short = subst (λ (n : ℕ). Short n here) more.0 (short-reached limits h before)

  pub can-step : CanStep average lots ceilings (length out) at asked p
  can-step = let w = d.goes.stands in record {
    limits = limits;
    a = here;
    old = old;
    goes = d.goes;
    under = under-after b.under before;
    ceilings-whole = b.ceilings-whole;
    stack-room = omega (arith, pairs-length {A = Contraction} (λ u v. record { into = u; gone = v }) p.stack.xs p.stack.ys p.stack.len, ap length w.runs.stack_is, short.stack, b.listed.count-le);
    journal-room = omega (
      arith,
      pairs-length {A = Move} (λ v t. record { vertex = v; from = t }) p.stock.journal.xs p.stock.journal.ys p.stock.journal.len,
      ap length w.runs.journal-is,
      short.journal,
      b.listed.count-le,
    );
    free-room = omega (arith, free-length p.stock.numbers p.stock.len, ap length w.free-is, short.free, b.listed.count-le);
    fits = omega (arith, line-fits, b.spacious, d.wrote.ends, out-length);
  }

  pub done_more : {p' : Point} {out' : List ℕ} {at' : ℕ} → Steps average lots ceilings asked p p' out out' at at' → Done limits h old calls operands (i + 1) p' out₀ out' at'
  done_more {p'} {out'} {at'} s =
      let t : Went limits here old asked p' out out' at at' = s.went limits here old d.goes (under-after b.under before) in
      let q : calls_of operands (i + 1) calls ≡ before ++ (asked ∷ []) = more.1.more ∙ ap (λ (c : Request). before ++ (c ∷ [])) (sym asked_is) in
      record {
        goes = subst (λ (a : Sale). GoesOn limits a old p') (sym (after_more limits (opened h) before asked) ∙ ap (after limits (opened h)) (sym q)) t.goes;
        wrote = subst (λ (r : List ℕ). Wrote out₀ out' 0 r at') (sym (answers-more limits (opened h) before asked) ∙ ap (answers limits (opened h)) (sym q)) (wrote-append (omega (arith, line-fits, b.spacious)) d.wrote t.wrote);
      }

pub done_all : {limits : Limits} {h : Hypergraph} {old : MemoryTables} {calls operands : List ℕ} {i count : ℕ} {p : Point} {out₀ out : List ℕ} {at : ℕ} → i ≡ count → Done limits h old calls operands i p out₀ out at
    → Done limits h old calls operands count p out₀ out at
done_all {limits} {h} {old} {calls} {operands} {p = p} {out₀} {out} {at} e = subst (λ (j : ℕ). Done limits h old calls operands j p out₀ out at) e
