-- The end of a list of calls: the tables that stand for the sale are what the closing report is read from, and each answer and the
-- closing report fit into the 60,000 bytes lent. Rests on edit_calls's Steps, on report's Closing and on guarantees' ReportFits. Assumes nothing.
use Rattle.std.specs.Prelude.{ℕ, ◌+◌, ◌<◌, ◌≤◌, ◌≡◌, List, [], ◌∷◌, ◌++◌, ℤ, length}
use Rattle.std.proofs.Common.{arith, sym, ap, length-append}
use Rattle.model.specs.Catalogue.{Limits, Hypergraph, drafted}
use Rattle.model.specs.Machine.{State, fresh}
use Rattle.model.specs.Sale.{Request, Sale, opened, turn}
use Rattle.model.specs.Report.{answer_row, closing}
use Rattle.model.specs.Engine.{after, answers, draft_total, run}
use Rattle.model.specs.Lent.{Two}
use Rattle.model.specs.Demand.{Accepted}
use Rattle.guarantees.specs.Ranges.{Few}
use Rattle.guarantees.specs.ReportFits.{report-fits}
use Rattle.operations.specs.Tables.{Tables, tables, Sound}
use Rattle.edit_calls.specs.Steps.{Runs}
use Rattle.report.specs.Closing.{Ended}
use Rattle.memory.specs.Prefix.{answers-more}

-- the total of the tables before any call is the draft's metric
pub draft-is : {h : Hypergraph} {T : Tables} → Sound h [] (drafted h) T → T.total ≡ draft_total h
unfolding fresh
draft-is s = s.total-is

-- the closing report of a sale that was opened with the catalogue h
abbrev pub closing_of : Hypergraph → Sale → List ℕ
closing_of h a = closing (draft_total h) a.graph a.state

run_length : (limits : Limits) (h : Hypergraph) (calls : List Request) → length (run limits h calls) ≡ length (answers limits (opened h) calls) + length (closing_of h (after limits (opened h) calls))
unfolding run
run_length limits h calls = length-append (answers limits (opened h) calls) (closing_of h (after limits (opened h) calls))

module _ {counts visited pins sizes bits blocks weights aboves loads net_weights firsts loaded : List ℕ} {gains : List ℤ} {n m k draft total : ℕ} {S J : Two} where
  -- the tables, the stack's joins and the metric show the state
  pub ended : {h : Hypergraph} {s : State} → Runs h s (tables counts visited gains pins sizes bits blocks weights aboves loads net_weights firsts loaded n m k total) S J
      → Ended h s blocks aboves visited S.ys n m S.len draft total
  ended r = record {
    counts = counts;
    gains = gains;
    pins = pins;
    sizes = sizes;
    bits = bits;
    weights = weights;
    loads = loads;
    net_weights = net_weights;
    firsts = firsts;
    loaded = loaded;
    k = k;
    sound = r.sound;
    into = S.xs;
    stack_is = sym r.stack_is;
    stack-fits = r.stack-whole.short;
  }

-- the answers to at most 512 calls and the closing report fit
pub report-length : {limits : Limits} {h : Hypergraph} → limits.block_limit ≤ 16 → limits.vertex_limit ≤ 1024 → Few limits → Accepted limits h → (calls : List Request) → length calls ≤ 512
    → length (answers limits (opened h) calls) + length (closing_of h (after limits (opened h) calls)) ≤ 60000
report-length {limits} {h} narrow short few accepted calls le = omega (arith, run_length limits h calls, report-fits limits short narrow few h accepted calls le)

-- after the answers to fewer than 512 calls one answer more fits
pub answer-fits : {limits : Limits} {h : Hypergraph} → limits.block_limit ≤ 16 → limits.vertex_limit ≤ 1024 → Few limits → Accepted limits h → (before : List Request) (c : Request) → length before < 512
    → length (answers limits (opened h) before) + length (answer_row (turn limits (after limits (opened h) before) c).answer) ≤ 60000
answer-fits {limits} {h} narrow short few accepted before c le = omega (
  arith,
  report-fits limits short narrow few h accepted (before ++ (c ∷ [])) (omega (arith, length-append before (c ∷ []))),
  run_length limits h (before ++ (c ∷ [])),
  ap length (answers-more limits (opened h) before c),
  length-append (answers limits (opened h) before) (answer_row (turn limits (after limits (opened h) before) c).answer),
)
