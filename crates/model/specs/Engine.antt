-- A list of call lines on a sale, and the engine: a sale file's bytes to a code and the report's bytes. Rests on Grammar, Sale and Report. Assumes nothing.
use Rattle.std.specs.Prelude.{ℕ, List, [], ◌∷◌, ◌++◌}
use Rattle.model.specs.Catalogue.{Limits, Hypergraph}
use Rattle.model.specs.Measure.{metric}
use Rattle.model.specs.Machine.{fresh}
use Rattle.model.specs.Sale.{Request, Sale, Turn, opened, turn}
use Rattle.model.specs.Grammar.{Reading, unread, reading, stopped, parse}
use Rattle.model.specs.Report.{digits, row, answer_row, closing}

-- the sale after a list of call lines, each on the sale that the one before it left
unfoldable pub after : Limits → Sale → List Request → Sale
after limits a [] = a
after limits a (c ∷ cs) = after limits (turn limits a c).sale cs

-- the lines of their answers
unfoldable pub answers : Limits → Sale → List Request → List ℕ
answers limits a [] = []
answers limits a (c ∷ cs) =
    let r : Turn = turn limits a c in
    answer_row r.answer ++ answers limits r.sale cs

-- the draft's total, at loading
abbrev pub draft_total : Hypergraph → ℕ
draft_total h = metric h [] (fresh h).block

-- an accepted file's report: the answers from loading on, then the closing report
unfoldable pub run : Limits → Hypergraph → List Request → List ℕ
run limits h calls =
    let a : Sale = after limits (opened h) calls in
    answers limits (opened h) calls ++ closing (draft_total h) a.graph a.state

-- what the engine returns, and the bytes that it writes
pub record Outcome : Type 0 where
  pub code : ℕ
  pub report : List ℕ

-- 1 to 7 and 21 write NO,number,line alone; `unread` does not come: a file without a first line is 2 on line 1
unfoldable pub outcome : Limits → Reading → Outcome
outcome limits unread = record { code = 2; report = row "NO" (digits 2 ∷ digits 1 ∷ []) }
outcome limits (stopped q n) = record { code = q; report = row "NO" (digits q ∷ digits n ∷ []) }
outcome limits (reading k) = record { code = 0; report = run limits k.graph k.calls }

-- the engine on a file, where no lent table is short
unfoldable pub engine : Limits → List ℕ → Outcome
engine limits file = outcome limits (parse limits file)
