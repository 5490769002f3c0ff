-- An accepted file's calls and the closing report behind their answers, in the output and in the tables. Rests on Sale and on model's
-- Memory. Assumes nothing.
use Rattle.std.specs.Prelude.{ℕ, ◌≡◌, length, drop}
use Rattle.std.proofs.Common.{arith, sym, ap, ◌∙◌, subst}
use mathlib.Core.List.{List, ◌++◌}
use Rattle.model.specs.Catalogue.{Limits, Hypergraph, vertices}
use Rattle.model.specs.Sale.{Request, Sale, opened}
use Rattle.model.specs.Report.{closing}
use Rattle.model.specs.Engine.{after, run}
use Rattle.model.specs.Memory.{Tables as Lent, Holds, Written}
use Rattle.model.specs.Lent.{Two}
use Rattle.text.specs.Output.{written}
use Rattle.fields.specs.Wrote.{Wrote}
use Rattle.report.specs.Closing.{ClosingFits}
use Rattle.fields.proofs.Laws.{wrote-length, wrote-append}
use Rattle.memory.specs.Close.{closing_of}
use Rattle.sale.specs.Sale.{Sold}

-- ---- the output
pub written_all : {out out' text : List ℕ} {r : ℕ} → Wrote out out' 0 text r → Written text out out' r
unfolding written
written_all {out} {text = text} w = record { bytes = omega (arith, w.ends); output = w.is ∙ ap (λ (n : ℕ). text ++ drop n out) (sym w.ends) }

-- ---- an accepted file
-- the report and the tables; `n` lots are known at the end
pub record Reported (limits : Limits) (h : Hypergraph) (calls : List Request) (old new : Lent) (out out' : List ℕ) (bytes n : ℕ) : Type 0 where
  pub tables : Holds (after limits (opened h) calls) old new
  pub output : Written (run limits h calls) out out' bytes
  pub lots : n ≡ vertices (after limits (opened h) calls).graph

module _ {limits : Limits} {h : Hypergraph} {calls : List Request} {old new : Lent} {out out' : List ℕ} {S J : Two} {n m draft total at : ℕ} (s : Sold limits h calls old new out out' S J n m draft total at) where
  abbrev end : Sale
  end = after limits (opened h) calls

  -- the line of the draft's total is as long as it was reckoned with
  closing-is : closing draft end.graph end.state ≡ closing_of h end
  closing-is = ap (λ (d : ℕ). closing d end.graph end.state) s.draft-is

  pub closes : ClosingFits (length out') at new.blocks new.aboves new.visited S.ys n m S.len draft total
  closes = record { h = end.graph; s = end.state; ended = s.ended; fits = omega (arith, s.fits, ap length closing-is, wrote-length s.wrote (omega (arith, s.fits, s.wrote.ends))) }

  pub reported : {out'' : List ℕ} {r : ℕ} → Wrote out' out'' at (closing draft end.graph end.state) r → Reported limits h calls old new out out'' r n
  unfolding run
  reported {out''} {r} w = record {
    tables = s.demand.stands.tables;
    output = written_all (subst (λ (x : List ℕ). Wrote out out'' 0 (x ++ closing_of h end) r) s.demand.answered
        (wrote-append (omega (arith, s.fits, s.wrote.ends)) s.wrote (subst (λ (x : List ℕ). Wrote out' out'' at x r) closing-is w)));
    lots = s.ended.sound.follows.says.all-vertices;
  }
