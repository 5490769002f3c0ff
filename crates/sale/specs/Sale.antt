-- A list of call lines on tables as loading left them: what it needs, and that it leaves what demand 3 says. Rests on memory and call_list.
-- Assumes nothing.
use Rattle.std.specs.Prelude.{ℕ, ◌+◌, ◌-◌, ◌≤◌, ◌≡◌, refl, List, [], length, replicate, ℤ}
use Rattle.std.proofs.Common.{arith, sym, ◌∙◌, subst}
use Rattle.std.proofs.lemmas.List.{length-replicate, get_or-replicate}
use Rattle.model.specs.Catalogue.{Limits, Hypergraph}
use Rattle.model.specs.Measure.{Contraction}
use Rattle.model.specs.Sale.{Request, Sale, opened}
use Rattle.model.specs.Engine.{answers, draft_total}
use Rattle.model.specs.Memory.{Tables as Lent}
use Rattle.model.specs.Lent.{Lists, lent, calls_of, Two, stack_of, journal_of}
use Rattle.model.specs.Demand.{Accepted, standing, Stands, reached_by}
use Rattle.model.specs.Promises.{Demand3}
use Rattle.guarantees.specs.Promises.{promised}
use Rattle.index.specs.Indexed.{Indexed}
use Rattle.fields.specs.Wrote.{Wrote}
use Rattle.operations.specs.Tables.{Sound}
use Rattle.edit_calls.specs.Steps.{Whole}
use Rattle.opening.specs.Opening.{Opened}
use Rattle.loader.specs.Tables.{graph}
use Rattle.loader.specs.declared.Sizes.{Sizes}
use Rattle.report.specs.Closing.{Ended}
use Rattle.memory.specs.Close.{closing_of, draft-is, ended, report-length}
use Rattle.memory.specs.Unused.{Unused}
use Rattle.memory.specs.Held.{held}
use Rattle.memory.specs.Unjoined.{loaded-sets}
use Rattle.call_list.specs.Start.{Starts}
use Rattle.call_list.specs.Point.{Point, lent_at}
use Rattle.call_list.specs.Opened.{Prepared, Blank, p₀, sound, goes}
use Rattle.call_list.specs.Course.{Listed, Begins, CanRun, Done}
use Rattle.call_list.specs.declared.course.Course.{Course}

-- ---- what a list of call lines needs
-- an accepted catalogue was loaded at an entry that takes so many lots: `old` held what it held before, `new` is what loading left
pub record Catalogued (limits : Limits) (lots : ℕ) (z : Sizes) (old new : Lists) (nw lo counts : List ℕ) (gains : List ℤ) (index visited : List ℕ) : Type 0 where
  pub prepared : Prepared limits z old new nw lo counts gains index visited
  pub lots-are : lots ≡ limits.vertex_limit
  pub accepted : Accepted limits (graph z new nw lo)

-- the tables are those of some loaded catalogue; the lows are not lent
pub record CanSell (lots : ℕ) (z : Sizes) (new : Lists) (nw counts : List ℕ) (gains : List ℤ) (index visited calls operands : List ℕ) (count : ℕ) (out : List ℕ) : Type 0 where
  pub limits : Limits
  pub old : Lists
  pub lows : List ℕ
  pub catalogued : Catalogued limits lots z old new nw lows counts gains index visited
  pub listed : Listed calls operands count
  pub spacious : 60000 ≤ length out

-- ---- what it does
-- demand 3 with the promises; the lines of the answers stand in the output and end at `at`; the closing report can follow. `n` lots are known
pub record Sold (limits : Limits) (h : Hypergraph) (calls : List Request) (old new : Lent) (out out' : List ℕ) (S J : Two) (n m draft total at : ℕ) : Type 0 where
  pub lines : List ℕ
  pub demand : Demand3 limits h calls old (standing new (stack_of S.xs S.ys S.len) (journal_of J.xs J.ys J.len)) lines total
  pub wrote : Wrote out out' 0 lines at
  pub stack-whole : Whole S
  pub journal-whole : Whole J
  pub draft-is : draft ≡ draft_total h
  pub ended : Ended (reached_by limits h calls).graph (reached_by limits h calls).state new.blocks new.aboves new.visited S.ys n m S.len draft total
  pub fits : at + length (closing_of h (reached_by limits h calls)) ≤ length out

module _ {limits : Limits} {lots : ℕ} {z : Sizes} {old new : Lists} {nw lo counts : List ℕ} {gains : List ℤ} {index visited : List ℕ} (g : Catalogued limits lots z old new nw lo counts gains index visited) where
  abbrev h : Hypergraph
  h = graph z new nw lo

  module _ {bits : List ℕ} (b : Blank bits) {bits' counts' visited' loads' : List ℕ} {gains' : List ℤ} {draft : ℕ}
      (o : Opened new.present_pins new.blocks new.firsts new.present_sizes new.weights nw z.vertices z.nets z.blocks bits bits' counts counts' visited visited' gains gains' loads' draft)
      {index' : List ℕ} (x : Indexed gains' new.blocks z.vertices z.blocks index index') {c : Course} (f : Starts new.fixed z.vertices z.pins draft c) where
    abbrev start : Point
    start = p₀ g.prepared b o x f

    module _ {calls operands : List ℕ} {count : ℕ} (l : Listed calls operands count) (out : List ℕ) (spacious : 60000 ≤ length out) where
      pub begins : Begins limits h (lent old counts gains index visited) z.average lots (replicate 16 z.capacity) calls operands count (length out) start
      begins = let a = g.prepared.accepts in record {
        narrow = g.prepared.narrow;
        short = g.prepared.short;
        few = g.prepared.few;
        accepted = g.accepted;
        goes = goes g.prepared b o x f;
        under = record {
          average-is = a.average;
          lots-are = g.lots-are;
          ceiling-is = λ t from to. get_or-replicate 16 (t - 1) z.capacity 0 (omega (arith, a.range.k-high, g.prepared.narrow)) ∙ a.capacity;
        };
        ceilings-whole = length-replicate {A = ℕ} 16 z.capacity;
        listed = l;
        spacious = spacious;
      }

      pub can-run : CanRun z.average lots (replicate 16 z.capacity) calls operands count (length out) start
      can-run = record { limits = limits; h = h; old = lent old counts gains index visited; begins = begins }

      pub sold : {p : Point} {out' : List ℕ} {at : ℕ} → Done limits h (lent old counts gains index visited) calls operands count p out out' at
          → Sold limits h (calls_of operands count calls) (lent old counts gains index visited) (lent_at p) out out' p.stack p.stock.journal p.stock.tables.n p.stock.tables.m draft p.stock.tables.total at
      sold {p} d =
          let asked : List Request = calls_of operands count calls in
          let a : Sale = reached_by limits h asked in
          let few : length asked ≤ 512 = omega (arith, l.known, l.count-le) in
          let w = d.goes.stands in
          let q = draft-is (sound g.prepared b o) in
          let end : Stands (lent old counts gains index visited) a (standing (lent_at p) (stack_of p.stack.xs p.stack.ys p.stack.len) (journal_of p.stock.journal.xs p.stock.journal.ys p.stock.journal.len)) = record {
            tables = held w.runs.sound w.stored w.fixed-is d.goes.right (subst (λ (n : ℕ). Unused a.changed p.stock.tables.n p.stock.tables.m p.stock.tables.k n (lent old counts gains index visited) (lent_at p)) w.marks-are d.goes.unused);
            joins = w.runs.stack_is;
            moves = w.runs.journal-is;
          } in
          record {
            lines = answers limits (opened h) asked;
            demand = record {
              accepted = begins.accepted;
              few = few;
              stands = end;
              unjoined = λ none. loaded-sets (subst (λ (cs : List Contraction). Sound a.graph cs a.state.block p.stock.tables) (sym end.joins ∙ none) w.runs.sound) w.stored p.stock.fixed p.stock.index;
              answered = refl;
              total-is = w.runs.sound.total-is;
              promises = promised limits g.prepared.few g.prepared.narrow h begins.accepted asked _ _ g.prepared.gains-long g.prepared.index-long end.tables;
            };
            wrote = d.wrote;
            stack-whole = w.runs.stack-whole;
            journal-whole = w.runs.journal-whole;
            draft-is = q;
            ended = ended w.runs;
            fits = omega (arith, d.wrote.ends, spacious, report-length g.prepared.narrow g.prepared.short g.prepared.few begins.accepted asked few);
          }
