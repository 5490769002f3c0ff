-- A file in memory that is long enough, in model's terms: the report after an accepted file's calls, or the line of a refused file. Rests on
-- Sale, Reported and model's Memory. Assumes nothing.
use Rattle.std.specs.Prelude.{ℕ, ◌*◌, ◌≤◌, ◌≡◌, refl, List, [], ◌∷◌, ℤ}
use Rattle.std.proofs.Common.{arith, sym, ◌∙◌}
use Rattle.std.proofs.Math.Path.{ap, subst}
use Rattle.std.proofs.Math.ListN.{length}
use Rattle.model.specs.Catalogue.{Limits, vertices}
use Rattle.model.specs.Grammar.{Reading, unread, reading, stopped, parse}
use Rattle.model.specs.Report.{digits, row}
use Rattle.model.specs.Sale.{opened}
use Rattle.model.specs.Engine.{after, outcome, engine}
use Rattle.model.specs.Memory.{Tables as Lent, Worked}
use Rattle.model.specs.Lent.{calls_of, Lists, lent, memory}
use Rattle.model.specs.Demand.{Accepted as ModelAccepted}
use Rattle.guarantees.specs.Reached.{reached}
use Rattle.guarantees.specs.Refusals.{refused-in, engine-fits}
use Rattle.lines.specs.Line.{Within}
use Rattle.loader.specs.declared.Sizes.{Sizes}
use Rattle.loader.specs.declared.Loaded.{Loaded}
use Rattle.std.specs.Prelude.{Result, Ok, Err}
use Rattle.refusal.specs.declared.Refused.{Refused}
use Rattle.refusal.specs.Number.{number_of}
use Rattle.loader.specs.Tables.{LongLists, graph, seen, Loads}
use Rattle.fields.specs.Wrote.{Wrote}
use Rattle.call_list.specs.Course.{Listed}
use Rattle.sale.specs.Sale.{Catalogued}
use Rattle.sale.specs.Reported.{written_all, Reported}

-- ---- the lots of a file
-- how many lots are known after an accepted file's calls; none where it is turned down
abbrev pub lots_known : Limits → Reading → ℕ
lots_known limits (reading k) = vertices (after limits (opened k.graph) k.calls).graph
lots_known limits (stopped q n) = 0
lots_known limits unread = 0

-- ---- lengths
pub record Long (limits : Limits) (out : List ℕ) (t : Lists) (counts : List ℕ) (gains : List ℤ) (index visited : List ℕ) : Type 0 where
  pub within : Within limits
  pub spacious : 60000 ≤ length out
  pub lists-long : LongLists limits.vertex_limit t
  pub counts-long : 16384 ≤ length counts
  pub gains-long : 16 * limits.vertex_limit ≤ length gains
  pub index-long : 16 * limits.vertex_limit ≤ length index
  pub visited-long : 1024 ≤ length visited

module _ {limits : Limits} {file out : List ℕ} {old new : Lists} {nw lo calls ops counts : List ℕ} {gains : List ℤ} {index visited : List ℕ} (g : Long limits out old counts gains index visited) where
  -- ---- the two answers of the loader
  module _ {r : Result Loaded Refused} (l : Loads limits file r old new nw lo calls ops) where
    module _ {a : Loaded} (e : r ≡ Ok a) where
      abbrev z : Sizes
      z = a.sizes

      abbrev count : ℕ
      count = a.calls

      here : Loads limits file (Ok a) old new nw lo calls ops
      here = subst (λ (x : Result Loaded Refused). Loads limits file x old new nw lo calls ops) e l

      accepted : ModelAccepted limits (graph z new nw lo)
      accepted = record { file = file; book = _; loads = sym here.says; graph_is = refl }

      pub catalogued : Catalogued limits limits.vertex_limit z old new nw lo counts gains index visited
      unfolding after
      catalogued = record {
        prepared = record {
          narrow = g.within.sessions-few;
          short = g.within.lots-few;
          few = g.within.few;
          long = g.lists-long;
          counts-long = g.counts-long;
          gains-long = g.gains-long;
          index-long = g.index-long;
          visited-long = g.visited-long;
          accepts = here.accepts a refl;
          valid = reached limits g.within.few _ accepted [];
        };
        lots-are = refl;
        accepted = accepted;
      }

      pub listed : 1536 ≤ length calls → Listed calls ops count
      listed q = let k = here.calls-known a refl in record { count-le = k.calls-le; known = k.known; entries = k.entries; calls-fit = omega (arith, k.calls-le) }

      module _ {new' : Lent} {out' : List ℕ} {bytes n : ℕ} (p : Reported limits (graph z new nw lo) (calls_of ops count calls) (lent old counts gains index visited) new' out out' bytes n) where
        pub worked : Worked limits (parse limits file) (memory out (lent old counts gains index visited)) (memory out' new') 0 bytes
        unfolding outcome
        worked = subst (λ (x : Reading). Worked limits x (memory out (lent old counts gains index visited)) (memory out' new') 0 bytes) here.says (record { code_is = refl; output = p.output; tables = p.tables })

        pub lots-known : n ≡ lots_known limits (parse limits file)
        lots-known = p.lots ∙ ap (lots_known limits) here.says

    module _ {x : Refused} (e : r ≡ Err x) where
      abbrev q : ℕ
      q = number_of x.refusal

      abbrev n : ℕ
      n = x.line

      stops : stopped q n ≡ parse limits file
      stops = ap (λ (x : Result Loaded Refused). seen l.estimated x new nw lo calls ops) (sym e) ∙ l.says

      pub small : (q ≤ 21) × (n ≤ 60001)
      small = let b = refused-in limits file q n (sym stops) in (b.1, b.2)

      pub no-lots : 0 ≡ lots_known limits (parse limits file)
      no-lots = ap (lots_known limits) stops

      pub line-fits : length (row "NO" (digits q ∷ digits n ∷ [])) ≤ 60000
      unfolding engine outcome
      line-fits = omega (arith, engine-fits limits g.within.lots-few g.within.sessions-few g.within.few file, ap (λ (x : Reading). length (outcome limits x).report) stops)

      pub turned_down : {new' : Lent} {out' : List ℕ} {code bytes : ℕ} → code ≡ q → Wrote out out' 0 (row "NO" (digits q ∷ digits n ∷ [])) bytes
          → Worked limits (parse limits file) (memory out (lent old counts gains index visited)) (memory out' new') code bytes
      unfolding outcome
      turned_down {new'} {out'} {code} {bytes} d w = subst (λ (x : Reading). Worked limits x (memory out (lent old counts gains index visited)) (memory out' new') code bytes) stops (record { code_is = d; output = written_all w; tables = tt })
