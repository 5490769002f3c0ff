-- What `core` and the records' entry promise. Rests on Lent, and on guarantees for how many lots there can be after the calls of a file. Assumes nothing.
use Rattle.std.specs.Prelude.{ℕ, ◌≤◌, ◌≡◌, refl, Bool, true, false, List, length}
use Rattle.std.proofs.Common.{arith, sym, subst}
use Rattle.model.specs.Catalogue.{Limits}
use Rattle.model.specs.Grammar.{Reading, unread, reading, stopped, parse}
use Rattle.model.specs.Memory.{Tables}
use Rattle.model.specs.Promises.{FileServes}
use Rattle.guarantees.specs.Ranges.{Few}
use Rattle.guarantees.specs.Reached.{reached}
use Rattle.columns.specs.Entry.{lots_written}
use Rattle.records.specs.declared.Lot.{Lot}
use Rattle.records.specs.declared.answering.Answer.{Answer}
use Rattle.records.specs.Over.{over}
use Rattle.records.specs.Lent.{lent_records}

-- no more lots than the limit
pub lots-few : (limits : Limits) → Few limits → (file : List ℕ) (long : Bool) → lots_written limits long (parse limits file) ≤ limits.vertex_limit
lots-few limits few file false = omega arith
lots-few limits few file true = go (parse limits file) refl
  where
    go : (r : Reading) → parse limits file ≡ r → lots_written limits true r ≤ limits.vertex_limit
    go (reading k) q = (reached limits few k.graph (record { file = file; book = k; loads = q; graph_is = refl }) k.calls).ranges.vertices-high
    go (stopped c n) q = omega arith
    go unread q = omega arith

-- `core`, which is told how many records there is space for: whatever records these are, once the first n are written the engine's promise holds of them
pub record Answers (limits : Limits) (file : List ℕ) (room : ℕ) (output : List ℕ) (t : Tables) (output' : List ℕ) (t' : Tables) (r : Answer) : Type 0 where
  pub fits : r.n ≤ room
  pub small : r.n ≤ 1024
  pub serves : (lots : List Lot) → length lots ≡ room → FileServes limits file (lent_records output lots t) (lent_records output' (over r.n r.lots lots) t') r.code r.written

pub served : (limits : Limits) (file output : List ℕ) (t : Tables) (output' : List ℕ) (t' : Tables) (r : Answer) (lots lots' : List Lot) → Answers limits file (length lots) output t output' t' r → lots' ≡ over r.n r.lots lots
    → FileServes limits file (lent_records output lots t) (lent_records output' lots' t') r.code r.written
served limits file output t output' t' r lots lots' c e = subst (λ (l : List Lot). FileServes limits file (lent_records output lots t) (lent_records output' l t') r.code r.written) (sym e) (c.serves lots refl)
