-- The bytes that the list entry writes lie in the output. Rests on model's ListEntry. Assumes nothing.
use Rattle.std.specs.Prelude.{ℕ, zero, suc, ◌≤◌, Bool, true, false, List, length, drop}
use Rattle.std.proofs.Common.{arith, ap, length-append}
use Rattle.model.specs.Catalogue.{Limits}
use Rattle.model.specs.Grammar.{Reading, unread, reading, stopped, parse}
use Rattle.model.specs.Memory.{Memory, long_memory, Written}
use Rattle.model.specs.ListEntry.{list_refusal, list_calls, Returned, ListServed, ListServes}

written_in : (text old new : List ℕ) (bytes : ℕ) → Written text old new bytes → bytes ≤ length new
written_in text old new bytes w = omega (arith, w.bytes, ap length w.output, length-append text (drop bytes old))

pub lines-in : (limits : Limits) (file list operands : List ℕ) (m m' : Memory) (x : Returned) → ListServes limits file list operands m m' x → x.bytes ≤ length m'.output
lines-in limits file list operands m m' x = go (long_memory limits m) (list_refusal list operands) (parse limits file)
  where
    go : (b : Bool) (q : ℕ) (r : Reading) → ListServed b q limits r (list_calls list operands) m m' x → x.bytes ≤ length m'.output
    go false q r u = omega (arith, u.0.nothing)
    go true (suc q) r u = omega (arith, u.1)
    go true zero (reading k) u = written_in _ m.output m'.output x.bytes u.output
    go true zero (stopped q n) u = written_in _ m.output m'.output x.bytes u.0.output
    go true zero unread u = written_in _ m.output m'.output x.bytes u.0.output
