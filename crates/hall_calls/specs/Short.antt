-- The stack of joins, the record of moves and the free numbers of each desk are no longer than the list of led call lines. Rests on guarantees' StateBounds
-- and on memory's Short. Assumes nothing.
use Rattle.std.specs.Prelude.{ℕ, zero, suc, ◌+◌, ◌-◌, ◌<◌, ◌≤◌, ◌≡◌, length, get_or, set}
use Rattle.std.proofs.Math.Decide.{ℕ_discrete}
use Rattle.std.proofs.Common.{arith, sym, ap, ◌∙◌, subst, length-set, get_or-set_same, get_or-set_other}
use mathlib.Core.List.{List, [], ◌∷◌}
use Rattle.std.proofs.Math.ListN.{length-drop}
use Rattle.model.specs.Catalogue.{main_limits, Hypergraph}
use Rattle.model.specs.Machine.{Call, call_j, call_s, call_m, call_b, call_w, call_p, call_a, Move, State, Step, fresh, settle, does_m, does_b}
use Rattle.model.specs.Search.{call_under}
use Rattle.model.specs.Sale.{Request, runs, call_x, call_n, Sale, ran, does_x, does_n, refuses_x}
use Rattle.model.specs.Hall.{Beside, ceiling_beside, refuses_beside_m, refuses_beside_b, refuses_beside_n, call_beside, turn_beside, Led, no_desk, beside, desk_of, led_to}
use Rattle.guarantees.specs.StateBounds.{stack-call, journal-call}
use Rattle.guarantees.specs.Reached.{turned-keeps}
use Rattle.memory.specs.Short.{Short}

-- a state, by the lengths of its stack and its record
abbrev Within : ℕ → State → Type 0
Within n s = (length s.stack ≤ n) × (length s.journal ≤ n)

settled : (n q : ℕ) (s : State) (d : Step) → Within n s → Within n d.state → Within n (settle q s d).state
unfolding settle
settled n zero s d a b = b
settled n (suc q) s d a b = a

module _ (o : Beside) (h : Hypergraph) (n : ℕ) (s : State) (w : Within n s) where
  more : Within (suc n) s
  more = (omega (arith, w.0), omega (arith, w.1))

  under : (c : Call) (x : ℕ → ℕ) → Within (suc n) (call_under h x s c).state
  under c x = (omega (arith, w.0, stack-call h x s c), journal-call h n x s c w.1)

  back : (l : List Move) → length l ≤ n → Within (suc n) (does_b h s l).state
  unfolding does_b
  back [] u = more
  back (m ∷ ms) u = (omega (arith, w.0), omega (arith, u))

  call-short : (c : Call) → Within (suc n) (call_beside o h s c).state
  unfolding call_beside does_m
  call-short (call_j u v) = under (call_j u v) (ceiling_beside o h)
  call-short call_s = under call_s (ceiling_beside o h)
  call-short (call_m v t) = settled (suc n) (refuses_beside_m o h s v t) s (does_m h s v t) more (omega (arith, w.0), omega (arith, w.1))
  call-short call_b = settled (suc n) (refuses_beside_b o h s s.journal) s (does_b h s s.journal) more (back s.journal w.1)
  call-short (call_w u v) = under (call_w u v) (ceiling_beside o h)
  call-short call_p = under call_p (ceiling_beside o h)
  call-short call_a = under call_a (ceiling_beside o h)

module _ (o : Beside) (a : Sale) {n : ℕ} (s : Short n a) where
  longer : Short (suc n) a
  longer = record { stack = omega (arith, s.stack); journal = omega (arith, s.journal); free = omega (arith, s.free) }

  short-turn : (c : Request) → Short (suc n) (turn_beside o a c).sale
  unfolding turn_beside ran does_x does_n fresh
  short-turn (runs c) = let w = call-short o a.graph n a.state (s.stack, s.journal) c in record { stack = w.0; journal = w.1; free = omega (arith, s.free) }
  short-turn (call_x v) = turned-keeps main_limits (Short (suc n)) (refuses_x a.graph a.state v) a (does_x a v) longer (λ q. record { stack = omega arith; journal = omega arith; free = omega (arith, s.free) })
  short-turn (call_n bales session buyers) =
      turned-keeps main_limits (Short (suc n)) (refuses_beside_n o a.graph a.state bales session buyers) a (does_n a bales session buyers) longer
      (λ q. record { stack = omega arith; journal = omega arith; free = omega (arith, s.free, length-drop 1 a.free) })

-- each desk of a hall
abbrev pub AllShort : ℕ → List Sale → Type 0
AllShort n ds = (d : ℕ) → d < length ds → Short n (get_or ds d no_desk)

pub short-led : (limit n : ℕ) (ds : List Sale) (l : Led) → AllShort n ds → l.desk - 1 < length ds → AllShort (suc n) (led_to limit ds l)
unfolding led_to
short-led limit n ds l s inside d ld = go d (simp length-set at ld) (ℕ_discrete d (l.desk - 1))
  where
    next : Sale
    next = (turn_beside (beside limit ds l.desk) (desk_of ds l.desk) l.ask).sale

    go : (d : ℕ) → d < length ds → Dec (d ≡ l.desk - 1) → Short (suc n) (get_or (set ds (l.desk - 1) next) d no_desk)
    go d u (yes q) = subst (Short (suc n)) (sym (ap (λ (i : ℕ). get_or (set ds (l.desk - 1) next) i no_desk) q ∙ get_or-set_same ds (l.desk - 1) next no_desk inside)) (short-turn (beside limit ds l.desk) (desk_of ds l.desk) (s (l.desk - 1) inside) l.ask)
    go d u (no q) = subst (Short (suc n)) (sym (get_or-set_other ds (l.desk - 1) d next no_desk q)) (longer (beside limit ds l.desk) (get_or ds d no_desk) (s d u))
