-- A call line alters its own desk alone (own_alone), and depends on the others only through their bales in each session and, where it is N, through
-- their lots and marks (only_through). Rests on model's Hall. Assumes nothing.
use Rattle.std.specs.Prelude.{ℕ, ◌-◌, ◌≤◌, ◌≡◌, refl, List, [], ◌∷◌, get_or}
use Rattle.std.proofs.Common.{arith, ap, ◌∙◌, get_or-set_other}
use Rattle.model.specs.Catalogue.{Hypergraph}
use Rattle.model.specs.Machine.{Call, call_j, call_s, call_m, call_b, call_w, call_p, call_a, Move, State, Step, settle, does_b}
use Rattle.model.specs.Sale.{Request, runs, call_x, call_n, Sale, Turn, ran}
use Rattle.model.specs.Hall.{Beside, ceiling_beside, over_limit, refuses_beside_m, refuses_beside_b, call_beside, turn_beside, Led, no_desk, desk_of, bales, lots, marks, others, beside, led_turn, led_to}
use Rattle.model.specs.HallDemand.{OwnAlone, SameCount, OnlyThrough}

pub own_alone : (limit : ℕ) → OwnAlone limit
unfolding led_to
own_alone limit ds l d cl dl n = get_or-set_other ds (l.desk - 1) (d - 1) (led_turn limit ds l).sale no_desk (λ e. n (omega arith))

abbrev knows : ℕ → (ℕ → ℕ) → ℕ → ℕ → Beside
knows limit b n m = record { limit = limit; bales = b; lots = n; marks = m }

-- the machine's calls do not count lots and marks
back-only : (limit : ℕ) (b : ℕ → ℕ) (n m n' m' : ℕ) (h : Hypergraph) (s : State) (l : List Move) → refuses_beside_b (knows limit b n m) h s l ≡ refuses_beside_b (knows limit b n' m') h s l
unfolding refuses_beside_b over_limit
back-only limit b n m n' m' h s [] = refl
back-only limit b n m n' m' h s (x ∷ l) = refl

call-only : (limit : ℕ) (b : ℕ → ℕ) (n m n' m' : ℕ) (h : Hypergraph) (s : State) (c : Call) → call_beside (knows limit b n m) h s c ≡ call_beside (knows limit b n' m') h s c
unfolding call_beside ceiling_beside refuses_beside_m over_limit
call-only limit b n m n' m' h s (call_j u v) = refl
call-only limit b n m n' m' h s call_s = refl
call-only limit b n m n' m' h s (call_m v t) = refl
call-only limit b n m n' m' h s call_b = ap (λ (q : ℕ). settle q s (does_b h s s.journal)) (back-only limit b n m n' m' h s s.journal)
call-only limit b n m n' m' h s (call_w u v) = refl
call-only limit b n m n' m' h s call_p = refl
call-only limit b n m n' m' h s call_a = refl

machine_only : (limit : ℕ) (b : ℕ → ℕ) (n m n' m' : ℕ) (a : Sale) (c : Call) → turn_beside (knows limit b n m) a (runs c) ≡ turn_beside (knows limit b n' m') a (runs c)
unfolding turn_beside
machine_only limit b n m n' m' a c = ap (ran a) (call-only limit b n m n' m' a.graph a.state c)

X-only : (limit : ℕ) (b : ℕ → ℕ) (n m n' m' : ℕ) (a : Sale) (v : ℕ) → turn_beside (knows limit b n m) a (call_x v) ≡ turn_beside (knows limit b n' m') a (call_x v)
unfolding turn_beside
X-only limit b n m n' m' a v = refl

pub only_through : (limit : ℕ) → OnlyThrough limit
only_through limit ds es l own same count = go l.ask count
  where
    each : bales (others es l.desk) ≡ bales (others ds l.desk)
    each = λ i t. same t i

    first : (k : Request) → turn_beside (beside limit es l.desk) (desk_of es l.desk) k ≡ turn_beside (knows limit (bales (others ds l.desk)) (lots (others es l.desk)) (marks (others es l.desk))) (desk_of ds l.desk) k
    first k =
        ap (λ (a : Sale). turn_beside (beside limit es l.desk) a k) own
        ∙ ap (λ (b : ℕ → ℕ). turn_beside (knows limit b (lots (others es l.desk)) (marks (others es l.desk))) (desk_of ds l.desk) k) each

    go : (k : Request) → SameCount k (others ds l.desk) (others es l.desk) → turn_beside (beside limit es l.desk) (desk_of es l.desk) k ≡ turn_beside (beside limit ds l.desk) (desk_of ds l.desk) k
    go (runs k) w = first (runs k) ∙ machine_only limit (bales (others ds l.desk)) (lots (others es l.desk)) (marks (others es l.desk)) (lots (others ds l.desk)) (marks (others ds l.desk)) (desk_of ds l.desk) k
    go (call_x v) w = first (call_x v) ∙ X-only limit (bales (others ds l.desk)) (lots (others es l.desk)) (marks (others es l.desk)) (lots (others ds l.desk)) (marks (others ds l.desk)) (desk_of ds l.desk) v
    go (call_n w t buyers) q =
        first (call_n w t buyers)
        ∙ ap (λ (n : ℕ). turn_beside (knows limit (bales (others ds l.desk)) n (marks (others es l.desk))) (desk_of ds l.desk) (call_n w t buyers)) q.0
        ∙ ap (λ (m : ℕ). turn_beside (knows limit (bales (others ds l.desk)) (lots (others ds l.desk)) m) (desk_of ds l.desk) (call_n w t buyers)) q.1
