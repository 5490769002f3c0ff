-- What every call line keeps of the sale that it is of holds of every desk after every list of call lines (each_after). So a kept lot stays in its session of
-- the draft, in a hall too (M-104, desks-kept). Rests on Limit and on guarantees' Stays. Assumes nothing.
use Rattle.std.specs.Prelude.{ℕ, zero, suc, ◌-◌, ◌≤◌, ◌<◌, ◌≡◌, refl, set}
use Rattle.std.proofs.Math.Decide.{ℕ_discrete}
use Rattle.std.proofs.Common.{arith, sym, ap, ◌∙◌, get_or-set_other}
use Rattle.std.proofs.Math.Path.{subst}
use mathlib.Core.List.{List, [], ◌∷◌}
use Rattle.std.proofs.Math.ListN.{length, get_or, length-set}
use Rattle.std.proofs.Math.Seq.{get_or-set_same}
use Rattle.model.specs.Catalogue.{main_limits, Hypergraph, capacities}
use Rattle.model.specs.Machine.{Call, call_j, call_s, call_m, call_b, call_w, call_p, call_a, State, does_m, does_b}
use Rattle.model.specs.Sale.{Request, runs, call_x, call_n, Sale, refuses_x, does_x, does_n, ran}
use Rattle.model.specs.Hall.{Beside, space_beside, ceiling_beside, first_of, refuses_beside_m, refuses_beside_b, refuses_beside_n, call_beside, turn_beside, Led, no_desk, desk_of, beside, led_turn, led_to, hall_after, fresh_desks}
use Rattle.model.specs.HallDemand.{AllLed}
use Rattle.guarantees.specs.Calls.{Legal}
use Rattle.guarantees.specs.Reached.{Valid, turned-keeps}
use Rattle.guarantees.specs.Stays.{Kept, kept-settled, kept-B, kept-M, kept-call, KeptIn, kept-X, kept-N, kept-opened}
use Rattle.hall_guarantees.specs.Limit.{HallFine, fine-led, led-length}

-- ---- each desk
abbrev pub EachDesk : (ℕ → Sale → Type 0) → List Sale → Type 0
EachDesk P ds = (d : ℕ) → d < length ds → P d (get_or ds d no_desk)

-- what every call line keeps of a valid sale
abbrev pub KeepsIn : (ℕ → Sale → Type 0) → Type 0
KeepsIn P = (o : Beside) (d : ℕ) (a : Sale) → Valid main_limits a → P d a → (c : Request) → P d (turn_beside o a c).sale

module _ (limit : ℕ) (P : ℕ → Sale → Type 0) (keeps : KeepsIn P) where
  each-led : (ds : List Sale) (l : Led) → 1 ≤ l.desk → l.desk ≤ length ds → HallFine limit ds → EachDesk P ds → EachDesk P (led_to limit ds l)
  unfolding led_to
  each-led ds l cl ch f s d u = go (simp length-set at u) (ℕ_discrete d (l.desk - 1))
    where
      go : d < length ds → Dec (d ≡ l.desk - 1) → P d (get_or (set ds (l.desk - 1) (led_turn limit ds l).sale) d no_desk)
      go h (yes e) =
          subst (P d) (sym (ap (λ (i : ℕ). get_or (set ds (l.desk - 1) (led_turn limit ds l).sale) i no_desk) e ∙ get_or-set_same ds (l.desk - 1) (led_turn limit ds l).sale no_desk (omega arith)))
          (keeps (beside limit ds l.desk) d (desk_of ds l.desk) (f.valid (l.desk - 1) (omega arith)) (subst (λ (i : ℕ). P d (get_or ds i no_desk)) e (s d h)) l.ask)
      go h (no n) = subst (P d) (sym (get_or-set_other ds (l.desk - 1) d (led_turn limit ds l).sale no_desk n)) (s d h)

  pub each_after : (ds : List Sale) (calls : List Led) → AllLed (length ds) calls → HallFine limit ds → EachDesk P ds → EachDesk P (hall_after limit ds calls)
  unfolding hall_after
  each_after ds [] ok f s = s
  each_after ds (l ∷ ls) ok f s =
      each_after (led_to limit ds l) ls (subst (λ (n : ℕ). AllLed n ls) (sym (led-length limit ds l)) ok.1) (fine-led limit ds f l ok.0.0 ok.0.1) (each-led ds l ok.0.0 ok.0.1 f s)

-- ---- kept lots
first-none : (p q : ℕ) → first_of p q ≡ 0 → p ≡ 0
first-none zero q e = refl
first-none (suc p) q e = absurd (omega (arith, e))

kept-beside : (o : Beside) (h : Hypergraph) (s : State) (c : Call) → Legal h s → Kept h s → Kept h (call_beside o h s c).state
unfolding call_beside refuses_beside_m
kept-beside o h s (call_j u v) ok k = kept-call h (ceiling_beside o h) s (call_j u v) ok k
kept-beside o h s call_s ok k = kept-call h (ceiling_beside o h) s call_s ok k
kept-beside o h s (call_m v t) ok k = kept-settled h (refuses_beside_m o h s v t) s (does_m h s v t) k (λ q. kept-M h (capacities h) s v t k (first-none _ _ q))
kept-beside o h s call_b ok k = kept-settled h (refuses_beside_b o h s s.journal) s (does_b h s s.journal) k (λ q. kept-B h s s.journal refl k)
kept-beside o h s (call_w u v) ok k = kept-call h (ceiling_beside o h) s (call_w u v) ok k
kept-beside o h s call_p ok k = kept-call h (ceiling_beside o h) s call_p ok k
kept-beside o h s call_a ok k = kept-call h (ceiling_beside o h) s call_a ok k

-- each kept lot of a desk stands in its session of the draft of the catalogue as loaded
abbrev KeptAt : (ℕ → Hypergraph) → ℕ → Sale → Type 0
KeptAt f d a = KeptIn main_limits (f d) a

kept-turn : (f : ℕ → Hypergraph) → KeepsIn (KeptAt f)
unfolding turn_beside ran refuses_beside_n
kept-turn f o d a valid k (runs c) = record { kept = kept-beside o a.graph a.state c valid.held.legal k.kept; drafts = k.drafts }
kept-turn f o d a valid k (call_x v) = turned-keeps main_limits (KeptAt f d) (refuses_x a.graph a.state v) a (does_x a v) k (kept-X main_limits (f d) a valid k v)
kept-turn f o d a valid k (call_n bales session buyers) = turned-keeps main_limits (KeptAt f d) (refuses_beside_n o a.graph a.state bales session buyers) a (does_n a bales session buyers) k
    (λ q. kept-N main_limits (f d) a valid k (space_beside o) bales session buyers (first-none _ _ q))

kept_fresh : (hs : List Hypergraph) → EachDesk (KeptAt (λ d. get_or hs d no_desk.graph)) (fresh_desks hs)
unfolding fresh_desks
kept_fresh [] d u = absurd (omega arith)
kept_fresh (h ∷ hs) zero u = kept-opened main_limits h
kept_fresh (h ∷ hs) (suc d) u = kept_fresh hs d (omega arith)

pub desks-kept : (limit : ℕ) (hs : List Hypergraph) (calls : List Led) → AllLed (length (fresh_desks hs)) calls → HallFine limit (fresh_desks hs)
    → EachDesk (KeptAt (λ d. get_or hs d no_desk.graph)) (hall_after limit (fresh_desks hs) calls)
desks-kept limit hs calls led fine = each_after limit (KeptAt (λ d. get_or hs d no_desk.graph)) (kept-turn (λ d. get_or hs d no_desk.graph)) (fresh_desks hs) calls led fine (kept_fresh hs)
