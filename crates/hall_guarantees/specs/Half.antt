-- Demand 3's machine half for a hall, one theorem about the whole list (hall-half): no session is over its cap or the hall's limit, no accepted W, P or A
-- ends on a higher total, after each accepted A no single move under both limits as they stood then lowers it, an accepted W keeps the prefix that M-105
-- asks for, and a call line alters its own desk alone and depends on the others only as the request says. Rests on Limit, Loading and Apart. Assumes nothing.
use Rattle.std.specs.Prelude.{ℕ, suc, ◌-◌, ◌≤◌, ◌<◌, ◌≡◌, refl, true, false, List, [], ◌∷◌, ◌++◌, length}
use Rattle.std.proofs.Common.{arith, sym, ap, ◌∙◌, true≢false}
use Rattle.std.proofs.Math.Path.{subst}
use Rattle.laws.specs.Fold.{All}
use Rattle.model.specs.Catalogue.{main_limits, Hypergraph}
use Rattle.model.specs.Machine.{Call, call_j, call_s, call_m, call_b, call_w, call_p, call_a, State, Step}
use Rattle.model.specs.Search.{call_under, LocallyBest}
use Rattle.model.specs.Report.{refusal}
use Rattle.model.specs.Sale.{runs, Sale, ran}
use Rattle.model.specs.Demand.{searches, metric_in}
use Rattle.model.specs.Hall.{Beside, ceiling_beside, call_beside, turn_beside, Led, desk_of, beside, led_to, hall_after, fresh_desks}
use Rattle.model.specs.HallText.{graphs}
use Rattle.model.specs.HallDemand.{AcceptedHall, Numbered, AllLed, led, walk_beside, desks_after, desk_after, HallHalf}
use Rattle.model.specs.Promises.{KeptPrefix}
use Rattle.guarantees.specs.Walks.{first-lowest}
use Rattle.guarantees.specs.NeverHigher.{never-higher}
use Rattle.guarantees.specs.Optimum.{A-best}
use Rattle.guarantees.specs.Reached.{Valid}
use Rattle.hall_guarantees.specs.Limit.{HallFine, led-length, hall-fine}
use Rattle.hall_guarantees.specs.Loading.{hall-opens, hall-start, fresh-length}
use Rattle.hall_guarantees.specs.Apart.{own_alone, only_through}

pub hall-length : (limit : ℕ) (ds : List Sale) (calls : List Led) → length (hall_after limit ds calls) ≡ length ds
unfolding hall_after
hall-length limit ds [] = refl
hall-length limit ds (l ∷ ls) = hall-length limit (led_to limit ds l) ls ∙ led-length limit ds l

-- a search goes by the lesser ceiling
search-under : (o : Beside) (h : Hypergraph) (s : State) (k : Call) → searches k ≡ true → call_beside o h s k ≡ call_under h (ceiling_beside o h) s k
unfolding call_beside searches
search-under o h s (call_j u v) q = refl
search-under o h s call_s q = refl
search-under o h s (call_m v t) q = absurd (true≢false (sym q))
search-under o h s call_b q = absurd (true≢false (sym q))
search-under o h s (call_w u v) q = refl
search-under o h s call_p q = refl
search-under o h s call_a q = refl

best : (o : Beside) (d : Sale) → Valid main_limits d → refusal (call_beside o d.graph d.state call_a).answer ≡ 0 → LocallyBest d.graph (ceiling_beside o d.graph) (call_beside o d.graph d.state call_a).state
unfolding call_beside
best o d k e = A-best d.graph (ceiling_beside o d.graph) d.state k.held.legal e

-- the prefix that a walk keeps
prefix : (o : Beside) (d : Sale) (u v : ℕ) → Valid main_limits d → KeptPrefix d.graph d.state.stack (walk_beside o d u v)
prefix o d u v valid =
    let k = first-lowest d.graph (ceiling_beside o d.graph) d.state.stack d.state.block u v valid.held.legal.placed in
    record { lowest = k.lowest; lightest = k.lightest; first = k.shortest }

all-parts : {A : Type 0} (P : A → Type 0) (xs : List A) (y : A) (ys : List A) → All (xs ++ (y ∷ ys)) P → All xs P × P y
all-parts P [] y ys a = (tt, a.0)
all-parts P (x ∷ xs) y ys a = let r = all-parts P xs y ys a.1 in ((a.0, r.0), r.1)

module _ (limit : ℕ) (hs : List Hypergraph) (ok : AcceptedHall limit hs) where
  pub hall-loads : HallFine limit (fresh_desks hs)
  hall-loads =
      let f = hall-start ok.book (hall-opens ok.file ok.book ok.loads) in
      subst (λ (n : ℕ). HallFine n (fresh_desks hs)) ok.limit_is (subst (λ (gs : List Hypergraph). HallFine ok.book.limit (fresh_desks gs)) ok.graphs-are f)

  -- after every list of call lines
  pub hall-reached : (calls : List Led) → AllLed (length hs) calls → HallFine limit (desks_after limit hs calls)
  hall-reached calls a = hall-fine limit (fresh_desks hs) calls (subst (λ (n : ℕ). AllLed n calls) (sym (fresh-length hs)) a) hall-loads

  pub desk-valid : (calls : List Led) → AllLed (length hs) calls → (c : ℕ) → Numbered (length hs) c → Valid main_limits (desk_after limit hs calls c)
  desk-valid calls a c n = (hall-reached calls a).valid (c - 1) (omega (arith, n.0, n.1, hall-length limit (fresh_desks hs) calls, fresh-length hs))

  pub hall-half : (calls : List Led) → AllLed (length hs) calls → HallHalf limit hs calls
  unfolding turn_beside ran
  hall-half calls a = record {
    within-capacity = λ c n. (desk-valid calls a c n).held.capped;
    within-limit = (hall-reached calls a).within;
    never-higher = λ before later c k q searching accepted.
        let p = all-parts (λ l. Numbered (length hs) l.desk) before (led c (runs k)) later (subst (AllLed (length hs)) q a) in
        let d : Sale = desk_after limit hs before c in
        let o : Beside = beside limit (desks_after limit hs before) c in
        subst (λ (r : Step). metric_in d.graph r.state ≤ metric_in d.graph d.state) (sym (search-under o d.graph d.state k searching))
        (never-higher d.graph (ceiling_beside o d.graph) d.state k (desk-valid before p.0 c p.1).held.legal searching);
    locally-best = λ before later c q accepted.
        let p = all-parts (λ l. Numbered (length hs) l.desk) before (led c (runs call_a)) later (subst (AllLed (length hs)) q a) in
        let d : Sale = desk_after limit hs before c in
        let o : Beside = beside limit (desks_after limit hs before) c in
        best o d (desk-valid before p.0 c p.1) accepted;
    kept-prefix = λ before later c u v q accepted.
        let p = all-parts (λ l. Numbered (length hs) l.desk) before (led c (runs (call_w u v))) later (subst (AllLed (length hs)) q a) in
        prefix (beside limit (desks_after limit hs before) c) (desk_after limit hs before c) u v (desk-valid before p.0 c p.1);
    own_alone = own_alone limit;
    only_through = only_through limit;
  }
