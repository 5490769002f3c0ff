-- What the requests before promise of each catalogue and its tables holds in a hall too (desk-holds): M-104, M-107, M-108 and M-109. Rests on Half, Stays and
-- guarantees' ClumpGain, Ready and Counts. Assumes nothing.
use Rattle.std.specs.Prelude.{ℕ, zero, suc, ◌-◌, ◌≤◌, ◌<◌, ◌≡◌, refl, false, List, [], ◌∷◌, map, length, get_or}
use Rattle.std.proofs.Common.{arith, sym, ◌∙◌, subst, true≢false}
use Rattle.laws.specs.Fold.{All, all-get}
use Rattle.model.specs.Catalogue.{main_limits, Hypergraph}
use Rattle.model.specs.Sale.{runs, call_x, call_n, Sale, refuses_x, does_x, does_n, ran}
use Rattle.model.specs.Grammar.{Book}
use Rattle.model.specs.Memory.{Tables, Holds}
use Rattle.model.specs.Demand.{WithinCapacity}
use Rattle.model.specs.Hall.{refuses_beside_n, turn_beside, Led, no_desk, fresh_desks}
use Rattle.model.specs.HallDemand.{AcceptedHall, Numbered, AllLed, catalogue_of, desks_after, desk_after, DeskHolds}
use Rattle.guarantees.specs.Loads.{Loaded}
use Rattle.guarantees.specs.ClumpGain.{clump-gains}
use Rattle.guarantees.specs.Ready.{each-pair-once, first-is-best}
use Rattle.guarantees.specs.Counts.{count-within}
use Rattle.guarantees.specs.Reached.{Valid, turned-keeps}
use Rattle.guarantees.specs.Stays.{KeptIn}
use Rattle.hall_guarantees.specs.Loading.{Whole, hall-opens, fresh-length}
use Rattle.hall_guarantees.specs.Stays.{EachDesk, KeepsIn, each_after, desks-kept}
use Rattle.hall_guarantees.specs.Half.{hall-length, hall-loads, desk-valid}

-- ---- as long as no X or N is accepted a catalogue is the loaded one
abbrev Same : (ℕ → Hypergraph) → ℕ → Sale → Type 0
Same f d a = a.changed ≡ false → a.graph ≡ f d

same_turn : (f : ℕ → Hypergraph) → KeepsIn (Same f)
unfolding turn_beside ran does_x does_n
same_turn f o d a valid s (runs c) = s
same_turn f o d a valid s (call_x v) = turned-keeps main_limits (Same f d) (refuses_x a.graph a.state v) a (does_x a v) s (λ q e. absurd (true≢false e))
same_turn f o d a valid s (call_n bales session buyers) =
    turned-keeps main_limits (Same f d) (refuses_beside_n o a.graph a.state bales session buyers) a (does_n a bales session buyers) s (λ q e. absurd (true≢false e))

same-fresh : (hs : List Hypergraph) → EachDesk (Same (λ d. get_or hs d no_desk.graph)) (fresh_desks hs)
unfolding fresh_desks
same-fresh [] d u = absurd (omega arith)
same-fresh (h ∷ hs) zero u = λ e. refl
same-fresh (h ∷ hs) (suc d) u = same-fresh hs d (omega arith)

books-loaded : (ks : List Book) → All ks Whole → All (map (λ k. k.graph) ks) (Loaded main_limits)
books-loaded [] a = tt
books-loaded (k ∷ ks) a = (a.0.loads, books-loaded ks a.1)

module _ (limit : ℕ) (hs : List Hypergraph) (ok : AcceptedHall limit hs) (calls : List Led) (led : AllLed (length hs) calls) (c : ℕ) (n : Numbered (length hs) c) where
  loaded-is : Loaded main_limits (catalogue_of hs c)
  loaded-is =
      let a = subst (λ (gs : List Hypergraph). All gs (Loaded main_limits)) ok.graphs-are (books-loaded ok.book.books (hall-opens ok.file ok.book ok.loads).stocked.each) in
      all-get hs (Loaded main_limits) no_desk.graph a (c - 1) (omega (arith, n.0, n.1))

  desk : Valid main_limits (desk_after limit hs calls c)
  desk = desk-valid limit hs ok calls led c n

  all-led : AllLed (length (fresh_desks hs)) calls
  all-led = subst (λ (i : ℕ). AllLed i calls) (sym (fresh-length hs)) led

  there : c - 1 < length (desks_after limit hs calls)
  there = omega (arith, n.0, n.1, hall-length limit (fresh_desks hs) calls, fresh-length hs)

  unchanged : (desk_after limit hs calls c).changed ≡ false → (desk_after limit hs calls c).graph ≡ catalogue_of hs c
  unchanged = each_after limit (Same (λ d. get_or hs d no_desk.graph)) (same_turn (λ d. get_or hs d no_desk.graph)) (fresh_desks hs) calls all-led (hall-loads limit hs ok) (same-fresh hs) (c - 1) there

  kept : KeptIn main_limits (catalogue_of hs c) (desk_after limit hs calls c)
  kept = desks-kept limit hs calls all-led (hall-loads limit hs ok) (c - 1) there

  pub desk-holds : (old t : Tables) → 16384 ≤ length old.gains → 16384 ≤ length old.index → Holds (desk_after limit hs calls c) old t → DeskHolds (catalogue_of hs c) (desk_after limit hs calls c) t
  desk-holds old t gains index q = record {
    kept-stay = λ v l u e. kept.kept.stays v l u e ∙ kept.drafts v l u e;
    clump-gains = clump-gains main_limits (desk_after limit hs calls c) desk (omega arith) old t gains q;
    each-pair-once = each-pair-once main_limits (desk_after limit hs calls c) desk (omega arith) old t index q;
    first-is-best = first-is-best main_limits (desk_after limit hs calls c) desk (omega arith) old t index q;
    every-count = λ e. count-within main_limits (catalogue_of hs c) loaded-is (desk_after limit hs calls c).state (subst (λ (g : Hypergraph). WithinCapacity g (desk_after limit hs calls c).state) (unchanged e) desk.held.capped);
  }
