-- After every list of call lines every sale of the hall is valid, so that no session of it is over its cap, no session is over the hall's limit, and
-- there are no more than 1,024 lots, 1,024 buyers and 8,192 marks in all (hall-fine). Rests on Beside. Assumes nothing.
use Rattle.std.specs.Prelude.{ℕ, zero, suc, ◌+◌, ◌-◌, ◌≤◌, ◌<◌, ◌≡◌, refl, Bool, true, false, cond, ◌&&◌, List, [], ◌∷◌, ◌++◌, eqb, set, take, drop}
use Rattle.std.proofs.Math.Decide.{ℕ_discrete, dec_lt}
use Rattle.std.proofs.Common.{arith, sym, ◌∙◌, ne_eqb, get_or-set_other}
use Rattle.std.proofs.Math.Path.{ap, subst}
use Rattle.std.proofs.Math.ListN.{length, get_or, length-set}
use Rattle.std.proofs.Math.Seq.{get_or-set_same}
use Rattle.laws.specs.Fold.{sum_over, All}
use Rattle.laws.specs.Sum.{sum_to, sum_to-nil}
use Rattle.model.specs.Catalogue.{main_limits, Hypergraph, vertices}
use Rattle.model.specs.Measure.{Contraction, is_top, weight, block_weight}
use Rattle.model.specs.Sale.{Sale, lots_in, marks_in}
use Rattle.model.specs.Hall.{Led, no_desk, desk_of, desk_bales, bales, lots, marks, others, beside, led_turn, led_to, hall_after}
use Rattle.model.specs.HallDemand.{AllLed}
use Rattle.guarantees.specs.Ends.{Placed, placed-high}
use Rattle.guarantees.specs.Reached.{Valid}
use Rattle.hall_guarantees.specs.Beside.{Settled, nets-turn, settled-turn}

-- one of a list and the others
sum-set : {A : Type 0} (l : List A) (i : ℕ) (x : A) (f : A → ℕ) → i < length l → sum_over (set l i x) f ≡ f x + sum_over (take i l ++ drop (suc i) l) f
unfolding sum_over
sum-set [] i x f h = absurd (omega arith)
sum-set (y ∷ l) zero x f h = refl
sum-set (y ∷ l) (suc i) x f h = omega (arith, sum-set l i x f (omega arith))

sum_one : {A : Type 0} (l : List A) (i : ℕ) (d : A) (f : A → ℕ) → i < length l → sum_over l f ≡ f (get_or l i d) + sum_over (take i l ++ drop (suc i) l) f
unfolding sum_over
sum_one [] i d f h = absurd (omega arith)
sum_one (y ∷ l) zero d f h = refl
sum_one (y ∷ l) (suc i) d f h = omega (arith, sum_one l i d f (omega arith))

pub past-blocks : (h : Hypergraph) (cs : List Contraction) (block : ℕ → ℕ) (b : ℕ) → Placed h cs block → h.blocks < b → block_weight h cs block b ≡ 0
unfolding block_weight
past-blocks h cs block b p l = sum_to-nil (vertices h) _ (λ v vl vh. none v (λ e. omega (arith, e, placed-high h cs block p v vl vh)) (is_top cs v))
  where
    none : (v : ℕ) → (block v ≡ b → ⊥) → (t : Bool) → cond (t && eqb (block v) b) (weight h cs v) 0 ≡ 0
    none v n true = ap (λ (t : Bool). cond t (weight h cs v) 0) (ne_eqb (block v) b n)
    none v n false = refl

-- what every hall keeps
pub record HallFine (limit : ℕ) (ds : List Sale) : Type 0 where
  pub valid : (d : ℕ) → d < length ds → Valid main_limits (get_or ds d no_desk)
  pub within : (t : ℕ) → 1 ≤ t → bales ds t ≤ limit
  pub lots-few : lots ds ≤ 1024
  pub marks-few : marks ds ≤ 8192
  pub nets-few : sum_over ds (λ a. length a.graph.nets) ≤ 1024

module _ (limit : ℕ) (ds : List Sale) (f : HallFine limit ds) (l : Led) (cl : 1 ≤ l.desk) (ch : l.desk ≤ length ds) where
  abbrev c : ℕ
  c = l.desk - 1

  abbrev k : Sale
  k = desk_of ds l.desk

  abbrev next : Sale
  next = (led_turn limit ds l).sale

  inside : c < length ds
  inside = omega arith

  -- a sum over the desks is the own part and that of the others, before and after
  rest-is : (m : Sale → ℕ) → sum_over (take c ds ++ drop (suc c) ds) m ≡ sum_over (others ds l.desk) m
  rest-is m = let e : suc c ≡ l.desk = omega arith in ap (λ (n : ℕ). sum_over (take c ds ++ drop n ds) m) e

  before : (m : Sale → ℕ) → sum_over ds m ≡ m k + sum_over (others ds l.desk) m
  before m = sum_one ds c no_desk m inside ∙ ap (λ (n : ℕ). m k + n) (rest-is m)

  later : (m : Sale → ℕ) → sum_over (led_to limit ds l) m ≡ m next + sum_over (others ds l.desk) m
  unfolding led_to
  later m = sum-set ds c next m inside ∙ ap (λ (n : ℕ). m next + n) (rest-is m)

  own : Settled (beside limit ds l.desk) k
  unfolding bales lots marks
  own = record {
    valid = f.valid c inside;
    under = λ t tl tu. omega (arith, f.within t tl, before (desk_bales t));
    lots-le = omega (arith, f.lots-few, before (λ a. lots_in a.graph));
    marks-le = omega (arith, f.marks-few, before (λ a. marks_in a.graph));
  }

  pub led-settled : Settled (beside limit ds l.desk) next
  led-settled = settled-turn (beside limit ds l.desk) k own l.ask

  within-after : (t : ℕ) → 1 ≤ t → bales (led_to limit ds l) t ≤ limit
  unfolding bales
  within-after t tl = go (dec_lt next.graph.blocks t)
    where
      go : Dec (next.graph.blocks < t) → sum_over (led_to limit ds l) (desk_bales t) ≤ limit
      go (yes p) = omega (arith, later (desk_bales t), before (desk_bales t), f.within t tl, past-blocks next.graph next.state.stack next.state.block t led-settled.valid.held.legal.placed p)
      go (no n) = omega (arith, later (desk_bales t), before (desk_bales t), f.within t tl, led-settled.under t tl (omega (arith, n)))

  pub fine-led : HallFine limit (led_to limit ds l)
  unfolding led_to bales lots marks
  fine-led = record {
    valid = λ d h. valid-at d (simp length-set at h) (ℕ_discrete d c);
    within = within-after;
    lots-few = omega (arith, later (λ a. lots_in a.graph), led-settled.lots-le);
    marks-few = omega (arith, later (λ a. marks_in a.graph), led-settled.marks-le);
    nets-few = omega (arith, later (λ a. length a.graph.nets), before (λ a. length a.graph.nets), f.nets-few, nets-turn (beside limit ds l.desk) k own l.ask);
  }
    where
      valid-at : (d : ℕ) → d < length ds → Dec (d ≡ c) → Valid main_limits (get_or (set ds c next) d no_desk)
      valid-at d h (yes e) = subst (Valid main_limits) (sym (ap (λ (i : ℕ). get_or (set ds c next) i no_desk) e ∙ get_or-set_same ds c next no_desk inside)) led-settled.valid
      valid-at d h (no n) = subst (Valid main_limits) (sym (get_or-set_other ds c d next no_desk n)) (f.valid d h)

pub led-length : (limit : ℕ) (ds : List Sale) (l : Led) → length (led_to limit ds l) ≡ length ds
unfolding led_to
led-length limit ds l = length-set ds (l.desk - 1) _

-- after every list of call lines
pub hall-fine : (limit : ℕ) (ds : List Sale) (calls : List Led) → AllLed (length ds) calls → HallFine limit ds → HallFine limit (hall_after limit ds calls)
unfolding hall_after
hall-fine limit ds [] ok f = f
hall-fine limit ds (l ∷ ls) ok f =
    hall-fine limit (led_to limit ds l) ls (subst (λ (n : ℕ). AllLed n ls) (sym (led-length limit ds l)) ok.1) (fine-led limit ds f l ok.0.0 ok.0.1)
