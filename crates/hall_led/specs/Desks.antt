-- The desks of a hall as the sets of tables hold them, and the numbers that a call line of one of them goes by. Rests on hall_step's Sets, on hall_rooms'
-- Rooms and on hall_guarantees' Limit. Assumes nothing.
use Rattle.std.specs.Prelude.{ℕ, suc, ◌+◌, ◌-◌, ◌<◌, ◌≤◌, ◌≡◌, List, [], ◌++◌, leb, length, get_or, take, drop}
use Rattle.std.proofs.Math.Decide.{dec_lt}
use native.Mathlib.Omega.{arith}
use Rattle.std.proofs.Math.Path.{refl, ap, ap₂}
use Rattle.std.proofs.Common.{sym, ◌∙◌}
use Rattle.std.proofs.Math.Bool.{cond}
use Rattle.laws.specs.Fold.{sum_over}
use Rattle.laws.specs.Sum.{sum, sum-ext}
use Rattle.model.specs.Catalogue.{main_limits, average_weight, capacity}
use Rattle.model.specs.Sale.{Request, runs, call_x, call_n, Sale, lots_in, marks_in, ran, does_x, does_n, withdrawn, added, changed_at, refuses_x}
use Rattle.model.specs.Memory.{Tables as MemoryTables}
use Rattle.model.specs.Hall.{Beside, leaves, ceiling_beside, refuses_beside_n, turn_beside, no_desk, desk_of, desk_bales, bales, lots, marks, others, beside}
use Rattle.guarantees.specs.Caps.{CeilingIs}
use Rattle.guarantees.specs.Reached.{turned-keeps}
use Rattle.hall_guarantees.specs.Limit.{past-blocks}
use Rattle.change_rules.specs.Free.{free-length}
use Rattle.changes.specs.Nets.{marks-in}
use Rattle.changes.specs.Stands.{all-lots}
use Rattle.call_list.specs.declared.course.Course.{Course}
use Rattle.call_list.specs.Point.{GoesOn}
use Rattle.desk_calls.specs.Desk.{numbers, Fits}
use Rattle.hall_rooms.specs.Rooms.{bearing, besides, others_bear, Leaves, Least, bears-here, bears-none, sum-others}
use Rattle.hall_step.specs.Sets.{Sets, Own, set_of, point_in, Whole}
use Rattle.hall_led.specs.declared.Terms.{Terms}
use Rattle.hall_led.specs.Others.{no_course, lots_at, marks_at, lots_beside, marks_beside}

abbrev pub no_terms : Terms
no_terms = record { frame = record { m = 0; k = 0; average = 0; lots = 0 }; cap = 0 }

-- the desk a stands in the set Y, on lent memory that held `old` before loading
pub record DeskStands (a : Sale) (old : MemoryTables) (Y : Own) (netweights : List ℕ) (t : Terms) (course : Course) : Type 0 where
  pub goes : GoesOn main_limits a old (point_in Y netweights t.frame.m t.frame.k course)
  pub average-is : t.frame.average ≡ average_weight a.graph
  pub cap-is : t.cap ≡ capacity a.graph

-- each desk of the hall stands in its own set
pub record HallStands (ds : List Sale) (olds : ℕ → MemoryTables) (H : Sets) (netweights : List (List ℕ)) (ts : List Terms) (cs : List Course) : Type 0 where
  pub whole : Whole H netweights
  pub few : length ds ≤ 4
  pub each : (d : ℕ) → d < length ds → DeskStands (get_or ds d no_desk) (olds d) (set_of d H) (get_or netweights d []) (get_or ts d no_terms) (get_or cs d no_course)

-- ---- one desk
module _ {a : Sale} {old : MemoryTables} {Y : Own} {netweights : List ℕ} {x : Terms} {course : Course} (r : DeskStands a old Y netweights x course) where
  -- its bales in a session, none past its count
  pub bears-as : (t : ℕ) → bearing Y.loads x.frame.k t ≡ desk_bales (t + 1) a
  bears-as t = go (dec_lt t x.frame.k)
    where
      go : Dec (t < x.frame.k) → bearing Y.loads x.frame.k t ≡ desk_bales (t + 1) a
      go (yes l) = sym (bears-here Y.loads x.frame.k t l) ∙ r.goes.stands.runs.sound.bears t l
      go (no n) =
          let s = r.goes.stands.runs.sound in
          sym (bears-none Y.loads x.frame.k t (omega (arith, n)))
          ∙ sym (past-blocks a.graph a.state.stack a.state.block (t + 1) s.placed (omega (arith, n, s.follows.says.all_blocks)))

  pub lots-as : course.n - course.free.len ≡ lots_in a.graph
  lots-as =
      let w = r.goes.stands in
      omega (arith, w.valid.counted, all-lots w, free-length course.free.numbers course.free.len, ap length w.free-is)

  pub marks-as : course.marks ≡ marks_in a.graph
  marks-as = r.goes.stands.marks-are ∙ sym (marks-in a.graph)

-- a call line leaves ⌈W/k⌉ and the cap
module _ (o : Beside) (a : Sale) where
  pub average-kept : (c : Request) → average_weight (turn_beside o a c).sale.graph ≡ average_weight a.graph
  unfolding turn_beside ran does_x does_n withdrawn added changed_at average_weight
  average-kept (runs c) = refl
  average-kept (call_x v) = turned-keeps main_limits (λ b. average_weight b.graph ≡ average_weight a.graph) (refuses_x a.graph a.state v) a (does_x a v) refl (λ _. refl)
  average-kept (call_n bales session buyers) = turned-keeps main_limits (λ b. average_weight b.graph ≡ average_weight a.graph) (refuses_beside_n o a.graph a.state bales session buyers) a (does_n a bales session buyers) refl (λ _. refl)

  pub cap-kept : (c : Request) → capacity (turn_beside o a c).sale.graph ≡ capacity a.graph
  unfolding turn_beside ran does_x does_n withdrawn added changed_at average_weight capacity
  cap-kept (runs c) = refl
  cap-kept (call_x v) = turned-keeps main_limits (λ b. capacity b.graph ≡ capacity a.graph) (refuses_x a.graph a.state v) a (does_x a v) refl (λ _. refl)
  cap-kept (call_n bales session buyers) = turned-keeps main_limits (λ b. capacity b.graph ≡ capacity a.graph) (refuses_beside_n o a.graph a.state bales session buyers) a (does_n a bales session buyers) refl (λ _. refl)

-- ---- what the others have
module _ {ds : List Sale} {olds : ℕ → MemoryTables} {H : Sets} {netweights : List (List ℕ)} {ts : List Terms} {cs : List Course} (r : HallStands ds olds H netweights ts cs) (c : ℕ) (cl : 1 ≤ c) (ch : c ≤ length ds) where
  -- a sum over the places but the own one is a sum over the other desks
  beside-sum : (f : ℕ → ℕ) (m : Sale → ℕ) → ((d : ℕ) → d < length ds → f d ≡ m (get_or ds d no_desk)) → sum (length ds) (λ d. besides (c - 1) d (f d)) ≡ sum_over (others ds c) m
  beside-sum f m e =
      let q : suc (c - 1) ≡ c = omega arith in
      sum-ext (length ds) (λ d. besides (c - 1) d (f d)) (λ d. besides (c - 1) d (m (get_or ds d no_desk))) (λ d l. ap (besides (c - 1) d) (e d l))
      ∙ sum-others ds no_desk m (c - 1)
      ∙ ap (λ (n : ℕ). sum_over (take (c - 1) ds ++ drop n ds) m) q

  lots-is : lots_beside cs (length ds) (c - 1) ≡ lots (others ds c)
  unfolding lots
  lots-is = beside-sum (lots_at cs) (λ a. lots_in a.graph) (λ d l. lots-as (r.each d l))

  marks-is : marks_beside cs (length ds) (c - 1) ≡ marks (others ds c)
  unfolding marks
  marks-is = beside-sum (marks_at cs) (λ a. marks_in a.graph) (λ d l. marks-as (r.each d l))

  module _ (ks : List ℕ) (kq : (d : ℕ) → d < length ds → get_or ks d 0 ≡ (get_or ts d no_terms).frame.k) where
    bear-is : (t : ℕ) → others_bear H.loads ks (length ds) (c - 1) t ≡ bales (others ds c) (t + 1)
    unfolding bales
    bear-is t =
        beside-sum (λ d. bearing (get_or H.loads d []) (get_or ks d 0) t) (desk_bales (t + 1))
        (λ d l. ap (λ (k : ℕ). bearing (get_or H.loads d []) k t) (kq d l) ∙ bears-as (r.each d l) t)

    -- the numbers that the code works out are those of the catalogue beside the others
    pub led-fits : (limit : ℕ) {rooms ceilings : List ℕ} {lotroom markroom : ℕ} → Leaves limit H.loads ks (length ds) (c - 1) 16 rooms → Least (get_or ts (c - 1) no_terms).cap rooms 16 ceilings
        → lotroom ≡ 1024 - lots_beside cs (length ds) (c - 1) → markroom ≡ 8192 - marks_beside cs (length ds) (c - 1)
        → Fits (beside limit ds c) (desk_of ds c).graph (numbers (get_or ts (c - 1) no_terms).frame.average lotroom markroom (get_or ts (c - 1) no_terms).cap ceilings rooms)
    unfolding ceiling_beside
    led-fits limit {rooms} {ceilings} lv le ql qm =
        let own = r.each (c - 1) (omega arith) in
        let s = own.goes.stands.runs.sound.follows in
        let few : (desk_of ds c).graph.blocks ≤ 16 = omega (arith, s.says.all_blocks, s.world.frame.few) in
        let room : CeilingIs rooms (desk_of ds c).graph (leaves (beside limit ds c)) = λ b bl bh.
        let e : b - 1 + 1 ≡ b = omega arith in
        lv.left (b - 1) (omega (arith, few)) ∙ ap (λ (n : ℕ). limit - n) (bear-is (b - 1) ∙ ap (bales (others ds c)) e) in
        record {
          average-is = own.average-is;
          lots-are = ql ∙ ap (λ (n : ℕ). 1024 - n) lots-is;
          marks-are = qm ∙ ap (λ (n : ℕ). 8192 - n) marks-is;
          rooms-are = record {
            both = λ b bl bh. le.least (b - 1) (omega (arith, few)) ∙ ap₂ (λ (x y : ℕ). cond (leb x y) x y) own.cap-is (room b bl bh);
            limit = room;
            cap-is = own.cap-is;
          };
        }
