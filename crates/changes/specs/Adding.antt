-- The call N, refused and accepted. Rests on Stands, Named and Refusal. Assumes nothing.
use Rattle.std.specs.Prelude.{ℕ, suc, ◌+◌, ◌*◌, ◌-◌, ◌<◌, ◌≤◌, ◌≡◌, refl, Bool, not, cond, ◌&&◌, eqb, ltb, max, get_or, drop, ℤ}
use Rattle.std.proofs.Math.Decide.{dec_lt}
use Rattle.std.proofs.Common.{arith, ◌∙◌, lt-ltb, le-ltb}
use Rattle.std.proofs.Math.Path.{sym, ap, subst}
use mathlib.Core.List.{List, [], ◌∷◌, ◌++◌}
use borrow.Author.Tests.{lt-ltb, le-ltb, leb-true, not-false}
use Rattle.std.proofs.Math.Dec.{leb}
use Rattle.std.proofs.Math.ListN.{length}
use Rattle.laws.specs.Choice.{one-le, cond-zero, and_left, and_right}
use Rattle.laws.specs.Fold.{any, all}
use Rattle.model.specs.Catalogue.{Limits, Net, Hypergraph, vertices, is_block, is_net, capacity, capacities}
use Rattle.model.specs.Machine.{Answer, says_n}
use Rattle.model.specs.Memory.{no_net, all_pins}
use Rattle.model.specs.Sale.{Sale, Turn, Space, space_of, call_n, turn_under, does_n, added, changed_at, nets_with, number_for, refuses_n}
use Rattle.model.specs.Lent.{Two}
use Rattle.guarantees.specs.Caps.{CeilingIs}
use Rattle.guarantees.specs.Ranges.{Ranges}
use Rattle.guarantees.specs.Changed.{vertices-same, vertices-more}
use Rattle.guarantees.specs.Changes.{with-length}
use Rattle.guarantees.specs.Reached.{accepts-N, N-told, number-le}
use Rattle.levels.specs.Running.{net_at}
use Rattle.operations.specs.Tables.{Tables, tables}
use Rattle.edit_calls.specs.Steps.{told}
use Rattle.edit_calls.specs.Start.{Empty}
use Rattle.renewal.specs.Nets.{Stored, first-all, changed-length, tail}
use Rattle.renewal.specs.Nets.{nets_with as put_nets}
use Rattle.renewal.specs.Putting.{total_with, CanPut, firsts-with}
use Rattle.renewal.specs.Clearing.{PutIn}
use Rattle.reopening.specs.Reopening.{CanReopen}
use Rattle.changes.specs.Nets.{with-is, with-weight, marks-is, marks-in}
use Rattle.change_rules.specs.Free.{free_of, free-less, free-length}
use Rattle.change_rules.specs.Named.{Named}
use Rattle.change_rules.specs.Refusal.{refusal_n, refusal_n-is, wider-N}
use Rattle.change_rules.specs.Lot.{LotSet}
use Rattle.changes.specs.Stands.{Stock, stock, Stands, Turns, Renewed, joins-length, all-lots, holding, left-reopens, left-can, left-index, left-runs, left-fixed, left-long}
use Rattle.changes.specs.Spared.{Spared, spared}
use Rattle.changes.specs.Turning.{nets-left, turned-no, turned-yes}

-- what is asked of a sale before N: its ceilings, none above the capacity, and how many lots and marks there may be
pub record AskN (limits : Limits) (a : Sale) (S : Two) (ceiling : ℕ → ℕ) (joins : ℕ) (ceilings buyers : List ℕ) (lot_room mark_room : ℕ) (K : Stock) : Type 0 where
  pub stands : Stands limits a S K
  pub joins-are : joins ≡ S.len
  pub ceiling-is : CeilingIs ceilings a.graph ceiling
  pub ceiling-low : (b : ℕ) → 1 ≤ b → b ≤ a.graph.blocks → ceiling b ≤ capacity a.graph
  pub lots-low : lot_room ≤ limits.vertex_limit
  pub marks-low : mark_room ≤ 8192

-- what `call_add` needs: some sale
pub record CanAdd (joins : ℕ) (ceilings buyers : List ℕ) (lot_room mark_room : ℕ) (K : Stock) : Type 0 where
  pub limits : Limits
  pub a : Sale
  pub S : Two
  pub ceiling : ℕ → ℕ
  pub asks : AskN limits a S ceiling joins ceilings buyers lot_room mark_room K
  pub ceilings-whole : length ceilings ≡ 16

-- what `place` needs: some sale in which N is not refused, its number, and the table of the buyers
pub record CanPlace (T : ℕ → ℕ → Tables) (fixed index pins named : List ℕ) (n v bales session : ℕ) : Type 0 where
  pub limits : Limits
  pub a : Sale
  pub S : Two
  pub known : ℕ
  pub total : ℕ
  pub numbers : List ℕ
  pub len : ℕ
  pub marks : ℕ
  pub J : Two
  pub buyers : List ℕ
  pub stands : Stands limits a S (stock (T known total) fixed index pins numbers len marks J)
  pub accepted : refuses_n (space_of limits) a.graph (capacities a.graph) a.state bales session buyers ≡ 0
  pub told : Named named buyers
  pub number_is : v ≡ number_for a.graph a.free
  pub known_is : n ≡ cond (ltb known v) v known

-- what it does: the lot's columns, the loaded marks with it, and all tables anew
pub record Placing (T T' : Tables) (fixed fixed' index index' pins pins' named : List ℕ) (marks v bales session : ℕ) : Type 0 where
  pub seat : ℕ
  pub seat-is : seat ≡ session
  pub lot : LotSet (v - 1) bales seat T.weights T'.weights T.blocks T'.blocks T.aboves T'.aboves fixed fixed'
  pub number : ℕ
  pub number_is : number ≡ v
  pub sum_is : marks ≡ total_with named T.loaded T.m
  pub into : PutIn named number T.m marks pins pins' T.firsts T'.firsts T.loaded T'.loaded
  pub renewed : Renewed pins' T'.loaded T.pins T'.pins T.sizes T'.sizes T'.blocks T'.firsts T'.weights T.net_weights T'.n T.m T.k marks
      T.bits T'.bits T.counts T'.counts T.visited T'.visited T.gains T'.gains T'.loads index index' T'.total

module _ {limits : Limits} {a : Sale} {S : Two} {K : Stock} (w : Stands limits a S K) (bales session : ℕ) (buyers : List ℕ)
    (q : refuses_n (space_of limits) a.graph (capacities a.graph) a.state bales session buyers ≡ 0) (x : ℕ) (xv : x ≡ number_for a.graph a.free) where
  abbrev h : Hypergraph
  h = a.graph

  abbrev p : ℕ → ℕ
  p = a.state.block

  abbrev T : Tables
  T = K.tables

  abbrev v : ℕ
  v = number_for h a.free

  abbrev nets : List Net
  nets = nets_with v buyers 1 h.nets

  none : a.state.stack ≡ []
  none = (N-told limits a w.valid bales session buyers q).0

  vl : 1 ≤ v
  vl = (N-told limits a w.valid bales session buyers q).1

  vu : v ≤ suc (vertices h)
  vu = (N-told limits a w.valid bales session buyers q).2

  there : v ≤ vertices (changed_at h p v bales session nets)
  unfolding does_n added
  there = number-le limits a w.valid bales session buyers q

  ranges : Ranges limits (changed_at h p v bales session nets)
  unfolding does_n added
  ranges = (accepts-N limits a w.valid bales session buyers q).ranges

  -- the lot's place lies within the columns
  pub place_in : (1 ≤ x) × (x - 1 < length T.weights) × (x - 1 < length T.blocks) × (x - 1 < length T.aboves) × (x - 1 < length K.fixed) × (x - 1 < 1024)
  place_in = omega (arith, xv, vl, there, ranges.vertices-high, w.short, w.long.weights-long, w.long.blocks-long, w.long.aboves-long, w.long.fixed-long)

  -- its session is a small number
  pub seat-in : session < 65536
  unfolding refuses_n
  seat-in =
      let t = cond-zero (not (leb 1 bales && leb bales 65535 && is_block h session && all buyers (is_net h))) 9 _ (omega arith) q in
      let b = and_right (leb 1 bales && leb bales 65535) _ (and_left _ _ (not-false _ t.0)) in
      omega (arith, leb-true session h.blocks (and_right (leb 1 session) (leb session h.blocks) b), w.valid.ranges.loaded.blocks-high, w.narrow)

  as_many : length nets ≡ length h.nets
  as_many = with-length v buyers 1 h.nets

  costs : (e : ℕ) → e < length h.nets → (get_or nets e no_net).weight ≡ (net_at h e).weight
  costs e l = with-weight v buyers 1 h.nets e

  n-next : {n' : ℕ} → n' ≡ cond (ltb T.n x) x T.n → n' ≡ vertices (changed_at h p v bales session nets)
  n-next {n'} e = go (dec_lt T.n x)
    where
      go : Dec (T.n < x) → n' ≡ vertices (changed_at h p v bales session nets)
      go (yes l) = e ∙ ap (λ (b : Bool). cond b x T.n) (lt-ltb T.n x l) ∙ xv ∙ omega (arith, l, xv, vu, all-lots w, vertices-more h p v bales session nets vl vu (omega (arith, l, xv, vu, all-lots w)))
      go (no l) = e ∙ ap (λ (b : Bool). cond b x T.n) (le-ltb T.n x (omega arith)) ∙ omega (arith, all-lots w, vertices-same h p v bales session nets vl vu (omega (arith, l, xv, all-lots w)))

  module _ {named : List ℕ} (t : Named named buyers) where
    few-nets : length h.nets ≤ 1024
    few-nets = w.valid.ranges.nets-high

    put-nets : {u : ℕ} → u ≡ v → put_nets named u h.nets ≡ nets
    put-nets uv = ap (λ (y : ℕ). put_nets named y h.nets) uv ∙ with-is v buyers named h.nets (λ e l. t.told e (omega (arith, few-nets)))

    once : (e : ℕ) → e < length h.nets → get_or named e 0 ≤ 1
    once e l = omega (arith, t.told e (omega (arith, few-nets)), one-le (any buyers (λ b. eqb b (1 + e))))

    all-nets : T.m ≡ length h.nets
    all-nets = w.runs.sound.follows.says.all-nets

    module _ {total : ℕ} (total-sum : total ≡ total_with named T.loaded T.m) where
      total-all : total ≡ length (all_pins nets)
      total-all =
          total-sum ∙ ap (total_with named T.loaded) all-nets
          ∙ sym (firsts-with named v w.stored once (length h.nets) (omega arith))
          ∙ first-all (put_nets named v h.nets) (length h.nets) (omega (arith, changed-length (λ e l. l ++ tail (get_or named e 0) v) h.nets))
          ∙ ap (λ (ns : List Net). length (all_pins ns)) (put-nets refl)

      total-few : total ≤ 8192
      unfolding changed_at
      total-few = omega (arith, total-all, marks-is nets, ranges.marks-high)

      pub put-ok : CanPut named K.pins T.firsts T.loaded T.m total
      put-ok = record {
        holding = holding w;
        named-fit = omega (arith, t.len, all-nets, few-nets);
        once = λ e l. once e (omega (arith, all-nets));
        total-is = total-sum;
        total-few = total-few;
        pins-long = w.long.loaded-long;
      }

      module _ {weights' blocks' aboves' fixed' : List ℕ} {seat : ℕ} (seat-is : seat ≡ session) (c₀ : LotSet (x - 1) bales seat T.weights weights' T.blocks blocks' T.aboves aboves' K.fixed fixed')
          {lp' firsts' loaded' : List ℕ} {u : ℕ} (uv : u ≡ x) (o : PutIn named u T.m total K.pins lp' T.firsts firsts' T.loaded loaded') {n' : ℕ} (n-is : n' ≡ cond (ltb T.n x) x T.n) where
        c : LotSet (v - 1) bales session T.weights weights' T.blocks blocks' T.aboves aboves' K.fixed fixed'
        c = subst (λ (s : ℕ). LotSet (v - 1) bales s T.weights weights' T.blocks blocks' T.aboves aboves' K.fixed fixed') seat-is
            (subst (λ (y : ℕ). LotSet (y - 1) bales seat T.weights weights' T.blocks blocks' T.aboves aboves' K.fixed fixed') xv c₀)

        stored : Stored nets lp' firsts' loaded'
        stored = subst (λ (ns : List Net). Stored ns lp' firsts' loaded') (put-nets (uv ∙ xv)) (o.stored h.nets (sym all-nets) w.stored)

        pub put-can : CanReopen lp' loaded' T.pins T.sizes blocks' firsts' weights' T.net_weights T.bits T.counts T.visited T.gains T.loads n' T.m T.k total
        put-can = left-can w none v bales session nets vl vu ranges there c (n-next n-is) stored total-all as_many costs o.pins-len

        pub put-index : 16 * n' ≤ length K.index
        put-index = left-index w none v bales session nets vl vu ranges there c (n-next n-is) stored total-all as_many costs o.pins-len

        module _ {pins' sizes' bits' counts' visited' loads' index' : List ℕ} {gains' : List ℤ} {metric : ℕ}
            (r : Renewed lp' loaded' T.pins pins' T.sizes sizes' blocks' firsts' weights' T.net_weights n' T.m T.k total T.bits bits' T.counts counts' T.visited visited' T.gains gains' loads' K.index index' metric) where
          abbrev T' : Tables
          T' = tables counts' visited' gains' pins' sizes' bits' blocks' weights' aboves' loads' T.net_weights firsts' loaded' n' T.m T.k metric

          -- what is not in use
          pub put-spares : Spared total T T' K.fixed fixed' K.index index' K.pins lp'
          put-spares = spared vl (omega (arith, there, n-next n-is)) c r (left-reopens w none v bales session nets vl vu ranges there c (n-next n-is) stored total-all as_many costs o.pins-len) o.zero o.past o.pins-len o.firsts-len o.sizes-len o.firsts-past o.sizes-past

          pub put-stands : {numbers' : List ℕ} {len' : ℕ} {J' : Two} → numbers' ≡ K.numbers → len' ≡ K.len - 1 → Empty J' → Stands limits (does_n a bales session buyers).sale S (stock T' fixed' index' lp' numbers' len' total J')
          unfolding does_n added
          put-stands {numbers'} {len'} e l ej = record {
            narrow = w.narrow;
            short = w.short;
            valid = accepts-N limits a w.valid bales session buyers q;
            runs = left-runs w none v bales session nets vl vu ranges there c (n-next n-is) stored total-all as_many costs o.pins-len r ej;
            stored = subst (λ (ns : List Net). Stored ns lp' firsts' loaded') (sym (nets-left h p v bales session nets)) stored;
            fixed-is = left-fixed w none v bales session nets vl vu ranges there c (n-next n-is) stored total-all as_many costs o.pins-len r;
            free-is = ap (λ (y : List ℕ). free_of y len') e ∙ ap (free_of K.numbers) l ∙ free-less K.numbers K.len ∙ ap (drop 1) w.free-is;
            free-whole = ap length e ∙ w.free-whole;
            free-short = omega (arith, l, w.free-short);
            marks-are = total-all ∙ ap (λ (ns : List Net). length (all_pins ns)) (sym (nets-left h p v bales session nets));
            long = left-long w none v bales session nets vl vu ranges there c (n-next n-is) stored total-all as_many costs o.pins-len r;
          }

-- ---- the call
module _ {limits : Limits} {a : Sale} {S : Two} {ceiling : ℕ → ℕ} {joins : ℕ} {ceilings buyers : List ℕ} {lot_room mark_room : ℕ} {K : Stock} (g : AskN limits a S ceiling joins ceilings buyers lot_room mark_room K) where
  -- how many lots are there
  pub lots-are : (K.len ≤ K.tables.n) × (K.tables.n ≤ 1024) × (K.marks ≤ 8192)
  lots-are = let w = g.stands in omega (arith, w.valid.counted, all-lots w, free-length K.numbers K.len, ap length w.free-is, w.valid.ranges.vertices-high, w.short, w.marks-are, marks-is a.graph.nets, w.valid.ranges.marks-high)

  abbrev space : Space
  space = record { lots = lot_room; marks = mark_room }

  module _ (bales session : ℕ) {no lots wide_bales : ℕ} (wb : wide_bales ≡ bales) (ql : lots ≡ K.tables.n - K.len)
      (r : no ≡ refusal_n K.tables.loads ceilings buyers K.tables.m K.tables.k joins lots lot_room K.marks mark_room wide_bales session) where
    same-no : no ≡ refuses_n space a.graph ceiling a.state bales session buyers
    same-no = let w = g.stands in
        r ∙ ap (λ (b : ℕ). refusal_n K.tables.loads ceilings buyers K.tables.m K.tables.k joins lots lot_room K.marks mark_room b session) wb
        ∙ refusal_n-is a.state w.runs.sound ceiling ceilings buyers g.ceiling-is joins lots lot_room K.marks mark_room bales session (g.joins-are ∙ joins-length w)
        (omega (arith, ql, w.valid.counted, all-lots w, free-length K.numbers K.len, ap length w.free-is)) (w.marks-are ∙ sym (marks-in a.graph))

    pub accepted-N : no ≡ 0 → refuses_n (space_of limits) a.graph (capacities a.graph) a.state bales session buyers ≡ 0
    accepted-N z = wider-N limits a.graph a.state space ceiling bales session buyers g.lots-low g.marks-low g.ceiling-low (sym same-no ∙ z)

    pub refused-N : (no ≡ 0 → ⊥) → (y : Answer) → Turns limits (turn_under space ceiling a (call_n bales session buyers)) S K (told no y)
    unfolding turn_under
    refused-N n y =
        let t = turned-no (refuses_n space a.graph ceiling a.state bales session buyers) a (does_n a bales session buyers) y (λ z. n (same-no ∙ z)) in
        record {
          stands = subst (λ (b : Sale). Stands limits b S K) (sym t.0) g.stands;
          says = ap (λ (q : ℕ). told q y) same-no ∙ t.1;
        }

    pub done-N : {K' : Stock} → no ≡ 0 → (x : ℕ) → x ≡ number_for a.graph a.free → Stands limits (does_n a bales session buyers).sale S K' → Turns limits (turn_under space ceiling a (call_n bales session buyers)) S K' (says_n x K'.tables.total)
    unfolding turn_under does_n
    done-N {K'} z x e k =
        let t = turned-yes (refuses_n space a.graph ceiling a.state bales session buyers) a (does_n a bales session buyers) (sym same-no ∙ z) in
        record {
          stands = subst (λ (b : Turn). Stands limits b.sale S K') (sym t) k;
          says = ap (λ (y : ℕ). says_n y K'.tables.total) e ∙ ap (says_n (number_for a.graph a.free)) k.runs.sound.total-is ∙ sym (ap (λ (b : Turn). b.answer) t);
        }

-- the larger of two, by the test that the sale makes
pub larger : (n v : ℕ) → max n v ≡ cond (ltb n v) v n
larger n v = go (dec_lt n v)
  where
    go : Dec (n < v) → max n v ≡ cond (ltb n v) v n
    go (yes l) = let m : max n v ≡ v = omega (arith, l) in m ∙ sym (ap (λ (b : Bool). cond b v n) (lt-ltb n v l))
    go (no l) = let m : max n v ≡ n = omega (arith, l) in m ∙ sym (ap (λ (b : Bool). cond b v n) (le-ltb n v (omega (arith, l))))
