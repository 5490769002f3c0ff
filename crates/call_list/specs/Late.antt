-- X and N in a list: what stood for a sale stands for the one that the call leaves, refused or accepted. Rests on changes's Spared and on memory's Unused.
-- Assumes nothing.
use Rattle.std.specs.Prelude.{ℕ, zero, suc, ◌+◌, ◌*◌, ◌-◌, ◌%◌, ◌<◌, ◌≤◌, ◌≡◌, refl, Bool, true, false, cond, ◌&&◌, List, [], ◌∷◌, length, get_or, ℤ}
use Rattle.std.proofs.Math.Decide.{dec_lt}
use Rattle.std.proofs.Common.{arith, sym, ap, ◌∙◌, subst, ⊎_elim, lt-ltb, le-ltb}
use Rattle.refusal.specs.Number.{number_of, number-above}
use Rattle.refusal.specs.declared.Refusal.{Refusal}
use Rattle.model.specs.Catalogue.{Limits, Hypergraph, vertices, in_sale, capacities}
use Rattle.model.specs.Machine.{Answer, says_j, says_s, says_m, says_b, says_w, says_p, says_a, says_x, says_n, says_no}
use Rattle.model.specs.Sale.{Request, call_x, call_n, Sale, Turn, space_of, turned, turn_under, turn, does_x, does_n, number_for, put, added, changed_at, refuses_x, refuses_n}
use Rattle.model.specs.Report.{refusal, answer_row}
use Rattle.model.specs.Memory.{Tables as MemoryTables, past_marks}
use Rattle.model.specs.Lent.{Two}
use Rattle.laws.specs.Fold.{All}
use Rattle.guarantees.specs.Reached.{Valid, turned-keeps}
use Rattle.index.specs.Indexed.{AllRight, kept_then, kept-wide}
use Rattle.fixed.specs.Starting.{FixedMarked}
use Rattle.connectivity.specs.Matrix.{KeptGains}
use Rattle.connectivity.specs.Set.{kept-gains-trans}
use Rattle.fields.specs.Wrote.{Wrote}
use Rattle.operations.specs.Tables.{Tables, Past}
use Rattle.edit_calls.specs.Steps.{told}
use Rattle.changes.specs.Stands.{Stock, Stands, Turns, all-lots, marks-few}
use Rattle.changes.specs.Spared.{Spared}
use Rattle.changes.specs.Adding.{AskN}
use Rattle.memory.specs.Unused.{memory_of, PastPins, Unused, past-then}
use Rattle.call_list.specs.Point.{Point, GoesOn, Under, CanStep, Went}

-- ---- entries that are not in use
-- fewer of them
past-wide : {m n : ℕ} {a b : List ℕ} → m ≤ n → Past m a b → Past n a b
past-wide l p = record { len = p.len; past = λ i u. p.past i (omega arith) }

gains-wide : {m n k : ℕ} {a b : List ℤ} → m ≤ n → KeptGains m k a b → KeptGains n k a b
gains-wide l g = record { gains-len = g.gains-len; gains-past = g.gains-past; gains-over = λ y j u. g.gains-over y j (omega arith) }

-- from place 8,192 on a mark table keeps what it held
far : (changed : Bool) (old : List ℕ) (i : ℕ) → 8192 ≤ i → past_marks changed old i ≡ get_or old i 0
unfolding past_marks
far true old i l = ap (λ (b : Bool). cond b 0 (get_or old i 0)) (le-ltb i 8192 l)
far false old i l = refl

near : (old : List ℕ) (i : ℕ) → i < 8192 → past_marks true old i ≡ 0
unfolding past_marks
near old i l = ap (λ (b : Bool). cond b 0 (get_or old i 0)) (lt-ltb i 8192 l)

pins-changed : {changed : Bool} {marks marks' : ℕ} {old l l' : List ℕ} → marks ≤ 8192 → PastPins changed marks old l → length l' ≡ length l → ((i : ℕ) → marks' ≤ i → i < 8192 → get_or l' i 0 ≡ 0)
    → ((i : ℕ) → 8192 ≤ i → get_or l' i 0 ≡ get_or l i 0) → PastPins true marks' old l'
pins-changed {changed} {marks} {marks'} {old} {l} {l'} few p len zeros past = record { len = len ∙ p.len; past = λ i a b. go i a b (dec_lt i 8192) }
  where
    go : (i : ℕ) → marks' ≤ i → i < length old → Dec (i < 8192) → get_or l' i 0 ≡ past_marks true old i
    go i a b (yes u) = zeros i a u ∙ sym (near old i u)
    go i a b (no u) = past i (omega arith) ∙ p.past i (omega arith) b ∙ far changed old i (omega arith) ∙ sym (far true old i (omega arith))

unused-changed : {changed : Bool} {marks marks' : ℕ} {old : MemoryTables} {T T' : Tables} {fixed fixed' index index' pins pins' : List ℕ} → Unused changed T.n T.m T.k marks old (memory_of T fixed pins index) → marks ≤ 8192
    → Spared marks' T T' fixed fixed' index index' pins pins' → T.n ≤ T'.n → Unused true T'.n T.m T.k marks' old (memory_of T' fixed' pins' index')
unused-changed {T = T} u few s more = record {
  weights = past-then (past-wide more u.weights) (record { len = s.weights-len; past = s.weights-past });
  blocks = past-then (past-wide more u.blocks) (record { len = s.blocks-len; past = s.blocks-past });
  aboves = past-then (past-wide more u.aboves) (record { len = s.aboves-len; past = s.aboves-past });
  fixed = past-then (past-wide more u.fixed) (record { len = s.fixed-len; past = s.fixed-past });
  loaded_pins = pins-changed few u.loaded_pins s.loaded-len s.loaded-zero s.loaded-past;
  present_pins = pins-changed few u.present_pins s.pins-len s.pins-zero s.pins-past;
  firsts = past-then u.firsts (record { len = s.firsts-len; past = s.firsts-past });
  loaded_sizes = past-then u.loaded_sizes (record { len = s.loadedsizes-len; past = s.loadedsizes-past });
  present_sizes = past-then u.present_sizes (record { len = s.sizes-len; past = s.sizes-past });
  counts-len = s.counts-len ∙ u.counts-len;
  counts = λ e j b o. ⊎_elim (λ q. s.counts-over (16 * e + j) (omega arith)) (λ q. s.counts_past e j q b) o ∙ u.counts e j b o;
  gains = kept-gains-trans (gains-wide more u.gains) s.gains-kept;
  index = kept_then (kept-wide more u.index) s.index_kept;
  visited = past-then u.visited (record { len = s.masks-len; past = s.masks-over });
}

-- ---- refused or accepted
refusal-told : (no : ℕ) (x : Answer) → refusal x ≡ 0 → refusal (told no x) ≡ no
unfolding refusal
refusal-told zero x e = e
refusal-told (suc q) x e = refl

pub refusal-turned : (q : ℕ) (a : Sale) (done : Turn) → refusal done.answer ≡ 0 → refusal (turned q a done).answer ≡ q
unfolding turned refusal
refusal-turned zero a done e = e
refusal-turned (suc q) a done e = refl

-- by the number of its refusal the turn leaves the sale, or what the accepted call does
pub turned-refused : (q : ℕ) (a : Sale) (done : Turn) → 1 ≤ q → (turned q a done).sale ≡ a
unfolding turned
turned-refused zero a done l = absurd (omega arith)
turned-refused (suc q) a done l = refl

turned-changed : (q : ℕ) (a : Sale) (done : Turn) → done.sale.changed ≡ true → q ≡ 0 → (turned q a done).sale.changed ≡ true
unfolding turned
turned-changed zero a done e l = e
turned-changed (suc q) a done e l = absurd (omega arith)

-- what X and N promise, in one: the tables stand for what the turn leaves; a refused call leaves all as it was, and an accepted one what is not in use
pub record Changes (limits : Limits) (t : Turn) (p p' : Point) (no : ℕ) (x : Answer) : Type 0 where
  pub turns : Turns limits t p.stack p'.stock (told no x)
  pub no-refusal : refusal x ≡ 0
  pub same-stack : p'.stack ≡ p.stack
  pub unchanged : 1 ≤ no → p'.stock ≡ p.stock
  pub spared : no ≡ 0 → Spared p'.stock.marks p.stock.tables p'.stock.tables p.stock.fixed p'.stock.fixed p.stock.index p'.stock.index p.stock.pins p'.stock.pins
  pub more : p.stock.tables.n ≤ p'.stock.tables.n
  pub m-same : p'.stock.tables.m ≡ p.stock.tables.m
  pub k-same : p'.stock.tables.k ≡ p.stock.tables.k
  pub right : AllRight p.stock.tables.gains p.stock.tables.blocks p.stock.tables.n p.stock.tables.k p.stock.index
      → AllRight p'.stock.tables.gains p'.stock.tables.blocks p'.stock.tables.n p'.stock.tables.k p'.stock.index
  pub marks : FixedMarked p'.stock.fixed p'.stock.tables.n p'.fixedmarks

pub goes-changed : {limits : Limits} {a : Sale} {old : MemoryTables} {p p' : Point} {no : ℕ} {x : Answer} → GoesOn limits a old p → (q : ℕ) (done : Turn) → refusal done.answer ≡ 0 → done.sale.changed ≡ true
    → Changes limits (turned q a done) p p' no x → GoesOn limits (turned q a done).sale old p'
goes-changed {limits} {a} {old} {p} {p'} {no} {x} g q done r c d = record {
  stands = subst (λ (S : Two). Stands limits (turned q a done).sale S p'.stock) (sym d.same-stack) d.turns.stands;
  marked = d.marks.is (turned q a done).sale.graph (sym (all-lots d.turns.stands)) d.turns.stands.fixed-is;
  right = d.right g.right;
  unused = go no refl;
}
  where
    number : no ≡ q
    number = sym (refusal-told no x d.no-refusal) ∙ ap refusal d.turns.says ∙ refusal-turned q a done r

    Left : Bool → Stock → Type 0
    Left changed K = Unused changed K.tables.n K.tables.m K.tables.k K.marks old (memory_of K.tables K.fixed K.pins K.index)

    few : p.stock.marks ≤ 8192
    few = marks-few g.stands

    go : (n : ℕ) → no ≡ n → Left (turned q a done).sale.changed p'.stock
    go (suc n) e = rw (d.unchanged (omega (arith, e)), turned-refused q a done (omega (arith, e, number))) g.unused
    go zero e = rw (turned-changed q a done c (omega (arith, e, number)), d.m-same, d.k-same) (unused-changed g.unused few (d.spared e) d.more)

-- ---- the two calls
-- an answer that is the turn's: its line has space
pub late-fits : {average lots room at : ℕ} {ceilings : List ℕ} {c : Request} {p : Point} {x : Answer} (k : CanStep average lots ceilings room at c p) → x ≡ (turn k.limits k.a c).answer → at + length (answer_row x) ≤ room
late-fits {at = at} k e = omega (arith, k.fits, ap (λ (y : Answer). at + length (answer_row y)) e)

pub no-X : (total : ℕ) → refusal (says_x total) ≡ 0
unfolding refusal
no-X total = refl

pub no-N : (lot total : ℕ) → refusal (says_n lot total) ≡ 0
unfolding refusal
no-N lot total = refl

pub told_none : (q : ℕ) (x : Answer) → q ≡ 0 → x ≡ told q x
told_none zero x e = refl
told_none (suc q) x e = absurd (omega arith)

pub went-withdraw : {limits : Limits} {a : Sale} {old : MemoryTables} {p p' : Point} {v no total : ℕ} {x : Answer} {out out' : List ℕ} {at at' : ℕ} → GoesOn limits a old p → Changes limits (turn limits a (call_x v)) p p' no (says_x total)
    → x ≡ told no (says_x total) → Wrote out out' at (answer_row x) at' → Went limits a old (call_x v) p' out out' at at'
unfolding turn_under does_x refusal
went-withdraw {a = a} {v = v} {out = out} {out'} {at} {at'} g d e w = record {
  goes = goes-changed g (refuses_x a.graph a.state v) (does_x a v) refl refl d;
  wrote = subst (λ (y : Answer). Wrote out out' at (answer_row y) at') (e ∙ d.turns.says) w;
}

pub went-add : {limits : Limits} {a : Sale} {old : MemoryTables} {p p' : Point} {bales session no lot total : ℕ} {x : Answer} {buyers out out' : List ℕ} {at at' : ℕ} → GoesOn limits a old p
    → Changes limits (turn limits a (call_n bales session buyers)) p p' no (says_n lot total) → x ≡ told no (says_n lot total) → Wrote out out' at (answer_row x) at' → Went limits a old (call_n bales session buyers) p' out out' at at'
unfolding turn_under does_n refusal
went-add {limits} {a} {bales = bales} {session} {buyers = buyers} {out} {out'} {at} {at'} g d e w = record {
  goes = goes-changed g (refuses_n (space_of limits) a.graph (capacities a.graph) a.state bales session buyers) (does_n a bales session buyers) refl refl d;
  wrote = subst (λ (y : Answer). Wrote out out' at (answer_row y) at') (e ∙ d.turns.says) w;
}

-- a refused one leaves what stands for the sale, and the turn leaves the sale
kept-refused : {limits : Limits} {a : Sale} {old : MemoryTables} {p : Point} {K : Stock} (q : ℕ) (done : Turn) (e : Refusal) → GoesOn limits a old p → refusal done.answer ≡ 0 → says_no (number_of e) ≡ (turned q a done).answer → K ≡ p.stock
    → GoesOn limits (turned q a done).sale old (record { stock = K; stack = p.stack; fixedmarks = p.fixedmarks })
unfolding refusal
kept-refused {a = a} q done e g r says k =
    let number : number_of e ≡ q = ap refusal says ∙ refusal-turned q a done r in
    rw (turned-refused q a done (omega (arith, number, number-above e)), k) g

pub refused-withdraw : {limits : Limits} {a : Sale} {old : MemoryTables} {p : Point} {K : Stock} {v : ℕ} {out out' : List ℕ} {at at' : ℕ} → GoesOn limits a old p → (e : Refusal) → Turns limits (turn limits a (call_x v)) p.stack K (says_no (number_of e)) → K ≡ p.stock
    → Wrote out out' at (answer_row (says_no (number_of e))) at' → Went limits a old (call_x v) (record { stock = K; stack = p.stack; fixedmarks = p.fixedmarks }) out out' at at'
unfolding turn_under does_x refusal
refused-withdraw {a = a} {v = v} {out = out} {out'} {at} {at'} g e t k w = record {
  goes = kept-refused (refuses_x a.graph a.state v) (does_x a v) e g refl t.says k;
  wrote = subst (λ (y : Answer). Wrote out out' at (answer_row y) at') t.says w;
}

pub refused-add : {limits : Limits} {a : Sale} {old : MemoryTables} {p : Point} {K : Stock} {bales session : ℕ} {buyers out out' : List ℕ} {at at' : ℕ} → GoesOn limits a old p → (e : Refusal)
    → Turns limits (turn limits a (call_n bales session buyers)) p.stack K (says_no (number_of e)) → K ≡ p.stock
    → Wrote out out' at (answer_row (says_no (number_of e))) at' → Went limits a old (call_n bales session buyers) (record { stock = K; stack = p.stack; fixedmarks = p.fixedmarks }) out out' at at'
unfolding turn_under does_n refusal
refused-add {limits} {a} {bales = bales} {session} {buyers = buyers} {out} {out'} {at} {at'} g e t k w = record {
  goes = kept-refused (refuses_n (space_of limits) a.graph (capacities a.graph) a.state bales session buyers) (does_n a bales session buyers) e g refl t.says k;
  wrote = subst (λ (y : Answer). Wrote out out' at (answer_row y) at') t.says w;
}

-- N at the entry's limit of lots
pub at-limit : {limits : Limits} (a : Sale) (c : Request) {S : Two} {K : Stock} {x : Answer} {lots : ℕ} → lots ≡ limits.vertex_limit → Turns limits (turn_under (record { lots = lots; marks = 8192 }) (capacities a.graph) a c) S K x
    → Turns limits (turn limits a c) S K x
at-limit {limits} a c {S} {K} {x} e = subst (λ (n : ℕ). Turns limits (turn_under (record { lots = n; marks = 8192 }) (capacities a.graph) a c) S K x) e

-- the number of a lot that was added
number_small : (h : Hypergraph) (free : List ℕ) → vertices h ≤ 1024 → All free (λ v. (1 ≤ v) × (v ≤ vertices h) × (in_sale h v ≡ false)) → number_for h free ≤ 1025
unfolding number_for
number_small h [] l s = omega arith
number_small h (v ∷ free) l s = omega (arith, s.0.1)

lot-of : Answer → ℕ
lot-of (says_j w) = 0
lot-of (says_s u v) = 0
lot-of (says_m f d t) = 0
lot-of (says_b v b t) = 0
lot-of (says_w a k t) = 0
lot-of (says_p m t) = 0
lot-of (says_a j a k m t) = 0
lot-of (says_x t) = 0
lot-of (says_n v t) = v
lot-of (says_no q) = 0

-- whatever the number q of its refusal
pub lot-told : {limits : Limits} {a : Sale} (no' lot total bales session : ℕ) (buyers : List ℕ) (q : ℕ) → Valid limits a → limits.vertex_limit ≤ 1024 → told no' (says_n lot total) ≡ (turned q a (does_n a bales session buyers)).answer
    → no' ≡ 0 → lot ≤ 1025
unfolding turned does_n lot-of
lot-told {limits} {a} no' lot total bales session buyers q k few t z = go q (told_none no' (says_n lot total) z ∙ t)
  where
    go : (q : ℕ) → says_n lot total ≡ (turned q a (does_n a bales session buyers)).answer → lot ≤ 1025
    go zero e = omega (arith, ap lot-of e, number_small a.graph a.free (omega (arith, k.ranges.vertices-high)) k.free_in)
    go (suc q) e = omega (arith, ap lot-of e)

pub lot-small : {limits : Limits} {a : Sale} {S : Two} {K : Stock} (no' lot total bales session : ℕ) (buyers : List ℕ) → Valid limits a → limits.vertex_limit ≤ 1024 → Turns limits (turn limits a (call_n bales session buyers)) S K (told no' (says_n lot total))
    → no' ≡ 0 → lot ≤ 1025
unfolding turn_under
lot-small {limits} {a} no' lot total bales session buyers k few t z =
    lot-told no' lot total bales session buyers (refuses_n (space_of limits) a.graph (capacities a.graph) a.state bales session buyers) k few t.says z

-- what `call_add` is told of the sale
pub asks-add : {limits : Limits} {a : Sale} {old : MemoryTables} {p : Point} {average lots : ℕ} {ceilings buyers : List ℕ} → GoesOn limits a old p → Under limits a.graph average lots ceilings
    → AskN limits a p.stack (capacities a.graph) p.stack.len ceilings buyers lots 8192 p.stock
asks-add g u = record { stands = g.stands; joins-are = refl; ceiling-is = u.ceiling-is; ceiling-low = λ b l m. omega arith; lots-low = omega (arith, u.lots-are); marks-low = omega arith }

-- no number is forgotten
put-longer : (l : List ℕ) (i x : ℕ) → length l ≤ length (put l i x)
unfolding put
put-longer [] i x = omega arith
put-longer (y ∷ l) zero x = omega arith
put-longer (y ∷ l) (suc i) x = omega (arith, put-longer l i x)

pub lots-turned : (limits : Limits) (a : Sale) (bales session : ℕ) (buyers : List ℕ) (q : ℕ) → vertices a.graph ≤ vertices (turned q a (does_n a bales session buyers)).sale.graph
unfolding does_n added changed_at
lots-turned limits a bales session buyers q =
    turned-keeps limits (λ b. vertices a.graph ≤ vertices b.graph) q a (does_n a bales session buyers) (omega arith) (λ q. put-longer a.graph.weights (number_for a.graph a.free - 1) bales)

lots-grow : (limits : Limits) (a : Sale) (bales session : ℕ) (buyers : List ℕ) → vertices a.graph ≤ vertices (turn limits a (call_n bales session buyers)).sale.graph
unfolding turn_under
lots-grow limits a bales session buyers = lots-turned limits a bales session buyers (refuses_n (space_of limits) a.graph (capacities a.graph) a.state bales session buyers)

pub added-lots : {limits : Limits} {a : Sale} {S S' : Two} {K K' : Stock} {x : Answer} (bales session : ℕ) (buyers : List ℕ) → Stands limits a S K → Turns limits (turn limits a (call_n bales session buyers)) S' K' x → K.tables.n ≤ K'.tables.n
added-lots {limits} {a} bales session buyers w t = omega (arith, all-lots w, all-lots t.stands, lots-grow limits a bales session buyers)

-- an accepted N's answer
pub told-added : (q lot total : ℕ) → q ≡ 0 → lot ≤ 1025 → says_n (lot % 4294967296) total ≡ told q (says_n lot total)
told-added q lot total e l = let small : lot % 4294967296 ≡ lot = omega arith in ap (λ (v : ℕ). says_n v total) small ∙ told_none q (says_n lot total) e
