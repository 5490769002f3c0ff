-- The calls X and N, refused and accepted. Rests on Stands and Refusal. Assumes nothing.
use Rattle.std.specs.Prelude.{ℕ, zero, suc, ◌+◌, ◌*◌, ◌-◌, ◌<◌, ◌≤◌, ◌≡◌, refl, get_or, set, ℤ}
use Rattle.std.proofs.Common.{arith, ◌∙◌}
use Rattle.std.proofs.Math.Path.{sym, ap, subst}
use mathlib.Core.List.{List, [], ◌∷◌}
use Rattle.std.proofs.Math.ListN.{length, length-set}
use Rattle.refusal.specs.Number.{number_of, number-some}
use Rattle.refusal.specs.declared.Refusal.{Refusal}
use Rattle.model.specs.Catalogue.{Limits, Net, Hypergraph, vertices}
use Rattle.model.specs.Machine.{Answer, says_x, says_no}
use Rattle.model.specs.Memory.{no_net, all_pins}
use Rattle.model.specs.Sale.{Sale, Turn, Space, call_x, turn_under, turned, does_x, withdrawn, changed_at, unmarked, nets_without, refuses_x}
use Rattle.model.specs.Lent.{Two}
use Rattle.guarantees.specs.Ranges.{Ranges}
use Rattle.guarantees.specs.Changed.{vertices-same}
use Rattle.guarantees.specs.Changes.{without-length}
use Rattle.guarantees.specs.Reached.{accepts-X, X-told}
use Rattle.levels.specs.Running.{net_at}
use Rattle.operations.specs.Tables.{Tables, tables}
use Rattle.edit_calls.specs.Steps.{told, told_no}
use Rattle.edit_calls.specs.Start.{Empty}
use Rattle.renewal.specs.Nets.{Stored, changed-weight}
use Rattle.renewal.specs.Nets.{nets_without as taken_nets}
use Rattle.renewal.specs.Clearing.{TakenOut}
use Rattle.reopening.specs.Reopening.{CanReopen}
use Rattle.changes.specs.Nets.{without_is}
use Rattle.change_rules.specs.Free.{free_more}
use Rattle.change_rules.specs.Refusal.{refusal_x, refusal_x-is}
use Rattle.change_rules.specs.Lot.{LotSet}
use Rattle.changes.specs.Spared.{Spared, spared}
use Rattle.changes.specs.Stands.{Stock, stock, Stands, Turns, Renewed, joins-length, all-lots, left-reopens, left-can, left-index, left-runs, left-fixed, left-long}

pub nets-left : (h : Hypergraph) (p : ℕ → ℕ) (v bales session : ℕ) (nets : List Net) → (changed_at h p v bales session nets).nets ≡ nets
unfolding changed_at
nets-left h p v bales session nets = refl

-- ---- X

-- what `withdraw` needs: some sale in which X of the lot v is not refused
pub record CanTake (T : ℕ → Tables) (fixed index pins : List ℕ) (v : ℕ) : Type 0 where
  pub limits : Limits
  pub a : Sale
  pub S : Two
  pub total : ℕ
  pub numbers : List ℕ
  pub len : ℕ
  pub marks : ℕ
  pub J : Two
  pub stands : Stands limits a S (stock (T total) fixed index pins numbers len marks J)
  pub accepted : refuses_x a.graph a.state v ≡ 0

-- what it does: the lot's columns, the loaded marks without it, and all tables anew
pub record Taken (T : ℕ → Tables) (T' : Tables) (fixed fixed' index index' pins pins' : List ℕ) (marks v : ℕ) : Type 0 where
  pub lot : LotSet (v - 1) 0 0 (T 0).weights T'.weights (T 0).blocks T'.blocks (T 0).aboves T'.aboves fixed fixed'
  pub number : ℕ
  pub number_is : number ≡ v
  pub out : TakenOut number (T 0).m marks pins pins' (T 0).firsts T'.firsts (T 0).loaded T'.loaded
  pub renewed : Renewed pins' T'.loaded (T 0).pins T'.pins (T 0).sizes T'.sizes T'.blocks T'.firsts T'.weights (T 0).net_weights (T 0).n (T 0).m (T 0).k marks
      (T 0).bits T'.bits (T 0).counts T'.counts (T 0).visited T'.visited (T 0).gains T'.gains T'.loads index index' T'.total

module _ {limits : Limits} {a : Sale} {S : Two} {K : Stock} (w : Stands limits a S K) (v : ℕ) (q : refuses_x a.graph a.state v ≡ 0) where
  abbrev h : Hypergraph
  h = a.graph

  abbrev p : ℕ → ℕ
  p = a.state.block

  abbrev T : Tables
  T = K.tables

  abbrev nets : List Net
  nets = nets_without v h.nets

  none : a.state.stack ≡ []
  none = (X-told limits a w.valid v q).0

  vl : 1 ≤ v
  vl = (X-told limits a w.valid v q).1

  vk : v ≤ vertices h
  vk = (X-told limits a w.valid v q).2

  later : v ≤ suc (vertices h)
  later = omega (arith, vk)

  -- the lot's place lies within the columns
  pub lot-in : (1 ≤ v) × (v - 1 < length T.weights) × (v - 1 < length T.blocks) × (v - 1 < length T.aboves) × (v - 1 < length K.fixed) × (v - 1 < 1024)
  lot-in = omega (arith, vl, vk, w.valid.ranges.vertices-high, w.short, w.long.weights-long, w.long.blocks-long, w.long.aboves-long, w.long.fixed-long)

  ranges : Ranges limits (changed_at h p v 0 0 nets)
  unfolding does_x withdrawn
  ranges = (accepts-X limits a w.valid v q).ranges

  as_many : length nets ≡ length h.nets
  as_many = without-length v h.nets

  costs : (e : ℕ) → e < length h.nets → (get_or nets e no_net).weight ≡ (net_at h e).weight
  costs e l = ap (λ (r : List Net). (get_or r e no_net).weight) (sym (without_is v h.nets)) ∙ changed-weight (λ _ r. unmarked v r) h.nets e l

  module _ {weights' blocks' aboves' fixed' : List ℕ} (c : LotSet (v - 1) 0 0 T.weights weights' T.blocks blocks' T.aboves aboves' K.fixed fixed')
      {lp' firsts' loaded' : List ℕ} {u total : ℕ} (uv : u ≡ v) (t : TakenOut u T.m total K.pins lp' T.firsts firsts' T.loaded loaded') where
    all-nets : length h.nets ≡ T.m
    all-nets = sym w.runs.sound.follows.says.all-nets

    left-nets : taken_nets u h.nets ≡ nets
    left-nets = ap (λ (x : ℕ). taken_nets x h.nets) uv ∙ without_is v h.nets

    stored : Stored nets lp' firsts' loaded'
    stored = subst (λ (ns : List Net). Stored ns lp' firsts' loaded') left-nets (t.stored h.nets all-nets w.stored)

    total-is : total ≡ length (all_pins nets)
    total-is = t.total h.nets all-nets w.stored ∙ ap (λ (ns : List Net). length (all_pins ns)) left-nets

    n-is : T.n ≡ vertices (changed_at h p v 0 0 nets)
    n-is = all-lots w ∙ sym (vertices-same h p v 0 0 nets vl later vk)

    there : v ≤ vertices (changed_at h p v 0 0 nets)
    there = omega (arith, vk, vertices-same h p v 0 0 nets vl later vk)

    pub take-can : CanReopen lp' loaded' T.pins T.sizes blocks' firsts' weights' T.net_weights T.bits T.counts T.visited T.gains T.loads T.n T.m T.k total
    take-can = left-can w none v 0 0 nets vl later ranges there c n-is stored total-is as_many costs t.pins-len

    pub take-index : 16 * T.n ≤ length K.index
    take-index = left-index w none v 0 0 nets vl later ranges there c n-is stored total-is as_many costs t.pins-len

    module _ {pins' sizes' bits' counts' visited' loads' index' : List ℕ} {gains' : List ℤ} {metric : ℕ}
        (o : Renewed lp' loaded' T.pins pins' T.sizes sizes' blocks' firsts' weights' T.net_weights T.n T.m T.k total T.bits bits' T.counts counts' T.visited visited' T.gains gains' loads' K.index index' metric) where
      abbrev T' : Tables
      T' = tables counts' visited' gains' pins' sizes' bits' blocks' weights' aboves' loads' T.net_weights firsts' loaded' T.n T.m T.k metric

      -- what is not in use
      pub take-spares : Spared total T T' K.fixed fixed' K.index index' K.pins lp'
      take-spares = spared vl (omega (arith, vk, all-lots w)) c o (left-reopens w none v 0 0 nets vl later ranges there c n-is stored total-is as_many costs t.pins-len) t.zero t.past t.pins-len t.firsts-len t.sizes-len t.firsts-past t.sizes-past

      pub take-stands : {numbers' : List ℕ} {len' : ℕ} {J' : Two} → numbers' ≡ set K.numbers K.len v → len' ≡ K.len + 1 → K.len < 512 → Empty J' → Stands limits (does_x a v).sale S (stock T' fixed' index' lp' numbers' len' total J')
      unfolding does_x withdrawn
      take-stands {numbers'} {len'} e l short ej = record {
        narrow = w.narrow;
        short = w.short;
        valid = accepts-X limits a w.valid v q;
        runs = left-runs w none v 0 0 nets vl later ranges there c n-is stored total-is as_many costs t.pins-len o ej;
        stored = stored-now;
        fixed-is = left-fixed w none v 0 0 nets vl later ranges there c n-is stored total-is as_many costs t.pins-len o;
        free-is = free_more K.numbers K.len v (omega (arith, w.free-whole)) e l ∙ ap (λ (f : List ℕ). v ∷ f) w.free-is;
        free-whole = ap length e ∙ length-set K.numbers K.len v ∙ w.free-whole;
        free-short = omega (arith, l);
        marks-are = marks-now;
        long = left-long w none v 0 0 nets vl later ranges there c n-is stored total-is as_many costs t.pins-len o;
      }
        where
          stored-now : Stored (changed_at h p v 0 0 nets).nets lp' firsts' loaded'
          stored-now = subst (λ (ns : List Net). Stored ns lp' firsts' loaded') (sym (nets-left h p v 0 0 nets)) stored

          marks-now : total ≡ length (all_pins (changed_at h p v 0 0 nets).nets)
          marks-now = total-is ∙ ap (λ (ns : List Net). length (all_pins ns)) (sym (nets-left h p v 0 0 nets))

-- ---- the call
pub turned-no : (q : ℕ) (a : Sale) (done : Turn) (x : Answer) → (q ≡ 0 → ⊥) → ((turned q a done).sale ≡ a) × (told q x ≡ (turned q a done).answer)
unfolding turned
turned-no zero a done x n = absurd (n refl)
turned-no (suc q) a done x n = (refl, refl)

pub turned-yes : (q : ℕ) (a : Sale) (done : Turn) → q ≡ 0 → turned q a done ≡ done
unfolding turned
turned-yes zero a done e = refl
turned-yes (suc q) a done e = absurd (omega arith)

-- by a refusal the answer is its number
pub turns_refused : {limits : Limits} {t : Turn} {S : Two} {K : Stock} (e : Refusal) (x : Answer) → Turns limits t S K (told (number_of e) x) → Turns limits t S K (says_no (number_of e))
turns_refused e x t = record { stands = t.stands; says = sym (told_no (number_of e) x (number-some e)) ∙ t.says }

pub turns_told : {limits : Limits} {t : Turn} {S : Two} {K : Stock} (e : Refusal) (x : Answer) → Turns limits t S K (says_no (number_of e)) → Turns limits t S K (told (number_of e) x)
turns_told e x t = record { stands = t.stands; says = told_no (number_of e) x (number-some e) ∙ t.says }

module _ {limits : Limits} {a : Sale} {S : Two} {K : Stock} (w : Stands limits a S K) {joins : ℕ} (e : joins ≡ S.len) {no : ℕ} (v : ℕ) (r : no ≡ refusal_x K.tables.blocks K.tables.n joins v) where
  same-no : no ≡ refuses_x a.graph a.state v
  same-no = r ∙ refusal_x-is a.state w.runs.sound joins (e ∙ joins-length w) v

  pub accepted-X : no ≡ 0 → refuses_x a.graph a.state v ≡ 0
  accepted-X z = sym same-no ∙ z

  pub refused-X : (no ≡ 0 → ⊥) → (space : Space) (ceiling : ℕ → ℕ) (x : Answer) → Turns limits (turn_under space ceiling a (call_x v)) S K (told no x)
  unfolding turn_under
  refused-X n space ceiling x =
      let t = turned-no (refuses_x a.graph a.state v) a (does_x a v) x (λ z. n (same-no ∙ z)) in
      record {
        stands = subst (λ (b : Sale). Stands limits b S K) (sym t.0) w;
        says = ap (λ (q : ℕ). told q x) same-no ∙ t.1;
      }

  pub done-X : {K' : Stock} → no ≡ 0 → Stands limits (does_x a v).sale S K' → (space : Space) (ceiling : ℕ → ℕ) → Turns limits (turn_under space ceiling a (call_x v)) S K' (says_x K'.tables.total)
  unfolding turn_under does_x
  done-X {K'} z k space ceiling =
      let t = turned-yes (refuses_x a.graph a.state v) a (does_x a v) (accepted-X z) in
      record {
        stands = subst (λ (b : Turn). Stands limits b.sale S K') (sym t) k;
        says = ap says_x k.runs.sound.total-is ∙ sym (ap (λ (b : Turn). b.answer) t);
      }
