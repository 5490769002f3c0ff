-- A vertex put into the table of loaded pins: one net's stretch moved up with the vertex behind it, then all of them, the last first, so that
-- nothing is written over before it is read. Rests on Nets and Columns. Assumes nothing.
use Rattle.std.specs.Prelude.{ℕ, zero, suc, ◌+◌, ◌-◌, ◌≤◌, ◌<◌, ◌≡◌, refl, List, [], ◌∷◌, ◌++◌, length, get_or, take, drop, set}
use Rattle.std.proofs.Common.{add-one, arith, sym, ap, ap₂, ◌∙◌, subst, append_assoc, length-append, length-take, length-drop, length-set, drop_of_length-le, take-take, take-add, drop_at, take_at, get_or-take, get_or-drop, drop-cons, drop-set-lt, length-take-le, get_or-set_same}
use Rattle.std.proofs.lemmas.List.{take-set-le}
use Rattle.laws.specs.Choice.{cond_yes, cond_no}
use Rattle.laws.specs.Sum.{sum, sum-zero, sum_step}
use Rattle.model.specs.Catalogue.{Net}
use Rattle.model.specs.Memory.{all_pins}
use Rattle.renewal.specs.Nets.{tail, tail-length, net_at, nets_with, changed-length, changed-pins, pins-none, pins-from, first_of, first-none, first-all, first-le, first-less, first_more, Stored, Holding, pins-fit, stretch-is}
use Rattle.renewal.specs.Columns.{Wrote, wrote_none, wrote-down}

-- ---- what stands before a place

take-sooner : (a b : ℕ) (l l' : List ℕ) → take b l' ≡ take b l → a ≤ b → take a l' ≡ take a l
take-sooner a b l l' q le = sym (take-take a b l' le) ∙ ap (take a) q ∙ take-take a b l le

take-entry : (b k : ℕ) (l l' : List ℕ) → take b l' ≡ take b l → k < b → get_or l' k 0 ≡ get_or l k 0
take-entry b k l l' q le = sym (get_or-take b l' k 0 le) ∙ ap (λ (r : List ℕ). get_or r k 0) q ∙ get_or-take b l k 0 le

-- a stretch before it
take-stretch : (a p b : ℕ) (l l' : List ℕ) → take b l' ≡ take b l → a + p ≤ b → a ≤ length l → length l' ≡ length l → take p (drop a l') ≡ take p (drop a l)
take-stretch a p b l l' q le fits len =
    sym (drop_at (take a l') (take p (drop a l')) a (length-take-le a l' (omega arith)))
    ∙ ap (drop a) (sym (take-add a p l') ∙ take-sooner (a + p) b l l' q le ∙ take-add a p l)
    ∙ drop_at (take a l) (take p (drop a l)) a (length-take-le a l fits)

-- what a store changes from its place on
drop-set : (l : List ℕ) (i x : ℕ) → i < length l → drop i (set l i x) ≡ x ∷ drop (i + 1) l
drop-set l i x fits =
    drop-cons (set l i x) i 0 (omega (arith, length-set l i x))
    ∙ ap₂ (λ (y : ℕ) (r : List ℕ). y ∷ r) (get_or-set_same l i x 0 fits) (drop-set-lt (suc i) l i x (omega arith) ∙ ap (λ (k : ℕ). drop k l) (sym (add-one i)))

-- ---- one net

-- v stands at `at` where b is 1
pub record Ended (v at b : ℕ) (l l' : List ℕ) : Type 0 where
  pub len : length l' ≡ length l
  pub before : take at l' ≡ take at l
  pub behind : drop at l' ≡ tail b v ++ drop (at + b) l

pub ended-yes : (v at b : ℕ) (l : List ℕ) → b ≡ 1 → at < length l → Ended v at b l (set l at v)
ended-yes v at b l q fits = record {
  len = length-set l at v;
  before = take-set-le at l at v (omega arith);
  behind = drop-set l at v fits ∙ ap₂ (λ (t : List ℕ) (k : ℕ). t ++ drop (at + k) l) (sym (cond_yes b 1 (v ∷ []) [] q)) (sym q);
}

pub ended-no : (v at b : ℕ) (l : List ℕ) → b ≤ 1 → (b ≡ 1 → ⊥) → Ended v at b l l
ended-no v at b l few q =
    let z : at ≡ at + b = omega arith in
    record {
      len = refl;
      before = refl;
      behind = ap (λ (k : ℕ). drop k l) z ∙ ap (λ (t : List ℕ). t ++ drop (at + b) l) (sym (cond_no b 1 (v ∷ []) [] q));
    }

-- of the p pins from `from` on those from i on stand from `to + i` on
pub record Raised (from p to i : ℕ) (l l' : List ℕ) : Type 0 where
  pub len : length l' ≡ length l
  pub before : take (to + i) l' ≡ take (to + i) l
  pub behind : drop (to + i) l' ≡ drop i (take p (drop from l)) ++ drop (to + p) l

pub raised-none : (from p to i : ℕ) (l : List ℕ) → i ≡ p → Raised from p to i l l
raised-none from p to i l q = record {
  len = refl;
  before = refl;
  behind = ap (λ (k : ℕ). drop (to + k) l) q ∙ ap (λ (r : List ℕ). r ++ drop (to + p) l) (sym (ap (λ (k : ℕ). drop k (take p (drop from l))) q ∙ drop_of_length-le (take p (drop from l)) {i = p} (omega (arith, length-take p (drop from l)))));
}

module _ {from p to : ℕ} (i : ℕ) {l l' : List ℕ} (close : from ≤ to) (fits : to + p ≤ length l) (few : i + 1 ≤ p) (s : Raised from p to (i + 1) l l') where
  abbrev moved : ℕ
  moved = get_or l' (from + i) 0

  moved-is : moved ≡ get_or (take p (drop from l)) i 0
  moved-is = take-entry (to + (i + 1)) (from + i) l l' s.before (omega arith) ∙ sym (get_or-take p (drop from l) i 0 (omega arith) ∙ get_or-drop from l i 0)

  pub raised-more : Raised from p to i l (set l' (to + i) moved)
  raised-more =
      let q : to + i + 1 ≡ to + (i + 1) = omega arith in
      let w : suc i ≡ i + 1 = sym (add-one i) in
      record {
        len = length-set l' (to + i) moved ∙ s.len;
        before = take-set-le (to + i) l' (to + i) moved (omega arith) ∙ take-sooner (to + i) (to + (i + 1)) l l' s.before (omega arith);
        behind =
            drop-set l' (to + i) moved (omega (arith, s.len))
            ∙ ap₂ (λ (y : ℕ) (r : List ℕ). y ∷ r) moved-is (ap (λ (k : ℕ). drop k l') q ∙ s.behind)
            ∙ ap (λ (k : ℕ). (get_or (take p (drop from l)) i 0 ∷ drop k (take p (drop from l))) ++ drop (to + p) l) (sym w)
            ∙ ap (λ (r : List ℕ). r ++ drop (to + p) l) (sym (drop-cons (take p (drop from l)) i 0 (omega (arith, length-take p (drop from l), length-drop from l))));
      }

pub raised-step : {from p to i : ℕ} {l l' : List ℕ} → from ≤ to → to + p ≤ length l → 1 ≤ i → i ≤ p → Raised from p to i l l' → Raised from p to (i - 1) l (set l' (to + (i - 1)) (get_or l' (from + (i - 1)) 0))
raised-step {from} {p} {to} {i} {l} {l'} close fits low high s =
    let q : i ≡ i - 1 + 1 = omega arith in
    raised-more (i - 1) close fits (omega arith) (subst (λ (k : ℕ). Raised from p to k l l') q s)

pub raised_all : {from p to i : ℕ} {l l' : List ℕ} → i ≡ 0 → Raised from p to i l l' → Raised from p to 0 l l'
raised_all q s = rw (← q) s

-- the net's p pins from `from` on have come to stand from `to` on, and behind them v where b is 1; what lies before and behind stands as it stood
pub record Grown (v from p to b : ℕ) (l l' : List ℕ) : Type 0 where
  pub len : length l' ≡ length l
  pub before : take to l' ≡ take to l
  pub behind : drop to l' ≡ (take p (drop from l) ++ tail b v) ++ drop (to + p + b) l

pub grown : {v from p to b : ℕ} {l l₁ l' : List ℕ} → from ≤ to → to + p ≤ length l → Ended v (to + p) b l l₁ → Raised from p to 0 l₁ l' → Grown v from p to b l l'
grown {v} {from} {p} {to} {b} {l} {l₁} {l'} close fits d r =
    let z : to + 0 ≡ to = omega arith in
    record {
      len = r.len ∙ d.len;
      before = ap (λ (k : ℕ). take k l') (sym z) ∙ r.before ∙ ap (λ (k : ℕ). take k l₁) z ∙ take-sooner to (to + p) l l₁ d.before (omega arith);
      behind =
          ap (λ (k : ℕ). drop k l') (sym z) ∙ r.behind
          ∙ ap₂ (λ (a b : List ℕ). a ++ b) (take-stretch from p (to + p) l l₁ d.before (omega arith) (omega arith) d.len) d.behind
          ∙ sym (append_assoc (take p (drop from l)) (tail b v) (drop (to + p + b) l));
    }

-- ---- all nets

-- the nets from e on have got v where they are named, and the pins of the others stand where they stood; t is where the net e now begins
pub record Putting (named : List ℕ) (v : ℕ) (ns : List Net) (e t : ℕ) (pins pins' firsts firsts' sizes sizes' : List ℕ) : Type 0 where
  pub t-is : t ≡ first_of (nets_with named v ns) e
  pub yet : take t pins' ≡ take t pins
  pub done : drop t pins' ≡ all_pins (drop e (nets_with named v ns)) ++ drop (length (all_pins (nets_with named v ns))) pins
  pub len : length pins' ≡ length pins
  pub first-told : Wrote e (length ns) (first_of (nets_with named v ns)) firsts firsts'
  pub size-told : Wrote e (length ns) (λ d. length (net_at (nets_with named v ns) d).pins) sizes sizes'

-- the nets that are named, one or none each
abbrev pub Naming : List ℕ → ℕ → Type 0
Naming named m = (m ≤ length named) × ((e : ℕ) → e < m → get_or named e 0 ≤ 1)

module _ (named : List ℕ) (v : ℕ) (ns : List Net) where
  abbrev ns' : List Net
  ns' = nets_with named v ns

  long' : length ns' ≡ length ns
  long' = changed-length (λ e r. r ++ tail (get_or named e 0) v) ns

  pins-at : (e : ℕ) → e < length ns → (net_at ns' e).pins ≡ (net_at ns e).pins ++ tail (get_or named e 0) v
  pins-at = changed-pins (λ e r. r ++ tail (get_or named e 0) v) ns

  size-at : (e : ℕ) → e < length ns → get_or named e 0 ≤ 1 → length (net_at ns' e).pins ≡ length (net_at ns e).pins + get_or named e 0
  size-at e l few = omega (arith, ap length (pins-at e l), length-append (net_at ns e).pins (tail (get_or named e 0) v), tail-length (get_or named e 0) v few)

  -- each begins where it began, or later
  later : ((e : ℕ) → e < length ns → get_or named e 0 ≤ 1) → (e : ℕ) → e ≤ length ns → first_of ns e ≤ first_of ns' e
  later few e l = first-less ns' ns (sym long') (λ d q. omega (arith, size-at d (omega (arith, long')) (few d (omega (arith, long'))))) e (omega (arith, long'))

  pub putting-none : (e t : ℕ) (pins firsts sizes : List ℕ) → e ≡ length ns → t ≡ length (all_pins ns') → Putting named v ns e t pins pins firsts firsts sizes sizes
  putting-none e t pins firsts sizes q w = record {
    t-is = w ∙ sym (first-all ns' e (omega (arith, long')));
    yet = refl;
    done = ap (λ (k : ℕ). drop k pins) w ∙ ap (λ (r : List ℕ). r ++ drop (length (all_pins ns')) pins) (sym (ap all_pins (drop_of_length-le ns' {i = e} (omega (arith, long'))) ∙ pins-none));
    len = refl;
    first-told = rw q (wrote_none (length ns) _ firsts);
    size-told = rw q (wrote_none (length ns) _ sizes);
  }

module _ {named : List ℕ} {v : ℕ} {ns : List Net} (e : ℕ) {t : ℕ} {pins pins' firsts firsts' sizes sizes' : List ℕ} (s : Stored ns pins firsts sizes)
    (fits : length (all_pins (nets_with named v ns)) ≤ length pins) (few : (d : ℕ) → d < length ns → get_or named d 0 ≤ 1)
    (k : Putting named v ns (e + 1) t pins pins' firsts firsts' sizes sizes') (l : e < length ns) where
  abbrev old : Net
  old = net_at ns e

  abbrev nsʹ : List Net
  nsʹ = nets_with named v ns

  pub reads_first : get_or firsts' e 0 ≡ first_of ns e
  reads_first = k.first-told.before e (omega arith) ∙ s.first-is e l

  pub reads-size : get_or sizes' e 0 ≡ length old.pins
  reads-size = k.size-told.before e (omega arith) ∙ s.size_is e l

  -- where the net e comes to begin
  pub begins : t ≡ first_of nsʹ e + (length old.pins + get_or named e 0)
  begins = omega (arith, k.t-is, first_more nsʹ e (omega (arith, long' named v ns)), size-at named v ns e l (few e l))

  pub putting-close : first_of ns e ≤ first_of nsʹ e
  putting-close = later named v ns few e (omega arith)

  pub putting-fits : t ≤ length pins'
  putting-fits = omega (arith, k.t-is, first-le nsʹ (e + 1), fits, k.len)

  module _ {from p to b : ℕ} {pins'' : List ℕ} (from_is : from ≡ get_or firsts' e 0) (p-is : p ≡ get_or sizes' e 0) (b-is : b ≡ get_or named e 0) (to_is : to + (p + b) ≡ t) (c : Grown v from p to b pins' pins'') where
    from_at : from ≡ first_of ns e
    from_at = from_is ∙ reads_first

    p-at : p ≡ length old.pins
    p-at = p-is ∙ reads-size

    to_at : to ≡ first_of nsʹ e
    to_at = omega (arith, begins, to_is, p-at, b-is)

    stretch : take p (drop from pins') ++ tail b v ≡ (net_at nsʹ e).pins
    stretch =
        ap₂ (λ (a r : List ℕ). a ++ r)
        (take-stretch from p t pins pins' k.yet (omega (arith, from_at, p-at, begins, putting-close)) (omega (arith, from_at, first-le ns e, pins-fit s)) k.len ∙ ap₂ (λ (a b : ℕ). take b (drop a pins)) from_at p-at ∙ stretch-is s e l)
        (ap (λ (y : ℕ). tail y v) b-is)
        ∙ sym (pins-at named v ns e l)

    end : to + p + b ≡ t
    end = omega arith

    pub putting-more : {x y : ℕ} → x ≡ to → y ≡ p + b → Putting named v ns e to pins pins'' firsts (set firsts' e x) sizes (set sizes' e y)
    putting-more {x} {y} qx qy = record {
      t-is = to_at;
      yet = c.before ∙ take-sooner to t pins pins' k.yet (omega arith);
      done =
          c.behind
          ∙ ap₂ (λ (a r : List ℕ). a ++ r) stretch (ap (λ (z : ℕ). drop z pins') end ∙ k.done)
          ∙ sym (append_assoc (net_at nsʹ e).pins (all_pins (drop (e + 1) nsʹ)) (drop (length (all_pins nsʹ)) pins))
          ∙ ap (λ (r : List ℕ). r ++ drop (length (all_pins nsʹ)) pins) (sym (pins-from nsʹ e (omega (arith, long' named v ns))));
      len = c.len ∙ k.len;
      first-told = wrote-down k.first-told x l (omega (arith, s.firsts-fit)) (qx ∙ to_at);
      size-told = wrote-down k.size-told y l (omega (arith, s.sizes-fit)) (omega (arith, qy, p-at, b-is, size-at named v ns e l (few e l)));
    }

-- ---- whatever nets the tables held

-- how many pins there are with the vertex put in
abbrev pub total_with : List ℕ → List ℕ → ℕ → ℕ
total_with named sizes m = sum m (λ e. get_or sizes e 0 + get_or named e 0)

-- what `put_in` needs: the tables of some m nets, 0 or 1 for each net, and the new number of pins; the table has room for 8,192
pub record CanPut (named pins firsts sizes : List ℕ) (m total : ℕ) : Type 0 where
  pub holding : Holding pins firsts sizes m
  pub named-fit : m ≤ length named
  pub once : (e : ℕ) → e < m → get_or named e 0 ≤ 1
  pub total-is : total ≡ total_with named sizes m
  pub total-few : total ≤ 8192
  pub pins-long : 8192 ≤ length pins

pub firsts-with : (named : List ℕ) {pins firsts sizes : List ℕ} {ns : List Net} (v : ℕ) → Stored ns pins firsts sizes → ((e : ℕ) → e < length ns → get_or named e 0 ≤ 1) → (e : ℕ) → e ≤ length ns → first_of (nets_with named v ns) e ≡ total_with named sizes e
firsts-with named {ns = ns} v s few zero l = first-none (nets_with named v ns) ∙ sym (sum-zero _)
firsts-with named {sizes = sizes} {ns = ns} v s few (suc e) l = omega (
  arith,
  ap (first_of (nets_with named v ns)) (add-one e),
  first_more (nets_with named v ns) e (omega (arith, long' named v ns)),
  size-at named v ns e (omega arith) (few e (omega arith)),
  s.size_is e (omega arith),
  firsts-with named v s few e (omega arith),
  sum_step e (λ d. get_or sizes d 0 + get_or named d 0),
  ap (total_with named sizes) (add-one e),
)

abbrev pub PuttingAll : List ℕ → ℕ → ℕ → ℕ → ℕ → List ℕ → List ℕ → List ℕ → List ℕ → List ℕ → List ℕ → Type 0
PuttingAll named v m e t pins pins' firsts firsts' sizes sizes' =
    (ns : List Net) → length ns ≡ m → Stored ns pins firsts sizes → Putting named v ns e t pins pins' firsts firsts' sizes sizes'

-- what `spread` does: of whatever m nets the tables held, they hold those with v in the named ones; entries past the nets and places from the new
-- number of pins on stand as they stood
pub record Spread (named : List ℕ) (v m total : ℕ) (pins pins' firsts firsts' sizes sizes' : List ℕ) : Type 0 where
  pub stored : (ns : List Net) → length ns ≡ m → Stored ns pins firsts sizes → Stored (nets_with named v ns) pins' firsts' sizes'
  pub total-is : (ns : List Net) → length ns ≡ m → Stored ns pins firsts sizes → total ≡ length (all_pins (nets_with named v ns))
  pub past : drop total pins' ≡ drop total pins
  pub pins-len : length pins' ≡ length pins
  pub firsts-len : length firsts' ≡ length firsts
  pub sizes-len : length sizes' ≡ length sizes
  pub firsts-past : (i : ℕ) → m ≤ i → get_or firsts' i 0 ≡ get_or firsts i 0
  pub sizes-past : (i : ℕ) → m ≤ i → get_or sizes' i 0 ≡ get_or sizes i 0

module _ {named pins firsts sizes : List ℕ} {m total : ℕ} (o : CanPut named pins firsts sizes m total) where
  each : (ns : List Net) → length ns ≡ m → (e : ℕ) → e < length ns → get_or named e 0 ≤ 1
  each ns q e l = o.once e (omega arith)

  total-at : (v : ℕ) (ns : List Net) → length ns ≡ m → Stored ns pins firsts sizes → total ≡ length (all_pins (nets_with named v ns))
  total-at v ns q s =
      o.total-is ∙ sym (firsts-with named v s (each ns q) m (omega arith)) ∙ first-all (nets_with named v ns) m (omega (arith, long' named v ns))

  pub putting-all-none : (v e t : ℕ) → e ≡ m → t ≡ total → PuttingAll named v m e t pins pins firsts firsts sizes sizes
  putting-all-none v e t qe qt ns q s = putting-none named v ns e t pins firsts sizes (qe ∙ sym q) (qt ∙ total-at v ns q s)

  module _ {v e t : ℕ} {pins' firsts' sizes' : List ℕ} (f : PuttingAll named v m e t pins pins' firsts firsts' sizes sizes') where
    here : Putting named v o.holding.nets e t pins pins' firsts firsts' sizes sizes'
    here = f o.holding.nets o.holding.count o.holding.stored

    pub lengths-kept : (length pins' ≡ length pins) × (length firsts' ≡ length firsts) × (length sizes' ≡ length sizes)
    lengths-kept = (here.len, here.first-told.len, here.size-told.len)

    module _ (d : ℕ) (l : d < m) (down : e ≡ d + 1) where
      pub columns-fit : (d < length firsts') × (d < length sizes') × (d < length named)
      columns-fit = omega (arith, here.first-told.len, here.size-told.len, o.holding.stored.firsts-fit, o.holding.stored.sizes-fit, o.holding.count, o.named-fit)

      lower : PuttingAll named v m (d + 1) t pins pins' firsts firsts' sizes sizes'
      lower ns q s = subst (λ (j : ℕ). Putting named v ns j t pins pins' firsts firsts' sizes sizes') down (f ns q s)

      within : length (all_pins (nets_with named v o.holding.nets)) ≤ length pins
      within = omega (arith, total-at v o.holding.nets o.holding.count o.holding.stored, o.total-few, o.pins-long)

      module _ {from p b : ℕ} (from_is : from ≡ get_or firsts' d 0) (p-is : p ≡ get_or sizes' d 0) (b-is : b ≡ get_or named d 0) where
        -- the stretch and its pin fit before t, behind where it stood
        pub grow-ok : (from + (p + b) ≤ t) × (t ≤ length pins') × (t ≤ 8192) × (b ≤ 1)
        grow-ok =
            let n = o.holding.nets in
            let q = o.holding.count in
            let s = o.holding.stored in
            let k = lower n q s in
            let i : d < length n = omega arith in
            omega (
              arith,
              reads_first d s within (each n q) k i,
              reads-size d s within (each n q) k i,
              begins d s within (each n q) k i,
              putting-close d s within (each n q) k i,
              putting-fits d s within (each n q) k i,
              k.t-is,
              first-le (nets_with named v n) (d + 1),
              total-at v n q s,
              o.total-few,
              o.once d l,
            )

        pub putting-step : {to : ℕ} {pins'' : List ℕ} → to + (p + b) ≡ t → Grown v from p to b pins' pins'' → {x y : ℕ} → x ≡ to → y ≡ p + b → PuttingAll named v m d to pins pins'' firsts (set firsts' d x) sizes (set sizes' d y)
        putting-step to_is c qx qy ns q s =
            putting-more d s (omega (arith, total-at v ns q s, o.total-few, o.pins-long)) (each ns q) (lower ns q s) (omega arith) from_is p-is b-is to_is c qx qy

    pub spread : e ≡ 0 → Spread named v m total pins pins' firsts firsts' sizes sizes'
    spread z = record {
      stored = λ ns q s. let k = f ns q s in let w = whole ns q s in record {
        pins-are = ap (take (length (all_pins (nets_with named v ns)))) w ∙ take_at (all_pins (nets_with named v ns)) _ (length (all_pins (nets_with named v ns))) refl;
        first-is = λ i l. k.first-told.told i (omega arith) (omega (arith, long' named v ns));
        size_is = λ i l. k.size-told.told i (omega arith) (omega (arith, long' named v ns));
        firsts-fit = omega (arith, s.firsts-fit, k.first-told.len, long' named v ns);
        sizes-fit = omega (arith, s.sizes-fit, k.size-told.len, long' named v ns);
      };
      total-is = total-at v;
      past =
          let n = o.holding.nets in
          let q = o.holding.count in
          let s = o.holding.stored in
          let w : total ≡ length (all_pins (nets_with named v n)) = total-at v n q s in
          ap (drop total) (whole n q s) ∙ drop_at (all_pins (nets_with named v n)) _ total (sym w) ∙ ap (λ (j : ℕ). drop j pins) (sym w);
      pins-len = here.len;
      firsts-len = here.first-told.len;
      sizes-len = here.size-told.len;
      firsts-past = λ i l. here.first-told.behind i (omega (arith, o.holding.count));
      sizes-past = λ i l. here.size-told.behind i (omega (arith, o.holding.count));
    }
      where
        whole : (ns : List Net) → length ns ≡ m → Stored ns pins firsts sizes → pins' ≡ all_pins (nets_with named v ns) ++ drop (length (all_pins (nets_with named v ns))) pins
        whole ns q s =
            let k = f ns q s in
            let none : t ≡ 0 = k.t-is ∙ ap (first_of (nets_with named v ns)) z ∙ first-none (nets_with named v ns) in
            ap (λ (j : ℕ). drop j pins') (sym none) ∙ k.done ∙ ap (λ (j : ℕ). all_pins (drop j (nets_with named v ns)) ++ drop (length (all_pins (nets_with named v ns))) pins) z
