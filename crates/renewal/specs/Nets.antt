-- The nets without a vertex, and the nets with a vertex put at the end of those that are named; where a net's pins begin, and the tables that
-- hold nets: all pins from the start on without gaps, first places, sizes. Rests on model's Memory. Assumes nothing.
use Rattle.std.specs.Prelude.{ℕ, zero, suc, ◌+◌, ◌-◌, ◌≤◌, ◌<◌, ◌≡◌, refl, Bool, true, false, cond, List, [], ◌∷◌, ◌++◌, eqb, length, get_or, take, drop}
use Rattle.std.proofs.Math.Decide.{dec_lt}
use Rattle.std.proofs.Common.{add-one, arith, sym, ap, ap₂, ◌∙◌, append_assoc, append-nil, length-append, length-take, take-append-drop, take-suc, drop-cons, take_at, drop_at, take_all}
use Rattle.laws.specs.Sum.{sum_to, sum_to-suc, sum_to-nil}
use Rattle.model.specs.Catalogue.{Net, Hypergraph}
use Rattle.model.specs.Memory.{no_net, net, all_pins, first_place}
use Rattle.model.specs.Sale.{unmarked}

-- ---- lists of pins

pub without-none : (v : ℕ) → unmarked v [] ≡ []
unfolding unmarked
without-none v = refl

pub without_more : (v : ℕ) (l : List ℕ) (x : ℕ) → unmarked v (l ++ (x ∷ [])) ≡ unmarked v l ++ cond (eqb x v) [] (x ∷ [])
unfolding unmarked
without_more v [] x = refl
without_more v (y ∷ l) x = go (eqb y v) (without_more v l x)
  where
    go : (b : Bool) → unmarked v (l ++ (x ∷ [])) ≡ unmarked v l ++ cond (eqb x v) [] (x ∷ []) → cond b (unmarked v (l ++ (x ∷ []))) (y ∷ unmarked v (l ++ (x ∷ []))) ≡ cond b (unmarked v l) (y ∷ unmarked v l) ++ cond (eqb x v) [] (x ∷ [])
    go true more = more
    go false more = ap (λ (r : List ℕ). y ∷ r) more

pub without-le : (v : ℕ) (l : List ℕ) → length (unmarked v l) ≤ length l
unfolding unmarked
without-le v [] = omega arith
without-le v (x ∷ l) = go (eqb x v) (without-le v l)
  where
    go : (b : Bool) → length (unmarked v l) ≤ length l → length (cond b (unmarked v l) (x ∷ unmarked v l)) ≤ suc (length l)
    go true q = omega arith
    go false q = omega arith

-- what is put behind a net's pins: the vertex where b is 1, else nothing
abbrev pub tail : ℕ → ℕ → List ℕ
tail b v = cond (eqb b 1) (v ∷ []) []

pub tail-length : (b v : ℕ) → b ≤ 1 → length (tail b v) ≡ b
tail-length zero v l = refl
tail-length (suc zero) v l = refl
tail-length (suc (suc b)) v l = absurd (omega arith)

-- ---- nets

-- the net e, from 0
abbrev pub net_at : List Net → ℕ → Net
net_at ns e = get_or ns e no_net

-- the nets with other pins, by what f makes of those of the net e
unfoldable pub changed : (ℕ → List ℕ → List ℕ) → List Net → List Net
changed f [] = []
changed f (n ∷ ns) = record { weight = n.weight; pins = f 0 n.pins } ∷ changed (λ e. f (suc e)) ns

-- every net without the vertex
abbrev pub nets_without : ℕ → List Net → List Net
nets_without v ns = changed (λ _ l. unmarked v l) ns

-- the vertex behind the pins of each net that `named` has a 1 for
abbrev pub nets_with : List ℕ → ℕ → List Net → List Net
nets_with named v ns = changed (λ e l. l ++ tail (get_or named e 0) v) ns

pub changed-length : (f : ℕ → List ℕ → List ℕ) (ns : List Net) → length (changed f ns) ≡ length ns
unfolding changed
changed-length f [] = refl
changed-length f (n ∷ ns) = ap suc (changed-length (λ e. f (suc e)) ns)

pub changed-pins : (f : ℕ → List ℕ → List ℕ) (ns : List Net) (e : ℕ) → e < length ns → (net_at (changed f ns) e).pins ≡ f e (net_at ns e).pins
unfolding changed
changed-pins f [] e l = absurd (omega arith)
changed-pins f (n ∷ ns) zero l = refl
changed-pins f (n ∷ ns) (suc e) l = changed-pins (λ e. f (suc e)) ns e (omega arith)

pub changed-weight : (f : ℕ → List ℕ → List ℕ) (ns : List Net) (e : ℕ) → e < length ns → (net_at (changed f ns) e).weight ≡ (net_at ns e).weight
unfolding changed
changed-weight f [] e l = absurd (omega arith)
changed-weight f (n ∷ ns) zero l = refl
changed-weight f (n ∷ ns) (suc e) l = changed-weight (λ e. f (suc e)) ns e (omega arith)

-- ---- where a net's pins begin

pub pins-append : (xs ys : List Net) → all_pins (xs ++ ys) ≡ all_pins xs ++ all_pins ys
unfolding all_pins
pins-append [] ys = refl
pins-append (x ∷ xs) ys = ap (λ (l : List ℕ). x.pins ++ l) (pins-append xs ys) ∙ sym (append_assoc x.pins (all_pins xs) (all_pins ys))

pub pins-none : all_pins [] ≡ []
unfolding all_pins
pins-none = refl

pub pins-cons : (n : Net) (ns : List Net) → all_pins (n ∷ ns) ≡ n.pins ++ all_pins ns
unfolding all_pins
pins-cons n ns = refl

-- the first place of the net e: behind the pins of the nets before it
abbrev pub first_of : List Net → ℕ → ℕ
first_of ns e = length (all_pins (take e ns))

pub first-none : (ns : List Net) → first_of ns 0 ≡ 0
first-none ns = ap length pins-none

pub first-all : (ns : List Net) (e : ℕ) → length ns ≤ e → first_of ns e ≡ length (all_pins ns)
first-all ns e l = ap (λ (s : List Net). length (all_pins s)) (take_all e ns l)

-- the pins of one net more
pub pins-more : (ns : List Net) (e : ℕ) → e < length ns → all_pins (take (e + 1) ns) ≡ all_pins (take e ns) ++ (net_at ns e).pins
pins-more ns e l =
    ap (λ (k : ℕ). all_pins (take k ns)) (add-one e)
    ∙ ap all_pins (take-suc ns e no_net l)
    ∙ pins-append (take e ns) (net_at ns e ∷ [])
    ∙ ap (λ (r : List ℕ). all_pins (take e ns) ++ r) (pins-cons (net_at ns e) [] ∙ ap (λ (r : List ℕ). (net_at ns e).pins ++ r) pins-none ∙ append-nil (net_at ns e).pins)

pub first_more : (ns : List Net) (e : ℕ) → e < length ns → first_of ns (e + 1) ≡ first_of ns e + length (net_at ns e).pins
first_more ns e l = ap length (pins-more ns e l) ∙ length-append (all_pins (take e ns)) (net_at ns e).pins

-- the pins from the net e on
pub pins-from : (ns : List Net) (e : ℕ) → e < length ns → all_pins (drop e ns) ≡ (net_at ns e).pins ++ all_pins (drop (e + 1) ns)
pins-from ns e l =
    ap all_pins (drop-cons ns e no_net l) ∙ pins-cons (net_at ns e) (drop (suc e) ns)
    ∙ ap (λ (k : ℕ). (net_at ns e).pins ++ all_pins (drop k ns)) (sym (add-one e))

pub pins-split : (ns : List Net) (e : ℕ) → all_pins ns ≡ all_pins (take e ns) ++ all_pins (drop e ns)
pins-split ns e = ap all_pins (sym (take-append-drop e ns)) ∙ pins-append (take e ns) (drop e ns)

pub first-le : (ns : List Net) (e : ℕ) → first_of ns e ≤ length (all_pins ns)
first-le ns e = omega (arith, ap length (pins-split ns e), length-append (all_pins (take e ns)) (all_pins (drop e ns)))

-- fewer pins in each net, and so before each
pub first-less : (ns ns' : List Net) → length ns' ≡ length ns → ((e : ℕ) → e < length ns → length (net_at ns' e).pins ≤ length (net_at ns e).pins) → (e : ℕ) → e ≤ length ns → first_of ns' e ≤ first_of ns e
first-less ns ns' q le zero l = omega (arith, first-none ns, first-none ns')
first-less ns ns' q le (suc e) l = omega (
  arith,
  ap (first_of ns) (add-one e),
  ap (first_of ns') (add-one e),
  first_more ns e (omega arith),
  first_more ns' e (omega arith),
  le e (omega arith),
  first-less ns ns' q le e (omega arith),
)

-- document 01's first place
pub first-place : (h : Hypergraph) (e : ℕ) → e ≤ length h.nets → first_place h (suc e) ≡ first_of h.nets e
unfolding first_place
first-place h zero l = let z : suc zero - 1 ≡ 0 = omega arith in ap (λ (k : ℕ). sum_to k (λ d. length (net h d).pins)) z ∙ sum_to-nil 0 _ (λ i a b. absurd (omega arith)) ∙ sym (first-none h.nets)
first-place h (suc e) l =
    let z : suc (suc e) - 1 ≡ suc e = omega arith in
    let y : suc e - 1 ≡ e = omega arith in
    ap (λ (k : ℕ). sum_to k (λ d. length (net h d).pins)) z
    ∙ sum_to-suc e (λ d. length (net h d).pins)
    ∙ ap₂ (λ (a b : ℕ). a + b) (ap (λ (k : ℕ). sum_to k (λ d. length (net h d).pins)) (sym y) ∙ first-place h e (omega arith)) (ap (λ (k : ℕ). length (net_at h.nets k).pins) y)
    ∙ sym (first_more h.nets e (omega arith))
    ∙ ap (first_of h.nets) (add-one e)

-- ---- the tables

-- all pins of the nets from the table's start on, without gaps; each net's first place and how many pins it has
pub record Stored (ns : List Net) (pins firsts sizes : List ℕ) : Type 0 where
  pub pins-are : take (length (all_pins ns)) pins ≡ all_pins ns
  pub first-is : (e : ℕ) → e < length ns → get_or firsts e 0 ≡ first_of ns e
  pub size_is : (e : ℕ) → e < length ns → get_or sizes e 0 ≡ length (net_at ns e).pins
  pub firsts-fit : length ns ≤ length firsts
  pub sizes-fit : length ns ≤ length sizes

-- they are those of some m nets, with no more pins than document 01 allows
pub record Holding (pins firsts sizes : List ℕ) (m : ℕ) : Type 0 where
  pub nets : List Net
  pub count : length nets ≡ m
  pub stored : Stored nets pins firsts sizes
  pub few : length (all_pins nets) ≤ 8192

module _ {ns : List Net} {pins firsts sizes : List ℕ} (s : Stored ns pins firsts sizes) where
  pub pins-fit : length (all_pins ns) ≤ length pins
  pins-fit = omega (arith, ap length s.pins-are, length-take (length (all_pins ns)) pins)

  -- the table is the pins, and what lies behind them
  pub split-pins : pins ≡ all_pins ns ++ drop (length (all_pins ns)) pins
  split-pins = sym (take-append-drop (length (all_pins ns)) pins) ∙ ap (λ (l : List ℕ). l ++ drop (length (all_pins ns)) pins) s.pins-are

  -- a net's stretch ends within all pins
  pub stretch-fit : (e : ℕ) → e < length ns → first_of ns e + length (net_at ns e).pins ≤ length (all_pins ns)
  stretch-fit e l = omega (arith, first_more ns e l, first-le ns (e + 1))

  -- and holds its pins
  pub stretch-is : (e : ℕ) → e < length ns → take (length (net_at ns e).pins) (drop (first_of ns e) pins) ≡ (net_at ns e).pins
  stretch-is e l =
      ap (λ (t : List ℕ). take (length (net_at ns e).pins) (drop (first_of ns e) t)) parted
      ∙ ap (take (length (net_at ns e).pins)) (drop_at (all_pins (take e ns)) ((net_at ns e).pins ++ (all_pins (drop (e + 1) ns) ++ drop (length (all_pins ns)) pins)) (first_of ns e) refl)
      ∙ take_at (net_at ns e).pins (all_pins (drop (e + 1) ns) ++ drop (length (all_pins ns)) pins) (length (net_at ns e).pins) refl
    where
      over : List ℕ
      over = drop (length (all_pins ns)) pins

      parted : pins ≡ all_pins (take e ns) ++ ((net_at ns e).pins ++ (all_pins (drop (e + 1) ns) ++ drop (length (all_pins ns)) pins))
      parted =
          split-pins
          ∙ ap (λ (l : List ℕ). l ++ over) (pins-split ns e ∙ ap (λ (l : List ℕ). all_pins (take e ns) ++ l) (pins-from ns e l))
          ∙ append_assoc (all_pins (take e ns)) ((net_at ns e).pins ++ all_pins (drop (e + 1) ns)) over
          ∙ ap (λ (l : List ℕ). all_pins (take e ns) ++ l) (append_assoc (net_at ns e).pins (all_pins (drop (e + 1) ns)) over)

-- a later net begins no earlier
pub first-grows : (ns : List Net) (a b : ℕ) → a ≤ b → b ≤ length ns → first_of ns a ≤ first_of ns b
first-grows ns a zero l u = let z : a ≡ zero = omega arith in omega (arith, ap (first_of ns) z)
first-grows ns a (suc b) l u = go (dec_lt a (suc b)) (λ k. first-grows ns a b k (omega arith))
  where
    go : Dec (a < suc b) → (a ≤ b → first_of ns a ≤ first_of ns b) → first_of ns a ≤ first_of ns (suc b)
    go (yes k) ih = omega (arith, ih (omega arith), first_more ns b (omega arith), ap (first_of ns) (add-one b))
    go (no k) ih = let z : a ≡ suc b = omega arith in omega (arith, ap (first_of ns) z)
