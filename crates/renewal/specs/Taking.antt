-- A vertex taken out of the table of loaded pins: one net's stretch closed up, then all of them in one pass. Rests on Nets and Columns. Assumes nothing.
use Rattle.std.specs.Prelude.{ℕ, suc, ◌+◌, ◌-◌, ◌≤◌, ◌<◌, ◌≡◌, refl, Bool, true, false, cond, List, [], ◌∷◌, ◌++◌, eqb, length, get_or, take, drop, set}
use Rattle.std.proofs.Common.{add-one, arith, sym, ap, ap₂, ◌∙◌, append_assoc, append-nil, length-append, length-take, length-drop, length-set, take-suc, take-suc-set, drop-set-lt, get_or-drop, drop-drop, take_all}
use Rattle.std.proofs.lemmas.List.{take-set-le}
use Rattle.model.specs.Catalogue.{Net}
use Rattle.model.specs.Memory.{all_pins}
use Rattle.model.specs.Sale.{unmarked}
use Rattle.renewal.specs.Nets.{without-none, without_more, without-le, net_at, nets_without, changed-length, changed-pins, pins-none, first_of, first-none, first-all, first_more, first-less, pins-more, Stored, Holding, pins-fit, stretch-fit, stretch-is}
use Rattle.renewal.specs.Columns.{Wrote, wrote_none, wrote-up}

-- ---- what stands from a place on

pub drop-later : (a b : ℕ) (l l' : List ℕ) → drop a l' ≡ drop a l → a ≤ b → drop b l' ≡ drop b l
drop-later a b l l' q le =
    let e : a + (b - a) ≡ b = omega arith in
    ap (λ (k : ℕ). drop k l') (sym e) ∙ sym (drop-drop (b - a) a l') ∙ ap (drop (b - a)) q ∙ drop-drop (b - a) a l ∙ ap (λ (k : ℕ). drop k l) e

pub drop-entry : (a k : ℕ) (l l' : List ℕ) → drop a l' ≡ drop a l → a ≤ k → get_or l' k 0 ≡ get_or l k 0
drop-entry a k l l' q le =
    let e : a + (k - a) ≡ k = omega arith in
    ap (λ (i : ℕ). get_or l' i 0) (sym e) ∙ sym (get_or-drop a l' (k - a) 0) ∙ ap (λ (r : List ℕ). get_or r (k - a) 0) q ∙ get_or-drop a l (k - a) 0 ∙ ap (λ (i : ℕ). get_or l i 0) e

-- ---- one net

-- the p pins from `from` on unmarked v have come to stand from `to` on, r in all; what lies before `to` and behind the stretch stands as it stood
pub record Squeezed (v from p to : ℕ) (l l' : List ℕ) (r : ℕ) : Type 0 where
  pub len : length l' ≡ length l
  pub r-is : r ≡ length (unmarked v (take p (drop from l)))
  pub closed : take (to + r) l' ≡ take to l ++ unmarked v (take p (drop from l))
  pub rest : drop (from + p) l' ≡ drop (from + p) l

pub squeezed-none : (v from to : ℕ) (l : List ℕ) → Squeezed v from 0 to l l 0
squeezed-none v from to l =
    let z : to + 0 ≡ to = omega arith in
    record {
      len = refl;
      r-is = sym (ap length (without-none v));
      closed = ap (λ (k : ℕ). take k l) z ∙ sym (append-nil (take to l)) ∙ ap (λ (w : List ℕ). take to l ++ w) (sym (without-none v));
      rest = refl;
    }

pub squeezed-all : {v from i p to j : ℕ} {l l' : List ℕ} → i ≡ p → Squeezed v from i to l l' j → Squeezed v from p to l l' j
squeezed-all q s = rw (← q) s

module _ {v from i to j : ℕ} {l l' : List ℕ} (s : Squeezed v from i to l l' j) where
  pub written-le : j ≤ i
  written-le = omega (arith, s.r-is, without-le v (take i (drop from l)), length-take i (drop from l))

  module _ {x j' : ℕ} (close : to ≤ from) (fits : from + i < length l) (x-is : x ≡ get_or l' (from + i) 0) (j-is : j' ≡ cond (eqb x v) j (j + 1)) where
    abbrev front : List ℕ
    front = unmarked v (take i (drop from l))

    one_more : unmarked v (take (i + 1) (drop from l)) ≡ front ++ cond (eqb x v) [] (x ∷ [])
    one_more =
        let e : get_or (drop from l) i 0 ≡ x = get_or-drop from l i 0 ∙ sym (drop-entry (from + i) (from + i) l l' s.rest (omega arith)) ∙ sym x-is in
        ap (λ (k : ℕ). unmarked v (take k (drop from l))) (add-one i)
        ∙ ap (unmarked v) (take-suc (drop from l) i 0 (omega (arith, length-drop from l)))
        ∙ without_more v (take i (drop from l)) (get_or (drop from l) i 0)
        ∙ ap (λ (y : ℕ). front ++ cond (eqb y v) [] (y ∷ [])) e

    -- the pin at i kept or passed over
    step : (b : Bool) → (cond b j (j + 1) ≡ length (front ++ cond b [] (x ∷ []))) × (take (to + cond b j (j + 1)) (set l' (to + j) x) ≡ take to l ++ (front ++ cond b [] (x ∷ [])))
    step true = (
      s.r-is ∙ ap length (sym (append-nil front)),
      take-set-le (to + j) l' (to + j) x (omega arith) ∙ s.closed ∙ ap (λ (w : List ℕ). take to l ++ w) (sym (append-nil front)),
    )
    step false =
        let q : to + (j + 1) ≡ suc (to + j) = omega arith in (
          omega (arith, s.r-is, length-append front (x ∷ [])),
          ap (λ (k : ℕ). take k (set l' (to + j) x)) q
              ∙ take-suc-set l' (to + j) x (omega (arith, written-le, s.len))
              ∙ ap (λ (w : List ℕ). w ++ (x ∷ [])) s.closed
              ∙ append_assoc (take to l) front (x ∷ []),
        )

    pub squeezed-more : Squeezed v from (i + 1) to l (set l' (to + j) x) j'
    squeezed-more = record {
      len = length-set l' (to + j) x ∙ s.len;
      r-is = j-is ∙ (step (eqb x v)).0 ∙ ap length (sym one_more);
      closed = ap (λ (k : ℕ). take (to + k) (set l' (to + j) x)) j-is ∙ (step (eqb x v)).1 ∙ ap (λ (w : List ℕ). take to l ++ w) (sym one_more);
      rest = drop-set-lt (from + (i + 1)) l' (to + j) x (omega (arith, written-le)) ∙ drop-later (from + i) (from + (i + 1)) l l' s.rest (omega arith);
    }

-- ---- all nets

-- the nets below e are unmarked v, t pins in all, and the pins of the others stand where they stood
pub record Taking (v : ℕ) (ns : List Net) (e t : ℕ) (pins pins' firsts firsts' sizes sizes' : List ℕ) : Type 0 where
  pub t-is : t ≡ first_of (nets_without v ns) e
  pub done : take t pins' ≡ all_pins (take e (nets_without v ns))
  pub rest : drop (first_of ns e) pins' ≡ drop (first_of ns e) pins
  pub len : length pins' ≡ length pins
  pub first-told : Wrote 0 e (first_of (nets_without v ns)) firsts firsts'
  pub size-told : Wrote 0 e (λ d. length (net_at (nets_without v ns) d).pins) sizes sizes'

pub taking-none : (v : ℕ) (ns : List Net) (pins firsts sizes : List ℕ) → Taking v ns 0 0 pins pins firsts firsts sizes sizes
taking-none v ns pins firsts sizes = record {
  t-is = sym (first-none (nets_without v ns));
  done = sym pins-none;
  rest = refl;
  len = refl;
  first-told = wrote_none 0 _ firsts;
  size-told = wrote_none 0 _ sizes;
}

module _ {v : ℕ} {ns : List Net} {e t : ℕ} {pins pins' firsts firsts' sizes sizes' : List ℕ} (s : Stored ns pins firsts sizes)
    (k : Taking v ns e t pins pins' firsts firsts' sizes sizes') (l : e < length ns) where
  abbrev ns' : List Net
  ns' = nets_without v ns

  long' : length ns' ≡ length ns
  long' = changed-length (λ _ r. unmarked v r) ns

  pub reads_first : get_or firsts' e 0 ≡ first_of ns e
  reads_first = k.first-told.behind e (omega arith) ∙ s.first-is e l

  pub reads-size : get_or sizes' e 0 ≡ length (net_at ns e).pins
  reads-size = k.size-told.behind e (omega arith) ∙ s.size_is e l

  -- what is written stays before what is read
  pub taking-close : t ≤ first_of ns e
  taking-close = omega (arith, k.t-is, first-less ns ns' long' (λ d q. omega (arith, ap length (changed-pins (λ _ r. unmarked v r) ns d q), without-le v (net_at ns d).pins)) e (omega arith))

  pub taking-fits : first_of ns e + length (net_at ns e).pins ≤ length pins'
  taking-fits = omega (arith, stretch-fit s e l, pins-fit s, k.len)

  module _ {from p r : ℕ} {pins'' : List ℕ} (from_is : from ≡ get_or firsts' e 0) (p-is : p ≡ get_or sizes' e 0) (c : Squeezed v from p t pins' pins'' r) where
    from_at : from ≡ first_of ns e
    from_at = from_is ∙ reads_first

    p-at : p ≡ length (net_at ns e).pins
    p-at = p-is ∙ reads-size

    stretch : unmarked v (take p (drop from pins')) ≡ (net_at ns' e).pins
    stretch =
        ap₂ (λ (a b : ℕ). unmarked v (take b (drop a pins'))) from_at p-at
        ∙ ap (λ (w : List ℕ). unmarked v (take (length (net_at ns e).pins) w)) k.rest
        ∙ ap (unmarked v) (stretch-is s e l)
        ∙ sym (changed-pins (λ _ r. unmarked v r) ns e l)

    r-at : r ≡ length (net_at ns' e).pins
    r-at = c.r-is ∙ ap length stretch

    end : from + p ≡ first_of ns (e + 1)
    end = omega (arith, from_at, p-at, first_more ns e l)

    pub taking-more : {x y : ℕ} → x ≡ t → y ≡ r → Taking v ns (e + 1) (t + r) pins pins'' firsts (set firsts' e x) sizes (set sizes' e y)
    taking-more {x} {y} qx qy = record {
      t-is = omega (arith, k.t-is, r-at, first_more ns' e (omega (arith, long')));
      done = c.closed ∙ ap₂ (λ (a b : List ℕ). a ++ b) k.done stretch ∙ sym (pins-more ns' e (omega (arith, long')));
      rest =
          ap (λ (z : ℕ). drop z pins'') (sym end) ∙ c.rest ∙ drop-later from (from + p) pins pins' (ap (λ (z : ℕ). drop z pins') from_at ∙ k.rest ∙ ap (λ (z : ℕ). drop z pins) (sym from_at)) (omega arith)
          ∙ ap (λ (z : ℕ). drop z pins) end;
      len = c.len ∙ k.len;
      first-told = wrote-up k.first-told x (omega arith) (omega (arith, s.firsts-fit)) (qx ∙ k.t-is);
      size-told = wrote-up k.size-told y (omega arith) (omega (arith, s.sizes-fit)) (qy ∙ r-at);
    }

-- the same for whatever m nets the tables held
abbrev pub TakingAll : ℕ → ℕ → ℕ → ℕ → List ℕ → List ℕ → List ℕ → List ℕ → List ℕ → List ℕ → Type 0
TakingAll v m e t pins pins' firsts firsts' sizes sizes' =
    (ns : List Net) → length ns ≡ m → Stored ns pins firsts sizes → Taking v ns e t pins pins' firsts firsts' sizes sizes'

module _ {v m e t : ℕ} {pins pins' firsts firsts' sizes sizes' : List ℕ} (o : Holding pins firsts sizes m) (f : TakingAll v m e t pins pins' firsts firsts' sizes sizes') where
  here : Taking v o.nets e t pins pins' firsts firsts' sizes sizes'
  here = f o.nets o.count o.stored

  pub lengths-kept : (length pins' ≡ length pins) × (length firsts' ≡ length firsts) × (length sizes' ≡ length sizes)
  lengths-kept = (here.len, here.first-told.len, here.size-told.len)

  module _ (l : e < m) where
    inside : e < length o.nets
    inside = omega (arith, o.count)

    pub columns-fit : (e < length firsts') × (e < length sizes')
    columns-fit = omega (arith, here.first-told.len, here.size-told.len, o.stored.firsts-fit, o.stored.sizes-fit, o.count)

    module _ {from p : ℕ} (from_is : from ≡ get_or firsts' e 0) (p-is : p ≡ get_or sizes' e 0) where
      pub squeeze_ok : (t ≤ from) × (from + p ≤ length pins') × (from + p ≤ 8192)
      squeeze_ok = omega (
        arith,
        reads_first o.stored here inside,
        reads-size o.stored here inside,
        taking-close o.stored here inside,
        taking-fits o.stored here inside,
        stretch-fit o.stored e inside,
        o.few,
      )

      module _ {r : ℕ} {pins'' : List ℕ} (c : Squeezed v from p t pins' pins'' r) where
        pub total-small : t + r ≤ 8192
        total-small = omega (arith, written-le c, squeeze_ok)

        pub taking_step : {x y : ℕ} → x ≡ t → y ≡ r → TakingAll v m (e + 1) (t + r) pins pins'' firsts (set firsts' e x) sizes (set sizes' e y)
        taking_step qx qy ns q s = taking-more s (f ns q s) (omega arith) from_is p-is c qx qy

-- what `close_up` does: of whatever m nets the tables held, they hold those unmarked v, r pins in all; entries past the nets and places from the
-- old number of pins on stand as they stood
pub record ClosedUp (v m r : ℕ) (pins pins' firsts firsts' sizes sizes' : List ℕ) : Type 0 where
  pub stored : (ns : List Net) → length ns ≡ m → Stored ns pins firsts sizes → Stored (nets_without v ns) pins' firsts' sizes'
  pub total : (ns : List Net) → length ns ≡ m → Stored ns pins firsts sizes → r ≡ length (all_pins (nets_without v ns))
  pub past : (ns : List Net) → length ns ≡ m → Stored ns pins firsts sizes → drop (length (all_pins ns)) pins' ≡ drop (length (all_pins ns)) pins
  pub pins-len : length pins' ≡ length pins
  pub firsts-len : length firsts' ≡ length firsts
  pub sizes-len : length sizes' ≡ length sizes
  pub firsts-past : (i : ℕ) → m ≤ i → get_or firsts' i 0 ≡ get_or firsts i 0
  pub sizes-past : (i : ℕ) → m ≤ i → get_or sizes' i 0 ≡ get_or sizes i 0

pub closed-up : {v m e t : ℕ} {pins pins' firsts firsts' sizes sizes' : List ℕ} → Holding pins firsts sizes m → e ≡ m →
    TakingAll v m e t pins pins' firsts firsts' sizes sizes' → ClosedUp v m t pins pins' firsts firsts' sizes sizes'
closed-up {v} {m} {e} {t} {pins} {pins'} {firsts} {firsts'} {sizes} {sizes'} o q f = record {
  stored = λ ns c s. let k = f ns c s in let long' = changed-length (λ _ r. unmarked v r) ns in record {
    pins-are = ap (λ (z : ℕ). take z pins') (sym (total ns c s)) ∙ k.done ∙ ap all_pins (take_all e (nets_without v ns) (omega (arith, long')));
    first-is = λ d l. k.first-told.told d (omega arith) (omega (arith, long'));
    size_is = λ d l. k.size-told.told d (omega arith) (omega (arith, long'));
    firsts-fit = omega (arith, s.firsts-fit, k.first-told.len, long');
    sizes-fit = omega (arith, s.sizes-fit, k.size-told.len, long');
  };
  total = total;
  past = λ ns c s. let k = f ns c s in let z : first_of ns e ≡ length (all_pins ns) = first-all ns e (omega arith) in
      ap (λ (z : ℕ). drop z pins') (sym z) ∙ k.rest ∙ ap (λ (z : ℕ). drop z pins) z;
  pins-len = (here o f).len;
  firsts-len = (here o f).first-told.len;
  sizes-len = (here o f).size-told.len;
  firsts-past = λ i l. (here o f).first-told.behind i (omega arith);
  sizes-past = λ i l. (here o f).size-told.behind i (omega arith);
}
  where
    total : (ns : List Net) → length ns ≡ m → Stored ns pins firsts sizes → t ≡ length (all_pins (nets_without v ns))
    total ns c s = (f ns c s).t-is ∙ first-all (nets_without v ns) e (omega (arith, changed-length (λ _ r. unmarked v r) ns))

-- there are no more pins than before
pub taken-fewer : (v : ℕ) (ns : List Net) → length (all_pins (nets_without v ns)) ≤ length (all_pins ns)
taken-fewer v ns = let long' = changed-length (λ _ r. unmarked v r) ns in omega (
  arith,
  first-less ns (nets_without v ns) long' (λ d q. omega (arith, ap length (changed-pins (λ _ r. unmarked v r) ns d q), without-le v (net_at ns d).pins)) (length ns) (omega arith),
  first-all ns (length ns) (omega arith),
  first-all (nets_without v ns) (length ns) (omega (arith, long')),
)
