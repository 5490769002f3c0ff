-- Zeros behind the last pin, up to the 8,192nd place: a vertex taken out or put in, with nothing left of the pins that stood there. Rests on Taking and
-- Putting. Assumes nothing.
use Rattle.std.specs.Prelude.{ℕ, ◌≤◌, ◌<◌, ◌≡◌, List, length, get_or, take}
use Rattle.std.proofs.Common.{arith, sym, ◌∙◌, ext_get_or, get_or-take, length-take-le}
use Rattle.model.specs.Catalogue.{Net}
use Rattle.model.specs.Memory.{all_pins}
use Rattle.renewal.specs.Nets.{nets_without, nets_with, Stored, Holding, pins-fit}
use Rattle.renewal.specs.Columns.{Wrote}
use Rattle.renewal.specs.Taking.{drop-entry, ClosedUp, taken-fewer}
use Rattle.renewal.specs.Putting.{CanPut, Spread}

-- a table that has the same pins holds the same nets
stored_same : {ns : List Net} {pins pins' firsts sizes : List ℕ} → Stored ns pins firsts sizes → length pins' ≡ length pins → ((i : ℕ) → i < length (all_pins ns) → get_or pins' i 0 ≡ get_or pins i 0) → Stored ns pins' firsts sizes
stored_same {ns} {pins} {pins'} s q same = record {
  pins-are = ext_get_or 0 (take p pins') (take p pins) (long ∙ sym whole) (λ i l.
      let u : i < p = omega (arith, long) in
      get_or-take p pins' i 0 u ∙ same i u ∙ sym (get_or-take p pins i 0 u)) ∙ s.pins-are;
  first-is = s.first-is;
  size_is = s.size_is;
  firsts-fit = s.firsts-fit;
  sizes-fit = s.sizes-fit;
}
  where
    p : ℕ
    p = length (all_pins ns)

    whole : length (take p pins) ≡ p
    whole = length-take-le p pins (pins-fit s)

    long : length (take p pins') ≡ p
    long = length-take-le p pins' (omega (arith, pins-fit s))

-- what `take_out` does: of whatever m nets the tables held, they hold those without v, r pins in all; the places behind them hold 0 up to the 8,192nd, and
-- entries past the nets and places past that stand as they stood
pub record TakenOut (v m r : ℕ) (pins pins' firsts firsts' sizes sizes' : List ℕ) : Type 0 where
  pub stored : (ns : List Net) → length ns ≡ m → Stored ns pins firsts sizes → Stored (nets_without v ns) pins' firsts' sizes'
  pub total : (ns : List Net) → length ns ≡ m → Stored ns pins firsts sizes → r ≡ length (all_pins (nets_without v ns))
  pub zero : (i : ℕ) → r ≤ i → i < 8192 → get_or pins' i 0 ≡ 0
  pub past : (i : ℕ) → 8192 ≤ i → get_or pins' i 0 ≡ get_or pins i 0
  pub pins-len : length pins' ≡ length pins
  pub firsts-len : length firsts' ≡ length firsts
  pub sizes-len : length sizes' ≡ length sizes
  pub firsts-past : (i : ℕ) → m ≤ i → get_or firsts' i 0 ≡ get_or firsts i 0
  pub sizes-past : (i : ℕ) → m ≤ i → get_or sizes' i 0 ≡ get_or sizes i 0

module _ {v m r : ℕ} {pins pins' firsts firsts' sizes sizes' : List ℕ} (o : Holding pins firsts sizes m) (c : ClosedUp v m r pins pins' firsts firsts' sizes sizes') where
  pub taken-few : r ≤ 8192
  taken-few = omega (arith, c.total o.nets o.count o.stored, taken-fewer v o.nets, o.few)

  pub taken_out : {pins'' : List ℕ} → Wrote r 8192 (λ _. 0) pins' pins'' → TakenOut v m r pins pins'' firsts firsts' sizes sizes'
  taken_out {pins''} w = record {
    stored = λ ns q s. stored_same (c.stored ns q s) w.len (λ i l. w.before i (omega (arith, c.total ns q s)));
    total = c.total;
    zero = λ i l u. w.told i l u;
    past = λ i l. w.behind i l ∙ drop-entry (length (all_pins o.nets)) i pins pins' (c.past o.nets o.count o.stored) (omega (arith, o.few));
    pins-len = w.len ∙ c.pins-len;
    firsts-len = c.firsts-len;
    sizes-len = c.sizes-len;
    firsts-past = c.firsts-past;
    sizes-past = c.sizes-past;
  }

-- what `put_in` does: of whatever m nets the tables held, they hold those with v in the named ones; the places behind them hold 0 up to the 8,192nd, and
-- entries past the nets and places past that stand as they stood
pub record PutIn (named : List ℕ) (v m total : ℕ) (pins pins' firsts firsts' sizes sizes' : List ℕ) : Type 0 where
  pub stored : (ns : List Net) → length ns ≡ m → Stored ns pins firsts sizes → Stored (nets_with named v ns) pins' firsts' sizes'
  pub total-is : (ns : List Net) → length ns ≡ m → Stored ns pins firsts sizes → total ≡ length (all_pins (nets_with named v ns))
  pub zero : (i : ℕ) → total ≤ i → i < 8192 → get_or pins' i 0 ≡ 0
  pub past : (i : ℕ) → 8192 ≤ i → get_or pins' i 0 ≡ get_or pins i 0
  pub pins-len : length pins' ≡ length pins
  pub firsts-len : length firsts' ≡ length firsts
  pub sizes-len : length sizes' ≡ length sizes
  pub firsts-past : (i : ℕ) → m ≤ i → get_or firsts' i 0 ≡ get_or firsts i 0
  pub sizes-past : (i : ℕ) → m ≤ i → get_or sizes' i 0 ≡ get_or sizes i 0

pub put_in : {named : List ℕ} {v m total : ℕ} {pins pins' pins'' firsts firsts' sizes sizes' : List ℕ} → CanPut named pins firsts sizes m total →
    Spread named v m total pins pins' firsts firsts' sizes sizes' → Wrote total 8192 (λ _. 0) pins' pins'' → PutIn named v m total pins pins'' firsts firsts' sizes sizes'
put_in {total = total} {pins = pins} {pins' = pins'} o c w = record {
  stored = λ ns q s. stored_same (c.stored ns q s) w.len (λ i l. w.before i (omega (arith, c.total-is ns q s)));
  total-is = c.total-is;
  zero = λ i l u. w.told i l u;
  past = λ i l. w.behind i l ∙ drop-entry total i pins pins' c.past (omega (arith, o.total-few));
  pins-len = w.len ∙ c.pins-len;
  firsts-len = c.firsts-len;
  sizes-len = c.sizes-len;
  firsts-past = c.firsts-past;
  sizes-past = c.sizes-past;
}
