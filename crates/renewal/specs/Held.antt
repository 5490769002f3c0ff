-- The tables that hold nets, in document 01's words: every place of the loaded pins, first places, sizes; there and back. And the number of pins with a
-- vertex put in is the old one and one for each net that is named. Rests on Nets and Putting. Assumes nothing.
use Rattle.std.specs.Prelude.{ℕ, zero, suc, ◌+◌, ◌-◌, ◌≤◌, ◌<◌, ◌≡◌, List, length, get_or, take}
use Rattle.std.proofs.Common.{arith, sym, ap, ◌∙◌, ext_get_or, get_or-take, length-take-le, add-one}
use Rattle.laws.specs.Sum.{sum, sum-add, sum-zero, sum_step}
use Rattle.model.specs.Catalogue.{Net, Hypergraph}
use Rattle.model.specs.Memory.{net, all_pins, first_place}
use Rattle.renewal.specs.Nets.{net_at, first_of, first-none, first_more, first-all, first-place, Stored}
use Rattle.renewal.specs.Putting.{total_with}

-- the tables as document 01 says them: `Filled` and `Column` of model's Memory, at the entries in use
pub record Shown (h : Hypergraph) (pins firsts sizes : List ℕ) : Type 0 where
  pub pins-long : length (all_pins h.nets) ≤ length pins
  pub firsts-long : length h.nets ≤ length firsts
  pub sizes-long : length h.nets ≤ length sizes
  pub pin-is : (i : ℕ) → i < length (all_pins h.nets) → get_or pins i 0 ≡ get_or (all_pins h.nets) i 0
  pub first-is : (e : ℕ) → e < length h.nets → get_or firsts e 0 ≡ first_place h (suc e)
  pub size_is : (e : ℕ) → e < length h.nets → get_or sizes e 0 ≡ length (net h (suc e)).pins

down : (h : Hypergraph) (e : ℕ) → net h (suc e) ≡ net_at h.nets e
down h e = let q : suc e - 1 ≡ e = omega arith in ap (net_at h.nets) q

pub shown-stored : {h : Hypergraph} {pins firsts sizes : List ℕ} → Shown h pins firsts sizes → Stored h.nets pins firsts sizes
shown-stored {h} {pins} s = record {
  pins-are = ext_get_or 0 (take (length (all_pins h.nets)) pins) (all_pins h.nets) long (λ i l.
      get_or-take (length (all_pins h.nets)) pins i 0 (omega (arith, long)) ∙ s.pin-is i (omega (arith, long)));
  first-is = λ e l. s.first-is e l ∙ first-place h e (omega arith);
  size_is = λ e l. s.size_is e l ∙ ap (λ (n : Net). length n.pins) (down h e);
  firsts-fit = s.firsts-long;
  sizes-fit = s.sizes-long;
}
  where
    long : length (take (length (all_pins h.nets)) pins) ≡ length (all_pins h.nets)
    long = length-take-le (length (all_pins h.nets)) pins s.pins-long

pub stored-shown : (h : Hypergraph) {pins firsts sizes : List ℕ} → length (all_pins h.nets) ≤ length pins → Stored h.nets pins firsts sizes → Shown h pins firsts sizes
stored-shown h {pins} long s = record {
  pins-long = long;
  firsts-long = s.firsts-fit;
  sizes-long = s.sizes-fit;
  pin-is = λ i l. sym (get_or-take (length (all_pins h.nets)) pins i 0 l) ∙ ap (λ (r : List ℕ). get_or r i 0) s.pins-are;
  first-is = λ e l. s.first-is e l ∙ sym (first-place h e (omega arith));
  size_is = λ e l. s.size_is e l ∙ sym (ap (λ (n : Net). length n.pins) (down h e));
}

-- the pins before a net are those of the nets before it
pub sizes-sum : {ns : List Net} {pins firsts sizes : List ℕ} → Stored ns pins firsts sizes → (e : ℕ) → e ≤ length ns → sum e (λ d. get_or sizes d 0) ≡ first_of ns e
sizes-sum {ns} s zero l = sum-zero _ ∙ sym (first-none ns)
sizes-sum {ns} {sizes = sizes} s (suc e) l = omega (
  arith,
  ap (λ (k : ℕ). sum k (λ d. get_or sizes d 0)) (add-one e),
  ap (first_of ns) (add-one e),
  sum_step e (λ d. get_or sizes d 0),
  first_more ns e (omega arith),
  s.size_is e (omega arith),
  sizes-sum s e (omega arith),
)

pub total-with : (named : List ℕ) {ns : List Net} {pins firsts sizes : List ℕ} → Stored ns pins firsts sizes → total_with named sizes (length ns) ≡ length (all_pins ns) + sum (length ns) (λ e. get_or named e 0)
total-with named {ns} {sizes = sizes} s = omega (
  arith,
  sum-add (length ns) (λ e. get_or sizes e 0) (λ e. get_or named e 0),
  sizes-sum s (length ns) (omega arith),
  first-all ns (length ns) (omega arith),
)
