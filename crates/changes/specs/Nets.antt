-- The nets that `take_out` and `put_in` leave are those of the model's X and N (without_is, with-is), and the marks in use are the pins of all nets
-- (marks-is). Rests on renewal's Nets and on model's Sale. Assumes nothing.
use Rattle.std.specs.Prelude.{ℕ, zero, suc, ◌+◌, ◌<◌, ◌≡◌, refl, Bool, true, false, cond, List, [], ◌∷◌, ◌++◌, eqb, length, get_or}
use Rattle.std.proofs.Common.{arith, ap, ap₂, ◌∙◌, append-nil, length-append}
use Rattle.laws.specs.Choice.{one}
use Rattle.laws.specs.Fold.{sum_over, any}
use Rattle.model.specs.Catalogue.{Net, Hypergraph}
use Rattle.model.specs.Memory.{no_net, all_pins}
use Rattle.model.specs.Sale.{marks_in, unmarked, nets_without, nets_with}
use Rattle.renewal.specs.Nets.{changed, tail}
use Rattle.renewal.specs.Nets.{nets_without as taken_nets, nets_with as put_nets}

pub without_is : (v : ℕ) (ns : List Net) → taken_nets v ns ≡ nets_without v ns
unfolding changed nets_without
without_is v [] = refl
without_is v (n ∷ ns) = ap (λ (r : List Net). record { weight = n.weight; pins = unmarked v n.pins } ∷ r) (without_is v ns)

-- the buyers from number i on
with-from : (v : ℕ) (buyers : List ℕ) (f : ℕ → List ℕ → List ℕ) (i : ℕ) (ns : List Net)
    → ((e : ℕ) (l : List ℕ) → e < length ns → f e l ≡ cond (any buyers (λ b. eqb b (i + e))) (l ++ (v ∷ [])) l) → changed f ns ≡ nets_with v buyers i ns
unfolding changed nets_with
with-from v buyers f i [] g = refl
with-from v buyers f i (n ∷ ns) g =
    let z : i + 0 ≡ i = omega arith in
    ap₂ (λ (l : List ℕ) (r : List Net). record { weight = n.weight; pins = l } ∷ r)
    (g 0 n.pins (omega arith) ∙ ap (λ (j : ℕ). cond (any buyers (λ b. eqb b j)) (n.pins ++ (v ∷ [])) n.pins) z)
    (with-from v buyers (λ e. f (suc e)) (suc i) ns (λ e l q.
    let y : i + suc e ≡ suc i + e = omega arith in
    g (suc e) l (omega arith) ∙ ap (λ (j : ℕ). cond (any buyers (λ b. eqb b j)) (l ++ (v ∷ [])) l) y))

-- the table has a 1 for each buyer that is named
pub with-is : (v : ℕ) (buyers named : List ℕ) (ns : List Net) → ((e : ℕ) → e < length ns → get_or named e 0 ≡ one (any buyers (λ b. eqb b (1 + e)))) → put_nets named v ns ≡ nets_with v buyers 1 ns
with-is v buyers named ns g = with-from v buyers (λ e l. l ++ tail (get_or named e 0) v) 1 ns (λ e l q. ap (λ (b : ℕ). l ++ tail b v) (g e q) ∙ each l (any buyers (λ b. eqb b (1 + e))))
  where
    each : (l : List ℕ) (t : Bool) → l ++ tail (one t) v ≡ cond t (l ++ (v ∷ [])) l
    each l true = refl
    each l false = append-nil l

-- a mark more leaves a buyer's weight
pub with-weight : (v : ℕ) (buyers : List ℕ) (i : ℕ) (ns : List Net) (e : ℕ) → (get_or (nets_with v buyers i ns) e no_net).weight ≡ (get_or ns e no_net).weight
unfolding nets_with
with-weight v buyers i [] e = refl
with-weight v buyers i (n ∷ ns) zero = refl
with-weight v buyers i (n ∷ ns) (suc e) = with-weight v buyers (suc i) ns e

pub marks-is : (ns : List Net) → sum_over ns (λ e. length e.pins) ≡ length (all_pins ns)
unfolding sum_over all_pins
marks-is [] = refl
marks-is (n ∷ ns) = omega (arith, marks-is ns, length-append n.pins (all_pins ns))

pub marks-in : (h : Hypergraph) → marks_in h ≡ length (all_pins h.nets)
unfolding marks_in
marks-in h = marks-is h.nets
