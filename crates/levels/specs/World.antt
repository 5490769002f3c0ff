-- The matrix that the pin lists and the blocks give, and the tables that stand for it; the stretch of one net changed, and a block stored. Rests on
-- connectivity's Set.
use Rattle.std.specs.Prelude.{ℕ, ◌+◌, ◌-◌, ◌<◌, ◌≤◌, ◌≡◌, refl, true, false, List, length, get_or, set, ℤ}
use Rattle.std.proofs.Common.{sym, ap, ◌∙◌, arith, length-set, get_or-set_same, get_or-set_other}
use Rattle.std.proofs.Math.Decide.{ℕ_discrete}
use Rattle.connectivity.specs.Listed.{has, in-has, has-ext, vertex_at}
use Rattle.connectivity.specs.Matrix.{set_row, Stands, Kept}
use Rattle.connectivity.specs.Row.{row, row-no, row_by, row-set, set_row-here, set_row-there}
use Rattle.connectivity.specs.Laid.{Net, net-ext}
use Rattle.connectivity.specs.Law.{stands-ext}
use Rattle.connectivity.specs.Set.{Frame, frame-kept}

-- the net `e` has the `sizes e` pins from `firsts e`, each in the block that `blocks` has
abbrev pub mat : List ℕ → List ℕ → List ℕ → List ℕ → ℕ → ℕ → ℕ
mat pins blocks firsts sizes e = row pins blocks (get_or firsts e 0) (get_or sizes e 0)

-- the pin lists are whole
pub record Lists (pins blocks firsts sizes : List ℕ) (n m k : ℕ) : Type 0 where
  pub nets : (e : ℕ) → e < m → Net pins blocks (get_or firsts e 0) (get_or sizes e 0) n k
  pub blocks-fit : n ≤ length blocks
  pub firsts-fit : m ≤ length firsts
  pub sizes-fit : m ≤ length sizes

pub record World (weights counts visited pins blocks firsts sizes : List ℕ) (gains : List ℤ) (n m k : ℕ) : Type 0 where
  pub stands : Stands (mat pins blocks firsts sizes) n m k weights counts visited gains
  pub frame : Frame weights counts visited gains n m k
  pub lists : Lists pins blocks firsts sizes n m k

-- the stretch of the net e, which begins at f, becomes one of r pins; the other nets' stretches stand as they stood
pub world-net : {weights cs cs' vs vs' pins pins' blocks firsts sizes : List ℕ} {g g' : List ℤ} {n m k e f p r : ℕ} → e < m → f ≡ get_or firsts e 0 → p ≡ get_or sizes e 0 → length pins' ≡ length pins →
    ((d : ℕ) → d < m → (d ≡ e → ⊥) → (i : ℕ) → i < get_or sizes d 0 → get_or pins' (get_or firsts d 0 + i) 0 ≡ get_or pins (get_or firsts d 0 + i) 0) → Net pins' blocks f r n k →
    ((Q : ℕ → ℕ → ℕ) → Stands Q n m k weights cs vs g → ((y : ℕ) → y < n → Q e y ≡ row pins blocks f p y) → Stands (set_row Q e (row pins' blocks f r)) n m k weights cs' vs' g') →
    Kept n m k cs cs' vs vs' g g' → World weights cs vs pins blocks firsts sizes g n m k → World weights cs' vs' pins' blocks firsts (set sizes e r) g' n m k
world-net {pins = pins} {pins' = pins'} {blocks = blocks} {firsts = firsts} {sizes = sizes} {n = n} {m = m} {k = k} {e = e} {f = f} {r = r} he ef ep hl apart new stands kept w = record {
  stands = stands-ext (λ d y l q. values d y l (ℕ_discrete d e)) (stands (mat pins blocks firsts sizes) w.stands (λ y l. rw (ef, ep) refl));
  frame = frame-kept w.frame kept;
  lists = record {
    nets = λ d l. net-at d l (ℕ_discrete d e);
    blocks-fit = w.lists.blocks-fit;
    firsts-fit = w.lists.firsts-fit;
    sizes-fit = omega (arith, length-set sizes e r, w.lists.sizes-fit);
  };
}
  where
    size-e : get_or (set sizes e r) e 0 ≡ r
    size-e = get_or-set_same sizes e r 0 (omega (arith, w.lists.sizes-fit))

    size-d : (d : ℕ) → (d ≡ e → ⊥) → get_or (set sizes e r) d 0 ≡ get_or sizes d 0
    size-d d ne = get_or-set_other sizes e d r 0 ne

    has-d : (d y : ℕ) → d < m → (d ≡ e → ⊥) → has pins (get_or firsts d 0) (get_or sizes d 0) y ≡ has pins' (get_or firsts d 0) (get_or (set sizes e r) d 0) y
    has-d d y l ne = sym (rw (size-d d ne) (has-ext pins pins' (get_or firsts d 0) (get_or sizes d 0) y (apart d l ne)))

    values : (d y : ℕ) → d < m → Dec (d ≡ e) → set_row (mat pins blocks firsts sizes) e (row pins' blocks f r) d y ≡ mat pins' blocks firsts (set sizes e r) d y
    values d y l (yes q) = rw (q, set_row-here, size-e, ef) refl
    values d y l (no q) = ap (λ (z : ℕ → ℕ). z y) (set_row-there (mat pins blocks firsts sizes) e (row pins' blocks f r) d q)
        ∙ row_by pins pins' blocks (get_or firsts d 0) (get_or sizes d 0) (get_or (set sizes e r) d 0) y (has-d d y l q)

    net-at : (d : ℕ) → d < m → Dec (d ≡ e) → Net pins' blocks (get_or firsts d 0) (get_or (set sizes e r) d 0) n k
    net-at d l (yes q) = rw (q, size-e, ← ef) new
    net-at d l (no q) = rw (size-d d q) (net-ext hl (apart d l q) (w.lists.nets d l))

-- the block of a vertex that is a pin of no net may be stored
pub world-set : {weights cs vs pins blocks firsts sizes : List ℕ} {g : List ℤ} {n m k : ℕ} (v s : ℕ) → ((e : ℕ) → e < m → has pins (get_or firsts e 0) (get_or sizes e 0) v ≡ false) →
    World weights cs vs pins blocks firsts sizes g n m k → World weights cs vs pins (set blocks v s) firsts sizes g n m k
world-set {weights} {cs} {vs} {pins} {blocks} {firsts} {sizes} {g} {n} {m} {k} v s none w = record {
  stands = stands-ext (λ e y l q. same e y l (ℕ_discrete y v)) w.stands;
  frame = w.frame;
  lists = record {
    nets = λ e l. net e l;
    blocks-fit = omega (arith, length-set blocks v s, w.lists.blocks-fit);
    firsts-fit = w.lists.firsts-fit;
    sizes-fit = w.lists.sizes-fit;
  };
}
  where
    same : (e y : ℕ) → e < m → Dec (y ≡ v) → mat pins blocks firsts sizes e y ≡ mat pins (set blocks v s) firsts sizes e y
    same e y l (yes q) = rw q (row-none blocks ∙ sym (row-none (set blocks v s)))
      where
        row-none : (t : List ℕ) → row pins t (get_or firsts e 0) (get_or sizes e 0) v ≡ 0
        row-none t = row-no pins t (get_or firsts e 0) (get_or sizes e 0) v (none e l)
    same e y l (no q) = row-set pins blocks (get_or firsts e 0) (get_or sizes e 0) v s y q

    net : (e : ℕ) → e < m → Net pins (set blocks v s) (get_or firsts e 0) (get_or sizes e 0) n k
    net e l = let b = w.lists.nets e l in record {
      pins-fit = b.pins-fit;
      in-range = b.in-range;
      in_blocks = λ j h. rw (get_or-set_other blocks v (vertex_at pins (get_or firsts e 0) j) s 0 (λ q. clash e l j h (omega (arith, b.in-range j h)))) (b.in_blocks j h);
      once = b.once;
    }
      where
        clash : (e : ℕ) → e < m → (j : ℕ) → j < get_or sizes e 0 → get_or pins (get_or firsts e 0 + j) 0 ≡ v + 1 → ⊥
        clash e l j h q = let z : true ≡ false = sym (in-has pins (get_or firsts e 0) (get_or sizes e 0) v (j, h, q)) ∙ none e l in let y : ◌≡◌ {A = ℕ} 0 1 = cc in omega arith
