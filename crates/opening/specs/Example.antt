-- The worked sale's catalogue (model's Table) in tables: as loading leaves them they can be opened, and filled they are sound for a fresh machine,
-- so that neither Opens nor Sound is empty. By computing. Rests on Opening. Assumes nothing.
use Rattle.std.specs.Prelude.{ℕ, zero, suc, ◌+◌, ◌*◌, ◌<◌, ◌≤◌, ◌⊎◌, ◌≡◌, refl, false, ◌||◌, List, [], ◌∷◌, eqb, ltb, length, get_or, set, replicate, ℤ, pos, negsuc}
use Rattle.std.proofs.Common.{lt_of_lt_of_le, arith, inl, inr, sym, ◌∙◌, eq-eqb, ne_eqb, get_or-set_other, pow_mono}
use Rattle.std.proofs.Math.Nat.{div-eq_of_lt}
use Rattle.std.proofs.Math.Decide.{ℕ_discrete, dec_lt}
use Rattle.laws.specs.Choice.{one, cond-le}
use Rattle.laws.specs.Sum.{sum, sum_to, fold_to}
use Rattle.laws.specs.IntegerSum.{sum_z}
use Rattle.laws.specs.Fold.{sum_over, any, all, All}
use Rattle.laws.specs.Occurrence.{same, occ}
use Rattle.laws.specs.Bit.{bit}
use Rattle.model.specs.Catalogue.{main_limits, drafted, average_weight, nearest, capacity}
use Rattle.model.specs.Measure.{above, climb, representative, weight, block_weight}
use Rattle.model.specs.Machine.{call_j, call_m, call_s, call_b, call_a}
use Rattle.model.specs.Sale.{runs}
use Rattle.model.specs.Grammar.{bytes, same as same_bytes, parts, is_number, onward, value, fields, is_line, sale_line, overfull, grown, with_lot, ends_in_k, before_k, lot_line, mark, marking, with_net, net_read, buy_line, asked, with_call, call_line, line, ending, lines, parse}
use Rattle.model.specs.Sale.{runs}
use Rattle.model.specs.Demand.{Accepted}
use Rattle.model.specs.Table.{five}
use Rattle.model.specs.Worked.{worked_sale}
use Rattle.guarantees.specs.Ranges.{accepted-ranges}
use Rattle.incidence.specs.On.{on, on-blank}
use Rattle.connectivity.specs.Listed.{has}
use Rattle.connectivity.specs.Raised.{at}
use Rattle.connectivity.specs.Share.{when}
use Rattle.connectivity.specs.Matrix.{row_count, share_of, row_share}
use Rattle.connectivity.specs.Row.{row}
use Rattle.connectivity.specs.Set.{Frame}
use Rattle.levels.specs.World.{mat}
use Rattle.first_tables.specs.Prepare.{Prepared}
use Rattle.operations.specs.Tables.{tables, Sound}
use Rattle.opening.specs.Opening.{Opens, Weighed, metric_by, prepare-ok, open-sound}

-- ---- cases below a number, and tables by their entries

below2 : (P : ℕ → Type 0) → P 0 → P 1 → (i : ℕ) → i < 2 → P i
below2 P a b zero l = a
below2 P a b (suc zero) l = b
below2 P a b (suc (suc i)) l = absurd (omega arith)

below3 : (P : ℕ → Type 0) → P 0 → P 1 → P 2 → (i : ℕ) → i < 3 → P i
below3 P a b c zero l = a
below3 P a b c (suc i) l = below2 (λ j. P (suc j)) b c i (omega arith)

below5 : (P : ℕ → Type 0) → P 0 → P 1 → P 2 → P 3 → P 4 → (i : ℕ) → i < 5 → P i
below5 P a b c d e zero l = a
below5 P a b c d e (suc zero) l = b
below5 P a b c d e (suc (suc i)) l = below3 (λ j. P (suc (suc j))) c d e i (omega arith)

-- entries stored at their places
unfoldable pub put : {A : Type 0} → List (ℕ × A) → List A → List A
put [] l = l
put (p ∷ ps) l = set (put ps l) p.0 p.1

put_other : {A : Type 0} (ps : List (ℕ × A)) (l : List A) (i : ℕ) (d : A) → All ps (λ p. i ≡ p.0 → ⊥) → get_or (put ps l) i d ≡ get_or l i d
unfolding put
put_other [] l i d h = refl
put_other (p ∷ ps) l i d h = get_or-set_other (put ps l) p.0 i p.1 d h.0 ∙ put_other ps l i d h.1

-- ---- the tables: 5 vertices, 3 nets, 2 blocks

abbrev pub pins : List ℕ
pins = 1 ∷ 3 ∷ 2 ∷ 5 ∷ 3 ∷ 4 ∷ []

abbrev pub firsts : List ℕ
firsts = 0 ∷ 2 ∷ 4 ∷ []

abbrev pub sizes : List ℕ
sizes = 2 ∷ 2 ∷ 2 ∷ []

abbrev pub blocks : List ℕ
blocks = 1 ∷ 1 ∷ 2 ∷ 2 ∷ 1 ∷ []

abbrev pub weights : List ℕ
weights = 10 ∷ 10 ∷ 10 ∷ 10 ∷ 10 ∷ []

abbrev pub net_weights : List ℕ
net_weights = 3 ∷ 2 ∷ 1 ∷ []

-- a row of 16 entries for each net, and for each vertex
abbrev counts_filled : List (ℕ × ℕ)
counts_filled = (0, 1) ∷ (1, 1) ∷ (16, 2) ∷ (33, 2) ∷ []

abbrev pub counts : List ℕ
counts = put counts_filled (replicate 48 0)

abbrev masks_filled : List (ℕ × ℕ)
masks_filled = (0, 3) ∷ (1, 1) ∷ (2, 2) ∷ []

abbrev pub visited : List ℕ
visited = put masks_filled (replicate 3 0)

abbrev gains_filled : List (ℕ × ℤ)
gains_filled = (1, pos 3) ∷ (17, negsuc 1) ∷ (32, pos 2) ∷ (48, negsuc 0) ∷ (65, negsuc 1) ∷ []

abbrev pub gains : List ℤ
gains = put gains_filled (replicate 80 (pos 0))

abbrev pub bits : List ℕ
bits = put ((0, 1) ∷ (16, 2) ∷ (32, 5) ∷ (48, 4) ∷ (64, 2) ∷ []) (replicate 80 0)

abbrev pub loads : List ℕ
loads = put ((0, 30) ∷ (1, 20) ∷ []) (replicate 16 0)

-- ---- as loading leaves them

-- the worked sale is accepted, and its catalogue is this one
accepted : Accepted main_limits five
unfolding sum sum_to fold_to sum_over any all average_weight nearest capacity above climb representative weight block_weight bytes same_bytes parts is_number onward value fields is_line sale_line overfull grown with_lot ends_in_k before_k lot_line mark marking with_net net_read buy_line asked with_call call_line line ending lines parse
accepted = record {
  file = bytes worked_sale;
  book = record { estimated = false; lots = 5; buyers = 3; graph = five; marks = 6; calls = runs (call_j 2 5) ∷ runs (call_m 2 2) ∷ runs call_s ∷ runs call_b ∷ runs call_a ∷ [] };
  loads = refl;
  graph_is = refl;
}

-- a net of two pins
two : (a b x : ℕ) → (a ≡ b → ⊥) → 0 + one (eqb a x) + one (eqb b x) ≡ one (eqb a x || (eqb b x || false))
two a b x ne = go (ℕ_discrete a x) (ℕ_discrete b x)
  where
    go : Dec (a ≡ x) → Dec (b ≡ x) → 0 + one (eqb a x) + one (eqb b x) ≡ one (eqb a x || (eqb b x || false))
    go (yes p) (yes q) = absurd (ne (p ∙ sym q))
    go (yes p) (no q) = rw (eq-eqb a x p, ne_eqb b x q) refl
    go (no p) (yes q) = rw (ne_eqb a x p, eq-eqb b x q) refl
    go (no p) (no q) = rw (ne_eqb a x p, ne_eqb b x q) refl

rises : (p : ℕ → ℕ) → p 0 < p 1 → (i j : ℕ) → i < j → j < 2 → p i < p j
rises p h i zero ij jn = absurd (omega arith)
rises p h zero (suc zero) ij jn = h
rises p h (suc i) (suc zero) ij jn = absurd (omega arith)
rises p h i (suc (suc j)) ij jn = absurd (omega arith)

frame : (cs vs : List ℕ) (g : List ℤ) → length cs ≡ 48 → length vs ≡ 3 → length g ≡ 80 → Frame net_weights cs vs g 5 3 2
frame cs vs g c v q = record {
  counts-fit = omega arith;
  masks-fit = omega arith;
  gains-fit = omega arith;
  weights-fit = omega arith;
  few = omega arith;
  few-nets = omega arith;
  few-vertices = omega arith;
  weight = below3 _ (omega arith) (omega arith) (omega arith);
}

pub opens : Opens five pins blocks firsts sizes sizes weights net_weights (replicate 80 0) (replicate 48 0) (replicate 3 0) (replicate 80 (pos 0)) 5 3 2
unfolding occ same sum any
opens = record {
  fit = record { limits = main_limits; narrow = omega arith; short = omega arith; ranges = accepted-ranges main_limits (record { nets-few = omega arith; pins-few = omega arith }) five accepted };
  made = record {
    listed = below3 _ (λ x. two 1 3 x (λ q. omega arith)) (λ x. two 2 5 x (λ q. omega arith)) (λ x. two 3 4 x (λ q. omega arith));
    rising = below3 _ (rises (λ i. get_or pins (0 + i) 0) (omega arith)) (rises (λ i. get_or pins (2 + i) 0) (omega arith)) (rises (λ i. get_or pins (4 + i) 0) (omega arith));
    all-vertices = refl;
    all-nets = refl;
    all_blocks = refl;
    weighs = below3 _ refl refl refl;
    sits = below5 _ refl refl refl refl refl;
  };
  room = record {
    firsts-fit = omega arith;
    sizes-fit = omega arith;
    loaded-fit = omega arith;
    bits_fit = omega arith;
    few-nets = omega arith;
    few-vertices = omega arith;
    pins-fit = below3 _ (omega arith) (omega arith) (omega arith);
    apart = λ d e ld le ne. apart d e ld le ne (dec_lt d e);
  };
  same = λ e l. refl;
  bare = λ x e _ _. on-blank 80 x e;
  weighs = below5 _ refl refl refl refl refl;
  frame = frame (replicate 48 0) (replicate 3 0) (replicate 80 (pos 0)) refl refl refl;
  blocks-fit = omega arith;
  weights-fit = omega arith;
}
  where
    first : (e : ℕ) → e < 3 → get_or firsts e 0 ≡ 2 * e
    first = below3 _ refl refl refl

    size : (e : ℕ) → e < 3 → get_or sizes e 0 ≡ 2
    size = below3 _ refl refl refl

    apart : (d e : ℕ) → d < 3 → e < 3 → (d ≡ e → ⊥) → Dec (d < e) → (get_or firsts d 0 + get_or sizes d 0 ≤ get_or firsts e 0) ⊎ (get_or firsts e 0 + get_or sizes e 0 ≤ get_or firsts d 0)
    apart d e ld le ne (yes h) = inl (omega (arith, first d ld, first e le, size d ld))
    apart d e ld le ne (no h) = inr (omega (arith, first d ld, first e le, size e le, ne))

-- ---- filled

-- a mask of two blocks has no bit past them
bit_past : (a j : ℕ) → a < 4 → 2 ≤ j → bit a j ≡ 0
bit_past a j l h = rw (div-eq_of_lt (lt_of_lt_of_le l (pow_mono {i = 2} {j = j} h)))

counted : (e j : ℕ) → e < 3 → j < 2 → get_or counts (16 * e + j) 0 ≡ row_count 5 (mat pins blocks firsts sizes e) (j + 1)
unfolding put row_count row has sum
counted e j l = below3 (λ e. (j : ℕ) → j < 2 → get_or counts (16 * e + j) 0 ≡ row_count 5 (mat pins blocks firsts sizes e) (j + 1)) (below2 _ refl refl) (below2 _ refl refl) (below2 _ refl refl) e l j

shown : (e j : ℕ) → e < 3 → j < 2 → bit (get_or visited e 0) j ≡ one (ltb 0 (row_count 5 (mat pins blocks firsts sizes e) (j + 1)))
unfolding put row_count row has sum
shown e j l = below3 (λ e. (j : ℕ) → j < 2 → bit (get_or visited e 0) j ≡ one (ltb 0 (row_count 5 (mat pins blocks firsts sizes e) (j + 1)))) (below2 _ refl refl) (below2 _ refl refl) (below2 _ refl refl) e l j

gained : (y j : ℕ) → y < 5 → j < 2 → at gains (16 * y + j) ≡ sum_z (λ e. row_share 5 (get_or net_weights e 0) (mat pins blocks firsts sizes e) y (j + 1)) 3
unfolding put sum_z share_of when row_count row has sum
gained y j l =
    below5 (λ y. (j : ℕ) → j < 2 → at gains (16 * y + j) ≡ sum_z (λ e. row_share 5 (get_or net_weights e 0) (mat pins blocks firsts sizes e) y (j + 1)) 3)
    (below2 _ refl refl) (below2 _ refl refl) (below2 _ refl refl) (below2 _ refl refl) (below2 _ refl refl) y l j

marked : (x e : ℕ) → x < 5 → e < 3 → on bits x e ≡ one (has pins (get_or firsts e 0) (get_or sizes e 0) x)
unfolding put on has
marked x e l =
    below5 (λ x. (e : ℕ) → e < 3 → on bits x e ≡ one (has pins (get_or firsts e 0) (get_or sizes e 0) x))
    (below3 _ refl refl refl) (below3 _ refl refl refl) (below3 _ refl refl refl) (below3 _ refl refl refl) (below3 _ refl refl refl) x l e

block-le : (e y : ℕ) → e < 3 → y < 5 → mat pins blocks firsts sizes e y ≤ 2
unfolding row
block-le e y le l = cond-le (has pins (get_or firsts e 0) (get_or sizes e 0) y) (get_or blocks y 0) 2 (below5 (λ y. get_or blocks y 0 ≤ 2) (omega arith) (omega arith) (omega arith) (omega arith) (omega arith) y l)

pub prepared : Prepared net_weights pins blocks firsts sizes 5 3 2 (replicate 80 0) bits (replicate 48 0) counts (replicate 3 0) visited (replicate 80 (pos 0)) gains
unfolding put
prepared = record {
  world = record {
    stands = record { tally = record { block-le = block-le; counted = counted; shown = shown }; gained = gained };
    frame = frame counts visited gains refl refl refl;
    lists = (prepare-ok opens).lists;
  };
  marked = marked;
  bits-len = refl;
  counts-len = refl;
  counts_past = λ e j l u. put_other counts_filled (replicate 48 0) (16 * e + j) 0 (λ q. omega arith, (λ q. omega arith, (λ q. omega arith, (λ q. omega arith, tt))));
  counts-over = λ i l. put_other counts_filled (replicate 48 0) i 0 (λ q. omega arith, (λ q. omega arith, (λ q. omega arith, (λ q. omega arith, tt))));
  masks-len = refl;
  masks-past = λ e j l. below3 (λ e. 2 ≤ j → bit (get_or visited e 0) j ≡ 0) (bit_past 3 j (omega arith)) (bit_past 1 j (omega arith)) (bit_past 2 j (omega arith)) e l;
  masks-over = λ e l. put_other masks_filled (replicate 3 0) e 0 (λ q. omega arith, (λ q. omega arith, (λ q. omega arith, tt)));
  gains = record {
    gains-len = refl;
    gains-past = λ y j l u. put_other gains_filled (replicate 80 (pos 0)) (16 * y + j) (pos 0) (λ q. omega arith, (λ q. omega arith, (λ q. omega arith, (λ q. omega arith, (λ q. omega arith, tt)))));
    gains-over = λ y j l u. put_other gains_filled (replicate 80 (pos 0)) (16 * y + j) (pos 0) (λ q. omega arith, (λ q. omega arith, (λ q. omega arith, (λ q. omega arith, (λ q. omega arith, tt)))));
  };
}

pub weighed : Weighed weights blocks 5 2 loads
unfolding put sum
weighed = record { len = refl; loads-are = below2 _ refl refl }

measured : 3 ≡ metric_by visited net_weights 3
unfolding put sum
measured = refl

-- the tables of a fresh machine over the worked sale's catalogue
pub sound : Sound five [] (drafted five) (tables counts visited gains pins sizes bits blocks weights (replicate 5 0) loads net_weights firsts sizes 5 3 2 3)
sound = open-sound opens prepared weighed measured (replicate 5 0) (omega arith) (below5 _ refl refl refl refl refl)
