-- An accepted catalogue: its tables are those of a fresh machine, its numbers fit, and no session is above its cap. Rests on Fill, Stretches and guarantees'
-- laws of a catalogue that is read whole.
use Prim.Native.Nat.{ℕ, zero, suc, ◌+◌, ◌-◌, ◌*◌, ◌≤◌, ◌<◌}
use mathlib.Core.Path.{◌≡◌, refl, ap, sym, subst, ◌∙◌}
use mathlib.Core.Bool.{Bool, true, false, cond}
use mathlib.Core.List.{List, []}
use native.Mathlib.Omega.{arith}
use native.Mathlib.Nat.{div-le_self}
use lib.Dec.{ltb}
use lib.ListN.{length, get_or, take}
use lib.Seq.{slice, length-take-le, get_or-take}
use Rattle.laws.specs.Fold.{sum_over, sum_over-le}
use Rattle.laws.specs.Occurrence.{occ, occ-distinct}
use Rattle.laws.specs.Choice.{one, one-le}
use Rattle.model.specs.Catalogue.{Limits, Hypergraph, vertices, fixed_entry, drafted, nearest, capacities}
use Rattle.model.specs.Measure.{pin, size, weight}
use Rattle.model.specs.Machine.{fresh}
use Rattle.model.specs.Grammar.{Book, unread, whole, parts}
use Rattle.model.specs.Through.{ended, through}
use Rattle.model.specs.Memory.{Filled, net, all_pins, first_place, weight_entry, block_entry, weight_when_gone, taken_out, past_marks}
use Rattle.model.specs.Lent.{lists}
use Rattle.guarantees.specs.Caps.{Capped}
use Rattle.guarantees.specs.Loads.{Loaded as Good, Read, sum_below, part-read, held-part, loaded-sale}
use Rattle.guarantees.specs.Ranges.{read-ranges}
use Rattle.guarantees.specs.Board.{board-is}
use Rattle.guarantees.specs.Splits.{board-none, above-none, weight-none}
use Rattle.laws.specs.Rising.{Rising}
use Rattle.pins.specs.Sorting.{start, SortableNets}
use Rattle.lines.specs.Line.{book, Within}
use Rattle.reader.specs.Whole.{average_of, graph_of, Fitted, CatalogueRead, catalogue_seen as told}
use Rattle.reader.specs.declared.Catalogue.{Catalogue}
use Rattle.std.specs.Prelude.{Result, Ok, Err}
use Rattle.refusal.specs.declared.Refused.{Refused}
use Rattle.refusal.proofs.Results.{err-ok, ok-ok}
use Rattle.reader.specs.Buyers.{nets_of, Laid}
use Rattle.reader.proofs.Loads.{average-is, capacity-is}
use Rattle.loader.specs.Tables.{InOrder, Started, Accepts, LoadsCatalogue, sizes_of}
use Rattle.loader.specs.declared.Sizes.{Sizes}
use Rattle.loader.specs.declared.LoadedCatalogue.{LoadedCatalogue}
use Rattle.loader.proofs.Fill.{filled, filled_in, filled-out, filled-as}
use Rattle.loader.proofs.Stretches.{count-is, size_is, first-is, pins-count, pins-at, present-is, sets-is, marks-inside}

-- a refused catalogue
pub fails : (limits : Limits) (n : ℕ) (file : List ℕ) (at : ℕ) (r : Result Catalogue Refused) (q : Refused) (w₀ d₀ fx₀ a pp pc f₀ c₀ lp₀ w d fx nw lo f c lp : List ℕ) → CatalogueRead limits n file at r w₀ d₀ fx₀ f₀ c₀ lp₀ w d fx nw lo f c lp → r ≡ Err q
    → LoadsCatalogue limits n file at (Err q) (lists w₀ d₀ a fx₀ lp₀ pp f₀ c₀ pc) (lists w d a fx lp pp f c pc) nw lo
fails limits n file at r q w₀ d₀ fx₀ a pp pc f₀ c₀ lp₀ w d fx nw lo f c lp read is = record {
  estimated = read.estimated;
  says = ap (λ (x : Result Catalogue Refused). told n file read.estimated x w d fx nw lo f c lp) (sym is) ∙ read.says;
  inside = λ a y. err-ok y;
  accepts = λ a y. err-ok y;
}

-- ---- weights are small
pub small-average : (limits : Limits) (h : Hypergraph) → Good limits h → vertices h ≤ 1024 → (k : ℕ) → average_of k h.lows ≤ 67107855 + k
small-average limits h g l k =
    let s = sum_over-le h.weights (λ w. (1 ≤ w) × (w ≤ 65535)) (λ w. w) 65535 g.weights-in (λ w r. r.1) in
    omega (arith, sum_below h.lows h.weights g.lows-long g.lows-in, div-le_self (sum_over h.lows (λ w. w) + (k - 1)) k)

module _ (limits : Limits) (n : ℕ) (file : List ℕ) (at : ℕ) (x : Catalogue) (w₀ d₀ a₀ fx₀ lp₀ pp₀ f₀ c₀ pc₀ w d a fx lp pp f c pc nw lo : List ℕ) where
  abbrev l : ℕ
  l = x.vertices

  abbrev b : ℕ
  b = x.nets

  abbrev k : ℕ
  k = x.blocks

  abbrev t : ℕ
  t = x.imbalance

  abbrev m : ℕ
  m = x.pins

  abbrev h : Hypergraph
  h = graph_of l b k t w d fx nw lo f c lp

  abbrev k' : Bool → Book
  k' est = book est l b h m []

  module _ (r : Result Catalogue Refused) (read : CatalogueRead limits n file at r w₀ d₀ fx₀ f₀ c₀ lp₀ w d fx nw lo f c lp) (is : r ≡ Ok x) (within : Within limits)
      (w-len : length w ≡ length w₀) (d-len : length d ≡ length d₀) (fx-len : length fx ≡ length fx₀) (lp-len : length lp ≡ length lp₀) (f-len : length f ≡ length f₀) (c_len : length c ≡ length c₀)
      (w-long : limits.vertex_limit ≤ length w₀) (d-long : limits.vertex_limit ≤ length d₀) (lp-long : 8192 ≤ length lp₀) (pp-long : 8192 ≤ length pp₀) where
    says : ended (k' read.estimated) (n + 1 + l + b) (parts 10 (slice x.end (length file) file)) ≡ through limits n unread (parts 10 (slice at (length file) file))
    says = ap (λ (y : Result Catalogue Refused). told n file read.estimated y w d fx nw lo f c lp) (sym is) ∙ read.says

    fit : Fitted limits file x w₀ d₀ fx₀ f₀ c₀ lp₀ w d fx nw lo f c lp
    fit = read.fitted x is

    all_read : Read limits (k' read.estimated) × (whole (k' read.estimated) ≡ true)
    all_read = part-read limits n (parts 10 (slice at (length file) file)) (k' read.estimated) (n + 1 + l + b) (parts 10 (slice x.end (length file) file)) (sym says)

    good : Good limits h
    good = all_read.0.loads

    l_le : l ≤ length w
    l_le = omega (arith, fit.range.l-high)

    count : vertices h ≡ l
    count = length-take-le l w l_le

    wide : limits.pin_limit ≤ length lp
    wide = omega (arith, within.few.pins-few)

    pub small : average_of k (take l lo) ≤ 67107855 + k
    small = small-average limits h good (omega (arith, count, fit.range.l-high, within.lots-few)) k

    -- each buyer's marks are different lots, so that they can be put in order
    pub sortable : SortableNets lp c b
    sortable y z =
        let laid : Laid limits.pin_limit b m f₀ c₀ lp₀ f c lp = fit.laid in
        rw (← laid.first-is y z) (record {
          distinct = occ-distinct lp (get_or f y 0) (get_or c y 0) (λ x. omega (
            arith,
            sets-is h b m f₀ c₀ lp₀ nw f c lp refl laid wide good.nets-in good.nets-distinct lp (λ i u. refl) y x z,
            one-le (pin [] (net h (suc y)) x),
          ));
          inside = λ i u. let r = marks-inside h b m f₀ c₀ lp₀ nw f c lp refl laid wide good.nets-in good.nets-distinct y i z u in (r.0, omega (arith, r.1, count, fit.range.l-high, within.lots-few));
        })

    module _ (fa : Filled 0 (λ i. ltb i l) (λ i. 0) a₀ a) (fp : InOrder lp c b m pp₀ pp) (fc : Filled 0 (λ i. ltb i b) (λ i. get_or c i 0) pc₀ pc) where
      weight-at : (i : ℕ) → i < l → i < length w₀ → get_or w i 0 ≡ weight_entry h [] (drafted h) (suc i)
      unfolding weight_entry
      weight-at i u _ =
          let z : suc i - 1 ≡ i = omega arith in
          sym (ap (λ (t : Bool). cond t (weight h [] (suc i)) (weight_when_gone h [] (suc i))) (board-none (suc i))
          ∙ weight-none h (suc i) (omega arith) (omega (arith, count))
          ∙ ap (λ (j : ℕ). get_or (take l w) j 0) z
          ∙ get_or-take l w i 0 u)

      block_at : (i : ℕ) → i < l → i < length d₀ → get_or d i 0 ≡ block_entry h [] (drafted h) (suc i)
      unfolding block_entry
      block_at i u _ =
          let z : suc i - 1 ≡ i = omega arith in
          sym (ap (λ (t : Bool). cond t (drafted h (suc i)) 0) (board-is h [] (suc i) (above-none (suc i)) (loaded-sale good (suc i) (omega arith) (omega (arith, count))))
          ∙ ap (λ (j : ℕ). get_or (take l d) j 0) z
          ∙ get_or-take l d i 0 u)

      fixed-at : (i : ℕ) → i < l → i < length fx₀ → get_or fx i 0 ≡ fixed_entry h (suc i)
      fixed-at i u _ =
          let z : suc i - 1 ≡ i = omega arith in
          sym (ap (λ (j : ℕ). get_or (take l fx) j 0) z ∙ get_or-take l fx i 0 u)

      abbrev laid : Laid limits.pin_limit b m f₀ c₀ lp₀ f c lp
      laid = fit.laid

      copied : (i : ℕ) → i < m → get_or fp.copy i 0 ≡ get_or lp i 0
      copied i u = filled_in m (λ i. get_or lp i 0) pp₀ fp.copy fp.copied i u (omega (arith, laid.m-le, within.few.pins-few))

      total : length (all_pins h.nets) ≡ m
      total = pins-count h b m f₀ c₀ lp₀ nw f c lp refl laid wide

      known : length h.nets ≡ b
      known = count-is h b m f₀ c₀ lp₀ nw f c lp refl laid wide

      pin_at : (i : ℕ) → i < m → get_or lp i 0 ≡ get_or (all_pins h.nets) i 0
      pin_at i u = sym (pins-at h b m f₀ c₀ lp₀ nw f c lp refl laid wide i u)

      first-at : (i : ℕ) → i < b → get_or f i 0 ≡ first_place h (suc i)
      first-at = first-is h b m f₀ c₀ lp₀ nw f c lp refl laid wide

      present-at : (i : ℕ) → i < b → size h [] (net h (suc i)) ≡ get_or c i 0
      present-at = present-is h b m f₀ c₀ lp₀ nw f c lp refl laid wide good.nets-in good.nets-distinct

      sets-by : (q : List ℕ) → ((y v : ℕ) → y < b → occ q (get_or f y 0) (get_or c y 0) v ≡ one (pin [] (net h (suc y)) v))
          → (e v : ℕ) → 1 ≤ e → e ≤ length h.nets → occ q (first_place h e) (size h [] (net h e)) v ≡ one (pin [] (net h e) v)
      sets-by q is zero v l u = absurd (omega arith)
      sets-by q is (suc y) v l u =
          let z : y < b = omega (arith, known) in
          ap (λ (x : ℕ). occ q x (size h [] (net h (suc y))) v) (sym (first-at y z))
          ∙ ap (λ (x : ℕ). occ q (get_or f y 0) x v) (present-at y z)
          ∙ is y v z

      -- a list that has the loaded marks
      marks-in : (q : List ℕ) → ((i : ℕ) → i < m → get_or q i 0 ≡ get_or lp i 0) → (y v : ℕ) → y < b → occ q (get_or f y 0) (get_or c y 0) v ≡ one (pin [] (net h (suc y)) v)
      marks-in q is y v z = sets-is h b m f₀ c₀ lp₀ nw f c lp refl laid wide good.nets-in good.nets-distinct q is y v z

      sorted-in : (y v : ℕ) → y < b → occ pp (get_or f y 0) (get_or c y 0) v ≡ one (pin [] (net h (suc y)) v)
      sorted-in y v z =
          ap (λ (x : ℕ). occ pp x (get_or c y 0) v) (laid.first-is y z)
          ∙ fp.sorted.often y v z
          ∙ sym (ap (λ (x : ℕ). occ fp.copy x (get_or c y 0) v) (laid.first-is y z))
          ∙ marks-in fp.copy copied y v z

      rising-in : (y : ℕ) → y < b → Rising pp (get_or f y 0) (get_or c y 0)
      rising-in y z = rw (laid.first-is y z) (fp.sorted.rising y z (occ-distinct fp.copy (start c y) (get_or c y 0) (λ x. omega (
        arith,
        ap (λ (g : ℕ). occ fp.copy g (get_or c y 0) x) (laid.first-is y z),
        marks-in fp.copy copied y x z,
        one-le (pin [] (net h (suc y)) x),
      ))))

      rising-at : (e i j : ℕ) → 1 ≤ e → e ≤ length h.nets → i < j → j < size h [] (net h e) → get_or pp (first_place h e + i) 0 < get_or pp (first_place h e + j) 0
      rising-at zero i j l u ij jn = absurd (omega arith)
      rising-at (suc y) i j l u ij jn =
          let z : y < b = omega (arith, known) in
          let g : first_place h (suc y) ≡ get_or f y 0 = sym (first-at y z) in
          rw g (rising-in y z i j ij (omega (arith, present-at y z)))

      whole-at : (e : ℕ) → 1 ≤ e → e ≤ length h.nets → size h [] (net h e) + length (taken_out [] (net h e)) ≡ length (net h e).pins
      unfolding taken_out
      whole-at zero l u = absurd (omega arith)
      whole-at (suc y) l u = let z : y < b = omega (arith, known) in omega (arith, present-at y z, size_is h b m f₀ c₀ lp₀ nw f c lp refl laid wide y z)

      none-taken : (e i : ℕ) → 1 ≤ e → e ≤ length h.nets → i < length (taken_out [] (net h e)) → get_or pp (first_place h e + (size h [] (net h e) + i)) 0 ≡ get_or (taken_out [] (net h e)) i 0
      unfolding taken_out
      none-taken e i l u k = absurd (omega arith)

      past-at : (i : ℕ) → length (all_pins h.nets) ≤ i → i < length pp₀ → get_or pp i 0 ≡ past_marks false pp₀ i
      unfolding past_marks
      past-at i u v = fp.sorted.behind i (omega (arith, total, laid.m-is)) ∙ filled-out m (λ i. get_or lp i 0) pp₀ fp.copy fp.copied i (omega (arith, total)) v

      pub started : Started h (lists w₀ d₀ a₀ fx₀ lp₀ pp₀ f₀ c₀ pc₀) (lists w d a fx lp pp f c pc)
      started = record {
        weights = filled-as l (vertices h) _ _ w₀ w (filled l (λ i. weight_entry h [] (drafted h) (suc i)) w₀ w w-len weight-at fit.w-past) (sym count) (λ i u. refl);
        blocks = filled-as l (vertices h) _ _ d₀ d (filled l (λ i. block_entry h [] (drafted h) (suc i)) d₀ d d-len block_at fit.d-past) (sym count) (λ i u. refl);
        aboves = filled-as l (vertices h) (λ i. 0) _ a₀ a fa (sym count) (λ i u. sym (above-none (suc i)));
        fixed = filled-as l (vertices h) _ _ fx₀ fx (filled l (λ i. fixed_entry h (suc i)) fx₀ fx fx-len fixed-at fit.fx-past) (sym count) (λ i u. refl);
        loaded_pins = filled-as m (length (all_pins h.nets)) (λ i. get_or lp i 0) _ lp₀ lp (filled m (λ i. get_or lp i 0) lp₀ lp lp-len (λ i u v. refl) laid.past) (sym total) pin_at;
        loaded_often = sets-by lp (marks-in lp (λ i u. refl));
        present_pins = record {
          as_long = fp.sorted.len ∙ fp.copied.as_long;
          sets = sets-by pp sorted-in;
          rising = rising-at;
          whole = whole-at;
          taken = none-taken;
          past = past-at;
        };
        firsts = filled-as b (length h.nets) (λ i. get_or f i 0) _ f₀ f (filled b (λ i. get_or f i 0) f₀ f f-len (λ i u v. refl) laid.f-past) (sym known) first-at;
        loaded_sizes = filled-as b (length h.nets) (λ i. get_or c i 0) _ c₀ c (filled b (λ i. get_or c i 0) c₀ c c_len (λ i u v. refl) laid.c-past) (sym known) (λ i u. sym (size_is h b m f₀ c₀ lp₀ nw f c lp refl laid wide i u));
        present_sizes = filled-as b (length h.nets) (λ i. get_or c i 0) _ pc₀ pc fc (sym known) (λ i u. sym (present-at i u));
      }

      capped : Capped h (capacities h) [] (drafted h)
      unfolding fresh
      capped = (held-part limits n (parts 10 (slice at (length file) file)) (k' read.estimated) (n + 1 + l + b) (parts 10 (slice x.end (length file) file)) (sym says)).capped

      pub fits : (s : Sizes) → s ≡ sizes_of l b k t m (average_of k (take l lo)) (nearest ((1000 + t) * average_of k (take l lo)))
          → LoadsCatalogue limits n file at (Ok (record { sizes = s; end = x.end })) (lists w₀ d₀ a₀ fx₀ lp₀ pp₀ f₀ c₀ pc₀) (lists w d a fx lp pp f c pc) nw lo
      fits s e = record {
        estimated = read.estimated;
        says = rw e says;
        inside = λ y q. subst (λ (v : LoadedCatalogue). v.end ≤ length file) (ok-ok q) fit.inside;
        accepts = λ y q.
            subst (λ (v : LoadedCatalogue). Accepts limits v.sizes (lists w₀ d₀ a₀ fx₀ lp₀ pp₀ f₀ c₀ pc₀) (lists w d a fx lp pp f c pc) nw lo) (ok-ok q) (rw e (record {
              range = fit.range;
              pins-le = laid.m-le;
              costs = fit.nw-len;
              ranges = read-ranges limits within.few (k' read.estimated) all_read.0 all_read.1;
              vertices-are = count;
              nets-are = known;
              pins-are = all_read.0.sized.marks-are;
              average = sym (average-is l k t w d fx lo (nets_of b nw f c lp));
              capacity = sym (capacity-is l k t w d fx lo (nets_of b nw f c lp));
              capped = capped;
              started = started;
            }));
      }
