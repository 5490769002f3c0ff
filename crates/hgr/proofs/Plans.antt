-- A whole input checked: rows behind the header, PART, the listing; and what the flags that are kept on the way say. Rests on Heads and on
-- conversion's Well.
use Prim.Native.Nat.{ℕ, suc, ◌+◌, ◌-◌, ◌≤◌}
use native.Mathlib.Omega.{arith}
use mathlib.Core.Path.{◌≡◌, refl, ap, ap₂, sym, ◌∙◌, subst}
use mathlib.Core.Bool.{Bool, true, false, ◌&&◌, cond, true≢false}
use mathlib.Core.List.{List, [], map}
use borrow.Author.Tests.{eqb-true, eq-eqb}
use lib.Dec.{eqb, leb, ltb}
use lib.ListN.{length, get_or, take, drop, replicate, length-drop, length-map}
use Rattle.laws.specs.Fold.{sum_over, all}
use Rattle.laws.specs.Choice.{and_left, and_right}
use Rattle.model.specs.Grammar.{is_number, value, within, at}
use Rattle.guarantees.specs.Reading.{within-range}
use Rattle.model.specs.CatalogueText.{buy_text}
use Rattle.model.specs.Hmetis.{Sections, sections, is_header, code_in, words, Edge, is_edge, edge_of, edges_weighted, vertices_weighted, body, header, code, edge_count, vertex_count, weight_count, edge_lines, weight_lines, well_written, said}
use Rattle.model.specs.Convert.{is_carried, carried, listed, net_of}
use Rattle.conversion.specs.Well.{Well, well-not, edges-count}
use Rattle.passes.specs.Rows.{lines_at, sections_at, rows_at, well_rows, RowsPassed, NoPart, PartPassed}
use Rattle.passes.specs.Read.{BlocksRead, edges_at, EdgesRead}
use Rattle.passes.proofs.Rows.{well-all, all-well}
use Rattle.hgr.specs.Number.{code_of}
use Rattle.hgr.specs.Form.{FirstRead, NoHeader, HeaderRead, Begun}
use Rattle.hgr.specs.Check.{in_range, weights_from, Weighed, Seen, Planned}
use Rattle.hgr.specs.declared.Weighted.{Weighted}

-- ---- the first line, then the header
module _ (s : List ℕ) (a k t : ℕ) (first : FirstRead s a k t) where
  body_at : body s ≡ sections_at s a
  unfolding body
  body_at = ap sections (sym first.lines)

  header_at : header s ≡ get_or (rows_at s a) 0 []
  unfolding header
  header_at = ap (λ (x : Sections). get_or x.graph 0 []) body_at

  pub no_header : NoHeader s a → well_written s ≡ false
  no_header bad = well-not s (λ w. bad.none (ap (λ (x : Sections). x.found) (sym body_at) ∙ w.found) (ap is_header (sym header_at) ∙ w.head))

  pub begun : (b c m n : ℕ) → HeaderRead s a b c m n → Begun s b c m n k t
  unfolding code edge_count vertex_count
  begun b c m n head =
      let g = ap (λ (x : Sections). x.graph) body_at ∙ head.rows in
      record {
        low = head.low;
        high = head.high;
        ended = first.ended;
        first = first.first;
        head = ap is_header header_at ∙ head.head;
        blocks_is = first.blocks_is;
        imbalance-is = first.imbalance-is;
        code_is = head.code_is ∙ ap code_in (sym header_at);
        edges-is = head.edges-is ∙ ap (λ (y : List ℕ). at (words y) 0) (sym header_at);
        vertices-is = head.vertices-is ∙ ap (λ (y : List ℕ). at (words y) 1) (sym header_at);
        rows = sym (ap (drop 1) g);
        count = ap length g;
        found = head.found ∙ ap (λ (x : Sections). x.found) (sym body_at);
        listing = head.listing ∙ ap (λ (x : Sections). x.listing) (sym body_at);
      }

-- ---- the rows behind the header
range-few : (k t v m : ℕ) → in_range k t v m ≡ true → v ≤ 1024
unfolding in_range
range-few k t v m e = (within-range 1 1024 v (and_right (within 2 16 k && within 0 1000 t) _ (and_left _ _ e))).1

module _ (s : List ℕ) (start c m v k t : ℕ) (begun : Begun s start c m v k t) where
  abbrev edge_form : List ℕ → Bool
  edge_form = is_edge (edges_weighted (code s))

  abbrev left : List (List ℕ)
  left = rows_at s start

  left-count : Well s → length left ≡ edge_count s + weight_count s
  left-count w = omega (arith, w.count, begun.count)

  module _ (weighted : Bool) (we : weighted ≡ edges_weighted c) where
    weighted-is : weighted ≡ edges_weighted (code s)
    weighted-is = we ∙ ap edges_weighted begun.code_is

    pub edges-bad : well_rows (is_edge weighted) m left ≡ false → well_written s ≡ false
    unfolding edge_lines
    edges-bad z = well-not s (λ w. true≢false (sym (all-well edge_form (edge_count s) left (omega (arith, left-count w)) (ap (λ (ls : List (List ℕ)). all (take (edge_count s) ls) edge_form) begun.rows ∙ w.edges)) ∙ sym (ap₂ (λ (x : Bool) (n : ℕ). well_rows (is_edge x) n left) weighted-is begun.edges-is) ∙ z))

    module _ (known second : ℕ) (r : Bool) (pins size : ℕ) (edges : EdgesRead weighted s start m known second r pins size) where
      edges-passed : RowsPassed edge_form s start (edge_count s) second
      edges-passed = subst (λ (x : ℕ). RowsPassed edge_form s start x second) begun.edges-is (subst (λ (x : Bool). RowsPassed (is_edge x) s start m second) weighted-is edges.passed)

      edges-said : edges_at weighted s start m ≡ (said s).edges
      unfolding said edge_lines
      edges-said = ap₂ (λ (w : Bool) (ls : List (List ℕ)). map (edge_of w) ls) weighted-is (ap₂ take begun.edges-is begun.rows)

      rows_are : cond (vertices_weighted c) v 0 ≡ weight_count s
      unfolding weight_count
      rows_are = ap (λ (x : ℕ). cond (vertices_weighted x) v 0) begun.code_is ∙ ap (λ (x : ℕ). cond (vertices_weighted (code s)) x 0) begun.vertices-is

      second-rows : rows_at s second ≡ drop (edge_count s) (drop 1 (body s).graph)
      second-rows = edges-passed.rest ∙ ap (drop (edge_count s)) begun.rows

      second-count : length (rows_at s second) ≡ length left - edge_count s
      second-count = ap length edges-passed.rest ∙ length-drop (edge_count s) left

      pub weights-bad : well_rows is_number (cond (vertices_weighted c) v 0) (rows_at s second) ≡ false → well_written s ≡ false
      unfolding weight_lines
      weights-bad z = well-not s (λ w. true≢false (sym (all-well is_number (weight_count s) (rows_at s second) (omega (arith, left-count w, second-count)) (ap (λ (ls : List (List ℕ)). all (take (weight_count s) ls) is_number) second-rows ∙ w.weights)) ∙ sym (ap (λ (n : ℕ). well_rows is_number n (rows_at s second)) rows_are) ∙ z))

      weights-said : weights_from c s second v ≡ (said s).weights
      unfolding said weight_lines weight_count
      weights-said = ap₂ (λ (x y : ℕ). cond (vertices_weighted x) (map value (take y (rows_at s second))) (replicate y 1)) begun.code_is begun.vertices-is ∙ go (vertices_weighted (code s)) refl
        where
          go : (b : Bool) → vertices_weighted (code s) ≡ b → cond b (map value (take (vertex_count s) (rows_at s second))) (replicate (vertex_count s) 1) ≡ cond b (map value (take (cond (vertices_weighted (code s)) (vertex_count s) 0) (drop (edge_count s) (drop 1 (body s).graph)))) (replicate (vertex_count s) 1)
          go true q = ap₂ (λ (x : Bool) (ls : List (List ℕ)). map value (take (cond x (vertex_count s) 0) ls)) (sym q) second-rows
          go false q = refl

      module _ (last : ℕ) (heavy : Bool) (weights : List ℕ) (weighed : Weighed c s second v last heavy weights) where
        weights-passed : RowsPassed is_number s second (weight_count s) last
        weights-passed = subst (λ (x : ℕ). RowsPassed is_number s second x last) rows_are weighed.passed

        last-count : length (rows_at s last) ≡ length left - edge_count s - weight_count s
        last-count = ap length weights-passed.rest ∙ length-drop (weight_count s) (rows_at s second) ∙ ap (λ (x : ℕ). x - weight_count s) second-count

        found_at : (sections_at s last).found ≡ (body s).found
        found_at = weights-passed.found ∙ edges-passed.found ∙ begun.found

        pub part-bad : NoPart s last → well_written s ≡ false
        part-bad bad = well-not s (λ w. true≢false (sym (both (eq-eqb (length (rows_at s last)) 0 (omega (arith, left-count w, last-count))) (found_at ∙ w.found)) ∙ bad.none))
          where
            both : {a b : Bool} → a ≡ true → b ≡ true → (a && b) ≡ true
            both p q = rw (p, q)

        module _ (third : ℕ) (part : PartPassed s last third) where
          listing-at : lines_at s third ≡ (body s).listing
          listing-at = sym part.listing ∙ weights-passed.listing ∙ edges-passed.listing ∙ begun.listing

          pub lines-bad : all (lines_at s third) is_number ≡ false → well_written s ≡ false
          lines-bad z = well-not s (λ w. true≢false (sym w.listing ∙ ap (λ (ls : List (List ℕ)). all ls is_number) (sym listing-at) ∙ z))

          module _ (lines : ℕ) (named : Bool) (draft : List ℕ) (blocks : BlocksRead s third k lines named draft) where
            counted : lines ≡ length (body s).listing
            counted = blocks.lines_are ∙ ap length listing-at

            rows-well : Well s
            unfolding edge_lines weight_lines
            rows-well =
                let e = well-all edge_form (edge_count s) left edges-passed.well in
                let w = well-all is_number (weight_count s) (rows_at s second) weights-passed.well in
                record {
                  ended = begun.ended;
                  first = begun.first;
                  found = sym found_at ∙ part.found;
                  head = begun.head;
                  count = omega (arith, begun.count, e.0, w.0, second-count, last-count, ap length part.none);
                  edges = ap (λ (ls : List (List ℕ)). all (take (edge_count s) ls) edge_form) (sym begun.rows) ∙ e.1;
                  weights = ap (λ (ls : List (List ℕ)). all (take (weight_count s) ls) is_number) (sym second-rows) ∙ w.1;
                  listing = ap (λ (ls : List (List ℕ)). all ls is_number) (sym listing-at) ∙ blocks.well;
                }

            -- what the flags say
            edges-long : length (said s).edges ≡ m
            unfolding said
            edges-long = length-map (edge_lines s) (edge_of (edges_weighted (code s))) ∙ edges-count s rows-well ∙ sym begun.edges-is

            carried-is : (a b x d : Bool) → a ≡ in_range k t v m → b ≡ all (said s).edges (is_carried v) → x ≡ leb (sum_over (said s).edges (λ e. length e.pins)) 8192 → d ≡ all (said s).weights (within 1 65535) → (a && b && x && d) ≡ carried (said s)
            unfolding carried in_range said
            carried-is a b x d p q y w = rw (p, q, y, w, begun.blocks_is, begun.imbalance-is, begun.vertices-is, ← edges-long)

            module _ (same : v ≤ 1024 → known ≡ v) (ranges : Bool) (range : ranges ≡ in_range k t v m) where
              carries-is : (ranges && r && leb pins 8192 && heavy) ≡ carried (said s)
              carries-is = go ranges refl
                where
                  marks : leb pins 8192 ≡ leb (sum_over (said s).edges (λ e. length e.pins)) 8192
                  marks = ap (λ (n : ℕ). leb n 8192) (edges.pins-are ∙ ap (λ (es : List Edge). sum_over es (λ e. length e.pins)) edges-said)

                  heavy-is : heavy ≡ all (said s).weights (within 1 65535)
                  heavy-is = weighed.says ∙ ap (λ (l : List ℕ). all l (within 1 65535)) weights-said

                  go : (b : Bool) → ranges ≡ b → (b && r && leb pins 8192 && heavy) ≡ carried (said s)
                  go false q = carried-is false (all (said s).edges (is_carried v)) _ _ (sym q ∙ range) refl marks heavy-is
                  go true q =
                      carried-is true r _ _ (sym q ∙ range)
                      (edges.says ∙ ap₂ (λ (es : List Edge) (n : ℕ). all es (is_carried n)) edges-said (same (range-few k t v m (sym range ∙ q)))) marks heavy-is

              lists-is : (eqb lines v && named) ≡ listed (said s)
              unfolding listed said
              lists-is = ap₂ (λ (x y : Bool). x && y)
                  (ap₂ eqb (counted ∙ sym (length-map (body s).listing value)) begun.vertices-is)
                  (blocks.says ∙ ap₂ (λ (ls : List (List ℕ)) (n : ℕ). all (map value ls) (λ b. ltb b n)) listing-at begun.blocks_is)

              weights-in : (said s).vertices ≤ 1024 → take (said s).vertices weights ≡ (said s).weights
              unfolding said
              weights-in few = ap (λ (n : ℕ). take n weights) (sym begun.vertices-is) ∙ weighed.are (omega (arith, begun.vertices-is)) ∙ weights-said

              draft-in : named ≡ true → lines ≡ v → (said s).blocks ≤ 16 → (said s).vertices ≤ 1024 → take (said s).vertices draft ≡ map suc (said s).listing
              unfolding said
              draft-in good long fits few =
                  let n : length (lines_at s third) ≡ vertex_count s = omega (arith, blocks.lines_are, begun.vertices-is) in
                  ap (λ (x : ℕ). take x draft) (sym n) ∙ blocks.are good (omega (arith, begun.blocks_is)) (omega arith) ∙ ap (λ (ls : List (List ℕ)). map suc (map value ls)) listing-at

              pub rows-checked : (carries : Bool) → carries ≡ (ranges && r && leb pins 8192 && heavy) → (lists : Bool) → lists ≡ (eqb lines v && named) → Seen s carries lists size weights draft
              rows-checked carries ce lists le = record {
                well = rows-well;
                carried-is = ce ∙ carries-is;
                listed-is = le ∙ lists-is;
                size_is = edges.size_is ∙ ap (λ (es : List Edge). length (buy_text (map net_of es))) edges-said;
                small = edges.small;
                weights-len = weighed.len;
                draft-len = blocks.len;
                weights-are = weights-in;
                draft-is = λ good fits few. draft-in (and_right (eqb lines v) named (sym le ∙ good)) (eqb-true lines v (and_left (eqb lines v) named (sym le ∙ good))) fits few;
              }

-- the plan of an input whose rows are checked
pub planned : (s : List ℕ) (b m v k t : ℕ) (c : Weighted) → Begun s b (code_of c) m v k t → (carries lists : Bool) (size : ℕ) (w d : List ℕ) → Seen s carries lists size w d → Planned s (record { carried = carries; listed = lists; size = size; blocks = k; imbalance = t; edges = m; vertices = v; code = c; first = b }) w d
planned s b m v k t c begun carries lists size w d seen = record {
  seen = seen;
  sound = record {
    well = seen.well;
    blocks_is = begun.blocks_is;
    imbalance-is = begun.imbalance-is;
    edges-is = begun.edges-is;
    vertices-is = begun.vertices-is;
    code_is = begun.code_is;
    first-high = begun.high;
    first-is = begun.rows;
  };
}
