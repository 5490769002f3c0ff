-- A well-written input part by part: its tests, and how many lines of each kind it has. Rests on Hmetis. Assumes nothing.
use Rattle.std.specs.Prelude.{ℕ, suc, ◌+◌, ◌≡◌, Bool, ◌&&◌, List, map, drop, replicate}
use Rattle.std.proofs.Common.{arith, ◌∙◌}
use Rattle.std.proofs.Math.Path.{refl, ap}
use Rattle.std.proofs.Math.Bool.{true, false, cond}
use borrow.Author.Tests.{eqb-true, eq-eqb}
use Rattle.std.proofs.Math.Dec.{eqb}
use Rattle.std.proofs.Math.ListN.{length, length-drop, length-map, length-replicate}
use Rattle.std.proofs.Math.Seq.{length-take-le}
use Rattle.laws.specs.Fold.{all}
use Rattle.laws.specs.Choice.{and_left, and_right}
use Rattle.model.specs.Grammar.{is_number, value, is_line_of}
use Rattle.model.specs.Hmetis.{is_ended, is_header, is_edge, edges_weighted, vertices_weighted, first_line, body, header, code, edge_count, vertex_count, weight_count, edge_lines, weight_lines, well_written, said}

pub record Well (s : List ℕ) : Type 0 where
  pub ended : is_ended s ≡ true
  pub first : is_line_of "HGR" 2 (first_line s) ≡ true
  pub found : (body s).found ≡ true
  pub head : is_header (header s) ≡ true
  pub count : length (body s).graph ≡ suc (edge_count s + weight_count s)
  pub edges : all (edge_lines s) (is_edge (edges_weighted (code s))) ≡ true
  pub weights : all (weight_lines s) is_number ≡ true
  pub listing : all (body s).listing is_number ≡ true

both : {a b : Bool} → a ≡ true → b ≡ true → (a && b) ≡ true
both p q = rw (p, q)

module _ (s : List ℕ) where
  pub well-parts : well_written s ≡ true → Well s
  unfolding well_written
  well-parts e =
      let e7 = and_left _ _ e in
      let e6 = and_left _ _ e7 in
      let e5 = and_left _ _ e6 in
      let e4 = and_left _ _ e5 in
      let e3 = and_left _ _ e4 in
      let e2 = and_left _ _ e3 in
      record {
        ended = and_left _ _ e2;
        first = and_right (is_ended s) _ e2;
        found = and_right (is_ended s && is_line_of "HGR" 2 (first_line s)) _ e3;
        head = and_right (is_ended s && is_line_of "HGR" 2 (first_line s) && (body s).found) _ e4;
        count = eqb-true _ _ (and_right (is_ended s && is_line_of "HGR" 2 (first_line s) && (body s).found && is_header (header s)) _ e5);
        edges = and_right (is_ended s && is_line_of "HGR" 2 (first_line s) && (body s).found && is_header (header s) && eqb (length (body s).graph) (suc (edge_count s + weight_count s))) _ e6;
        weights = and_right (is_ended s && is_line_of "HGR" 2 (first_line s) && (body s).found && is_header (header s) && eqb (length (body s).graph) (suc (edge_count s + weight_count s)) && all (edge_lines s) (is_edge (edges_weighted (code s)))) _ e7;
        listing = and_right (is_ended s && is_line_of "HGR" 2 (first_line s) && (body s).found && is_header (header s) && eqb (length (body s).graph) (suc (edge_count s + weight_count s)) && all (edge_lines s) (is_edge (edges_weighted (code s))) && all (weight_lines s) is_number) _ e;
      }

  pub parts-well : Well s → well_written s ≡ true
  unfolding well_written
  parts-well w = both (both (both (both (both (both (both w.ended w.first) w.found) w.head) (eq-eqb _ _ w.count)) w.edges) w.weights) w.listing

  pub well-not : (Well s → ⊥) → well_written s ≡ false
  well-not n = go (well_written s) refl
    where
      go : (b : Bool) → well_written s ≡ b → b ≡ false
      go true q = absurd (n (well-parts q))
      go false q = refl

  module _ (w : Well s) where
    pub edges-count : length (edge_lines s) ≡ edge_count s
    unfolding edge_lines
    edges-count = length-take-le (edge_count s) (drop 1 (body s).graph) (omega (arith, w.count, length-drop 1 (body s).graph))

    pub weights-count : length (weight_lines s) ≡ weight_count s
    unfolding weight_lines
    weights-count = length-take-le (weight_count s) (drop (edge_count s) (drop 1 (body s).graph)) (omega (arith, w.count, length-drop 1 (body s).graph, length-drop (edge_count s) (drop 1 (body s).graph)))

    count-is : vertices_weighted (code s) ≡ true → weight_count s ≡ vertex_count s
    unfolding weight_count
    count-is q = ap (λ (b : Bool). cond b (vertex_count s) 0) q

    pub vertices-are : length (said s).weights ≡ (said s).vertices
    unfolding said
    vertices-are = go (vertices_weighted (code s)) refl
      where
        go : (b : Bool) → vertices_weighted (code s) ≡ b → length (cond b (map value (weight_lines s)) (replicate (vertex_count s) 1)) ≡ vertex_count s
        go true q = length-map (weight_lines s) value ∙ weights-count ∙ count-is q
        go false q = length-replicate {A = ℕ} (vertex_count s) 1
