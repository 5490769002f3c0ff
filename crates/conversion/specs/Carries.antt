-- What is carried over is within the ranges of a catalogue. Rests on Well and on guarantees' Ranges. Assumes nothing.
use Prim.Native.Nat.{ℕ, suc, ◌+◌, ◌≤◌, ◌<◌}
use native.Mathlib.Omega.{arith}
use Rattle.std.specs.Prelude.{◌≡◌, refl, Bool, true, false, not, ◌&&◌, cond, eqb, leb, length}
use Rattle.std.proofs.Math.Path.{sym}
use Rattle.std.proofs.Common.{ap, ◌∙◌, subst}
use mathlib.Core.List.{List, [], ◌∷◌, ◌++◌, map, append-nil, append_assoc}
use borrow.Author.Tests.{leb-true, ltb-true, eqb-true, not-true}
use Rattle.std.proofs.Math.Dec.{ltb}
use Rattle.std.proofs.Math.ListN.{length-map}
use Rattle.laws.specs.Fold.{sum_over, sum_over-le, any, all, All, all_map}
use Rattle.laws.specs.Choice.{and_left, and_right}
use Rattle.laws.specs.Occurrence.{Distinct, distinct_more}
use Rattle.model.specs.Catalogue.{Hypergraph, main_limits, vertices}
use Rattle.model.specs.Machine.{fresh}
use Rattle.model.specs.Grammar.{Fields, is_number, value, within, overfull}
use Rattle.guarantees.specs.Loads.{Loaded, loaded-formed, sum_below, placed-start, capped-draft}
use Rattle.guarantees.specs.Ranges.{Ranges}
use Rattle.guarantees.specs.Reading.{within-range}
use Rattle.model.specs.Hmetis.{words, numbers_in, Edge, is_edge, edge_from, edge_of, edges_weighted, code, edge_lines, Hmetis, said}
use Rattle.model.specs.Convert.{named, is_carried, carried, listed, net_of, catalogue_of}
use Rattle.conversion.specs.Well.{Well, vertices-are}

-- ---- from tests to facts
pub all-holds : {A : Type 0} (l : List A) (p : A → Bool) (P : A → Type 0) → ((x : A) → p x ≡ true → P x) → all l p ≡ true → All l P
unfolding all
all-holds [] p P f e = tt
all-holds (x ∷ l) p P f e = (f x (and_left (p x) (all l p) e), all-holds l p P f (and_right (p x) (all l p) e))

pub all_of_map : {A B : Type 0} (g : A → B) (l : List A) (P : B → Type 0) → All l (λ x. P (g x)) → All (map g l) P
all_of_map g [] P a = tt
all_of_map g (x ∷ l) P a = (a.0, all_of_map g l P a.1)

-- ---- the vertices of an edge
named-first : (n : ℕ) (seen : List ℕ) (v : ℕ) (vs : List ℕ) → named n seen (v ∷ vs) ≡ true → (within 1 n v ≡ true) × (any seen (λ x. eqb x v) ≡ false) × (named n (seen ++ (v ∷ [])) vs ≡ true)
unfolding named
named-first n seen v vs e =
    let h = and_left (within 1 n v && not (any seen (λ x. eqb x v))) (named n (seen ++ (v ∷ [])) vs) e in
    (and_left (within 1 n v) _ h, not-true _ (and_right (within 1 n v) _ h), and_right (within 1 n v && not (any seen (λ x. eqb x v))) _ e)

named_in : (n : ℕ) (seen vs : List ℕ) → named n seen vs ≡ true → All vs (λ x. (1 ≤ x) × (x ≤ n))
named_in n seen [] e = tt
named_in n seen (v ∷ vs) e = let f = named-first n seen v vs e in (within-range 1 n v f.0, named_in n (seen ++ (v ∷ [])) vs f.2)

named-apart : (n : ℕ) (seen vs : List ℕ) → Distinct seen 0 (length seen) → named n seen vs ≡ true → Distinct (seen ++ vs) 0 (length (seen ++ vs))
named-apart n seen [] d e = subst (λ (l : List ℕ). Distinct l 0 (length l)) (sym (append-nil seen)) d
named-apart n seen (v ∷ vs) d e =
    let f = named-first n seen v vs e in
    subst (λ (l : List ℕ). Distinct l 0 (length l)) (append_assoc seen (v ∷ []) vs) (named-apart n (seen ++ (v ∷ [])) vs (distinct_more seen v d f.1) f.2)

-- ---- an edge of a well-written input has a vertex
some-pin : (weighted : Bool) (ws : Fields) → cond weighted 2 1 ≤ length ws → 1 ≤ length (edge_from weighted ws).pins
some-pin false ws h = omega (arith, length-map ws value)
some-pin true [] h = absurd (omega arith)
some-pin true (w ∷ ws) h = omega (arith, length-map ws value)

numbers-long : (l : List ℕ) (m : ℕ) → m ≤ numbers_in l → m ≤ length (words l)
unfolding numbers_in
numbers-long l m h = go (all (words l) is_number) h
  where
    go : (b : Bool) → m ≤ cond b (length (words l)) 0 → m ≤ length (words l)
    go true h = h
    go false h = omega arith

edge-some : (weighted : Bool) (l : List ℕ) → is_edge weighted l ≡ true → 1 ≤ length (edge_of weighted l).pins
unfolding is_edge edge_of
edge-some weighted l e = some-pin weighted (words l) (numbers-long l (cond weighted 2 1) (leb-true (cond weighted 2 1) (numbers_in l) e))

pub edges_some : (s : List ℕ) → Well s → All (said s).edges (λ e. 1 ≤ length e.pins)
unfolding said
edges_some s w = all_of_map (edge_of (edges_weighted (code s))) (edge_lines s) _ (all-holds (edge_lines s) (is_edge (edges_weighted (code s))) _ (edge-some (edges_weighted (code s))) w.edges)

-- ---- the tests of what is carried over
pub record Carries (f : Hmetis) : Type 0 where
  pub blocks : within 2 16 f.blocks ≡ true
  pub imbalance : within 0 1000 f.imbalance ≡ true
  pub vertices : within 1 1024 f.vertices ≡ true
  pub edges : length f.edges ≤ 1024
  pub each : all f.edges (is_carried f.vertices) ≡ true
  pub marks : sum_over f.edges (λ e. length e.pins) ≤ 8192
  pub weights : all f.weights (within 1 65535) ≡ true

pub carried-parts : (f : Hmetis) → carried f ≡ true → Carries f
unfolding carried
carried-parts f e =
    let e6 = and_left _ _ e in
    let e5 = and_left _ _ e6 in
    let e4 = and_left _ _ e5 in
    let e3 = and_left _ _ e4 in
    let e2 = and_left _ _ e3 in
    let a = within 2 16 f.blocks in
    let b = within 0 1000 f.imbalance in
    let c = within 1 1024 f.vertices in
    let d = leb (length f.edges) 1024 in
    let g = all f.edges (is_carried f.vertices) in
    let m = leb (sum_over f.edges (λ e. length e.pins)) 8192 in
    record {
      blocks = and_left _ _ e2;
      imbalance = and_right a _ e2;
      vertices = and_right (a && b) _ e3;
      edges = leb-true _ _ (and_right (a && b && c) _ e4);
      each = and_right (a && b && c && d) _ e5;
      marks = leb-true _ _ (and_right (a && b && c && d && g) _ e6);
      weights = and_right (a && b && c && d && g && m) _ e;
    }

sum-nets : (es : List Edge) → sum_over (map net_of es) (λ e. length e.pins) ≡ sum_over es (λ e. length e.pins)
unfolding sum_over
sum-nets [] = refl
sum-nets (e ∷ es) = ap (λ (n : ℕ). length e.pins + n) (sum-nets es)

module _ (s : List ℕ) (w : Well s) (c : carried (said s) ≡ true) (t : listed (said s) ≡ true) where
  abbrev f : Hmetis
  f = said s

  abbrev h : Hypergraph
  h = catalogue_of f

  pub listing-long : length f.listing ≡ f.vertices
  unfolding listed
  listing-long = eqb-true _ _ (and_left _ _ t)

  listing-in : All f.listing (λ b. b < f.blocks)
  unfolding listed
  listing-in = all-holds f.listing (λ b. ltb b f.blocks) _ (λ b e. ltb-true b f.blocks e) (and_right (eqb (length f.listing) f.vertices) _ t)

  edges-in : (P : Edge → Type 0) → ((e : Edge) → is_carried f.vertices e ≡ true → P e) → All f.edges P
  edges-in P g = all-holds f.edges (is_carried f.vertices) P g (carried-parts f c).each

  pub vertices-is : vertices h ≡ f.vertices
  unfolding catalogue_of
  vertices-is = vertices-are s w

  pub pins-in : All f.edges (λ e. All e.pins (λ x. (1 ≤ x) × (x ≤ f.vertices)))
  unfolding is_carried
  pins-in = edges-in _ (λ e q. named_in f.vertices [] e.pins (and_right (within 1 1000 e.weight) _ q))

  pub none-fixed : All h.fixed (λ x. x ≡ 0)
  unfolding catalogue_of
  none-fixed = all_of_map (λ b. 0) f.listing _ (all_map f.listing _ _ (λ b r. refl) listing-in)

  pub loaded : Loaded main_limits h
  unfolding catalogue_of is_carried
  loaded =
      let p = carried-parts f c in
      let k = within-range 2 16 f.blocks p.blocks in
      record {
        total-is = refl;
        blocks-low = k.0;
        blocks-high = k.1;
        draft-in = all_of_map suc f.listing _ (all_map f.listing _ _ (λ b r. (omega arith, omega (arith, r))) listing-in);
        as_long = length-map f.listing suc ∙ listing-long ∙ sym (vertices-are s w);
        fixed-long = length-map f.listing (λ b. 0) ∙ listing-long ∙ sym (vertices-are s w);
        fixed_in = all_map h.fixed _ _ (λ x e. omega arith) none-fixed;
        lows-long = refl;
        lows-in = λ i l. omega arith;
        nets-in = all_of_map net_of f.edges _ (all_map f.edges _ _ (λ e r. all_map e.pins _ _ (λ x q. (q.0, omega (arith, q.1, vertices-are s w))) r) pins-in);
        nets-distinct = all_of_map net_of f.edges _ (edges-in _ (λ e q. named-apart f.vertices [] e.pins (λ i j a b r. absurd (omega arith)) (and_right (within 1 1000 e.weight) _ q)));
        nets-some = all_of_map net_of f.edges _ (edges_some s w);
        weights-in = all-holds f.weights (within 1 65535) _ (λ x e. within-range 1 65535 x e) p.weights;
        net-weights = all_of_map net_of f.edges _ (edges-in _ (λ e q. within-range 1 1000 e.weight (and_left (within 1 1000 e.weight) _ q)));
        imbalance-high = (within-range 0 1000 f.imbalance p.imbalance).1;
      }

  nets-few : length h.nets ≤ 1024
  unfolding catalogue_of
  nets-few = omega (arith, length-map f.edges net_of, (carried-parts f c).edges)

  marks-few : sum_over h.nets (λ e. length e.pins) ≤ 8192
  unfolding catalogue_of
  marks-few = omega (arith, sum-nets f.edges, (carried-parts f c).marks)

  pub ranges : overfull h ≡ false → Ranges main_limits h
  unfolding fresh
  ranges o =
      let p = carried-parts f c in
      let v = within-range 1 1024 f.vertices p.vertices in
      record {
        vertices-low = omega (arith, vertices-is, v.0);
        vertices-high = omega (arith, vertices-is, v.1);
        nets-high = nets-few;
        marks-high = marks-few;
        total-high = omega (arith, loaded.total-is, sum_below h.lows h.weights loaded.lows-long loaded.lows-in, sum_over-le h.weights _ (λ w. w) 65535 loaded.weights-in (λ w i. i.1), vertices-is, v.1);
        loaded = loaded-formed loaded;
        placed = placed-start main_limits h loaded;
        draft-within = capped-draft main_limits h o;
      }
