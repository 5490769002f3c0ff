-- The refusals of X and N as the tables tell them, and that sound tables tell what the sale tells. Rests on edit_calls's Refusal. Assumes nothing.
use Rattle.std.specs.Prelude.{ℕ, ◌+◌, ◌-◌, ◌<◌, ◌≤◌, ◌≡◌, refl, Bool, true, false, ◌&&◌, ◌||◌, List, leb, get_or}
use Rattle.std.proofs.Math.Decide.{dec_lt}
use Rattle.std.proofs.Common.{arith, sym, ◌∙◌, lt-ltb, le-ltb, le-leb, leb-true, leb-false, ltb-false}
use Rattle.std.proofs.Math.Path.{ap}
use Rattle.std.proofs.Math.Bool.{not, cond}
use Rattle.std.proofs.lemmas.Bool.{lt-leb, not-false}
use Rattle.std.proofs.Math.Dec.{ltb}
use Rattle.std.proofs.Math.ListN.{length}
use Rattle.laws.specs.Choice.{cond-zero, and_left, and_right, or-none}
use Rattle.laws.specs.Fold.{all}
use Rattle.model.specs.Catalogue.{Limits, Hypergraph, is_vertex, is_block, is_net, capacity, capacities}
use Rattle.model.specs.Measure.{block_weight}
use Rattle.model.specs.Machine.{State}
use Rattle.model.specs.Sale.{Space, space_of, lots_in, marks_in, joins_stand, named_twice, refuses_x, refuses_n}
use Rattle.guarantees.specs.Caps.{CeilingIs}
use Rattle.operations.specs.Tables.{Tables, Sound}
use Rattle.edit_calls.specs.Refusal.{known, here, cond-if, known_is, here-is, taken, left, both-no, both_yes}

-- X: 9, 16, 10
unfoldable pub refusal_x : List ℕ → ℕ → ℕ → ℕ → ℕ
refusal_x blocks n joins v =
    cond (not (known n v)) 9
    (cond (ltb 0 joins) 16
    (cond (not (here blocks v)) 10 0))

pub refusal_x-is : {h : Hypergraph} {T : Tables} (st : State) → Sound h st.stack st.block T → (joins : ℕ) → joins ≡ length st.stack → (v : ℕ) → refusal_x T.blocks T.n joins v ≡ refuses_x h st v
unfolding refusal_x refuses_x
refusal_x-is {h} {T} st s joins q v =
    cond-if {b' = not (is_vertex h v)} 9 (ap not (known_is s v)) (λ a.
    cond-if {b' = joins_stand st} 16 (ap (ltb 0) q) (λ _.
    ap (λ (b : Bool). cond (not b) 10 0) (here-is s v (not-false _ a))))

-- ---- the arms of the code's tests
module _ (blocks : List ℕ) (n joins v : ℕ) {r : Bool} (e : r ≡ known n v) where
  pub out-9 : not r ≡ true → 9 ≡ refusal_x blocks n joins v
  unfolding refusal_x
  out-9 q = taken (not (known n v)) 9 _ (sym (ap not e) ∙ q)

  pub out-16 : not r ≡ false → 0 < joins → 16 ≡ refusal_x blocks n joins v
  unfolding refusal_x
  out-16 q w = left (not (known n v)) 9 (sym (ap not e) ∙ q) (taken (ltb 0 joins) 16 _ (lt-ltb 0 joins w))

  module _ (q : not r ≡ false) (none : joins ≤ 0) {t : Bool} (f : t ≡ here blocks v) where
    pub out-10 : not t ≡ true → 10 ≡ refusal_x blocks n joins v
    unfolding refusal_x
    out-10 w = left (not (known n v)) 9 (sym (ap not e) ∙ q) (left (ltb 0 joins) 16 (le-ltb 0 joins none) (taken (not (here blocks v)) 10 0 (sym (ap not f) ∙ w)))

    pub out-0 : not t ≡ false → 0 ≡ refusal_x blocks n joins v
    unfolding refusal_x
    out-0 w = left (not (known n v)) 9 (sym (ap not e) ∙ q) (left (ltb 0 joins) 16 (le-ltb 0 joins none) (left (not (here blocks v)) 10 (sym (ap not f) ∙ w) refl))

-- a known number lies within the columns
pub known_in : (n v : ℕ) {r : Bool} → r ≡ known n v → not r ≡ false → (1 ≤ v) × (v ≤ n)
known_in n v {r} e q =
    let x = sym e ∙ not-false r q in
    (leb-true 1 v (and_left (leb 1 v) (leb v n) x), leb-true v n (and_right (leb 1 v) (leb v n) x))

-- ---- N: 9, 16, 22, 23, 14
unfoldable pub refusal_n : (loads ceilings buyers : List ℕ) (m k joins lots lot_room marks mark_room bales session : ℕ) → ℕ
refusal_n loads ceilings buyers m k joins lots lot_room marks mark_room bales session =
    cond (not ((known 65535 bales && known k session) && all buyers (known m))) 9
    (cond (ltb 0 joins) 16
    (cond (named_twice buyers) 22
    (cond (leb lot_room lots || ltb mark_room (marks + length buyers)) 23
    (cond (not (leb (get_or loads (session - 1) 0 + bales) (get_or ceilings (session - 1) 0))) 14 0))))

pub refusal_n-is : {h : Hypergraph} {T : Tables} (st : State) → Sound h st.stack st.block T → (ceiling : ℕ → ℕ) (ceilings buyers : List ℕ) → CeilingIs ceilings h ceiling → (joins lots lot_room marks mark_room bales session : ℕ)
    → joins ≡ length st.stack → lots ≡ lots_in h → marks ≡ marks_in h
    → refusal_n T.loads ceilings buyers T.m T.k joins lots lot_room marks mark_room bales session ≡ refuses_n (record { lots = lot_room; marks = mark_room }) h ceiling st bales session buyers
unfolding refusal_n refuses_n
refusal_n-is {h} {T} st s ceiling ceilings buyers c joins lots lot_room marks mark_room bales session qj ql qm =
    let w = s.follows.says in
    cond-if {b' = not (leb 1 bales && leb bales 65535 && is_block h session && all buyers (is_net h))} 9
    (ap (λ (k : ℕ). not ((known 65535 bales && known k session) && all buyers (known T.m))) w.all_blocks ∙ ap (λ (m : ℕ). not ((known 65535 bales && known h.blocks session) && all buyers (known m))) w.all-nets) (λ a.
    cond-if {b' = joins_stand st} 16 (ap (ltb 0) qj) (λ _.
    cond-if {b = named_twice buyers} {b' = named_twice buyers} 22 refl (λ _.
    cond-if {b' = leb lot_room (lots_in h) || ltb mark_room (marks_in h + length buyers)} 23 (ap (λ (x : ℕ). leb lot_room x || ltb mark_room (marks + length buyers)) ql ∙ ap (λ (x : ℕ). leb lot_room (lots_in h) || ltb mark_room (x + length buyers)) qm) (λ _.
    let b = and_right (leb 1 bales && leb bales 65535) _ (and_left _ _ (not-false _ a)) in
    let lo = leb-true 1 session (and_left (leb 1 session) (leb session h.blocks) b) in
    let hi = leb-true session h.blocks (and_right (leb 1 session) (leb session h.blocks) b) in
    let i : session - 1 < T.k = omega (arith, lo, hi, w.all_blocks) in
    let z : session - 1 + 1 ≡ session = omega (arith, lo) in
    ap (λ (x : ℕ). cond (not (leb (x + bales) (get_or ceilings (session - 1) 0))) 14 0) (s.bears (session - 1) i ∙ ap (block_weight h st.stack st.block) z)
    ∙ ap (λ (x : ℕ). cond (not (leb (block_weight h st.stack st.block session + bales) x)) 14 0) (c session lo hi)))))

-- under the entry's own space and the capacity N is not refused either
pub wider-N : (limits : Limits) (h : Hypergraph) (st : State) (space : Space) (ceiling : ℕ → ℕ) (bales session : ℕ) (buyers : List ℕ) → space.lots ≤ limits.vertex_limit → space.marks ≤ 8192 → ((b : ℕ) → 1 ≤ b → b ≤ h.blocks → ceiling b ≤ capacity h)
    → refuses_n space h ceiling st bales session buyers ≡ 0 → refuses_n (space_of limits) h (capacities h) st bales session buyers ≡ 0
unfolding refuses_n
wider-N limits h st space ceiling bales session buyers lots marks low q =
    let t = cond-zero (not (leb 1 bales && leb bales 65535 && is_block h session && all buyers (is_net h))) 9 _ (omega arith) q in
    let j = cond-zero (joins_stand st) 16 _ (omega arith) t.1 in
    let w = cond-zero (named_twice buyers) 22 _ (omega arith) j.1 in
    let f = cond-zero (leb space.lots (lots_in h) || ltb space.marks (marks_in h + length buyers)) 23 _ (omega arith) w.1 in
    let c = cond-zero (not (leb (block_weight h st.stack st.block session + bales) (ceiling session))) 14 0 (omega arith) f.1 in
    let s = or-none (leb space.lots (lots_in h)) _ f.0 in
    let b = and_right (leb 1 bales && leb bales 65535) _ (and_left _ _ (not-false _ t.0)) in
    let lo = leb-true 1 session (and_left (leb 1 session) (leb session h.blocks) b) in
    let hi = leb-true session h.blocks (and_right (leb 1 session) (leb session h.blocks) b) in
    sym (left (not (leb 1 bales && leb bales 65535 && is_block h session && all buyers (is_net h))) 9 t.0
    (left (joins_stand st) 16 j.0
    (left (named_twice buyers) 22 w.0
    (left (leb limits.vertex_limit (lots_in h) || ltb 8192 (marks_in h + length buyers)) 23
    (none_of (lt-leb limits.vertex_limit (lots_in h) (omega (arith, lots, leb-false space.lots (lots_in h) s.0))) (le-ltb 8192 (marks_in h + length buyers) (omega (arith, marks, ltb-false space.marks (marks_in h + length buyers) s.1))))
    (left (not (leb (block_weight h st.stack st.block session + bales) (capacity h))) 14
    (ap not (le-leb (block_weight h st.stack st.block session + bales) (capacity h) (omega (arith, low session lo hi, leb-true (block_weight h st.stack st.block session + bales) (ceiling session) (not-false _ c.0))))) refl)))))
  where
    none_of : {a b : Bool} → a ≡ false → b ≡ false → (a || b) ≡ false
    none_of {a} {b} e f = ap (λ (x : Bool). x || b) e ∙ f

-- ---- the arms of the code's tests
pub knows-no : (a b c : Bool) {r : Bool} → r ≡ a → not r ≡ true → false ≡ ((a && b) && c)
knows-no a b c e q = both-no (a && b) c (both-no a b e q) refl

pub knows-not : (a b c : Bool) {r r' : Bool} → r ≡ a → not r ≡ false → r' ≡ b → not r' ≡ true → false ≡ ((a && b) && c)
knows-not a b c {r} {r'} e q e' q' = both-no (a && b) c {r = r'} (both_yes a b e q e') q'

pub knows-yes : (a b c : Bool) {r r' r'' : Bool} → r ≡ a → not r ≡ false → r' ≡ b → not r' ≡ false → r'' ≡ c → r'' ≡ ((a && b) && c)
knows-yes a b c {r} {r'} e q e' q' e'' = both_yes (a && b) c {r = r'} (both_yes a b e q e') q' e''

pub full-lots : (lots lot_room : ℕ) (b : Bool) → lot_room ≤ lots → true ≡ (leb lot_room lots || b)
full-lots lots lot_room b l = sym (ap (λ (a : Bool). a || b) (le-leb lot_room lots l))

or-true : (b : Bool) → true ≡ (b || true)
or-true true = refl
or-true false = refl

pub full-over : (lots lot_room marks more mark_room : ℕ) → mark_room < marks → true ≡ (leb lot_room lots || ltb mark_room (marks + more))
full-over lots lot_room marks more mark_room l = or-true (leb lot_room lots) ∙ ap (λ (b : Bool). leb lot_room lots || b) (sym (lt-ltb mark_room (marks + more) (omega arith)))

-- how many more there may be, without a sum that could pass the largest number
less-more : (marks more mark_room : ℕ) → marks ≤ mark_room → ltb (mark_room - marks) more ≡ ltb mark_room (marks + more)
less-more marks more mark_room m = go (dec_lt (mark_room - marks) more)
  where
    go : Dec (mark_room - marks < more) → ltb (mark_room - marks) more ≡ ltb mark_room (marks + more)
    go (yes l) = lt-ltb (mark_room - marks) more l ∙ sym (lt-ltb mark_room (marks + more) (omega arith))
    go (no n) = le-ltb (mark_room - marks) more (omega arith) ∙ sym (le-ltb mark_room (marks + more) (omega arith))

pub full-marks : (lots lot_room marks more mark_room : ℕ) → lots < lot_room → marks ≤ mark_room → ltb (mark_room - marks) more ≡ (leb lot_room lots || ltb mark_room (marks + more))
full-marks lots lot_room marks more mark_room l m = less-more marks more mark_room m ∙ sym (ap (λ (a : Bool). a || ltb mark_room (marks + more)) (lt-leb lot_room lots l))

module _ (loads ceilings buyers : List ℕ) (m k joins lots lot_room marks mark_room bales session : ℕ) {r : Bool} (e : r ≡ ((known 65535 bales && known k session) && all buyers (known m))) where
  abbrev turned_down : ℕ
  turned_down = refusal_n loads ceilings buyers m k joins lots lot_room marks mark_room bales session

  pub in-9 : not r ≡ true → 9 ≡ turned_down
  unfolding refusal_n
  in-9 q = taken (not ((known 65535 bales && known k session) && all buyers (known m))) 9 _ (sym (ap not e) ∙ q)

  module _ (q : not r ≡ false) where
    pub in-16 : 0 < joins → 16 ≡ turned_down
    unfolding refusal_n
    in-16 w = left (not ((known 65535 bales && known k session) && all buyers (known m))) 9 (sym (ap not e) ∙ q) (taken (ltb 0 joins) 16 _ (lt-ltb 0 joins w))

    -- the session and the buyers are known
    pub in-known : (1 ≤ session) × (session ≤ k) × (all buyers (known m) ≡ true)
    in-known =
        let y = sym e ∙ not-false r q in
        let b = and_right (known 65535 bales) (known k session) (and_left _ _ y) in
        (leb-true 1 session (and_left (leb 1 session) (leb session k) b), leb-true session k (and_right (leb 1 session) (leb session k) b), and_right (known 65535 bales && known k session) _ y)

    module _ (none : joins ≤ 0) {t : Bool} (f : t ≡ named_twice buyers) where
      pub in-22 : t ≡ true → 22 ≡ turned_down
      unfolding refusal_n
      in-22 w = left (not ((known 65535 bales && known k session) && all buyers (known m))) 9 (sym (ap not e) ∙ q) (left (ltb 0 joins) 16 (le-ltb 0 joins none) (taken (named_twice buyers) 22 _ (sym f ∙ w)))

      module _ (once : t ≡ false) {u : Bool} (g : u ≡ (leb lot_room lots || ltb mark_room (marks + length buyers))) where
        pub in-23 : u ≡ true → 23 ≡ turned_down
        unfolding refusal_n
        in-23 w = left (not ((known 65535 bales && known k session) && all buyers (known m))) 9 (sym (ap not e) ∙ q) (left (ltb 0 joins) 16 (le-ltb 0 joins none) (left (named_twice buyers) 22 (sym f ∙ once)
            (taken (leb lot_room lots || ltb mark_room (marks + length buyers)) 23 _ (sym g ∙ w))))

        module _ (room : u ≡ false) {x : Bool} (i : x ≡ leb (get_or loads (session - 1) 0 + bales) (get_or ceilings (session - 1) 0)) where
          pub in-last : (z : ℕ) → z ≡ cond (not x) 14 0 → z ≡ turned_down
          unfolding refusal_n
          in-last z w = left (not ((known 65535 bales && known k session) && all buyers (known m))) 9 (sym (ap not e) ∙ q) (left (ltb 0 joins) 16 (le-ltb 0 joins none) (left (named_twice buyers) 22 (sym f ∙ once)
              (left (leb lot_room lots || ltb mark_room (marks + length buyers)) 23 (sym g ∙ room) (w ∙ ap (λ (b : Bool). cond (not b) 14 0) i))))
