-- The blocks by which vertices are paired: those of the tables, but that a fixed vertex has one of its own, above all others, where it has no
-- partner. How they are made of the marks that say who is fixed, and that a contraction changes them for the vertex that goes only.
-- Rests on operations's Sound and guarantees' Fixed. Assumes nothing.
use Rattle.std.specs.Prelude.{ℕ, ◌+◌, ◌-◌, ◌<◌, ◌≤◌, ◌≡◌, Bool, false, cond, List, ◌∷◌, eqb, length, get_or, set, replicate}
use Rattle.std.proofs.Math.Decide.{ℕ_discrete}
use Rattle.std.proofs.Common.{arith, sym, ap, ap₂, ◌∙◌, length-set, get_or-set_same, get_or-set_other}
use Rattle.std.proofs.lemmas.List.{length-replicate}
use Rattle.laws.specs.Place.{place, place_at, place-off}
use Rattle.model.specs.Catalogue.{Hypergraph, vertices}
use Rattle.model.specs.Measure.{Contraction, is_fixed}
use Rattle.guarantees.specs.Fixed.{fixed-join}
use Rattle.incidence.specs.On.{on}
use Rattle.fixed.specs.Starting.{FixedIs}
use Rattle.operations.specs.Tables.{Tables, Sound}
use Rattle.operations.specs.Move.{back, own_block}

pub record OwnBlocks (fixed : ℕ → Bool) (blocks : List ℕ) (n : ℕ) (own : List ℕ) : Type 0 where
  pub len : length own ≡ 1024
  pub entry : (y : ℕ) → y < n → get_or own y 0 ≡ cond (fixed y) (y + 17) (get_or blocks y 0)

-- ---- made entry by entry
pub own-none : (fixed : ℕ → Bool) (blocks : List ℕ) → OwnBlocks fixed blocks 0 (replicate 1024 0)
own-none fixed blocks = record { len = length-replicate {A = ℕ} 1024 0; entry = λ y l. absurd (omega arith) }

pub own-more : (fixed : ℕ → Bool) (blocks own : List ℕ) (i x : ℕ) (b : Bool) → i < 1024 → x ≡ cond b (i + 17) (get_or blocks i 0) → b ≡ fixed i → OwnBlocks fixed blocks i own → OwnBlocks fixed blocks (i + 1) (set own i x)
own-more fixed blocks own i x b l q is o = record { len = length-set own i x ∙ o.len; entry = λ y k. go y k (ℕ_discrete y i) }
  where
    go : (y : ℕ) → y < i + 1 → Dec (y ≡ i) → get_or (set own i x) y 0 ≡ cond (fixed y) (y + 17) (get_or blocks y 0)
    go y k (yes p) = rw p (get_or-set_same own i x 0 (omega (arith, o.len)) ∙ q ∙ ap (λ (t : Bool). cond t (i + 17) (get_or blocks i 0)) is)
    go y k (no p) = get_or-set_other own i y x 0 p ∙ o.entry y (omega arith)

pub own-all : {fixed : ℕ → Bool} {blocks own : List ℕ} (i n : ℕ) → n ≤ i → OwnBlocks fixed blocks i own → OwnBlocks fixed blocks n own
own-all i n l o = record { len = o.len; entry = λ y k. o.entry y (omega arith) }

-- ---- of a catalogue and its contractions
abbrev pub Own : Hypergraph → List Contraction → List ℕ → ℕ → List ℕ → Type 0
Own h cs blocks n own = OwnBlocks (λ y. is_fixed h cs (y + 1)) blocks n own

-- the marks say who is fixed
pub own_fixed : {h : Hypergraph} {cs : List Contraction} {marks blocks own : List ℕ} {n : ℕ} → FixedIs marks h cs → n ≡ vertices h → OwnBlocks (λ y. eqb (on marks 1 y) 1) blocks n own → Own h cs blocks n own
own_fixed {blocks = blocks} f q o = record { len = o.len; entry = λ y l. o.entry y l ∙ ap (λ (b : Bool). cond b (y + 17) (get_or blocks y 0)) (f.fixed y (omega arith)) }

-- the entry of a vertex, counted from 1
pub own_at : (h : Hypergraph) (cs : List Contraction) {blocks own : List ℕ} {n : ℕ} → Own h cs blocks n own → (v : ℕ) → 1 ≤ v → v ≤ n → {b : Bool} → is_fixed h cs v ≡ b → get_or own (v - 1) 0 ≡ cond b (v + 16) (get_or blocks (v - 1) 0)
own_at h cs {blocks} o v l u q =
    let up : v - 1 + 17 ≡ v + 16 = omega arith in
    o.entry (v - 1) (omega arith) ∙ ap₂ (λ (b : Bool) (x : ℕ). cond b x (get_or blocks (v - 1) 0)) (ap (is_fixed h cs) (back v l) ∙ q) up

-- after a contraction of vertices that are not fixed
pub own-join : {h : Hypergraph} {cs : List Contraction} {block : ℕ → ℕ} {T T' : Tables} {own : List ℕ} (c : Contraction) → 1 ≤ c.gone → c.gone ≤ T.n → T.n ≤ 1024 → T'.n ≡ T.n → is_fixed h cs c.gone ≡ false
    → Sound h cs block T → Sound h (c ∷ cs) (place block c.gone 0) T' → Own h cs T.blocks T.n own → Own h (c ∷ cs) T'.blocks T'.n (set own (c.gone - 1) 0)
own-join {h} {cs} {block} {T} {T'} {own} c l u few qn free s s' o = record { len = length-set own (c.gone - 1) 0 ∙ o.len; entry = λ y k. go y k (ℕ_discrete y (c.gone - 1)) }
  where
    fixed-is : (x : ℕ) → is_fixed h (c ∷ cs) x ≡ is_fixed h cs x
    fixed-is = fixed-join h cs c s'.follows.says.sound free

    go : (y : ℕ) → y < T'.n → Dec (y ≡ c.gone - 1) → get_or (set own (c.gone - 1) 0) y 0 ≡ cond (is_fixed h (c ∷ cs) (y + 1)) (y + 17) (get_or T'.blocks y 0)
    go y k (yes p) =
        let it : y + 1 ≡ c.gone = omega arith in
        ap (λ (z : ℕ). get_or (set own (c.gone - 1) 0) z 0) p
        ∙ get_or-set_same own (c.gone - 1) 0 0 (omega (arith, o.len))
        ∙ sym (
        ap (λ (b : Bool). cond b (y + 17) (get_or T'.blocks y 0)) (fixed-is (y + 1) ∙ ap (is_fixed h cs) it ∙ free)
        ∙ own_block s' y k ∙ ap (place block c.gone 0) it ∙ place_at block c.gone 0)
    go y k (no p) =
        let there : y < T.n = omega arith in
        get_or-set_other own (c.gone - 1) y 0 0 p
        ∙ o.entry y there
        ∙ ap₂ (λ (b : Bool) (x : ℕ). cond b (y + 17) x) (sym (fixed-is (y + 1))) (
        own_block s y there ∙ sym (own_block s' y k ∙ place-off block c.gone 0 (y + 1) (λ z. p (omega arith))))
