-- The lines with a fixed number of fields: which answer the tests give. Rests on Line of specs.
use Prim.Native.Nat.{ℕ}
use mathlib.Core.Path.{◌≡◌, refl, sym, ◌∙◌}
use mathlib.Core.List.{[], ◌∷◌}
use mathlib.Core.Bool.{Bool, true, false, not, ◌&&◌, ◌||◌, cond}
use Rattle.model.specs.Catalogue.{Limits}
use Rattle.model.specs.Machine.{call_j, call_s, call_m, call_b, call_w, call_p, call_a}
use Rattle.model.specs.Sale.{runs, call_x}
use Rattle.model.specs.ListEntry.{is_entry}
use Rattle.model.specs.Grammar.{Fields, bytes, reading, stopped, at, is_line_of, within, Asked, asks, nothing, asked, call_of, sale_line}
use Rattle.lines.specs.Line.{Named, is_late, late_asked, book}

-- the tests in turn, and what an N line asks or nothing
abbrev choose : Fields → Bool → Bool → Bool → Bool → Bool → Bool → Bool → Bool → Asked → Asked
choose fs j s m b w p a x r =
    cond j (asks (runs (call_j (at fs 1) (at fs 2))))
    (cond s (asks (runs call_s))
    (cond m (asks (runs (call_m (at fs 1) (at fs 2))))
    (cond b (asks (runs call_b))
    (cond w (asks (runs (call_w (at fs 1) (at fs 2))))
    (cond p (asks (runs call_p))
    (cond a (asks (runs call_a))
    (cond x (asks (call_x (at fs 1))) r)))))))

module _ (fs : Fields) (j s m b w p a x : Bool) (r : Asked) where
  chose-J : j ≡ true → choose fs j s m b w p a x r ≡ asks (runs (call_j (at fs 1) (at fs 2)))
  chose-J e = rw e

  module _ (ej : j ≡ false) where
    chose-S : s ≡ true → choose fs j s m b w p a x r ≡ asks (runs call_s)
    chose-S e = rw (ej, e)

    module _ (es : s ≡ false) where
      chose-M : m ≡ true → choose fs j s m b w p a x r ≡ asks (runs (call_m (at fs 1) (at fs 2)))
      chose-M e = rw (ej, es, e)

      module _ (em : m ≡ false) where
        chose-B : b ≡ true → choose fs j s m b w p a x r ≡ asks (runs call_b)
        chose-B e = rw (ej, es, em, e)

        module _ (eb : b ≡ false) where
          chose-W : w ≡ true → choose fs j s m b w p a x r ≡ asks (runs (call_w (at fs 1) (at fs 2)))
          chose-W e = rw (ej, es, em, eb, e)

          module _ (ew : w ≡ false) where
            chose-P : p ≡ true → choose fs j s m b w p a x r ≡ asks (runs call_p)
            chose-P e = rw (ej, es, em, eb, ew, e)

            module _ (ep : p ≡ false) where
              chose-A : a ≡ true → choose fs j s m b w p a x r ≡ asks (runs call_a)
              chose-A e = rw (ej, es, em, eb, ew, ep, e)

              module _ (ea : a ≡ false) where
                chose-X : x ≡ true → choose fs j s m b w p a x r ≡ asks (call_x (at fs 1))
                chose-X e = rw (ej, es, em, eb, ew, ep, ea, e)

                chose-rest : x ≡ false → choose fs j s m b w p a x r ≡ r
                chose-rest e = rw (ej, es, em, eb, ew, ep, ea, e)

chosen : (fs : Fields) → asked fs ≡ choose fs (is_line_of "J" 2 fs) (is_line_of "S" 0 fs) (is_line_of "M" 2 fs) (is_line_of "B" 0 fs) (is_line_of "W" 2 fs) (is_line_of "P" 0 fs) (is_line_of "A" 0 fs) (is_line_of "X" 1 fs) (cond (is_late fs) (late_asked fs) nothing)
unfolding asked
chosen fs = refl

module _ (fs : Fields) where
  pub asked-J : (x y : ℕ) → x ≡ at fs 1 → y ≡ at fs 2 → is_line_of "J" 2 fs ≡ true → Named fs 74 x y
  unfolding call_of is_entry
  asked-J x y p q e = record { call = runs (call_j (at fs 1) (at fs 2)); is = λ o. rw (p, q); says = chosen fs ∙ chose-J fs (is_line_of "J" 2 fs) (is_line_of "S" 0 fs) (is_line_of "M" 2 fs) (is_line_of "B" 0 fs) (is_line_of "W" 2 fs) (is_line_of "P" 0 fs) (is_line_of "A" 0 fs) (is_line_of "X" 1 fs) (cond (is_late fs) (late_asked fs) nothing) e; entry = λ n. refl }

  module _ (ej : is_line_of "J" 2 fs ≡ false) where
    pub asked-S : is_line_of "S" 0 fs ≡ true → Named fs 83 0 0
    unfolding call_of is_entry
    asked-S e = record { call = runs call_s; is = λ o. refl; says = chosen fs ∙ chose-S fs (is_line_of "J" 2 fs) (is_line_of "S" 0 fs) (is_line_of "M" 2 fs) (is_line_of "B" 0 fs) (is_line_of "W" 2 fs) (is_line_of "P" 0 fs) (is_line_of "A" 0 fs) (is_line_of "X" 1 fs) (cond (is_late fs) (late_asked fs) nothing) ej e; entry = λ n. refl }

    module _ (es : is_line_of "S" 0 fs ≡ false) where
      pub asked-M : (x y : ℕ) → x ≡ at fs 1 → y ≡ at fs 2 → is_line_of "M" 2 fs ≡ true → Named fs 77 x y
      unfolding call_of is_entry
      asked-M x y p q e = record { call = runs (call_m (at fs 1) (at fs 2)); is = λ o. rw (p, q); says = chosen fs ∙ chose-M fs (is_line_of "J" 2 fs) (is_line_of "S" 0 fs) (is_line_of "M" 2 fs) (is_line_of "B" 0 fs) (is_line_of "W" 2 fs) (is_line_of "P" 0 fs) (is_line_of "A" 0 fs) (is_line_of "X" 1 fs) (cond (is_late fs) (late_asked fs) nothing) ej es e; entry = λ n. refl }

      module _ (em : is_line_of "M" 2 fs ≡ false) where
        pub asked-B : is_line_of "B" 0 fs ≡ true → Named fs 66 0 0
        unfolding call_of is_entry
        asked-B e = record { call = runs call_b; is = λ o. refl; says = chosen fs ∙ chose-B fs (is_line_of "J" 2 fs) (is_line_of "S" 0 fs) (is_line_of "M" 2 fs) (is_line_of "B" 0 fs) (is_line_of "W" 2 fs) (is_line_of "P" 0 fs) (is_line_of "A" 0 fs) (is_line_of "X" 1 fs) (cond (is_late fs) (late_asked fs) nothing) ej es em e; entry = λ n. refl }

        module _ (eb : is_line_of "B" 0 fs ≡ false) where
          pub asked-W : (x y : ℕ) → x ≡ at fs 1 → y ≡ at fs 2 → is_line_of "W" 2 fs ≡ true → Named fs 87 x y
          unfolding call_of is_entry
          asked-W x y p q e = record { call = runs (call_w (at fs 1) (at fs 2)); is = λ o. rw (p, q); says = chosen fs ∙ chose-W fs (is_line_of "J" 2 fs) (is_line_of "S" 0 fs) (is_line_of "M" 2 fs) (is_line_of "B" 0 fs) (is_line_of "W" 2 fs) (is_line_of "P" 0 fs) (is_line_of "A" 0 fs) (is_line_of "X" 1 fs) (cond (is_late fs) (late_asked fs) nothing) ej es em eb e; entry = λ n. refl }

          module _ (ew : is_line_of "W" 2 fs ≡ false) where
            pub asked-P : is_line_of "P" 0 fs ≡ true → Named fs 80 0 0
            unfolding call_of is_entry
            asked-P e = record { call = runs call_p; is = λ o. refl; says = chosen fs ∙ chose-P fs (is_line_of "J" 2 fs) (is_line_of "S" 0 fs) (is_line_of "M" 2 fs) (is_line_of "B" 0 fs) (is_line_of "W" 2 fs) (is_line_of "P" 0 fs) (is_line_of "A" 0 fs) (is_line_of "X" 1 fs) (cond (is_late fs) (late_asked fs) nothing) ej es em eb ew e; entry = λ n. refl }

            module _ (ep : is_line_of "P" 0 fs ≡ false) where
              pub asked-A : is_line_of "A" 0 fs ≡ true → Named fs 65 0 0
              unfolding call_of is_entry
              asked-A e = record { call = runs call_a; is = λ o. refl; says = chosen fs ∙ chose-A fs (is_line_of "J" 2 fs) (is_line_of "S" 0 fs) (is_line_of "M" 2 fs) (is_line_of "B" 0 fs) (is_line_of "W" 2 fs) (is_line_of "P" 0 fs) (is_line_of "A" 0 fs) (is_line_of "X" 1 fs) (cond (is_late fs) (late_asked fs) nothing) ej es em eb ew ep e; entry = λ n. refl }

              module _ (ea : is_line_of "A" 0 fs ≡ false) where
                pub asked-X : (x : ℕ) → x ≡ at fs 1 → is_line_of "X" 1 fs ≡ true → Named fs 88 x 0
                unfolding call_of is_entry
                asked-X x p e = record { call = call_x (at fs 1); is = λ o. rw p; says = chosen fs ∙ chose-X fs (is_line_of "J" 2 fs) (is_line_of "S" 0 fs) (is_line_of "M" 2 fs) (is_line_of "B" 0 fs) (is_line_of "W" 2 fs) (is_line_of "P" 0 fs) (is_line_of "A" 0 fs) (is_line_of "X" 1 fs) (cond (is_late fs) (late_asked fs) nothing) ej es em eb ew ep ea e; entry = λ n. refl }

                pub asked-rest : is_line_of "X" 1 fs ≡ false → asked fs ≡ cond (is_late fs) (late_asked fs) nothing
                asked-rest e = chosen fs ∙ chose-rest fs (is_line_of "J" 2 fs) (is_line_of "S" 0 fs) (is_line_of "M" 2 fs) (is_line_of "B" 0 fs) (is_line_of "W" 2 fs) (is_line_of "P" 0 fs) (is_line_of "A" 0 fs) (is_line_of "X" 1 fs) (cond (is_late fs) (late_asked fs) nothing) ej es em eb ew ep ea e

-- ---- SALE, EST
module _ (limits : Limits) (n : ℕ) (fs : Fields) where
  sale-is : (f r : Bool) → (is_line_of "SALE" 4 fs || is_line_of "EST" 4 fs) ≡ f → (within 1 limits.vertex_limit (at fs 1) && within 0 limits.net_limit (at fs 2) && within 2 limits.block_limit (at fs 3) && within 0 1000 (at fs 4)) ≡ r
      → sale_line limits n fs ≡ cond (not f) (stopped 2 n) (cond (not r) (stopped 3 n) (reading (book (is_line_of "EST" 4 fs) (at fs 1) (at fs 2) (record { blocks = at fs 3; imbalance = at fs 4; total_weight = 0; lows = []; weights = []; draft = []; fixed = []; nets = [] }) 0 [])))
  unfolding sale_line
  sale-is f r p q = rw (← p, ← q)

  pub sale-form : is_line_of "SALE" 4 fs ≡ false → is_line_of "EST" 4 fs ≡ false → stopped 2 n ≡ sale_line limits n fs
  sale-form p q = sym (sale-is false _ (neither (is_line_of "SALE" 4 fs) (is_line_of "EST" 4 fs) p q) refl)
    where
      neither : (x y : Bool) → x ≡ false → y ≡ false → (x || y) ≡ false
      neither x y p q = rw (p, q)

  module _ (is : (is_line_of "SALE" 4 fs || is_line_of "EST" 4 fs) ≡ true) (l b k t : ℕ) (el : l ≡ at fs 1) (eb : b ≡ at fs 2) (ek : k ≡ at fs 3) (et : t ≡ at fs 4) where
    ranges : (within 1 limits.vertex_limit l && within 0 limits.net_limit b && within 2 limits.block_limit k && within 0 1000 t) ≡ false → stopped 3 n ≡ sale_line limits n fs
    ranges e = sym (sale-is true false is (rw (← el, ← eb, ← ek, ← et) e))

    pub sale-1 : within 1 limits.vertex_limit l ≡ false → stopped 3 n ≡ sale_line limits n fs
    sale-1 e = ranges (and3 _ _ _ _ e)
      where
        and3 : (x y z u : Bool) → x ≡ false → (x && y && z && u) ≡ false
        and3 x y z u e = rw e

    module _ (e1 : within 1 limits.vertex_limit l ≡ true) where
      pub sale-2 : within 0 limits.net_limit b ≡ false → stopped 3 n ≡ sale_line limits n fs
      sale-2 e = ranges (and3 _ _ _ _ e1 e)
        where
          and3 : (x y z u : Bool) → x ≡ true → y ≡ false → (x && y && z && u) ≡ false
          and3 x y z u d e = rw (d, e)

      module _ (e2 : within 0 limits.net_limit b ≡ true) where
        pub sale-3 : within 2 limits.block_limit k ≡ false → stopped 3 n ≡ sale_line limits n fs
        sale-3 e = ranges (and3 _ _ _ _ e1 e2 e)
          where
            and3 : (x y z u : Bool) → x ≡ true → y ≡ true → z ≡ false → (x && y && z && u) ≡ false
            and3 x y z u c d e = rw (c, d, e)

        module _ (e3 : within 2 limits.block_limit k ≡ true) where
          pub sale-4 : within 0 1000 t ≡ false → stopped 3 n ≡ sale_line limits n fs
          sale-4 e = ranges (and3 _ _ _ _ e1 e2 e3 e)
            where
              and3 : (x y z u : Bool) → x ≡ true → y ≡ true → z ≡ true → u ≡ false → (x && y && z && u) ≡ false
              and3 x y z u b c d e = rw (b, c, d, e)

          pub sale-read : (estimated : Bool) → is_line_of "EST" 4 fs ≡ estimated → within 0 1000 t ≡ true → reading (book estimated l b (record { blocks = k; imbalance = t; total_weight = 0; lows = []; weights = []; draft = []; fixed = []; nets = [] }) 0 []) ≡ sale_line limits n fs
          sale-read estimated kind e = rw (el, eb, ek, et, ← kind) (sym (sale-is true true is (rw (← el, ← eb, ← ek, ← et) (and3 _ _ _ _ e1 e2 e3 e))))
            where
              and3 : (x y z u : Bool) → x ≡ true → y ≡ true → z ≡ true → u ≡ true → (x && y && z && u) ≡ true
              and3 x y z u b c d e = rw (b, c, d, e)

-- ---- the words
pub word-J : bytes "J" ≡ 74 ∷ []
unfolding bytes
word-J = refl

pub word-S : bytes "S" ≡ 83 ∷ []
unfolding bytes
word-S = refl

pub word-M : bytes "M" ≡ 77 ∷ []
unfolding bytes
word-M = refl

pub word-B : bytes "B" ≡ 66 ∷ []
unfolding bytes
word-B = refl

pub word-W : bytes "W" ≡ 87 ∷ []
unfolding bytes
word-W = refl

pub word-P : bytes "P" ≡ 80 ∷ []
unfolding bytes
word-P = refl

pub word-A : bytes "A" ≡ 65 ∷ []
unfolding bytes
word-A = refl

pub word-X : bytes "X" ≡ 88 ∷ []
unfolding bytes
word-X = refl

pub word-N : bytes "N" ≡ 78 ∷ []
unfolding bytes
word-N = refl

pub word-SALE : bytes "SALE" ≡ 83 ∷ 65 ∷ 76 ∷ 69 ∷ []
unfolding bytes
word-SALE = refl

pub word-EST : bytes "EST" ≡ 69 ∷ 83 ∷ 84 ∷ []
unfolding bytes
word-EST = refl

pub word-LOT : bytes "LOT" ≡ 76 ∷ 79 ∷ 84 ∷ []
unfolding bytes
word-LOT = refl

pub word-BUY : bytes "BUY" ≡ 66 ∷ 85 ∷ 89 ∷ []
unfolding bytes
word-BUY = refl
