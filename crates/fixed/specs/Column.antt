-- The marks made from the column that loading writes: entry by entry, and what they are in the end. Rests on Starting and on guarantees' Fixed.
-- Assumes nothing.
use Rattle.std.specs.Prelude.{ℕ, ◌+◌, ◌<◌, ◌≤◌, ◌≡◌, refl, Bool, ◌||◌, List, eqb, length, get_or, replicate}
use Rattle.std.proofs.Math.Decide.{ℕ_discrete}
use Rattle.std.proofs.Common.{arith, sym, ap, ap₂, ◌∙◌, eq-eqb, ne_eqb}
use Rattle.std.proofs.Math.Bool.{or-true, or-false}
use Rattle.std.proofs.lemmas.List.{length-replicate}
use Rattle.guarantees.specs.Fixed.{fixed-none}
use Rattle.incidence.specs.On.{on, on-blank, Changed}
use Rattle.fixed.specs.Starting.{Entered, FixedMarked}

-- ---- one entry
pub entered-yes : {l l' : List ℕ} (x entry : ℕ) → entry ≡ 1 → Changed l l' 1 x 1 → Entered l x entry l'
entered-yes {l} x entry e c = record {
  len = c.len;
  here = ap (λ (z : ℕ). eqb z 1) c.here ∙ sym (or-true (eqb (on l 1 x) 1)) ∙ sym (ap (λ (b : Bool). eqb (on l 1 x) 1 || b) (eq-eqb entry 1 e));
  elsewhere = c.elsewhere;
}

pub entered-no : (l : List ℕ) (x entry : ℕ) → (entry ≡ 1 → ⊥) → Entered l x entry l
entered-no l x entry n = record {
  len = refl;
  here = sym (or-false (eqb (on l 1 x) 1)) ∙ sym (ap (λ (b : Bool). eqb (on l 1 x) 1 || b) (ne_eqb entry 1 n));
  elsewhere = λ r y k q. refl;
}

-- ---- entry by entry

-- the first i entries are marked, and nothing else is
pub record MarkedTo (column : List ℕ) (i : ℕ) (marks : List ℕ) : Type 0 where
  pub len : length marks ≡ 48
  pub done : (x : ℕ) → x < i → x < 1024 → eqb (on marks 1 x) 1 ≡ eqb (get_or column x 0) 1
  pub rest : (x : ℕ) → i ≤ x → x < 1024 → on marks 1 x ≡ 0
  pub no-candidate : (x : ℕ) → x < 1024 → on marks 0 x ≡ 0
  pub no-net : (e : ℕ) → e < 1024 → on marks 2 e ≡ 0

pub marked-none : (column : List ℕ) → MarkedTo column 0 (replicate 48 0)
marked-none column = record {
  len = length-replicate {A = ℕ} 48 0;
  done = λ x l k. absurd (omega arith);
  rest = λ x l k. on-blank 48 1 x;
  no-candidate = λ x k. on-blank 48 0 x;
  no-net = λ e k. on-blank 48 2 e;
}

pub marked_more : {column l l' : List ℕ} (i entry : ℕ) → i < 1024 → entry ≡ get_or column i 0 → MarkedTo column i l → Entered l i entry l' → MarkedTo column (i + 1) l'
marked_more {column} {l} {l'} i entry small e m n = record {
  len = n.len ∙ m.len;
  done = λ x h k. go x h k (ℕ_discrete x i);
  rest = λ x h k. n.elsewhere 1 x k (λ _ q. omega arith) ∙ m.rest x (omega arith) k;
  no-candidate = λ x k. n.elsewhere 0 x k (λ q _. omega arith) ∙ m.no-candidate x k;
  no-net = λ f k. n.elsewhere 2 f k (λ q _. omega arith) ∙ m.no-net f k;
}
  where
    go : (x : ℕ) → x < i + 1 → x < 1024 → Dec (x ≡ i) → eqb (on l' 1 x) 1 ≡ eqb (get_or column x 0) 1
    go x h k (yes q) =
        ap (λ (y : ℕ). eqb (on l' 1 y) 1) q
        ∙ n.here
        ∙ ap₂ (λ (a z : ℕ). eqb a 1 || eqb z 1) (m.rest i (omega arith) small) e
        ∙ ap (λ (y : ℕ). eqb (get_or column y 0) 1) (sym q)
    go x h k (no q) = ap (λ (z : ℕ). eqb z 1) (n.elsewhere 1 x k (λ _ r. q r)) ∙ m.done x (omega arith) k

pub marked_all : {column marks : List ℕ} (n : ℕ) → n ≤ 1024 → MarkedTo column n marks → FixedMarked column n marks
marked_all {column} {marks} n few m = record {
  is = λ h all same. record {
    len = m.len;
    fixed = λ x l.
        m.done x (omega arith) (omega arith)
        ∙ ap (λ (z : ℕ). eqb z 1) (same x (omega arith))
        ∙ sym (fixed-none h (x + 1) (omega arith) (omega arith));
    no-candidate = m.no-candidate;
    no-net = m.no-net;
  };
}
